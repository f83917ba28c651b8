-- Where the field of a number stands among fields, or would stand.
use Rattle.std.specs.Prelude.{◌≡◌, ℕ, ◌<◌, ◌≤◌, List, Some, length, slice_get, slice_set}
use Rattle.std.specs.List.{insert, remove}
use Rattle.tc_schema_model.specs.Counted.{Counted, nothing, field_at}
use Rattle.tc_schema_model.specs.Added.{put_field, without_field}
use Rattle.tc_schema.specs.Places.{listed}

-- it stands there, and what is written there or taken out there is that field
pub record IsPlaceOf (n : ℕ) (fs : List (ℕ × Counted)) (i : ℕ) : Type 0 where
  pub inside : i < length fs
  pub here : slice_get fs i ≡ Some (n, field_at n (listed fs))
  pub written : (d : Counted) → listed (slice_set fs i (n, d)) ≡ put_field n d (listed fs)
  pub taken : listed (remove fs i) ≡ without_field n (listed fs)

-- there is none, and one that is put in there is that field
pub record IsGapFor (n : ℕ) (fs : List (ℕ × Counted)) (i : ℕ) : Type 0 where
  pub inside : i ≤ length fs
  pub none : field_at n (listed fs) ≡ nothing
  pub filled : (d : Counted) → listed (insert fs i (n, d)) ≡ put_field n d (listed fs)
