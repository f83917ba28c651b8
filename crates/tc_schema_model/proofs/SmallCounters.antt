-- That counters have 64 bits, said of places and said of paths.
use Rattle.std.proofs.Common.{ℕ, ◌+◌, ◌<◌, ◌≤◌, ◌^◌, ◌==◌, nat_lt, Bool, true, false, List, [], ◌∷◌, Option, Some, None, length, bytes_eq, if◌then◌else◌, subst, arith}
use Rattle.std.specs.List.{IsDistinct}
use Rattle.tc_model.specs.Document.{Name}
use Rattle.tc_model.specs.Dictionary.{number_of}
use Rattle.tc_schema_model.specs.Occurrences.{field, each_item, Path}
use Rattle.tc_schema_model.specs.Counted.{Counted, counted, Below, no_item, an_item, Fields, no_fields, a_field, nothing, held, field_at, numbered_field, total_at, IsCanonical, IsBelowCanonical, AreFieldsCanonical, HasSmallCounters, BelowHasSmallCounters, FieldsHaveSmallCounters}
use Rattle.tc_schema_model.specs.SchemaText.{name_at}
use Rattle.tc_schema_model.proofs.CountingLaws.{at_first, after_first}
use Rattle.tc_schema_model.proofs.NumberLaws.{number_of_name_at}

-- ---- from paths

module _ (names : List Name) (distinct : IsDistinct bytes_eq names) where
  mutual
    pub small_from_paths : (d : Counted) → IsCanonical (length names) d → ((path : Path) → total_at names d path < 2 ^ 64) → HasSmallCounters d
    small_from_paths (counted c b fs) canonical fits = (
      fits [],
      below_from_paths b canonical.2 (λ path. fits (each_item ∷ path)),
      fields_from_paths 0 fs canonical.3 (λ n least below path.
          subst (λ o. total_at names (numbered_field o fs) path < 2 ^ 64) (number_of_name_at names n distinct below) (fits (field (name_at names n) ∷ path))),
    )

    below_from_paths : (b : Below) → IsBelowCanonical (length names) b → ((path : Path) → total_at names (held b) path < 2 ^ 64) → BelowHasSmallCounters b
    below_from_paths no_item canonical fits = tt
    below_from_paths (an_item d) canonical fits = small_from_paths d canonical.1 fits

    fields_from_paths : (low : ℕ) (fs : Fields) → AreFieldsCanonical (length names) low fs → ((n : ℕ) → low ≤ n → n < length names → (path : Path) → total_at names (field_at n fs) path < 2 ^ 64) → FieldsHaveSmallCounters fs
    fields_from_paths low no_fields canonical fits = tt
    fields_from_paths low (a_field n d fs) canonical fits = (
      small_from_paths d canonical.3 (λ path. subst (λ e. total_at names e path < 2 ^ 64) (at_first n d fs) (fits n canonical.0 canonical.1 path)),
      fields_from_paths (n + 1) fs canonical.4 (λ k least below path. subst (λ e. total_at names e path < 2 ^ 64) (after_first k n d fs (omega arith)) (fits k (omega (arith, canonical.0)) below path)),
    )

-- ---- at paths

nothing_small : HasSmallCounters nothing
nothing_small = (omega arith, tt, tt)

held_small : (b : Below) → BelowHasSmallCounters b → HasSmallCounters (held b)
held_small no_item small = nothing_small
held_small (an_item d) small = small

field_small : (n : ℕ) (fs : Fields) → FieldsHaveSmallCounters fs → HasSmallCounters (field_at n fs)
field_small n no_fields small = nothing_small
field_small n (a_field m d fs) small = by_tests (nat_lt n m) (m == n) (field_small n fs small.1)
  where
    by_tests : (before here : Bool) → HasSmallCounters (field_at n fs) → HasSmallCounters (if before then nothing else (if here then d else field_at n fs))
    by_tests true here rest = nothing_small
    by_tests false true rest = small.0
    by_tests false false rest = rest

numbered_small : (o : Option ℕ) (fs : Fields) → FieldsHaveSmallCounters fs → HasSmallCounters (numbered_field o fs)
numbered_small None fs small = nothing_small
numbered_small (Some n) fs small = field_small n fs small

pub small_at_paths : (names : List Name) (d : Counted) → HasSmallCounters d → (path : Path) → total_at names d path < 2 ^ 64
small_at_paths names (counted c b fs) small [] = small.0
small_at_paths names (counted c b fs) small (each_item ∷ path) = small_at_paths names (held b) (held_small b small.1) path
small_at_paths names (counted c b fs) small (field name ∷ path) = small_at_paths names (numbered_field (number_of names name) fs) (numbered_small (number_of names name) fs small.2) path
