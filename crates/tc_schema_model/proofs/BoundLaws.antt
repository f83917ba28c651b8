-- No place counts more than the greatest count, and the numbers of fields are below a limit exactly where the one form is
-- kept below that limit.
use Rattle.std.proofs.Common.{◌≡◌, ℕ, ◌+◌, ◌≤◌, ◌==◌, Bool, true, false, nat_lt, max, List, [], ◌∷◌, Option, Some, None, if◌then◌else◌, refl, arith}
use Rattle.std.proofs.lemmas.Bool.{and_parts, and_from, ltb-true, lt-ltb}
use Rattle.tc_model.specs.Document.{Name}
use Rattle.tc_model.specs.Dictionary.{number_of}
use Rattle.tc_schema_model.specs.Occurrences.{field, each_item, Path}
use Rattle.tc_schema_model.specs.Counted.{Counted, counted, Below, no_item, an_item, Fields, no_fields, a_field, nothing, held, field_at, numbered_field, total_at, IsCanonical, IsBelowCanonical, AreFieldsCanonical}
use Rattle.tc_schema_model.specs.Bounds.{greatest_total, greatest_below, greatest_of_fields, has_numbers_below, below_has_numbers_below, fields_have_numbers_below}

-- ---- the greatest count

held_bound : (b : Below) → greatest_total (held b) ≤ greatest_below b
held_bound no_item = omega arith
held_bound (an_item d) = omega arith

field_bound : (n : ℕ) (fs : Fields) → greatest_total (field_at n fs) ≤ greatest_of_fields fs
field_bound n no_fields = omega arith
field_bound n (a_field m d fs) = choose (nat_lt n m) (m == n) d (field_at n fs) (greatest_of_fields fs) (field_bound n fs)
  where
    choose : (less equal : Bool) (d later : Counted) (most : ℕ) → greatest_total later ≤ most → greatest_total (if less then nothing else (if equal then d else later)) ≤ max (greatest_total d) most
    choose true equal d later most bound = omega arith
    choose false true d later most bound = omega arith
    choose false false d later most bound = omega (arith, bound)

numbered_bound : (o : Option ℕ) (fs : Fields) → greatest_total (numbered_field o fs) ≤ greatest_of_fields fs
numbered_bound None fs = omega arith
numbered_bound (Some n) fs = field_bound n fs

pub total_bound : (names : List Name) (d : Counted) (path : Path) → total_at names d path ≤ greatest_total d
total_bound names (counted c b fs) [] = omega arith
total_bound names (counted c b fs) (each_item ∷ path) = omega (arith, total_bound names (held b) path, held_bound b)
total_bound names (counted c b fs) (field name ∷ path) = omega (arith, total_bound names (numbered_field (number_of names name) fs) path, numbered_bound (number_of names name) fs)

-- ---- a limit of numbers

mutual
  pub canonical_within : (limit other : ℕ) (d : Counted) → IsCanonical other d → has_numbers_below limit d ≡ true → IsCanonical limit d
  canonical_within limit other (counted c b fs) canonical below =
      let parts = and_parts _ _ below in (canonical.0, canonical.1, below_within limit other b canonical.2 parts.0, fields_within limit other 0 fs canonical.3 parts.1)

  below_within : (limit other : ℕ) (b : Below) → IsBelowCanonical other b → below_has_numbers_below limit b ≡ true → IsBelowCanonical limit b
  below_within limit other no_item canonical below = tt
  below_within limit other (an_item d) canonical below = (canonical.0, canonical_within limit other d canonical.1 below)

  fields_within : (limit other low : ℕ) (fs : Fields) → AreFieldsCanonical other low fs → fields_have_numbers_below limit fs ≡ true → AreFieldsCanonical limit low fs
  fields_within limit other low no_fields canonical below = tt
  fields_within limit other low (a_field n d fs) canonical below =
      let parts = and_parts _ _ below in
      let here = and_parts _ _ parts.0 in
      (canonical.0, ltb-true n limit here.0, canonical.2, canonical_within limit other d canonical.3 here.1, fields_within limit other (n + 1) fs canonical.4 parts.1)

mutual
  pub numbers_within : (limit : ℕ) (d : Counted) → IsCanonical limit d → has_numbers_below limit d ≡ true
  numbers_within limit (counted c b fs) canonical = and_from _ _ (below_numbers_within limit b canonical.2) (fields_numbers_within limit 0 fs canonical.3)

  below_numbers_within : (limit : ℕ) (b : Below) → IsBelowCanonical limit b → below_has_numbers_below limit b ≡ true
  below_numbers_within limit no_item canonical = refl
  below_numbers_within limit (an_item d) canonical = numbers_within limit d canonical.1

  fields_numbers_within : (limit low : ℕ) (fs : Fields) → AreFieldsCanonical limit low fs → fields_have_numbers_below limit fs ≡ true
  fields_numbers_within limit low no_fields canonical = refl
  fields_numbers_within limit low (a_field n d fs) canonical =
      and_from _ _ (and_from _ _ (lt-ltb n limit canonical.1) (numbers_within limit d canonical.3)) (fields_numbers_within limit (n + 1) fs canonical.4)
