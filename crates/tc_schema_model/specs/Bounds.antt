-- The greatest count of a place, and whether all numbers of fields are below a limit.
use Rattle.std.specs.Prelude.{ℕ, nat_lt, ◌&&◌, Bool, true, max}
use Rattle.tc_schema_model.specs.Counted.{Counted, counted, Below, no_item, an_item, Fields, no_fields, a_field, total}

-- the most values that any one place counts
abbrev mutual
  pub greatest_total : Counted → ℕ
  greatest_total (counted c b fs) = max (total c) (max (greatest_below b) (greatest_of_fields fs))

  pub greatest_below : Below → ℕ
  greatest_below no_item = 0
  greatest_below (an_item d) = greatest_total d

  pub greatest_of_fields : Fields → ℕ
  greatest_of_fields no_fields = 0
  greatest_of_fields (a_field n d fs) = max (greatest_total d) (greatest_of_fields fs)

-- each field, at every place, has a number below the limit
abbrev mutual
  pub has_numbers_below : ℕ → Counted → Bool
  has_numbers_below limit (counted c b fs) = below_has_numbers_below limit b && fields_have_numbers_below limit fs

  pub below_has_numbers_below : ℕ → Below → Bool
  below_has_numbers_below limit no_item = true
  below_has_numbers_below limit (an_item d) = has_numbers_below limit d

  pub fields_have_numbers_below : ℕ → Fields → Bool
  fields_have_numbers_below limit no_fields = true
  fields_have_numbers_below limit (a_field n d fs) = (nat_lt n limit && has_numbers_below limit d) && fields_have_numbers_below limit fs
