-- The first fields of two lists that ascend by number, which are walked at once.
use Rattle.std.specs.Prelude.{ℕ, ◌==◌, Option, Some, None, min, if◌then◌else◌}
use Rattle.tc_schema_model.specs.Counted.{Counted, nothing, Fields, no_fields, a_field}

-- the number of the first field
abbrev pub front_of : Fields → Option ℕ
front_of no_fields = None
front_of (a_field n d fs) = Some n

-- the lesser of two numbers, or the one that there is
abbrev pub lesser : Option ℕ → Option ℕ → Option ℕ
lesser None o = o
lesser (Some n) None = Some n
lesser (Some n) (Some m) = Some (min n m)

-- the place of the first field if it has this number, and the fields after it
abbrev pub place_in_front : ℕ → Fields → Counted
place_in_front n no_fields = nothing
place_in_front n (a_field m d fs) = if m == n then d else nothing

abbrev pub after_front : ℕ → Fields → Fields
after_front n no_fields = no_fields
after_front n (a_field m d fs) = if m == n then fs else a_field m d fs
