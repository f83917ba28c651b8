-- How many places of a schema stand one within another, and how many do so in a schema of documents.
use Rattle.std.specs.Prelude.{ℕ, ◌+◌, ◌≤◌, max}
use Rattle.tc_model.specs.Limits.{max_depth}
use Rattle.tc_schema_model.specs.Counted.{Counted, counted, Below, no_item, an_item, Fields, no_fields, a_field}

-- a place and the most that stand within it: a union is one place, and so are items, and the members of a name
abbrev mutual
  pub levels_of : Counted → ℕ
  levels_of (counted c b fs) = 1 + max (levels_of_item b) (levels_of_fields fs)

  pub levels_of_item : Below → ℕ
  levels_of_item no_item = 0
  levels_of_item (an_item d) = levels_of d

  pub levels_of_fields : Fields → ℕ
  levels_of_fields no_fields = 0
  levels_of_fields (a_field n d fs) = max (levels_of d) (levels_of_fields fs)

-- A document nests arrays and objects no deeper than its own bound. What the innermost of them holds is one place more.
abbrev pub max_levels : ℕ
max_levels = max_depth + 1

abbrev pub IsShallow : Counted → Type 0
IsShallow d = levels_of d ≤ max_levels
