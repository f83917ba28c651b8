-- What the places of the code count.
use Rattle.std.specs.Prelude.{ℕ, List, [], ◌∷◌, Option, Some, None, map}
use Rattle.std.specs.declared.alloc.Global.{Global}
use Rattle.std.specs.declared.boxed.Box.{Box}
use Rattle.tc_schema_model.specs.Counted.{Counted, counted, Below, no_item, an_item, Fields, no_fields, a_field}
use Rattle.tc_schema.specs.declared.place.Node.{Node}
use Rattle.tc_schema.specs.declared.place.Field.{Field}
use Rattle.tc_schema.specs.declared.place.Field.TheOpen.{Field-F, Node-F}
use Rattle.tc_schema.specs.declared.place.Field.TheFolds.{fold-Node, fold-Field}

-- a dictionary has at most so many names
abbrev pub most_names : ℕ
most_names = 4294967295

-- fields as a list of numbers and places
abbrev pub listed : List (ℕ × Counted) → Fields
listed [] = no_fields
listed (f ∷ fs) = a_field f.0 f.1 (listed fs)

-- one level, where each place inside is already seen as what it counts
abbrev pub below_step : Option (Box Counted Global) → Below
below_step None = no_item
below_step (Some b) = an_item b.value

abbrev pub field_step : Field-F (ℕ × Counted) Counted → ℕ × Counted
field_step f = (f.number, f.node.value)

abbrev pub place_step : Node-F (ℕ × Counted) Counted → Counted
place_step p = counted p.counts (below_step p.item) (listed p.fields.items)

-- a place and a field
abbrev pub place_counted : Node → Counted
place_counted = fold-Node (ℕ × Counted) Counted field_step place_step

abbrev pub field_counted : Field → ℕ × Counted
field_counted = fold-Field (ℕ × Counted) Counted field_step place_step

-- the items of a place, and its fields
abbrev pub below_counted : Option (Box Node Global) → Below
below_counted None = no_item
below_counted (Some b) = an_item (place_counted b.value)

abbrev pub fields_counted : List Field → Fields
fields_counted fs = listed (map field_counted fs)
