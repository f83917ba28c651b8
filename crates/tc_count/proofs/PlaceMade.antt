-- What a place counts that is made of its parts.
use Rattle.std.proofs.Common.{◌≡◌, Option, refl, ◌∙◌}
use Rattle.std.specs.declared.alloc.Global.{Global}
use Rattle.std.specs.declared.boxed.Box.{Box}
use Rattle.tc_schema_model.specs.Counted.{Counters, counted}
use Rattle.tc_schema.specs.Places.{place_counted, below_counted, fields_counted}
use Rattle.tc_schema.specs.declared.place.Node.{Node}
use Rattle.tc_schema.specs.declared.place.Field.{Field}
use Rattle.tc_schema.specs.declared.place.Field.TheViews.{roll-Node, out-roll-Node}
use Rattle.tc_schema.proofs.PlaceViews.{place_parts}
use Rattle.std.specs.declared.vec.Vec.{Vec}

pub place_made : (c : Counters) (item : Option (Box Node Global)) (fields : Vec Field Global) → place_counted (roll-Node record { counts = c; item = item; fields = fields }) ≡ counted c (below_counted item) (fields_counted fields.items)
place_made c item fields = place_parts (roll-Node record { counts = c; item = item; fields = fields }) ∙ rw (out-roll-Node) refl
