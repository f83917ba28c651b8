use Rattle.std.proofs.Common.{sym, ◌∙◌, ap}
use Rattle.tc_schema.specs.Places.{listed}
use Rattle.tc_schema.specs.declared.place.Field.TheViews.{roll-Node, out-roll-Node}
use Rattle.tc_schema.proofs.PlaceViews.{place_parts}
use Rattle.tc_schema.proofs.place.+copy_place.Goals as goal

pub Node::copy-returns : goal.Node::copy-returns
Node::copy-returns t c =
    let made = roll-Node record { counts = c.copy.result; item = c.in_ok-copy_item.field-0; fields = c.in_ok-copy_fields.field-0 } in
    place_parts made ∙ rw (out-roll-Node, c.copy.ensures, c.in_ok-copy_item.ensures, ap listed c.in_ok-copy_fields.ensures, c.as_slice.ensures.value) (sym (place_parts c.args.self.now))
