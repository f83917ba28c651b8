use Rattle.tc_schema.proofs.PlaceViews.{place_parts}
use Rattle.tc_schema.proofs.paths.inside.Goals as goal

pub returns-in-Field-clause-there : goal.returns-in-Field-clause-there
returns-in-Field-clause-there c = rw (c.in-Field.is, place_parts, ← c.as_slice.ensures.value, ← c.as_str.ensures.bytes) c.field_named.ensures.there

pub returns-in-Field-clause-none : goal.returns-in-Field-clause-none
returns-in-Field-clause-none c = rw (c.in-Field.is, place_parts, ← c.as_slice.ensures.value, ← c.as_str.ensures.bytes) c.field_named.ensures.none
