-- What a place counts, by its parts.
use Rattle.std.proofs.Common.{◌≡◌, ℕ, rules}
use Rattle.std.specs.declared.alloc.Global.{Global}
use Rattle.std.specs.declared.boxed.Box.{Box}
use Rattle.tc_schema_model.specs.Counted.{counted}
use Rattle.tc_schema.specs.Places.{place_counted, field_counted, below_counted, fields_counted}
use Rattle.tc_schema.specs.declared.place.Node.{Node}
use Rattle.tc_schema.specs.declared.place.Field.{Field}
use Rattle.tc_schema.specs.declared.place.Field.TheFolds.{the_lemmas as fold_lemmas}
use Rattle.tc_schema.specs.declared.place.Field.TheViews.{out-Node, out-Field, roll-Field, the_lemmas as view_lemmas}

pub place_parts : (p : Node) → place_counted p ≡ counted (out-Node p).counts (below_counted (out-Node p).item) (fields_counted (out-Node p).fields.items)
place_parts p = search (rules, view_lemmas, fold_lemmas)

pub field_parts : (f : Field) → field_counted f ≡ ((out-Field f).number, place_counted (out-Field f).node.value)
field_parts f = search (rules, view_lemmas, fold_lemmas)

pub field_made : (n : ℕ) (b : Box Node Global) → field_counted (roll-Field record { number = n; node = b }) ≡ (n, place_counted b.value)
field_made n b = search (rules, view_lemmas, fold_lemmas)
