use Rattle.std.proofs.Common.{sym, ap, subst, map, arith}
use Rattle.tc_schema_model.specs.Stands.{StandsFor}
use Rattle.tc_schema_model.specs.Values.{values_in}
use Rattle.tc_schema_model.proofs.ValueBounds.{total-stands}
use Rattle.tc_value.specs.Meaning.{tree_of}
use Rattle.schema_rows.proofs.kept.Kept.with.Goals as goal

pub add-requires-clause-counters : goal.add-requires-clause-counters
add-requires-clause-counters c = λ path.
    let old = c.self.inside in
    let docs = map tree_of old.docs.items in
    omega (arith, total-stands old.names old.schema docs c.self.invariant path, c.in_ok-_size.ensures.values path, ap (λ docs. values_in (map tree_of docs) path) c.as_slice.ensures.value, c.in-Some.ensures.values path)

pub invariant_of-result : goal.invariant_of-result
invariant_of-result c =
    let old = c.self.inside in
    let stands = c.in_ok-add.ensures.stands (map tree_of old.docs.items) (tree_of c.args.doc) (sym c.in_ok-shape.ensures) c.self.invariant in
    subst (λ docs. StandsFor c.add.new.names c.add.new.schema (map tree_of docs)) (sym c.in_ok-insert.ensures.items) stands
