use Rattle.std.proofs.Common.{◌≡◌, ◌∙◌, Some, slice_get, sym, ap, arith}
use Rattle.std.proofs.lemmas.Option.{slice_get-get_or}
use Rattle.tc_schema_model.specs.Counted.{Counted, total_at}
use Rattle.tc_audit.proofs.WaitingLaws.{total_left}
use Rattle.tc_audit.proofs.shapes.Shapes.settle.Goals as goal

pub settle_shape-requires-clause-room : goal.settle_shape-requires-clause-room
settle_shape-requires-clause-room c =
    let l = c.loop-at in
    let names = c.args.names.now in
    let here : slice_get l.self.known.items l.at ≡ Some c.index_mut.result.now =
    slice_get-get_or l.self.known.items l.at c.index_mut.result.now (let test = c.loop-at-test.true in let many = c.len-at-end.ensures in omega (arith, l.invariant.long)) ∙ ap Some (sym c.index_mut.ensures.value) in
    λ path. omega (arith, total_left names c.args.self.now.form l.self.known.items l.at c.index_mut.result.now l.schema l.invariant.known here path, ap (λ (d : Counted). total_at names d path) l.invariant.left, c.requires.room path)
