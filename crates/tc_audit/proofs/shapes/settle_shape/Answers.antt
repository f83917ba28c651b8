use Rattle.std.proofs.Common.{◌≡◌, ◌∙◌, ◌+◌, ◌*◌, ◌<◌, ◌^◌, sym, ap, subst, arith}
use Rattle.tc_schema_model.specs.Counted.{Counted, total_at}
use Rattle.tc_audit.specs.Waiting.{once_in}
use Rattle.tc_audit.proofs.WaitingLaws.{total_one}
use Rattle.tc_audit.proofs.shapes.settle_shape.Goals as goal

pub add_times-requires-clause-room : goal.add_times-requires-clause-room
add_times-requires-clause-room c = λ path.
    let names = c.args.names.now in
    let shape = c.args.shape.now in
    let before = total_at names c.args.schema.now path in
    let one : c.in_ok-one.one ≡ once_in names shape.bytes = c.in_ok-one.ensures ∙ ap (once_in names) c.as_slice.ensures.same in
    subst (λ k. before + k * total_at names c.in_ok-one.one path < 2 ^ 64) (sym c.replace-times.ensures.value)
    (subst (λ (d : Counted). before + shape.waiting * total_at names d path < 2 ^ 64) (sym one) (omega (arith, total_one names shape c.args.schema.now (c.requires.known.1).canonical path, c.requires.room path)))
