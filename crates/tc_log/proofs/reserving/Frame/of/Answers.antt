use Rattle.std.proofs.Common.{◌∙◌, ap, arith}
use Rattle.tc_log.specs.Frame.{frame_writes}
use Rattle.tc_log.specs.Spelling.{IsFrame}
use Rattle.tc_log.proofs.Kept.{kept, kept_writes}
use Rattle.tc_log.proofs.reserving.Frame.of.Goals as goal

pub invariant_of-result : goal.invariant_of-result
invariant_of-result c =
    let few = c.requires.few in
    let is : IsFrame c.args.writes.now = record { each = c.requires.lawful; some = c.requires.some; few = omega arith; short = c.requires.short } in
    kept c.args.writes.now c.in_ok-bytes.bytes.items is c.in_ok-bytes.ensures

pub returns : goal.returns
returns c =
    let few = c.requires.few in
    let is : IsFrame c.args.writes.now = record { each = c.requires.lawful; some = c.requires.some; few = omega arith; short = c.requires.short } in
    ap frame_writes c.in_ok-bytes.ensures ∙ kept_writes c.args.writes.now is
