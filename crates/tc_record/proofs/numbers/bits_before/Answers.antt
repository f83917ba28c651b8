use Rattle.std.proofs.Common.{◌+◌, ◌-◌, ◌*◌, ◌/◌, ◌^◌, sym, subst, arith}
use Rattle.tc_bits.proofs.Fields.{field_masked}
use Rattle.tc_record.specs.NumbersLeft.{IsSeen}
use Rattle.tc_record.proofs.Alike.{low_seen}
use Rattle.tc_record.proofs.Scans.{looked_back}
use Rattle.tc_record.proofs.numbers.bits_before.Goals as goal

pub returns : goal.returns
returns c =
    let end = c.args.end in
    let filling = 8 * ((end + 7) / 8) - end in
    let number = c.window_before.result / 2 ^ filling in
    let seen : IsSeen number (64 - filling) end c.args.bytes.now = looked_back c.window_before.result end c.args.bytes.now c.requires.long c.window_before.ensures in
    subst (λ n. IsSeen n c.args.bits end c.args.bytes.now) (sym (field_masked filling c.args.bits c.window_before.result (omega (arith, c.requires.seen))))
    (low_seen number (64 - filling) c.args.bits end c.args.bytes.now seen (omega (arith, c.requires.seen)))
