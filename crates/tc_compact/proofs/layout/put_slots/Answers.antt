use Rattle.std.proofs.Common.{◌∙◌, ◌+◌, ◌++◌, drop, get_or, sym, ap, subst}
use Rattle.std.proofs.lemmas.List.{drop_all, drop_more}
use Rattle.tc_bits.specs.Bits.{written}
use Rattle.tc_bits.proofs.Joined.{AreBelow}
use Rattle.tc_compact.proofs.ColumnSteps.{column_begun, column_pushed}
use Rattle.tc_compact.proofs.layout.put_slots.Goals as goal

pub loop-slot-init : goal.loop-slot-init
loop-slot-init c =
    let ns = c.args.slots.now in
    let begun = column_begun c.of-writer.result c.column_bits.result c.args.out.now.items ns _ c.of-writer.ensures.width (c.column_bits.ensures.holds ns c.requires) c.of-writer.ensures.nothing (c.column_bits.ensures.spells ns c.requires) in
    record { below = begun.0; written = begun.1 }

pub push-requires : goal.push-requires
push-requires c =
    let l = c.loop-slot in
    let below = subst (AreBelow l.writer.width) (drop_more c.args.slots.now l.slot-index 0 c.loop-slot-test.true) l.invariant.below in
    record { fits = below.0 }

pub loop-slot-preserved : goal.loop-slot-preserved
loop-slot-preserved c =
    let l = c.loop-slot in
    let ns = c.args.slots.now in
    let step = column_pushed l.writer c.push.new.self l.out.items c.push.new.out.items _ (drop l.slot-index ns) (drop (l.slot-index + 1) ns) (get_or ns l.slot-index 0) (drop_more ns l.slot-index 0 c.loop-slot-test.true) l.invariant.below l.invariant.written c.push.ensures.width c.in_ok-push.ensures.written in
    record { below = step.0; written = step.1 }

pub returns : goal.returns
returns c =
    let l = c.loop-slot in
    c.in_ok-end.ensures ∙ ap (λ ks. l.out.items ++ written l.writer ks) (sym (drop_all l.slot-index c.args.slots.now c.loop-slot-test.false)) ∙ l.invariant.written
