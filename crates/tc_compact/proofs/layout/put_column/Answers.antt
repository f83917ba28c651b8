use Rattle.std.proofs.Common.{◌∙◌, ◌∷◌, ◌++◌, sym, ap, subst}
use Rattle.tc_bits.specs.Bits.{written}
use Rattle.tc_bits.proofs.Joined.{AreBelow}
use Rattle.tc_compact.proofs.ColumnSteps.{column_begun, column_pushed}
use Rattle.tc_compact.proofs.layout.put_column.Goals as goal

pub loop-number-init : goal.loop-number-init
loop-number-init c =
    let begun = column_begun c.of-writer.result c.column_bits.result c.args.out.now.items c.args.numbers _ c.of-writer.ensures.width (c.column_bits.ensures.holds c.args.numbers c.requires) c.of-writer.ensures.nothing (c.column_bits.ensures.spells c.args.numbers c.requires) in
    record { below = begun.0; written = begun.1 }

pub push-requires : goal.push-requires
push-requires c =
    let l = c.loop-number in
    let below : AreBelow l.writer.width (c.in-Some.number ∷ c.next.new.self) = subst (AreBelow l.writer.width) c.in-Some.ensures.some l.invariant.below in
    record { fits = below.0 }

pub loop-number-preserved : goal.loop-number-preserved
loop-number-preserved c =
    let l = c.loop-number in
    let step = column_pushed l.writer c.push.new.self l.out.items c.push.new.out.items _ l.left c.next.new.self c.in-Some.number c.in-Some.ensures.some l.invariant.below l.invariant.written c.push.ensures.width c.in_ok-push.ensures.written in
    record { below = step.0; written = step.1 }

pub returns : goal.returns
returns c =
    let l = c.loop-number in
    c.in_ok-end.ensures ∙ ap (λ ks. l.out.items ++ written l.writer ks) (sym c.in_default.ensures.end) ∙ l.invariant.written
