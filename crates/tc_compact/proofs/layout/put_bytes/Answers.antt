use Rattle.std.proofs.Common.{◌∙◌, ◌+◌, ◌∷◌, ◌++◌, drop, sym, ap, subst}
use Rattle.std.proofs.lemmas.List.{drop_all, drop_more}
use Rattle.tc_bits.specs.Bits.{written}
use Rattle.tc_bits.proofs.Joined.{AreBelow}
use Rattle.tc_compact.proofs.ColumnSteps.{column_begun, column_pushed}
use Rattle.tc_compact.proofs.layout.put_bytes.Goals as goal

pub loop-number-init : goal.loop-number-init
loop-number-init c =
    let ns = c.args.numbers.now in
    let begun = column_begun c.of-writer.result c.column_bits.result c.args.out.now.items ns _ c.of-writer.ensures.width (c.column_bits.ensures.holds ns c.requires) c.of-writer.ensures.nothing (c.column_bits.ensures.spells ns c.requires) in
    record { below = begun.0; written = begun.1 }

pub push-requires : goal.push-requires
push-requires c =
    let l = c.loop-number in
    let next = drop_more c.args.numbers.now l.number-index 0 c.loop-number-test.true ∙ ap (λ k. k ∷ drop (l.number-index + 1) c.args.numbers.now) (sym c.from.ensures) in
    let below = subst (AreBelow l.writer.width) next l.invariant.below in
    record { fits = below.0 }

pub loop-number-preserved : goal.loop-number-preserved
loop-number-preserved c =
    let l = c.loop-number in
    let left = drop l.number-index c.args.numbers.now in
    let rest = drop (l.number-index + 1) c.args.numbers.now in
    let next = drop_more c.args.numbers.now l.number-index 0 c.loop-number-test.true ∙ ap (λ k. k ∷ rest) (sym c.from.ensures) in
    let step = column_pushed l.writer c.push.new.self l.out.items c.push.new.out.items _ left rest c.from.result next l.invariant.below l.invariant.written c.push.ensures.width c.in_ok-push.ensures.written in
    record { below = step.0; written = step.1 }

pub returns : goal.returns
returns c =
    let l = c.loop-number in
    c.in_ok-end.ensures ∙ ap (λ ks. l.out.items ++ written l.writer ks) (sym (drop_all l.number-index c.args.numbers.now c.loop-number-test.false)) ∙ l.invariant.written
