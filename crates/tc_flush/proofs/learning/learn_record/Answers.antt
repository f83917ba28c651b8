use Rattle.std.proofs.Common.{rules, ◌≡◌, ◌∙◌, ◌∷◌, length, sym, ap, arith}
use Rattle.tc_model.specs.Dictionary.{learned, all_learned}
use Rattle.tc_model.proofs.LearnedNames.{length-all_learned}
use Rattle.tc_compact.specs.Slots.{names_in}
use Rattle.tc_flush.proofs.learning.learn_record.Goals as goal

pub returns-then-not-branch-clause-full : goal.returns-then-not-branch-clause-full
returns-then-not-branch-clause-full c = λ _.
    let l = c.loop-token in
    let n = c.in-Name.name.now in
    let rest = names_in c.next.new.self in
    let here : names_in l.cursor ≡ n ∷ names_in c.next.new.self = search rules in
    let left : all_learned (learned l.known n) rest ≡ all_learned c.args.known.now (names_in c.args.of.now.tokens) = ap (all_learned l.known) (sym here) ∙ l.invariant.left in
    omega (arith, length-all_learned (learned l.known n) rest, ap length left, c.in_ok-learn_name.ensures.full c.if-not-branch.true)
