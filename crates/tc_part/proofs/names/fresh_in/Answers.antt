use Rattle.std.proofs.Common.{◌≡◌, ◌∙◌, ◌<◌, ◌^◌, ◌++◌, length, append-nil, sym, ap, subst, arith}
use Rattle.std.specs.List.{AllByRecursion}
use Rattle.tc_model.specs.Dictionary.{learned, all_learned}
use Rattle.tc_model.proofs.LearnedNames.{length-all_learned}
use Rattle.tc_compact.specs.Slots.{names_in}
use Rattle.tc_compact.proofs.Relabelled.{names_in-labels}
use Rattle.tc_part.proofs.names.fresh_in.Goals as goal

pub loop-name-init : goal.loop-name-init
loop-name-init c =
    let taken = c.args.taken.now in
    let lent = c.names-names.result in
    let same : names_in c.args.of.now.tokens ≡ lent = names_in-labels c.args.of.now.tokens lent c.names-names.ensures in
    record {
      left = ap (λ fresh. all_learned (taken ++ fresh) lent) c.new-fresh.ensures.empty ∙ ap (λ known. all_learned known lent) (append-nil taken) ∙ ap (all_learned taken) (sym same);
      short = subst (AllByRecursion (λ name. length name < 2 ^ 32)) same c.requires.short;
    }

pub learn_unless_taken-requires-clause-room : goal.learn_unless_taken-requires-clause-room
learn_unless_taken-requires-clause-room c =
    let l = c.loop-name in
    let n = c.in-Some.name.now in
    let rest = c.next.new.self in
    let known = c.args.taken.now ++ l.fresh in
    let left : all_learned (learned known n) rest ≡ all_learned c.args.taken.now (names_in c.args.of.now.tokens) = ap (all_learned known) (sym c.in-Some.ensures.taken) ∙ l.invariant.left in
    omega (arith, length-all_learned (learned known n) rest, ap length left, c.requires.room)
