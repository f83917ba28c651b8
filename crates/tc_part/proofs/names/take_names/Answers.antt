use Rattle.std.proofs.Common.{◌≡◌, ◌∙◌, ◌<◌, ◌^◌, length, sym, ap, subst, arith}
use Rattle.std.specs.List.{AllByRecursion}
use Rattle.tc_model.specs.Dictionary.{learned, all_learned}
use Rattle.tc_model.proofs.LearnedNames.{length-all_learned}
use Rattle.tc_compact.specs.Slots.{names_in}
use Rattle.tc_compact.proofs.Relabelled.{names_in-labels}
use Rattle.tc_part.proofs.names.take_names.Goals as goal

pub loop-name-init : goal.loop-name-init
loop-name-init c =
    let lent = c.names-names.result in
    let same : names_in c.args.of.now.tokens ≡ lent = names_in-labels c.args.of.now.tokens lent c.names-names.ensures in
    record {
      left = ap (all_learned c.args.taken.now) (sym same);
      short = subst (AllByRecursion (λ name. length name < 2 ^ 32)) same c.requires.short;
    }

pub learn-requires-clause-room : goal.learn-requires-clause-room
learn-requires-clause-room c =
    let l = c.loop-name in
    let n = c.in-Some.name.now in
    let rest = c.next.new.self in
    let left : all_learned (learned l.taken n) rest ≡ all_learned c.args.taken.now (names_in c.args.of.now.tokens) = ap (all_learned l.taken) (sym c.in-Some.ensures.taken) ∙ l.invariant.left in
    omega (arith, length-all_learned (learned l.taken n) rest, ap length left, c.requires.room)
