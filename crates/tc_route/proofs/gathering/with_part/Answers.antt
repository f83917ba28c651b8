use Rattle.std.proofs.Common.{◌≡◌, length, subst, arith}
use Rattle.std.proofs.lemmas.Bool.Decides.{nat_tests}
use Rattle.std.proofs.lemmas.Grind.{common_steps}
use Rattle.tc_model.specs.Keyed.{Ascends}
use Rattle.tc_route.specs.Meaning.{rendered_in}
use Rattle.tc_route.proofs.OrderedMerge.{nothing_there}
use Rattle.tc_route.proofs.gathering.with_part.Goals as goal

pub returns-then-is_empty : goal.returns-then-is_empty
returns-then-is_empty c =
    let none : length c.args.all.items ≡ 0 = grind (arith, nat_tests, c.is_empty.ensures, c.if-is_empty.true, c.args.all.ok) in
    let ascends = subst (λ xs. Ascends (rendered_in xs)) c.as_slice.ensures.value (c.ascends.ensures (grind (arith, common_steps, c.if-not-ascends.false))) in
    nothing_there c.args.all.items c.args.part.items none ascends
