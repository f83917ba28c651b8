use Rattle.std.proofs.Common.{◌≡◌, ◌<◌, ◌∙◌, ◌∷◌, false, ap, subst, arith}
use Rattle.std.proofs.lemmas.Bool.Decides.{nat_tests}
use Rattle.tc_memory.specs.Meaning.{entry_of}
use Rattle.tc_query.proofs.AheadKeys.{pass_ahead}
use Rattle.tc_query.proofs.WalkSteps.{stepped}
use Rattle.tc_query.specs.Walking.{least_left, from_next, IsAhead}
use Rattle.tc_query.proofs.ahead.Ahead.next.Goals as goal

pub loop-self-preserved : goal.loop-self-preserved
loop-self-preserved c = λ t ahead.
    let low = least_left c.args.last in
    let entry = c.in-Some.entry in
    let rest = from_next c.next-self.result c.next-self.new.self in
    let is : from_next c.loop-self.self.next c.loop-self.self.behind ≡ entry_of entry ∷ rest =
    ap (λ o. from_next o c.loop-self.self.behind) c.in-Some.is ∙ ap (λ es. entry_of entry ∷ es) (stepped c.next-self.result _ _ c.next-self.ensures.steps) in
    let other : c.is_behind.result ≡ false = let tested = c.if-is_behind.false in cc in
    let told = c.is_behind.ensures in
    let less : entry.key < low = grind (arith, nat_tests) in
    pass_ahead low t (entry_of entry) rest (subst (IsAhead low t) is (c.loop-self.invariant t ahead)) less
