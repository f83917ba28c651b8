use Rattle.std.proofs.Common.{sym, subst}
use Rattle.std.proofs.lemmas.List.{nil_from_length}
use Rattle.tc_recover.specs.Placing.{IsPlaced}
use Rattle.tc_recover.proofs.Members.{member_first}
use Rattle.tc_recover.proofs.Places.{none_placed, all_placed}
use Rattle.tc_recover.proofs.tiling.tiling_of.Goals as goal

pub loop-next-init : goal.loop-next-init
loop-next-init c = subst (IsPlaced c.args.intervals.now c.args.intervals.now) (sym c.new-tiles.ensures.items) (none_placed c.args.intervals.now c.requires.ascend c.requires.order)

pub place-requires : goal.place-requires
place-requires c = (subst (λ left. IsPlaced c.args.intervals.now left c.loop-next.tiles.items) c.in-Some.ensures.cases.0 c.loop-next.invariant).order c.in-Some.next.now (member_first c.in-Some.next.now c.in-Some.behind.now)

pub loop-next-preserved : goal.loop-next-preserved
loop-next-preserved c = c.in_ok-place.ensures.placed c.if-not-branch.false c.args.intervals.now c.in-Some.behind.now (subst (λ left. IsPlaced c.args.intervals.now left c.loop-next.tiles.items) c.in-Some.ensures.cases.0 c.loop-next.invariant)

pub returns-then-not-branch-clause-none : goal.returns-then-not-branch-clause-none
returns-then-not-branch-clause-none c = λ is tiles tiling.
    c.in_ok-place.ensures.out c.if-not-branch.true c.args.intervals.now c.in-Some.behind.now tiles (subst (λ left. IsPlaced c.args.intervals.now left c.loop-next.tiles.items) c.in-Some.ensures.cases.0 c.loop-next.invariant) tiling

pub returns-clause-some : goal.returns-clause-some
returns-clause-some c = all_placed c.args.intervals.now c.loop-next.rest.now c.loop-next.tiles.items (nil_from_length c.loop-next.rest.now c.in_default.ensures.cases) c.loop-next.invariant
