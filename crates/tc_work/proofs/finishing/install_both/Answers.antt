use Rattle.std.proofs.Common.{arith, inl, inr}
use Rattle.tc_flush.proofs.Outcomes.{ok_then}
use Rattle.tc_work.specs.Moving.{beside, eyes}
use Rattle.tc_work.proofs.MovingCalls.{may_then, moves_err, moves_then}
use Rattle.tc_work.proofs.finishing.install_both.Goals as goal

-- ---- the merge

pub returns-in_err-install_merge-clause-moves : goal.returns-in_err-install_merge-clause-moves
returns-in_err-install_merge-clause-moves g c =
    let mid = beside c.install_merge.new.part c.install_merge.new.jobs in
    moves_err (eyes g.S.Store.history g.S.Device.Device.history g.S.Frozen.Frozen.content g.S.Device.Device.name g.S.Frozen.Frozen.size g.S.Watch.Watch.counts)
    (beside c.args.part.now c.args.jobs.now) mid mid c.from_residual.result c.install_merge.result c.in_err-install_merge.field-0.0 c.from_residual.ensures.1
    c.in_err-install_merge.was c.install_merge.ensures.moves

-- ---- the flush

pub install_flush-requires-clause-may : goal.install_flush-requires-clause-may
install_flush-requires-clause-may g c κs within = may_then (eyes g.S.Store.history g.S.Device.Device.history g.S.Frozen.Frozen.content g.S.Device.Device.name
    g.S.Frozen.Frozen.size g.S.Watch.Watch.counts) (beside c.args.part.now c.args.jobs.now) (beside c.install_merge.new.part c.install_merge.new.jobs)
    (beside c.install_merge.new.part c.install_merge.new.jobs) c.in_ok-install_merge.ensures.moves

pub returns-in_err-install_flush-clause-moves : goal.returns-in_err-install_flush-clause-moves
returns-in_err-install_flush-clause-moves g c =
    let r = c.from_residual-in_err-install_flush.result in
    let mid = beside c.install_merge.new.part c.install_merge.new.jobs in
    let new = beside c.install_flush.new.part c.install_flush.new.jobs in
    moves_then (eyes g.S.Store.history g.S.Device.Device.history g.S.Frozen.Frozen.content g.S.Device.Device.name g.S.Frozen.Frozen.size g.S.Watch.Watch.counts) (beside c.args.part.now c.args.jobs.now) mid new r c.in_ok-install_merge.ensures.moves
    (moves_err (eyes g.S.Store.history g.S.Device.Device.history g.S.Frozen.Frozen.content g.S.Device.Device.name g.S.Frozen.Frozen.size g.S.Watch.Watch.counts) mid
    new new r c.install_flush.result c.in_err-install_flush.field-0.0 c.from_residual-in_err-install_flush.ensures.1 c.in_err-install_flush.was
    c.install_flush.ensures.moves)

-- ---- what the policy picks then

pub make_room-requires-clause-may : goal.make_room-requires-clause-may
make_room-requires-clause-may g c κs within = may_then (eyes g.S.Store.history g.S.Device.Device.history g.S.Frozen.Frozen.content g.S.Device.Device.name
    g.S.Frozen.Frozen.size g.S.Watch.Watch.counts) (beside c.install_merge.new.part c.install_merge.new.jobs)
    (beside c.install_flush.new.part c.install_flush.new.jobs) (beside c.install_flush.new.part c.install_flush.new.jobs) c.in_ok-install_flush.ensures.moves

pub make_room-requires-clause-picked : goal.make_room-requires-clause-picked
make_room-requires-clause-picked g c κs within = (c.in_ok-install_flush.ensures.listed c.args.policy (c.in_ok-install_merge.ensures.listed c.args.policy c.requires.picked).picked).picked

pub returns-clause-none : goal.returns-clause-none
returns-clause-none g c = ok_then c.make_room.result _ _ (λ few. elim few [
  | inl none ↦ inr (omega (arith, none))
  | inr picks ↦ picks
]) c.make_room.ensures.few

pub returns-clause-moves : goal.returns-clause-moves
returns-clause-moves g c =
    let e = eyes g.S.Store.history g.S.Device.Device.history g.S.Frozen.Frozen.content g.S.Device.Device.name g.S.Frozen.Frozen.size g.S.Watch.Watch.counts in
    moves_then e (beside c.args.part.now c.args.jobs.now) (beside c.install_merge.new.part c.install_merge.new.jobs) (beside c.make_room.new.part c.make_room.new.jobs) c.make_room.result c.in_ok-install_merge.ensures.moves
    (moves_then e (beside c.install_merge.new.part c.install_merge.new.jobs) (beside c.install_flush.new.part c.install_flush.new.jobs) (beside c.make_room.new.part c.make_room.new.jobs) c.make_room.result c.in_ok-install_flush.ensures.moves c.make_room.ensures.moves)
