use Rattle.std.proofs.Common.{◌≡◌, ◌∙◌, ◌≤◌, List, refl, ap, subst, sym}
use Rattle.std.specs.Prelude.{◌⊎◌, length}
use Rattle.tc_flush.proofs.Outcomes.{ok_then}
use Rattle.tc_component.specs.Loading.{ComponentState}
use Rattle.tc_part_model.specs.PartState.{PartState}
use Rattle.tc_work.specs.Moving.{beside, eyes}
use Rattle.tc_work.specs.Settling.{PicksNone}
use Rattle.tc_work.proofs.KeptJobs.{lists_then}
use Rattle.tc_work.proofs.MovedDocuments.{merged_then}
use Rattle.tc_work.proofs.MovingCalls.{may_then, moves_err, moves_then}
use Rattle.tc_work.proofs.room.merge_on.Goals as goal

pub start_merge-requires-clause-may : goal.start_merge-requires-clause-may
start_merge-requires-clause-may g c κs within =
    let e = eyes g.S.Store.history g.S.Device.Device.history g.S.Frozen.Frozen.content g.S.Device.Device.name g.S.Frozen.Frozen.size g.S.Watch.Watch.counts in
    may_then e (beside c.args.part.now c.args.jobs.now) (beside c.make_room.new.part c.make_room.new.jobs) (beside c.make_room.new.part c.make_room.new.jobs) c.in_ok-make_room.ensures.moves

pub start_merge-requires-clause-picked : goal.start_merge-requires-clause-picked
start_merge-requires-clause-picked g c κs within = c.in_ok-make_room.ensures.listed.picked

pub returns-in_err-make_room-clause-moves : goal.returns-in_err-make_room-clause-moves
returns-in_err-make_room-clause-moves g c =
    let e = eyes g.S.Store.history g.S.Device.Device.history g.S.Frozen.Frozen.content g.S.Device.Device.name g.S.Frozen.Frozen.size g.S.Watch.Watch.counts in
    let mid = beside c.make_room.new.part c.make_room.new.jobs in
    moves_err e (beside c.args.part.now c.args.jobs.now) mid mid c.from_residual.result c.make_room.result c.in_err-make_room.field-0.0 c.from_residual.ensures.1 c.in_err-make_room.was c.make_room.ensures.moves

pub returns-clause-few : goal.returns-clause-few
returns-clause-few g c = ok_then c.start_merge.result _ _ (λ (begun : c.start_merge.new.part ≡ _). subst (λ (xs : List (ComponentState _)). (length xs ≤ 8) ⊎ PicksNone c.args.policy xs) (sym (ap (λ (s : PartState _ _ _ _). s.list) begun)) c.in_ok-make_room.ensures.few) c.start_merge.ensures.begun

pub returns-clause-merged : goal.returns-clause-merged
returns-clause-merged g c = ok_then c.start_merge.result _ _ (λ (begun : c.start_merge.new.part ≡ _).
    merged_then c.args.part.now c.make_room.new.part c.start_merge.new.part c.in_ok-make_room.ensures.merged
    (subst (λ (s : PartState _ _ _ _). s ≡ record c.make_room.new.part { store = s.store; main = s.main; merger = s.merger; list = s.list; merging = s.merging })
    (sym begun) refl)) c.start_merge.ensures.begun

pub returns-clause-flush : goal.returns-clause-flush
returns-clause-flush g c = c.start_merge.ensures.flush ∙ c.make_room.ensures.flush

pub returns-clause-moves : goal.returns-clause-moves
returns-clause-moves g c =
    let e = eyes g.S.Store.history g.S.Device.Device.history g.S.Frozen.Frozen.content g.S.Device.Device.name g.S.Frozen.Frozen.size g.S.Watch.Watch.counts in
    moves_then e (beside c.args.part.now c.args.jobs.now) (beside c.make_room.new.part c.make_room.new.jobs) (beside c.start_merge.new.part c.start_merge.new.jobs) c.start_merge.result c.in_ok-make_room.ensures.moves c.start_merge.ensures.moves

pub returns-clause-listed : goal.returns-clause-listed
returns-clause-listed g c =
    let e = eyes g.S.Store.history g.S.Device.Device.history g.S.Frozen.Frozen.content g.S.Device.Device.name g.S.Frozen.Frozen.size g.S.Watch.Watch.counts in
    ok_then c.start_merge.result _ _ (λ lists. lists_then e (beside c.args.part.now c.args.jobs.now) (beside c.make_room.new.part c.make_room.new.jobs) (beside c.start_merge.new.part c.start_merge.new.jobs) c.args.policy c.in_ok-make_room.ensures.listed lists) c.start_merge.ensures.listed
