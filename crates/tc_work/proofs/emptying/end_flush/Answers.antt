use Rattle.std.proofs.Common.{◌≡◌, ◌∙◌, ◌++◌, [], ◌∷◌, refl, sym, ap, subst, arith}
use Rattle.tc_flush.proofs.Outcomes.{ok_then}
use Rattle.tc_jobs.specs.Lists.{file_names}
use Rattle.tc_part.specs.FlushEnds.{flushed_name}
use Rattle.tc_part_model.specs.PartState.{PartState}
use Rattle.tc_work.specs.Faults.{AreOfFiles, IfDamaged}
use Rattle.tc_work.specs.Moving.{beside, eyes}
use Rattle.tc_work.proofs.HandedFaults.{handed_on, undamaged_any}
use Rattle.tc_work.proofs.KeptJobs.{lists_then}
use Rattle.tc_work.proofs.MovedDocuments.{HasOnlyListed, listed_of_merged, listed_then}
use Rattle.tc_work.proofs.MovingCalls.{may_then, moves_err, moves_nothing, moves_then}
use Rattle.tc_work.proofs.emptying.end_flush.Goals as goal

-- ---- none is out

pub returns-then-not-is_flushing-clause-moves : goal.returns-then-not-is_flushing-clause-moves
returns-then-not-is_flushing-clause-moves g c = moves_nothing (eyes g.S.Store.history g.S.Device.Device.history g.S.Frozen.Frozen.content g.S.Device.Device.name g.S.Frozen.Frozen.size g.S.Watch.Watch.counts) (beside c.args.part.now c.args.jobs.now) c.requires.may

-- ---- room is made, or not

pub returns-in_err-make_room-clause-moves : goal.returns-in_err-make_room-clause-moves
returns-in_err-make_room-clause-moves g c =
    let mid = beside c.make_room.new.part c.make_room.new.jobs in
    moves_err (eyes g.S.Store.history g.S.Device.Device.history g.S.Frozen.Frozen.content g.S.Device.Device.name g.S.Frozen.Frozen.size g.S.Watch.Watch.counts)
    (beside c.args.part.now c.args.jobs.now) mid mid c.from_residual.result c.make_room.result c.in_err-make_room.field-0.0 c.from_residual.ensures.1
    c.in_err-make_room.was c.make_room.ensures.moves

pub install_flush-requires-clause-may : goal.install_flush-requires-clause-may
install_flush-requires-clause-may g c κs within = may_then (eyes g.S.Store.history g.S.Device.Device.history g.S.Frozen.Frozen.content g.S.Device.Device.name
    g.S.Frozen.Frozen.size g.S.Watch.Watch.counts) (beside c.args.part.now c.args.jobs.now) (beside c.make_room.new.part c.make_room.new.jobs)
    (beside c.make_room.new.part c.make_room.new.jobs) c.in_ok-make_room.ensures.moves

-- ---- the flush is listed, or not

pub returns-in_err-install_flush-clause-moves : goal.returns-in_err-install_flush-clause-moves
returns-in_err-install_flush-clause-moves g c =
    let r = c.from_residual-in_err-install_flush.result in
    let mid = beside c.make_room.new.part c.make_room.new.jobs in
    let new = beside c.install_flush.new.part c.install_flush.new.jobs in
    moves_then (eyes g.S.Store.history g.S.Device.Device.history g.S.Frozen.Frozen.content g.S.Device.Device.name g.S.Frozen.Frozen.size g.S.Watch.Watch.counts) (beside c.args.part.now c.args.jobs.now) mid new r c.in_ok-make_room.ensures.moves
    (moves_err (eyes g.S.Store.history g.S.Device.Device.history g.S.Frozen.Frozen.content g.S.Device.Device.name g.S.Frozen.Frozen.size g.S.Watch.Watch.counts) mid
    new new r c.install_flush.result c.in_err-install_flush.field-0.0 c.from_residual-in_err-install_flush.ensures.1 c.in_err-install_flush.was
    c.install_flush.ensures.moves)

pub returns-in_err-install_flush-clause-damaged : goal.returns-in_err-install_flush-clause-damaged
returns-in_err-install_flush-clause-damaged g c = λ few.
    let same = (c.make_room.ensures.enough (omega (arith, few))).1 in
    handed_on c.from_residual-in_err-install_flush.result c.in_err-install_flush.field-0.0 _ c.from_residual-in_err-install_flush.ensures.1
    (subst (λ (s : PartState _ _ _ _). IfDamaged c.in_err-install_flush.field-0.0 (AreOfFiles (file_names s.list) (flushed_name s))) same c.in_err-install_flush.ensures.damaged)

-- ---- and a merge begins

pub start_merge-requires-clause-may : goal.start_merge-requires-clause-may
start_merge-requires-clause-may g c κs within =
    let e = eyes g.S.Store.history g.S.Device.Device.history g.S.Frozen.Frozen.content g.S.Device.Device.name g.S.Frozen.Frozen.size g.S.Watch.Watch.counts in
    may_then e (beside c.make_room.new.part c.make_room.new.jobs) (beside c.install_flush.new.part c.install_flush.new.jobs) (beside c.install_flush.new.part c.install_flush.new.jobs) c.in_ok-install_flush.ensures.moves

pub start_merge-requires-clause-picked : goal.start_merge-requires-clause-picked
start_merge-requires-clause-picked g c κs within = (c.in_ok-install_flush.ensures.listed c.args.policy c.in_ok-make_room.ensures.listed.picked).picked

pub returns-clause-ended : goal.returns-clause-ended
returns-clause-ended g c = ok_then c.start_merge.result _ _ (λ (begun : c.start_merge.new.part ≡ _) out.
    let none = c.in_ok-install_flush.ensures.none_sealed (ap (λ (s : PartState _ _ _ _). s.flushing) c.in_ok-make_room.ensures.merged ∙ out) in
    (ap (λ (s : PartState _ _ _ _). s.sealed) begun ∙ none.0, ap (λ (s : PartState _ _ _ _). s.sealed_log) begun ∙ none.1)) c.start_merge.ensures.begun

pub returns-clause-none_out : goal.returns-clause-none_out
returns-clause-none_out g c = ok_then c.start_merge.result _ _ (λ (begun : c.start_merge.new.part ≡ _). ap (λ (s : PartState _ _ _ _). s.flushing) begun ∙ ap (λ (s : PartState _ _ _ _). s.flushing) c.in_ok-install_flush.ensures.installed) c.start_merge.ensures.begun

pub returns-clause-installed : goal.returns-clause-installed
returns-clause-installed g c = ok_then c.start_merge.result _ _ (λ (begun : c.start_merge.new.part ≡ _).
    listed_then c.args.part.now c.make_room.new.part c.start_merge.new.part (listed_of_merged c.args.part.now c.make_room.new.part c.in_ok-make_room.ensures.merged)
    (listed_then c.make_room.new.part c.install_flush.new.part c.start_merge.new.part (subst (λ (s : PartState _ _ _ _). HasOnlyListed c.make_room.new.part s) (sym c.in_ok-install_flush.ensures.installed) refl)
    (subst (λ (s : PartState _ _ _ _). HasOnlyListed c.install_flush.new.part s) (sym begun) refl))) c.start_merge.ensures.begun

pub returns-clause-behind : goal.returns-clause-behind
returns-clause-behind g c = ok_then c.start_merge.result _ _ (λ (begun : c.start_merge.new.part ≡ _) out few.
    let same = (c.make_room.ensures.enough (omega (arith, few))).1 in
    let behind = c.in_ok-install_flush.ensures.behind (ap (λ (s : PartState _ _ _ _). s.flushing) same ∙ out) in
    (behind.0, ap (λ (s : PartState _ _ _ _). s.list) begun ∙ behind.1 ∙ ap (λ (s : PartState _ _ _ _). s.list ++ behind.0 ∷ []) same)) c.start_merge.ensures.begun

pub returns-clause-moves : goal.returns-clause-moves
returns-clause-moves g c =
    moves_then (eyes g.S.Store.history g.S.Device.Device.history g.S.Frozen.Frozen.content g.S.Device.Device.name g.S.Frozen.Frozen.size g.S.Watch.Watch.counts)
    (beside c.args.part.now c.args.jobs.now) (beside c.make_room.new.part c.make_room.new.jobs) (beside c.start_merge.new.part c.start_merge.new.jobs)
    c.start_merge.result c.in_ok-make_room.ensures.moves
    (moves_then (eyes g.S.Store.history g.S.Device.Device.history g.S.Frozen.Frozen.content g.S.Device.Device.name g.S.Frozen.Frozen.size g.S.Watch.Watch.counts)
    (beside c.make_room.new.part c.make_room.new.jobs) (beside c.install_flush.new.part c.install_flush.new.jobs)
    (beside c.start_merge.new.part c.start_merge.new.jobs) c.start_merge.result c.in_ok-install_flush.ensures.moves c.start_merge.ensures.moves)

pub returns-clause-listed : goal.returns-clause-listed
returns-clause-listed g c = ok_then c.start_merge.result _ _ (λ lists.
    let one = c.in_ok-make_room.ensures.listed in
    lists_then (eyes g.S.Store.history g.S.Device.Device.history g.S.Frozen.Frozen.content g.S.Device.Device.name g.S.Frozen.Frozen.size g.S.Watch.Watch.counts)
    (beside c.args.part.now c.args.jobs.now) (beside c.make_room.new.part c.make_room.new.jobs)
    (beside c.start_merge.new.part c.start_merge.new.jobs) c.args.policy one
    (lists_then (eyes g.S.Store.history g.S.Device.Device.history g.S.Frozen.Frozen.content g.S.Device.Device.name g.S.Frozen.Frozen.size g.S.Watch.Watch.counts)
    (beside c.make_room.new.part c.make_room.new.jobs) (beside c.install_flush.new.part c.install_flush.new.jobs)
    (beside c.start_merge.new.part c.start_merge.new.jobs) c.args.policy (c.in_ok-install_flush.ensures.listed c.args.policy one.picked) lists))
    c.start_merge.ensures.listed

pub returns-clause-damaged : goal.returns-clause-damaged
returns-clause-damaged g c = λ few. undamaged_any c.start_merge.result _ c.start_merge.ensures.undamaged
