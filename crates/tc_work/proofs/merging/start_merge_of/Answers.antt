use Rattle.std.proofs.Common.{true, map, refl, sym, subst}
use Rattle.std.specs.Prelude.{Ok}
use Rattle.tc_list.specs.Policies.{IsPicked}
use Rattle.tc_list.specs.declared.policy.Policy.{Policy}
use Rattle.tc_list.specs.Runs.{neighbours}
use Rattle.tc_part_model.specs.Changes.{merging_part}
use Rattle.tc_work.specs.declared.fault.EngineFault.TheVariants as engine
use Rattle.tc_running.specs.Jobs.{JobsState}
use Rattle.tc_work.specs.Moving.{beside, eyes, told_by, ListsPicked, Moves}
use Rattle.tc_work.proofs.HandedFaults.{undamaged_so}
use Rattle.tc_work.proofs.MovingCalls.{err_is, moves_failed, moves_not}
use Rattle.tc_work.proofs.RunMerges.{run_within, some_merge}
use Rattle.tc_work.proofs.StartedMerges.{HasBegun, started, started_lists}
use Rattle.tc_work.proofs.StoredMoments.{store_moments}
use Rattle.tc_work.proofs.merging.start_merge_of.Goals as goal

pub begin_merge-requires-clause-sound : goal.begin_merge-requires-clause-sound
begin_merge-requires-clause-sound g c κs within = c.requires.may.sound

pub begin_merge-requires-clause-own : goal.begin_merge-requires-clause-own
begin_merge-requires-clause-own g c κs within = c.requires.may.ready.own

-- ---- no memory for the thread

pub returns-in_err-beginning-clause-moves : goal.returns-in_err-beginning-clause-moves
returns-in_err-beginning-clause-moves g c =
    let e = eyes g.S.Store.history g.S.Device.Device.history g.S.Frozen.Frozen.content g.S.Device.Device.name g.S.Frozen.Frozen.size g.S.Watch.Watch.counts in
    let t = told_by e (beside c.args.part.now c.args.jobs.now) in
    moves_not e (beside c.args.part.now c.args.jobs.now) c.requires.may (λ p is. c.failed_parts_keep_files.ensures.fails t (record t { failed = true }) p is refl refl refl refl) c.from_residual.result (err_is c.from_residual.result engine.Memory c.from_residual.ensures.1)

-- ---- the merge does not begin

pub returns-in_err-job-clause-moves : goal.returns-in_err-job-clause-moves
returns-in_err-job-clause-moves g c =
    let e = eyes g.S.Store.history g.S.Device.Device.history g.S.Frozen.Frozen.content g.S.Device.Device.name g.S.Frozen.Frozen.size g.S.Watch.Watch.counts in
    let t = told_by e (beside c.args.part.now c.args.jobs.now) in
    let r = c.from_residual-in_err-job.result in
    let fault = c.in_err-job.field-0.0 in
    let is = c.from_residual-in_err-job.ensures.1 in
    let run = neighbours c.args.run in
    moves_failed e c.args.part.now c.begin_merge.new.self c.args.jobs.now r c.begin_merge.result fault is c.in_err-job.was c.requires.may.jobs c.in_err-job.ensures.left c.begin_merge.ensures.untold c.begin_merge.ensures.devices c.begin_merge.ensures.counted
    c.in_err-job.ensures.failed
    (λ p of tells works.
    let m = some_merge p run (run_within g.S.Frozen.Frozen.content t p c.args.part.now.list c.args.run of refl c.requires.run) in
    store_moments t p (merging_part run m.0 p) (g.S.Store.history c.begin_merge.new.self.store) refl refl (c.begin_merge.ensures.moments p m.0 of m.1))
    (undamaged_so r fault _ is c.in_err-job.ensures.undamaged) (λ p of tells. undamaged_so r fault _ is c.in_err-job.ensures.undamaged) c.begin_merge.ensures.unspent

pub returns-in_err-job-clause-undamaged : goal.returns-in_err-job-clause-undamaged
returns-in_err-job-clause-undamaged g c = undamaged_so c.from_residual-in_err-job.result c.in_err-job.field-0.0 _ c.from_residual-in_err-job.ensures.1 c.in_err-job.ensures.undamaged

-- ---- it is out

pub returns-clause-moves : goal.returns-clause-moves
returns-clause-moves g c =
    subst (λ (j : JobsState _ _ _). Moves (eyes g.S.Store.history g.S.Device.Device.history g.S.Frozen.Frozen.content g.S.Device.Device.name g.S.Frozen.Frozen.size g.S.Watch.Watch.counts) (Ok tt) (beside c.args.part.now c.args.jobs.now) (beside c.begin_merge.new.self j)) (sym c.start_merge.ensures)
    (started (eyes g.S.Store.history g.S.Device.Device.history g.S.Frozen.Frozen.content g.S.Device.Device.name g.S.Frozen.Frozen.size g.S.Watch.Watch.counts) c.args.part.now c.begin_merge.new.self c.args.jobs.now c.in_ok-job.job c.args.run c.begin_merge.result begun
    c.requires.may.sound c.requires.none_out c.requires.run c.requires.may.ready c.requires.may.jobs c.begin_merge.ensures.counted)
  where
    begun : HasBegun (eyes g.S.Store.history g.S.Device.Device.history g.S.Frozen.Frozen.content g.S.Device.Device.name g.S.Frozen.Frozen.size g.S.Watch.Watch.counts) c.args.part.now c.begin_merge.new.self c.args.jobs.now c.in_ok-job.job c.args.run c.begin_merge.result
    begun = record { begins = c.in_ok-job.ensures.begins; moments = c.begin_merge.ensures.moments; devices = c.begin_merge.ensures.devices }

pub returns-clause-listed : goal.returns-clause-listed
returns-clause-listed g c =
    subst (λ (j : JobsState _ _ _). (policy : Policy) → IsPicked policy (map (λ m. g.S.Frozen.Frozen.size m.file) c.args.part.now.list) c.args.run
    → ListsPicked (eyes g.S.Store.history g.S.Device.Device.history g.S.Frozen.Frozen.content g.S.Device.Device.name g.S.Frozen.Frozen.size g.S.Watch.Watch.counts)
    policy (beside c.args.part.now c.args.jobs.now) (beside c.begin_merge.new.self j)) (sym c.start_merge.ensures)
    (started_lists (eyes g.S.Store.history g.S.Device.Device.history g.S.Frozen.Frozen.content g.S.Device.Device.name g.S.Frozen.Frozen.size g.S.Watch.Watch.counts) c.args.part.now c.begin_merge.new.self c.args.jobs.now c.in_ok-job.job c.args.run c.begin_merge.result begun
    c.requires.may.sound c.requires.none_out c.requires.run c.requires.may.ready c.requires.may.jobs)
  where
    begun : HasBegun (eyes g.S.Store.history g.S.Device.Device.history g.S.Frozen.Frozen.content g.S.Device.Device.name g.S.Frozen.Frozen.size g.S.Watch.Watch.counts) c.args.part.now c.begin_merge.new.self c.args.jobs.now c.in_ok-job.job c.args.run c.begin_merge.result
    begun = record { begins = c.in_ok-job.ensures.begins; moments = c.begin_merge.ensures.moments; devices = c.begin_merge.ensures.devices }
