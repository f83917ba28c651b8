use Rattle.std.proofs.Common.{true, refl, sym, subst}
use Rattle.std.specs.Prelude.{Ok}
use Rattle.tc_list.specs.declared.policy.Policy.{Policy}
use Rattle.tc_part_model.specs.Changes.{flushing_part}
use Rattle.tc_work.specs.declared.fault.EngineFault.TheVariants as engine
use Rattle.tc_running.specs.Jobs.{JobsState}
use Rattle.tc_work.specs.Damage.{IsPartDamage}
use Rattle.tc_work.specs.Moving.{beside, eyes, told_by, IsPickedBy, ListsPicked, Moves}
use Rattle.tc_work.proofs.HandedFaults.{damaged_so}
use Rattle.tc_work.proofs.MovingCalls.{err_is, moves_failed, moves_not}
use Rattle.tc_work.proofs.PartDamage.{both_damaged, uncounted}
use Rattle.tc_work.proofs.StartedFlushes.{HasBegun, started, started_lists}
use Rattle.tc_work.proofs.StoredMoments.{store_moments}
use Rattle.tc_work.proofs.flushing.start_flush.Goals as goal

pub begin_flush-requires-clause-sound : goal.begin_flush-requires-clause-sound
begin_flush-requires-clause-sound g c κs within = c.requires.may.sound

pub begin_flush-requires-clause-own : goal.begin_flush-requires-clause-own
begin_flush-requires-clause-own g c κs within = c.requires.may.ready.own

-- ---- no memory for the thread

pub returns-in_err-beginning-clause-moves : goal.returns-in_err-beginning-clause-moves
returns-in_err-beginning-clause-moves g c =
    let e = eyes g.S.Store.history g.S.Device.Device.history g.S.Frozen.Frozen.content g.S.Device.Device.name g.S.Frozen.Frozen.size g.S.Watch.Watch.counts in
    let t = told_by e (beside c.args.part.now c.args.jobs.now) in
    moves_not e (beside c.args.part.now c.args.jobs.now) c.requires.may (λ p is. c.failed_parts_keep_files.ensures.fails t (record t { failed = true }) p is refl refl refl refl) c.from_residual.result (err_is c.from_residual.result engine.Memory c.from_residual.ensures.1)

-- ---- the flush does not begin

pub returns-in_err-job-clause-moves : goal.returns-in_err-job-clause-moves
returns-in_err-job-clause-moves g c =
    let e = eyes g.S.Store.history g.S.Device.Device.history g.S.Frozen.Frozen.content g.S.Device.Device.name g.S.Frozen.Frozen.size g.S.Watch.Watch.counts in
    let t = told_by e (beside c.args.part.now c.args.jobs.now) in
    let r = c.from_residual-in_err-job.result in
    let fault = c.in_err-job.field-0.0 in
    let is = c.from_residual-in_err-job.ensures.1 in
    moves_failed e c.args.part.now c.begin_flush.new.self c.args.jobs.now r c.begin_flush.result fault is c.in_err-job.was c.requires.may.jobs c.in_err-job.ensures.left c.begin_flush.ensures.untold c.begin_flush.ensures.devices c.begin_flush.ensures.counted
    c.in_err-job.ensures.failed (λ p of tells works. store_moments t p (flushing_part p) (g.S.Store.history c.begin_flush.new.self.store) refl refl (c.begin_flush.ensures.moments p of))
    (damaged_so r c.begin_flush.result fault _ (IsPartDamage e.content e.history c.begin_flush.new.self) is c.in_err-job.was
    (both_damaged c.begin_flush.result _ _ c.begin_flush.ensures.damaged c.begin_flush.ensures.uncounted)
    (λ damage both. uncounted e.content e.history c.args.part.now c.begin_flush.new.self damage c.in_err-job.ensures.left both))
    (λ p of tells. damaged_so r c.begin_flush.result fault _ _ is c.in_err-job.was (c.begin_flush.ensures.undamaged p of tells.components) (λ damage never. never)) c.begin_flush.ensures.unspent

pub returns-in_err-job-clause-damaged : goal.returns-in_err-job-clause-damaged
returns-in_err-job-clause-damaged g c = damaged_so c.from_residual-in_err-job.result c.begin_flush.result c.in_err-job.field-0.0 _ _ c.from_residual-in_err-job.ensures.1 c.in_err-job.was c.begin_flush.ensures.damaged (λ damage files. files)

-- ---- it is out

pub returns-clause-moves : goal.returns-clause-moves
returns-clause-moves g c =
    subst (λ (j : JobsState _ _ _). Moves (eyes g.S.Store.history g.S.Device.Device.history g.S.Frozen.Frozen.content g.S.Device.Device.name g.S.Frozen.Frozen.size g.S.Watch.Watch.counts) (Ok tt) (beside c.args.part.now c.args.jobs.now) (beside c.begin_flush.new.self j)) (sym c.start_flush.ensures)
    (started (eyes g.S.Store.history g.S.Device.Device.history g.S.Frozen.Frozen.content g.S.Device.Device.name g.S.Frozen.Frozen.size g.S.Watch.Watch.counts) c.args.part.now c.begin_flush.new.self c.args.jobs.now c.in_ok-job.job c.begin_flush.result begun
    c.requires.may.sound c.requires.none_out c.requires.both c.requires.may.ready c.requires.may.jobs c.begin_flush.ensures.counted)
  where
    begun : HasBegun (eyes g.S.Store.history g.S.Device.Device.history g.S.Frozen.Frozen.content g.S.Device.Device.name g.S.Frozen.Frozen.size g.S.Watch.Watch.counts) c.args.part.now c.begin_flush.new.self c.args.jobs.now c.in_ok-job.job c.begin_flush.result
    begun = record { begins = c.in_ok-job.ensures.begins; moments = c.begin_flush.ensures.moments; devices = c.begin_flush.ensures.devices }

pub returns-clause-listed : goal.returns-clause-listed
returns-clause-listed g c =
    subst (λ (j : JobsState _ _ _). (policy : Policy) → IsPickedBy
    (eyes g.S.Store.history g.S.Device.Device.history g.S.Frozen.Frozen.content g.S.Device.Device.name g.S.Frozen.Frozen.size g.S.Watch.Watch.counts) policy
    (beside c.args.part.now c.args.jobs.now) → ListsPicked (eyes g.S.Store.history g.S.Device.Device.history g.S.Frozen.Frozen.content g.S.Device.Device.name
    g.S.Frozen.Frozen.size g.S.Watch.Watch.counts) policy (beside c.args.part.now c.args.jobs.now) (beside c.begin_flush.new.self j)) (sym c.start_flush.ensures)
    (started_lists (eyes g.S.Store.history g.S.Device.Device.history g.S.Frozen.Frozen.content g.S.Device.Device.name g.S.Frozen.Frozen.size g.S.Watch.Watch.counts) c.args.part.now c.begin_flush.new.self c.args.jobs.now c.in_ok-job.job c.begin_flush.result begun
    c.requires.may.sound c.requires.none_out c.requires.both c.requires.may.ready c.requires.may.jobs)
  where
    begun : HasBegun (eyes g.S.Store.history g.S.Device.Device.history g.S.Frozen.Frozen.content g.S.Device.Device.name g.S.Frozen.Frozen.size g.S.Watch.Watch.counts) c.args.part.now c.begin_flush.new.self c.args.jobs.now c.in_ok-job.job c.begin_flush.result
    begun = record { begins = c.in_ok-job.ensures.begins; moments = c.begin_flush.ensures.moments; devices = c.begin_flush.ensures.devices }
