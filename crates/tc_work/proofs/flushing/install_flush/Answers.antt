use Rattle.std.proofs.Common.{◌∙◌, sym, ap, subst}
use Rattle.std.specs.Prelude.{Ok}
use Rattle.tc_flush.specs.Jobs as flush
use Rattle.tc_list.specs.declared.policy.Policy.{Policy}
use Rattle.tc_part.specs.Faults.{of_device, IfDamaged as part_damaged}
use Rattle.tc_flush.proofs.Outcomes.{if_err}
use Rattle.tc_running.specs.Jobs.{JobsState}
use Rattle.tc_running.specs.Ran.{HasFlushed}
use Rattle.tc_store.specs.declared.damage.Damage.{Damage}
use Rattle.tc_work.specs.Damage.{IsPartDamage}
use Rattle.tc_work.specs.JobsOut.{IsFlushOf}
use Rattle.tc_work.specs.Moving.{beside, eyes, IsPickedBy, ListsPicked, Moves}
use Rattle.tc_work.proofs.HandedFaults.{damaged_so, disk_below, spent_below}
use Rattle.tc_work.proofs.HandedJobs.{job_back, job_of_part, job_ran, none_back}
use Rattle.tc_work.proofs.InstalledFlushes.{HasFallen, IsBack, IsHandedBack, IsInstalled, fallen, fallen_damage, fallen_ran, installed, installed_lists}
use Rattle.tc_work.proofs.JobEnds.{by_outcome, device_undamaged, ended_well}
use Rattle.tc_work.proofs.MergeFaults.{damage_so}
use Rattle.tc_work.proofs.MovingCalls.{err_of, moves_nothing}
use Rattle.tc_work.proofs.StoredMoments.{where_told}
use Rattle.tc_work.proofs.Watches.{flush_cause}
use Rattle.tc_work.proofs.flushing.install_flush.Goals as goal

-- ---- it is not listed, or its log is not gone

pub returns-in_err-finish_flush-in-Some-clause-moves : goal.returns-in_err-finish_flush-in-Some-clause-moves
returns-in_err-finish_flush-in-Some-clause-moves g c =
    let e = eyes g.S.Store.history g.S.Device.Device.history g.S.Frozen.Frozen.content g.S.Device.Device.name g.S.Frozen.Frozen.size g.S.Watch.Watch.counts in
    let out = c.in-Some.out in
    let laws = g.met.S.Device.Device g.world.𝓛 g.world.𝓜 g.world.𝓡 ((λ s x. x), (λ x. x), (λ x. x), λ x. x) in
    let found = job_back c.args.jobs.now.flush c.in-Some.ensures.some in
    let of = job_of_part c.args.part.now.flushing c.args.jobs.now.flush found.0 (IsFlushOf e.disks e.history e.name_of c.args.part.now) found.1 c.requires.may.jobs.flush in
    let ran = job_ran c.args.jobs.now.flush found.0 (λ (job : flush.JobState _ _). HasFlushed e.history g.S.Device.Device.size e.name_of e.counts job out.watch out.device out.outcome) found.1 c.in-Some.ensures.ran in
    let documents = c.tables_keep_documents.ensures.some found.0.kept of.1.lawful in
    let back : IsBack e g.S.Frozen.Frozen.name g.S.Device.Device.size c.args.part.now c.finish_flush.new.self c.args.jobs.now found.0 out.watch out.device out.outcome = record { is_job = found.1; of = of.1; ran = ran; sized = laws.told_size out.device } in
    let handed : IsHandedBack e g.S.Frozen.Frozen.name g.S.Device.Device.size c.args.part.now c.finish_flush.new.self c.args.jobs.now found.0 out.watch out.device out.outcome = record { devices = c.finish_flush.ensures.devices; merge_named = c.finish_flush.ensures.merge_named } in
    let r = c.from_residual.result in
    let fault = c.in_err-finish_flush-in-Some.field-0.0 in
    let is = c.from_residual.ensures.1 in
    let was = c.in_err-finish_flush-in-Some.was in
    let failed = c.in_err-finish_flush-in-Some.ensures in
    let sound = c.requires.may.sound in
    let f : HasFallen e g.S.Frozen.Frozen.name g.S.Device.Device.size c.args.part.now c.finish_flush.new.self c.args.jobs.now found.0 out.watch out.device out.outcome
    = record {
      left = failed.left.1;
      failed = failed.failed;
      moments = c.finish_flush.ensures.moments;
      unmade_failed = if_err out.outcome _ _ (λ cause made. made.unmade_failed) c.finish_flush.ensures.unmade;
      unmade_moments = if_err out.outcome _ _ (λ cause made. made.unmade_moments) c.finish_flush.ensures.unmade;
    } in
    let P : Damage → Type 0 = IsPartDamage e.content e.history c.finish_flush.new.self in
    subst (λ (j : JobsState _ _ _). Moves e r (beside c.args.part.now c.args.jobs.now) (beside c.finish_flush.new.self j)) (sym c.join_flush.ensures.taken)
    (fallen e g.S.Frozen.Frozen.name g.S.Device.Device.size c.args.part.now c.finish_flush.new.self c.args.jobs.now found.0 out.watch out.device out.outcome back handed f of.1.log of.0 c.requires.may.jobs documents.table documents.of r _ (err_of r fault is) _ c.finish_flush.ensures.watched
    (λ disk. flush_cause out.outcome c.finish_flush.result (if_err out.outcome _ _ (λ cause made. (made.unmade sound).0) c.finish_flush.ensures.unmade) (disk_below r c.finish_flush.result fault is was disk))
    (damaged_so r c.finish_flush.result fault P P is was
    (by_outcome out.outcome _ (part_damaged c.finish_flush.result P) c.finish_flush.ensures.unmade (λ cause made. device_undamaged c.finish_flush.result cause P (made.unmade sound).0)
    (λ ended. damage_so c.finish_flush.result _ P (fallen_damage e g.S.Frozen.Frozen.name g.S.Device.Device.size c.args.part.now c.finish_flush.new.self
    c.args.jobs.now found.0 out.watch out.device out.outcome back handed f of.1.log of.0 c.requires.may.jobs documents.table documents.of ended)
    c.finish_flush.ensures.damaged)) (λ damage harm. harm))
    (λ p part told works.
    let ran_for = fallen_ran e g.S.Frozen.Frozen.name g.S.Device.Device.size c.args.part.now c.finish_flush.new.self c.args.jobs.now found.0 out.watch out.device out.outcome back handed f of.1.log of.0 c.requires.may.jobs documents.table documents.of p part told works in
    damaged_so r c.finish_flush.result fault (λ damage. ⊥) (λ damage. ⊥) is was
    (by_outcome out.outcome _ (part_damaged c.finish_flush.result (λ damage. ⊥)) c.finish_flush.ensures.unmade (λ cause made. device_undamaged c.finish_flush.result cause (λ damage. ⊥) (made.unmade sound).0)
    (λ ended. where_told (e.disks c.args.part.now.store) (part_damaged c.finish_flush.result (λ damage. ⊥)) told.store (c.finish_flush.ensures.undamaged p ran_for.content part ran_for.makes (ran_for.made ended)))) (λ damage never. never))
    (λ spent. c.finish_flush.ensures.unspent (spent_below r c.finish_flush.result fault is was spent)))

-- ---- it is listed

pub returns-in_ok-finish_flush-in-Some-clause-moves : goal.returns-in_ok-finish_flush-in-Some-clause-moves
returns-in_ok-finish_flush-in-Some-clause-moves g c =
    let e = eyes g.S.Store.history g.S.Device.Device.history g.S.Frozen.Frozen.content g.S.Device.Device.name g.S.Frozen.Frozen.size g.S.Watch.Watch.counts in
    let out = c.in-Some.out in
    let laws = g.met.S.Device.Device g.world.𝓛 g.world.𝓜 g.world.𝓡 ((λ s x. x), (λ x. x), (λ x. x), λ x. x) in
    let found = job_back c.args.jobs.now.flush c.in-Some.ensures.some in
    let of = job_of_part c.args.part.now.flushing c.args.jobs.now.flush found.0 (IsFlushOf e.disks e.history e.name_of c.args.part.now) found.1 c.requires.may.jobs.flush in
    let ran = job_ran c.args.jobs.now.flush found.0 (λ (job : flush.JobState _ _). HasFlushed e.history g.S.Device.Device.size e.name_of e.counts job out.watch out.device out.outcome) found.1 c.in-Some.ensures.ran in
    let documents = c.tables_keep_documents.ensures.some found.0.kept of.1.lawful in
    let back : IsBack e g.S.Frozen.Frozen.name g.S.Device.Device.size c.args.part.now c.finish_flush.new.self c.args.jobs.now found.0 out.watch out.device out.outcome = record { is_job = found.1; of = of.1; ran = ran; sized = laws.told_size out.device } in
    let handed : IsHandedBack e g.S.Frozen.Frozen.name g.S.Device.Device.size c.args.part.now c.finish_flush.new.self c.args.jobs.now found.0 out.watch out.device out.outcome = record { devices = c.finish_flush.ensures.devices; merge_named = c.finish_flush.ensures.merge_named } in
    let ok = c.in_ok-finish_flush-in-Some.ensures in
    let sound = c.requires.may.sound in
    let i : IsInstalled e g.S.Frozen.Frozen.name g.S.Device.Device.size c.args.part.now c.finish_flush.new.self c.args.jobs.now found.0 out.watch out.device
    out.outcome = record {
      lists = ok.listed sound;
      moments = c.finish_flush.ensures.moments;
      log_out = ok.log_out;
    } in
    let ended = ended_well out.outcome c.finish_flush.result _ _ of_device c.finish_flush.ensures.unmade (λ cause made. (made.unmade sound).0) c.in_ok-finish_flush-in-Some.was in
    subst (λ (j : JobsState _ _ _). Moves e (Ok tt) (beside c.args.part.now c.args.jobs.now) (beside c.finish_flush.new.self j)) (sym c.join_flush.ensures.taken)
    (installed e g.S.Frozen.Frozen.name g.S.Device.Device.size c.args.part.now c.finish_flush.new.self c.args.jobs.now found.0 out.watch out.device out.outcome back
    handed i of.1.log of.0 sound c.requires.may.ready c.requires.may.jobs documents.table documents.of ended _ c.finish_flush.ensures.watched)

pub returns-in_ok-finish_flush-in-Some-clause-listed : goal.returns-in_ok-finish_flush-in-Some-clause-listed
returns-in_ok-finish_flush-in-Some-clause-listed g c =
    let e = eyes g.S.Store.history g.S.Device.Device.history g.S.Frozen.Frozen.content g.S.Device.Device.name g.S.Frozen.Frozen.size g.S.Watch.Watch.counts in
    let out = c.in-Some.out in
    let laws = g.met.S.Device.Device g.world.𝓛 g.world.𝓜 g.world.𝓡 ((λ s x. x), (λ x. x), (λ x. x), λ x. x) in
    let found = job_back c.args.jobs.now.flush c.in-Some.ensures.some in
    let of = job_of_part c.args.part.now.flushing c.args.jobs.now.flush found.0 (IsFlushOf e.disks e.history e.name_of c.args.part.now) found.1 c.requires.may.jobs.flush in
    let ran = job_ran c.args.jobs.now.flush found.0 (λ (job : flush.JobState _ _). HasFlushed e.history g.S.Device.Device.size e.name_of e.counts job out.watch out.device out.outcome) found.1 c.in-Some.ensures.ran in
    let documents = c.tables_keep_documents.ensures.some found.0.kept of.1.lawful in
    let back : IsBack e g.S.Frozen.Frozen.name g.S.Device.Device.size c.args.part.now c.finish_flush.new.self c.args.jobs.now found.0 out.watch out.device out.outcome = record { is_job = found.1; of = of.1; ran = ran; sized = laws.told_size out.device } in
    let handed : IsHandedBack e g.S.Frozen.Frozen.name g.S.Device.Device.size c.args.part.now c.finish_flush.new.self c.args.jobs.now found.0 out.watch out.device out.outcome = record { devices = c.finish_flush.ensures.devices; merge_named = c.finish_flush.ensures.merge_named } in
    let ok = c.in_ok-finish_flush-in-Some.ensures in
    let sound = c.requires.may.sound in
    let i : IsInstalled e g.S.Frozen.Frozen.name g.S.Device.Device.size c.args.part.now c.finish_flush.new.self c.args.jobs.now found.0 out.watch out.device
    out.outcome = record {
      lists = ok.listed sound;
      moments = c.finish_flush.ensures.moments;
      log_out = ok.log_out;
    } in
    let ended = ended_well out.outcome c.finish_flush.result _ _ of_device c.finish_flush.ensures.unmade (λ cause made. (made.unmade sound).0) c.in_ok-finish_flush-in-Some.was in
    subst (λ (j : JobsState _ _ _). (policy : Policy) → IsPickedBy e policy (beside c.args.part.now c.args.jobs.now) → ListsPicked e policy (beside c.args.part.now c.args.jobs.now) (beside c.finish_flush.new.self j)) (sym c.join_flush.ensures.taken)
    (installed_lists e g.S.Frozen.Frozen.name g.S.Device.Device.size c.args.part.now c.finish_flush.new.self c.args.jobs.now found.0 out.watch out.device out.outcome back handed i of.1.log of.0 sound c.requires.may.ready c.requires.may.jobs documents.table documents.of ended)

pub returns-in_ok-finish_flush-in-Some-clause-behind : goal.returns-in_ok-finish_flush-in-Some-clause-behind
returns-in_ok-finish_flush-in-Some-clause-behind g c = λ out. let lists = c.in_ok-finish_flush-in-Some.ensures.listed c.requires.may.sound in (lists.listed.component, lists.listed.listed)

-- ---- none was out

pub returns-in-None-clause-moves : goal.returns-in-None-clause-moves
returns-in-None-clause-moves g c =
    let e = eyes g.S.Store.history g.S.Device.Device.history g.S.Frozen.Frozen.content g.S.Device.Device.name g.S.Frozen.Frozen.size g.S.Watch.Watch.counts in
    subst (λ (j : JobsState _ _ _). Moves e (Ok tt) (beside c.args.part.now c.args.jobs.now) (beside c.args.part.now j))
    (sym (c.join_flush.ensures.taken ∙ ap (λ o. record c.args.jobs.now { flush = o }) (sym (none_back c.args.jobs.now.flush c.in-None.ensures.some))))
    (moves_nothing e (beside c.args.part.now c.args.jobs.now) c.requires.may)
