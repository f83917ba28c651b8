use Rattle.std.proofs.Common.{◌∙◌, is_some, sym, ap, subst}
use Rattle.std.specs.Prelude.{Ok}
use Rattle.tc_jobs.specs.Faults.{of_merge}
use Rattle.tc_list.specs.declared.policy.Policy.{Policy}
use Rattle.tc_lsm_model.specs.Merges.{in_run as contents_in_run}
use Rattle.tc_merge.specs.Faults.{IsHarmIn}
use Rattle.tc_merge.specs.Jobs as merge
use Rattle.tc_part.specs.Faults.{of_job, IfDamaged as part_damaged}
use Rattle.tc_part_model.specs.PartState.{PartState}
use Rattle.tc_flush.proofs.Outcomes.{if_err}
use Rattle.tc_running.specs.Jobs.{JobsState}
use Rattle.tc_running.specs.Ran.{HasMerged}
use Rattle.tc_store.specs.declared.damage.Damage.{Damage}
use Rattle.tc_work.specs.Damage.{IsPartDamage}
use Rattle.tc_work.specs.JobsOut.{IsMergeOf}
use Rattle.tc_work.specs.Moving.{beside, eyes, IsPickedBy, ListsPicked, Moves}
use Rattle.tc_work.proofs.HandedFaults.{damaged_so, disk_below, spent_below}
use Rattle.tc_work.proofs.HandedJobs.{job_back, job_of_part, job_ran, none_back}
use Rattle.tc_work.proofs.InstalledMerges.{HasFallen, IsBack, IsInstalled, fallen, fallen_damage, harmed_damage, installed, installed_lists, merges, ran as ran_for}
use Rattle.tc_work.proofs.JobEnds.{by_outcome, ended_well}
use Rattle.tc_work.proofs.MergeFaults.{damage_so, err_both, merge_cause, told_damage}
use Rattle.tc_work.proofs.MovingCalls.{err_of, moves_nothing}
use Rattle.tc_work.proofs.StoredMoments.{where_told}
use Rattle.tc_work.proofs.UnharmedRecords.{not_harmed_run}
use Rattle.tc_work.proofs.merging.install_merge.Goals as goal

-- ---- it is not listed, or its run is not gone

pub returns-in_err-finish_merge-in-Some-clause-moves : goal.returns-in_err-finish_merge-in-Some-clause-moves
returns-in_err-finish_merge-in-Some-clause-moves g c =
    let e = eyes g.S.Store.history g.S.Device.Device.history g.S.Frozen.Frozen.content g.S.Device.Device.name g.S.Frozen.Frozen.size g.S.Watch.Watch.counts in
    let out = c.in-Some.out in
    let laws = g.met.S.Device.Device g.world.𝓛 g.world.𝓜 g.world.𝓡 ((λ s x. x), (λ x. x), (λ x. x), λ x. x) in
    let found = job_back c.args.jobs.now.merge c.in-Some.ensures.some in
    let of = job_of_part (is_some c.args.part.now.merging) c.args.jobs.now.merge found.0 (IsMergeOf e.disks e.history e.content e.name_of c.args.part.now) found.1 c.requires.may.jobs.merge in
    let ran = job_ran c.args.jobs.now.merge found.0 (λ (job : merge.JobState _ _ _). HasMerged e.content e.history g.S.Device.Device.size e.name_of e.counts job out.watch out.device out.outcome) found.1 c.in-Some.ensures.ran in
    let back : IsBack e g.S.Frozen.Frozen.name g.S.Device.Device.size c.args.part.now c.finish_merge.new.self c.args.jobs.now found.0 out.watch out.device out.outcome = record { is_job = found.1; of = of.1; ran = ran; sized = laws.told_size out.device } in
    let r = c.from_residual.result in
    let result = c.finish_merge.result in
    let fault = c.in_err-finish_merge-in-Some.field-0.0 in
    let is = c.from_residual.ensures.1 in
    let was = c.in_err-finish_merge-in-Some.was in
    let failed = c.in_err-finish_merge-in-Some.ensures in
    let sound = c.requires.may.sound in
    let f : HasFallen e g.S.Frozen.Frozen.name g.S.Device.Device.size c.args.part.now c.finish_merge.new.self c.args.jobs.now found.0 out.watch out.device out.outcome
    = record {
      left = failed.left.1;
      failed = failed.failed;
      moments = c.finish_merge.ensures.moments;
      unmade_failed = if_err out.outcome _ _ (λ cause made. made.unmade_failed) c.finish_merge.ensures.unmade;
      unmade_moments = if_err out.outcome _ _ (λ cause made. made.unmade_moments) c.finish_merge.ensures.unmade;
    } in
    let P : Damage → Type 0 = IsPartDamage e.content e.history c.finish_merge.new.self in
    subst (λ (j : JobsState _ _ _). Moves e r (beside c.args.part.now c.args.jobs.now) (beside c.finish_merge.new.self j)) (sym c.join_merge.ensures.taken)
    (fallen e g.S.Frozen.Frozen.name g.S.Device.Device.size c.args.part.now c.finish_merge.new.self c.args.jobs.now found.0 out.watch out.device out.outcome back c.finish_merge.ensures.devices f c.requires.may.jobs r _ (err_of r fault is) _ c.finish_merge.ensures.watched
    (λ disk. merge_cause out.outcome result (if_err out.outcome _ _ (λ cause made. (made.unmade sound).0) c.finish_merge.ensures.unmade) (disk_below r result fault is was disk))
    (damaged_so r result fault P P is was
    (by_outcome out.outcome _ (part_damaged result P) (err_both out.outcome _ _ c.finish_merge.ensures.unmade ran.damaged)
    (λ cause both. told_damage result cause (IsHarmIn e.content found.0.run) P (both.0.unmade sound).0 both.1
    (harmed_damage e g.S.Frozen.Frozen.name g.S.Device.Device.size c.args.part.now c.finish_merge.new.self c.args.jobs.now found.0 out.watch out.device out.outcome
    back c.finish_merge.ensures.devices f c.requires.may.jobs (ap (λ (s : PartState _ _ _ _). s.list) (both.0.unmade sound).1)))
    (λ ended. damage_so result _ P (fallen_damage e g.S.Frozen.Frozen.name g.S.Device.Device.size c.args.part.now c.finish_merge.new.self c.args.jobs.now found.0
    out.watch out.device out.outcome back c.finish_merge.ensures.devices f c.requires.may.jobs ended) (c.finish_merge.ensures.damaged ended)))
    (λ damage harm. harm))
    (λ p part told works.
    let m = merges e g.S.Frozen.Frozen.name g.S.Device.Device.size c.args.part.now c.finish_merge.new.self c.args.jobs.now found.0 out.watch out.device out.outcome back p part told works in
    let contents = c.components_are_contents.ensures in
    damaged_so r result fault (λ damage. ⊥) (λ damage. ⊥) is was
    (by_outcome out.outcome _ (part_damaged result (λ damage. ⊥)) (err_both out.outcome _ _ c.finish_merge.ensures.unmade ran.damaged)
    (λ cause both. told_damage result cause (IsHarmIn e.content found.0.run) (λ damage. ⊥) (both.0.unmade sound).0 both.1 (λ file place bytes. not_harmed_run e.content contents.found contents.fetched found.0.run (contents_in_run m.merging.run p.list) file place bytes m.loaded))
    (λ ended. where_told (e.disks c.args.part.now.store) (part_damaged result (λ damage. ⊥)) told.store
    (c.finish_merge.ensures.undamaged ended p m.merging part m.is_out
    ((ran_for e g.S.Frozen.Frozen.name g.S.Device.Device.size c.args.part.now c.finish_merge.new.self c.args.jobs.now found.0 out.watch out.device out.outcome back
    p part told works).made ended)))) (λ damage never. never))
    (λ spent. c.finish_merge.ensures.unspent (spent_below r result fault is was spent)))

-- ---- it is listed

pub returns-in_ok-finish_merge-in-Some-clause-moves : goal.returns-in_ok-finish_merge-in-Some-clause-moves
returns-in_ok-finish_merge-in-Some-clause-moves g c =
    let e = eyes g.S.Store.history g.S.Device.Device.history g.S.Frozen.Frozen.content g.S.Device.Device.name g.S.Frozen.Frozen.size g.S.Watch.Watch.counts in
    let out = c.in-Some.out in
    let laws = g.met.S.Device.Device g.world.𝓛 g.world.𝓜 g.world.𝓡 ((λ s x. x), (λ x. x), (λ x. x), λ x. x) in
    let found = job_back c.args.jobs.now.merge c.in-Some.ensures.some in
    let of = job_of_part (is_some c.args.part.now.merging) c.args.jobs.now.merge found.0 (IsMergeOf e.disks e.history e.content e.name_of c.args.part.now) found.1 c.requires.may.jobs.merge in
    let ran = job_ran c.args.jobs.now.merge found.0 (λ (job : merge.JobState _ _ _). HasMerged e.content e.history g.S.Device.Device.size e.name_of e.counts job out.watch out.device out.outcome) found.1 c.in-Some.ensures.ran in
    let back : IsBack e g.S.Frozen.Frozen.name g.S.Device.Device.size c.args.part.now c.finish_merge.new.self c.args.jobs.now found.0 out.watch out.device out.outcome = record { is_job = found.1; of = of.1; ran = ran; sized = laws.told_size out.device } in
    let ok = c.in_ok-finish_merge-in-Some.ensures in
    let sound = c.requires.may.sound in
    let i : IsInstalled e g.S.Frozen.Frozen.name g.S.Device.Device.size c.args.part.now c.finish_merge.new.self c.args.jobs.now found.0 out.watch out.device
    out.outcome = record {
      lists = ok.listed sound;
      moments = c.finish_merge.ensures.moments;
      log_out = ok.log_out;
    } in
    let ended = ended_well out.outcome c.finish_merge.result _ _ (λ cause. of_job (of_merge cause)) c.finish_merge.ensures.unmade (λ cause made. (made.unmade sound).0) c.in_ok-finish_merge-in-Some.was in
    subst (λ (j : JobsState _ _ _). Moves e (Ok tt) (beside c.args.part.now c.args.jobs.now) (beside c.finish_merge.new.self j)) (sym c.join_merge.ensures.taken)
    (installed e g.S.Frozen.Frozen.name g.S.Device.Device.size c.args.part.now c.finish_merge.new.self c.args.jobs.now found.0 out.watch out.device out.outcome back c.finish_merge.ensures.devices i sound c.requires.may.ready c.requires.may.jobs ended _ c.finish_merge.ensures.watched)

pub returns-in_ok-finish_merge-in-Some-clause-listed : goal.returns-in_ok-finish_merge-in-Some-clause-listed
returns-in_ok-finish_merge-in-Some-clause-listed g c =
    let e = eyes g.S.Store.history g.S.Device.Device.history g.S.Frozen.Frozen.content g.S.Device.Device.name g.S.Frozen.Frozen.size g.S.Watch.Watch.counts in
    let out = c.in-Some.out in
    let laws = g.met.S.Device.Device g.world.𝓛 g.world.𝓜 g.world.𝓡 ((λ s x. x), (λ x. x), (λ x. x), λ x. x) in
    let found = job_back c.args.jobs.now.merge c.in-Some.ensures.some in
    let of = job_of_part (is_some c.args.part.now.merging) c.args.jobs.now.merge found.0 (IsMergeOf e.disks e.history e.content e.name_of c.args.part.now) found.1 c.requires.may.jobs.merge in
    let ran = job_ran c.args.jobs.now.merge found.0 (λ (job : merge.JobState _ _ _). HasMerged e.content e.history g.S.Device.Device.size e.name_of e.counts job out.watch out.device out.outcome) found.1 c.in-Some.ensures.ran in
    let back : IsBack e g.S.Frozen.Frozen.name g.S.Device.Device.size c.args.part.now c.finish_merge.new.self c.args.jobs.now found.0 out.watch out.device out.outcome = record { is_job = found.1; of = of.1; ran = ran; sized = laws.told_size out.device } in
    let ok = c.in_ok-finish_merge-in-Some.ensures in
    let sound = c.requires.may.sound in
    let i : IsInstalled e g.S.Frozen.Frozen.name g.S.Device.Device.size c.args.part.now c.finish_merge.new.self c.args.jobs.now found.0 out.watch out.device
    out.outcome = record {
      lists = ok.listed sound;
      moments = c.finish_merge.ensures.moments;
      log_out = ok.log_out;
    } in
    let ended = ended_well out.outcome c.finish_merge.result _ _ (λ cause. of_job (of_merge cause)) c.finish_merge.ensures.unmade (λ cause made. (made.unmade sound).0) c.in_ok-finish_merge-in-Some.was in
    subst (λ (j : JobsState _ _ _). (policy : Policy) → IsPickedBy e policy (beside c.args.part.now c.args.jobs.now) → ListsPicked e policy (beside c.args.part.now c.args.jobs.now) (beside c.finish_merge.new.self j)) (sym c.join_merge.ensures.taken)
    (installed_lists e g.S.Frozen.Frozen.name g.S.Device.Device.size c.args.part.now c.finish_merge.new.self c.args.jobs.now found.0 out.watch out.device out.outcome back c.finish_merge.ensures.devices i sound c.requires.may.ready c.requires.may.jobs ended)

-- ---- none was out

pub returns-in-None-clause-moves : goal.returns-in-None-clause-moves
returns-in-None-clause-moves g c =
    let e = eyes g.S.Store.history g.S.Device.Device.history g.S.Frozen.Frozen.content g.S.Device.Device.name g.S.Frozen.Frozen.size g.S.Watch.Watch.counts in
    subst (λ (j : JobsState _ _ _). Moves e (Ok tt) (beside c.args.part.now c.args.jobs.now) (beside c.args.part.now j))
    (sym (c.join_merge.ensures.taken ∙ ap (λ o. record c.args.jobs.now { merge = o }) (sym (none_back c.args.jobs.now.merge c.in-None.ensures.some))))
    (moves_nothing e (beside c.args.part.now c.args.jobs.now) c.requires.may)
