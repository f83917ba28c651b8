use Rattle.std.proofs.Common.{◌≡◌, ◌∙◌, Some, None, is_some, refl, sym, ap, subst, inl, inr}
use Rattle.std.specs.Prelude.{IfSome}
use Rattle.std.proofs.lemmas.Bool.{true≢false}
use Rattle.tc_flush.proofs.Outcomes.{if_err}
use Rattle.tc_merge.specs.Jobs as merge
use Rattle.tc_part.specs.MergeEnds.{merged_name, run_out}
use Rattle.tc_running.specs.Ran.{HasMerged}
use Rattle.tc_work.specs.JobsOut.{IsMergeOf, MergesFor}
use Rattle.tc_work.proofs.InstalledMerges.{HasFallen, IsBack, fallen_keeps}
use Rattle.tc_work.proofs.MergeRuns.{merge_leaves}
use Rattle.tc_part_model.specs.PartState.{PartState}
use Rattle.tc_running.specs.Jobs.{JobsState}
use Rattle.tc_work.specs.Moving.{beside, eyes, told_by, works_by, KeepsJobs}
use Rattle.tc_work.proofs.GivenBack.{failed_none}
use Rattle.tc_work.proofs.HandedJobs.{job_back, job_of_part, job_ran, none_back}
use Rattle.tc_work.proofs.KeptJobs.{keeps_same}
use Rattle.tc_work.proofs.finishing.give_back_merge.Goals as goal

-- ---- it is given back

pub returns-in-Some-clause-keeps : goal.returns-in-Some-clause-keeps
returns-in-Some-clause-keeps g c =
    let e = eyes g.S.Store.history g.S.Device.Device.history g.S.Frozen.Frozen.content g.S.Device.Device.name g.S.Frozen.Frozen.size g.S.Watch.Watch.counts in
    let out = c.in-Some.out in
    let laws = g.met.S.Device.Device g.world.𝓛 g.world.𝓜 g.world.𝓡 ((λ s x. x), (λ x. x), (λ x. x), λ x. x) in
    let found = job_back c.args.jobs.now.merge c.in-Some.ensures.some in
    let of = job_of_part (is_some c.args.part.now.merging) c.args.jobs.now.merge found.0 (IsMergeOf e.disks e.history e.content e.name_of c.args.part.now) found.1 c.requires.jobs.merge in
    let ran = job_ran c.args.jobs.now.merge found.0 (λ (job : merge.JobState _ _ _). HasMerged e.content e.history g.S.Device.Device.size e.name_of e.counts job out.watch out.device out.outcome) found.1 c.in-Some.ensures.ran in
    let back : IsBack e g.S.Frozen.Frozen.name g.S.Device.Device.size c.args.part.now c.finish_merge-given.new.self c.args.jobs.now found.0 out.watch out.device out.outcome = record { is_job = found.1; of = of.1; ran = ran; sized = laws.told_size out.device } in
    let home = (c.finish_merge-given.ensures.given_back c.requires.failed).home in
    let f : HasFallen e g.S.Frozen.Frozen.name g.S.Device.Device.size c.args.part.now c.finish_merge-given.new.self c.args.jobs.now found.0 out.watch out.device
    out.outcome = record {
      left = inl (record {
        same = subst (λ (s : PartState _ _ _ _). s
            ≡ record c.args.part.now { store = s.store; main = s.main; merger = Some out.watch; merging = None; failed = s.failed }) (sym home.1) refl;
        home = inr home.2;
      });
      failed = λ p m part is made told. absurd (true≢false (sym c.requires.failed ∙ part.sound));
      moments = c.finish_merge-given.ensures.moments;
      unmade_failed = if_err out.outcome _ _ (λ cause made. made.unmade_failed) c.finish_merge-given.ensures.unmade;
      unmade_moments = if_err out.outcome _ _ (λ cause made. made.unmade_moments) c.finish_merge-given.ensures.unmade;
    } in
    subst (λ (j : JobsState _ _ _). KeepsJobs e ⊥ (beside c.args.part.now c.args.jobs.now) (beside c.finish_merge-given.new.self j)) (sym c.join_merge.ensures.taken)
    (fallen_keeps e g.S.Frozen.Frozen.name g.S.Device.Device.size c.args.part.now c.finish_merge-given.new.self c.args.jobs.now found.0 out.watch out.device
    out.outcome back c.finish_merge-given.ensures.devices f c.requires.jobs ⊥ _ c.finish_merge-given.ensures.watched (λ never. absurd never))

pub returns-in-Some-clause-stays : goal.returns-in-Some-clause-stays
returns-in-Some-clause-stays g c = λ p frame has works.
    let e = eyes g.S.Store.history g.S.Device.Device.history g.S.Frozen.Frozen.content g.S.Device.Device.name g.S.Frozen.Frozen.size g.S.Watch.Watch.counts in
    let out = c.in-Some.out in
    let found = job_back c.args.jobs.now.merge c.in-Some.ensures.some in
    let of = job_of_part (is_some c.args.part.now.merging) c.args.jobs.now.merge found.0 (IsMergeOf e.disks e.history e.content e.name_of c.args.part.now) found.1 c.requires.jobs.merge in
    let ran = job_ran c.args.jobs.now.merge found.0 (λ (job : merge.JobState _ _ _). HasMerged e.content e.history g.S.Device.Device.size e.name_of e.counts job out.watch out.device out.outcome) found.1 c.in-Some.ensures.ran in
    let m = subst (λ o. IfSome o (MergesFor e.content e.history e.name_of p.list p.merge)) found.1 works.1 in
    let named = m.name ∙ of.1.name in
    let back = c.finish_merge-given.ensures.given_back c.requires.failed in
    let leaves = merge_leaves e.content e.history g.S.Device.Device.size e.name_of e.counts p.list p.merge (merged_name (run_out c.args.part.now) c.args.part.now) (e.disks c.args.part.now.store) found.0 m of.1.device out.watch out.device out.outcome ran in (
      back.stays p frame m.merging has m.is_out named leaves,
      subst (λ (j : JobsState _ _ _). works_by e (beside c.finish_merge-given.new.self j) p) (sym c.join_merge.ensures.taken) (works.0, tt),
      back.stays_moments p frame m.merging has m.is_out named leaves,
    )

-- ---- none was out

pub returns-in-None-clause-keeps : goal.returns-in-None-clause-keeps
returns-in-None-clause-keeps g c =
    let e = eyes g.S.Store.history g.S.Device.Device.history g.S.Frozen.Frozen.content g.S.Device.Device.name g.S.Frozen.Frozen.size g.S.Watch.Watch.counts in
    subst (λ (j : JobsState _ _ _). KeepsJobs e ⊥ (beside c.args.part.now c.args.jobs.now) (beside c.args.part.now j))
    (sym (c.join_merge.ensures.taken ∙ ap (λ o. record c.args.jobs.now { merge = o }) (sym (none_back c.args.jobs.now.merge c.in-None.ensures.some))))
    (keeps_same e (beside c.args.part.now c.args.jobs.now) ⊥ c.requires.jobs (λ never. never))

pub returns-in-None-clause-stays : goal.returns-in-None-clause-stays
returns-in-None-clause-stays g c = λ p frame has works.
    let e = eyes g.S.Store.history g.S.Device.Device.history g.S.Frozen.Frozen.content g.S.Device.Device.name g.S.Frozen.Frozen.size g.S.Watch.Watch.counts in (
      has,
      subst (λ (j : JobsState _ _ _). works_by e (beside c.args.part.now j) p)
          (sym (c.join_merge.ensures.taken ∙ ap (λ o. record c.args.jobs.now { merge = o }) (sym (none_back c.args.jobs.now.merge c.in-None.ensures.some)))) works,
      failed_none p frame (told_by e (beside c.args.part.now c.args.jobs.now)),
    )
