use Rattle.std.proofs.Common.{subst, sym}
use Rattle.std.specs.Arc.{arc_value}
use Rattle.tc_list.specs.Runs.{in_run}
use Rattle.tc_merge.specs.Merging.{IsRun}
use Rattle.tc_jobs.proofs.Tiles.{head_seen, run_is, run_seen}
use Rattle.tc_jobs.proofs.merging.merged_head.Goals as goal

pub returns-clause-exact : goal.returns-clause-exact
returns-clause-exact g c =
    let seen = run_seen arc_value c.as_slice-components.result.now c.args.list.now c.as_slice-components.ensures.all c.args.run in
    head_seen c.args.number c.args.count c.head_over.result _ (in_run c.args.run c.args.list.now) c.head_over.ensures seen

pub returns-clause-mergeable : goal.returns-clause-mergeable
returns-clause-mergeable g c = λ several listed.
    let seen = run_seen arc_value c.as_slice-components.result.now c.args.list.now c.as_slice-components.ensures.all c.args.run in
    let exact = head_seen c.args.number c.args.count c.head_over.result _ (in_run c.args.run c.args.list.now) c.head_over.ensures seen in
    subst (λ h. IsRun h (in_run c.args.run c.args.list.now)) (sym exact) (run_is c.args.number c.args.count c.args.run c.args.list.now several c.requires.within c.as_slice-components.ensures.follow listed)
