use Rattle.std.proofs.Common.{◌≡◌, map, subst}
use Rattle.std.specs.Arc.{arc_value}
use Rattle.std.specs.Prelude.{IfOk}
use Rattle.tc_jobs.proofs.Tiles.{run_seen}
use Rattle.tc_jobs.proofs.merging.merge_inputs.Goals as goal

pub returns : goal.returns
returns g c =
    let seen = run_seen arc_value c.as_slice-components.result.now c.args.list.now c.as_slice-components.ensures.all c.args.run in
    subst (λ cs. IfOk c.shares_of.result (λ shares. map arc_value shares.items ≡ cs)) seen c.shares_of.ensures
