use Rattle.std.proofs.Common.{◌≡◌, List, subst}
use Rattle.std.specs.Prelude.{All, IfErr}
use Rattle.std.specs.List.{AllZip}
use Rattle.std.specs.Result.{IsOk}
use Rattle.tc_store.specs.DiskFile.{settled_file}
use Rattle.tc_store.specs.Gate.{IsShutOr, IsShutOrWhole}
use Rattle.tc_store.specs.Images.{Image}
use Rattle.tc_store.specs.Moments.{IfTold, LeavesAt, LeavesOnly}
use Rattle.tc_component.specs.Loaded.{IsLoadedOf}
use Rattle.tc_component.specs.Rows.{IsShortWrite, component_bytes}
use Rattle.tc_lsm_model.specs.Contents.{Content}
use Rattle.tc_lsm_model.specs.Merges.{IsMerge}
use Rattle.tc_merge.specs.Faults.{IfHarmed, IsHarmIn}
use Rattle.tc_merge.specs.Jobs.{JobState}
use Rattle.tc_merge.specs.Merging.{AreTold, merge_bytes}
use Rattle.tc_open.proofs.merging_all.run_merge.Goals as goal

pub returns-clause-whole : goal.returns-clause-whole
returns-clause-whole g c =
    subst (λ (j : JobState _ _ _). IsOk c.run.result.outcome → AreTold (λ file. g.S.Frozen.Frozen.content file) j.run → IfTold (g.S.Device.Device.history c.run.result.device) (λ f. f ≡ settled_file (merge_bytes (λ file. g.S.Frozen.Frozen.content file) j.head j.run)))
    c.new.ensures.same c.run.ensures.whole

pub returns-clause-merged : goal.returns-clause-merged
returns-clause-merged g c =
    subst (λ (j : JobState _ _ _). (cs : List Content) → AllZip (IsLoadedOf (λ file. g.S.Frozen.Frozen.content file)) j.run cs → (m : Content) × IsMerge cs m × All IsShortWrite m.entries × (component_bytes m ≡ merge_bytes (λ file. g.S.Frozen.Frozen.content file) j.head j.run))
    c.new.ensures.same c.run.ensures.merged

pub returns-clause-moments : goal.returns-clause-moments
returns-clause-moments g c =
    subst (λ (j : JobState _ _ _). (before : Image) → AreTold (λ file. g.S.Frozen.Frozen.content file) j.run → IfTold (g.S.Device.Device.history j.device) (LeavesAt (IsShutOr before))
    → LeavesOnly (IsShutOrWhole before (merge_bytes (λ file. g.S.Frozen.Frozen.content file) j.head j.run)) (g.S.Device.Device.history j.device) (g.S.Device.Device.history c.run.result.device)) c.new.ensures.same c.run.ensures.moments

pub returns-clause-damaged : goal.returns-clause-damaged
returns-clause-damaged g c =
    subst (λ (j : JobState _ _ _). IfErr c.run.result.outcome (λ fault. IfHarmed fault (λ file place bytes. IsHarmIn (λ f. g.S.Frozen.Frozen.content f) j.run file place bytes))) c.new.ensures.same c.run.ensures.damaged
