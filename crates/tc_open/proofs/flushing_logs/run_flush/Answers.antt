use Rattle.std.proofs.Common.{◌≡◌, ℕ, List, subst}
use Rattle.std.specs.Prelude.{All}
use Rattle.std.specs.Arc.{arc_value}
use Rattle.std.specs.Result.{IsOk}
use Rattle.tc_store.specs.DiskFile.{settled_file}
use Rattle.tc_store.specs.Gate.{IsShutOr, IsShutOrWhole}
use Rattle.tc_store.specs.Images.{Image}
use Rattle.tc_store.specs.Moments.{IfTold, LeavesAt, LeavesOnly}
use Rattle.tc_component.specs.Rows.{IsShortWrite, component_bytes, part_of}
use Rattle.tc_lsm_model.specs.Contents.{Content}
use Rattle.tc_lsm_model.specs.Flushes.{IsFlush}
use Rattle.tc_lsm_model.specs.Tables.{Table}
use Rattle.tc_memory.specs.DocumentTables.{IsTableOf}
use Rattle.tc_flush.specs.Flushing.{IsBehind, flush_bytes}
use Rattle.tc_flush.specs.Jobs.{JobState}
use Rattle.tc_open.proofs.ToldMoments.{tells_on}
use Rattle.tc_open.proofs.flushing_logs.run_flush.Goals as goal

pub returns-clause-whole : goal.returns-clause-whole
returns-clause-whole g c =
    subst (λ (j : JobState _ _). IsOk c.run.result.outcome → (t : Table) → IsTableOf t j.kept → IfTold (g.S.Device.Device.history c.run.result.device) (λ f. f ≡ settled_file (flush_bytes j.head j.names j.schema t))) c.new.ensures.same c.run.ensures.whole

pub returns-clause-flushed : goal.returns-clause-flushed
returns-clause-flushed g c =
    subst (λ (j : JobState _ _). (cs : List Content) (t : Table) (generations : ℕ) → IsBehind cs t generations j.head j.names j.schema j.kept
    → (m : Content) × IsFlush (part_of j.head) cs t generations m × All IsShortWrite m.entries × (component_bytes m ≡ flush_bytes j.head j.names j.schema t)) c.new.ensures.same c.run.ensures.flushed

pub returns-clause-moments : goal.returns-clause-moments
returns-clause-moments g c =
    subst (λ (j : JobState _ _). (before : Image) (t : Table) → IsTableOf t j.kept → IfTold (g.S.Device.Device.history j.device) (LeavesAt (IsShutOr before))
    → LeavesOnly (IsShutOrWhole before (flush_bytes j.head j.names j.schema t)) (g.S.Device.Device.history j.device) (g.S.Device.Device.history c.run.result.device)) c.new.ensures.same c.run.ensures.moments

pub returns-clause-tells : goal.returns-clause-tells
returns-clause-tells g c = λ before shut tells.
    let kept = c.tables_keep_documents.ensures.some (arc_value c.args.begun.inputs.sealed) c.requires.lawful in
    tells_on (LeavesAt (IsShutOrWhole before (flush_bytes c.args.head c.args.begun.inputs.names c.args.begun.inputs.schema kept.table))) (g.S.Device.Device.history c.args.begun.device) (g.S.Device.Device.history c.run.result.device) tells
    (returns-clause-moments g c before kept.table kept.of shut)
