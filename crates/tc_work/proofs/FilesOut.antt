-- What a job that begins, runs and ends on this thread keeps of which files are out: its device tells, and so do the logs.
use Rattle.std.proofs.Common.{◌≡◌}
use Rattle.std.specs.Prelude.{IfSome}
use Rattle.tc_part.proofs.DevicesOut.{made_told}
use Rattle.tc_part.specs.FilesOut.{TellsLogs}
use Rattle.tc_part_model.specs.PartState.{IsTold, Told}
use Rattle.tc_store.specs.declared.file_name.FileName.{FileName}
use Rattle.tc_store.specs.StoreCalls.{makes}

-- the logs, once the file of the device is made
pub logs_tell_still : (name : FileName) (t u : Told) → u.disks ≡ makes name t.disks → u.log ≡ t.log → u.sealed_log ≡ t.sealed_log → TellsLogs t → TellsLogs u
logs_tell_still name t u disks log sealed_log tells = record {
  active = rw (disks, log) (made_told name (IsTold t.log) t.disks tells.active);
  sealed = rw (disks, sealed_log) (made_told name (IfSome t.sealed_log (λ moments. IsTold moments)) t.disks tells.sealed);
}
