-- A part that fails keeps its files, where the call changed none.
use Rattle.std.proofs.Common.{None, false, true, ◌≡◌, refl}
use Rattle.tc_store.specs.Disk.{Disk}
use Rattle.tc_store.specs.DiskFile.{DiskFile}
use Rattle.tc_machine.proofs.RunSteps.{part_failed_keeps}
use Rattle.tc_part_model.specs.Meaning.{IsPart, HasFailed}
use Rattle.tc_part_model.specs.PartFiles.{AreKeptAt, files_at}
use Rattle.tc_part_model.specs.PartState.{Told}
use Rattle.tc_part_model.specs.PartView.{PartView, state_with, store_of}
use Rattle.tc_part_model.proofs.ToldFiles.{if_files_map}

pub failing_keeps : (p : PartView) (disk : Disk) (f g : DiskFile) → AreKeptAt p false None disk f g → AreKeptAt p true None disk f g
failing_keeps p disk f g k = record {
  log_out = k.log_out;
  sealed_out = k.sealed_out;
  devices = k.devices;
  kept = λ job leave. part_failed_keeps p.part (state_with p false None (files_at p disk f g job)) (k.kept job leave);
}

pub fails_as : (t u : Told) (p : PartView) → IsPart t p → u.failed ≡ true → u.disks ≡ t.disks → u.log ≡ t.log → u.sealed_log ≡ t.sealed_log → HasFailed u p.part (store_of p) None
fails_as t u p is failed disks log sealed = record {
  failed = failed;
  view = p;
  here = refl;
  holds = refl;
  tells = rw (disks, log, sealed) is.tells;
  files = rw (disks, log, sealed) (if_files_map (AreKeptAt p false None) (AreKeptAt p true None) t.disks t.log t.sealed_log (failing_keeps p) is.files.kept);
}
