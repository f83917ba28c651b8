-- A picture at a moment inside a call.
use Rattle.tc_lsm_model.specs.Contents.{Partition}
use Rattle.tc_store.specs.Disk.{Picture, home}
use Rattle.tc_store.specs.DiskFile.{DiskFile}
use Rattle.tc_store.specs.declared.file_name.FileName.{FileName}
use Rattle.tc_machine.specs.Beside.{IsPictureBeside}
use Rattle.tc_machine.specs.Events.{Event, device_called, step, with_entry}
use Rattle.tc_machine.specs.Kept.{IsKept}
use Rattle.tc_machine.specs.Pictures.{Recovers}
use Rattle.tc_machine.specs.Sound.{IsWithOrWithout}
use Rattle.tc_machine.specs.State.{State, stored_in}
use Rattle.tc_machine.specs.Steps.{CallsDevice, May}
use Rattle.tc_machine.proofs.Beside.{picture_beside_recovers}
use Rattle.tc_machine.proofs.Events.{event_keeps}

-- after a call of a device, whatever the jobs had done by then
pub moment_recovers : (part : Partition) (s : State) (name : FileName) (f : DiskFile) (picture : Picture) → IsKept part s → CallsDevice part s name f → IsPictureBeside part (with_entry name (home f) s) picture
    → Recovers part picture (IsWithOrWithout (stored_in s) s.frame)
moment_recovers part s name f picture k c beside = picture_beside_recovers part (with_entry name (home f) s) picture (event_keeps part s (device_called name f) k c) beside

-- and after any other event
pub event_recovers : (part : Partition) (s : State) (e : Event) (picture : Picture) → IsKept part s → May part e s → IsPictureBeside part (step e s) picture
    → Recovers part picture (IsWithOrWithout (stored_in (step e s)) (step e s).frame)
event_recovers part s e picture k m beside = picture_beside_recovers part (step e s) picture (event_keeps part s e k m) beside
