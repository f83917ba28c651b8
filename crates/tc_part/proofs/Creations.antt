-- What the creation of a log says of its moments, where the device tells and where it does not.
use Rattle.std.proofs.Common.{◌≡◌, List, [], ◌∷◌, refl}
use Rattle.std.proofs.lemmas.List.Elements.{All-nil}
use Rattle.tc_store.specs.DiskFile.{DiskFile}
use Rattle.tc_store.specs.declared.file_name.FileName.{FileName}
use Rattle.tc_store.specs.Disk.{Disk}
use Rattle.tc_store.specs.Gate.{IsShutOr, IsShutOrWhole}
use Rattle.tc_store.specs.Images.{Image}
use Rattle.tc_store.specs.Moments.{IfTold, LeavesAt, LeavesOnly}
use Rattle.tc_store.specs.StoreCalls.{fresh_file_at}
use Rattle.tc_log.specs.declared.head.LogHead.{LogHead}
use Rattle.tc_log.specs.Spelling.{log_at_rest}
use Rattle.tc_part_model.specs.Calls.{Creates}
use Rattle.tc_part_model.specs.PartState.{IsTold}
use Rattle.tc_part.proofs.FreshFiles.{before_in, ran_tells}

pub creates : (head : LogHead) (device new : List DiskFile)
    → ((before : Image) → IfTold device (λ f. LeavesAt (IsShutOr before) f → LeavesOnly (IsShutOrWhole before (log_at_rest head [])) device new)) → (device ≡ [] → new ≡ []) → Creates head device new
creates head [] new moments untold =
    record { moments = λ before from. record { added = []; goes_on = untold refl; each = All-nil (LeavesAt (IsShutOrWhole before (log_at_rest head []))); untold = untold } }
creates head (f ∷ past) new moments untold = record { moments = moments }

-- the device of a log that was just created tells its file, where the store does
pub created_tells : (name : FileName) (disks : List Disk) (head : LogHead) (device new : List DiskFile) → device ≡ fresh_file_at name disks → Creates head device new → IfTold disks (λ disk. IsTold new)
created_tells name [] head device new fresh creates = tt
created_tells name (disk ∷ past) head device new fresh creates =
    ran_tells name (disk ∷ past) (LeavesAt (IsShutOrWhole (before_in name (disk ∷ past)) (log_at_rest head []))) device new tt fresh (creates.moments (before_in name (disk ∷ past)))
