-- What told something tells on, and the device of the flush of logs tells where the store does.
use Rattle.std.proofs.Common.{◌≡◌, ◌++◌, List, [], ◌∷◌, sym, subst, inl, inr}
use Rattle.tc_store.specs.declared.file_name.FileName.{FileName}
use Rattle.tc_store.specs.Disk.{Disk, removed_of}
use Rattle.tc_store.specs.DiskFile.{DiskFile}
use Rattle.tc_store.specs.Gate.{IsShutOr}
use Rattle.tc_store.specs.Images.{Image}
use Rattle.tc_store.specs.Moments.{EachSince, IfTold, LeavesAt}
use Rattle.tc_store.specs.StoreCalls.{fresh_file_at}
use Rattle.tc_machine.proofs.FilesMade.{made_at}
use Rattle.tc_part_model.specs.PartState.{IsTold}

pub told_on : {X : Type 0} (now : X) (past added : List X) → IsTold (added ++ now ∷ past)
told_on now past [] = tt
told_on now past (x ∷ added) = tt

pub tells_since : {X : Type 0} (P : X → Type 0) (now : X) (past new : List X) → EachSince P (now ∷ past) new → IsTold new
tells_since P now past new since = subst (λ l. IsTold l) (sym since.goes_on) (told_on now past since.added)

pub tells_on : {X : Type 0} (P : X → Type 0) (old new : List X) → IsTold old → EachSince P old new → IsTold new
tells_on P [] new tells since = absurd tells
tells_on P (now ∷ past) new tells since = tells_since P now past new since

-- a device that was made, and what a job leaves of it
pub device_tells : (name : FileName) (disks : List Disk) (fresh device : List DiskFile) → fresh ≡ fresh_file_at name disks → ((before : Image) → IfTold fresh (LeavesAt (IsShutOr before)) → IsTold fresh → IsTold device) → IfTold disks (λ disk. IsTold device)
device_tells name [] fresh device is tells = tt
device_tells name (disk ∷ past) fresh device is tells =
    let before = removed_of (disk name) in
    tells before (subst (λ fs. IfTold fs (LeavesAt (IsShutOr before))) (sym is) (made_at name before (IsShutOr before) tt (λ b shut. inl shut) (λ b was. inr was))) (subst (λ (fs : List DiskFile). IsTold fs) (sym is) tt)
