-- What the creation of a log does to its device, and what is in the store once that device came home, from the clauses of the calls.
use Rattle.std.proofs.Common.{◌≡◌, ◌∙◌, List, [], ◌∷◌, ap, refl, subst, sym}
use Rattle.tc_store.specs.declared.file_name.FileName.{FileName}
use Rattle.tc_store.specs.Disk.{Disk, home, out}
use Rattle.tc_store.specs.DiskFile.{DiskFile}
use Rattle.tc_store.specs.Gate.{IsShutOr, IsShutOrWhole}
use Rattle.tc_store.specs.Images.{Image}
use Rattle.tc_store.specs.Moments.{IfTold, LeavesAt, LeavesOnly}
use Rattle.tc_store.specs.StoreCalls.{comes_home, fresh_file_at, makes}
use Rattle.tc_store.proofs.MomentLemmas.{EachSince-none}
use Rattle.tc_store.proofs.NameLemmas.{put_there}
use Rattle.tc_log.specs.declared.head.LogHead.{LogHead}
use Rattle.tc_log.specs.Spelling.{log_at_rest}
use Rattle.tc_part_model.specs.Calls.{Creates, HasCreated}
use Rattle.tc_part_model.specs.PartState.{IsTold}
use Rattle.tc_open.proofs.ToldMoments.{device_tells, tells_on}

-- of a device that the store made, where it tells and where it does not
pub made_creates : (head : LogHead) (name : FileName) (disks : List Disk) (device new : List DiskFile) → device ≡ fresh_file_at name disks
    → ((before : Image) → IfTold device (λ f. LeavesAt (IsShutOr before) f → LeavesOnly (IsShutOrWhole before (log_at_rest head [])) device new)) → (device ≡ [] → new ≡ []) → Creates head (fresh_file_at name disks) new
made_creates head name [] device new file moments untold = record { moments = λ before from. EachSince-none (LeavesAt (IsShutOrWhole before (log_at_rest head []))) [] new (untold file) }
made_creates head name (disk ∷ past) device new file moments untold = record {
  moments = λ before from. subst (λ d. IfTold d (λ f. LeavesAt (IsShutOr before) f → LeavesOnly (IsShutOrWhole before (log_at_rest head [])) d new)) file (moments before) from;
}

-- the device that came home is that of the file that was made
pub came_home : (name at : FileName) (device : List DiskFile) (old made new : List Disk) → new ≡ comes_home at (λ f. home f) device made → at ≡ name → made ≡ makes name old → new ≡ comes_home name (λ f. home f) device (makes name old)
came_home name at device old made new back named is = back ∙ ap (λ n. comes_home n (λ f. home f) device made) named ∙ ap (comes_home name (λ f. home f) device) is

-- the log that was made is out, and its device tells where the store does
pub log_is_out : (name : FileName) (head : LogHead) (disks later : List Disk) (device : List DiskFile) → later ≡ makes name disks → HasCreated head (fresh_file_at name disks) device → IfTold later (λ disk. (disk name ≡ out) × IsTold device)
log_is_out name head disks later device is created =
    let fresh = fresh_file_at name disks in
    subst (λ ds. IfTold ds (λ disk. (disk name ≡ out) × IsTold device)) (sym is)
    (at disks (device_tells name disks fresh device refl (λ before shut tells. tells_on (LeavesAt (IsShutOrWhole before (log_at_rest head []))) fresh device tells (created.creates.moments before shut))))
  where
    at : (ds : List Disk) → IfTold ds (λ disk. IsTold device) → IfTold (makes name ds) (λ disk. (disk name ≡ out) × IsTold device)
    at [] tells = tt
    at (disk ∷ past) tells = (put_there name out disk, tells)
