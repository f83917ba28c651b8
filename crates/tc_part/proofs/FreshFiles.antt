-- The file of a device that was just made: nothing of it is open, and its device goes on to tell it.
use Rattle.std.proofs.Common.{◌≡◌, ◌++◌, List, [], ◌∷◌, subst, sym, inl, inr, Some, None}
use Rattle.tc_store.specs.declared.file_name.FileName.{FileName}
use Rattle.tc_store.specs.Disk.{Disk, removed_of}
use Rattle.tc_store.specs.DiskFile.{DiskFile, empty_file}
use Rattle.tc_store.specs.Gate.{IsShutOr}
use Rattle.tc_store.specs.Images.{Image}
use Rattle.tc_store.specs.Moments.{EachSince, IfTold, LeavesAt}
use Rattle.tc_store.specs.StoreCalls.{fresh_file_at}
use Rattle.tc_machine.proofs.FilesMade.{empty_image}
use Rattle.tc_part_model.specs.PartState.{IsTold}

-- what was there before the file was made, and may still come back
abbrev pub before_in : FileName → List Disk → Image
before_in name [] = None
before_in name (disk ∷ past) = removed_of (disk name)

pub fresh_shut : (name : FileName) (disks : List Disk) → IfTold (fresh_file_at name disks) (LeavesAt (IsShutOr (before_in name disks)))
fresh_shut name [] = tt
fresh_shut name (disk ∷ past) = at
  where
    at : LeavesAt (IsShutOr (removed_of (disk name))) (empty_file (removed_of (disk name)))
    at None left = tt
    at (Some b) (inl is) = inl (empty_image (removed_of (disk name)) b is)
    at (Some b) (inr was) = inr was

-- a device of a store that tells
pub fresh_tells : (name : FileName) (disks : List Disk) → IsTold disks → IsTold (fresh_file_at name disks)
fresh_tells name [] tells = absurd tells
fresh_tells name (disk ∷ past) tells = tt

-- what tells goes on to tell
pub since_tells : {X : Type 0} (P : X → Type 0) (old new : List X) → EachSince P old new → IsTold old → IsTold new
since_tells {X = X} P old new since tells = subst (λ (xs : List X). IsTold xs) (sym since.goes_on) (at since.added)
  where
    at : (added : List X) → IsTold (added ++ old)
    at [] = tells
    at (x ∷ xs) = tt

-- what a call leaves of the device
pub ran_tells : (name : FileName) (disks : List Disk) (P : DiskFile → Type 0) (old new : List DiskFile) → IsTold disks → old ≡ fresh_file_at name disks → (IfTold old (LeavesAt (IsShutOr (before_in name disks))) → EachSince P old new) → IsTold new
ran_tells name disks P old new tells fresh moments =
    since_tells P old new (moments (subst (λ (fs : List DiskFile). IfTold fs (LeavesAt (IsShutOr (before_in name disks)))) (sym fresh) (fresh_shut name disks))) (subst (λ (fs : List DiskFile). IsTold fs) (sym fresh) (fresh_tells name disks tells))
