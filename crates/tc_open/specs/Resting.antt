-- The store of a partition between two steps of its opening: which files it has, and what the machine keeps of them.
use Rattle.std.specs.Prelude.{◌≡◌, ◌⊎◌, Contains, List, false}
use Rattle.tc_store.specs.declared.file_name.FileName.{FileName}
use Rattle.tc_store.specs.Disk.{Disk, Entry, home, still, out, is_out, IsThere}
use Rattle.tc_component.specs.Loading.{ComponentState}
use Rattle.tc_plain_model.specs.Writes.{Write}
use Rattle.tc_lsm_model.specs.Contents.{Partition, Content}
use Rattle.tc_jobs.specs.Lists.{file_names}
use Rattle.tc_machine.specs.Kept.{IsKept}
use Rattle.tc_machine.specs.Steps.{AreExpected}
use Rattle.tc_open.specs.BeingOpened.{opening_at}

-- a file that never changes, or none
abbrev pub IsStillOrGone : Entry → Type 0
IsStillOrGone (home f) = ⊥
IsStillOrGone out = ⊥
IsStillOrGone _ = Unit {0}

-- a file that is not at home to be written
abbrev pub IsTaken : Entry → Type 0
IsTaken (home f) = ⊥
IsTaken _ = Unit {0}

-- ---- over every store that tells its files

-- All files were taken, and none is out. Each that is there is that of a listed component, or has one of the other names.
pub record AreOwn {F : Type 0} (list : List (ComponentState F)) (others : List FileName) (disk : Disk) : Type 0 where
  pub taken : (name : FileName) → IsTaken (disk name)
  pub is_in : (name : FileName) → is_out (disk name) ≡ false
  pub own : (name : FileName) → IsThere (disk name) → Contains (file_names list) name ⊎ Contains others name

-- ---- the machine

-- The machine keeps the files while these components are listed, with these logs above them. All are still, and each file
-- that is there is needed.
pub record IsTidy (part : Partition) (cs : List Content) (logs : List (List Write)) (disk : Disk) : Type 0 where
  pub kept : IsKept part (opening_at cs logs disk)
  pub still : (name : FileName) → IsStillOrGone (disk name)
  pub expected : AreExpected (opening_at cs logs disk)
