-- The log behind the components, with which a partition starts, is made; and what a stop leaves meanwhile.
use Rattle.std.specs.Prelude.{◌≡◌, ◌⊎◌, ◌+◌, List, [], None, true}
use Rattle.tc_store.specs.declared.file_name.FileName.{FileName}
use Rattle.tc_store.specs.Disk.{Disk, home, is_out}
use Rattle.tc_store.specs.DiskFile.{DiskFile}
use Rattle.tc_store.specs.Images.{Image}
use Rattle.tc_store.specs.Moments.{EachSince}
use Rattle.tc_store.specs.Pictures.{HeldOut, LeavesPictures}
use Rattle.tc_store.specs.StoreCalls.{FailsMaking, comes_home, fresh_file_at, makes}
use Rattle.tc_log.specs.declared.head.LogHead.{LogHead}
use Rattle.tc_plain_model.specs.Writes.{Pairs}
use Rattle.tc_lsm_model.specs.Contents.{Partition, Content}
use Rattle.tc_lsm_model.specs.Lists.{last_of, live}
use Rattle.tc_machine.specs.Logs.{IsLog}
use Rattle.tc_machine.specs.Pictures.{Recovers}
use Rattle.tc_machine.specs.Sound.{IsWithOrWithout}
use Rattle.tc_machine.specs.Steps.{IsShutOrHas}
use Rattle.tc_part_model.specs.Calls.{Creates}
use Rattle.tc_part_model.specs.Starting.{first_log}

-- no file was made, or the log was not created on its device, which came home
abbrev pub FailsCreating : LogHead → FileName → List Disk → List Disk → Type 0
FailsCreating head name old new =
    FailsMaking name old new ⊎ ((broken : List DiskFile) × Creates head (fresh_file_at name old) broken × (new ≡ comes_home name (λ f. home f) broken (makes name old)))

-- of the one file that is out a stop leaves what is said
abbrev pub held_under : FileName → (Image → Type 0) → HeldOut
held_under name P n image = (n ≡ name) × P image

-- each picture holds these documents, whatever the one file that is out has
abbrev pub Holds : Partition → Pairs → HeldOut → Disk → Type 0
Holds part pairs held disk = LeavesPictures held (λ picture. Recovers part picture (IsWithOrWithout pairs None)) disk

-- the log behind these components, while it is made: absent, closed, or without a frame
abbrev pub MakesLog : Partition → List Content → Image → Type 0
MakesLog part cs = IsShutOrHas (IsLog part (last_of cs + 1) [])

-- No file is out but that log, and each picture holds these documents, whatever the log has.
pub record IsStarting (part : Partition) (cs : List Content) (pairs : Pairs) (disk : Disk) : Type 0 where
  pub alone : (name : FileName) → is_out (disk name) ≡ true → name ≡ first_log cs
  pub leaves : Holds part pairs (held_under (first_log cs) (MakesLog part cs)) disk

-- at each moment from the one on to the other, with what is live in the components
abbrev pub EachStarts : Partition → List Content → List Disk → List Disk → Type 0
EachStarts part cs old new = EachSince (IsStarting part cs (live cs)) old new
