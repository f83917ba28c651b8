-- What one step of an opening hands to the next.
use Rattle.std.specs.Prelude.{◌≡◌, ◌<◌, ◌≤◌, ◌+◌, ◌^◌, ℕ, List, [], Option, None, map, length, All}
use Rattle.std.specs.List.{AllByRecursion, AllZip}
use Rattle.tc_store.specs.declared.file_name.FileName.{FileName}
use Rattle.tc_store.specs.declared.file_name.FileName.TheVariants.{Component, Log}
use Rattle.tc_store.specs.Disk.{Disk}
use Rattle.tc_store.specs.Moments.{EachSince, IfTold}
use Rattle.tc_component.specs.Loaded.{IsLoadedOf}
use Rattle.tc_component.specs.Loading.{ComponentState}
use Rattle.tc_component.specs.Spelling.{IsIndex}
use Rattle.tc_log.specs.declared.write.Write as log
use Rattle.tc_log.specs.Writes.{IsWrite}
use Rattle.tc_plain_model.specs.Store.{Store}
use Rattle.tc_plain_model.specs.Writes.{Pairs, Write}
use Rattle.tc_lsm_model.specs.Contents.{Partition, Content}
use Rattle.tc_list.specs.Intervals.{last_of}
use Rattle.tc_machine.specs.Logs.{kept_write}
use Rattle.tc_machine.specs.Pictures.{recovered}
use Rattle.tc_part_model.specs.Leaving.{KeepsStore}
use Rattle.tc_part_model.specs.PartState.{IsTold}
use Rattle.tc_jobs.specs.Lists.{IsListOf}
use Rattle.tc_part.specs.Ready.{AreNamed}
use Rattle.tc_recover.specs.declared.taken.Taken.{Taken}
use Rattle.tc_recover.specs.Loading.{interval_of}
use Rattle.tc_recover.specs.Tilings.{Tile}
use Rattle.tc_open.specs.BeingOpened.{AreIn, IsOpening}
use Rattle.tc_open.specs.Openings.{LeavesStored}

-- ---- over every store

-- a log up to this generation
abbrev pub IsLogUpTo : ℕ → FileName → Type 0
IsLogUpTo most (Component from to) = ⊥
IsLogUpTo most (Log generation) = generation ≤ most

-- components of a partition, each with its own file, whose generations follow each other from 1 on
pub record AreListed {F : Type 0} (name : F → FileName) (part : Partition) (list : List (ComponentState F)) : Type 0 where
  pub of : IsListOf part.number part.count list
  pub lawful : All (λ c. IsIndex c.index) list
  pub named : AreNamed name list
  pub tile : Tile 0 (map interval_of list)

-- logs with their writes, one list a log, which follow the components up to a generation that a log may have
pub record AreAbove {F W : Type 0} (name : F → FileName) (list : List (ComponentState F)) (logs : List (Taken F W)) (writes : List (List log.Write)) (last : ℕ) : Type 0 where
  pub last_is : last ≡ last_of list
  pub each : All (AllByRecursion IsWrite) writes
  pub count : length writes ≡ length logs
  pub named : All (λ t. name t.file ≡ t.name) logs
  pub up_to : All (λ t. IsLogUpTo (last + length writes) t.name) logs
  pub bound : last + length writes < 2 ^ 63

-- ---- where the files are lawful

-- the store tells its files, the components are listed with the logs above them, and the machine keeps them
pub record Stands {F : Type 0} (content : F → Option (List ℕ)) (part : Partition) (cs : List Content) (logs : List (List Write)) (list : List (ComponentState F)) (writes : List (List log.Write)) (disks : List Disk) : Type 0 where
  pub tells : IsTold disks
  pub opening : IsOpening part cs logs disks
  pub loaded : AllZip (IsLoadedOf content) list cs
  pub written : writes ≡ map (λ ws. map kept_write ws) logs

-- no log is above the components, which hold what is so, and in which this is stored
pub record Rests {F : Type 0} (content : F → Option (List ℕ)) (part : Partition) (Are : List Content → Type 0) (stored : Store) (list : List (ComponentState F)) (disks : List Disk) : Type 0 where
  pub contents : List Content
  pub are : Are contents
  pub stands : Stands content part contents [] list [] disks
  pub same : recovered contents [] ≡ stored

-- At each moment from the one on to the other a stop leaves these documents, and so it does behind the last one, where no file
-- is out.
pub record Keeps (part : Partition) (pairs : Pairs) (old new : List Disk) : Type 0 where
  pub moments : EachSince (LeavesStored part pairs) old new
  pub kept : IfTold new (λ disk. AreIn disk × KeepsStore part pairs None disk)
