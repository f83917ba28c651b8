-- What becomes of the store and of the list of components where all of them are merged into one.
use Rattle.std.specs.Prelude.{◌≡◌, ◌⊎◌, ◌-◌, ℕ, List, [], ◌∷◌, Option, length}
use Rattle.std.specs.List.{AllZip}
use Rattle.tc_store.specs.declared.damage.Damage.{Damage}
use Rattle.tc_store.specs.declared.file_name.FileName.{FileName}
use Rattle.tc_store.specs.Disk.{Disk}
use Rattle.tc_store.specs.DiskFile.{settled_file, DiskFile}
use Rattle.tc_store.specs.Moments.{IfTold}
use Rattle.tc_component.specs.declared.head.Head.{Head}
use Rattle.tc_component.specs.Loaded.{IsLoadedOf}
use Rattle.tc_component.specs.Loading.{ComponentState}
use Rattle.tc_component.specs.Rows.{part_of}
use Rattle.tc_component.specs.Spelling.{name_of}
use Rattle.tc_lsm_model.specs.Contents.{Content}
use Rattle.tc_lsm_model.specs.Lists.{live, names_of}
use Rattle.tc_lsm_model.specs.Merges.{IsMerge}
use Rattle.tc_list.specs.declared.run.Run.{Run}
use Rattle.tc_machine.specs.Components.{file_of}
use Rattle.tc_list.specs.Intervals.{first_of, last_of}
use Rattle.tc_merge.specs.Faults as merge
use Rattle.tc_merge.specs.Merging.{merge_bytes, AreTold}
use Rattle.tc_jobs.specs.Faults.{AreBytes}
use Rattle.tc_jobs.specs.Listing.{FitsFor, IsReadBack, IsUnlisted}
use Rattle.tc_part_model.specs.PartState.{IsTold}
use Rattle.tc_open.specs.FlushedLogs.{IsMadeStill}
use Rattle.tc_open.specs.BeingOpened.{IsOpening}

-- the run of all of them
abbrev pub whole_run : {F : Type 0} → List (ComponentState F) → Run
whole_run list = record { first = 0; last = length list - 1 }

-- the header of what merges them, in the partition of this number among so many
abbrev pub head_over : {F : Type 0} → ℕ → ℕ → List (ComponentState F) → Head
head_over number count list = record { number = number; count = count; from = first_of list; to = last_of list }

-- ---- over every store

-- a device of the component's name was made, which tells where the store does, and came home still; the component that it has is
-- listed in place of all
pub record IsMergeListed {F : Type 0} (content : F → Option (List ℕ)) (name : F → FileName) (head : Head) (old new : List (ComponentState F)) (disks later : List Disk) : Type 0 where
  pub device : List DiskFile
  pub component : ComponentState F
  pub made : IsReadBack content name head (name_of head) device component
  pub listed : new ≡ component ∷ []
  pub still : IsMadeStill head device disks later
  pub tells : IfTold disks (λ disk. IsTold device)

-- A device that has all that the merge of them all writes, where they are told, is read back as damaged, or as a component whose names
-- do not fit.
pub record IsMergeUnfit {F : Type 0} (content : F → Option (List ℕ)) (name : F → FileName) (head : Head) (list : List (ComponentState F)) (damage : Damage) : Type 0 where
  pub size : ℕ
  pub device : List DiskFile
  pub written : AreTold content list → IfTold device (λ f. f ≡ settled_file (merge_bytes content head list))
  pub unlisted : IsUnlisted (IsReadBack content name head (name_of head) device) (FitsFor (whole_run list) list) head size device damage

-- a record of a component is damaged, or the component that was made is read back as none that can be listed
abbrev pub IsMergeDamage : {F : Type 0} → (F → Option (List ℕ)) → (F → FileName) → Head → List (ComponentState F) → Damage → Type 0
IsMergeDamage content name head list damage = AreBytes (merge.IsHarmIn content list) damage ⊎ IsMergeUnfit content name head list damage

-- ---- where the files are told

-- one component holds what all of them hold together, and is listed alone
pub record IsListMerged {F : Type 0} (content : F → Option (List ℕ)) (head : Head) (cs : List Content) (list : List (ComponentState F)) (disks : List Disk) : Type 0 where
  pub made : Content
  pub is_merge : IsMerge cs made
  pub named : file_of made ≡ name_of head
  pub loaded : IfTold disks (λ disk. AllZip (IsLoadedOf content) list (made ∷ []))
  pub opening : IsOpening (part_of head) (made ∷ []) [] disks
  pub holds : live (made ∷ []) ≡ live cs
  pub names : names_of (made ∷ []) ≡ names_of cs
