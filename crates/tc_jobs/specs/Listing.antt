-- What is listed of the component that a job made, and what becomes of a covered log.
use Rattle.std.specs.Prelude.{◌≡◌, ◌⊎◌, ◌+◌, ℕ, List, [], ◌∷◌, ◌++◌, drop, take, Option, Ok, Err, IfSome}
use Rattle.tc_lsm_model.specs.Contents.{Content}
use Rattle.tc_model.specs.Dictionary.{Extends}
use Rattle.tc_names.specs.Section.{section}
use Rattle.tc_store.specs.Disk.{Disk, home}
use Rattle.tc_store.specs.DiskFile.{DiskFile}
use Rattle.tc_store.specs.Judging.{damage}
use Rattle.tc_store.specs.StoreCalls.{comes_home, content_now, frozen_entry, removes}
use Rattle.tc_store.specs.declared.damage.Damage.{Damage}
use Rattle.tc_store.specs.declared.file_name.FileName.{FileName}
use Rattle.tc_component.specs.declared.head.Head.{Head}
use Rattle.tc_component.specs.Layout.{names_place}
use Rattle.tc_component.specs.Loaded.{IsLoadedOf}
use Rattle.tc_component.specs.Loading.{ComponentState}
use Rattle.tc_component.specs.Rows.{head_of, IsComponent}
use Rattle.tc_component.specs.Spelling.{IsIndex, name_of, sizes_in}
use Rattle.tc_list.specs.Runs.{swapped}
use Rattle.tc_list.specs.declared.run.Run.{Run}
use Rattle.tc_merge.specs.Merging.{newest_names}
use Rattle.tc_jobs.specs.Faults.{AreBytes}
use Rattle.tc_jobs.specs.Lists.{GoesBetween}
use Rattle.tc_jobs.specs.ReadBack.{IsDamageIn, own_judged}

-- ---- the component

-- It has this header, and its file the name and the content of the device. Of the bytes of a content it is that content's.
pub record IsReadBack {F : Type 0} (content : F → Option (List ℕ)) (name : F → FileName) (head : Head) (device_name : FileName) (device : List DiskFile) (c : ComponentState F) : Type 0 where
  pub has_head : c.index.head ≡ head
  pub lawful : IsIndex c.index
  pub has_content : content c.file ≡ content_now device
  pub has_name : name c.file ≡ device_name
  pub judged : IfSome (content_now device) (λ bytes. own_judged head bytes ≡ Ok c.index)
  pub loaded : IfSome (content_now device) (λ bytes. (of : Content) → IsComponent of bytes → head_of of ≡ head → IsLoadedOf content c of)

-- its names go on from those of the newest one listed
abbrev pub FitsBehind : {F : Type 0} → List (ComponentState F) → ComponentState F → Type 0
FitsBehind list c = Extends c.index.names (newest_names [] list)

-- its names go on from those before a run, and those behind the run from its
abbrev pub FitsFor : {F : Type 0} → Run → List (ComponentState F) → ComponentState F → Type 0
FitsFor run list c = GoesBetween (take run.first list) c (drop (run.last + 1) list)

-- ---- the list

-- a component of which this holds, and which fits, stands where it is put
pub record IsListed {F : Type 0} (Made Fits : ComponentState F → Type 0) (put : ComponentState F → List (ComponentState F)) (new : List (ComponentState F)) : Type 0 where
  pub component : ComponentState F
  pub made : Made component
  pub fits : Fits component
  pub listed : new ≡ put component

abbrev pub behind : {F : Type 0} → List (ComponentState F) → ComponentState F → List (ComponentState F)
behind list c = list ++ c ∷ []

abbrev pub in_place : {F : Type 0} → Run → List (ComponentState F) → ComponentState F → List (ComponentState F)
in_place run list c = swapped run c list

-- ---- damage

-- some file of this length is damaged so, and if the device tells its content, that is
pub record IsDamaged (head : Head) (size : ℕ) (device : List DiskFile) (place : ℕ) (bytes : List ℕ) : Type 0 where
  pub some : IsDamageIn head size place bytes
  pub told : IfSome (content_now device) (λ whole. own_judged head whole ≡ Err (damage place bytes))

-- a component of which this holds does not fit, and these are its names, at their place
pub record HasOtherNames {F : Type 0} (Made Fits : ComponentState F → Type 0) (place : ℕ) (bytes : List ℕ) : Type 0 where
  pub component : ComponentState F
  pub made : Made component
  pub unfit : Fits component → ⊥
  pub names : (place ≡ names_place (sizes_in component.index)) × (bytes ≡ section component.index.names)

-- the file of this header is damaged, or the names of the component that it is do not fit
abbrev pub IsUnlisted : {F : Type 0} → (ComponentState F → Type 0) → (ComponentState F → Type 0) → Head → ℕ → List DiskFile → Damage → Type 0
IsUnlisted Made Fits head size device = AreBytes (λ file place bytes. (file ≡ name_of head) × (IsDamaged head size device place bytes ⊎ HasOtherNames Made Fits place bytes))

-- ---- a covered log

-- the device comes home as it is, or its file is removed all the same
abbrev pub FailsRemoving : FileName → List DiskFile → List Disk → List Disk → Type 0
FailsRemoving name device old new = (new ≡ comes_home name home device old) ⊎ (new ≡ removes name (comes_home name frozen_entry device old))
