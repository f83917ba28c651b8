-- Damage that a part meets once it is open: which file has which bytes where, and what had to stand there.
use Rattle.std.specs.Prelude.{◌≡◌, ◌⊎◌, ℕ, List, [], Option, IfSome}
use Rattle.tc_component.specs.declared.head.Head.{Head}
use Rattle.tc_component.specs.Loading.{ComponentState}
use Rattle.tc_component.specs.Spelling.{name_of}
use Rattle.tc_flush.specs.Counting.{IsCounted}
use Rattle.tc_flush.specs.Flushing.{flush_bytes}
use Rattle.tc_jobs.specs.Faults.{AreBytes, AreFiles}
use Rattle.tc_jobs.specs.Listing.{behind, in_place, FitsBehind, FitsFor, HasOtherNames, IsDamaged, IsReadBack}
use Rattle.tc_jobs.specs.Lists.{file_names}
use Rattle.tc_list.specs.Runs.{in_run}
use Rattle.tc_list.specs.declared.run.Run.{Run}
use Rattle.tc_lsm_model.specs.Tables.{Table}
use Rattle.tc_memory.specs.DocumentTables.{IsTableOf}
use Rattle.tc_memory.specs.Table as memory
use Rattle.tc_merge.specs.Merging.{merge_bytes, newest_names, newest_schema, AreTold}
use Rattle.tc_model.specs.Document.{Name}
use Rattle.tc_part.specs.Harms.{IsBytesHarm, IsHarmIn}
use Rattle.tc_part.specs.JobHeads.{flushed_head, merged_head}
use Rattle.tc_part.specs.OwnComponents.{AreOwnComponents}
use Rattle.tc_part_model.specs.PartState.{PartState}
use Rattle.tc_schema_model.specs.Counted.{nothing, Counted}
use Rattle.tc_store.specs.DiskFile.{settled_file, DiskFile}
use Rattle.tc_store.specs.Moments.{IfTold}
use Rattle.tc_store.specs.declared.damage.Damage.{Damage}
use Rattle.tc_work.specs.Settling.{HasOnlyMoved}

-- ---- the sealed table

-- The names are those of all that is listed, since the sealed table cannot be over it.
pub record IsUncounted {F : Type 0} (list : List (ComponentState F)) (sealed : Option memory.Table) (damage : Damage) : Type 0 where
  pub files : AreFiles (file_names list) damage
  pub uncounted : IfSome sealed (λ table. IsCounted (newest_names [] list) (newest_schema nothing list) table) → ⊥

-- ---- what a job wrote

-- it is the component of this header that the device has, whatever its file is called
abbrev pub IsOfDevice : {F : Type 0} → (F → Option (List ℕ)) → Head → List DiskFile → ComponentState F → Type 0
IsOfDevice content head device = IsReadBack content (λ file. name_of head) head (name_of head) device

-- What the device has is no component of this header, or one whose names do not fit.
abbrev pub IsUnfit : {F : Type 0} → (F → Option (List ℕ)) → (ComponentState F → Type 0) → Head → List DiskFile → Damage → Type 0
IsUnfit content Fits head device = AreBytes (λ file place bytes. (file ≡ name_of head) × (((size : ℕ) × IsDamaged head size device place bytes) ⊎ HasOtherNames (IsOfDevice content head device) Fits place bytes))

-- These were listed when the device was read back: all that is, or all but what came of it.
abbrev pub WereListed : {F : Type 0} → List (ComponentState F) → (ComponentState F → List (ComponentState F)) → List (ComponentState F) → Type 0
WereListed {F = F} among put list = (list ≡ among) ⊎ ((c : ComponentState F) × (list ≡ put c))

-- A flush wrote all that it makes of a table under this header, and that is not its component, behind those that were listed. It is
-- the sealed table, while one is sealed.
pub record IsOfFlush {D F : Type 0} (content : F → Option (List ℕ)) (history : D → List DiskFile) (head : Head) (list : List (ComponentState F)) (sealed : Option memory.Table) (damage : Damage) : Type 0 where
  pub device : D
  pub names : List Name
  pub schema : Counted
  pub table : Table
  pub of : IfSome sealed (IsTableOf table)
  pub written : IfTold (history device) (λ f. f ≡ settled_file (flush_bytes head names schema table))
  pub among : List (ComponentState F)
  pub listed : WereListed among (behind among) list
  pub unfit : IsUnfit content (FitsBehind among) head (history device) damage

-- So did a merge of a run that was listed, under its header.
pub record IsOfMerge {D F : Type 0} (content : F → Option (List ℕ)) (history : D → List DiskFile) (number count : ℕ) (list : List (ComponentState F)) (damage : Damage) : Type 0 where
  pub device : D
  pub run : Run
  pub among : List (ComponentState F)
  pub written : AreTold content (in_run run among) → IfTold (history device) (λ f. f ≡ settled_file (merge_bytes content (merged_head number count run among) (in_run run among)))
  pub listed : WereListed among (in_place run among) list
  pub unfit : IsUnfit content (FitsFor run among) (merged_head number count run among) (history device) damage

-- ---- a part

-- What stands at the place of a record of a listed component is none, the sealed table cannot be over those that are listed, or what
-- a job wrote is read back as no component that can be listed.
abbrev pub IsPartDamage : {S D F W : Type 0} → (F → Option (List ℕ)) → (D → List DiskFile) → PartState S D F W → Damage → Type 0
IsPartDamage content history part damage =
    IsBytesHarm damage (IsHarmIn content part.list)
    ⊎ (IsUncounted part.list part.sealed damage
    ⊎ (IsOfFlush content history (flushed_head part.number part.count part.generation) part.list part.sealed damage ⊎ IsOfMerge content history part.number part.count part.list damage))

-- A call met it: it is damage of the part as it stood then, of which nothing had changed but where documents are. What it listed
-- was its own.
pub record HasMetDamage {S D F W : Type 0} (content : F → Option (List ℕ)) (history : D → List DiskFile) (old : PartState S D F W) (damage : Damage) : Type 0 where
  pub part : PartState S D F W
  pub moved : HasOnlyMoved old part
  pub own : AreOwnComponents content part.number part.count part.list
  pub is : IsPartDamage content history part damage
