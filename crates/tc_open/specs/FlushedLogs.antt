-- What becomes of the store and of the list of components where logs are flushed.
use Rattle.std.specs.Prelude.{◌≡◌, ◌+◌, ◌-◌, ◌⊎◌, ℕ, zero, suc, List, [], ◌∷◌, ◌++◌, Option, length}
use Rattle.std.specs.List.{AllZip}
use Rattle.tc_store.specs.declared.damage.Damage.{Damage}
use Rattle.tc_store.specs.declared.file_name.FileName.{FileName}
use Rattle.tc_store.specs.declared.file_name.FileName.TheVariants.{Log}
use Rattle.tc_store.specs.Disk.{Disk, home}
use Rattle.tc_store.specs.DiskFile.{settled_file, DiskFile}
use Rattle.tc_store.specs.Moments.{IfTold}
use Rattle.tc_store.specs.StoreCalls.{FailsMaking, comes_home, frozen_entry, makes}
use Rattle.tc_component.specs.declared.head.Head.{Head}
use Rattle.tc_component.specs.Loaded.{IsLoadedOf}
use Rattle.tc_component.specs.Loading.{ComponentState}
use Rattle.tc_component.specs.Rows.{part_of}
use Rattle.tc_component.specs.Spelling.{name_of}
use Rattle.tc_log.specs.declared.write.Write as log
use Rattle.tc_memory.specs.Table as memory
use Rattle.tc_flush.specs.Counting.{IsCounted}
use Rattle.tc_flush.specs.Flushing.{flush_bytes}
use Rattle.tc_merge.specs.Merging.{newest_names, newest_schema}
use Rattle.tc_schema_model.specs.Counted.{nothing}
use Rattle.tc_plain_model.specs.Writes.{Write}
use Rattle.tc_lsm_model.specs.Contents.{Content}
use Rattle.tc_lsm_model.specs.Flushes.{IsFlush}
use Rattle.tc_lsm_model.specs.Lists.{live}
use Rattle.tc_lsm_model.specs.Tables.{table_over, Table}
use Rattle.tc_machine.specs.Logs.{all_writes}
use Rattle.tc_jobs.specs.Faults.{AreBytes, AreFiles}
use Rattle.tc_jobs.specs.Listing.{FitsBehind, IsListed, IsReadBack, IsUnlisted, behind}
use Rattle.tc_jobs.specs.Lists.{file_names}
use Rattle.tc_jobs.specs.ReadBack.{ComesHome}
use Rattle.tc_part_model.specs.PartState.{IsTold}
use Rattle.tc_part.specs.Harms.{IsHarmIn}
use Rattle.tc_open.specs.LastWrites.{written_in, HoldsLast}
use Rattle.tc_open.specs.BeingOpened.{IsOpening, stored_by}

-- the names of so many logs from a generation on
abbrev pub log_names : ℕ → ℕ → List FileName
log_names generation zero = []
log_names generation (suc n) = Log generation ∷ log_names (generation + 1) n

-- ---- over every store

-- a device of the component's name was made, and came home still
abbrev pub IsMadeStill : Head → List DiskFile → List Disk → List Disk → Type 0
IsMadeStill head device disks later = later ≡ comes_home (name_of head) frozen_entry device (makes (name_of head) disks)

-- a device of the component's name was made, which tells where the store does, and came home still; the component that it has is
-- listed behind the others
pub record IsFlushListed {F : Type 0} (content : F → Option (List ℕ)) (name : F → FileName) (head : Head) (old new : List (ComponentState F)) (disks later : List Disk) : Type 0 where
  pub device : List DiskFile
  pub listed : IsListed (IsReadBack content name head (name_of head) device) (FitsBehind old) (behind old) new
  pub still : IsMadeStill head device disks later
  pub tells : IfTold disks (λ disk. IsTold device)

-- nothing was made, or a device, which tells where the store does, and came home again, still or as it is
abbrev pub IsFlushGivenUp : Head → List Disk → List Disk → Type 0
IsFlushGivenUp head disks later =
    FailsMaking (name_of head) disks later ⊎ ((device : List DiskFile) × IfTold disks (λ disk. IsTold device) × ComesHome (name_of head) device (makes (name_of head) disks) later)

-- a device whose component is whole comes home still or as it is, and any other one as it is
abbrev pub EndsHome : Type 0 → FileName → List DiskFile → List Disk → List Disk → Type 0
EndsHome Whole name device old new = (Whole × ComesHome name device old new) ⊎ (new ≡ comes_home name (λ f. home f) device old)

-- The names are those of the listed components and of the logs of these generations, since a table that holds what was last written
-- in these cannot be over the components.
pub record AreDisordered {F : Type 0} (head : Head) (logs : List (List log.Write)) (list : List (ComponentState F)) (damage : Damage) : Type 0 where
  pub files : AreFiles (file_names list ++ log_names head.from (head.to + 1 - head.from)) damage
  pub table : memory.Table
  pub holds : HoldsLast list (written_in logs) table
  pub uncounted : IsCounted (newest_names [] list) (newest_schema nothing list) table → ⊥

-- A device that has all that a flush over the components writes of a table is read back as damaged, or as a component whose names do
-- not fit.
pub record IsFlushUnfit {F : Type 0} (content : F → Option (List ℕ)) (name : F → FileName) (head : Head) (list : List (ComponentState F)) (damage : Damage) : Type 0 where
  pub size : ℕ
  pub device : List DiskFile
  pub table : Table
  pub written : IfTold device (λ f. f ≡ settled_file (flush_bytes head (newest_names [] list) (newest_schema nothing list) table))
  pub unlisted : IsUnlisted (IsReadBack content name head (name_of head) device) (FitsBehind list) head size device damage

-- a record of a component is damaged, or the logs do not go with the components
abbrev pub IsBeginDamage : {F : Type 0} → (F → Option (List ℕ)) → Head → List (List log.Write) → List (ComponentState F) → Damage → Type 0
IsBeginDamage content head logs list damage = AreBytes (IsHarmIn content list) damage ⊎ AreDisordered head logs list damage

-- or the component that was made is read back as none that can be listed
abbrev pub IsReplayDamage : {F : Type 0} → (F → Option (List ℕ)) → (F → FileName) → Head → List (List log.Write) → List (ComponentState F) → Damage → Type 0
IsReplayDamage content name head logs list damage = IsBeginDamage content head logs list damage ⊎ IsFlushUnfit content name head list damage

-- ---- where the files are told

-- the component holds what the logs leave over the older ones, and nothing else is above these
pub record IsLogsFlushed {F : Type 0} (content : F → Option (List ℕ)) (head : Head) (cs : List Content) (logs : List (List Write)) (list : List (ComponentState F)) (disks : List Disk) : Type 0 where
  pub made : Content
  pub is_flush : IsFlush (part_of head) cs (table_over (live cs) (all_writes logs)) (length logs) made
  pub loaded : IfTold disks (λ disk. AllZip (IsLoadedOf content) list (cs ++ made ∷ []))
  pub stored : live (cs ++ made ∷ []) ≡ stored_by cs logs
  pub opening : IsOpening (part_of head) (cs ++ made ∷ []) [] disks
