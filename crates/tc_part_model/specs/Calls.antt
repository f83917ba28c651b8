-- What the calls of logs and stores promise that the calls of a part make: the premises of the laws of a part.
use Rattle.std.specs.Prelude.{◌≡◌, ◌≢◌, ℕ, List, [], ◌++◌, length, All, Some, IfSome}
use Rattle.tc_model.specs.Document.{Name}
use Rattle.tc_schema_model.specs.Counted.{Counted}
use Rattle.tc_store.specs.declared.file_name.FileName.{FileName}
use Rattle.tc_store.specs.declared.file_name.FileName.TheVariants.{Component, Log}
use Rattle.tc_store.specs.Disk.{Disk}
use Rattle.tc_store.specs.DiskFile.{DiskFile, IsSettled, settled_file}
use Rattle.tc_store.specs.Gate.{IsShutOr, IsShutOrWhole}
use Rattle.tc_store.specs.Images.{Image, IsImageOf}
use Rattle.tc_store.specs.Moments.{IfTold, LeavesAt, LeavesOnly}
use Rattle.tc_log.specs.declared.head.LogHead.{LogHead}
use Rattle.tc_log.specs.declared.write.Write.{Write}
use Rattle.tc_log.specs.Appending.{MeansWithOrWithout}
use Rattle.tc_log.specs.Spelling.{Means, log_at_rest}
use Rattle.tc_component.specs.declared.head.Head.{Head}
use Rattle.tc_component.specs.Rows.{IsComponent, component_bytes, part_of}
use Rattle.tc_memory.specs.Table.{Table}
use Rattle.tc_flush.specs.Flushing.{IsBehind}
use Rattle.tc_lsm_model.specs.Contents.{Content}
use Rattle.tc_lsm_model.specs.Flushes.{IsFlush}
use Rattle.tc_machine.specs.Components.{file_of}
use Rattle.tc_machine.specs.State.{Sealed}
use Rattle.tc_part_model.specs.PartState.{IsTold}
use Rattle.tc_part_model.specs.PartView.{PartView}

-- an append of these writes, done or not: of the log as it was, a stop leaves its content
pub record Appends (ws : List Write) (old new : List DiskFile) : Type 0 where
  pub stays : IfTold old (λ f. IsImageOf f f.content)
  pub moments : (head : LogHead) (writes : List Write) → IfTold old (λ f. Means f.content head writes) → LeavesOnly (MeansWithOrWithout head writes ws) old new
  pub after : (head : LogHead) (writes : List Write) → IfTold old (λ f. Means f.content head writes) → IfTold new (LeavesAt (MeansWithOrWithout head writes ws))

-- done
pub record HasAppended (ws : List Write) (old new : List DiskFile) : Type 0 where
  pub appends : Appends ws old new
  pub durable : (head : LogHead) (writes : List Write) → IfTold old (λ f. Means f.content head writes) → IfTold new (λ f. IsSettled f × Means f.content head (writes ++ ws))

-- the creation of a log on a device that was just made, done or not: each of its moments leaves what was there before, or the
-- whole log without a frame
pub record Creates (head : LogHead) (device new : List DiskFile) : Type 0 where
  pub moments : (before : Image) → IfTold device (LeavesAt (IsShutOr before)) → LeavesOnly (IsShutOrWhole before (log_at_rest head [])) device new

-- done
pub record HasCreated (head : LogHead) (device new : List DiskFile) : Type 0 where
  pub creates : Creates head device new
  pub content : IfTold new (λ f. f ≡ settled_file (log_at_rest head []))

-- a log on which nothing is pending, of so many bytes
abbrev pub RestsWith : ℕ → DiskFile → Type 0
RestsWith bytes f = IsSettled f × (bytes ≡ length f.content)

-- ---- jobs

-- what the flush of the sealed table makes
abbrev pub MakesFlush : PartView → Content → Type 0
MakesFlush p c = IfSome p.sealed (λ d. IsFlush p.part p.list d.table (length d.logs) c)

-- The sealed table, as the memory table of its one log, lies behind the list, so that it can be flushed under this header, over
-- these names and this schema.
pub record FlushesBehind (p : PartView) (head : Head) (names : List Name) (schema : Counted) (kept : Table) : Type 0 where
  pub sealed : Sealed
  pub is_sealed : p.sealed ≡ Some sealed
  pub one_log : length sealed.logs ≡ 1
  pub here : part_of head ≡ p.part
  pub behind : IsBehind p.list sealed.table 1 head names schema kept

-- a job's device has the whole component of a content, and nothing is pending; where the store tells, it does
pub record HasMade (c : Content) (disks : List Disk) (device : List DiskFile) : Type 0 where
  pub whole : IsComponent c (component_bytes c)
  pub tells : IfTold disks (λ disk. IsTold device)
  pub content : IfTold device (λ f. f ≡ settled_file (component_bytes c))

-- the name is that of a component that is not listed
abbrev pub IsUnlisted : List Content → FileName → Type 0
IsUnlisted cs (Component from to) = All (λ c. file_of c ≢ Component from to) cs
IsUnlisted cs (Log generation) = ⊥
