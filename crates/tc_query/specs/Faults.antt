-- Why a query failed, and how its reads are counted.
use Rattle.std.specs.Prelude.{◌≡◌, ◌≤◌, ◌+◌, ◌⊎◌, ℕ, List, length, slice_get, Option, Some, IfSome}
use Rattle.tc_bytes.specs.Counts.{Rose}
use Rattle.tc_compact.specs.Meant.{IsRecordUnder}
use Rattle.tc_component.specs.declared.found.Place.{Place}
use Rattle.tc_component.specs.Fetching.{IsPlace, record_place, length_at, record_at, IsRecordWithin}
use Rattle.tc_component.specs.Loading.{ComponentState}
use Rattle.tc_component.specs.Spelling.{name_of}
use Rattle.tc_model.specs.Document.{Name, Document}
use Rattle.tc_query.specs.declared.fault.QueryFault.{QueryFault}
use Rattle.tc_query.specs.declared.fault.QueryFault.TheVariants.{Damaged}
use Rattle.tc_store.specs.Counted.{Counts}
use Rattle.tc_store.specs.declared.file_name.FileName.{FileName}

-- of damage this holds, by the file, the place and the bytes there
abbrev pub OfDamage : QueryFault → (FileName → ℕ → List ℕ → Type 0) → Type 0
OfDamage (Damaged file place bytes) P = P file place bytes
OfDamage _ _ = Unit {0}

-- nothing was found damaged
abbrev pub IsUnharmed : QueryFault → Type 0
IsUnharmed fault = OfDamage fault (λ file place bytes. ⊥)

-- bytes are no record of the form of a version, or that of no document under a dictionary
abbrev pub AreNoRecord : ℕ → List Name → List ℕ → Type 0
AreNoRecord version names bytes = (IsRecordWithin version (length names) bytes → ⊥) ⊎ ((document : Document) → IsRecordUnder names document bytes → ⊥)

-- The bytes stand at the place of an entry of a component, and are the record of no document under its names; and they are
-- those of the file, if that tells.
pub record IsHarmOf {F : Type 0} (told : F → Option (List ℕ)) (component : ComponentState F) (file : FileName) (place : ℕ) (bytes : List ℕ) : Type 0 where
  pub entry : Place
  pub there : IsPlace component.index.slots entry
  pub file_is : file ≡ name_of component.index.head
  pub place_is : place ≡ record_place component.index.slots entry.at
  pub long : length bytes ≡ length_at component.index.slots entry.at
  pub broken : AreNoRecord component.index.version component.index.names bytes
  pub stands : IfSome (told component.file) (λ whole. bytes ≡ record_at component.index.slots entry.at whole)

-- so of one of these components
pub record IsHarmIn {F : Type 0} (told : F → Option (List ℕ)) (components : List (ComponentState F)) (file : FileName) (place : ℕ) (bytes : List ℕ) : Type 0 where
  pub at : ℕ
  pub component : ComponentState F
  pub here : slice_get components at ≡ Some component
  pub harm : IsHarmOf told component file place bytes

-- Reads of a call that may make several. Where it failed for a fault, one was counted.
pub record IsWatched (Failed : Type 0) (old new : Counts) : Type 0 where
  pub faults : old.faults ≤ new.faults
  pub cause : Failed → Rose old.faults new.faults

-- At most one read, and one only where that is wanted.
abbrev pub IsReadIf : Type 0 → Counts → Counts → Type 0
IsReadIf Wanted old new = (new.reads ≡ old.reads) ⊎ (Wanted × (new.reads ≤ old.reads + 1))
