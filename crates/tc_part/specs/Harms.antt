-- What is told of a component in whose place of a record something else stands.
use Rattle.std.specs.Prelude.{◌≡◌, ◌⊎◌, ℕ, List, length, slice_get, Option, Some, IfSome}
use Rattle.tc_model.specs.Document.{Document}
use Rattle.tc_compact.specs.Meant.{IsRecordUnder}
use Rattle.tc_store.specs.declared.damage.Damage.{Damage}
use Rattle.tc_store.specs.declared.damage.Damage.TheVariants.{Bytes, Files}
use Rattle.tc_store.specs.declared.file_name.FileName.{FileName}
use Rattle.tc_component.specs.declared.found.Place.{Place}
use Rattle.tc_component.specs.Fetching.{IsPlace, record_place, length_at, record_at, IsRecordWithin}
use Rattle.tc_component.specs.Loading.{ComponentState}
use Rattle.tc_component.specs.Spelling.{name_of}
use Rattle.tc_part.specs.declared.fault.PartFault.{PartFault}
use Rattle.tc_part.specs.declared.fault.PartFault.TheVariants.{Damaged, Spent}

abbrev pub IsBytesHarm : Damage → (FileName → ℕ → List ℕ → Type 0) → Type 0
IsBytesHarm (Bytes file place bytes) P = P file place bytes
IsBytesHarm (Files names) P = ⊥

-- A fault of a call that reads: for want of memory, of a disk, or damage, of which this holds by the file, the place and the
-- bytes there.
abbrev pub IsOfRead : PartFault → (FileName → ℕ → List ℕ → Type 0) → Type 0
IsOfRead (Damaged damage) P = IsBytesHarm damage P
IsOfRead Spent P = ⊥
IsOfRead _ _ = Unit {0}

-- the bytes are those of the entry's record in the file, if it tells
abbrev pub AreOfFile : {F : Type 0} → (F → Option (List ℕ)) → ComponentState F → ℕ → List ℕ → Type 0
AreOfFile content c at bytes = IfSome (content c.file) (λ whole. bytes ≡ record_at c.index.slots at whole)

-- The bytes stand at the place of an entry of a component, and are the record of no document under its names; and they are
-- the file's, if it tells.
pub record IsHarmOf {F : Type 0} (content : F → Option (List ℕ)) (c : ComponentState F) (file : FileName) (place : ℕ) (bytes : List ℕ) : Type 0 where
  pub entry : Place
  pub there : IsPlace c.index.slots entry
  pub file_is : file ≡ name_of c.index.head
  pub place_is : place ≡ record_place c.index.slots entry.at
  pub long : length bytes ≡ length_at c.index.slots entry.at
  pub broken : (IsRecordWithin c.index.version (length c.index.names) bytes → ⊥) ⊎ ((d : Document) → IsRecordUnder c.index.names d bytes → ⊥)
  pub told : AreOfFile content c entry.at bytes

-- so of one in a list
pub record IsHarmIn {F : Type 0} (content : F → Option (List ℕ)) (components : List (ComponentState F)) (file : FileName) (place : ℕ) (bytes : List ℕ) : Type 0 where
  pub at : ℕ
  pub component : ComponentState F
  pub here : slice_get components at ≡ Some component
  pub harm : IsHarmOf content component file place bytes
