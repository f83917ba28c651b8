-- The contents that the files of components tell.
use Rattle.std.specs.Prelude.{◌≡◌, ◌<◌, ◌==◌, ℕ, if◌then◌else◌, List, [], ◌∷◌, take, drop, slice_get, Option, Some, None, unwrap_or}
use Rattle.tc_bytes.specs.Reading.{◌>>=◌}
use Rattle.tc_model.specs.Document.{Name, Document}
use Rattle.tc_plain_model.specs.Writes.{Write}
use Rattle.tc_lsm_model.specs.Contents.{Partition, Content}
use Rattle.tc_record.specs.Building.{document_read}
use Rattle.tc_record.specs.Sections.{record_read}
use Rattle.tc_compact.specs.Meant.{tokens_meant}
use Rattle.tc_component.specs.declared.slot.Slot.{Slot}
use Rattle.tc_component.specs.Fetching.{record_at}
use Rattle.tc_component.specs.Layout.{records_place}
use Rattle.tc_component.specs.Loading.{ComponentState}
use Rattle.tc_component.specs.Rows.{part_of}
use Rattle.tc_component.specs.Spelling.{Index, Holds}
use Rattle.tc_audit.specs.Stored.{IsStoredIn}

-- the document that a record spells under these names, if it spells one
unfoldable pub document_in : List Name → List ℕ → Option Document
document_in names bytes = record_read bytes >>= λ r. document_read (tokens_meant names r.1)

-- the entry of a slot whose record stands at the front of these bytes: one without a record is gone
abbrev pub entry_in : List Name → Slot → List ℕ → Write
entry_in names s bytes = (s.key, if s.length == 0 then None else document_in names (take s.length bytes))

-- the entries of slots whose records stand one behind the other
abbrev pub entries_in : List Name → List Slot → List ℕ → List Write
entries_in names [] bytes = []
entries_in names (s ∷ slots) bytes = entry_in names s bytes ∷ entries_in names slots (drop s.length bytes)

-- the content of a component, whose file has these bytes
abbrev pub content_in : Index → List ℕ → Content
content_in index bytes = record {
  part = part_of index.head;
  from = index.head.from;
  to = index.head.to;
  entries = entries_in index.names index.slots (drop records_place bytes);
  names = index.names;
  schema = index.schema;
}

-- what the files tell, where they do
abbrev pub bytes_told : {F : Type 0} → (F → Option (List ℕ)) → ComponentState F → List ℕ
bytes_told told c = unwrap_or (told c.file) []

-- a component of this partition
abbrev pub IsOf : {F : Type 0} → Partition → ComponentState F → Type 0
IsOf part c = (c.index.head.number ≡ part.number) × (c.index.head.count ≡ part.count)

-- the file tells its bytes, which are a component with this index, whatever its records are
pub record IsHeld {F : Type 0} (told : F → Option (List ℕ)) (c : ComponentState F) : Type 0 where
  pub bytes : List ℕ
  pub tells : told c.file ≡ Some bytes
  pub holds : Holds bytes c.index

-- each of the first so many entries that has a record has a stored one
abbrev pub AreStoredUpTo : Index → List ℕ → ℕ → Type 0
AreStoredUpTo c bytes end = (at : ℕ) (s : Slot) → at < end → slice_get c.slots at ≡ Some s → 0 < s.length → IsStoredIn c.version c.names (record_at c.slots at bytes)
