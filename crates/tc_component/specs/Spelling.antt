-- The bytes of a component: its open gate, its header, the records, the directory, the names and the schema.
use Rattle.std.specs.Prelude.{◌≡◌, ◌<◌, ◌≤◌, ◌+◌, ◌^◌, ◌⊎◌, ℕ, List, [], ◌∷◌, ◌++◌, length, map, flat_map, sum_by, Option, None, Some}
use Rattle.std.specs.Int.{w32, w64, to_be_bytes}
use Rattle.std.specs.List.{AllByRecursion}
use Rattle.std.specs.List.Sorted.{IsStrictlySortedBy}
use Rattle.std.specs.Ordering.{nat_cmp}
use Rattle.tc_model.specs.Document.{Name}
use Rattle.tc_model.specs.Dictionary.{IsDictionary}
use Rattle.tc_names.specs.Section.{section}
use Rattle.tc_schema_model.specs.Counted.{Counted}
use Rattle.tc_schema_model.specs.SchemaTree.{schema_tree}
use Rattle.tc_schema_model.specs.SchemaBytes.{schema_bytes, IsSchema}
use Rattle.tc_record.specs.Record.{packed_form, IsNumberedForm}
use Rattle.tc_store.specs.declared.file_name.FileName.{FileName}
use Rattle.tc_store.specs.declared.file_name.FileName.TheVariants.{Component}
use Rattle.tc_component.specs.declared.head.Head.{Head}
use Rattle.tc_component.specs.declared.head.Sizes.{Sizes}
use Rattle.tc_component.specs.declared.slot.Slot.{Slot}
use Rattle.tc_component.specs.Layout.{number_end, least_record}

-- The version of a file is the form of its records: "TCC1" has records of form 1, and "TCC2", which is what is written now, of
-- form 2.
abbrev pub IsVersion : ℕ → Type 0
IsVersion version = IsNumberedForm version

abbrev pub written_version : ℕ
written_version = packed_form

abbrev pub magic_of : ℕ → ℕ
magic_of version = 0x54434330 + version

abbrev pub sizes_bytes : Sizes → List ℕ
sizes_bytes sizes = to_be_bytes w64 sizes.records ++ (to_be_bytes w64 sizes.entries ++ (to_be_bytes w64 sizes.names ++ to_be_bytes w64 sizes.schema))

abbrev pub head_bytes : ℕ → Head → Sizes → List ℕ
head_bytes version head sizes =
    to_be_bytes w32 (magic_of version) ++ (to_be_bytes w32 head.number ++ (to_be_bytes w32 head.count ++ (to_be_bytes w64 head.from ++ (to_be_bytes w64 head.to ++ sizes_bytes sizes))))

-- a header that a component may have
pub record IsHead (head : Head) : Type 0 where
  pub number : head.number < 2 ^ 32
  pub count : head.count < 2 ^ 32
  pub first : 0 < head.from
  pub order : head.from ≤ head.to
  pub last : head.to < number_end

-- ---- entries

-- a key, and its record, or that it is gone
abbrev pub Row : Type 0
Row = ℕ × Option (List ℕ)

-- the record, or no byte
abbrev pub held_bytes : Option (List ℕ) → List ℕ
held_bytes (Some bytes) = bytes
held_bytes None = []

-- all records, without gaps
abbrev pub records : List Row → List ℕ
records rows = flat_map (λ row. held_bytes row.1) rows

-- ---- the directory

abbrev pub slot : ℕ → ℕ → Slot
slot key bytes = record { key = key; length = bytes }

abbrev pub slots_of : List Row → List Slot
slots_of rows = map (λ row. slot row.0 (length (held_bytes row.1))) rows

abbrev pub slot_bytes : Slot → List ℕ
slot_bytes s = to_be_bytes w64 s.key ++ to_be_bytes w32 s.length

abbrev pub directory : List Slot → List ℕ
directory slots = flat_map slot_bytes slots

-- how many bytes the records have
abbrev pub lengths_of : List Slot → ℕ
lengths_of slots = sum_by (λ s. s.length) slots

-- a slot that an entry may have
pub record IsSlot (s : Slot) : Type 0 where
  pub key : s.key < number_end
  pub fits : s.length < 2 ^ 32
  pub length : (s.length ≡ 0) ⊎ (least_record ≤ s.length)

-- keys ascend strictly
abbrev pub Ascend : List Slot → Type 0
Ascend slots = IsStrictlySortedBy nat_cmp (map (λ s. s.key) slots)

-- ---- the file

-- what a component has beside its records: how they are found, and what they are read by
pub record Index : Type 0 where
  pub version : ℕ
  pub head : Head
  pub slots : List Slot
  pub names : List Name
  pub schema : Counted

abbrev pub sizes_of : List Slot → List Name → Counted → Sizes
sizes_of slots names schema = record {
  records = lengths_of slots;
  entries = length slots;
  names = length (section names);
  schema = length (schema_bytes (schema_tree schema));
}

abbrev pub sizes_in : Index → Sizes
sizes_in c = sizes_of c.slots c.names c.schema

-- the file of these records
abbrev pub file_with : Index → List ℕ → List ℕ
file_with c records =
    1 ∷ (head_bytes c.version c.head (sizes_in c) ++ (records ++ (directory c.slots ++ (section c.names ++ schema_bytes (schema_tree c.schema)))))

-- what the file of these rows has beside its records
abbrev pub index_of : ℕ → Head → List Row → List Name → Counted → Index
index_of version head rows names schema = record { version = version; head = head; slots = slots_of rows; names = names; schema = schema }

abbrev pub file_bytes_as : ℕ → Head → List Row → List Name → Counted → List ℕ
file_bytes_as version head rows names schema = file_with (index_of version head rows names schema) (records rows)

-- as it is written
abbrev pub file_bytes : Head → List Row → List Name → Counted → List ℕ
file_bytes head rows names schema = file_bytes_as written_version head rows names schema

-- what a component may have
pub record IsIndex (c : Index) : Type 0 where
  pub version : IsVersion c.version
  pub head : IsHead c.head
  pub each : AllByRecursion IsSlot c.slots
  pub ascend : Ascend c.slots
  pub names : IsDictionary c.names
  pub schema : IsSchema (length c.names) c.schema

-- the name of the file has this interval
abbrev pub name_of : Head → FileName
name_of head = Component head.from head.to

-- Bytes that are a component with this index, whatever stands where the records have their place.
pub record Holds (bytes : List ℕ) (c : Index) : Type 0 where
  pub is : IsIndex c
  pub records : List ℕ
  pub sized : length records ≡ lengths_of c.slots
  pub spelled : bytes ≡ file_with c records
  pub short : length bytes < number_end
