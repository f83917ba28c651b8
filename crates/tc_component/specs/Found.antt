-- What the parts of a component are, once they were read.
use Rattle.std.specs.Prelude.{◌≡◌, ◌<◌, ◌+◌, ◌*◌, ◌^◌, ℕ, List, length, take, drop}
use Rattle.std.specs.List.{AllByRecursion}
use Rattle.tc_model.specs.Dictionary.{IsDictionary}
use Rattle.tc_names.specs.Section.{section}
use Rattle.tc_schema_model.specs.SchemaTree.{schema_tree}
use Rattle.tc_schema_model.specs.SchemaBytes.{schema_bytes, IsSchema}
use Rattle.tc_store.specs.declared.file_name.FileName.{FileName}
use Rattle.tc_component.specs.declared.head.Head.{Head}
use Rattle.tc_component.specs.declared.head.Sizes.{Sizes}
use Rattle.tc_component.specs.declared.slot.Slot.{Slot}
use Rattle.tc_component.specs.Layout.{file_size, slot_size}
use Rattle.tc_component.specs.Spelling.{IsVersion, head_bytes, IsHead, directory, lengths_of, IsSlot, Ascend, Index, name_of}

-- each has 64 bits
pub record AreSizes (sizes : Sizes) : Type 0 where
  pub records : sizes.records < 2 ^ 64
  pub entries : sizes.entries < 2 ^ 64
  pub names : sizes.names < 2 ^ 64
  pub schema : sizes.schema < 2 ^ 64

-- a header that is one of a file of this name and this length
pub record FrontFound (version : ℕ) (name : FileName) (size : ℕ) (front : List ℕ) (h : Head × Sizes) : Type 0 where
  pub is_version : IsVersion version
  pub head : IsHead h.0
  pub sizes : AreSizes h.1
  pub named : name ≡ name_of h.0
  pub sized : file_size h.1 ≡ size
  pub spelled : front ≡ head_bytes version h.0 h.1

-- so many slots, whose records have so many bytes together
pub record DirectoryFound (count records : ℕ) (bytes : List ℕ) (slots : List Slot) : Type 0 where
  pub spelled : bytes ≡ directory slots
  pub count_is : length slots ≡ count
  pub each : AllByRecursion IsSlot slots
  pub ascend : Ascend slots
  pub sum : lengths_of slots ≡ records

-- what stands behind the records is the directory, the names and the schema
pub record RestFound (version : ℕ) (h : Head × Sizes) (rest : List ℕ) (c : Index) : Type 0 where
  pub version_is : c.version ≡ version
  pub head : c.head ≡ h.0
  pub slots : DirectoryFound h.1.entries h.1.records (take (h.1.entries * slot_size) rest) c.slots
  pub names_are : IsDictionary c.names
  pub names : take h.1.names (drop (h.1.entries * slot_size) rest) ≡ section c.names
  pub schema_is : IsSchema (length c.names) c.schema
  pub schema : drop (h.1.entries * slot_size + h.1.names) rest ≡ schema_bytes (schema_tree c.schema)
