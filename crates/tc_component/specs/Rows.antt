-- The rows of a component, its header and its bytes, by its content.
use Rattle.std.specs.Prelude.{◌≡◌, ◌<◌, ◌^◌, ℕ, List, map, length, All, IfSome, option_map}
use Rattle.tc_model.specs.Document.{Name, Document}
use Rattle.tc_record.specs.Record.{record_of, numbered_record_in}
use Rattle.tc_compact.specs.Compacted.{compacted}
use Rattle.tc_plain_model.specs.Writes.{Write}
use Rattle.tc_lsm_model.specs.Contents.{Partition, Content, IsContent}
use Rattle.tc_component.specs.declared.head.Head.{Head}
use Rattle.tc_component.specs.Layout.{number_end}
use Rattle.tc_component.specs.Reading.{version_of}
use Rattle.tc_component.specs.Spelling.{Row, Index, written_version, index_of, file_bytes_as}

-- the compacted record of a document, in a file of a version
abbrev pub record_in : ℕ → List Name → Document → List ℕ
record_in version names d = numbered_record_in version (compacted names d)

abbrev pub row_as : ℕ → List Name → Write → Row
row_as version names w = (w.0, option_map (record_in version names) w.1)

abbrev pub rows_as : ℕ → List Name → List Write → List Row
rows_as version names ws = map (row_as version names) ws

-- as they are written
abbrev pub row_of : List Name → Write → Row
row_of names w = row_as written_version names w

abbrev pub rows_of : List Name → List Write → List Row
rows_of names ws = map (row_of names) ws

abbrev pub part_of : Head → Partition
part_of head = record { number = head.number; count = head.count }

abbrev pub head_of : Content → Head
head_of c = record { number = c.part.number; count = c.part.count; from = c.from; to = c.to }

-- the whole file of a version, and the one that is written
abbrev pub component_bytes_as : ℕ → Content → List ℕ
component_bytes_as version c = file_bytes_as version (head_of c) (rows_as version c.names c.entries) c.names c.schema

abbrev pub component_bytes : Content → List ℕ
component_bytes c = component_bytes_as written_version c

-- what the file of a version has beside its records
abbrev pub component_index : ℕ → Content → Index
component_index version c = index_of version (head_of c) (rows_as version c.names c.entries) c.names c.schema

-- and that a component has this beside its records, in its version
abbrev pub IsIndexOf : Index → Content → Type 0
IsIndexOf index c = index ≡ component_index index.version c

-- the record with names of the document is short enough to be compacted
abbrev pub IsShortWrite : Write → Type 0
IsShortWrite w = IfSome w.1 (λ d. length (record_of d) < 2 ^ 30)

-- the bytes are the component of this content, in the version that they tell
pub record IsComponent (c : Content) (bytes : List ℕ) : Type 0 where
  pub content : IsContent c
  pub records : All IsShortWrite c.entries
  pub spelled : bytes ≡ component_bytes_as (version_of bytes) c
  pub short : length bytes < number_end
