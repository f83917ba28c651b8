-- What a component holds.
use Rattle.std.specs.Prelude.{◌<◌, ◌≤◌, ◌^◌, ℕ, List, length, All, IfSome}
use Rattle.tc_model.specs.Document.{Name, Document, document_shape, IsDocument}
use Rattle.tc_model.specs.Dictionary.{IsDictionary}
use Rattle.tc_model.specs.Keyed.{Ascends}
use Rattle.tc_model.specs.KnownNames.{HasEach}
use Rattle.tc_model.specs.ShapeNames.{names_within}
use Rattle.tc_model.specs.Stored.{IsStorable}
use Rattle.tc_schema_model.specs.Counted.{Counted}
use Rattle.tc_schema_model.specs.SchemaBytes.{IsSchema}
use Rattle.tc_plain_model.specs.Writes.{Write}

-- which partition, counted from 0, and how many there are
pub record Partition : Type 0 where
  pub number : ℕ
  pub count : ℕ

-- Memory tables are numbered as they are made, from 1 on: these numbers are generations. A component holds the writes of
-- neighbouring ones, from the first to the last of them.
pub record Content : Type 0 where
  pub part : Partition
  pub from : ℕ
  pub to : ℕ
  -- in ascending key a document, or that the key's document is gone
  pub entries : List Write
  -- the dictionary of all components up to this one, and the schema of what is live in them
  pub names : List Name
  pub schema : Counted

-- ---- lawful contents

-- the dictionary has each name within a document
abbrev pub IsNamedIn : List Name → Document → Type 0
IsNamedIn names d = HasEach names (names_within (document_shape d))

pub record IsEntry (names : List Name) (entry : Write) : Type 0 where
  pub key : entry.0 < 2 ^ 63
  pub document : IfSome entry.1 IsDocument
  pub storable : IfSome entry.1 IsStorable
  pub named : IfSome entry.1 (IsNamedIn names)

pub record IsContent (c : Content) : Type 0 where
  pub number : c.part.number < 2 ^ 32
  pub count : c.part.count < 2 ^ 32
  pub first : 0 < c.from
  pub order : c.from ≤ c.to
  pub last : c.to < 2 ^ 63
  pub ascends : Ascends c.entries
  pub entries : All (IsEntry c.names) c.entries
  pub dictionary : IsDictionary c.names
  pub schema : IsSchema (length c.names) c.schema
