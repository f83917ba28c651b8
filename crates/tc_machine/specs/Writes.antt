-- Which writes a partition makes, and how much it has room for.
use Rattle.std.specs.Prelude.{◌<◌, ◌^◌, List, length, IfSome}
use Rattle.tc_model.specs.Document.{Name, IsDocument}
use Rattle.tc_model.specs.Stored.{IsStorable}
use Rattle.tc_plain_model.specs.Writes.{Pairs, Write}
use Rattle.tc_component.specs.Rows.{IsShortWrite}

-- a key, and a document that may be stored, of which the record is short enough to be compacted, or that it is gone
pub record IsStorableWrite (w : Write) : Type 0 where
  pub key : w.0 < 2 ^ 63
  pub document : IfSome w.1 IsDocument
  pub storable : IfSome w.1 IsStorable
  pub short : IsShortWrite w

-- a partition stores at most so many documents
abbrev pub HasRoom : Pairs → Type 0
HasRoom pairs = length pairs < 2 ^ 32

-- and a dictionary has at most so many names
abbrev pub AreFew : List Name → Type 0
AreFew names = length names < 2 ^ 32
