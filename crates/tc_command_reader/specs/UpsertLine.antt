-- The document that the line of an upsert is.
use Rattle.std.specs.Prelude.{codes}
use Rattle.tc_model.specs.Tree.{leaf, object, no_members, member}
use Rattle.tc_model.specs.Document.{Document, text}

-- the document of a line that upserts this one
abbrev pub upsert_line : Document → Document
upsert_line d = object (member (codes "doc") d (member (codes "op") (leaf (text (codes "upsert"))) no_members))
