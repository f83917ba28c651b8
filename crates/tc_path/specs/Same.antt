-- When what is read of a record is a document.
use Rattle.std.specs.Prelude.{Bool, true, false, List, [], ◌∷◌, Option, None, Some}
use Rattle.tc_model.specs.Tree.{leaf}
use Rattle.tc_model.specs.Document.{Document, Scalar}
use Rattle.tc_record.specs.Preorder.{Piece, scalar, array_opened, object_opened, closed}
use Rattle.tc_record.specs.Building.{Entry}
use Rattle.tc_request_model.specs.Equal.{same_document}

-- a value was read, and is this document
abbrev pub is_same : Option Document → Document → Bool
is_same None d = false
is_same (Some e) d = same_document e d

-- nothing more is held
abbrev pub holds_none : List Entry → Bool
holds_none [] = true
holds_none (e ∷ es) = false

-- the scalar that a piece is, if it is one
abbrev pub scalar_in : Piece Scalar → Option Document
scalar_in (scalar s) = Some (leaf s)
scalar_in array_opened = None
scalar_in object_opened = None
scalar_in closed = None
