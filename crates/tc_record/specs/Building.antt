-- How a document is read from its tokens: from the last one to the first, by what each array and object that is open
-- there goes on to hold.
use Rattle.std.specs.Prelude.{List, [], ◌∷◌, map, Option, None, Some}
use Rattle.std.specs.List.{AllByRecursion}
use Rattle.tc_model.specs.Tree.{leaf, array, object, items_of, members_of}
use Rattle.tc_model.specs.Document.{Name, Document, Scalar, IsDocument}
use Rattle.tc_record.specs.Preorder.{Piece, scalar, array_opened, object_opened, closed, Token}
use Rattle.tc_record.specs.Walk.{Key, name, number}

-- a value that an array or an object holds, with its label
abbrev pub Entry : Type 0
Entry = Option Key × Document

-- what each array and object that is open goes on to hold, innermost first
abbrev pub Levels : Type 0
Levels = List (List Entry)

abbrev pub innermost : Levels → List Entry
innermost [] = []
innermost (entries ∷ levels) = entries

abbrev pub outer : Levels → Levels
outer [] = []
outer (entries ∷ levels) = levels

abbrev pub value_in : Entry → Document
value_in e = e.1

-- the name that a label is, which is empty where it is none
abbrev pub name_told : Option Key → Name
name_told None = []
name_told (Some (name n)) = n
name_told (Some (number k)) = []

abbrev pub member_in : Entry → Name × Document
member_in e = (name_told e.0, e.1)

-- the value that a piece is or opens, and the levels behind that value; there is none where the piece closes one
abbrev pub value_read : Piece Scalar → Levels → Option Document × Levels
value_read (scalar s) levels = (Some (leaf s), levels)
value_read array_opened levels = (Some (array (items_of (map value_in (innermost levels)))), outer levels)
value_read object_opened levels = (Some (object (members_of (map member_in (innermost levels)))), outer levels)
value_read closed levels = (None, levels)

-- the levels before a value, or before a close
abbrev pub levels_before : Option Key → Option Document → Levels → Levels
levels_before l (Some d) levels = ((l, d) ∷ innermost levels) ∷ outer levels
levels_before l None levels = [] ∷ levels

abbrev pub levels_of : List (Token Key Scalar) → Levels
levels_of [] = []
levels_of (t ∷ ts) = let read = value_read t.piece (levels_of ts) in levels_before t.label read.0 read.1

-- the value that the first token is or opens
abbrev pub document_read : List (Token Key Scalar) → Option Document
document_read [] = None
document_read (t ∷ ts) = (value_read t.piece (levels_of ts)).0

abbrev pub AreDocuments : List Entry → Type 0
AreDocuments entries = AllByRecursion (λ e. IsDocument e.1) entries

abbrev pub HoldDocuments : Levels → Type 0
HoldDocuments levels = AllByRecursion AreDocuments levels
