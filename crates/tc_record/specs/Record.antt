-- The bytes of a record: the columns of a document's tokens, one behind the other. In form 0 a member is labelled by
-- its name, in forms 1 and 2 by the number of its name. Form 2 spells the numbers of its columns in bits.
use Rattle.std.specs.Prelude.{◌≡◌, ◌⊎◌, ℕ, ◌+◌, ◌*◌, ◌<◌, ◌≤◌, ◌^◌, ◌==◌, max, nat_lt, if◌then◌else◌, List, [], ◌∷◌, ◌++◌, length, map, flat_map, option_to_list}
use Rattle.std.specs.Int.{w32, w64, to_be_bytes, bytes_high_first, cast_unsigned}
use Rattle.tc_bits.specs.Bits.{digits, column}
use Rattle.tc_model.specs.Tree.{Tree, leaf, array, object, Items, no_items, item, Members, no_members, member, depth}
use Rattle.tc_model.specs.Document.{Document, Scalar, null, boolean, integer, text, IsScalar, IsDocument, scalar_kind}
use Rattle.tc_model.specs.Kinds.{scalar_tag, tag as kind_tag, arrays, objects}
use Rattle.tc_model.specs.Limits.{max_depth}
use Rattle.tc_model.specs.Stored.{IsObject}
use Rattle.tc_record.specs.Preorder.{Piece, scalar, array_opened, object_opened, closed, Token, tokens_of}

-- ---- what a token adds to each column

-- the tag of a value is the number of its kind, and a close has one of its own
abbrev pub close_tag : ℕ
close_tag = 7

abbrev pub piece_tag : Piece Scalar → ℕ
piece_tag (scalar s) = scalar_tag (scalar_kind s)
piece_tag array_opened = kind_tag arrays
piece_tag object_opened = kind_tag objects
piece_tag closed = close_tag

abbrev pub scalar_fixed : Scalar → List ℕ
scalar_fixed null = []
scalar_fixed (boolean b) = (if b then 1 else 0) ∷ []
scalar_fixed (integer z) = to_be_bytes w64 (cast_unsigned w64 z)
scalar_fixed (text s) = []

abbrev pub piece_fixed : Piece Scalar → List ℕ
piece_fixed (scalar s) = scalar_fixed s
piece_fixed array_opened = []
piece_fixed object_opened = []
piece_fixed closed = []

abbrev pub scalar_text : Scalar → List (List ℕ)
scalar_text null = []
scalar_text (boolean b) = []
scalar_text (integer z) = []
scalar_text (text s) = s ∷ []

abbrev pub piece_text : Piece Scalar → List (List ℕ)
piece_text (scalar s) = scalar_text s
piece_text array_opened = []
piece_text object_opened = []
piece_text closed = []

-- ---- the columns

abbrev pub tags : {L : Type 0} → List (Token L Scalar) → List ℕ
tags ts = map (λ t. piece_tag t.piece) ts

abbrev pub fixed : {L : Type 0} → List (Token L Scalar) → List ℕ
fixed ts = flat_map (λ t. piece_fixed t.piece) ts

abbrev pub texts : {L : Type 0} → List (Token L Scalar) → List (List ℕ)
texts ts = flat_map (λ t. piece_text t.piece) ts

abbrev pub labels : {L : Type 0} → List (Token L Scalar) → List L
labels ts = flat_map (λ t. option_to_list t.label) ts

abbrev pub greatest : List ℕ → ℕ
greatest [] = 0
greatest (n ∷ ns) = max n (greatest ns)

-- the least of 1, 2 and 4 bytes that holds a number
abbrev pub width_of : ℕ → ℕ
width_of n = if nat_lt n 256 then 1 else (if nat_lt n 65536 then 2 else 4)

abbrev pub numbers : ℕ → List ℕ → List ℕ
numbers w ns = flat_map (bytes_high_first w) ns

-- how numbers are spelled: the least width that holds one, how many bits a width is, and a column of numbers of one width
pub record Spelling : Type 0 where
  pub least : ℕ → ℕ
  pub bits : ℕ → ℕ
  pub column : ℕ → List ℕ → List ℕ

-- each number in whole bytes
abbrev pub in_bytes : Spelling
in_bytes = record { least = width_of; bits = λ w. 8 * w; column = numbers }

-- each number in as many bits as its width says
abbrev pub in_bits : Spelling
in_bits = record { least = digits; bits = λ w. w; column = column }

-- the least width that holds each element of a column, and 0 where there is none
abbrev pub width_in : Spelling → List ℕ → ℕ
width_in s [] = 0
width_in s (n ∷ ns) = s.least (greatest (n ∷ ns))

abbrev pub width : List ℕ → ℕ
width ns = width_in in_bytes ns

-- numbers in the least width for them
abbrev pub column_in : Spelling → List ℕ → List ℕ
column_in s ns = s.column (width_in s ns) ns

abbrev pub joined : List (List ℕ) → List ℕ
joined ts = flat_map (λ t. t) ts

-- the forms of a record: its members carry names, or the numbers of names
abbrev pub named_form : ℕ
named_form = 0

abbrev pub numbered_form : ℕ
numbered_form = 1

abbrev pub packed_form : ℕ
packed_form = 2

-- a form whose members carry the numbers of names
abbrev pub IsNumberedForm : ℕ → Type 0
IsNumberedForm form = (form ≡ numbered_form) ⊎ (form ≡ packed_form)

-- how a form spells the numbers of its columns
abbrev pub spelling_of : ℕ → Spelling
spelling_of form = if form == packed_form then in_bits else in_bytes

-- how many bytes the header has
abbrev pub header_size : ℕ
header_size = 23

-- what stands behind the header
abbrev pub body_in : {L : Type 0} → Spelling → List (Token L Scalar) → List ℕ → List ℕ → List ℕ
body_in s ts slots names =
    let lengths = map length (texts ts) in
    tags ts ++ (fixed ts ++ (column_in s lengths ++ (joined (texts ts) ++ (column_in s slots ++ names))))

-- header and columns
abbrev pub record_in : {L : Type 0} → Spelling → ℕ → List (Token L Scalar) → List ℕ → List ℕ → List ℕ
record_in s form ts slots names =
    let lengths = map length (texts ts) in
    let content = body_in s ts slots names in
    to_be_bytes w32 (header_size + length content) ++ (form ∷ (to_be_bytes w32 (length (tags ts)) ++ (to_be_bytes w32 (length (fixed ts)) ++ (to_be_bytes w32 (length lengths) ++ (width_in s lengths ∷ (to_be_bytes w32 (length slots) ++ (width_in s slots ∷ content)))))))

-- the same in whole bytes
abbrev pub body : {L : Type 0} → List (Token L Scalar) → List ℕ → List ℕ → List ℕ
body ts slots names = body_in in_bytes ts slots names

abbrev pub record_bytes : {L : Type 0} → ℕ → List (Token L Scalar) → List ℕ → List ℕ → List ℕ
record_bytes form ts slots names = record_in in_bytes form ts slots names

-- form 0: a slot is the length of a name, and the names follow
abbrev pub record_of : Document → List ℕ
record_of d = let ts = tokens_of d in record_bytes named_form ts (map length (labels ts)) (joined (labels ts))

-- a document whose members carry numbers in place of names
abbrev pub NumberedTree : Type 0
NumberedTree = Tree ℕ Scalar

-- forms 1 and 2: a slot is the number of a name
abbrev pub numbered_record_in : ℕ → NumberedTree → List ℕ
numbered_record_in form n = let ts = tokens_of n in record_in (spelling_of form) form ts (labels ts) []

abbrev pub numbered_record_of : NumberedTree → List ℕ
numbered_record_of n = numbered_record_in numbered_form n

abbrev pub packed_record_of : NumberedTree → List ℕ
packed_record_of n = numbered_record_in packed_form n

-- ---- which bytes are a record

-- each scalar is one of a document, and each number has 32 bits
abbrev mutual
  pub IsNumberedTree : NumberedTree → Type 0
  IsNumberedTree (leaf s) = IsScalar s
  IsNumberedTree (array xs) = AreNumberedItems xs
  IsNumberedTree (object ms) = AreNumberedMembers ms

  pub AreNumberedItems : Items ℕ Scalar → Type 0
  AreNumberedItems no_items = Unit {0}
  AreNumberedItems (item t ts) = IsNumberedTree t × AreNumberedItems ts

  pub AreNumberedMembers : Members ℕ Scalar → Type 0
  AreNumberedMembers no_members = Unit {0}
  AreNumberedMembers (member n t ms) = (n < 2 ^ 32) × IsNumberedTree t × AreNumberedMembers ms

-- an object, no deeper than documents may be, whose record has these bytes
pub record IsRecordOf (d : Document) (bytes : List ℕ) : Type 0 where
  pub document : IsDocument d
  pub is_object : IsObject d
  pub shallow : depth d ≤ max_depth
  pub spelled : bytes ≡ record_of d
  pub short : length bytes < 2 ^ 32

pub record IsNumberedRecordIn (form : ℕ) (n : NumberedTree) (bytes : List ℕ) : Type 0 where
  pub tree : IsNumberedTree n
  pub is_object : IsObject n
  pub shallow : depth n ≤ max_depth
  pub spelled : bytes ≡ numbered_record_in form n
  pub short : length bytes < 2 ^ 32

abbrev pub IsNumberedRecordOf : NumberedTree → List ℕ → Type 0
IsNumberedRecordOf n bytes = IsNumberedRecordIn numbered_form n bytes

abbrev pub IsPackedRecordOf : NumberedTree → List ℕ → Type 0
IsPackedRecordOf n bytes = IsNumberedRecordIn packed_form n bytes
