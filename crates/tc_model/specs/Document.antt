-- What a document is: a tree whose members carry names and whose leaves are scalars. A name is its UTF-8 bytes, and
-- so is a text. A shape is a document without its values.
use Rattle.std.specs.Prelude.{ℕ, ℤ, Bool, List, map, bytes_eq, Option, Some, None, IsUtf8, FitsSigned, if◌then◌else◌}
use Rattle.std.specs.Int.{w64}
use Rattle.std.specs.declared.cmp.Ordering.{Ordering}
use Rattle.std.specs.Ordering.{nat_cmp}
use Rattle.std.specs.Cmp.Lexicographic.{slice_cmp}
use Rattle.std.specs.List.Sorted.{IsStrictlySortedBy}
use Rattle.tc_model.specs.Tree.{Tree, leaf, array, object, Items, no_items, item, Members, no_members, member, listed_members, relabel}

-- a name, as its bytes
abbrev pub Name : Type 0
Name = List ℕ

pub data Scalar : Type 0 where
  null : Scalar
  boolean : Bool → Scalar
  integer : ℤ → Scalar
  text : List ℕ → Scalar

-- the kinds of scalars
pub data ScalarKind : Type 0 where
  null_kind : ScalarKind
  boolean_kind : ScalarKind
  integer_kind : ScalarKind
  text_kind : ScalarKind

abbrev pub Document : Type 0
Document = Tree Name Scalar

abbrev pub ShapeTree : Type 0
ShapeTree = Tree Name ScalarKind

abbrev pub scalar_kind : Scalar → ScalarKind
scalar_kind null = null_kind
scalar_kind (boolean b) = boolean_kind
scalar_kind (integer z) = integer_kind
scalar_kind (text s) = text_kind

-- the shape of a document: the kinds of its scalars in their places
abbrev pub document_shape : Document → ShapeTree
document_shape d = relabel (λ name. name) scalar_kind d

-- a member, with its value's shape
abbrev pub member_shape : Name × Document → Name × ShapeTree
member_shape m = (m.0, document_shape m.1)

-- the value of the member of a name
abbrev pub member_at : Name → Members Name Scalar → Option Document
member_at n no_members = None
member_at n (member m t ms) = if bytes_eq m n then Some t else member_at n ms

-- ---- lawful documents

-- the byte order of names
abbrev pub name_cmp : Name → Name → Ordering
name_cmp n m = slice_cmp nat_cmp n m

-- the names of the members ascend strictly in byte order
abbrev pub IsAscending : {S : Type 0} → List (Name × Tree Name S) → Type 0
IsAscending ms = IsStrictlySortedBy name_cmp (map (λ m. m.0) ms)

-- Each leaf is one of P, each name is UTF-8, and the names of each object ascend strictly.
abbrev mutual
  pub IsTreeOf : {S : Type 0} → (S → Type 0) → Tree Name S → Type 0
  IsTreeOf P (leaf s) = P s
  IsTreeOf P (array xs) = AreItemsOf P xs
  IsTreeOf P (object ms) = IsAscending (listed_members ms) × AreMembersOf P ms

  pub AreItemsOf : {S : Type 0} → (S → Type 0) → Items Name S → Type 0
  AreItemsOf P no_items = Unit {0}
  AreItemsOf P (item t ts) = IsTreeOf P t × AreItemsOf P ts

  pub AreMembersOf : {S : Type 0} → (S → Type 0) → Members Name S → Type 0
  AreMembersOf P no_members = Unit {0}
  AreMembersOf P (member n t ms) = IsUtf8 n × IsTreeOf P t × AreMembersOf P ms

-- an integer has 64 bits, and a text is UTF-8
abbrev pub IsScalar : Scalar → Type 0
IsScalar (integer z) = FitsSigned w64 z
IsScalar (text s) = IsUtf8 s
IsScalar _ = Unit {0}

-- a tree that is a document
abbrev pub IsDocument : Document → Type 0
IsDocument d = IsTreeOf IsScalar d
