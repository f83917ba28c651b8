-- When two documents are the same, as a test. A boolean is no number.
use Rattle.std.specs.Prelude.{int_le, Bool, true, false, not, ◌&&◌, bytes_eq, if◌then◌else◌}
use Rattle.tc_model.specs.Tree.{leaf, array, object, Items, no_items, item, Members, no_members, member}
use Rattle.tc_model.specs.Document.{Name, Document, Scalar, null, boolean, integer, text}

abbrev pub same_boolean : Bool → Bool → Bool
same_boolean a b = if a then b else not b

abbrev pub same_scalar : Scalar → Scalar → Bool
same_scalar null null = true
same_scalar (boolean a) (boolean b) = same_boolean a b
same_scalar (integer a) (integer b) = int_le a b && int_le b a
same_scalar (text a) (text b) = bytes_eq a b
same_scalar a b = false

abbrev mutual
  pub same_document : Document → Document → Bool
  same_document (leaf a) (leaf b) = same_scalar a b
  same_document (array xs) (array ys) = same_items xs ys
  same_document (object xs) (object ys) = same_members xs ys
  same_document a b = false

  pub same_items : Items Name Scalar → Items Name Scalar → Bool
  same_items no_items no_items = true
  same_items (item a xs) (item b ys) = same_document a b && same_items xs ys
  same_items xs ys = false

  -- the same names in the same order, since names ascend
  pub same_members : Members Name Scalar → Members Name Scalar → Bool
  same_members no_members no_members = true
  same_members (member m a xs) (member n b ys) = bytes_eq m n && (same_document a b && same_members xs ys)
  same_members xs ys = false
