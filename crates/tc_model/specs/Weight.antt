-- How much a document holds: one for each value, and the bytes of texts and names.
use Rattle.std.specs.Prelude.{ℕ, ◌+◌, length}
use Rattle.tc_model.specs.Tree.{leaf, array, object, Items, no_items, item, Members, no_members, member}
use Rattle.tc_model.specs.Document.{Name, Document, Scalar, null, boolean, integer, text}

abbrev pub scalar_weight : Scalar → ℕ
scalar_weight null = 1
scalar_weight (boolean b) = 1
scalar_weight (integer z) = 1
scalar_weight (text s) = 1 + length s

abbrev mutual
  pub weight : Document → ℕ
  weight (leaf s) = scalar_weight s
  weight (array xs) = 1 + items_weight xs
  weight (object ms) = 1 + members_weight ms

  pub items_weight : Items Name Scalar → ℕ
  items_weight no_items = 0
  items_weight (item d xs) = weight d + items_weight xs

  pub members_weight : Members Name Scalar → ℕ
  members_weight no_members = 0
  members_weight (member name d ms) = length name + weight d + members_weight ms
