-- How many names a shape has, and the names of documents as those of one array of shapes.
use Rattle.std.proofs.Common.{◌≡◌, ◌+◌, ◌≤◌, List, [], ◌∷◌, ◌++◌, length, map, refl, ap, arith, length-append}
use Rattle.tc_model.specs.Tree.{leaf, array, object, Items, no_items, item, Members, no_members, member, items_of}
use Rattle.tc_model.specs.Document.{Name, Document, ShapeTree, ScalarKind, document_shape}
use Rattle.tc_model.specs.Dictionary.{all_learned}
use Rattle.tc_model.specs.ShapeNames.{names_within, names_of_items, names_of_members, names_of_documents}
use Rattle.tc_model.specs.TreeSize.{tree_size, items_size, members_size}
use Rattle.tc_model.proofs.LearnedNames.{length-all_learned-most}

mutual
  names_within-size : (s : ShapeTree) → length (names_within s) + 1 ≤ tree_size s
  names_within-size (leaf k) = omega arith
  names_within-size (array xs) = omega (arith, names_of_items-size xs)
  names_within-size (object ms) = omega (arith, names_of_members-size ms)

  names_of_items-size : (xs : Items Name ScalarKind) → length (names_of_items xs) ≤ items_size xs
  names_of_items-size no_items = omega arith
  names_of_items-size (item s xs) = omega (arith, length-append (names_within s) (names_of_items xs), names_within-size s, names_of_items-size xs)

  names_of_members-size : (ms : Members Name ScalarKind) → length (names_of_members ms) ≤ members_size ms
  names_of_members-size no_members = omega arith
  names_of_members-size (member name s ms) = omega (arith, length-append (names_within s) (names_of_members ms), names_within-size s, names_of_members-size ms)

-- so a dictionary that learns them has no more than it had and the shape has values
pub room_within : (known : List Name) (s : ShapeTree) → length (all_learned known (names_within s)) ≤ length known + tree_size s
room_within known s = omega (arith, length-all_learned-most known (names_within s), names_within-size s)

pub names_of_shapes : (docs : List Document) → names_of_items (items_of (map document_shape docs)) ≡ names_of_documents docs
names_of_shapes [] = refl
names_of_shapes (d ∷ docs) = ap (λ names. names_within (document_shape d) ++ names) (names_of_shapes docs)
