-- The names of a shape, in the order in which a dictionary learns them.
use Rattle.std.specs.Prelude.{List, [], ◌∷◌, ◌++◌}
use Rattle.tc_model.specs.Tree.{leaf, array, object, Items, no_items, item, Members, no_members, member}
use Rattle.tc_model.specs.Document.{Name, Document, ShapeTree, ScalarKind, document_shape}

-- the names in preorder: that of each member, and then those within its value
abbrev mutual
  pub names_within : ShapeTree → List Name
  names_within (leaf k) = []
  names_within (array xs) = names_of_items xs
  names_within (object ms) = names_of_members ms

  pub names_of_items : Items Name ScalarKind → List Name
  names_of_items no_items = []
  names_of_items (item s xs) = names_within s ++ names_of_items xs

  pub names_of_members : Members Name ScalarKind → List Name
  names_of_members no_members = []
  names_of_members (member name s ms) = name ∷ (names_within s ++ names_of_members ms)

-- the names of documents, one document after the other
abbrev pub names_of_documents : List Document → List Name
names_of_documents [] = []
names_of_documents (d ∷ docs) = names_within (document_shape d) ++ names_of_documents docs
