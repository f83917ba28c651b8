-- How often a kind of value stands at a path, in one document and in a list of documents.
use Rattle.std.specs.Prelude.{ℕ, ◌+◌, List, [], ◌∷◌, bytes_eq, if◌then◌else◌}
use Rattle.tc_model.specs.Tree.{leaf, array, object, Items, no_items, item, Members, no_members, member}
use Rattle.tc_model.specs.Document.{Name, Document, ScalarKind, ShapeTree, document_shape}
use Rattle.tc_model.specs.Kinds.{Kind, kind_of, is_kind}

-- from a value into what it holds: the member of a name, or each item
pub data Step : Type 0 where
  field : Name → Step
  each_item : Step

abbrev pub Path : Type 0
Path = List Step

-- the number of values of a kind at a path of a shape
abbrev mutual
  pub occurrences : ShapeTree → Path → Kind → ℕ
  occurrences s [] t = if is_kind (kind_of s) t then 1 else 0
  occurrences (leaf k) (step ∷ path) t = 0
  occurrences (array xs) (each_item ∷ path) t = items_occurrences xs path t
  occurrences (array xs) (field name ∷ path) t = 0
  occurrences (object ms) (each_item ∷ path) t = 0
  occurrences (object ms) (field name ∷ path) t = members_occurrences ms name path t

  -- in the items together
  pub items_occurrences : Items Name ScalarKind → Path → Kind → ℕ
  items_occurrences no_items path t = 0
  items_occurrences (item s xs) path t = occurrences s path t + items_occurrences xs path t

  -- in the member of a name
  pub members_occurrences : Members Name ScalarKind → Name → Path → Kind → ℕ
  members_occurrences no_members name path t = 0
  members_occurrences (member label s ms) name path t = (if bytes_eq label name then occurrences s path t else 0) + members_occurrences ms name path t

-- the number of values of a kind at a path, in all documents together
abbrev pub count : List Document → Path → Kind → ℕ
count [] path t = 0
count (d ∷ docs) path t = occurrences (document_shape d) path t + count docs path t
