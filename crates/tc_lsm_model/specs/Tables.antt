-- Memory tables: the newest writes by key, each with the shape of the document that its key has below the table.
use Rattle.std.specs.Prelude.{◌≡◌, ℕ, ◌+◌, List, [], ◌∷◌, map, flat_map, fold, option_to_list, Option, Some, None, option_map, IfSome, IsSome}
use Rattle.tc_model.specs.Document.{Document, ShapeTree, document_shape}
use Rattle.tc_model.specs.Keyed.{Keyed, value_of, with_value, without_key, on_value}
use Rattle.tc_model.specs.Kinds.{Kind}
use Rattle.tc_schema_model.specs.Occurrences.{Path, occurrences}
use Rattle.tc_plain_model.specs.Writes.{Pairs, Write, after_writes}

-- what a key has, a document or that it is gone, and the shape of what it has below the table, if there is something
pub record Slot : Type 0 where
  pub held : Option Document
  pub below : Option ShapeTree

abbrev pub slot : Option Document → Option ShapeTree → Slot
slot held below = record { held = held; below = below }

abbrev pub Table : Type 0
Table = Keyed Slot

-- the writes of a table, one a key
abbrev pub writes_of : Table → List Write
writes_of t = map (on_value (λ s. s.held)) t

-- what is stored with a table over it
abbrev pub over : Pairs → Table → Pairs
over pairs t = after_writes pairs (writes_of t)

-- ---- the shapes below

-- the shape of the document of a key
abbrev pub shape_in : Pairs → ℕ → Option ShapeTree
shape_in pairs key = option_map document_shape (value_of key pairs)

-- Each entry keeps the shape of what its key has below, and only where there is something below can a key be gone.
pub record KeepsShapes (pairs : Pairs) (t : Table) : Type 0 where
  pub shapes : (key : ℕ) → IfSome (value_of key t) (λ s. s.below ≡ shape_in pairs key)
  pub gone : (key : ℕ) → IfSome (value_of key t) (λ s. s.held ≡ None → IsSome s.below)

-- the shapes of the documents that a table holds, and those that it keeps of what is below
abbrev pub shapes_held : Table → List ShapeTree
shapes_held t = flat_map (λ e. option_to_list (option_map document_shape e.1.held)) t

abbrev pub shapes_below : Table → List ShapeTree
shapes_below t = flat_map (λ e. option_to_list e.1.below) t

-- how often a kind of value stands at a path of shapes, in all of them together
abbrev pub occurring : List ShapeTree → Path → Kind → ℕ
occurring [] path t = 0
occurring (s ∷ shapes) path t = occurrences s path t + occurring shapes path t

-- ---- the table that writes make

-- the shape that an entry keeps: its own, and where the key has no entry yet the one that is handed in
abbrev pub shape_kept : Option ShapeTree → Option Slot → Option ShapeTree
shape_kept handed None = handed
shape_kept handed (Some s) = s.below

-- a key whose document is gone has an entry only where it has something below
abbrev pub gone_at : ℕ → Option ShapeTree → Table → Table
gone_at key (Some shape) t = with_value key (slot None (Some shape)) t
gone_at key None t = without_key key t

-- the table after a write, where this is the shape of what a key has below
abbrev pub table_with : (ℕ → Option ShapeTree) → Table → Write → Table
table_with below t (key, Some d) = with_value key (slot (Some d) (shape_kept (below key) (value_of key t))) t
table_with below t (key, None) = gone_at key (shape_kept (below key) (value_of key t)) t

-- the table that writes make over what is stored, one after the other
abbrev pub table_over : Pairs → List Write → Table
table_over pairs ws = fold (table_with (shape_in pairs)) [] ws
