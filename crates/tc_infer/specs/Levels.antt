-- What is left of a walk over the tokens of a record: the shapes that each open array and each open object still holds.
use Rattle.std.specs.Prelude.{List, [], ◌∷◌, flat_map, Option, None, Some, option_map}
use Rattle.tc_model.specs.Tree.{leaf, array, object, Items, no_items, item, Members, no_members, member}
use Rattle.tc_model.specs.Document.{Name, Scalar, ScalarKind, ShapeTree, scalar_kind}
use Rattle.tc_model.specs.Kinds as kinds
use Rattle.tc_record.specs.Preorder.{Piece, scalar, array_opened, object_opened, closed, Token}
use Rattle.tc_record.specs.Walk.{Key, name, number}
use Rattle.tc_record.specs.Building.{name_told}
use Rattle.tc_compact.specs.Meant.{key_meant, tokens_meant}

-- the kind of the value that a piece is or opens; a close has none
abbrev pub piece_kind : Piece Scalar → Option kinds.Kind
piece_kind (scalar s) = Some (kinds.scalar (scalar_kind s))
piece_kind array_opened = Some kinds.arrays
piece_kind object_opened = Some kinds.objects
piece_kind closed = None

-- what an array or an object that is open still holds, an item as a member of the empty name
abbrev pub Level : Type 0
Level = Members Name ScalarKind

abbrev pub without_names : Level → Items Name ScalarKind
without_names no_members = no_items
without_names (member n s ms) = item s (without_names ms)

-- the innermost level, and those outside of it
abbrev pub innermost : List Level → Level
innermost [] = no_members
innermost (level ∷ levels) = level

abbrev pub outside : List Level → List Level
outside [] = []
outside (level ∷ levels) = levels

-- the shape of a value whose token was taken, and the levels behind the value
abbrev pub begun : kinds.Kind → List Level → ShapeTree
begun (kinds.scalar k) levels = leaf k
begun kinds.arrays levels = array (without_names (innermost levels))
begun kinds.objects levels = object (innermost levels)

abbrev pub behind : kinds.Kind → List Level → List Level
behind (kinds.scalar k) levels = levels
behind kinds.arrays levels = outside levels
behind kinds.objects levels = outside levels

-- a shape in front of what the innermost level holds
abbrev pub with_shape : Name → ShapeTree → List Level → List Level
with_shape n s levels = member n s (innermost levels) ∷ outside levels

abbrev pub with_token : Name → Option kinds.Kind → List Level → List Level
with_token n None levels = no_members ∷ levels
with_token n (Some k) levels = with_shape n (begun k levels) (behind k levels)

-- the levels that are left with the tokens, the innermost first
abbrev pub levels : List (Token Key Scalar) → List Level
levels [] = []
levels (t ∷ ts) = with_token (name_told t.label) (piece_kind t.piece) (levels ts)

-- the shape that the tokens of a whole record spell, of which the first one opens the document
abbrev pub shape_told : List (Token Key Scalar) → ShapeTree
shape_told [] = object no_members
shape_told (t ∷ ts) = object (innermost (levels ts))

-- the names that the tokens carry, from the front
abbrev pub label_names : Option Key → List Name
label_names None = []
label_names (Some (name n)) = n ∷ []
label_names (Some (number k)) = []

abbrev pub names_told : List (Token Key Scalar) → List Name
names_told ts = flat_map (λ t. label_names t.label) ts

-- ---- the same under a dictionary, where numbers stand for names

-- the name that a label carries, or whose number it carries
abbrev pub name_under : List Name → Option Key → Name
name_under names l = name_told (option_map (key_meant names) l)

abbrev pub levels_under : List Name → List (Token Key Scalar) → List Level
levels_under names ts = levels (tokens_meant names ts)

abbrev pub shape_under : List Name → List (Token Key Scalar) → ShapeTree
shape_under names ts = shape_told (tokens_meant names ts)
