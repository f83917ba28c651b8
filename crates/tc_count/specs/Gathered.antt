-- Values gathered from shapes: the items of all arrays among them, and the members of all objects.
use Rattle.std.specs.Prelude.{List, [], ◌∷◌, ◌++◌}
use Rattle.tc_model.specs.Document.{Name, ShapeTree}
use Rattle.tc_schema_model.specs.SchemaText.{items_in, members_in}

-- what all of them hold
abbrev pub items_among : List ShapeTree → List ShapeTree
items_among [] = []
items_among (s ∷ ss) = items_in s ++ items_among ss

abbrev pub members_among : List ShapeTree → List (Name × ShapeTree)
members_among [] = []
members_among (s ∷ ss) = members_in s ++ members_among ss
