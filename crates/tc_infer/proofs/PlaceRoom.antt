-- What is counted of a part of a place fits where what is counted of the whole place does.
use Rattle.std.proofs.Common.{◌≡◌, ◌+◌, ◌<◌, ◌^◌, List, [], ◌∷◌, ap, subst, arith}
use Rattle.tc_model.specs.Tree.{array, object, Items, Members}
use Rattle.tc_model.specs.Document.{Name, ShapeTree, ScalarKind}
use Rattle.tc_schema_model.specs.Occurrences.{field, each_item}
use Rattle.tc_schema_model.specs.Counted.{held, total, documents_of, total_at}
use Rattle.tc_schema_model.specs.Added.{added, items_added, members_added}
use Rattle.tc_schema_model.specs.Room.{DoesFit, DoFieldsFit}
use Rattle.tc_schema_model.proofs.AddedLaws.{documents-added}
use Rattle.tc_schema.specs.Places.{place_counted, below_counted, fields_counted}
use Rattle.tc_schema.specs.declared.place.Node.{Node}
use Rattle.tc_schema.specs.declared.place.Field.TheViews.{out-Node}
use Rattle.tc_schema.proofs.PlaceViews.{place_parts}

-- the counter of the place itself
pub room_here : (names : List Name) (s : ShapeTree) (p : Node) → DoesFit names (added names s (place_counted p)) → total (out-Node p).counts + 1 < 2 ^ 64
room_here names s p fits =
    let parts : documents_of (place_counted p) ≡ total (out-Node p).counts = ap documents_of (place_parts p) in
    omega (arith, parts, documents-added names s (place_counted p), fits [])

-- the items, and the fields
pub items_fit : (names : List Name) (xs : Items Name ScalarKind) (p : Node) → DoesFit names (added names (array xs) (place_counted p)) → DoesFit names (held (items_added names xs (below_counted (out-Node p).item)))
items_fit names xs p fits = λ path. subst (λ d. total_at names (added names (array xs) d) (each_item ∷ path) < 2 ^ 64) (place_parts p) (fits (each_item ∷ path))

pub members_fit : (names : List Name) (ms : Members Name ScalarKind) (p : Node) → DoesFit names (added names (object ms) (place_counted p)) → DoFieldsFit names (members_added names ms (fields_counted (out-Node p).fields.items))
members_fit names ms p fits = λ name path. subst (λ d. total_at names (added names (object ms) d) (field name ∷ path) < 2 ^ 64) (place_parts p) (fits (field name ∷ path))
