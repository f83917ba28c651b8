-- What is counted of a part of a shape fits where what is counted of the whole shape does.
use Rattle.std.proofs.Common.{◌≡◌, ◌+◌, ◌≤◌, List, ap, ◌∙◌, arith}
use Rattle.tc_model.specs.Tree.{Items, item, Members, member}
use Rattle.tc_model.specs.Document.{Name, ShapeTree, ScalarKind, null_kind, boolean_kind, integer_kind, text_kind}
use Rattle.tc_model.specs.Dictionary.{number_of, number}
use Rattle.tc_schema_model.specs.Occurrences.{Path}
use Rattle.tc_model.specs.Kinds.{Kind, scalar, arrays, objects}
use Rattle.tc_schema_model.specs.Counted.{Counted, Below, an_item, Fields, held, field_at, numbered_field, shows, total_at}
use Rattle.tc_schema_model.specs.Added.{put_field, added, items_added, members_added, IsNamed, AreItemsNamed, AreMembersNamed}
use Rattle.tc_schema_model.proofs.AddedLaws.{shows-added, shows-items_added, shows-members_added}
use Rattle.tc_schema_model.proofs.FieldLaws.{field_at-put_field_here}
use Rattle.tc_model.proofs.NameNumbers.{numbered}
use Rattle.tc_schema_model.specs.Room.{DoesFit, DoFieldsFit}
use Rattle.tc_schema_model.specs.Values.{values_at}

-- the sum over the six kinds of what is shown
pub total-added : (names : List Name) (s : ShapeTree) (d : Counted) → IsNamed names s → (path : Path) → total_at names (added names s d) path ≡ total_at names d path + values_at s path
total-added names s d named path =
    let shown : (t : Kind) → _ = λ t. shows-added names s d named path t in
    omega (arith, shown (scalar null_kind), shown (scalar boolean_kind), shown (scalar integer_kind), shown (scalar text_kind), shown arrays, shown objects)

-- a place that shows no less of each kind has no fewer values
total-grows : (names : List Name) (d e : Counted) (path : Path) → ((t : Kind) → shows names d path t ≤ shows names e path t) → total_at names d path ≤ total_at names e path
total-grows names d e path grows = omega (arith, grows (scalar null_kind), grows (scalar boolean_kind), grows (scalar integer_kind), grows (scalar text_kind), grows arrays, grows objects)

fits_below : (names : List Name) (d e : Counted) → ((path : Path) (t : Kind) → shows names d path t ≤ shows names e path t) → DoesFit names e → DoesFit names d
fits_below names d e grows fits = λ path. omega (arith, fits path, total-grows names d e path (grows path))

-- one item before the others
pub item_fits : (names : List Name) (s : ShapeTree) (xs : Items Name ScalarKind) (b : Below) → AreItemsNamed names xs → DoesFit names (held (items_added names (item s xs) b)) → DoesFit names (added names s (held b))
item_fits names s xs b named fits =
    fits_below names (added names s (held b)) (held (items_added names (item s xs) b)) (λ path t. omega (arith, shows-items_added names xs (an_item (added names s (held b))) named path t)) fits

-- one member before the others
pub member_fits : (names : List Name) (label : Name) (s : ShapeTree) (ms : Members Name ScalarKind) (fs : Fields) → AreMembersNamed names (member label s ms) → DoFieldsFit names (members_added names (member label s ms) fs)
    → DoesFit names (added names s (field_at (number names label) fs))
member_fits names label s ms fs named fits =
    let n = number names label in
    let d = added names s (field_at n fs) in
    let all = members_added names ms (put_field n d fs) in
    let here : (path : Path) (t : Kind) → shows names (numbered_field (number_of names label) (put_field n d fs)) path t ≡ shows names d path t =
    λ path t. ap (λ o. shows names (numbered_field o (put_field n d fs)) path t) (numbered names label named.0) ∙ ap (λ e. shows names e path t) (field_at-put_field_here n d fs) in
    fits_below names d (numbered_field (number_of names label) all) (λ path t. omega (arith, here path t, shows-members_added names ms (put_field n d fs) named.2 label path t)) (fits label)
