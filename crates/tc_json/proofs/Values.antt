-- The lists of a JSON value, from those of a document.
use Rattle.std.proofs.Common.{◌≡◌, List, [], ◌∷◌, ◌++◌, map, Less, Greater, refl, ap, ◌∙◌}
use Rattle.std.proofs.lemmas.Cmp.{nat_list_cmp_total}
use Rattle.std.specs.List.{AllByRecursion}
use Rattle.std.specs.List.Sorted.{IsStrictlySortedBy}
use Rattle.std.specs.Ordering.{nat_cmp, ordering_reverse}
use Rattle.std.specs.Cmp.Lexicographic.{slice_cmp}
use Rattle.serde_json.specs.Data as json
use Rattle.serde_json.specs.View as seen
use Rattle.tc_model.specs.Tree.{items_of, members_of}
use Rattle.tc_model.specs.Document.{Name, Document, name_cmp, IsAscending}
use Rattle.tc_model.specs.Json.{data_of, items_data, members_data}

pub items_data_of : (ds : List Document) → seen.items_of (map data_of ds) ≡ items_data (items_of ds)
items_data_of [] = refl
items_data_of (d ∷ ds) = ap (json.item (data_of d)) (items_data_of ds)

below_next : (n : Name) (ms : List (Name × Document)) (m : Name × Document) (more : List (Name × Document)) → AllByRecursion (λ y. name_cmp n y ≡ Less) (map (λ p. p.0) (ms ++ m ∷ more)) → name_cmp n m.0 ≡ Less
below_next n [] m more h = h.0
below_next n (p ∷ ms) m more h = below_next n ms m more h.1

-- a member whose name is above those before it goes last
pub put_last : (done : List (Name × Document)) (m : Name × Document) (more : List (Name × Document)) → IsAscending (done ++ m ∷ more)
    → json.put m.0 (data_of m.1) (members_data (members_of done)) ≡ members_data (members_of (done ++ m ∷ []))
unfolding IsStrictlySortedBy
put_last [] m more h = refl
put_last (first ∷ done) m more h =
    let above : slice_cmp nat_cmp m.0 first.0 ≡ Greater =
    nat_list_cmp_total.antisymm m.0 first.0 ∙ ap ordering_reverse (below_next first.0 done m more h.0) in
    rw above (ap (json.member first.0 (data_of first.1)) (put_last done m more h.1))
