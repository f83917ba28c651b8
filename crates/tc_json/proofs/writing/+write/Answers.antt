use Rattle.std.proofs.Common.{◌≡◌, ℕ, zero, suc, ◌+◌, ◌<◌, ◌≤◌, List, [], ◌∷◌, ◌++◌, length, get_or, map, take, drop, string_bytes, sym, ap, ◌∙◌, subst, arith}
use Rattle.std.proofs.lemmas.List.{drop_more, take_more, take_all, take-append-drop, map-append, map_push}
use Rattle.serde_json.specs.Data as json
use Rattle.serde_json.specs.View as seen
use Rattle.serde_json.specs.View.{view, items_view, members_view}
use Rattle.serde_json.proofs.Views.{members_view-insert_entry}
use Rattle.tc_model.specs.Tree.{items_of, members_of}
use Rattle.tc_model.specs.Document.{IsAscending}
use Rattle.tc_model.specs.Json.{data_of, items_data, members_data}
use Rattle.tc_value.specs.declared.document.Doc.{Doc}
use Rattle.tc_value.specs.declared.document.Member.{Member}
use Rattle.tc_value.specs.Meaning.{tree_of, member_of}
use Rattle.tc_model.specs.TreeSize.{tree_size, trees_size, labelled_size}
use Rattle.tc_json.proofs.Values.{items_data_of, put_last}
use Rattle.tc_json.proofs.writing.+write.Goals as goal

item_size : (ds : List Doc) (i : ℕ) (d : Doc) → i < length ds → tree_size (tree_of (get_or ds i d)) ≤ trees_size (map tree_of ds)
item_size [] i d h = absurd (omega arith)
item_size (e ∷ ds) zero d h = omega arith
item_size (e ∷ ds) (suc i) d h = omega (arith, item_size ds i d (omega arith))

member_size : (ms : List Member) (i : ℕ) (m : Member) → i < length ms → tree_size (tree_of (get_or ms i m).value) ≤ labelled_size (map member_of ms)
member_size [] i m h = absurd (omega arith)
member_size (n ∷ ms) zero m h = omega arith
member_size (n ∷ ms) (suc i) m h = omega (arith, member_size ms i m (omega arith))

-- a list, mapped, around the element at a place
map_around : {X Y : Type 0} (f : X → Y) (xs : List X) (i : ℕ) (x : X) → i < length xs → x ≡ get_or xs i x → map f xs ≡ map f (take i xs) ++ f x ∷ map f (drop (i + 1) xs)
map_around f xs i x h is =
    ap (map f) (sym (take-append-drop i xs)) ∙ map-append f (take i xs) (drop i xs) ∙ ap (λ ys. map f (take i xs) ++ map f ys) (drop_more xs i x h ∙ ap (λ y. y ∷ drop (i + 1) xs) (sym is))

map_taken : {X Y : Type 0} (f : X → Y) (xs : List X) (i : ℕ) (x : X) → i < length xs → x ≡ get_or xs i x → map f (take (i + 1) xs) ≡ map f (take i xs) ++ f x ∷ []
map_taken f xs i x h is = ap (map f) (take_more xs i x h ∙ ap (λ y. take i xs ++ y ∷ []) (sym is)) ∙ map_push f (take i xs) x

pub array_of-value_of-requires : goal.array_of-value_of-requires
array_of-value_of-requires t c =
    let docs = c.as_slice-docs.result.now in
    let d = c.doc-item.result in
    let size : tree_size (tree_of d) ≤ trees_size c.args.items.now = rw (← c.as_slice-docs.ensures) (subst (λ e. tree_size (tree_of e) ≤ trees_size (map tree_of docs)) (sym c.doc-item.is) (item_size docs c.loop-doc.doc-index d c.loop-doc-test.true)) in
    (omega (arith, c.decreases), tt)

pub array_of-returns : goal.array_of-returns
array_of-returns t c =
    let docs = c.as_slice-docs.result.now in
    let all : take c.loop-doc.doc-index docs ≡ docs = take_all c.loop-doc.doc-index docs c.loop-doc-test.false in
    let values : items_view c.loop-doc.values.items ≡ items_data (items_of (map tree_of docs)) = ap seen.items_of (c.loop-doc.invariant ∙ rw all) ∙ items_data_of (map tree_of docs) in
    values ∙ ap (λ ds. items_data (items_of ds)) c.as_slice-docs.ensures

pub object_of-value_of-requires : goal.object_of-value_of-requires
object_of-value_of-requires t c =
    let ms = c.as_slice-member-items.result.now in
    let m = c.member-item.result in
    let size : tree_size (tree_of m.value) ≤ labelled_size c.args.members.now = rw (← c.as_slice-member-items.ensures.members) (subst (λ n. tree_size (tree_of n.value) ≤ labelled_size (map member_of ms)) (sym c.member-item.is) (member_size ms c.loop-member.member-index m c.loop-member-test.true)) in
    (omega (arith, c.decreases), tt)

pub object_of-loop-member-preserved : goal.object_of-loop-member-preserved
object_of-loop-member-preserved t c =
    let l = c.loop-member in
    let ms = c.as_slice-member-items.result.now in
    let m = c.member-item.result in
    let done = map member_of (take l.member-index ms) in
    let more = map member_of (drop (l.member-index + 1) ms) in
    let all : c.args.members.now ≡ done ++ member_of m ∷ more = sym c.as_slice-member-items.ensures.members ∙ map_around member_of ms l.member-index m c.loop-member-test.true c.member-item.is in
    let last = put_last done (member_of m) more (subst (λ ns. IsAscending ns) all c.as_slice-member-items.ensures.ascending) in
    let name : string_bytes c.in_ok-name.name ≡ m.name = c.in_ok-name.ensures.ok ∙ c.as_str.ensures.bytes in
    let put_in : members_view c.insert.new.self.entries ≡ json.put m.name (data_of (tree_of m.value)) (members_data (members_of done)) = ap members_view c.in_ok-insert.ensures.entries ∙ members_view-insert_entry l.values.entries c.in_ok-name.name c.in_ok-value_of.field-0 ∙ rw (name, c.in_ok-value_of.ensures, l.invariant) in
    put_in ∙ last ∙ ap (λ ns. members_data (members_of ns)) (sym (map_taken member_of ms l.member-index m c.loop-member-test.true c.member-item.is))
