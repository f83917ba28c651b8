use Rattle.std.proofs.Common.{◌≡◌, ℕ, ◌+◌, ◌<◌, ◌≤◌, ◌↔◌, max, List, [], ◌∷◌, ◌++◌, length, get_or, map, drop, Some, option_map, string_bytes, sym, ap, ◌∙◌, subst, append_assoc, append-nil, arith}
use Rattle.std.proofs.lemmas.List.{drop_more, at_drop_all, map_push}
use Rattle.std.specs.List.Sorted.{IsStrictlySortedBy}
use Rattle.std.specs.Map.{keys_of}
use Rattle.serde_json.specs.Data as json
use Rattle.serde_json.specs.View.{view, items_view, members_view}
use Rattle.serde_json.specs.declared.value.Value.{Value}
use Rattle.serde_json.proofs.Views.{Entry}
use Rattle.tc_model.specs.Tree.{item, items_of, members_of}
use Rattle.tc_model.specs.Document.{Name, name_cmp}
use Rattle.tc_model.specs.Json.{items_meant, members_meant}
use Rattle.tc_value.specs.declared.document.Member.{Member}
use Rattle.tc_value.specs.Meaning.{tree_of, member_of}
use Rattle.tc_json.proofs.Before.{with_member, next_before, items_of_before, members_of_before}
use Rattle.tc_json.proofs.Names.{names_ascend}
use Rattle.tc_json.proofs.reading.+convert.Goals as goal

items_left : (vs : List Value) (i : ℕ) (v : Value) → i < length vs → v ≡ get_or vs i v → items_view (drop i vs) ≡ json.item (view v) (items_view (drop (i + 1) vs))
items_left vs i v h is = ap items_view (drop_more vs i v h) ∙ ap (λ w. json.item (view w) (items_view (drop (i + 1) vs))) (sym is)

-- all nest within the room where the rest does, past a first that does
rest_decides : (all left first rest room : ℕ) → (all ≤ room) ↔ (left ≤ room) → left ≡ max first rest → first ≤ room → (all ≤ room) ↔ (rest ≤ room)
rest_decides all left first rest room h e k = (λ a. let l = h.0 a in omega (arith, l, e, k), λ r. h.1 (omega (arith, e, k, r)))

-- the next name joins those that stand before the names that are left
name_joins : (names : List Name) (n : Name) (rest left all : List Name) → left ≡ n ∷ rest → names ++ left ≡ all → (names ++ n ∷ []) ++ rest ≡ all
name_joins names n rest left all e h = append_assoc names (n ∷ []) rest ∙ ap (λ ns. names ++ ns) (sym e) ∙ h

pub convert_items-loop-item-preserved : goal.convert_items-loop-item-preserved
convert_items-loop-item-preserved t c =
    let l = c.loop-item in
    let all = c.deref-item-items.result.now in
    let rest = items_view (drop (l.item-index + 1) all) in
    let left : items_view (drop l.item-index all) ≡ json.item (view c.item-item.result) rest = items_left all l.item-index c.item-item.result c.loop-item-test.true c.item-item.is in
    let first : items_meant (items_view (drop l.item-index all)) ≡ option_map (item (tree_of c.in_ok-convert.field-0)) (items_meant rest) = ap items_meant left ∙ rw c.in_ok-convert.ensures.ok in
    record {
      meant = rw c.in_ok-push.ensures.items (l.invariant.meant ∙ rw first (next_before item tree_of l.docs.items c.in_ok-convert.field-0 (items_meant rest)));
      deep = rest_decides _ _ _ _ _ l.invariant.deep (ap json.items_depth left) c.in_ok-convert.ensures.shallow;
    }

pub convert_items-returns-clause-ok : goal.convert_items-returns-clause-ok
convert_items-returns-clause-ok t c =
    let l = c.loop-item in
    let all = c.deref-item-items.result.now in
    let done = map tree_of l.docs.items in
    let end : items_meant (items_view (drop l.item-index all)) ≡ Some (items_of []) = at_drop_all (λ vs. items_meant (items_view vs)) all l.item-index c.loop-item-test.false in
    let read : items_meant (items_view all) ≡ Some (items_of done) = l.invariant.meant ∙ rw end (ap Some (items_of_before done)) in
    rw (c.of.ensures, ← c.deref-item-items.ensures.value) read

pub convert_members-loop-name-preserved : goal.convert_members-loop-name-preserved
convert_members-loop-name-preserved t c =
    let l = c.loop-name in
    let e : Entry = (c.in-Some.name.now, c.in-Some.value.now) in
    let rest = c.next.new.self in
    let m : Member = record { name = c.in_ok-name.name; value = c.in_ok-value.value } in
    let left : l.name-iterator ≡ e ∷ rest = c.in-Some.ensures.steps in
    let name : string_bytes e.0 ≡ c.in_ok-name.name = sym (c.in_ok-name.ensures ∙ c.as_str.ensures.value) in
    let first : members_meant (members_view l.name-iterator) ≡ option_map (with_member (member_of m)) (members_meant (members_view rest)) = ap (λ es. members_meant (members_view es)) left ∙ rw (c.in_ok-value.ensures.ok, name) in
    record {
      meant = rw c.in_ok-push.ensures.items (l.invariant.meant ∙ rw first (next_before with_member member_of l.listed.items m (members_meant (members_view rest))));
      named = rw (c.in_ok-push.ensures.items, map_push, map_push) (name_joins (map (λ n. n.0) (map member_of l.listed.items)) m.name (map string_bytes (keys_of rest)) (map string_bytes (keys_of l.name-iterator)) _ (ap (λ es. map string_bytes (keys_of es)) left ∙ rw name) l.invariant.named);
      deep = rest_decides _ _ _ _ _ l.invariant.deep (ap (λ es. json.members_depth (members_view es)) left) c.in_ok-value.ensures.shallow;
    }

pub convert_members-of-requires : goal.convert_members-of-requires
convert_members-of-requires t c =
    let l = c.loop-name in
    let names = map (λ m. m.0) (map member_of l.listed.items) in
    let all : map string_bytes (keys_of c.args.members.now.entries) ≡ names = sym l.invariant.named ∙ rw (c.in-None.ensures.steps.0, append-nil) in
    subst (λ ns. IsStrictlySortedBy name_cmp ns) all (names_ascend (keys_of c.args.members.now.entries) c.iter-name-items.ensures.ordered)

pub convert_members-returns-clause-ok : goal.convert_members-returns-clause-ok
convert_members-returns-clause-ok t c =
    let l = c.loop-name in
    let done = map member_of l.listed.items in
    let end : members_meant (members_view l.name-iterator) ≡ Some (members_of []) = ap (λ es. members_meant (members_view es)) c.in-None.ensures.steps.0 in
    rw c.of.ensures (l.invariant.meant ∙ rw end (ap Some (members_of_before done)))
