use Rattle.std.proofs.Common.{◌≡◌, ◌∙◌, ◌+◌, ◌-◌, ◌<◌, ◌≤◌, ◌++◌, [], ◌∷◌, length, map, Some, None, IfSome, option_map, sym, ap, subst, arith, rules}
use Rattle.std.proofs.lemmas.List.{map-append}
use Rattle.json.specs.Token.{Token}
use Rattle.json.specs.Json.{parse_map, after_end_array, read_key, items, members, value}
use Rattle.json.specs.Reads.{token_of}
use Rattle.json.proofs.Grammar.{value_is, value-begin_array, value-begin_object, read_key-shorter}
use Rattle.serde_json.specs.Read.{converted}
use Rattle.tc_model.specs.Tree.{leaf, items_of, members_of, no_members, depth, items_depth, members_depth}
use Rattle.tc_model.specs.Document.{text}
use Rattle.tc_value.specs.Meaning.{tree_of, member_of}
use Rattle.tc_value.specs.declared.document.Doc.{Doc}
use Rattle.tc_doc_reader.specs.Tokens.{document_in, items_in, members_in, with_member, with_members, spare_levels, document_next}
use Rattle.tc_doc_reader.proofs.Depths.{one_more_item_deep, one_more_member_deep}
use Rattle.tc_doc_reader.proofs.Orders.{one_more_member}
use Rattle.tc_doc_reader.proofs.TokenLaws.{item_next, items_over, member_next, members_over, items_before, items_before-no_items, one_more_item, none_before, number_told, array_next, object_next}
use Rattle.tc_doc_reader.proofs.reading.+reading.Goals as goal

pub read_items-items-init : goal.read_items-items-init
read_items-items-init t c =
    let all = converted items_in (items (value (c.args.room + spare_levels)) (length c.args.reader.now) c.args.reader.now) in (
      length c.args.reader.now,
      omega arith,
      none_before all ∙ ap (λ ds. parse_map (items_before (map tree_of ds)) all) (sym c.in_ok-found.ensures.items),
      omega arith,
      subst (λ ds. items_depth (items_of (map tree_of ds)) ≤ c.args.room) (sym c.in_ok-found.ensures.items) (omega arith),
    )

pub read_items-items-preserved : goal.read_items-items-preserved
read_items-items-preserved t c =
    let p = value (c.args.room + spare_levels) in
    let l = c.items in
    let n = l.invariant.0 in
    let found = map tree_of l.found.items in
    let going : (after_end_array l.reader ≡ None) × (c.take_end_array.new.self ≡ l.reader) = grind arith in
    let v = c.in-Some.item in
    let r = c.read_next.new.reader in
    let meant : document_next c.args.room c.take_end_array.new.self ≡ Some (tree_of v, r) =
    subst (λ o. IfSome o (λ (doc : Doc). document_next c.args.room c.take_end_array.new.self ≡ Some (tree_of doc, r))) c.in-Some.is c.in_ok-item.ensures.meant in
    let shallow : depth (tree_of v) ≤ c.args.room =
    subst (λ o. IfSome o (λ (doc : Doc). depth (tree_of doc) ≤ c.args.room)) c.in-Some.is c.in_ok-item.ensures.shallow in
    let less : length r < length l.reader = grind arith in
    let turn = item_next p n l.reader r (tree_of v) (omega (arith, l.invariant.1)) going.0 (rw (← going.1) meant) in
    let pushed : found ++ tree_of v ∷ [] ≡ map tree_of c.push.new.self.items = sym (ap (map tree_of) c.in_ok-push-in-Some.ensures.items ∙ map-append tree_of l.found.items (v ∷ [])) in (
      n - 1,
      omega (arith, l.invariant.1),
      l.invariant.2 ∙ ap (parse_map (items_before found)) turn ∙ one_more_item found (tree_of v) _ ∙ ap (λ ts. parse_map (items_before ts) (converted items_in (items p (n - 1) r))) pushed,
      omega (arith, l.invariant.3),
      subst (λ ts. items_depth (items_of ts) ≤ c.args.room) pushed (one_more_item_deep found (tree_of v) c.args.room l.invariant.4 shallow),
    )

pub read_items-returns-clause-meant : goal.read_items-returns-clause-meant
read_items-returns-clause-meant t c =
    let p = value (c.args.room + spare_levels) in
    let l = c.items in
    let n = l.invariant.0 in
    let found = map tree_of l.found.items in
    let r = c.take_end_array.new.self in
    l.invariant.2 ∙ ap (parse_map (items_before found)) (items_over p n l.reader r l.invariant.1 (grind arith)) ∙ ap (λ ds. Some (ds, r)) (items_before-no_items found ∙ ap items_of (sym c.of.ensures))

pub read_members-members-init : goal.read_members-members-init
read_members-members-init t c =
    let all = members (value (c.args.room + spare_levels)) (length c.args.reader.now) c.args.reader.now in (
      length c.args.reader.now,
      omega arith,
      ap (λ es. converted (λ ms. members_in ms (with_members (map member_of es) no_members)) all) (sym c.in_ok-found.ensures.items),
      omega arith,
      subst (λ es. members_depth (with_members (map member_of es) no_members) ≤ c.args.room) (sym c.in_ok-found.ensures.items) (omega arith),
    )

pub read_members-members-preserved : goal.read_members-members-preserved
read_members-members-preserved t c =
    let p = value (c.args.room + spare_levels) in
    let l = c.members in
    let n = l.invariant.0 in
    let old = with_members (map member_of l.found.items) no_members in
    let k = c.in-Ok-Some.name.now in
    let s = c.next_key.new.self in
    let named : read_key l.reader ≡ Some (Some k, s) = grind arith in
    let v = c.in-Some.value in
    let r = c.read_next.new.reader in
    let meant : document_next c.args.room s ≡ Some (tree_of v, r) =
    subst (λ o. IfSome o (λ (doc : Doc). document_next c.args.room s ≡ Some (tree_of doc, r))) c.in-Some.is c.in_ok-value-in-Ok-Some.ensures.meant in
    let shallow : depth (tree_of v) ≤ c.args.room =
    subst (λ o. IfSome o (λ (doc : Doc). depth (tree_of doc) ≤ c.args.room)) c.in-Some.is c.in_ok-value-in-Ok-Some.ensures.shallow in
    let less = read_key-shorter l.reader (Some k) s named in
    let lesser : length r < length s = grind arith in
    let copied : c.in_ok-name-in-Ok-Some.name ≡ k = search rules in
    let put : with_members (map member_of c.push.new.self.items) no_members ≡ with_member c.in_ok-name-in-Ok-Some.name (tree_of v) old =
    ap (λ es. with_members (map member_of es) no_members) c.in_ok-push-in-Some.ensures.items ∙ ap (λ es. with_members es no_members) (map-append member_of l.found.items _) ∙ one_more_member (map member_of l.found.items) (c.in_ok-name-in-Ok-Some.name, tree_of v) no_members in (
      n - 1,
      omega (arith, l.invariant.1),
      l.invariant.2 ∙ member_next p old n k l.reader s r (tree_of v) (omega (arith, l.invariant.1)) named meant
          ∙ ap (λ found. converted (λ ms. members_in ms found) (members p (n - 1) r)) (sym (put ∙ ap (λ name. with_member name (tree_of v) old) copied)),
      omega (arith, l.invariant.3),
      subst (λ ms. members_depth ms ≤ c.args.room) (sym put) (one_more_member_deep c.in_ok-name-in-Ok-Some.name (tree_of v) old c.args.room l.invariant.4 shallow),
    )

pub read_members-returns-in-Some-in_order-clause-meant : goal.read_members-returns-in-Some-in_order-clause-meant
read_members-returns-in-Some-in_order-clause-meant t c =
    let p = value (c.args.room + spare_levels) in
    let l = c.members in
    let n = l.invariant.0 in
    let old = with_members (map member_of l.found.items) no_members in
    let all : members_of c.of.result ≡ old = ap members_of c.of.ensures ∙ c.in-Some-in_order.ensures.put in
    l.invariant.2 ∙ members_over p old n l.reader c.next_key.new.self l.invariant.1 (grind arith) ∙ ap (λ ms. Some (ms, c.next_key.new.self)) (sym all)

pub read_next-returns-in_ok-copy_of-in-String-clause-meant : goal.read_next-returns-in_ok-copy_of-in-String-clause-meant
read_next-returns-in_ok-copy_of-in-String-clause-meant t c =
    let room = c.args.room + spare_levels in
    let is : c.args.reader.now ≡ Token.string c.in-String.text.now ∷ c.next.new.self = c.in-Some.ensures.value ∙ ap (λ k. token_of k ∷ c.next.new.self) c.in-String.is in
    let seen : c.in_ok-copy_of-in-String.field-0 ≡ c.in-String.text.now = search rules in
    ap (converted document_in) (ap (value room) is ∙ value_is room _) ∙ ap (λ s. Some (leaf (text s), c.next.new.self)) (sym seen)

pub read_next-returns-in-Some-int_of-clause-meant : goal.read_next-returns-in-Some-int_of-clause-meant
read_next-returns-in-Some-int_of-clause-meant t c =
    let room = c.args.room + spare_levels in
    let is : c.args.reader.now ≡ Token.number c.in-Number.text.now ∷ c.next.new.self = c.in-Some.ensures.value ∙ ap (λ k. token_of k ∷ c.next.new.self) c.in-Number.is in
    ap (converted document_in) (ap (value room) is ∙ value_is room _) ∙ ap (option_map (λ d. (d, c.next.new.self))) (number_told c.in-Number.text.now c.integer_of.result (tree_of c.in-Some-int_of.doc) c.integer_of.ensures c.in-Some-int_of.ensures.told)

pub read_next-returns-in-Bool-clause-meant : goal.read_next-returns-in-Bool-clause-meant
read_next-returns-in-Bool-clause-meant t c =
    let room = c.args.room + spare_levels in
    let is : c.args.reader.now ≡ Token.boolean c.in-Bool.b ∷ c.next.new.self = c.in-Some.ensures.value ∙ ap (λ k. token_of k ∷ c.next.new.self) c.in-Bool.is in
    ap (converted document_in) (ap (value room) is ∙ value_is room _)

pub read_next-returns-in-Null-clause-meant : goal.read_next-returns-in-Null-clause-meant
read_next-returns-in-Null-clause-meant t c =
    let room = c.args.room + spare_levels in
    let is : c.args.reader.now ≡ Token.null ∷ c.next.new.self = c.in-Some.ensures.value ∙ ap (λ k. token_of k ∷ c.next.new.self) c.in-Null.is in
    ap (converted document_in) (ap (value room) is ∙ value_is room _)

pub read_next-returns-in-Some-2-clause-meant : goal.read_next-returns-in-Some-2-clause-meant
read_next-returns-in-Some-2-clause-meant t c =
    let room = c.args.room + spare_levels in
    let s = c.next.new.self in
    let r = c.read_items.new.reader in
    let found = c.in-Some-2.items in
    let first : c.args.reader.now ≡ Token.begin_array ∷ s = c.in-Some.ensures.value ∙ ap (λ k. token_of k ∷ s) c.in-BeginArray.is in
    let less : c.args.room - 1 + spare_levels ≡ room - 1 = omega arith in
    let inside : converted items_in (items (value (c.args.room - 1 + spare_levels)) (length s) s) ≡ Some (items_of found, r) =
    subst (λ o. IfSome o (λ xs. converted items_in (items (value (c.args.room - 1 + spare_levels)) (length s) s) ≡ Some (items_of xs, r))) c.in-Some-2.is c.in_ok-items-in-BeginArray.ensures.meant in
    ap (converted document_in) (ap (value room) first ∙ value-begin_array room s (omega arith))
    ∙ array_next (items (value (room - 1)) (length s) s) (items_of found) r (ap (λ d. converted items_in (items (value d) (length s) s)) (sym less) ∙ inside)

pub read_next-returns-in-Some-3-clause-meant : goal.read_next-returns-in-Some-3-clause-meant
read_next-returns-in-Some-3-clause-meant t c =
    let room = c.args.room + spare_levels in
    let s = c.next.new.self in
    let r = c.read_members.new.reader in
    let found = c.in-Some-3.members in
    let first : c.args.reader.now ≡ Token.begin_object ∷ s = c.in-Some.ensures.value ∙ ap (λ k. token_of k ∷ s) c.in-BeginObject.is in
    let less : c.args.room - 1 + spare_levels ≡ room - 1 = omega arith in
    let inside : converted (λ ms. members_in ms no_members) (members (value (c.args.room - 1 + spare_levels)) (length s) s) ≡ Some (members_of found, r) =
    subst (λ o. IfSome o (λ xs. converted (λ ms. members_in ms no_members) (members (value (c.args.room - 1 + spare_levels)) (length s) s) ≡ Some (members_of xs, r))) c.in-Some-3.is c.in_ok-members-in-BeginObject.ensures.meant in
    ap (converted document_in) (ap (value room) first ∙ value-begin_object room s (omega arith))
    ∙ object_next (members (value (room - 1)) (length s) s) (members_of found) r (ap (λ d. converted (λ ms. members_in ms no_members) (members (value d) (length s) s)) (sym less) ∙ inside)

pub read_items-returns-clause-shallow : goal.read_items-returns-clause-shallow
read_items-returns-clause-shallow t c =
    subst (λ xs. items_depth (items_of xs) ≤ c.args.room) (sym c.of.ensures) c.items.invariant.4

pub read_next-returns-in-Some-2-clause-shallow : goal.read_next-returns-in-Some-2-clause-shallow
read_next-returns-in-Some-2-clause-shallow t c =
    let inside : items_depth (items_of c.in-Some-2.items) ≤ c.args.room - 1 =
    subst (λ o. IfSome o (λ xs. items_depth (items_of xs) ≤ c.args.room - 1)) c.in-Some-2.is c.in_ok-items-in-BeginArray.ensures.shallow in
    omega (arith, inside)

pub read_next-returns-in-Some-3-clause-shallow : goal.read_next-returns-in-Some-3-clause-shallow
read_next-returns-in-Some-3-clause-shallow t c =
    let inside : members_depth (members_of c.in-Some-3.members) ≤ c.args.room - 1 =
    subst (λ o. IfSome o (λ xs. members_depth (members_of xs) ≤ c.args.room - 1)) c.in-Some-3.is c.in_ok-members-in-BeginObject.ensures.shallow in
    omega (arith, inside)
