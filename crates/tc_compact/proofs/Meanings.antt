-- What a record of any form means under a dictionary: the tokens and the document.
use Rattle.std.proofs.Common.{◌≡◌, ◌∙◌, ℕ, zero, suc, ◌<◌, ◌≤◌, ◌^◌, true, false, List, [], ◌∷◌, ◌++◌, Option, None, Some, option_map, option_to_list, unwrap_or, IsUtf8, length, map, slice_get, inl, inr, refl, sym, ap, subst, arith}
use Rattle.std.specs.List.{AllByRecursion}
use Rattle.std.proofs.lemmas.Bool.{both_ways}
use Rattle.std.proofs.lemmas.Option.{same_Some}
use Rattle.tc_model.specs.Tree.{leaf, array, object, Items, no_items, item, Members, no_members, member, depth, items_relabel, members_relabel}
use Rattle.tc_model.specs.Document.{Name, Document, Scalar, ShapeTree, document_shape, IsScalar, IsTreeOf, AreItemsOf, AreMembersOf}
use Rattle.tc_model.specs.Dictionary.{IsName, IsDictionary, number as name_number}
use Rattle.tc_model.specs.KnownNames.{HasEach}
use Rattle.tc_model.specs.Stored.{IsObject}
use Rattle.tc_model.proofs.NameNumbers.{slice_get-number_of, number_of-below, numbered}
use Rattle.tc_record.specs.Preorder.{Token, token, tokens_of}
use Rattle.tc_record.specs.Record.{labels, spelling_of, record_in, record_of, NumberedTree, IsNumberedForm, IsRecordOf, IsNumberedRecordIn, IsNumberedTree, AreNumberedItems, AreNumberedMembers}
use Rattle.tc_record.specs.Walk.{Key, name, number}
use Rattle.tc_record.specs.Borrowed.{Record, Spells, IsBelow, named_tokens, numbered_tokens}
use Rattle.tc_record.specs.Building.{document_read, HoldDocuments}
use Rattle.tc_record.proofs.Keyed.{retoken, preorder-relabel, depth-relabel, labels-retoken, record_in-retoken}
use Rattle.tc_record.proofs.Built.{document_again, document_holds}
use Rattle.tc_compact.specs.Compacted.{compacted, IsNumberedUnder}
use Rattle.tc_compact.specs.Slots.{names_in, names_of}
use Rattle.tc_compact.specs.Meant.{name_at, expanded, key_meant, tokens_meant, levels_meant, shape_meant, IsOrdered, AreItemsOrdered, AreMembersOrdered, IsRecordUnder, HasRoom}
use Rattle.tc_compact.proofs.Relabelled.{relabel-relabel, tokens-numbered, names_in-to_names}
use Rattle.tc_compact.proofs.Orders.{ordered_by_shape, document_ordered}
use Rattle.tc_compact.proofs.Named.{names_found}
use Rattle.tc_compact.proofs.Compacts.{document_tokens, document_names, compacted_record}
use Rattle.tc_compact.proofs.NumberedTrees.{tree_tokens, numbered_tree}

-- ---- the tokens that are meant

-- the name of a known name's number
name_again : (names : List Name) (n : Name) → HasEach names (n ∷ []) → name_at names (name_number names n) ≡ n
name_again names n known = ap (λ o. unwrap_or o []) (slice_get-number_of names n (name_number names n) (numbered names n known.0))

-- names mean themselves
meant_named : (names : List Name) (ts : List (Token Name Scalar)) → tokens_meant names (map (retoken name) ts) ≡ map (retoken name) ts
meant_named names [] = refl
meant_named names (t ∷ ts) = ap (λ l. token l t.piece ∷ tokens_meant names (map (retoken name) ts)) (same t.label) ∙ ap (λ us. retoken name t ∷ us) (meant_named names ts)
  where
    same : (l : Option Name) → option_map (key_meant names) (option_map name l) ≡ option_map name l
    same None = refl
    same (Some n) = refl

-- numbers mean their names
meant_numbers : (names : List Name) (ts : List (Token ℕ Scalar)) → tokens_meant names (map (retoken number) ts) ≡ map (retoken (λ k. name (name_at names k))) ts
meant_numbers names [] = refl
meant_numbers names (t ∷ ts) =
    ap (λ l. token l t.piece ∷ tokens_meant names (map (retoken number) ts)) (same t.label) ∙ ap (λ us. retoken (λ k. name (name_at names k)) t ∷ us) (meant_numbers names ts)
  where
    same : (l : Option ℕ) → option_map (key_meant names) (option_map number l) ≡ option_map (λ k. name (name_at names k)) l
    same None = refl
    same (Some k) = refl

-- numbers of known names mean these
meant_known : (names : List Name) (ts : List (Token Name Scalar)) → HasEach names (labels ts) → tokens_meant names (map (retoken (λ n. number (name_number names n))) ts) ≡ map (retoken name) ts
meant_known names [] known = refl
meant_known names (t ∷ ts) known =
    let both = split t.label (labels ts) known in
    ap (λ l. token l t.piece ∷ tokens_meant names (map (retoken (λ n. number (name_number names n))) ts)) (same t.label both.0) ∙ ap (λ us. retoken name t ∷ us) (meant_known names ts both.1)
  where
    split : (l : Option Name) (ls : List Name) → HasEach names (option_to_list l ++ ls) → HasEach names (option_to_list l) × HasEach names ls
    split None ls known = (tt, known)
    split (Some n) ls known = ((known.0, tt), known.1)

    same : (l : Option Name) → HasEach names (option_to_list l) → option_map (key_meant names) (option_map (λ n. number (name_number names n)) l) ≡ option_map name l
    same None known = refl
    same (Some n) known = ap (λ m. Some (name m)) (name_again names n known)

-- the numbers of a document's names mean its tokens
pub compacted_meant : (names : List Name) (d : Document) → HasEach names (labels (tokens_of d)) → tokens_meant names (numbered_tokens (compacted names d)) ≡ named_tokens d
compacted_meant names d known =
    ap (tokens_meant names) (tokens-numbered (name_number names) d) ∙ meant_known names (tokens_of d) known ∙ sym (preorder-relabel name d None)

-- a record means the tokens of its document
pub tokens_are : (names : List Name) (r : Record) (d : Document) → Spells r → IsRecordUnder names d r.bytes → tokens_meant names r.tokens ≡ named_tokens d
tokens_are names r d spells (inl is) =
    let ts = tokens_of d in
    ap (tokens_meant names) ((document_tokens r d spells is).1 ∙ preorder-relabel name d None) ∙ meant_named names ts ∙ sym (preorder-relabel name d None)
tokens_are names r d spells (inr (whole, is, (form, (told, compact)))) = ap (tokens_meant names) (tree_tokens r form (compacted names d) spells told compact.numbered) ∙ compacted_meant names d compact.known

pub shape_is : (names : List Name) (r : Record) (d : Document) → Spells r → IsRecordUnder names d r.bytes → shape_meant names r.tokens ≡ Some (document_shape d)
shape_is names r d spells is = ap (λ ts. option_map document_shape (document_read ts)) (tokens_are names r d spells is) ∙ ap (option_map document_shape) (document_again d)

-- what is read of its tokens is the document
pub document_is : (names : List Name) (r : Record) (d e : Document) → Spells r → IsRecordUnder names d r.bytes → document_read (tokens_meant names r.tokens) ≡ Some e → d ≡ e
document_is names r d e spells is meant = same_Some d e (sym (document_again d) ∙ ap document_read (sym (tokens_are names r d spells is)) ∙ meant)

lawful_under : (names : List Name) (d : Document) (bytes : List ℕ) → IsRecordUnder names d bytes → (whole : List ℕ) × IsRecordOf d whole
lawful_under names d bytes (inl is) = (bytes, is)
lawful_under names d bytes (inr (whole, is, compact)) = (whole, is)

pub meant_holds : (names : List Name) (r : Record) (d : Document) → Spells r → IsRecordUnder names d r.bytes → HoldDocuments (levels_meant names r.tokens)
meant_holds names r d spells is = rw (tokens_are names r d spells is) (document_holds d (lawful_under names d r.bytes is).1.document)

-- ---- a record with numbers that means a document has room

each_below : (names ls : List Name) → HasEach names ls → AllByRecursion (IsBelow (length names)) (map (λ n. number (name_number names n)) ls)
each_below names [] known = tt
each_below names (l ∷ ls) known = (number_of-below names l (name_number names l) (numbered names l known.0), each_below names ls known.1)

-- the tokens of the tree with names
expanded_tokens : (names : List Name) (n : NumberedTree) → named_tokens (expanded names n) ≡ map (retoken (λ k. name (name_at names k))) (tokens_of n)
expanded_tokens names n = ap tokens_of (relabel-relabel name (name_at names) n) ∙ preorder-relabel (λ k. name (name_at names k)) n None

pub numbered_meant : (names : List Name) (n : NumberedTree) → tokens_meant names (numbered_tokens n) ≡ named_tokens (expanded names n)
numbered_meant names n = ap (tokens_meant names) (preorder-relabel number n None) ∙ meant_numbers names (tokens_of n) ∙ sym (expanded_tokens names n)

-- the document is the tree with names
pub under_expanded : (names : List Name) (r : Record) (n : NumberedTree) (d : Document) → Spells r → r.tokens ≡ numbered_tokens n → IsRecordUnder names d r.bytes → d ≡ expanded names n
under_expanded names r n d spells tokens is =
    document_is names r d (expanded names n) spells is (ap (λ ts. document_read (tokens_meant names ts)) tokens ∙ ap document_read (numbered_meant names n) ∙ document_again (expanded names n))

pub has_room : (names : List Name) (r : Record) (d : Document) → Spells r → r.named ≡ false → IsRecordUnder names d r.bytes → HasRoom names r
has_room names r d spells unnamed (inl is) = absurd (both_ways r.named unnamed (document_tokens r d spells is).0)
has_room names r d spells unnamed (inr (whole, is, (form, (told, compact)))) =
    let ts = tokens_of d in
    let g : Name → Key = λ n. number (name_number names n) in
    let tokens : r.tokens ≡ map (retoken g) ts = tree_tokens r form (compacted names d) spells told compact.numbered ∙ tokens-numbered (name_number names) d in
    record {
      known = subst (AllByRecursion (IsBelow (length names))) (sym (ap labels tokens ∙ labels-retoken g ts)) (each_below names (labels ts) compact.known);
      short = λ n same. subst (λ bs. length bs < 2 ^ 32) (is.spelled ∙ ap record_of (under_expanded names r n d spells same (inr (whole, is, (form, (told, compact)))))) is.short;
    }

-- ---- a record with numbers that has room, and whose names ascend, means a document

module _ (names : List Name) where
  get_at : (ns : List Name) (k : ℕ) → k < length ns → slice_get ns k ≡ Some (name_at ns k)
  get_at [] k below = absurd (omega (arith, below))
  get_at (n ∷ ns) zero below = refl
  get_at (n ∷ ns) (suc k) below = get_at ns k (omega (arith, below))

  all_named : (ks : List ℕ) → AllByRecursion (IsBelow (length names)) (map number ks) → names_of names ks ≡ Some (map (name_at names) ks)
  all_named [] below = refl
  all_named (k ∷ ks) below = rw (get_at names k below.0, all_named ks below.1) refl

  utf8_at : (ns : List Name) (k : ℕ) → AllByRecursion IsName ns → IsUtf8 (name_at ns k)
  utf8_at [] k each = ([], (refl, refl))
  utf8_at (n ∷ ns) zero each = each.0.text
  utf8_at (n ∷ ns) (suc k) each = utf8_at ns k each.1

  module _ (each : AllByRecursion IsName names) where
    mutual
      lawful-expanded : (n : NumberedTree) → IsNumberedTree n → IsOrdered (expanded names n) → IsTreeOf IsScalar (expanded names n)
      lawful-expanded (leaf s) is ordered = is
      lawful-expanded (array xs) is ordered = items-expanded xs is ordered
      lawful-expanded (object ms) is ordered = (ordered.0, members-expanded ms is ordered.1)

      items-expanded : (xs : Items ℕ Scalar) → AreNumberedItems xs → AreItemsOrdered (items_relabel (name_at names) (λ s. s) xs) → AreItemsOf IsScalar (items_relabel (name_at names) (λ s. s) xs)
      items-expanded no_items is ordered = tt
      items-expanded (item t ts) is ordered = (lawful-expanded t is.0 ordered.0, items-expanded ts is.1 ordered.1)

      members-expanded : (ms : Members ℕ Scalar) → AreNumberedMembers ms → AreMembersOrdered (members_relabel (name_at names) (λ s. s) ms) → AreMembersOf IsScalar (members_relabel (name_at names) (λ s. s) ms)
      members-expanded no_members is ordered = tt
      members-expanded (member k t ms) is ordered = (utf8_at names k each, lawful-expanded t is.1 ordered.0, members-expanded ms is.2 ordered.1)

object-expanded : (names : List Name) (n : NumberedTree) → IsObject n → IsObject (expanded names n)
object-expanded names (leaf s) is = absurd is
object-expanded names (array xs) is = absurd is
object-expanded names (object ms) is = tt

pub numbered_under : (names : List Name) (r : Record) (n : NumberedTree) → IsDictionary names → IsNumberedForm r.form → IsNumberedRecordIn r.form n r.bytes → r.tokens ≡ numbered_tokens n → HasRoom names r → IsOrdered (expanded names n)
    → IsRecordUnder names (expanded names n) r.bytes
numbered_under names r n dictionary told is tokens room ordered =
    let d = expanded names n in
    let s = spelling_of r.form in
    let tn = tokens_of n in
    let ks = labels tn in
    let g : ℕ → Key = λ k. name (name_at names k) in
    let whole : IsRecordOf d (record_of d) =
    record {
      document = lawful-expanded names dictionary.each n is.tree ordered;
      is_object = object-expanded names n is.is_object;
      shallow = subst (λ k. k ≤ 32) (sym (depth-relabel g n) ∙ ap depth (sym (relabel-relabel name (name_at names) n)) ∙ depth-relabel name d) is.shallow;
      spelled = refl;
      short = room.short n tokens;
    } in
    let below : AllByRecursion (IsBelow (length names)) (map number ks) = subst (AllByRecursion (IsBelow (length names))) (ap labels (tokens ∙ preorder-relabel number n None) ∙ labels-retoken number tn) room.known in
    let found = names_found names ks (map (name_at names) ks) dictionary.distinct (all_named names ks below) in
    let ls_are : labels (tokens_of d) ≡ map (name_at names) ks = sym (document_names d) ∙ ap names_in (expanded_tokens names n) ∙ names_in-to_names (name_at names) tn in
    let numbers : map (name_number names) (labels (tokens_of d)) ≡ ks = ap (map (name_number names)) ls_are ∙ found.numbers in
    let spelled : r.bytes ≡ record_in s r.form (tokens_of d) (map (name_number names) (labels (tokens_of d))) [] =
    is.spelled ∙ sym (record_in-retoken g s r.form tn ks []) ∙ ap (λ us. record_in s r.form us ks []) (sym (expanded_tokens names n) ∙ preorder-relabel name d None)
    ∙ record_in-retoken name s r.form (tokens_of d) ks [] ∙ ap (λ ms. record_in s r.form (tokens_of d) ms []) (sym numbers) in
    inr (record_of d, whole, (r.form, (told, compacted_record r.form names d (record_of d) r.bytes dictionary whole (subst (HasEach names) (sym ls_are) found.known) spelled is.short)))

-- what a record with room means, whose tokens give an ordered document
pub means : (names : List Name) (r : Record) (e : Document) → IsDictionary names → Spells r → (r.named ≡ false → HasRoom names r) → IsOrdered e → document_read (tokens_meant names r.tokens) ≡ Some e → IsRecordUnder names e r.bytes
means names r e dictionary (inl (d, (named, is, tokens, form))) room ordered meant =
    subst (λ f. IsRecordUnder names f r.bytes) (document_is names r d e (inl (d, (named, is, tokens, form))) (inl is) meant) (inl is)
means names r e dictionary (inr (n, (unnamed, is, tokens, told))) room ordered meant =
    let d = expanded names n in
    let same : d ≡ e = same_Some d e (sym (document_again d) ∙ ap document_read (sym (numbered_meant names n) ∙ ap (tokens_meant names) (sym tokens)) ∙ meant) in
    subst (λ f. IsRecordUnder names f r.bytes) same (numbered_under names r n dictionary told is tokens (room unnamed) (subst IsOrdered (sym same) ordered))

-- and an ordered shape
pub means_shape : (names : List Name) (r : Record) (shape : ShapeTree) → IsDictionary names → Spells r → (r.named ≡ false → HasRoom names r) → IsOrdered shape → shape_meant names r.tokens ≡ Some shape
    → (d : Document) × IsRecordUnder names d r.bytes × (shape ≡ document_shape d)
means_shape names r shape dictionary spells room ordered meant = at (document_read (tokens_meant names r.tokens)) refl meant
  where
    at : (o : Option Document) → document_read (tokens_meant names r.tokens) ≡ o → option_map document_shape o ≡ Some shape → (d : Document) × IsRecordUnder names d r.bytes × (shape ≡ document_shape d)
    at None read given = cc
    at (Some d) read given =
        let same : shape ≡ document_shape d = same_Some shape (document_shape d) (sym given) in
        (d, means names r d dictionary spells room (ordered_by_shape d (subst IsOrdered same ordered)) read, same)

-- ---- whether there is a document

pub named_under : (names : List Name) (r : Record) → Spells r → r.named ≡ true → (d : Document) × IsRecordUnder names d r.bytes
named_under names r (inl one) holds = (one.0, inl one.1.1)
named_under names r (inr one) holds = absurd (both_ways r.named one.1.0 holds)

pub under_ordered : (names : List Name) (r : Record) (n : NumberedTree) (d : Document) → Spells r → r.tokens ≡ numbered_tokens n → IsRecordUnder names d r.bytes → IsOrdered (expanded names n)
under_ordered names r n d spells tokens is = subst IsOrdered (under_expanded names r n d spells tokens is) (document_ordered d (lawful_under names d r.bytes is).1.document)

-- ---- the record with names

-- what was made of a record with numbers is the record of what it means
pub expanded_is : (names : List Name) (r : Record) (d : Document) (whole out : List ℕ) → Spells r → r.named ≡ false → IsRecordOf d whole → IsNumberedUnder names d r.bytes
    → ((n : NumberedTree) → r.tokens ≡ numbered_tokens n → out ≡ record_of (expanded names n)) → out ≡ whole
expanded_is names r d whole out spells unnamed is under made =
    let tree = numbered_tree r spells unnamed in
    made tree.tree tree.tokens ∙ ap record_of (sym (under_expanded names r tree.tree d spells tree.tokens (inr (whole, is, under)))) ∙ sym is.spelled

pub expanded_found : (names : List Name) (r : Record) (d : Document) (out : List ℕ) → Spells r → r.named ≡ false → IsRecordUnder names d r.bytes
    → ((n : NumberedTree) → r.tokens ≡ numbered_tokens n → out ≡ record_of (expanded names n)) → (e : Document) × IsRecordOf e out × IsNumberedUnder names e r.bytes
expanded_found names r d out spells unnamed (inl is) made = absurd (both_ways r.named unnamed (document_tokens r d spells is).0)
expanded_found names r d out spells unnamed (inr (whole, is, under)) made = (d, subst (IsRecordOf d) (sym (expanded_is names r d whole out spells unnamed is under made)) is, under)
