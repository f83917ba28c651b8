-- The names of a document's record stand in their column, and are cut from it again.
use Rattle.std.proofs.Common.{◌≡◌, ◌∙◌, ℕ, true, List, [], ◌∷◌, ◌++◌, None, Some, option_to_list, unwrap_or, is_some, length, map, inl, inr, refl, sym, ap, subst}
use Rattle.std.specs.List.{AllByRecursion}
use Rattle.std.specs.Str.{IsUtf8}
use Rattle.std.proofs.lemmas.Bool.{both_ways}
use Rattle.std.proofs.lemmas.List.Concat.{flat_map-append}
use Rattle.tc_bytes.specs.Codec.{IsBytes}
use Rattle.tc_model.specs.Tree.{leaf, array, object, Items, no_items, item, Members, no_members, member}
use Rattle.tc_model.specs.Document.{Name, Document, Scalar, IsScalar, IsTreeOf, AreItemsOf, AreMembersOf}
use Rattle.tc_record.specs.Preorder.{Token, token, closed, preorder, items_preorder, members_preorder, tokens_of}
use Rattle.tc_record.specs.Record.{labels, joined}
use Rattle.tc_record.specs.Walk.{name}
use Rattle.tc_record.specs.WalkView.{numbers_of}
use Rattle.tc_record.specs.NameColumn.{names_cut}
use Rattle.tc_record.specs.Borrowed.{Record, Spells}
use Rattle.tc_record.specs.Held.{tokens_held}
use Rattle.tc_record.specs.Sections.{sections_in}
use Rattle.tc_record.specs.SectionsView.{sections_of}
use Rattle.tc_record.specs.declared.sections.Sections.{Sections}
use Rattle.tc_record.proofs.Texts.{utf8_again}
use Rattle.tc_record.proofs.Spelled.{slots, names}
use Rattle.tc_record.proofs.Keyed.{slots_of-keyed, names_of-keyed}
use Rattle.tc_record.proofs.Holding.{held_spells}
use Rattle.tc_record.proofs.Told.{slots_held, names_held, labels_named}

-- names that are UTF-8 are cut again
names_again : (ns : List Name) → AllByRecursion IsUtf8 ns → names_cut (map length ns) (joined ns) ≡ Some ns
names_again [] utf8 = refl
names_again (n ∷ ns) utf8 = rw (utf8_again (length n) n (joined ns) refl utf8.0, names_again ns utf8.1) refl

-- ---- the names of a document are UTF-8

utf8_append : (ns ms : List Name) → AllByRecursion IsUtf8 ns → AllByRecursion IsUtf8 ms → AllByRecursion IsUtf8 (ns ++ ms)
utf8_append [] ms each more = more
utf8_append (n ∷ ns) ms each more = (each.0, utf8_append ns ms each.1 more)

both : (ts us : List (Token Name Scalar)) → AllByRecursion IsUtf8 (labels ts) → AllByRecursion IsUtf8 (labels us) → AllByRecursion IsUtf8 (labels (ts ++ us))
both ts us each more =
    subst (AllByRecursion IsUtf8) (sym (flat_map-append (λ (t : Token Name Scalar). option_to_list t.label) ts us)) (utf8_append (labels ts) (labels us) each more)

mutual
  names_utf8 : (d : Document) → IsTreeOf IsScalar d → AllByRecursion IsUtf8 (labels (preorder None d))
  names_utf8 (leaf s) is = tt
  names_utf8 (array xs) is = both (items_preorder xs) (token None closed ∷ []) (items_utf8 xs is) tt
  names_utf8 (object ms) is = both (members_preorder ms) (token None closed ∷ []) (members_utf8 ms is.1) tt

  items_utf8 : (xs : Items Name Scalar) → AreItemsOf IsScalar xs → AllByRecursion IsUtf8 (labels (items_preorder xs))
  items_utf8 no_items is = tt
  items_utf8 (item t ts) is = both (preorder None t) (items_preorder ts) (names_utf8 t is.0) (items_utf8 ts is.1)

  members_utf8 : (ms : Members Name Scalar) → AreMembersOf IsScalar ms → AllByRecursion IsUtf8 (labels (members_preorder ms))
  members_utf8 no_members is = tt
  members_utf8 (member n t ms) is = both (preorder (Some n) t) (members_preorder ms) (labelled_utf8 n t is.0 (names_utf8 t is.1)) (members_utf8 ms is.2)

  labelled_utf8 : (n : Name) (t : Document) → IsUtf8 n → AllByRecursion IsUtf8 (labels (preorder None t)) → AllByRecursion IsUtf8 (labels (preorder (Some n) t))
  labelled_utf8 n (leaf s) utf8 rest = (utf8, rest)
  labelled_utf8 n (array xs) utf8 rest = (utf8, rest)
  labelled_utf8 n (object ms) utf8 rest = (utf8, rest)

-- ---- the names that a record with names has

pub record NamesThere (s : Sections) : Type 0 where
  pub names : List Name
  pub cut : names_cut (numbers_of s.columns.slots) s.columns.names.now ≡ Some names
  pub carried : labels (unwrap_or (tokens_held s) []) ≡ map name names

pub names_there : (bytes : List ℕ) (s : Sections) → IsBytes bytes → sections_in bytes ≡ Some (sections_of s) → true ≡ is_some (tokens_held s) → s.format.named ≡ true → NamesThere s
names_there bytes s each cut_is some named = by_spelling (held_spells bytes s each cut_is some)
  where
    r : Record
    r = record { bytes = bytes; form = s.format.form; named = s.format.named; tokens = unwrap_or (tokens_held s) [] }

    by_spelling : Spells r → NamesThere s
    by_spelling (inl (d, (told, is, tokens, form))) =
        let ns = labels (tokens_of d) in
        let slots_are : numbers_of s.columns.slots ≡ map length ns = slots_held bytes s (tokens_held s) each cut_is refl some ∙ ap slots tokens ∙ slots_of-keyed d in
        let names_are : s.columns.names.now ≡ joined ns = names_held bytes s (tokens_held s) each cut_is refl some ∙ ap names tokens ∙ names_of-keyed d in
        record {
          names = ns;
          cut = rw (slots_are, names_are) (names_again ns (names_utf8 d is.document));
          carried = ap labels tokens ∙ labels_named d;
        }
    by_spelling (inr (n, (told, is, tokens, form))) = absurd (both_ways s.format.named told named)
