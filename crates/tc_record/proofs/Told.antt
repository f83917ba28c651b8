-- What the columns of a record tell of its tokens.
use Rattle.std.proofs.Common.{◌≡◌, ◌∙◌, ◌<◌, ◌≤◌, ◌↔◌, suc, ◌^◌, ◌==◌, ◌||◌, nat_lt, ℕ, Bool, true, false, List, [], ◌∷◌, Option, None, Some, IsTrue, unwrap_or, is_some, length, map, inl, inr, refl, sym, ap, subst, arith}
use Rattle.std.specs.List.{AllByRecursion}
use Rattle.std.proofs.lemmas.Bool.{both_ways}
use Rattle.std.proofs.lemmas.Bool.Decides.{nat_tests}
use Rattle.std.proofs.lemmas.List.{length-map}
use Rattle.tc_bytes.specs.Codec.{IsBytes}
use Rattle.tc_model.specs.Document.{Name, Document, Scalar}
use Rattle.tc_record.specs.Preorder.{Token, tokens_of}
use Rattle.tc_record.specs.Record.{NumberedTree, piece_tag, tags, fixed, texts, labels, greatest, joined}
use Rattle.tc_record.specs.Walk.{Key, name, number}
use Rattle.tc_record.specs.Walk as walk
use Rattle.tc_record.specs.Held.{tokens_held, TellsGreatest}
use Rattle.tc_record.specs.Sections as cut
use Rattle.tc_record.specs.SectionsView.{cut_columns_of, sections_of}
use Rattle.tc_record.specs.WalkView.{numbers_of, format_of}
use Rattle.tc_record.specs.Borrowed.{Record, Spells, IsBelow, named_tokens, numbered_tokens}
use Rattle.tc_record.specs.declared.sections.Sections.{Sections}
use Rattle.tc_record.proofs.Found.{tokens_found}
use Rattle.tc_record.proofs.ColumnLaws.{no_columns}
use Rattle.tc_record.proofs.Walks.{with_tokens}
use Rattle.tc_record.proofs.Spelled.{slot_of, slots, names, spelled_fixed, spelled_lengths, spelled_texts, spelled_slots, spelled_names}
use Rattle.tc_record.proofs.Keyed.{preorder-relabel, labels-retoken, slots-numbered, slots_of-numbered}
use Rattle.tc_record.proofs.Cutting.{sections_found}
use Rattle.tc_record.proofs.Placed.{length-elements_from}

abbrev Tokens : Type 0
Tokens = List (Token Key Scalar)

-- ---- the columns

-- the columns that were cut are those of the tokens that were read
columns_held : (bytes : List ℕ) (s : Sections) (held : Option Tokens) → IsBytes bytes → cut.sections_in bytes ≡ Some (sections_of s) → tokens_held s ≡ held → true ≡ is_some held → cut_columns_of s.columns ≡ with_tokens (unwrap_or held []) no_columns
columns_held bytes s None each cut_is is some = cc
columns_held bytes s (Some ts) each cut_is is some =
    let found = sections_found bytes (sections_of s) each cut_is in
    (tokens_found s.tags.now (format_of s.format) (cut_columns_of s.columns) ts found.columns.each is).spelled

pub slots_held : (bytes : List ℕ) (s : Sections) (held : Option Tokens) → IsBytes bytes → cut.sections_in bytes ≡ Some (sections_of s) → tokens_held s ≡ held → true ≡ is_some held → numbers_of s.columns.slots ≡ slots (unwrap_or held [])
slots_held bytes s held each cut_is is some = ap (λ (c : walk.Columns). c.slots) (columns_held bytes s held each cut_is is some) ∙ spelled_slots (unwrap_or held [])

pub fixed_held : (bytes : List ℕ) (s : Sections) (held : Option Tokens) → IsBytes bytes → cut.sections_in bytes ≡ Some (sections_of s) → tokens_held s ≡ held → true ≡ is_some held → s.columns.fixed.now ≡ fixed (unwrap_or held [])
fixed_held bytes s held each cut_is is some = ap (λ (c : walk.Columns). c.fixed) (columns_held bytes s held each cut_is is some) ∙ spelled_fixed (unwrap_or held [])

pub texts_held : (bytes : List ℕ) (s : Sections) (held : Option Tokens) → IsBytes bytes → cut.sections_in bytes ≡ Some (sections_of s) → tokens_held s ≡ held → true ≡ is_some held → s.columns.texts.now ≡ joined (texts (unwrap_or held []))
texts_held bytes s held each cut_is is some = ap (λ (c : walk.Columns). c.texts) (columns_held bytes s held each cut_is is some) ∙ spelled_texts (unwrap_or held [])

pub lengths_held : (bytes : List ℕ) (s : Sections) (held : Option Tokens) → IsBytes bytes → cut.sections_in bytes ≡ Some (sections_of s) → tokens_held s ≡ held → true ≡ is_some held → numbers_of s.columns.lengths ≡ map length (texts (unwrap_or held []))
lengths_held bytes s held each cut_is is some = ap (λ (c : walk.Columns). c.lengths) (columns_held bytes s held each cut_is is some) ∙ spelled_lengths (unwrap_or held [])

pub names_held : (bytes : List ℕ) (s : Sections) (held : Option Tokens) → IsBytes bytes → cut.sections_in bytes ≡ Some (sections_of s) → tokens_held s ≡ held → true ≡ is_some held → s.columns.names.now ≡ names (unwrap_or held [])
names_held bytes s held each cut_is is some = ap (λ (c : walk.Columns). c.names) (columns_held bytes s held each cut_is is some) ∙ spelled_names (unwrap_or held [])

-- the slots of a record without names are its numbers
pub numbers_held : (tokens : Tokens) (n : NumberedTree) (ks : List ℕ) → ks ≡ slots tokens → tokens ≡ numbered_tokens n → ks ≡ labels (tokens_of n)
numbers_held tokens n ks are same = are ∙ ap slots same ∙ slots_of-numbered n

-- the tags are those of the tokens that were read
pub tags_held : (bytes : List ℕ) (s : Sections) (held : Option Tokens) → IsBytes bytes → cut.sections_in bytes ≡ Some (sections_of s) → tokens_held s ≡ held → true ≡ is_some held → s.tags.now ≡ tags (unwrap_or held [])
tags_held bytes s None each cut_is is some = cc
tags_held bytes s (Some ts) each cut_is is some =
    let found = sections_found bytes (sections_of s) each cut_is in
    (tokens_found s.tags.now (format_of s.format) (cut_columns_of s.columns) ts found.columns.each is).tagged

-- so many tokens and members there are
pub tags_many : (bytes : List ℕ) (s : Sections) (held : Option Tokens) → IsBytes bytes → cut.sections_in bytes ≡ Some (sections_of s) → tokens_held s ≡ held → true ≡ is_some held → length s.tags.now ≡ length (unwrap_or held [])
tags_many bytes s held each cut_is is some = ap length (tags_held bytes s held each cut_is is some) ∙ length-map (unwrap_or held []) (λ (t : Token Key Scalar). piece_tag t.piece)

pub tags_few : (bytes : List ℕ) (s : Sections) → IsBytes bytes → cut.sections_in bytes ≡ Some (sections_of s) → length s.tags.now < 2 ^ 32
tags_few bytes s each cut_is =
    let found = sections_found bytes (sections_of s) each cut_is in
    let few = found.fits.tags in
    let many = found.columns.tag_count in
    omega (arith, few, many)

pub fixed_few : (bytes : List ℕ) (s : Sections) → IsBytes bytes → cut.sections_in bytes ≡ Some (sections_of s) → length s.columns.fixed.now < 2 ^ 32
fixed_few bytes s each cut_is =
    let found = sections_found bytes (sections_of s) each cut_is in
    let few = found.fits.fixed in
    let many = found.columns.fixed_count in
    omega (arith, few, many)

pub texts_many : (bytes : List ℕ) (s : Sections) (held : Option Tokens) → IsBytes bytes → cut.sections_in bytes ≡ Some (sections_of s) → tokens_held s ≡ held → true ≡ is_some held → s.columns.lengths.left ≡ length (texts (unwrap_or held []))
texts_many bytes s held each cut_is is some =
    let n = s.columns.lengths in
    sym (length-elements_from n.width n.place n.left n.bytes.now) ∙ ap length (lengths_held bytes s held each cut_is is some) ∙ length-map (texts (unwrap_or held [])) length

pub slots_many : (bytes : List ℕ) (s : Sections) (held : Option Tokens) → IsBytes bytes → cut.sections_in bytes ≡ Some (sections_of s) → tokens_held s ≡ held → true ≡ is_some held → s.columns.slots.left ≡ length (labels (unwrap_or held []))
slots_many bytes s held each cut_is is some =
    let n = s.columns.slots in
    sym (length-elements_from n.width n.place n.left n.bytes.now) ∙ ap length (slots_held bytes s held each cut_is is some) ∙ length-map (labels (unwrap_or held [])) slot_of

-- the greatest of the slots
pub greatest_held : (bytes : List ℕ) (s : Sections) → IsBytes bytes → cut.sections_in bytes ≡ Some (sections_of s) → true ≡ is_some (tokens_held s) → TellsGreatest s → s.greatest_slot ≡ greatest (slots (unwrap_or (tokens_held s) []))
greatest_held bytes s each cut_is some told = told.0 ∙ ap greatest (slots_held bytes s (tokens_held s) each cut_is refl some)

-- numbers below a limit have their greatest there
all_below : (limit : ℕ) (ks : List ℕ) → IsTrue ((length ks == 0) || nat_lt (greatest ks) limit) → AllByRecursion (IsBelow limit) (map number ks)
all_below limit [] below = tt
all_below limit (k ∷ ks) below = each (k ∷ ks) (greatest (k ∷ ks)) (omega arith) (under (length ks) (greatest (k ∷ ks)) below)
  where
    under : (n g : ℕ) → IsTrue ((suc n == 0) || nat_lt g limit) → g < limit
    under n g below = grind (arith, nat_tests)

    each : (ks : List ℕ) (g : ℕ) → greatest ks ≤ g → g < limit → AllByRecursion (IsBelow limit) (map number ks)
    each [] g within below = tt
    each (k ∷ ks) g within below = (omega (arith, within, below), each ks g (omega (arith, within)) below)

greatest_below : (limit : ℕ) (ks : List ℕ) → AllByRecursion (IsBelow limit) (map number ks) → IsTrue ((length ks == 0) || nat_lt (greatest ks) limit)
greatest_below limit [] all = refl
greatest_below limit (k ∷ ks) all = under (length ks) (greatest (k ∷ ks)) (below k ks all)
  where
    under : (n g : ℕ) → g < limit → IsTrue ((suc n == 0) || nat_lt g limit)
    under n g below = grind (arith, nat_tests)

    below : (k : ℕ) (ks : List ℕ) → AllByRecursion (IsBelow limit) (map number (k ∷ ks)) → greatest (k ∷ ks) < limit
    below k [] all = omega (arith, all.0)
    below k (m ∷ ks) all = omega (arith, all.0, below m ks all.1)

-- the labels of a record with names, and of one with numbers
pub labels_named : (d : Document) → labels (named_tokens d) ≡ map name (labels (tokens_of d))
labels_named d = ap labels (preorder-relabel name d None) ∙ labels-retoken name (tokens_of d)

labels_numbered : (n : NumberedTree) → labels (numbered_tokens n) ≡ map number (labels (tokens_of n))
labels_numbered n = ap labels (preorder-relabel number n None) ∙ labels-retoken number (tokens_of n)

-- names are below each limit
pub names_below : (limit : ℕ) (r : Record) → Spells r → r.named ≡ true → AllByRecursion (IsBelow limit) (labels r.tokens)
names_below limit r (inl (d, (named, is, tokens, form))) told = subst (AllByRecursion (IsBelow limit)) (sym (ap labels tokens ∙ labels_named d)) (each (labels (tokens_of d)))
  where
    each : (ns : List Name) → AllByRecursion (IsBelow limit) (map name ns)
    each [] = tt
    each (n ∷ ns) = (tt, each ns)
names_below limit r (inr (n, (named, is, tokens, form))) told = absurd (both_ways r.named named told)

-- what was scanned of the slots of a record with numbers tells whether its numbers are below a limit
pub numbers_told : (limit count : ℕ) (r : Record) (b : Bool) → Spells r → r.named ≡ false → count ≡ length (labels r.tokens) → b ≡ cut.are_below limit count (greatest (slots r.tokens))
    → IsTrue b ↔ AllByRecursion (IsBelow limit) (labels r.tokens)
numbers_told limit count r b (inl (d, (named, is, tokens, form))) told many scan = absurd (both_ways r.named told named)
numbers_told limit count r b (inr (n, (named, is, tokens, form))) told many scan =
    let ks = labels (tokens_of n) in
    let ls : labels r.tokens ≡ map number ks = ap labels tokens ∙ labels_numbered n in
    let few : count ≡ length ks = many ∙ ap length ls ∙ length-map ks number in
    let slots_are : slots r.tokens ≡ ks = ap (map slot_of) ls ∙ slots-numbered ks in
    let greatest_is : greatest (slots r.tokens) ≡ greatest ks = ap greatest slots_are in
    let test : b ≡ ((length ks == 0) || nat_lt (greatest ks) limit) = scan ∙ ap (λ g. (count == 0) || nat_lt g limit) greatest_is ∙ ap (λ c. (c == 0) || nat_lt (greatest ks) limit) few in
    rw (ls, test) (all_below limit ks, greatest_below limit ks)
