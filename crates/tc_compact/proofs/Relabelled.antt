-- A tree with other labels: it stays as deep and as lawful, and its record differs in its slots and names alone.
use Rattle.std.proofs.Common.{◌≡◌, ◌∙◌, ℕ, ◌<◌, ◌^◌, List, [], ◌∷◌, ◌++◌, None, length, map, flat_map, refl, sym, ap}
use Rattle.tc_model.specs.Tree.{Tree, leaf, array, object, Items, no_items, item, Members, no_members, member, depth, relabel, items_relabel, members_relabel}
use Rattle.tc_model.specs.Document.{Name, Document, Scalar, IsScalar, IsTreeOf, AreItemsOf, AreMembersOf}
use Rattle.tc_record.specs.Preorder.{Token, tokens_of}
use Rattle.tc_record.specs.Record.{NumberedTree, labels, joined, spelling_of, record_in, record_bytes, record_of, numbered_record_in, IsNumberedTree, AreNumberedItems, AreNumberedMembers}
use Rattle.tc_model.specs.Stored.{IsObject}
use Rattle.tc_record.specs.Walk.{Key, name, number}
use Rattle.tc_record.specs.Borrowed.{numbered_tokens}
use Rattle.tc_record.proofs.Spelled.{slot_of, name_of, slots, names}
use Rattle.tc_record.proofs.Keyed.{retoken, preorder-relabel, depth-relabel, labels-retoken, record_in-retoken, record-retoken, record_of-keyed, record_in-numbered}
use Rattle.tc_compact.specs.Slots.{key_names, names_in, key_numbers, numbers_in}

module _ {L M N : Type 0} (g : M → N) (f : L → M) where
  mutual
    pub relabel-relabel : (t : Tree L Scalar) → relabel g (λ s. s) (relabel f (λ s. s) t) ≡ relabel (λ l. g (f l)) (λ s. s) t
    relabel-relabel (leaf s) = refl
    relabel-relabel (array xs) = ap array (items-relabel-relabel xs)
    relabel-relabel (object ms) = ap object (members-relabel-relabel ms)

    items-relabel-relabel : (xs : Items L Scalar) → items_relabel g (λ s. s) (items_relabel f (λ s. s) xs) ≡ items_relabel (λ l. g (f l)) (λ s. s) xs
    items-relabel-relabel no_items = refl
    items-relabel-relabel (item t ts) = rw (relabel-relabel t, items-relabel-relabel ts) refl

    members-relabel-relabel : (ms : Members L Scalar) → members_relabel g (λ s. s) (members_relabel f (λ s. s) ms) ≡ members_relabel (λ l. g (f l)) (λ s. s) ms
    members-relabel-relabel no_members = refl
    members-relabel-relabel (member l t ms) = rw (relabel-relabel t, members-relabel-relabel ms) refl

-- ---- numbers in place of names

module _ (f : Name → ℕ) where
  pub depth-numbered : (d : Document) → depth (relabel f (λ s. s) d) ≡ depth d
  depth-numbered d = sym (depth-relabel number (relabel f (λ s. s) d)) ∙ ap depth (relabel-relabel number f d) ∙ depth-relabel (λ n. number (f n)) d

  pub object-numbered : (d : Document) → IsObject d → IsObject (relabel f (λ s. s) d)
  object-numbered (leaf s) is = absurd is
  object-numbered (array xs) is = absurd is
  object-numbered (object ms) is = tt

  module _ (small : (n : Name) → f n < 2 ^ 32) where
    mutual
      pub lawful-numbered : (d : Document) → IsTreeOf IsScalar d → IsNumberedTree (relabel f (λ s. s) d)
      lawful-numbered (leaf s) lawful = lawful
      lawful-numbered (array xs) lawful = items-lawful xs lawful
      lawful-numbered (object ms) lawful = members-lawful ms lawful.1

      items-lawful : (xs : Items Name Scalar) → AreItemsOf IsScalar xs → AreNumberedItems (items_relabel f (λ s. s) xs)
      items-lawful no_items lawful = tt
      items-lawful (item t ts) lawful = (lawful-numbered t lawful.0, items-lawful ts lawful.1)

      members-lawful : (ms : Members Name Scalar) → AreMembersOf IsScalar ms → AreNumberedMembers (members_relabel f (λ s. s) ms)
      members-lawful no_members lawful = tt
      members-lawful (member n t ms) lawful = (small n, lawful-numbered t lawful.1, members-lawful ms lawful.2)

-- ---- what labels carry

module _ {L : Type 0} (f : L → ℕ) where
  number_slots : (ls : List L) → map slot_of (map (λ l. number (f l)) ls) ≡ map f ls
  number_slots [] = refl
  number_slots (l ∷ ls) = ap (λ ns. f l ∷ ns) (number_slots ls)

  no_names : (ls : List L) → flat_map name_of (map (λ l. number (f l)) ls) ≡ []
  no_names [] = refl
  no_names (l ∷ ls) = no_names ls

  number_keys : (ls : List L) → flat_map key_numbers (map (λ l. number (f l)) ls) ≡ map f ls
  number_keys [] = refl
  number_keys (l ∷ ls) = ap (λ ns. f l ∷ ns) (number_keys ls)

module _ {L : Type 0} (g : L → Name) where
  name_slots : (ls : List L) → map slot_of (map (λ l. name (g l)) ls) ≡ map length (map g ls)
  name_slots [] = refl
  name_slots (l ∷ ls) = ap (λ ns. length (g l) ∷ ns) (name_slots ls)

  name_bytes : (ls : List L) → flat_map name_of (map (λ l. name (g l)) ls) ≡ joined (map g ls)
  name_bytes [] = refl
  name_bytes (l ∷ ls) = ap (λ ns. g l ++ ns) (name_bytes ls)

  name_keys : (ls : List L) → flat_map key_names (map (λ l. name (g l)) ls) ≡ map g ls
  name_keys [] = refl
  name_keys (l ∷ ls) = ap (λ ns. g l ∷ ns) (name_keys ls)

-- ---- tokens that carry numbers, and tokens that carry names

module _ {L : Type 0} (f : L → ℕ) (ts : List (Token L Scalar)) where
  pub slots-to_numbers : slots (map (retoken (λ l. number (f l))) ts) ≡ map f (labels ts)
  slots-to_numbers = ap (map slot_of) (labels-retoken (λ l. number (f l)) ts) ∙ number_slots f (labels ts)

  pub names-to_numbers : names (map (retoken (λ l. number (f l))) ts) ≡ []
  names-to_numbers = ap (flat_map name_of) (labels-retoken (λ l. number (f l)) ts) ∙ no_names f (labels ts)

  pub numbers_in-to_numbers : numbers_in (map (retoken (λ l. number (f l))) ts) ≡ map f (labels ts)
  numbers_in-to_numbers = ap (flat_map key_numbers) (labels-retoken (λ l. number (f l)) ts) ∙ number_keys f (labels ts)

module _ {L : Type 0} (g : L → Name) (ts : List (Token L Scalar)) where
  pub slots-to_names : slots (map (retoken (λ l. name (g l))) ts) ≡ map length (map g (labels ts))
  slots-to_names = ap (map slot_of) (labels-retoken (λ l. name (g l)) ts) ∙ name_slots g (labels ts)

  pub names-to_names : names (map (retoken (λ l. name (g l))) ts) ≡ joined (map g (labels ts))
  names-to_names = ap (flat_map name_of) (labels-retoken (λ l. name (g l)) ts) ∙ name_bytes g (labels ts)

  pub names_in-to_names : names_in (map (retoken (λ l. name (g l))) ts) ≡ map g (labels ts)
  names_in-to_names = ap (flat_map key_names) (labels-retoken (λ l. name (g l)) ts) ∙ name_keys g (labels ts)

-- tokens whose labels are names carry these
pub names_in-labels : (ts : List (Token Key Scalar)) (ns : List Name) → labels ts ≡ map name ns → names_in ts ≡ ns
names_in-labels ts ns same = ap (flat_map key_names) same ∙ each ns
  where
    each : (ns : List Name) → flat_map key_names (map name ns) ≡ ns
    each [] = refl
    each (n ∷ ns) = ap (λ more. n ∷ more) (each ns)

-- the numbered tokens of a document
pub tokens-numbered : (f : Name → ℕ) (d : Document) → numbered_tokens (relabel f (λ s. s) d) ≡ map (retoken (λ n. number (f n))) (tokens_of d)
tokens-numbered f d = ap tokens_of (relabel-relabel number f d) ∙ preorder-relabel (λ n. number (f n)) d None

-- a record of a document with numbers has the columns of its tokens
pub record-numbered : (form : ℕ) (f : Name → ℕ) (d : Document) → numbered_record_in form (relabel f (λ s. s) d) ≡ record_in (spelling_of form) form (tokens_of d) (map f (labels (tokens_of d))) []
record-numbered form f d =
    let s = spelling_of form in
    let ts = tokens_of d in
    let us = map (retoken (λ n. number (f n))) ts in
    record_in-numbered form (relabel f (λ s. s) d)
    ∙ ap (λ vs. record_in s form vs (slots vs) (names vs)) (tokens-numbered f d)
    ∙ ap (λ ns. record_in s form us ns (names us)) (slots-to_numbers f ts)
    ∙ ap (record_in s form us (map f (labels ts))) (names-to_numbers f ts)
    ∙ record_in-retoken (λ n. number (f n)) s form ts (map f (labels ts)) []

-- the record of form 0 of a numbered tree with names in it has the columns of its tokens too
pub record-named : (g : ℕ → Name) (n : NumberedTree) → record_of (relabel g (λ s. s) n) ≡ record_bytes 0 (tokens_of n) (map length (map g (labels (tokens_of n)))) (joined (map g (labels (tokens_of n))))
record-named g n =
    let ts = tokens_of n in
    let ns = map g (labels ts) in
    let us = map (retoken (λ k. name (g k))) ts in
    record_of-keyed (relabel g (λ s. s) n)
    ∙ ap (λ vs. record_bytes 0 vs (slots vs) (names vs)) (ap tokens_of (relabel-relabel name g n) ∙ preorder-relabel (λ k. name (g k)) n None)
    ∙ ap (λ ss. record_bytes 0 us ss (names us)) (slots-to_names g ts)
    ∙ ap (record_bytes 0 us (map length ns)) (names-to_names g ts)
    ∙ record-retoken (λ k. name (g k)) 0 ts (map length ns) (joined ns)
