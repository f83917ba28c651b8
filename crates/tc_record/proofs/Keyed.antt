-- Documents and numbered trees, with the labels that the reader shows.
use Rattle.std.proofs.Common.{◌≡◌, ◌∙◌, ◌+◌, ℕ, List, [], ◌∷◌, ◌++◌, Option, None, Some, length, map, flat_map, option_map, option_to_list, refl, sym, ap}
use Rattle.std.proofs.lemmas.List.{map-append}
use Rattle.tc_model.specs.Tree.{Tree, leaf, array, object, Items, no_items, item, Members, no_members, member, depth, items_depth, members_depth, relabel, items_relabel, members_relabel}
use Rattle.tc_model.specs.Document.{Name, Document, Scalar}
use Rattle.tc_record.specs.Preorder.{Token, token, array_opened, object_opened, closed, preorder, items_preorder, members_preorder, tokens_of}
use Rattle.tc_record.specs.Record.{NumberedTree, piece_tag, piece_fixed, piece_text, tags, fixed, texts, labels, Spelling, in_bytes, spelling_of, record_in, record_bytes, record_of, numbered_record_in}
use Rattle.tc_record.specs.Walk.{Key, name, number}
use Rattle.tc_record.proofs.Spelled.{slot_of, name_of, slots, names}

abbrev pub keyed : Document → Tree Key Scalar
keyed d = relabel name (λ s. s) d

abbrev pub numbered : NumberedTree → Tree Key Scalar
numbered n = relabel number (λ s. s) n

-- ---- tokens with other labels

abbrev pub retoken : {L : Type 0} → (L → Key) → Token L Scalar → Token Key Scalar
retoken g t = token (option_map g t.label) t.piece

module _ {L : Type 0} (g : L → Key) where
  mutual
    pub preorder-relabel : (t : Tree L Scalar) (l : Option L) → preorder (option_map g l) (relabel g (λ s. s) t) ≡ map (retoken g) (preorder l t)
    preorder-relabel (leaf s) l = refl
    preorder-relabel (array xs) l = ap (λ ts. token (option_map g l) array_opened ∷ ts) (ap (λ ts. ts ++ token None closed ∷ []) (items-relabel xs) ∙ sym (map-append (retoken g) (items_preorder xs) (token None closed ∷ [])))
    preorder-relabel (object ms) l = ap (λ ts. token (option_map g l) object_opened ∷ ts) (ap (λ ts. ts ++ token None closed ∷ []) (members-relabel ms) ∙ sym (map-append (retoken g) (members_preorder ms) (token None closed ∷ [])))

    items-relabel : (xs : Items L Scalar) → items_preorder (items_relabel g (λ s. s) xs) ≡ map (retoken g) (items_preorder xs)
    items-relabel no_items = refl
    items-relabel (item t ts) = ap (λ us. us ++ items_preorder (items_relabel g (λ s. s) ts)) (preorder-relabel t None) ∙ ap (λ us. map (retoken g) (preorder None t) ++ us) (items-relabel ts) ∙ sym (map-append (retoken g) (preorder None t) (items_preorder ts))

    members-relabel : (ms : Members L Scalar) → members_preorder (members_relabel g (λ s. s) ms) ≡ map (retoken g) (members_preorder ms)
    members-relabel no_members = refl
    members-relabel (member l t ms) = ap (λ us. us ++ members_preorder (members_relabel g (λ s. s) ms)) (preorder-relabel t (Some l)) ∙ ap (λ us. map (retoken g) (preorder (Some l) t) ++ us) (members-relabel ms) ∙ sym (map-append (retoken g) (preorder (Some l) t) (members_preorder ms))

  mutual
    pub depth-relabel : (t : Tree L Scalar) → depth (relabel g (λ s. s) t) ≡ depth t
    depth-relabel (leaf s) = refl
    depth-relabel (array xs) = ap (λ n. 1 + n) (items_depth-relabel xs)
    depth-relabel (object ms) = ap (λ n. 1 + n) (members_depth-relabel ms)

    items_depth-relabel : (xs : Items L Scalar) → items_depth (items_relabel g (λ s. s) xs) ≡ items_depth xs
    items_depth-relabel no_items = refl
    items_depth-relabel (item t ts) = rw (depth-relabel t, items_depth-relabel ts) refl

    members_depth-relabel : (ms : Members L Scalar) → members_depth (members_relabel g (λ s. s) ms) ≡ members_depth ms
    members_depth-relabel no_members = refl
    members_depth-relabel (member l t ms) = rw (depth-relabel t, members_depth-relabel ms) refl

  pub tags-retoken : (ts : List (Token L Scalar)) → tags (map (retoken g) ts) ≡ tags ts
  tags-retoken [] = refl
  tags-retoken (t ∷ ts) = ap (λ ns. piece_tag t.piece ∷ ns) (tags-retoken ts)

  pub fixed-retoken : (ts : List (Token L Scalar)) → fixed (map (retoken g) ts) ≡ fixed ts
  fixed-retoken [] = refl
  fixed-retoken (t ∷ ts) = ap (λ ns. piece_fixed t.piece ++ ns) (fixed-retoken ts)

  pub texts-retoken : (ts : List (Token L Scalar)) → texts (map (retoken g) ts) ≡ texts ts
  texts-retoken [] = refl
  texts-retoken (t ∷ ts) = ap (λ ns. piece_text t.piece ++ ns) (texts-retoken ts)

  option_list : (l : Option L) → option_to_list (option_map g l) ≡ map g (option_to_list l)
  option_list None = refl
  option_list (Some l) = refl

  pub labels-retoken : (ts : List (Token L Scalar)) → labels (map (retoken g) ts) ≡ map g (labels ts)
  labels-retoken [] = refl
  labels-retoken (t ∷ ts) = ap (λ ls. ls ++ labels (map (retoken g) ts)) (option_list t.label) ∙ ap (λ ls. map g (option_to_list t.label) ++ ls) (labels-retoken ts) ∙ sym (map-append g (option_to_list t.label) (labels ts))

  -- the same columns, whatever labels the tokens have
  pub record_in-retoken : (s : Spelling) (form : ℕ) (ts : List (Token L Scalar)) (slot_list name_list : List ℕ) → record_in s form (map (retoken g) ts) slot_list name_list ≡ record_in s form ts slot_list name_list
  record_in-retoken s form ts slot_list name_list = rw (tags-retoken ts, fixed-retoken ts, texts-retoken ts) refl

  pub record-retoken : (form : ℕ) (ts : List (Token L Scalar)) (slot_list name_list : List ℕ) → record_bytes form (map (retoken g) ts) slot_list name_list ≡ record_bytes form ts slot_list name_list
  record-retoken form ts slot_list name_list = record_in-retoken in_bytes form ts slot_list name_list

-- the record of a document, by the tokens that the reader shows
slots-named : (ls : List Name) → map slot_of (map name ls) ≡ map length ls
slots-named [] = refl
slots-named (l ∷ ls) = ap (λ ns. length l ∷ ns) (slots-named ls)

names-named : (ls : List Name) → flat_map name_of (map name ls) ≡ flat_map (λ l. l) ls
names-named [] = refl
names-named (l ∷ ls) = ap (λ ns. l ++ ns) (names-named ls)

pub slots-numbered : (ls : List ℕ) → map slot_of (map number ls) ≡ ls
slots-numbered [] = refl
slots-numbered (l ∷ ls) = ap (λ ns. l ∷ ns) (slots-numbered ls)

names-numbered : (ls : List ℕ) → flat_map name_of (map number ls) ≡ []
names-numbered [] = refl
names-numbered (l ∷ ls) = names-numbered ls

pub record_of-keyed : (d : Document) → record_of d ≡ record_bytes 0 (tokens_of (keyed d)) (slots (tokens_of (keyed d))) (names (tokens_of (keyed d)))
record_of-keyed d =
    let ts = tokens_of d in
    rw (preorder-relabel name d None, labels-retoken name ts, slots-named (labels ts), names-named (labels ts)) (sym (record-retoken name 0 ts (map length (labels ts)) (flat_map (λ l. l) (labels ts))))

pub record_in-numbered : (form : ℕ) (n : NumberedTree) → numbered_record_in form n ≡ record_in (spelling_of form) form (tokens_of (numbered n)) (slots (tokens_of (numbered n))) (names (tokens_of (numbered n)))
record_in-numbered form n =
    let ts = tokens_of n in
    rw (preorder-relabel number n None, labels-retoken number ts, slots-numbered (labels ts), names-numbered (labels ts)) (sym (record_in-retoken number (spelling_of form) form ts (labels ts) []))

pub slots_of-keyed : (d : Document) → slots (tokens_of (keyed d)) ≡ map length (labels (tokens_of d))
slots_of-keyed d = rw (preorder-relabel name d None, labels-retoken name (tokens_of d)) (slots-named (labels (tokens_of d)))

pub names_of-keyed : (d : Document) → names (tokens_of (keyed d)) ≡ flat_map (λ l. l) (labels (tokens_of d))
names_of-keyed d = rw (preorder-relabel name d None, labels-retoken name (tokens_of d)) (names-named (labels (tokens_of d)))

pub slots_of-numbered : (n : NumberedTree) → slots (tokens_of (numbered n)) ≡ labels (tokens_of n)
slots_of-numbered n = rw (preorder-relabel number n None, labels-retoken number (tokens_of n)) (slots-numbered (labels (tokens_of n)))
