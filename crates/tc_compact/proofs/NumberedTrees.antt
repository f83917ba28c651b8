-- The numbered tree of a record whose members carry numbers, and the names that these have.
use Rattle.std.proofs.Common.{◌≡◌, ◌∙◌, ℕ, false, List, [], ◌∷◌, None, length, map, inl, inr, refl, sym, ap}
use Rattle.std.proofs.lemmas.Bool.{both_ways}
use Rattle.std.proofs.lemmas.List.{length-map}
use Rattle.std.proofs.lemmas.Option.{same_Some}
use Rattle.tc_model.specs.Document.{Name}
use Rattle.tc_record.specs.Preorder.{tokens_of}
use Rattle.tc_record.specs.Record.{NumberedTree, labels, joined, in_bytes, record_of, IsNumberedForm, IsNumberedRecordIn}
use Rattle.tc_record.specs.Walk.{Format, number}
use Rattle.tc_record.specs.Borrowed.{Record, Spells, named_tokens, numbered_tokens}
use Rattle.tc_record.proofs.Keyed.{preorder-relabel, labels-retoken}
use Rattle.tc_record.proofs.Reading.{document_again, numbered_again}
use Rattle.tc_compact.specs.Slots.{numbers_in}
use Rattle.tc_compact.specs.Layout.{Parts, parts_of, whole}
use Rattle.tc_compact.specs.Meant.{name_at, expanded}
use Rattle.tc_compact.proofs.Relabelled.{numbers_in-to_numbers, record-named}
use Rattle.tc_compact.proofs.Laid.{record_laid, parts-retoken}
use Rattle.tc_compact.proofs.Compacts.{Tokens, two_forms}

-- the numbers of a numbered tree's tokens
pub tree_numbers : (n : NumberedTree) → numbers_in (numbered_tokens n) ≡ labels (tokens_of n)
tree_numbers n = ap numbers_in (preorder-relabel number n None) ∙ numbers_in-to_numbers (λ k. k) (tokens_of n) ∙ same (labels (tokens_of n))
  where
    same : (ks : List ℕ) → map (λ k. k) ks ≡ ks
    same [] = refl
    same (k ∷ ks) = ap (λ ns. k ∷ ns) (same ks)

-- a numbered tree that a record has
pub record HasTree (r : Record) : Type 0 where
  pub tree : NumberedTree
  pub form : IsNumberedForm r.form
  pub is : IsNumberedRecordIn r.form tree r.bytes
  pub tokens : r.tokens ≡ numbered_tokens tree
  pub numbers : numbers_in r.tokens ≡ labels (tokens_of tree)
  pub members : length (labels r.tokens) ≡ length (numbers_in r.tokens)

-- a record without names has one
pub numbered_tree : (r : Record) → Spells r → r.named ≡ false → HasTree r
numbered_tree r (inl one) unnamed = absurd (both_ways r.named unnamed one.1.0)
numbered_tree r (inr (n, (named, is, tokens, form))) unnamed =
    let ks = labels (tokens_of n) in
    let numbers : numbers_in r.tokens ≡ ks = ap numbers_in tokens ∙ tree_numbers n in
    record {
      tree = n;
      form = form;
      is = is;
      tokens = tokens;
      numbers = numbers;
      members = ap length (ap labels (tokens ∙ preorder-relabel number n None) ∙ labels-retoken number (tokens_of n)) ∙ length-map ks number ∙ sym (ap length numbers);
    }

-- its form and its tokens are those of each tree that its bytes spell
pub tree_tokens : (r : Record) (form : ℕ) (n : NumberedTree) → Spells r → IsNumberedForm form → IsNumberedRecordIn form n r.bytes → r.tokens ≡ numbered_tokens n
tree_tokens r form n (inl one) told is = absurd (two_forms form (named_tokens one.0) (numbered_tokens n) (sym (document_again one.0 r.bytes one.1.1) ∙ numbered_again form told n r.bytes is))
tree_tokens r form n (inr one) told is =
    one.1.2 ∙ ap (λ (p : Format × Tokens). p.1) (same_Some _ _ (sym (numbered_again r.form one.1.3 one.0 r.bytes one.1.1) ∙ numbered_again form told n r.bytes is))

-- the record with names in place of numbers, by its parts
pub expanded_laid : (names : List Name) (n : NumberedTree) (tokens : Tokens) → tokens ≡ numbered_tokens n
    → record_of (expanded names n) ≡ whole in_bytes 0 (parts_of tokens) (map length (map (name_at names) (numbers_in tokens))) (joined (map (name_at names) (numbers_in tokens)))
expanded_laid names n tokens same =
    let ts = tokens_of n in
    let ls = map (name_at names) (labels ts) in
    let parts : parts_of tokens ≡ parts_of ts = ap parts_of (same ∙ preorder-relabel number n None) ∙ parts-retoken number ts in
    let numbers : numbers_in tokens ≡ labels ts = ap numbers_in same ∙ tree_numbers n in
    record-named (name_at names) n
    ∙ record_laid in_bytes ts (map length ls) (joined ls) 0
    ∙ ap (λ (p : Parts). whole in_bytes 0 p (map length ls) (joined ls)) (sym parts)
    ∙ ap (λ ks. whole in_bytes 0 (parts_of tokens) (map length (map (name_at names) ks)) (joined (map (name_at names) ks))) (sym numbers)
