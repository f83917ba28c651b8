-- The record of form 2 of a record of form 1, part by part.
use Rattle.std.proofs.Common.{◌≡◌, ◌∙◌, ◌<◌, ◌^◌, ℕ, false, List, [], None, Some, option_map, unwrap_or, length, map, inl, inr, refl, sym, ap, subst, arith}
use Rattle.tc_bits.proofs.Joined.{AreBelow}
use Rattle.tc_record.specs.Preorder.{tokens_of}
use Rattle.tc_record.specs.Record.{NumberedTree, texts, labels, in_bytes, in_bits, spelling_of, column_in, packed_record_of, IsNumberedRecordIn}
use Rattle.tc_record.specs.Sections.{record_read}
use Rattle.tc_record.specs.Walk.{Format, number}
use Rattle.tc_record.specs.Borrowed.{Record, Spells, numbered_tokens}
use Rattle.tc_record.proofs.ColumnSizes.{bits-le}
use Rattle.tc_record.proofs.Keyed.{preorder-relabel, slots_of-numbered}
use Rattle.tc_record.proofs.Reading.{numbered_again, numbers_small}
use Rattle.tc_record.proofs.Spelled.{slots}
use Rattle.tc_compact.specs.Slots.{numbers_in}
use Rattle.tc_compact.specs.Layout.{Parts, parts_of, whole}
use Rattle.tc_compact.specs.Repacked.{packed_of, repacked, IsRepackedOf}
use Rattle.tc_compact.proofs.Laid.{record_laid, whole_length, parts-retoken}
use Rattle.tc_compact.proofs.Compacts.{Tokens, record_holds}
use Rattle.tc_compact.proofs.NumberedTrees.{HasTree, numbered_tree, tree_numbers}

-- a record of form 1 has a numbered tree
pub form1_tree : (r : Record) → Spells r → r.form ≡ 1 → HasTree r
form1_tree r (inl one) is = absurd (omega (arith, is, one.1.3))
form1_tree r (inr one) is = numbered_tree r (inr one) one.1.0

-- it is no longer in bits
pub repacked_short : (r : Record) → Spells r → r.form ≡ 1 → length (whole in_bits 2 (parts_of r.tokens) (numbers_in r.tokens) []) < 2 ^ 32
repacked_short r spells form =
    let tree = form1_tree r spells form in
    let holds = record_holds r spells in
    let ns = numbers_in r.tokens in
    let lengths = map length (texts r.tokens) in
    let slots_are : slots r.tokens ≡ ns = ap slots tree.tokens ∙ slots_of-numbered tree.tree ∙ sym tree.numbers in
    let each : AreBelow 32 ns = subst (AreBelow 32) (sym tree.numbers) (numbers_small tree.tree tree.is.tree) in
    let in_lengths = ap (λ f. length (column_in (spelling_of f) lengths)) form in
    let in_slots = ap (λ f. length (column_in (spelling_of f) (slots r.tokens))) form ∙ ap (λ ks. length (column_in in_bytes ks)) slots_are in
    omega (arith, holds.len, holds.short, in_lengths, in_slots, bits-le lengths holds.lengths, bits-le ns each, whole_length in_bits 2 (parts_of r.tokens) ns [])

-- the bytes of a numbered tree in form 1 become those in form 2
pub repacked_of : (n : NumberedTree) (bytes : List ℕ) → IsNumberedRecordIn 1 n bytes → repacked bytes ≡ packed_record_of n
repacked_of n bytes is =
    let ts = tokens_of n in
    let keyed = numbered_tokens n in
    let parts : parts_of keyed ≡ parts_of ts = ap parts_of (preorder-relabel number n None) ∙ parts-retoken number ts in
    ap (λ o. unwrap_or (option_map (λ (q : Format × Tokens). packed_of q.1) o) bytes) (numbered_again 1 (inl refl) n bytes is)
    ∙ record_laid in_bits keyed (numbers_in keyed) [] 2
    ∙ ap (λ (p : Parts). whole in_bits 2 p (numbers_in keyed) []) parts
    ∙ ap (λ ks. whole in_bits 2 (parts_of ts) ks []) (tree_numbers n)
    ∙ sym (record_laid in_bits ts (labels ts) [] 2)

-- what is written of its parts and its numbers takes its place
pub is_repacked : (r : Record) (out : List ℕ) → Spells r → r.form ≡ 1 → out ≡ whole in_bits 2 (parts_of r.tokens) (numbers_in r.tokens) [] → IsRepackedOf r.bytes out
is_repacked r out spells form written =
    let tree = form1_tree r spells form in
    let read : record_read r.bytes ≡ Some (record { form = r.form; named = false }, r.tokens) =
    numbered_again r.form tree.form tree.tree r.bytes tree.is ∙ ap (λ ts. Some (record { form = r.form; named = false }, ts)) (sym tree.tokens) in
    let same : out ≡ repacked r.bytes =
    written ∙ sym (record_laid in_bits r.tokens (numbers_in r.tokens) [] 2) ∙ sym (ap (λ o. unwrap_or (option_map (λ (q : Format × Tokens). packed_of q.1) o) r.bytes) read) in
    record {
      same = same;
      is_packed = λ n is. record {
        tree = is.tree;
        is_object = is.is_object;
        shallow = is.shallow;
        spelled = same ∙ repacked_of n r.bytes is;
        short = subst (λ bs. length bs < 2 ^ 32) (sym written) (repacked_short r spells form);
      };
    }
