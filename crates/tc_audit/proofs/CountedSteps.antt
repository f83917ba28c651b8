-- What is counted stands for what is live with one entry more.
use Rattle.std.proofs.Common.{◌≡◌, ◌∙◌, ◌<◌, ◌+◌, ◌==◌, ℕ, zero, suc, false, if◌then◌else◌, List, [], ◌∷◌, ◌++◌, Option, None, Some, length, take, slice_get, get_or, flat_map, option_map, option_to_list, unwrap_or, refl, ap, arith, length-append}
use Rattle.std.specs.Option.{option_or}
use Rattle.std.specs.Map.{keys_of}
use Rattle.std.specs.Ordering.{nat_cmp}
use Rattle.std.proofs.lemmas.Bool.Decides.{nat_tests}
use Rattle.std.proofs.lemmas.List.{take_more}
use Rattle.std.proofs.lemmas.List.Concat.{flat_map-append}
use Rattle.std.proofs.lemmas.Map.Keys.{sorted_tail, below_from_sorted}
use Rattle.std.proofs.lemmas.Option.{slice_get-map, slice_get_within, get_or_from_slice_get}
use Rattle.tc_model.specs.Document.{Name, Document}
use Rattle.tc_model.specs.Keyed.{Ascends, value_of, values_in}
use Rattle.tc_plain_model.specs.Writes.{Pairs, Write, after_write, after_writes}
use Rattle.tc_plain_model.proofs.WriteLaws.{after_writes-append}
use Rattle.tc_plain_model.proofs.WriteLookups.{last_write, value_of-after_writes}
use Rattle.tc_schema_model.specs.Counted.{Counted, IsCanonical}
use Rattle.tc_schema_model.specs.Stands.{StandsFor}
use Rattle.tc_schema_model.proofs.Replaced.{count_taken_out, count_replaced}
use Rattle.tc_audit.specs.Walking.{documents_among, IsChangedBy}

-- ---- one write

-- without what a key had, and with what is written
pub stands_after : (names : List Name) (before after : Counted) (ps : Pairs) (key : ℕ) (v : Option Document) → Ascends ps → StandsFor names before (values_in ps) → IsCanonical (length names) after
    → IsChangedBy (value_of key ps) v names before after → StandsFor names after (values_in (after_write ps (key, v)))
stands_after names before after ps key None up stands canonical changed = record {
  canonical = canonical;
  distinct = stands.distinct;
  counts = λ path t. omega (arith, count_taken_out key ps path t, stands.counts path t, changed path t);
}
stands_after names before after ps key (Some d) up stands canonical changed = record {
  canonical = canonical;
  distinct = stands.distinct;
  counts = λ path t. omega (arith, count_taken_out key ps path t, count_replaced key d ps up path t, stands.counts path t, changed path t);
}

-- ---- the writes before one

-- of ascending writes none before one has its key
not_before : (ws : List Write) (at key : ℕ) (v : Option Document) → Ascends ws → slice_get ws at ≡ Some (key, v) → last_write key (take at ws) ≡ None
not_before [] at key v up here = absurd (cc)
not_before (w ∷ ws) zero key v up here = refl
not_before (w ∷ ws) (suc at) key v up here =
    let there : slice_get (keys_of ws) at ≡ Some key = slice_get-map (λ (e : Write). e.0) ws at ∙ ap (option_map (λ (e : Write). e.0)) here in
    let inside : at < length (keys_of ws) = slice_get_within (keys_of ws) at key there in
    let is : get_or (keys_of ws) at 0 ≡ key = get_or_from_slice_get (keys_of ws) at key 0 there in
    let less : w.0 < key = omega (arith, below_from_sorted (keys_of (w ∷ ws)) 0 (suc at) 0 up (omega arith) (omega (arith, inside)), is) in
    let other : (key == w.0) ≡ false = grind (arith, nat_tests) in
    ap (λ last. option_or last (if key == w.0 then Some w.1 else None)) (not_before ws at key v (sorted_tail nat_cmp w.0 (keys_of ws) up) here)
    ∙ ap (λ b. if b then Some w.1 else None) other

pub untouched : (pairs : Pairs) (ws : List Write) (at key : ℕ) (v : Option Document) → Ascends pairs → Ascends ws → slice_get ws at ≡ Some (key, v) → value_of key (after_writes pairs (take at ws)) ≡ value_of key pairs
untouched pairs ws at key v up ascends here =
    value_of-after_writes key pairs (take at ws) up ∙ ap (λ last. unwrap_or last (value_of key pairs)) (not_before ws at key v ascends here)

-- and one more
pub taken : {A : Type 0} (xs : List A) (i : ℕ) (x : A) → slice_get xs i ≡ Some x → take (i + 1) xs ≡ take i xs ++ x ∷ []
taken xs i x here = take_more xs i x (slice_get_within xs i x here) ∙ ap (λ y. take i xs ++ y ∷ []) (get_or_from_slice_get xs i x x here)

pub after_one_more : (pairs : Pairs) (ws : List Write) (at : ℕ) (w : Write) → slice_get ws at ≡ Some w → after_writes pairs (take (at + 1) ws) ≡ after_write (after_writes pairs (take at ws)) w
after_one_more pairs ws at w here = ap (after_writes pairs) (taken ws at w here) ∙ after_writes-append pairs (take at ws) (w ∷ [])

pub one_more_among : (ws : List Write) (at : ℕ) (w : Write) → slice_get ws at ≡ Some w → documents_among (take (at + 1) ws) ≡ documents_among (take at ws) + length (option_to_list w.1)
one_more_among ws at w here =
    let one : length (flat_map (λ (e : Write). option_to_list e.1) (w ∷ [])) ≡ length (option_to_list w.1) = omega (arith, length-append (option_to_list w.1) []) in
    ap documents_among (taken ws at w here) ∙ ap length (flat_map-append (λ (e : Write). option_to_list e.1) (take at ws) (w ∷ []))
    ∙ omega (arith, length-append (flat_map (λ (e : Write). option_to_list e.1) (take at ws)) (flat_map (λ (e : Write). option_to_list e.1) (w ∷ [])), one)
