-- Writes in ascending key leave of nothing the documents that they set, in their order.
use Rattle.std.proofs.Common.{◌≡◌, ℕ, Bool, true, false, List, [], ◌∷◌, refl, sym, ap, ◌∙◌, Some, None}
use Rattle.std.specs.Prelude.{◌==◌, if◌then◌else◌, unwrap_or, option_to_list, flat_map}
use Rattle.std.specs.Ordering.{nat_cmp}
use Rattle.std.specs.Map.{keys_of}
use Rattle.std.proofs.lemmas.Bool.{eqb-true}
use Rattle.std.proofs.lemmas.Map.Keys.{sorted_head, sorted_tail}
use Rattle.tc_model.specs.Document.{Document}
use Rattle.tc_model.specs.Keyed.{Ascends, value_of, values_in}
use Rattle.tc_model.proofs.KeyedOrder.{AreAbove, sorted_nil, sorted_cons}
use Rattle.tc_model.proofs.KeyedLookups.{value_of-above}
use Rattle.tc_model.proofs.KeyedEquality.{same_keyed}
use Rattle.tc_plain_model.specs.Writes.{Pairs, Write, after_writes}
use Rattle.tc_plain_model.proofs.WriteLookups.{Ascends-after_writes, value_of-after_ascending}

-- the documents that writes set, with their keys
abbrev set_pairs : List Write → Pairs
set_pairs [] = []
set_pairs ((n, None) ∷ ws) = set_pairs ws
set_pairs ((n, Some d) ∷ ws) = (n, d) ∷ set_pairs ws

above-set_pairs : (n : ℕ) (ws : List Write) → AreAbove n (keys_of ws) → AreAbove n (keys_of (set_pairs ws))
above-set_pairs n [] above = tt
above-set_pairs n ((k, None) ∷ ws) above = above-set_pairs n ws above.1
above-set_pairs n ((k, Some d) ∷ ws) above = (above.0, above-set_pairs n ws above.1)

Ascends-set_pairs : (ws : List Write) → Ascends ws → Ascends (set_pairs ws)
Ascends-set_pairs [] up = sorted_nil
Ascends-set_pairs ((k, None) ∷ ws) up = Ascends-set_pairs ws (sorted_tail nat_cmp k (keys_of ws) up)
Ascends-set_pairs ((k, Some d) ∷ ws) up =
    sorted_cons k (keys_of (set_pairs ws)) (above-set_pairs k ws (sorted_head nat_cmp k (keys_of ws) up)) (Ascends-set_pairs ws (sorted_tail nat_cmp k (keys_of ws) up))

value_of-set_pairs : (k : ℕ) (ws : List Write) → Ascends ws → value_of k (set_pairs ws) ≡ unwrap_or (value_of k ws) None
value_of-set_pairs k [] up = refl
value_of-set_pairs k ((n, None) ∷ ws) up =
    step (k == n) (value_of-set_pairs k ws (sorted_tail nat_cmp n (keys_of ws) up)) (λ here. rw (eqb-true k n here) (value_of-above n ws (sorted_head nat_cmp n (keys_of ws) up)))
  where
    step : (b : Bool) → value_of k (set_pairs ws) ≡ unwrap_or (value_of k ws) None → (b ≡ true → value_of k ws ≡ None) → value_of k (set_pairs ws) ≡ unwrap_or (if b then Some None else value_of k ws) None
    step true same none = same ∙ ap (λ o. unwrap_or o None) (none refl)
    step false same none = same
value_of-set_pairs k ((n, Some d) ∷ ws) up = step (k == n) (value_of-set_pairs k ws (sorted_tail nat_cmp n (keys_of ws) up))
  where
    step : (b : Bool) → value_of k (set_pairs ws) ≡ unwrap_or (value_of k ws) None → (if b then Some d else value_of k (set_pairs ws)) ≡ unwrap_or (if b then Some (Some d) else value_of k ws) None
    step true same = refl
    step false same = same

values_in-set_pairs : (ws : List Write) → values_in (set_pairs ws) ≡ flat_map (λ w. option_to_list w.1) ws
values_in-set_pairs [] = refl
values_in-set_pairs ((n, None) ∷ ws) = values_in-set_pairs ws
values_in-set_pairs ((n, Some d) ∷ ws) = ap (λ docs. d ∷ docs) (values_in-set_pairs ws)

pub documents_in_order : (ws : List Write) → Ascends ws → values_in (after_writes [] ws) ≡ flat_map (λ w. option_to_list w.1) ws
documents_in_order ws up =
    let nothing : Ascends {V = Document} [] = sorted_nil in
    let same : after_writes [] ws ≡ set_pairs ws = same_keyed (after_writes [] ws) (set_pairs ws) (Ascends-after_writes [] ws nothing) (Ascends-set_pairs ws up)
    (λ k. value_of-after_ascending k [] ws nothing up ∙ sym (value_of-set_pairs k ws up)) in
    ap values_in same ∙ values_in-set_pairs ws
