-- The entry at a place is what its key has.
use Rattle.std.proofs.Common.{◌≡◌, ℕ, zero, suc, false, [], ◌∷◌, Some, slice_get, ap, ◌∙◌, subst}
use Rattle.std.specs.Prelude.{◌==◌}
use Rattle.std.specs.Cmp.{nat_cmp_total, unsigned_ties}
use Rattle.std.proofs.lemmas.Map.Keys.{sorted_head, sorted_tail}
use Rattle.std.proofs.lemmas.Option.{same_Some}
use Rattle.std.specs.Map.{keys_of}
use Rattle.std.specs.Ordering.{nat_cmp, is_eq, ordering_reverse}
use Rattle.std.specs.declared.cmp.Ordering.TheVariants.{Less}
use Rattle.tc_model.specs.Keyed.{Keyed, Ascends, value_of}
use Rattle.tc_model.proofs.KeyedEquality.{value_of-here, value_of-other}
use Rattle.tc_model.proofs.KeyedOrder.{AreAbove}

above_at : {V : Type 0} (low : ℕ) (ps : Keyed V) (i : ℕ) (p : ℕ × V) → AreAbove low (keys_of ps) → slice_get ps i ≡ Some p → nat_cmp low p.0 ≡ Less
above_at low [] i p above here = cc
above_at low (e ∷ ps) zero p above here = subst (λ q. nat_cmp low q.0 ≡ Less) (same_Some e p here) above.0
above_at low (e ∷ ps) (suc i) p above here = above_at low ps i p above.1 here

apart : (low high : ℕ) → nat_cmp low high ≡ Less → (high == low) ≡ false
apart low high less = unsigned_ties high low ∙ ap is_eq (nat_cmp_total.antisymm high low ∙ ap ordering_reverse less)

pub value_of-at : {V : Type 0} (ps : Keyed V) (i : ℕ) (p : ℕ × V) → Ascends ps → slice_get ps i ≡ Some p → value_of p.0 ps ≡ Some p.1
value_of-at [] i p up here = cc
value_of-at (e ∷ ps) zero p up here = subst (λ q. value_of q.0 (e ∷ ps) ≡ Some q.1) (same_Some e p here) (value_of-here e.0 e.1 ps)
value_of-at (e ∷ ps) (suc i) p up here =
    value_of-other p.0 e.0 e.1 ps (apart e.0 p.0 (above_at e.0 ps i p (sorted_head nat_cmp e.0 (keys_of ps) up) here)) ∙ value_of-at ps i p (sorted_tail nat_cmp e.0 (keys_of ps) up) here
