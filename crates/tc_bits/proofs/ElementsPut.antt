-- What writing an element leaves of the others.
use Rattle.std.proofs.Common.{◌≡◌, ◌≤◌, ◌<◌, ℕ, ◌+◌, ◌-◌, ◌*◌, ◌^◌, List, length, get_or, set, sym, ap, ◌∙◌, subst, ⊎_elim, arith}
use Rattle.std.proofs.lemmas.Bool.{cases_lt, cases_eq}
use Rattle.std.proofs.lemmas.Nat.{mul-le}
use Rattle.std.proofs.lemmas.List.{get_or-set_same, get_or-set_other, length-set}
use Rattle.std.proofs.lemmas.List.FromFn.{fill_by_all}
use Rattle.tc_bits.specs.Bits.{value, field_of, with_field, bits_after, bits_at, with_bits, elements}
use Rattle.tc_bits.proofs.Fields.{field-with_field, field_above-with_field, field_below-with_field}
use Rattle.tc_bits.proofs.Elements.{length-elements, element_at}

-- where an element stands as to a later one: so many of its bits and others lie between
gap : (w i j n : ℕ) → i < j → w * j + w ≤ n → n - (w * i + w) ≡ n - (w * j + w) + w + w * (j - i - 1)
gap w i j n before room =
    let split : j ≡ i + 1 + (j - i - 1) = omega (arith, before) in
    let spread : w * j ≡ w * i + w + w * (j - i - 1) = ap (λ m. w * m) split ∙ omega arith in
    omega (arith, room, spread)

pub put_here : (w at v : ℕ) (bytes new : List ℕ) → length new ≡ length bytes → v < 2 ^ w → value new ≡ with_bits w (w * at) v bytes → bits_at w (w * at) new ≡ v
put_here w at v bytes new same fits put =
    ap (λ k. field_of (8 * k - (w * at + w)) w (value new)) same
    ∙ ap (field_of (bits_after w (w * at) bytes) w) put
    ∙ field-with_field (bits_after w (w * at) bytes) w v (value bytes) fits

-- an element before it
put_later : (w at v i : ℕ) (bytes new : List ℕ) → length new ≡ length bytes → v < 2 ^ w → value new ≡ with_bits w (w * at) v bytes → i < at → w * at + w ≤ 8 * length bytes
    → bits_at w (w * i) new ≡ bits_at w (w * i) bytes
put_later w at v i bytes new same fits put before room =
    let above = bits_after w (w * at) bytes in
    let place : bits_after w (w * i) bytes ≡ above + w + w * (at - i - 1) = gap w i at (8 * length bytes) before room in
    ap (λ k. field_of (8 * k - (w * i + w)) w (value new)) same
    ∙ ap (λ k. field_of k w (value new)) place
    ∙ ap (field_of (above + w + w * (at - i - 1)) w) put
    ∙ field_above-with_field above w v (value bytes) (w * (at - i - 1)) w fits
    ∙ ap (λ k. field_of k w (value bytes)) (sym place)

-- and one after it
put_sooner : (w at v i : ℕ) (bytes new : List ℕ) → length new ≡ length bytes → value new ≡ with_bits w (w * at) v bytes → at < i → w * i + w ≤ 8 * length bytes
    → bits_at w (w * i) new ≡ bits_at w (w * i) bytes
put_sooner w at v i bytes new same put after_it room =
    let above = bits_after w (w * i) bytes in
    let place : bits_after w (w * at) bytes ≡ w * (i - at - 1) + w + above = gap w at i (8 * length bytes) after_it room ∙ turned above w (w * (i - at - 1)) in
    ap (λ k. field_of (8 * k - (w * i + w)) w (value new)) same
    ∙ ap (field_of above w) (put ∙ ap (λ k. with_field k w v (value bytes)) place)
    ∙ field_below-with_field above w v (value bytes) (w * (i - at - 1)) w
  where
    turned : (a w d : ℕ) → a + w + d ≡ d + w + a
    turned a w d = omega arith

element_fits : (w i count n : ℕ) → i < count → w * count ≤ n → w * i + w ≤ n
element_fits w i count n here room =
    let more : w * (i + 1) ≤ w * count = mul-le w (i + 1) w count (omega arith) (omega (arith, here)) in
    let spread : w * (i + 1) ≡ w * i + w = omega arith in
    omega (arith, room, more, spread)

-- any other one
other : (w at v count i : ℕ) (bytes new : List ℕ) → length new ≡ length bytes → v < 2 ^ w → value new ≡ with_bits w (w * at) v bytes → w * count ≤ 8 * length bytes → at < count → i < count → (i ≡ at → ⊥)
    → bits_at w (w * i) new ≡ bits_at w (w * i) bytes
other w at v count i bytes new same fits put room within here ne =
    ⊎_elim
    (λ before. put_later w at v i bytes new same fits put before (element_fits w at count (8 * length bytes) within room))
    (λ not_before. put_sooner w at v i bytes new same put (omega (arith, not_before, ne)) (element_fits w i count (8 * length bytes) here room))
    (cases_lt i at)

put_each : (w at v count i : ℕ) (bytes new : List ℕ) → length new ≡ length bytes → v < 2 ^ w → value new ≡ with_bits w (w * at) v bytes → w * count ≤ 8 * length bytes → at < count → i < count
    → get_or (set (elements w count bytes) at v) i 0 ≡ bits_at w (w * i) new
put_each w at v count i bytes new same fits put room within here =
    ⊎_elim
    (λ e.
    ap (λ k. get_or (set (elements w count bytes) at v) k 0) e
    ∙ get_or-set_same (elements w count bytes) at v 0 (subst (λ k. at < k) (sym (length-elements w count bytes)) within)
    ∙ sym (put_here w at v bytes new same fits put)
    ∙ ap (λ k. bits_at w (w * k) new) (sym e))
    (λ ne.
    get_or-set_other (elements w count bytes) at i v 0 ne
    ∙ element_at w count i bytes here
    ∙ sym (other w at v count i bytes new same fits put room within here ne))
    (cases_eq i at)

-- the elements are as they were, but for the one that was written
pub elements_put : (w at v count : ℕ) (bytes new : List ℕ) → length new ≡ length bytes → v < 2 ^ w → value new ≡ with_bits w (w * at) v bytes → w * count ≤ 8 * length bytes → at < count
    → elements w count new ≡ set (elements w count bytes) at v
elements_put w at v count bytes new same fits put room within =
    sym
    (fill_by_all (λ i. bits_at w (w * i) new) (set (elements w count bytes) at v) count 0
    (length-set (elements w count bytes) at v ∙ length-elements w count bytes)
    (λ i here. put_each w at v count i bytes new same fits put room within here))
