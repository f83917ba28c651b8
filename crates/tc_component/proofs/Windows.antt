-- Bytes in a window of a file.
use Rattle.std.proofs.Common.{◌≡◌, ◌∙◌, ◌≤◌, ◌+◌, ◌-◌, ℕ, zero, suc, List, [], ◌∷◌, length, take, drop, refl, ap, arith, Option, Some, None, subst}
use Rattle.std.specs.Prelude.{IfSome}
use Rattle.std.proofs.lemmas.List.{drop-drop}
use Rattle.tc_component.specs.Cursors.{CursorState, HoldsPart, HasBytes}

take_front : {X : Type 0} (xs : List X) (n m : ℕ) → n ≤ m → take n (take m xs) ≡ take n xs
take_front [] zero m within = refl
take_front [] (suc n) zero within = refl
take_front [] (suc n) (suc m) within = refl
take_front (x ∷ xs) zero m within = refl
take_front (x ∷ xs) (suc n) zero within = absurd (omega (arith, within))
take_front (x ∷ xs) (suc n) (suc m) within = ap (λ rest. x ∷ rest) (take_front xs n m (omega (arith, within)))

take_inside : {X : Type 0} (xs : List X) (at n m : ℕ) → at + n ≤ m → take n (drop at (take m xs)) ≡ take n (drop at xs)
take_inside xs zero n m within = take_front xs n m (omega (arith, within))
take_inside [] (suc at) n zero within = refl
take_inside [] (suc at) n (suc m) within = refl
take_inside (x ∷ xs) (suc at) n zero within = absurd (omega (arith, within))
take_inside (x ∷ xs) (suc at) n (suc m) within = take_inside xs at n m (omega (arith, within))

-- bytes that are held are those of the file
pub part_told : (bytes : List ℕ) (c : CursorState) (place count : ℕ) → HoldsPart (Some bytes) c → HasBytes place count c → take count (drop (place - c.from) c.held) ≡ take count (drop place bytes)
part_told bytes c place count holds has =
    let all : c.from + (place - c.from) ≡ place = omega (arith, has.0) in
    ap (λ held. take count (drop (place - c.from) held)) holds
    ∙ take_inside (drop c.from bytes) (place - c.from) count (length c.held) (omega (arith, has.0, has.1))
    ∙ ap (take count) (drop-drop (place - c.from) c.from bytes)
    ∙ ap (λ n. take count (drop n bytes)) all

pub part_is : (content : Option (List ℕ)) (c : CursorState) (place count : ℕ) → HoldsPart content c → HasBytes place count c → IfSome content (λ bytes. take count (drop (place - c.from) c.held) ≡ take count (drop place bytes))
part_is None c place count holds has = tt
part_is (Some bytes) c place count holds has = part_told bytes c place count holds has

-- what holds of one place and count holds of those that are equal to them
pub at_range : (P : ℕ → ℕ → Type 0) (p q n m : ℕ) → p ≡ q → n ≡ m → P p n → P q m
at_range P p q n m place count is = subst (λ k. P q k) count (subst (λ k. P k n) place is)
