-- An index stays one when an element is added, and finds each element that has a place.
use Rattle.std.proofs.Common.{◌≡◌, ◌≢◌, ◌≤◌, ◌<◌, ℕ, zero, suc, List, [], ◌∷◌, ◌++◌, Some, length, slice_get, slice_set, refl, sym, ap, ◌∙◌, arith, subst, ⊎_elim, inl, inr, ◌⊎◌}
use Rattle.std.proofs.lemmas.Bool.Decides.{leb_tells, eqb_tells}
use Rattle.std.proofs.lemmas.List.{length_push, length-set}
use Rattle.std.proofs.lemmas.Option.{same_Some, slice_get_within}
use Rattle.tc_names.specs.Linking.{IsLast, IsLinked}

-- an element behind others changes none of them
slice_get-before : (xs : List ℕ) (x i : ℕ) → i < length xs → slice_get (xs ++ x ∷ []) i ≡ slice_get xs i
slice_get-before [] x i below = absurd (omega (arith, below))
slice_get-before (y ∷ xs) x zero below = refl
slice_get-before (y ∷ xs) x (suc i) below = slice_get-before xs x i (omega (arith, below))

-- and stands at their number
slice_get-pushed : (xs : List ℕ) (x : ℕ) → slice_get (xs ++ x ∷ []) (length xs) ≡ Some x
slice_get-pushed [] x = refl
slice_get-pushed (y ∷ xs) x = slice_get-pushed xs x

-- what is written at a place is read there
slice_get-set : (xs : List ℕ) (i x : ℕ) → i < length xs → slice_get (slice_set xs i x) i ≡ Some x
slice_get-set [] i x below = absurd (omega (arith, below))
slice_get-set (y ∷ xs) zero x below = refl
slice_get-set (y ∷ xs) (suc i) x below = slice_get-set xs i x (omega (arith, below))

-- and nowhere else
slice_get-other : (xs : List ℕ) (i j x : ℕ) → j ≢ i → slice_get (slice_set xs i x) j ≡ slice_get xs j
slice_get-other [] i j x apart = refl
slice_get-other (y ∷ xs) zero zero x apart = absurd (apart refl)
slice_get-other (y ∷ xs) zero (suc j) x apart = refl
slice_get-other (y ∷ xs) (suc i) zero x apart = refl
slice_get-other (y ∷ xs) (suc i) (suc j) x apart = slice_get-other xs i j x (λ same. apart (ap suc same))

-- below the next number is below this one, or this one
pub below_or_last : (i n : ℕ) → i < suc n → (i < n) ⊎ (i ≡ n)
below_or_last i n below = elim (leb_tells n i) [ inl at ↦ inr (let more = at.1 in omega (arith, more, below)) | inr at ↦ inl at.1 ]

-- the last of the first elements stays the last of them
last-stays : (places : List ℕ) (new place last n : ℕ) → n ≤ length places → IsLast places place last n → IsLast (places ++ new ∷ []) place last n
last-stays places new place last n among is = record {
  within = is.within;
  here = λ i at. let below : i < length places = let w = is.within in omega (arith, w, at, among) in slice_get-before places new i below ∙ is.here i at;
  after = λ i from to at. is.after i from to (sym (slice_get-before places new i (omega (arith, to, among))) ∙ at);
}

-- a new element is the last of its place
last-new : (places : List ℕ) (new : ℕ) → IsLast (places ++ new ∷ []) new (suc (length places)) (suc (length places))
last-new places new = record {
  within = omega arith;
  here = λ i at. let same : length places ≡ i = omega (arith, at) in subst (λ j. slice_get (places ++ new ∷ []) j ≡ Some new) same (slice_get-pushed places new);
  after = λ i from to at. absurd (omega (arith, from, to));
}

-- and of no other
last-other : (places : List ℕ) (new place last : ℕ) → place ≢ new → IsLast places place last (length places) → IsLast (places ++ new ∷ []) place last (suc (length places))
last-other places new place last apart is =
    let kept = last-stays places new place last (length places) (omega arith) is in
    record {
      within = let w = is.within in omega (arith, w);
      here = kept.here;
      after = λ i from to at. ⊎_elim
          (λ before. kept.after i from before at)
          (λ same. apart (same_Some place new (sym at ∙ ap (slice_get (places ++ new ∷ [])) same ∙ slice_get-pushed places new)))
          (below_or_last i (length places) to);
    }

-- the empty index
pub index-empty : (heads : List ℕ) → ((place last : ℕ) → slice_get heads place ≡ Some last → last ≡ 0) → IsLinked heads [] []
index-empty heads zeros = record {
  lasts = λ place last at. let none = zeros place last at in record { within = omega (arith, none); here = λ i one. absurd (omega (arith, none, one)); after = λ i from to. absurd (omega (arith, to)) };
  earlier = λ i place last at. cc;
  count = refl;
  some = λ more. absurd (omega (arith, more));
}

-- one element more
pub index-push : (heads links places : List ℕ) (new last : ℕ) → slice_get heads new ≡ Some last → IsLinked heads links places
    → IsLinked (slice_set heads new (suc (length places))) (links ++ last ∷ []) (places ++ new ∷ [])
index-push heads links places new last head is =
    let grown : length (places ++ new ∷ []) ≡ suc (length places) = omega (arith, length_push places new) in
    let longer : length (links ++ last ∷ []) ≡ suc (length links) = omega (arith, length_push links last) in
    let alike = is.count in
    let room : new < length heads = slice_get_within heads new last head in
    record {
      lasts = λ place found at. subst (λ n. IsLast (places ++ new ∷ []) place found n) (sym grown) (elim (eqb_tells place new) [
        | inl t ↦ (let written : slice_get (slice_set heads new (suc (length places))) new ≡ Some (suc (length places)) = slice_get-set heads new (suc (length places)) room in
            let value : suc (length places) ≡ found = same_Some (suc (length places)) found (sym written ∙ ap (slice_get (slice_set heads new (suc (length places)))) (sym t.1) ∙ at) in
            rw (← value, t.1) (last-new places new))
        | inr t ↦ last-other places new place found t.1 (is.lasts place found (sym (slice_get-other heads new place (suc (length places)) t.1) ∙ at))
      ]);
      earlier = λ i place found place-at link-at. elim (below_or_last i (length places) (subst (λ n. i < n) grown (slice_get_within (places ++ new ∷ []) i place place-at))) [
        | inl below ↦ last-stays places new place found i (omega (arith, below))
            (is.earlier i place found (sym (slice_get-before places new i below) ∙ place-at) (sym (slice_get-before links last i (omega (arith, below, alike))) ∙ link-at))
        | inr same ↦ (let place-is : new ≡ place = same_Some new place (sym (slice_get-pushed places new) ∙ ap (slice_get (places ++ new ∷ [])) (sym same) ∙ place-at) in
            let here : length links ≡ i = omega (arith, alike, same) in
            let link-is : last ≡ found = same_Some last found (sym (slice_get-pushed links last) ∙ ap (slice_get (links ++ last ∷ [])) here ∙ link-at) in
            rw (← place-is, ← link-is, same) (last-stays places new new last (length places) (omega arith) (is.lasts new last head)))
      ];
      count = omega (arith, grown, longer, alike);
      some = λ more. omega (arith, room, length-set heads new (suc (length places)));
    }
