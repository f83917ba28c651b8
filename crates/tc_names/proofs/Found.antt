-- An index finds the number of a name.
use Rattle.std.proofs.Common.{◌≡◌, ◌≢◌, ◌≤◌, ◌<◌, ◌-◌, ◌/◌, ◌^◌, ℕ, zero, suc, List, [], ◌∷◌, ◌++◌, Option, Some, None, map, option_map, take, length, slice_get, slice_index_or, slice_set, replicate, refl, sym, ap, ◌∙◌, arith, inl, inr}
use Rattle.std.proofs.lemmas.Bool.Decides.{leb_tells, eqb_tells}
use Rattle.std.proofs.lemmas.List.{length-map, length-set, length-replicate, map-append, get_or-replicate}
use Rattle.std.proofs.lemmas.Option.{same_Some, slice_get-map, slice_get-get_or, slice_get_within, get_or_from_slice_get}
use Rattle.std.proofs.lemmas.Nat.{mod_below}
use Rattle.std.specs.Hash.FoldHasher.{initial, write, finish}
use Rattle.tc_model.specs.Dictionary.{number_of}
use Rattle.tc_model.proofs.NameNumbers.{slice_get-number_of, number_of-below}
use Rattle.tc_names.specs.Linking.{place_of, IsIndex}
use Rattle.tc_names.proofs.Links.{index-push, index-empty}

-- the place of the name of a number
placed : (count : ℕ) (names : List (List ℕ)) (name : List ℕ) (number : ℕ) → slice_get names number ≡ Some name → slice_get (map (place_of count) names) number ≡ Some (place_of count name)
placed count names name number at = slice_get-map (place_of count) names number ∙ ap (option_map (place_of count)) at

-- what a search still has before it: the name stands there, where it has a number
pub record IsAhead (count : ℕ) (names : List (List ℕ)) (name : List ℕ) (last : ℕ) : Type 0 where
  pub within : last ≤ length names
  pub here : (i : ℕ) → last ≡ suc i → slice_get (map (place_of count) names) i ≡ Some (place_of count name)
  pub before : (number : ℕ) → number_of names name ≡ Some number → number < last

-- the last name of the place is where a search begins
pub ahead-first : (heads links : List ℕ) (names : List (List ℕ)) (name : List ℕ) (last : ℕ) → IsIndex heads links names → slice_get heads (place_of (length heads) name) ≡ Some last → IsAhead (length heads) names name last
ahead-first heads links names name last index at =
    let is = index.lasts (place_of (length heads) name) last at in
    let many : length (map (place_of (length heads)) names) ≡ length names = length-map names (place_of (length heads)) in
    record {
      within = let w = is.within in omega (arith, w, many);
      here = is.here;
      before = λ number known. elim (leb_tells last number) [
        | inl t ↦ absurd (is.after number t.1 (let below = number_of-below names name number known in omega (arith, below, many)) (placed (length heads) names name number (slice_get-number_of names name number known)))
        | inr t ↦ t.1
      ];
    }

-- and it goes on with the one before, where this is another name
pub ahead-next : (heads links : List ℕ) (names : List (List ℕ)) (name : List ℕ) (last i next : ℕ) → IsIndex heads links names → IsAhead (length heads) names name last → last ≡ suc i
    → slice_get names i ≢ Some name → slice_get links i ≡ Some next → IsAhead (length heads) names name next
ahead-next heads links names name last i next index ahead at apart linked =
    let is = index.earlier i (place_of (length heads) name) next (ahead.here i at) linked in
    record {
      within = let w = is.within in let v = ahead.within in omega (arith, w, v, at);
      here = is.here;
      before = λ number known. elim (leb_tells next number) [
        | inl t ↦ absurd (elim (eqb_tells number i) [
          | inl s ↦ apart (ap (slice_get names) (sym s.1) ∙ slice_get-number_of names name number known)
          | inr s ↦ is.after number t.1 (let far = s.1 in let below = ahead.before number known in omega (arith, below, at, far)) (placed (length heads) names name number (slice_get-number_of names name number known))
        ])
        | inr t ↦ t.1
      ];
    }

-- a search that has nothing before it has found that the name has no number
pub ahead-none : (count : ℕ) (names : List (List ℕ)) (name : List ℕ) → IsAhead count names name 0 → number_of names name ≡ None
ahead-none count names name ahead = none (number_of names name) (ahead.before)
  where
    none : (o : Option ℕ) → ((number : ℕ) → o ≡ Some number → number < 0) → o ≡ None
    none None before = refl
    none (Some number) before = absurd (let below = before number refl in omega (arith, below))

-- one name more
pub index-name : (heads links longer lengthened : List ℕ) (names : List (List ℕ)) (name : List ℕ) → 0 < length heads → IsIndex heads links names
    → longer ≡ slice_set heads (place_of (length heads) name) (suc (length links)) → lengthened ≡ links ++ slice_index_or heads (place_of (length heads) name) 0 ∷ [] → IsIndex longer lengthened (names ++ name ∷ [])
index-name heads links longer lengthened names name more is set added =
    let place = place_of (length heads) name in
    let within : place < length heads = mod_below (finish (write initial name) / 2 ^ 32) (length heads) more in
    let as_many : length longer ≡ length heads = ap length set ∙ length-set heads place (suc (length links)) in
    let pushed = index-push heads links (map (place_of (length heads)) names) place (slice_index_or heads place 0) (slice_get-get_or heads place 0 within) is in
    let grown : map (place_of (length heads)) (names ++ name ∷ []) ≡ map (place_of (length heads)) names ++ place ∷ [] = map-append (place_of (length heads)) names (name ∷ []) in
    rw (as_many, set, added, is.count, grown) pushed

-- no names
pub index-none : (count : ℕ) → IsIndex (replicate count 0) [] []
index-none count = index-empty (replicate count 0) (λ place last at.
    let within : place < count = omega (arith, slice_get_within (replicate count 0) place last at, length-replicate {A = ℕ} count 0) in
    sym (get_or_from_slice_get (replicate count 0) place last 0 at) ∙ get_or-replicate count place 0 0 within)

-- the number before one that is not 0
pub suc-before : (n : ℕ) → n ≢ 0 → n ≡ suc (n - 1)
suc-before zero some = absurd (some refl)
suc-before (suc n) some = omega arith

-- the first names and the next
pub take-next : (names : List (List ℕ)) (i : ℕ) (name : List ℕ) → slice_get names i ≡ Some name → take (suc i) names ≡ take i names ++ name ∷ []
take-next [] i name at = cc
take-next (first ∷ names) zero name at = ap (λ n. n ∷ []) (same_Some first name at)
take-next (first ∷ names) (suc i) name at = ap (λ rest. first ∷ rest) (take-next names i name at)
