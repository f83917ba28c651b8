-- The number of a name is its place: how it stands to the list, and that it stays.
use Rattle.std.proofs.Common.{◌≡◌, ◌<◌, ℕ, zero, suc, Bool, true, false, if◌then◌else◌, List, [], ◌∷◌, ◌++◌, Option, None, Some, option_map, IsTrue, is_some, unwrap_or, ◌||◌, length, slice_get, refl, sym, ap, ◌∙◌, arith}
use Rattle.std.specs.List.{AllByRecursion, IsDistinct, list_any}
use Rattle.std.specs.Str.{bytes_eq}
use Rattle.std.specs.Cmp.Lexicographic.{nat_list_eq_equiv}
use Rattle.std.proofs.lemmas.Bool.{false≢true}
use Rattle.std.proofs.lemmas.Map.Keys.{IsDistinct-head, IsDistinct-tail}
use Rattle.std.proofs.lemmas.Option.{same_Some}
use Rattle.std.proofs.lemmas.Slice.Eq.{bytes_eq-Decides}
use Rattle.tc_model.specs.Dictionary.{number_of, number}

-- a name equals itself
bytes_eq-self : (name : List ℕ) → bytes_eq name name ≡ true
bytes_eq-self name = (bytes_eq-Decides name name).1 refl

-- a name that has a number is among the names, and a name without one is not
pub list_any-number_of : (names : List (List ℕ)) (name : List ℕ) → list_any (bytes_eq name) names ≡ is_some (number_of names name)
list_any-number_of [] name = refl
list_any-number_of (first ∷ names) name = cases (bytes_eq name first) (number_of names name) (list_any-number_of names name)
  where
    cases : (same : Bool) (rest : Option ℕ) → list_any (bytes_eq name) names ≡ is_some rest → (same || list_any (bytes_eq name) names) ≡ is_some (if same then Some 0 else option_map suc rest)
    cases true rest ih = refl
    cases false None ih = ih
    cases false (Some id) ih = ih

-- the number of a name stays when names are appended
pub number_of-append : (names more : List (List ℕ)) (name : List ℕ) (id : ℕ) → number_of names name ≡ Some id → number_of (names ++ more) name ≡ Some id
number_of-append [] more name id known = cc
number_of-append (first ∷ names) more name id known = cases (bytes_eq name first) (number_of names name) (number_of-append names more name) known
  where
    cases : (same : Bool) (rest : Option ℕ) → ((n : ℕ) → rest ≡ Some n → number_of (names ++ more) name ≡ Some n)
        → (if same then Some 0 else option_map suc rest) ≡ Some id → (if same then Some 0 else option_map suc (number_of (names ++ more) name)) ≡ Some id
    cases true rest ih known = known
    cases false None ih known = cc
    cases false (Some n) ih known = ap (option_map suc) (ih n refl) ∙ known

-- a new name at the end has the number of the names before it
pub number_of-push : (names : List (List ℕ)) (name : List ℕ) → number_of names name ≡ None → number_of (names ++ name ∷ []) name ≡ Some (length names)
number_of-push [] name new = rw (bytes_eq-self name) refl
number_of-push (first ∷ names) name new = cases (bytes_eq name first) (number_of names name) (number_of-push names name) new
  where
    cases : (same : Bool) (rest : Option ℕ) → (rest ≡ None → number_of (names ++ name ∷ []) name ≡ Some (length names))
        → (if same then Some 0 else option_map suc rest) ≡ None → (if same then Some 0 else option_map suc (number_of (names ++ name ∷ []) name)) ≡ Some (length (first ∷ names))
    cases true rest ih new = cc
    cases false None ih new = ap (option_map suc) (ih refl)
    cases false (Some n) ih new = cc

-- the name of a name's number is the name
pub slice_get-number_of : (names : List (List ℕ)) (name : List ℕ) (id : ℕ) → number_of names name ≡ Some id → slice_get names id ≡ Some name
slice_get-number_of [] name id known = cc
slice_get-number_of (first ∷ names) name id known = cases (bytes_eq name first) ((bytes_eq-Decides name first).0) (number_of names name) (slice_get-number_of names name) known
  where
    cases : (same : Bool) → (same ≡ true → name ≡ first) → (rest : Option ℕ) → ((n : ℕ) → rest ≡ Some n → slice_get names n ≡ Some name)
        → (if same then Some 0 else option_map suc rest) ≡ Some id → slice_get (first ∷ names) id ≡ Some name
    cases true equal rest ih known = let at : 0 ≡ id = same_Some 0 id known in rw (← at) (ap Some (sym (equal refl)))
    cases false equal None ih known = cc
    cases false equal (Some n) ih known = let at : suc n ≡ id = same_Some (suc n) id known in rw (← at) (ih n refl)

-- a number is below the number of names
pub number_of-below : (names : List (List ℕ)) (name : List ℕ) (id : ℕ) → number_of names name ≡ Some id → id < length names
number_of-below [] name id known = cc
number_of-below (first ∷ names) name id known = cases (bytes_eq name first) (number_of names name) (number_of-below names name) known
  where
    cases : (same : Bool) (rest : Option ℕ) → ((n : ℕ) → rest ≡ Some n → n < length names)
        → (if same then Some 0 else option_map suc rest) ≡ Some id → id < length (first ∷ names)
    cases true rest ih known = let at : 0 ≡ id = same_Some 0 id known in omega arith
    cases false None ih known = cc
    cases false (Some n) ih known = let at : suc n ≡ id = same_Some (suc n) id known in let below = ih n refl in omega arith

-- the number of a name that has one
pub numbered : (names : List (List ℕ)) (name : List ℕ) → IsTrue (is_some (number_of names name)) → number_of names name ≡ Some (number names name)
numbered names name named = at (number_of names name) named
  where
    at : (o : Option ℕ) → IsTrue (is_some o) → o ≡ Some (unwrap_or o 0)
    at None named = absurd (false≢true named)
    at (Some n) named = refl

-- no name before it equals it
pub number_of-new : (names : List (List ℕ)) (name : List ℕ) (more : List (List ℕ)) → IsDistinct bytes_eq (names ++ name ∷ more) → number_of names name ≡ None
number_of-new [] name more distinct = refl
number_of-new (first ∷ names) name more distinct =
    let apart : bytes_eq name first ≡ false = nat_list_eq_equiv.symm name first ∙ middle names (IsDistinct-head bytes_eq first (names ++ name ∷ more) distinct) in
    let rest : number_of names name ≡ None = number_of-new names name more (IsDistinct-tail bytes_eq first (names ++ name ∷ more) distinct) in
    rw (apart, rest) refl
  where
    middle : (front : List (List ℕ)) → AllByRecursion (λ other. bytes_eq first other ≡ false) (front ++ name ∷ more) → bytes_eq first name ≡ false
    middle [] each = each.0
    middle (other ∷ front) each = middle front each.1

-- the number of the name at a place is the place, where names are distinct
pub number_of-slice_get : (names : List (List ℕ)) (name : List ℕ) (id : ℕ) → IsDistinct bytes_eq names → slice_get names id ≡ Some name → number_of names name ≡ Some id
number_of-slice_get [] name id distinct at = cc
number_of-slice_get (first ∷ names) name zero distinct at =
    let same : first ≡ name = same_Some first name at in
    let equal : bytes_eq name first ≡ true = (bytes_eq-Decides name first).1 (sym same) in
    rw equal refl
number_of-slice_get (first ∷ names) name (suc id) distinct at =
    let apart : bytes_eq name first ≡ false = nat_list_eq_equiv.symm name first ∙ each names id (IsDistinct-head bytes_eq first names distinct) at in
    let rest : number_of names name ≡ Some id = number_of-slice_get names name id (IsDistinct-tail bytes_eq first names distinct) at in
    rw (apart, rest) refl
  where
    each : (others : List (List ℕ)) (i : ℕ) → AllByRecursion (λ other. bytes_eq first other ≡ false) others → slice_get others i ≡ Some name → bytes_eq first name ≡ false
    each [] i all here = cc
    each (other ∷ others) zero all here = let same : other ≡ name = same_Some other name here in rw (← same) all.0
    each (other ∷ others) (suc i) all here = each others i all.1 here
