-- How a dictionary grows: what a new name leaves, and that older dictionaries come first in newer ones.
use Rattle.std.proofs.Common.{◌≡◌, ◌<◌, ◌≤◌, ◌⊎◌, inl, inr, ◌+◌, ◌^◌, ℕ, Bool, true, false, if◌then◌else◌, List, [], ◌∷◌, ◌++◌, Option, None, Some, is_some, length, refl, sym, ap, ◌∙◌, subst, arith, append_assoc, append-nil, length-append}
use Rattle.std.specs.List.{AllByRecursion, IsDistinct}
use Rattle.std.specs.Cmp.Lexicographic.{nat_list_eq_equiv}
use Rattle.std.proofs.lemmas.Map.Keys.{IsDistinct-push}
use Rattle.std.proofs.lemmas.Option.{same_Some}
use Rattle.tc_model.specs.Dictionary.{number_of, learned, Extends, IsName, IsDictionary}
use Rattle.tc_model.proofs.NameNumbers.{list_any-number_of, number_of-append, number_of-push, number_of-below}

-- no names are a dictionary
pub IsDictionary-nil : IsDictionary []
unfolding IsDistinct
IsDictionary-nil = record { distinct = tt; each = tt; few = omega arith }

each-push : (names : List (List ℕ)) (name : List ℕ) → AllByRecursion IsName names → IsName name → AllByRecursion IsName (names ++ name ∷ [])
each-push [] name each one = (one, tt)
each-push (first ∷ names) name each one = (each.0, each-push names name each.1 one)

-- a dictionary with a new name at its end is one
pub IsDictionary-push : (names : List (List ℕ)) (name : List ℕ) → IsDictionary names → IsName name → number_of names name ≡ None → length names + 1 < 2 ^ 32 → IsDictionary (names ++ name ∷ [])
IsDictionary-push names name dictionary one new room = record {
  distinct = IsDistinct-push nat_list_eq_equiv names name dictionary.distinct (list_any-number_of names name ∙ ap is_some new);
  each = each-push names name dictionary.each one;
  few = omega (arith, length-append names (name ∷ []));
}

-- a known name changes nothing, and a new one stands at the end
pub learned-known : (names : List (List ℕ)) (name : List ℕ) (id : ℕ) → number_of names name ≡ Some id → learned names name ≡ names
learned-known names name id known = rw known refl

pub learned-new : (names : List (List ℕ)) (name : List ℕ) → number_of names name ≡ None → learned names name ≡ names ++ name ∷ []
learned-new names name new = rw new refl

-- at most one name more
pub length-learned : (names : List (List ℕ)) (name : List ℕ) → length (learned names name) ≤ length names + 1
length-learned names name = cases (is_some (number_of names name))
  where
    cases : (known : Bool) → length (if known then names else names ++ name ∷ []) ≤ length names + 1
    cases true = omega arith
    cases false = omega (arith, length-append names (name ∷ []))

-- a name that was known has a number below the number of names, and a new one has that number
pub learned-number : (names new : List (List ℕ)) (name : List ℕ) (id : ℕ) → new ≡ learned names name → number_of new name ≡ Some id
    → (number_of names name ≡ None × (id ≡ length names)) ⊎ (number_of names name ≡ Some id × (id < length names))
learned-number names new name id after at = cases (number_of names name) refl
  where
    cases : (known : Option ℕ) → number_of names name ≡ known → (number_of names name ≡ None × (id ≡ length names)) ⊎ (number_of names name ≡ Some id × (id < length names))
    cases None none =
        let last : number_of new name ≡ Some (length names) = ap (λ others. number_of others name) (after ∙ learned-new names name none) ∙ number_of-push names name none in
        inl (none, same_Some id (length names) (sym at ∙ last))
    cases (Some n) some =
        let same : number_of names name ≡ Some id = ap (λ others. number_of others name) (sym (after ∙ learned-known names name n some)) ∙ at in
        inr (same, number_of-below names name id same)

-- a dictionary extends itself, and what it extends in turn
pub Extends-same : (names : List (List ℕ)) → Extends names names
Extends-same names = ([], sym (append-nil names))

pub Extends-trans : (newest newer older : List (List ℕ)) → Extends newest newer → Extends newer older → Extends newest older
Extends-trans newest newer older last first = (first.0 ++ last.0, last.1 ∙ ap (λ names. names ++ last.0) first.1 ∙ append_assoc older first.0 last.0)

-- what was learned extends what was there
pub Extends-learned : (names : List (List ℕ)) (name : List ℕ) → Extends (learned names name) names
Extends-learned names name = cases (is_some (number_of names name))
  where
    cases : (known : Bool) → Extends (if known then names else names ++ name ∷ []) names
    cases true = Extends-same names
    cases false = (name ∷ [], refl)

-- an extending dictionary gives each older name its older number
pub number_of-Extends : (newer older : List (List ℕ)) (name : List ℕ) (id : ℕ) → Extends newer older → number_of older name ≡ Some id → number_of newer name ≡ Some id
number_of-Extends newer older name id extends known = subst (λ names. number_of names name ≡ Some id) (sym extends.1) (number_of-append older extends.0 name id known)
