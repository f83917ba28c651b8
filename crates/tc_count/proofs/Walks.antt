-- Lists as the loops see them: from a place on, and whether there is anything.
use Rattle.std.proofs.Common.{◌≡◌, ℕ, ◌+◌, ◌<◌, ◌==◌, Bool, true, false, List, [], ◌∷◌, length, get_or, map, drop, refl, sym, ap, ◌∙◌, arith}
use Rattle.std.proofs.lemmas.Bool.{false≢true}
use Rattle.std.proofs.lemmas.Bool.Decides.{Decides-eqb}
use Rattle.std.proofs.lemmas.List.{drop_more, nil_from_length}

-- the one there, and the rest
pub map_from : {A B : Type 0} (f : A → B) (xs : List A) (i : ℕ) (x : A) → i < length xs → x ≡ get_or xs i x → map f (drop i xs) ≡ f x ∷ map f (drop (i + 1) xs)
map_from f xs i x inside is = ap (map f) (drop_more xs i x inside ∙ ap (λ y. y ∷ drop (i + 1) xs) (sym is))

-- a list that was found empty, and one that was not
pub none_there : {A : Type 0} (xs : List A) (empty : Bool) → empty ≡ (length xs == 0) → empty ≡ true → xs ≡ []
none_there xs empty is holds = nil_from_length xs ((Decides-eqb (length xs) 0).0 (sym is ∙ holds))

pub some_there : {A : Type 0} (xs : List A) (empty : Bool) → empty ≡ (length xs == 0) → empty ≡ false → 0 < length xs
some_there [] empty is fails = absurd (false≢true (sym fails ∙ is ∙ (Decides-eqb 0 0).1 refl))
some_there (x ∷ xs) empty is fails = omega arith
