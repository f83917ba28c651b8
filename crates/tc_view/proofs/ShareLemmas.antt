-- What lists of shares show.
use Rattle.std.proofs.Common.{◌≡◌, List, [], ◌∷◌, ◌++◌, flat_map, ap, sym, ◌∙◌, append_assoc, refl}
use Rattle.std.proofs.lemmas.List.{append-nil}
use Rattle.std.specs.List.{AllZip}

-- one more share at the end
pub flat_map-push : {A B : Type 0} (f : A → List B) (xs : List A) (x : A) → flat_map f (xs ++ x ∷ []) ≡ flat_map f xs ++ f x
flat_map-push f [] x = append-nil (f x)
flat_map-push f (y ∷ ys) x = ap (λ w. f y ++ w) (flat_map-push f ys x) ∙ sym (append_assoc (f y) (flat_map f ys) (f x))

-- clones show the same
pub flat_map-clones : {A B : Type 0} (f : A → List B) (Same : A → A → Type 0) → ((x y : A) → Same x y → f y ≡ f x) → (xs ys : List A) → AllZip Same xs ys → flat_map f ys ≡ flat_map f xs
flat_map-clones f Same same [] [] h = refl
flat_map-clones f Same same [] (y ∷ ys) h = absurd h
flat_map-clones f Same same (x ∷ xs) [] h = absurd h
flat_map-clones f Same same (x ∷ xs) (y ∷ ys) h = λ i. same x y h.0 i ++ flat_map-clones f Same same xs ys h.1 i
