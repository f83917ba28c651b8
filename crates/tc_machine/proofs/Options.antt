-- What holds of what is there, where something is, and of the elements of a list together.
use Rattle.std.proofs.Common.{◌≡◌, List, [], ◌∷◌, ◌++◌, refl, Option, Some, None}
use Rattle.std.specs.Prelude.{All, IfSome}
use Rattle.std.proofs.lemmas.List.Elements.{All-nil, All-cons, All-head, All-tail}

pub if_some_map : {A : Type 0} (P Q : A → Type 0) (o : Option A) → ((a : A) → o ≡ Some a → P a → Q a) → IfSome o P → IfSome o Q
if_some_map P Q None go p = tt
if_some_map P Q (Some a) go p = go a refl p

pub if_some_from : {A : Type 0} (P : A → Type 0) (o : Option A) → ((a : A) → o ≡ Some a → P a) → IfSome o P
if_some_from P None go = tt
if_some_from P (Some a) go = go a refl

pub All-both : {X : Type 0} (P Q R : X → Type 0) (xs : List X) → ((x : X) → P x → Q x → R x) → All P xs → All Q xs → All R xs
All-both P Q R [] go p q = All-nil R
All-both P Q R (x ∷ xs) go p q = All-cons R x xs (go x (All-head P x xs p) (All-head Q x xs q)) (All-both P Q R xs go (All-tail P x xs p) (All-tail Q x xs q))

pub All-front : {X : Type 0} (P : X → Type 0) (xs ys : List X) → All P (xs ++ ys) → All P xs
All-front P [] ys all = All-nil P
All-front P (x ∷ xs) ys all = All-cons P x xs (All-head P x (xs ++ ys) all) (All-front P xs ys (All-tail P x (xs ++ ys) all))

pub All-back : {X : Type 0} (P : X → Type 0) (xs ys : List X) → All P (xs ++ ys) → All P ys
All-back P [] ys all = all
All-back P (x ∷ xs) ys all = All-back P xs ys (All-tail P x (xs ++ ys) all)
