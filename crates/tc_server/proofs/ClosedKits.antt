-- What is left of an engine that is closed, and of the kits of all.
use Rattle.std.proofs.Common.{ℕ, List, [], ◌∷◌, ◌++◌, All, Option, Some, None, append-nil, map, subst, sym}
use Rattle.std.specs.Prelude.{option_to_list, IfSome}
use Rattle.std.proofs.lemmas.List.Elements.{All-append, All-cons, All-map, All-nil}
use Rattle.tc_keeper.specs.Places.{AtEach}
use Rattle.tc_keeper.proofs.EachLaws.{right_all}
use Rattle.tc_store.specs.Moments.{IfTold}

pub told_both : {X : Type 0} (P Q : X → Type 0) (xs : List X) → IfTold xs P → IfTold xs Q → IfTold xs (λ x. P x × Q x)
told_both P Q [] p q = tt
told_both P Q (x ∷ xs) p q = (p, q)

-- what holds of the kit of each engine that was closed holds of all, and then of that of a partition that was not opened
pub kits_closed : {E F K : Type 0} (R : ℕ → E → F → Type 0) (P : K → Type 0) (kit : F → K) (engines : List E) (ended : List F) → ((p : ℕ) (e : E) (f : F) → R p e f → P (kit f)) → AtEach R 0 engines ended → All P (map kit ended)
kits_closed R P kit engines ended so closed = All-map P kit ended (right_all R (λ f. P (kit f)) 0 engines ended so closed)

pub kits_all : {K : Type 0} (P : K → Type 0) (kits : List K) (last : Option K) → All P kits → IfSome last P → All P (kits ++ option_to_list last)
kits_all P kits None all is = subst (All P) (sym (append-nil kits)) all
kits_all P kits (Some kit) all is = All-append P kits (kit ∷ []) all (All-cons P kit [] is (All-nil P))
