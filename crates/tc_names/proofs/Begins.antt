-- Whether texts begin with others, text by text.
use Rattle.std.proofs.Common.{◌≡◌, ◌<◌, ℕ, zero, suc, List, [], ◌∷◌, ◌++◌, length, slice_get, refl, ap, ◌∙◌, arith}
use Rattle.std.proofs.lemmas.Option.{same_Some}
use Rattle.tc_model.specs.Dictionary.{Extends}

-- texts that have each older one at its place begin with them
pub extends-from : (newer older : List (List ℕ)) → ((i : ℕ) → i < length older → slice_get newer i ≡ slice_get older i) → Extends newer older
extends-from newer [] same = (newer, refl)
extends-from [] (o ∷ older) same = let first = same 0 (omega arith) in cc
extends-from (n ∷ newer) (o ∷ older) same =
    let first : n ≡ o = same_Some n o (same 0 (omega arith)) in
    let rest = extends-from newer older (λ i below. same (suc i) (omega (arith, below))) in
    (rest.0, ap (λ x. x ∷ newer) first ∙ ap (λ xs. o ∷ xs) rest.1)

-- and those that begin with them have
pub extends-at : (newer older : List (List ℕ)) (i : ℕ) → Extends newer older → i < length older → slice_get newer i ≡ slice_get older i
extends-at newer older i extends below = ap (λ texts. slice_get texts i) extends.1 ∙ front older i below
  where
    front : (older : List (List ℕ)) (i : ℕ) → i < length older → slice_get (older ++ extends.0) i ≡ slice_get older i
    front [] i below = absurd (omega (arith, below))
    front (o ∷ older) zero below = refl
    front (o ∷ older) (suc i) below = front older i (omega (arith, below))
