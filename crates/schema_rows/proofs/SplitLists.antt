-- A list falls apart at an item, and is put together without it.
use Rattle.std.proofs.Common.{◌≡◌, ℕ, zero, suc, ◌<◌, List, [], ◌∷◌, ◌++◌, length, map, take, drop, get_or, refl, sym, ap, arith}
use Rattle.std.specs.List.{remove}

pub split_at : {X Y : Type 0} (f : X → Y) (xs : List X) (i : ℕ) (x : X) → i < length xs → x ≡ get_or xs i x → map f xs ≡ map f (take i xs) ++ f x ∷ map f (drop (suc i) xs)
split_at f [] i x inside is = absurd (omega arith)
split_at f (y ∷ xs) zero x inside is = ap (λ z. f z ∷ map f xs) (sym is)
split_at f (y ∷ xs) (suc i) x inside is = ap (λ zs. f y ∷ zs) (split_at f xs i x (omega arith) is)

pub removed_at : {X Y : Type 0} (f : X → Y) (xs : List X) (i : ℕ) → i < length xs → map f (remove xs i) ≡ map f (take i xs) ++ map f (drop (suc i) xs)
removed_at f [] i inside = absurd (omega arith)
removed_at f (y ∷ xs) zero inside = refl
removed_at f (y ∷ xs) (suc i) inside = ap (λ zs. f y ∷ zs) (removed_at f xs i (omega arith))
