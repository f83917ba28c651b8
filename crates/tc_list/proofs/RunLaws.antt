-- A run and what stands before and behind it are the list, element by element.
use Rattle.std.proofs.Common.{◌≡◌, ◌∙◌, ◌<◌, ◌≤◌, ◌+◌, ◌-◌, List, ◌∷◌, ◌++◌, length, map, take, drop, sym, ap, arith}
use Rattle.std.proofs.lemmas.List.{take-append-drop, drop-drop, length-take-le, length-drop, map-append, take-map, drop-map}
use Rattle.tc_list.specs.declared.run.Run.{Run}
use Rattle.tc_list.specs.Runs.{in_run, swapped}

pub run_parts : {X : Type 0} (run : Run) (xs : List X) → run.first ≤ run.last → xs ≡ take run.first xs ++ (in_run run xs ++ drop (run.last + 1) xs)
run_parts run xs order =
    let n = run.last + 1 - run.first in
    let ends : run.first + n ≡ run.last + 1 = omega (arith, order) in
    sym (take-append-drop run.first xs)
    ∙ ap (λ ys. take run.first xs ++ ys) (sym (take-append-drop n (drop run.first xs)) ∙ ap (λ ys. in_run run xs ++ ys) (drop-drop n run.first xs ∙ ap (λ i. drop i xs) ends))

pub run_length : {X : Type 0} (run : Run) (xs : List X) → run.first ≤ run.last → run.last < length xs → length (in_run run xs) ≡ run.last + 1 - run.first
run_length run xs order within = length-take-le (run.last + 1 - run.first) (drop run.first xs) (omega (arith, length-drop run.first xs, order, within))

pub in_run-map : {A B : Type 0} (f : A → B) (run : Run) (xs : List A) → map f (in_run run xs) ≡ in_run run (map f xs)
in_run-map f run xs =
    let n = run.last + 1 - run.first in
    sym (take-map f n (drop run.first xs)) ∙ ap (take n) (sym (drop-map f run.first xs))

pub swapped-map : {A B : Type 0} (f : A → B) (run : Run) (x : A) (xs : List A) → map f (swapped run x xs) ≡ swapped run (f x) (map f xs)
swapped-map f run x xs =
    map-append f (take run.first xs) (x ∷ drop (run.last + 1) xs)
    ∙ ap (λ ys. ys ++ f x ∷ map f (drop (run.last + 1) xs)) (sym (take-map f run.first xs)) ∙ ap (λ ys. take run.first (map f xs) ++ f x ∷ ys) (sym (drop-map f (run.last + 1) xs))

-- a swap in the list that is seen by a function
pub put_is : {A B : Type 0} (f : A → B) (run : Run) (x : A) (items new : List A) (seen : List B) → new ≡ swapped run x items → map f items ≡ seen → map f new ≡ swapped run (f x) seen
put_is f run x items new seen put is = ap (map f) put ∙ swapped-map f run x items ∙ ap (swapped run (f x)) is
