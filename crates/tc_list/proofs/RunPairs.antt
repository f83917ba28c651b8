-- Two lists that agree element by element do so in a run, and once both have a run replaced.
use Rattle.std.proofs.Common.{◌≡◌, ◌≤◌, ◌+◌, ◌-◌, ℕ, zero, suc, List, [], ◌∷◌, ◌++◌, take, drop, subst, arith}
use Rattle.std.specs.List.{AllZip}
use Rattle.std.proofs.lemmas.List.{drop-drop}
use Rattle.tc_lsm_model.specs.Contents.{Content}
use Rattle.tc_lsm_model.specs.Merges.{in_run as contents_in_run, swapped as contents_swapped}
use Rattle.tc_list.specs.declared.run.Run.{Run}
use Rattle.tc_list.specs.Runs.{in_run, swapped, neighbours}

AllZip-take : {A B : Type 0} (R : A → B → Type 0) (n : ℕ) (xs : List A) (ys : List B) → AllZip R xs ys → AllZip R (take n xs) (take n ys)
AllZip-take R zero xs ys all = tt
AllZip-take R (suc n) [] [] all = tt
AllZip-take R (suc n) [] (y ∷ ys) all = absurd all
AllZip-take R (suc n) (x ∷ xs) [] all = absurd all
AllZip-take R (suc n) (x ∷ xs) (y ∷ ys) all = (all.0, AllZip-take R n xs ys all.1)

AllZip-drop : {A B : Type 0} (R : A → B → Type 0) (n : ℕ) (xs : List A) (ys : List B) → AllZip R xs ys → AllZip R (drop n xs) (drop n ys)
AllZip-drop R zero xs ys all = all
AllZip-drop R (suc n) [] [] all = tt
AllZip-drop R (suc n) [] (y ∷ ys) all = absurd all
AllZip-drop R (suc n) (x ∷ xs) [] all = absurd all
AllZip-drop R (suc n) (x ∷ xs) (y ∷ ys) all = AllZip-drop R n xs ys all.1

AllZip-append : {A B : Type 0} (R : A → B → Type 0) (xs more : List A) (ys others : List B) → AllZip R xs ys → AllZip R more others → AllZip R (xs ++ more) (ys ++ others)
AllZip-append R [] more [] others all rest = rest
AllZip-append R [] more (y ∷ ys) others all rest = absurd all
AllZip-append R (x ∷ xs) more [] others all rest = absurd all
AllZip-append R (x ∷ xs) more (y ∷ ys) others all rest = (all.0, AllZip-append R xs more ys others all.1 rest)

pub AllZip-in_run : {A : Type 0} (R : A → Content → Type 0) (run : Run) (xs : List A) (cs : List Content) → AllZip R xs cs → AllZip R (in_run run xs) (contents_in_run (neighbours run) cs)
AllZip-in_run R run xs cs all = AllZip-take R (run.last + 1 - run.first) (drop run.first xs) (drop run.first cs) (AllZip-drop R run.first xs cs all)

pub AllZip-swapped : {A : Type 0} (R : A → Content → Type 0) (run : Run) (xs : List A) (cs : List Content) (x : A) (c : Content) → run.first ≤ run.last → AllZip R xs cs → R x c
    → AllZip R (swapped run x xs) (contents_swapped (neighbours run) c cs)
AllZip-swapped R run xs cs x c order all one =
    let n = run.last + 1 - run.first in
    let ends : run.first + n ≡ run.last + 1 = omega (arith, order) in
    let behind = subst (λ i. AllZip R (drop i xs) (drop n (drop run.first cs))) ends (subst (λ ys. AllZip R ys (drop n (drop run.first cs))) (drop-drop n run.first xs)
    (AllZip-drop R n (drop run.first xs) (drop run.first cs) (AllZip-drop R run.first xs cs all))) in
    AllZip-append R (take run.first xs) (x ∷ drop (run.last + 1) xs) (take run.first cs) (c ∷ drop n (drop run.first cs)) (AllZip-take R run.first xs cs all) (one, behind)
