-- Intervals that follow each other still do where a component is added or put in place of a run.
use Rattle.std.proofs.Common.{◌≡◌, ◌∙◌, ◌<◌, ◌≤◌, ◌+◌, ℕ, List, [], ◌∷◌, ◌++◌, length, map, take, drop, sym, ap, subst, arith}
use Rattle.std.proofs.lemmas.List.{map-append}
use Rattle.tc_component.specs.Loading.{ComponentState}
use Rattle.tc_list.specs.declared.run.Run.{Run}
use Rattle.tc_list.specs.Intervals.{first_of, last_after, last_of, Follow}
use Rattle.tc_list.specs.Runs.{in_run, swapped}
use Rattle.tc_list.proofs.RunLaws.{run_parts, run_length, put_is}

Follow-push : {F : Type 0} (g : ℕ) (cs : List (ComponentState F)) (c : ComponentState F) → Follow g cs → c.index.head.from ≡ last_after g cs + 1 → Follow g (cs ++ c ∷ [])
Follow-push g [] c follow is = (is, tt)
Follow-push g (first ∷ cs) c follow is = (follow.0, Follow-push first.index.head.to cs c follow.1 is)

Follow-back : {F : Type 0} (g : ℕ) (xs ys : List (ComponentState F)) → Follow g (xs ++ ys) → Follow (last_after g xs) ys
Follow-back g [] ys follow = follow
Follow-back g (x ∷ xs) ys follow = Follow-back x.index.head.to xs ys follow.1

Follow-merged : {F : Type 0} (g : ℕ) (older run newer : List (ComponentState F)) (c : ComponentState F) → Follow g (older ++ (run ++ newer)) → 0 < length run
    → c.index.head.from ≡ first_of run → c.index.head.to ≡ last_of run → Follow g (older ++ c ∷ newer)
Follow-merged g [] [] newer c follow some from to = absurd (omega (arith, some))
Follow-merged g [] (r ∷ run) newer c follow some from to =
    (subst (λ n. n ≡ g + 1) (sym from) follow.0, subst (λ n. Follow n newer) (sym to) (Follow-back r.index.head.to run newer follow.1))
Follow-merged g (x ∷ older) run newer c follow some from to = (follow.0, Follow-merged x.index.head.to older run newer c follow.1 some from to)

Follow-swapped : {F : Type 0} (run : Run) (cs : List (ComponentState F)) (c : ComponentState F) → run.first ≤ run.last → run.last < length cs → Follow 0 cs
    → c.index.head.from ≡ first_of (in_run run cs) → c.index.head.to ≡ last_of (in_run run cs) → Follow 0 (swapped run c cs)
Follow-swapped run cs c order within follow from to =
    Follow-merged 0 (take run.first cs) (in_run run cs) (drop (run.last + 1) cs) c (subst (Follow 0) (run_parts run cs order) follow)
    (omega (arith, run_length run cs order within, order)) from to

-- ---- lists that are seen by a function

pub pushed_follow : {A F : Type 0} (f : A → ComponentState F) (items new : List A) (x : A) (seen : List (ComponentState F)) → new ≡ items ++ x ∷ [] → map f items ≡ seen
    → Follow 0 (map f items) → (f x).index.head.from ≡ last_of seen + 1 → Follow 0 (map f new)
pushed_follow f items new x seen pushed is follow from =
    subst (Follow 0) (sym (ap (map f) pushed ∙ map-append f items (x ∷ []))) (Follow-push 0 (map f items) (f x) follow (from ∙ ap (λ cs. last_of cs + 1) (sym is)))

pub put_follow : {A F : Type 0} (f : A → ComponentState F) (run : Run) (x : A) (items new : List A) (seen : List (ComponentState F)) → new ≡ swapped run x items → map f items ≡ seen
    → Follow 0 (map f items) → run.first ≤ run.last → run.last < length seen → (f x).index.head.from ≡ first_of (in_run run seen) → (f x).index.head.to ≡ last_of (in_run run seen) → Follow 0 (map f new)
put_follow f run x items new seen put is follow order within from to =
    subst (Follow 0) (sym (put_is f run x items new seen put is)) (Follow-swapped run seen (f x) order within (subst (Follow 0) is follow) from to)
