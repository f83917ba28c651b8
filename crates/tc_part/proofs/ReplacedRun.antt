-- What holds of a list holds once a component stands in place of a run.
use Rattle.std.proofs.Common.{◌≡◌, ◌∙◌, ◌<◌, ◌≤◌, ◌+◌, ◌-◌, ◌++◌, ℕ, zero, suc, Bool, true, false, List, [], ◌∷◌, Option, None, Some, is_some, length, option_map, take, drop, slice_get, refl, sym, ap, subst, arith}
use Rattle.std.specs.Prelude.{Result, Ok, Err, OnOk, OnErr, All, IfSome}
use Rattle.std.proofs.lemmas.List.{drop-append-le, length-drop, take-append-le}
use Rattle.std.proofs.lemmas.List.Elements.{All-append, All-cons, All-drop, All-take}
use Rattle.tc_model.specs.Dictionary.{Extends}
use Rattle.tc_model.specs.Document.{Name}
use Rattle.tc_component.specs.declared.head.Head.{Head}
use Rattle.tc_component.specs.Loading.{ComponentState}
use Rattle.tc_component.specs.Spelling.{name_of}
use Rattle.tc_list.specs.declared.run.Run.{Run}
use Rattle.tc_list.specs.Intervals.{first_of, last_after, last_of}
use Rattle.tc_list.specs.Runs.{in_run, neighbours, swapped}
use Rattle.tc_list.proofs.RunLaws.{run_length, run_parts}
use Rattle.tc_jobs.specs.Listing.{IsListed}
use Rattle.tc_jobs.specs.Lists.{FirstExtends, IsListOf}
use Rattle.tc_merge.specs.Merging.{newest_names}
use Rattle.tc_part.specs.JobHeads.{merged_head}
use Rattle.tc_part.specs.MergeEnds.{AreBetween, positions}
use Rattle.tc_part.specs.Ready.{LiesIn, active_generation}

pub all_replaced : {X : Type 0} (P : X → Type 0) (run : Run) (x : X) (xs : List X) → All P xs → P x → All P (swapped run x xs)
all_replaced P run x xs all one =
    All-append P (take run.first xs) (x ∷ drop (run.last + 1) xs) (All-take P run.first xs all) (All-cons P x (drop (run.last + 1) xs) one (All-drop P (run.last + 1) xs all))

-- ---- the last generation

last_appended : {F : Type 0} (g : ℕ) (xs ys : List (ComponentState F)) → last_after g (xs ++ ys) ≡ last_after (last_after g xs) ys
last_appended g [] ys = refl
last_appended g (x ∷ xs) ys = last_appended x.index.head.to xs ys

last_anyhow : {F : Type 0} (g h : ℕ) (xs : List (ComponentState F)) → 0 < length xs → last_after g xs ≡ last_after h xs
last_anyhow g h [] some = absurd (omega (arith, some))
last_anyhow g h (x ∷ xs) some = refl

pub last_replaced : {F : Type 0} (run : Run) (cs : List (ComponentState F)) (m : ComponentState F) → LiesIn cs run → m.index.head.to ≡ last_of (in_run run cs) → last_of (swapped run m cs) ≡ last_of cs
last_replaced run cs m (several, within) to =
    let order : run.first ≤ run.last = omega (arith, several) in
    let older = take run.first cs in
    let inner = in_run run cs in
    let newer = drop (run.last + 1) cs in
    last_appended 0 older (m ∷ newer)
    ∙ ap (λ g. last_after g newer) (to ∙ last_anyhow 0 (last_after 0 older) inner (omega (arith, run_length run cs order within, order)))
    ∙ sym (last_appended (last_after 0 older) inner newer) ∙ sym (last_appended 0 older (inner ++ newer)) ∙ ap last_of (sym (run_parts run cs order))

-- ---- the positions of a run

pub positions_back : (run : Run) → run.first < run.last → positions (Some (neighbours run)) ≡ run
positions_back run order = ap (λ (n : ℕ). record { first = run.first; last = n }) (omega (arith, order))

-- ---- a run of a list that grows

pub run_kept : {X : Type 0} (run : Run) (xs ys : List X) → run.first < run.last → run.last < length xs → in_run run (xs ++ ys) ≡ in_run run xs
run_kept run xs ys several within =
    let n = run.last + 1 - run.first in
    ap (take n) (drop-append-le run.first xs ys (omega (arith, several, within))) ∙ take-append-le n (drop run.first xs) ys (omega (arith, length-drop run.first xs, several, within))

pub named_still : {F : Type 0} (number count : ℕ) (o : Option Run) (cs : List (ComponentState F)) (m : ComponentState F) → IfSome o (LiesIn cs) → is_some (option_map neighbours o) ≡ true
    → name_of (merged_head number count (positions (option_map neighbours o)) (cs ++ m ∷ [])) ≡ name_of (merged_head number count (positions (option_map neighbours o)) cs)
named_still number count None cs m lies out = absurd (cc)
named_still number count (Some run) cs m (several, within) out =
    subst (λ (r : Run). name_of (merged_head number count r (cs ++ m ∷ [])) ≡ name_of (merged_head number count r cs)) (sym (positions_back run several))
    (ap (λ (inner : List (ComponentState _)). name_of (record { number = number; count = count; from = first_of inner; to = last_of inner })) (run_kept run cs (m ∷ []) several within))

-- ---- names

behind_front : {F : Type 0} (names before : List Name) (n : ℕ) (cs : List (ComponentState F)) → n ≤ length cs → (n ≡ 0 → Extends names before)
    → ((at : ℕ) (older : ComponentState F) → slice_get cs at ≡ Some older → at + 1 ≡ n → Extends names older.index.names) → Extends names (newest_names before (take n cs))
behind_front names before zero cs within first each = first refl
behind_front names before (suc n) [] within first each = absurd (omega (arith, within))
behind_front names before (suc n) (c ∷ cs) within first each =
    behind_front names c.index.names n cs (omega (arith, within)) (λ none. each 0 c refl (omega (arith, none))) (λ at older here next. each (suc at) older here (omega (arith, next)))

before_back : {F : Type 0} (names : List Name) (n : ℕ) (cs : List (ComponentState F)) → ((newer : ComponentState F) → slice_get cs n ≡ Some newer → Extends newer.index.names names) → FirstExtends names (drop n cs)
before_back names zero [] each = tt
before_back names zero (c ∷ cs) each = each c refl
before_back names (suc n) [] each = tt
before_back names (suc n) (c ∷ cs) each = before_back names n cs each

pub between_neighbours : {F : Type 0} (names : List Name) (run : Run) (cs : List (ComponentState F)) → LiesIn cs run
    → ((at : ℕ) (older : ComponentState F) → slice_get cs at ≡ Some older → at + 1 ≡ run.first → Extends names older.index.names)
    → ((newer : ComponentState F) → slice_get cs (run.last + 1) ≡ Some newer → Extends newer.index.names names) → AreBetween names run cs
between_neighbours names run cs (several, within) older newer = (
  behind_front names [] run.first cs (omega (arith, several, within)) (λ none. (names, refl)) older,
  before_back names (run.last + 1) cs newer,
)

-- ---- a list in which a component is listed, or which is as it was

pub listed_or_not : {X E F : Type 0} (r : Result X E) (Made Fits : ComponentState F → Type 0) (put : ComponentState F → List (ComponentState F)) (old new : List (ComponentState F)) (Q : List (ComponentState F) → Type 0)
    → OnErr r (new ≡ old) → OnOk r (IsListed Made Fits put new) → Q old → ((m : ComponentState F) → Made m → Q (put m)) → Q new
listed_or_not (Ok x) Made Fits put old new Q same listed q go = subst Q (sym listed.listed) (go listed.component listed.made)
listed_or_not (Err e) Made Fits put old new Q same listed q go = subst Q (sym same) q

pub of_partition : {X E F : Type 0} (r : Result X E) (head : Head) (number count : ℕ) (old new : List (ComponentState F)) → OnErr r (new ≡ old)
    → OnOk r ((n m : ℕ) → head.number ≡ n → head.count ≡ m → IsListOf n m old → IsListOf n m new) → head.number ≡ number → head.count ≡ count → IsListOf number count old → IsListOf number count new
of_partition (Ok x) head number count old new same goes of_number of_count list = goes number count of_number of_count list
of_partition (Err e) head number count old new same goes of_number of_count list = subst (IsListOf number count) (sym same) list

pub generation_like : {F : Type 0} (old new : List (ComponentState F)) (sealed : Bool) → last_of new ≡ last_of old → active_generation old sealed ≡ active_generation new sealed
generation_like old new true last = ap (λ n. n + 2) (sym last)
generation_like old new false last = ap (λ n. n + 1) (sym last)

pub run_gone : {F : Type 0} (o : Option Run) (cs : List (ComponentState F)) → option_map neighbours o ≡ None → IfSome o (LiesIn cs)
run_gone None cs none = tt
run_gone (Some run) cs none = absurd (cc)
