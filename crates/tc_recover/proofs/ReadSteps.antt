-- What is read of the files, step by step, is what is judged of all of them.
use Rattle.std.proofs.Common.{◌≡◌, ◌∙◌, ◌+◌, ℕ, zero, suc, Bool, List, [], ◌∷◌, ◌++◌, map, refl, sym, subst, ap, inl, inr, arith}
use Rattle.std.specs.Prelude.{◌&&◌, false, true, if◌then◌else◌, Option, None, unwrap_or, All, IsSome, IfSome, IfErr, Result, Ok, Err}
use Rattle.std.proofs.lemmas.List.Elements.{All-cons}
use Rattle.tc_bytes.specs.Counts.{next_count}
use Rattle.tc_lsm_model.specs.Contents.{Partition}
use Rattle.tc_store.specs.declared.file_name.FileName.{FileName}
use Rattle.tc_store.specs.declared.damage.Damage.TheVariants.{Bytes, Files}
use Rattle.tc_store.specs.Disk.{Picture}
use Rattle.tc_store.specs.Gate.{is_open_file}
use Rattle.tc_store.specs.Judging as judging
use Rattle.tc_component.specs.Loading.{ComponentState}
use Rattle.tc_component.specs.Spelling.{Index}
use Rattle.tc_log.specs.declared.head.LogHead.{LogHead}
use Rattle.tc_log.specs.declared.write.Write.{Write}
use Rattle.tc_log.specs.Reading.{log_judged}
use Rattle.tc_recover.specs.declared.cause.FilesCause.{FilesCause}
use Rattle.tc_recover.specs.declared.cause.FilesCause.TheVariants.{Disk, Damaged, Layout, Memory}
use Rattle.tc_recover.specs.declared.interval.Interval.{Interval}
use Rattle.tc_recover.specs.declared.taken.Taken.{Taken}
use Rattle.tc_recover.specs.Files.{picture_in, AreTold, AreGates}
use Rattle.tc_list.specs.Intervals.{last_after}
use Rattle.tc_recover.specs.Loading.{components_judged, interval_of, is_file_of, left_of, then_judged, tile_name}
use Rattle.tc_recover.specs.Loads.{Answers, file_then, is_above, logs_judged}
use Rattle.tc_recover.specs.Opening.{AnswersBy, Found, IsReadCause, OpeningJudged, open_in, tiles_judged}
use Rattle.tc_recover.specs.Reads.{count_after}
use Rattle.tc_recover.specs.Refusals.{Refusal, Refuses, breaks, clashes, heads_refused, strays}
use Rattle.tc_recover.specs.Sorting.{GoTogether, IsClash, open_names}
use Rattle.tc_recover.specs.Tilings.{end_of}
use Rattle.tc_recover.proofs.HeadSteps.{count_moves, gate_first, gates_behind, told_first, told_behind, told_holds}
use Rattle.tc_recover.proofs.LoadSteps.{called_so}

-- ---- the files that are left

and_false : (b : Bool) → b && false ≡ false
and_false true = refl
and_false false = refl

step_same : (last : ℕ) (before : List (List Write)) (file : FileName × List ℕ) (xs ys : Picture) → ((done : List (List Write)) → logs_judged last done xs ≡ logs_judged last done ys) → logs_judged last before (file ∷ xs) ≡ logs_judged last before (file ∷ ys)
step_same last before file xs ys same = both (is_open_file file.1 && is_above last file.0)
  where
    thens : (judged : Result (LogHead × List Write) judging.Damage)
        → file_then file.0 judged (λ read. logs_judged last (before ++ read.1 ∷ []) xs) ≡ file_then file.0 judged (λ read. logs_judged last (before ++ read.1 ∷ []) ys)
    thens (Ok read) = same (before ++ read.1 ∷ [])
    thens (Err d) = refl

    both : (yes : Bool) → (if yes then file_then file.0 (log_judged file.1) (λ read. logs_judged last (before ++ read.1 ∷ []) xs) else logs_judged last before xs)
        ≡ (if yes then file_then file.0 (log_judged file.1) (λ read. logs_judged last (before ++ read.1 ∷ []) ys) else logs_judged last before ys)
    both true = thens (log_judged file.1)
    both false = same before

-- the files of tiles are no logs
pub logs_left : {F W : Type 0} (tells : F → Option (List ℕ)) (last : ℕ) (tiles : List Interval) (ts : List (Taken F W)) (before : List (List Write)) → logs_judged last before (picture_in tells (left_of tiles ts)) ≡ logs_judged last before (picture_in tells ts)
logs_left tells last tiles [] before = refl
logs_left tells last [] (t ∷ ts) before = refl
logs_left {F = F} {W = W} tells last (tile ∷ tiles) (t ∷ ts) before = cases (is_file_of tile t) refl (logs_left tells last tiles ts before) (logs_left tells last (tile ∷ tiles) ts)
  where
    component : (name : FileName) → tile_name tile ≡ name → is_above last name ≡ false
    component name is = subst (λ n. is_above last n ≡ false) is refl

    cases : (is : Bool) → is_file_of tile t ≡ is → logs_judged last before (picture_in tells (left_of tiles ts)) ≡ logs_judged last before (picture_in tells ts)
        → ((done : List (List Write)) → logs_judged last done (picture_in tells (left_of (tile ∷ tiles) ts)) ≡ logs_judged last done (picture_in tells ts))
        → logs_judged last before (picture_in tells (left_of (tile ∷ tiles) (t ∷ ts))) ≡ logs_judged last before (picture_in tells (t ∷ ts))
    cases true is here later =
        let not = component t.name (called_so tile t is) in
        rw (is, not, and_false (is_open_file (unwrap_or (tells t.file) []))) here
    cases false is here later = rw is (step_same last before (t.name, unwrap_or (tells t.file) []) (picture_in tells (left_of (tile ∷ tiles) ts)) (picture_in tells ts) later)

pub left_all : {F W : Type 0} (P : Taken F W → Type 0) (tiles : List Interval) (ts : List (Taken F W)) → All P ts → All P (left_of tiles ts)
left_all P tiles [] all = all
left_all P [] (t ∷ ts) all = all
left_all {F = F} {W = W} P (tile ∷ tiles) (t ∷ ts) all = cases (is_file_of tile t) refl (left_all P tiles ts (λ k d low. all (suc k) d (omega (arith, low)))) (left_all P (tile ∷ tiles) ts (λ k d low. all (suc k) d (omega (arith, low))))
  where
    cases : (is : Bool) → is_file_of tile t ≡ is → All P (left_of tiles ts) → All P (left_of (tile ∷ tiles) ts) → All P (left_of (tile ∷ tiles) (t ∷ ts))
    cases true is here later = rw is here
    cases false is here later = rw is (All-cons P t (left_of (tile ∷ tiles) ts) (all 0 t (omega arith)) later)

pub gates_left : {F W : Type 0} (tells : F → Option (List ℕ)) (tiles : List Interval) (ts : List (Taken F W)) → AreGates tells ts → AreGates tells (left_of tiles ts)
gates_left tells tiles ts gates = left_all (λ t. IfSome (tells t.file) (λ bytes. t.open ≡ is_open_file bytes)) tiles ts gates

pub told_left : {F W : Type 0} (tells : F → Option (List ℕ)) (tiles : List Interval) (ts : List (Taken F W)) → AreTold tells ts → AreTold tells (left_of tiles ts)
told_left tells tiles ts told = left_all (λ t. IsSome (tells t.file)) tiles ts told

-- ---- the open files

pub open_same : {F W : Type 0} (tells : F → Option (List ℕ)) (ts : List (Taken F W)) → AreGates tells ts → AreTold tells ts → open_in (picture_in tells ts) ≡ open_names ts
open_same tells [] gates told = refl
open_same {F = F} {W = W} tells (t ∷ ts) gates told = cases t.open refl (open_same tells ts (gates_behind tells t ts gates) (told_behind tells t ts told))
  where
    gate : t.open ≡ is_open_file (unwrap_or (tells t.file) [])
    gate = told_holds (λ bytes. t.open ≡ is_open_file bytes) (tells t.file) (told_first tells t ts told) (gate_first tells t ts gates)

    cases : (is : Bool) → t.open ≡ is → open_in (picture_in tells ts) ≡ open_names ts → open_in (picture_in tells (t ∷ ts)) ≡ open_names (t ∷ ts)
    cases true is rest = rw (sym gate ∙ is, is) (ap (λ names. t.name ∷ names) rest)
    cases false is rest = rw (sym gate ∙ is, is) rest

-- ---- answers

pub head_answers : (X Y : Type 0) (view : Y → Found) (part : Partition) (picture : Picture) (cause : FilesCause) → Refuses {X = X} (Err cause) (heads_refused part picture) → AnswersBy {X = Y} view (Err cause) (OpeningJudged part picture)
head_answers X Y view part picture Disk is = tt
head_answers X Y view part picture Memory is = tt
head_answers X Y view part picture (Damaged (Bytes file place bytes)) is = rw is refl
head_answers X Y view part picture (Damaged (Files names)) is = rw is refl
head_answers X Y view part picture (Layout found found_of) is = rw is refl

pub clash_answers : (Y : Type 0) (view : Y → Found) (part : Partition) (picture : Picture) (names : List FileName) (cause : FilesCause) → heads_refused part picture ≡ None → open_in picture ≡ names → IsClash names cause
    → AnswersBy {X = Y} view (Err cause) (OpeningJudged part picture)
clash_answers Y view part picture names Disk passed are clash = tt
clash_answers Y view part picture names Memory passed are clash = tt
clash_answers Y view part picture names (Damaged (Bytes file place bytes)) passed are clash = absurd clash
clash_answers Y view part picture names (Damaged (Files kept)) passed are clash =
    let same : kept ≡ open_in picture = clash.0 ∙ sym are in
    rw passed (inr ((λ tiles together. clash.1 tiles (subst (λ ns. GoTogether ns tiles) are together)), rw same refl))
clash_answers Y view part picture names (Layout found found_of) passed are clash = absurd clash

pub load_answers : (X Y A : Type 0) (loaded : X → A) (view : Y → Found) (part : Partition) (picture : Picture) (tiles : List Interval) (judged : Result A Refusal) (next : A → Result Found Refusal) (cause : FilesCause) → heads_refused part picture ≡ None
    → GoTogether (open_in picture) tiles → tiles_judged part picture tiles ≡ then_judged judged next → Answers {X = X} loaded (Err cause) judged → AnswersBy {X = Y} view (Err cause) (OpeningJudged part picture)
load_answers X Y A loaded view part picture tiles judged next Disk passed together means is = tt
load_answers X Y A loaded view part picture tiles judged next Memory passed together means is = tt
load_answers X Y A loaded view part picture tiles judged next (Damaged (Bytes file place bytes)) passed together means is = rw passed (inl (tiles, together, sym (means ∙ ap (λ r. then_judged r next) is)))
load_answers X Y A loaded view part picture tiles judged next (Damaged (Files names)) passed together means is = rw passed (inl (tiles, together, sym (means ∙ ap (λ r. then_judged r next) is)))
load_answers X Y A loaded view part picture tiles judged next (Layout found found_of) passed together means is = rw passed (inl (tiles, together, sym (means ∙ ap (λ r. then_judged r next) is)))

pub all_answers : (part : Partition) (picture : Picture) (tiles : List Interval) (cs : List Index) (logs : List (List Write)) → heads_refused part picture ≡ None → GoTogether (open_in picture) tiles → components_judged part picture tiles [] [] ≡ Ok cs
    → logs_judged (end_of 0 tiles) [] picture ≡ Ok logs → OpeningJudged part picture (Ok (record { components = cs; logs = logs }))
all_answers part picture tiles cs logs passed together loaded read = rw passed (inl (tiles, together, rw (loaded, read) refl))

pub logs_next : (part : Partition) (picture : Picture) (tiles : List Interval) (cs : List Index) → components_judged part picture tiles [] [] ≡ Ok cs
    → tiles_judged part picture tiles ≡ then_judged (logs_judged (end_of 0 tiles) [] picture) (λ logs. Ok (record { components = cs; logs = logs }))
logs_next part picture tiles cs loaded = rw loaded refl

-- ---- results

-- the same cause, whatever would be answered without it
pub as_indexes : {X : Type 0} (cause : FilesCause) (view : X → List Index) (judged : Result (List Index) Refusal) → Answers {X = X} view (Err cause) judged → Answers {X = List Index} (λ cs. cs) (Err cause) judged
as_indexes Disk view judged is = tt
as_indexes Memory view judged is = tt
as_indexes (Damaged (Bytes file place bytes)) view judged is = is
as_indexes (Damaged (Files names)) view judged is = is
as_indexes (Layout found found_of) view judged is = is

pub judged_result : {T : Type 0} (view : T → Found) (result : Result T FilesCause) (x e : FilesCause) (P : Result Found Refusal → Type 0) → result ≡ Err x → x ≡ e → AnswersBy {X = T} view (Err e) P → AnswersBy view result P
judged_result view result x e P is same answers = subst (λ r. AnswersBy view r P) (sym (is ∙ ap Err same)) answers

-- what is answered of one thing is answered of another that follows from it
pub answers_follow : {T : Type 0} (view : T → Found) (result : Result T FilesCause) (P Q : Result Found Refusal → Type 0) → ((r : Result Found Refusal) → P r → Q r) → AnswersBy view result P → AnswersBy view result Q
answers_follow view (Ok x) P Q follows is = follows (Ok (view x)) is
answers_follow view (Err Disk) P Q follows is = tt
answers_follow view (Err Memory) P Q follows is = tt
answers_follow view (Err (Damaged (Bytes file place bytes))) P Q follows is = follows (Err (breaks file (judging.damage place bytes))) is
answers_follow view (Err (Damaged (Files names))) P Q follows is = follows (Err (clashes names)) is
answers_follow view (Err (Layout found found_of)) P Q follows is = follows (Err (strays found found_of)) is

pub read_caused : {T F W : Type 0} (size : F → ℕ) (part : Partition) (files : List (Taken F W)) (result : Result T FilesCause) (x e : FilesCause) → result ≡ Err x → x ≡ e → IsReadCause size part files e → IfErr result (IsReadCause size part files)
read_caused size part files result x e is same caused = subst (λ r. IfErr r (IsReadCause size part files)) (sym (is ∙ ap Err same)) caused

-- ---- reads

pub count_sum : (n m count : ℕ) → count_after (n + m) count ≡ count_after m (count_after n count)
count_sum zero m count = let same : 0 + m ≡ m = omega arith in ap (λ n. count_after n count) same
count_sum (suc n) m count = let same : suc n + m ≡ suc (n + m) = omega arith in ap (λ k. count_after k count) same ∙ (ap next_count (count_sum n m count) ∙ sym (count_moves m (count_after n count)))

pub reads_made : (opens components logs : ℕ) (before one two after : ℕ) → one ≡ count_after opens before → two ≡ count_after components one → after ≡ count_after logs two → after ≡ count_after (opens + components + logs) before
reads_made opens components logs before one two after first second third =
    third ∙ (ap (λ m. count_after logs m) (second ∙ (ap (λ m. count_after components m) first ∙ sym (count_sum opens components before))) ∙ sym (count_sum (opens + components) logs before))

-- the last generation of tiles is that of their components
pub ends_listed : {F : Type 0} (g : ℕ) (list : List (ComponentState F)) → end_of g (map interval_of list) ≡ last_after g list
ends_listed g [] = refl
ends_listed g (c ∷ list) = ends_listed c.index.head.to list
