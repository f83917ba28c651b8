-- The events of jobs: begun with a fresh device.
use Rattle.std.proofs.Common.{◌<◌, ◌≡◌, ℕ, Bool, true, false, List, [], length, refl, sym, ap, subst, arith, inl, inr, Option, Some, None}
use Rattle.std.specs.Prelude.{IfSome, IsSome}
use Rattle.std.proofs.lemmas.Option.{MatchOption-at_some}
use Rattle.tc_lsm_model.specs.Contents.{Content, Partition}
use Rattle.tc_lsm_model.specs.Lists.{Covers}
use Rattle.tc_lsm_model.specs.Merges.{Run}
use Rattle.tc_lsm_model.proofs.Covering.{covered_within}
use Rattle.tc_lsm_model.proofs.MergedGenerations.{merge_not_covered}
use Rattle.tc_store.specs.Disk.{IsThere, MayLeaveAt, none, put}
use Rattle.tc_store.specs.Gate.{is_open_file}
use Rattle.tc_store.specs.declared.file_name.FileName.{FileName}
use Rattle.tc_store.specs.declared.file_name.FileName.TheVariants.{Component, Log}
use Rattle.tc_component.specs.Rows.{IsComponent}
use Rattle.tc_machine.specs.Components.{file_of}
use Rattle.tc_machine.specs.Events.{flush_begun, made, merge_begun, step, with_made}
use Rattle.tc_machine.specs.Kept.{IsKept, IsMemoryKept, MergeFits}
use Rattle.tc_machine.specs.Sound.{AreFilesSound, IsExplained, IsFlushTarget, IsMergeTarget, LeavesOf}
use Rattle.tc_machine.specs.State.{Flushing, Merging, Sealed, State, flush_name, flushing_of, next_generation, sealed_logs}
use Rattle.tc_machine.specs.Steps.{BeginsFlush, BeginsMerge, IsExpected, IsFlushed, IsOfFlush, IsOfMerge, IsShutOrHas, nothing_held}
use Rattle.tc_machine.proofs.FilesLeft.{LeavesOf-other, at_name}
use Rattle.tc_machine.proofs.FilesMade.{file_made_keeps, made_at}
use Rattle.tc_machine.proofs.MemorySteps.{flush_begun_memory, merge_begun_memory, no_flush, same_memory}
use Rattle.tc_machine.proofs.Targets.{FlushTarget, MergeTarget, file_not_log, flush_target, merge_target}

-- ---- a fresh device

-- A file is made under the name of a component that the list does not cover and no job makes: it is closed, whatever
-- stood there.
fresh_shut : (part : Partition) (s : State) (from to : ℕ) (P : List ℕ → Type 0) (before : Option (List ℕ)) → AreFilesSound part s → s.files (Component from to) ≡ none before
    → (Covers s.list from to → ⊥) → ((b : List ℕ) → IsFlushTarget part s.list s.sealed s.flush from to b → ⊥) → ((b : List ℕ) → IsMergeTarget s.merge from to b → ⊥)
    → LeavesOf (put (Component from to) (made (s.files (Component from to))) s.files) (Component from to) (IsShutOrHas P)
fresh_shut part s from to P before k absent not_covered no_flush no_merge image left =
    made_at name before (IsShutOrHas P) tt (λ b closed. inl closed) old image
    (subst (λ e. MayLeaveAt (nothing_held name) e image) (ap made absent) (at_name name name (made (s.files name)) s.files (λ e. MayLeaveAt (nothing_held name) e image → MayLeaveAt (nothing_held name) (made (s.files name)) image) (λ same left. left) (λ apart left. absurd (apart refl)) left))
  where
    name : FileName
    name = Component from to

    no_reason : (b : List ℕ) → IsExplained part s (Component from to) b → ⊥
    no_reason b (inl covered) = not_covered covered.0
    no_reason b (inr (inl is)) = no_flush b is
    no_reason b (inr (inr is)) = no_merge b is

    closed_if : (o : Bool) (b : List ℕ) → is_open_file b ≡ o → before ≡ Some b → is_open_file b ≡ false
    closed_if true b is was = absurd (no_reason b (k.others (Component from to) b (subst (λ e. MayLeaveAt (nothing_held (Component from to)) e (Some b)) (sym absent) was) is))
    closed_if false b is was = is

    old : (b : List ℕ) → before ≡ Some b → IsShutOrHas P (Some b)
    old b was = inl (closed_if (is_open_file b) b refl was)

-- ---- a flush begins

flush_begins : (part : Partition) (s : State) (d : Sealed) → s.sealed ≡ Some d → s.flush ≡ None → (before : Option (List ℕ)) → s.files (flush_name (flushing_of s)) ≡ none before → IsKept part s → IsKept part (step flush_begun s)
flush_begins part s d is_sealed none_out before absent k = record {
  memory = same_memory part (record s { flush = Some (flushing_of s) }) (put (flush_name (flushing_of s)) (made (s.files (flush_name (flushing_of s)))) s.files) s.making s.failed
      (flush_begun_memory part s k.memory (subst (λ o. IsSome o) (sym is_sealed) refl));
  files = record {
    listed = files.listed;
    still = files.still;
    sealed_logs = files.sealed_logs;
    active_log = files.active_log;
    others = explained;
    flush_file = fresh_shut part s f.from f.to (IsFlushed part s.list s.sealed) before k.files absent not_covered (λ b is. no_target s.flush none_out f.from f.to is.0) no_merge;
    merge_file = files.merge_file;
  };
  expected = λ running sound name. at_name (flush_name f) name (made (s.files (flush_name f))) s.files (λ e. IsThere e → IsExpected (step flush_begun s) name)
      (λ same there. subst (λ n. IsExpected (step flush_begun s) n) same (inr (inl (refl, refl)))) (λ apart there. expected name (k.expected running sound name there));
  next_log = λ running sound not_made. LeavesOf-other (flush_name f) (Log (next_generation s)) (made (s.files (flush_name f))) s.files (IsShutOrHas (λ b. ⊥)) (file_not_log f.from f.to (next_generation s)) (k.next_log running sound not_made);
}
  where
    f : Flushing
    f = flushing_of s

    files : AreFilesSound part (with_made (flush_name (flushing_of s)) s)
    files = file_made_keeps part s (flush_name (flushing_of s)) k.files (record { before = before; absent = absent })

    logs_are : length (sealed_logs s.sealed) ≡ length d.logs
    logs_are = ap (λ o. length (sealed_logs o)) is_sealed

    some : 0 < length d.logs
    some = MatchOption-at_some _ (λ d. 0 < length d.logs) d is_sealed k.memory.some_log

    not_covered : Covers s.list (flushing_of s).from (flushing_of s).to → ⊥
    not_covered covered =
        let within = covered_within part 0 [] [] s.list (flushing_of s).from (flushing_of s).to k.memory.list covered in
        omega (arith, within.1, logs_are, some)

    no_target : (o : Option Flushing) → o ≡ None → (from to : ℕ) → IsOfFlush o from to → ⊥
    no_target None isnone from to is = is
    no_target (Some j) isnone from to is = absurd (cc)

    expected : (name : FileName) → IsExpected s name → IsExpected (step flush_begun s) name
    expected (Component from to) (inl covered) = inl covered
    expected (Component from to) (inr (inl is)) = absurd (no_target s.flush none_out from to is)
    expected (Component from to) (inr (inr is)) = inr (inr is)
    expected (Log g) is = is

    no_merge_at : (o : Option Merging) (b : List ℕ) → IfSome o (MergeFits s.list) → IsMergeTarget o (flushing_of s).from (flushing_of s).to b → ⊥
    no_merge_at None b fits is = is
    no_merge_at (Some x) b fits is =
        let e : MergeTarget s.list x = merge_target part s.list x k.memory.list fits in
        omega (arith, is.0.1, e.to, logs_are, some)

    no_merge : (b : List ℕ) → IsMergeTarget s.merge (flushing_of s).from (flushing_of s).to b → ⊥
    no_merge b is = no_merge_at s.merge b k.memory.merge is

    explained : (name : FileName) (b : List ℕ) → MayLeaveAt (nothing_held name) (put (flush_name (flushing_of s)) (made (s.files (flush_name (flushing_of s)))) s.files name) (Some b) → is_open_file b ≡ true → IsExplained part (step flush_begun s) name b
    explained (Log g) b left is_open = files.others (Log g) b left is_open
    explained (Component from to) b left is_open = moved (files.others (Component from to) b left is_open)
      where
        moved : IsExplained part s (Component from to) b → IsExplained part (step flush_begun s) (Component from to) b
        moved (inl covered) = inl covered
        moved (inr (inl is)) = absurd (no_target s.flush none_out from to is.0)
        moved (inr (inr is)) = inr (inr is)

pub flush_begun_keeps : (part : Partition) (s : State) → IsKept part s → BeginsFlush s → IsKept part (step flush_begun s)
flush_begun_keeps part s k m = flush_begins part s m.sealed m.is_sealed m.none_out m.before m.absent k

-- ---- a merge begins

pub merge_begun_keeps : (part : Partition) (s : State) (run : Run) (c : Content) → IsKept part s → BeginsMerge s run c → IsKept part (step (merge_begun run c) s)
merge_begun_keeps part s run c k m = record {
  memory = same_memory part (record s { merge = Some (record { run = run; target = c }) }) (put (file_of c) (made (s.files (file_of c))) s.files) s.making s.failed now;
  files = record {
    listed = files.listed;
    still = files.still;
    sealed_logs = files.sealed_logs;
    active_log = files.active_log;
    others = explained;
    flush_file = files.flush_file;
    merge_file = fresh_shut part s c.from c.to (IsComponent c) m.before k.files m.absent (merge_not_covered part run s.list c k.memory.list m.two m.within m.is_merge) (λ b is. no_flush s.flush refl is.0) (λ b is. no_merge s.merge m.none_out c.from c.to b is);
  };
  expected = λ running sound name. at_name (file_of c) name (made (s.files (file_of c))) s.files (λ e. IsThere e → IsExpected (step (merge_begun run c) s) name)
      (λ same there. subst (λ n. IsExpected (step (merge_begun run c) s) n) same (inr (inr (refl, refl)))) (λ apart there. expected name (k.expected running sound name there));
  next_log = λ running sound not_made. LeavesOf-other (file_of c) (Log (next_generation s)) (made (s.files (file_of c))) s.files (IsShutOrHas (λ b. ⊥)) (file_not_log c.from c.to (next_generation s)) (k.next_log running sound not_made);
}
  where
    now : IsMemoryKept part (record s { merge = Some (record { run = run; target = c }) })
    now = merge_begun_memory part s run c k.memory m.two m.within m.is_merge

    files : AreFilesSound part (with_made (file_of c) s)
    files = file_made_keeps part s (file_of c) k.files (record { before = m.before; absent = m.absent })

    none_of_merge : (o : Option Merging) → o ≡ None → (from to : ℕ) → IsOfMerge o from to → ⊥
    none_of_merge None isnone from to is = is
    none_of_merge (Some x) isnone from to is = absurd (cc)

    expected : (name : FileName) → IsExpected s name → IsExpected (step (merge_begun run c) s) name
    expected (Component from to) (inl covered) = inl covered
    expected (Component from to) (inr (inl is)) = inr (inl is)
    expected (Component from to) (inr (inr is)) = absurd (none_of_merge s.merge m.none_out from to is)
    expected (Log g) is = is

    no_merge : (o : Option Merging) → o ≡ None → (from to : ℕ) (b : List ℕ) → IsMergeTarget o from to b → ⊥
    no_merge None isnone from to b is = is
    no_merge (Some x) isnone from to b is = absurd (cc)

    no_flush : (f : Option Flushing) → s.flush ≡ f → IsOfFlush f c.from c.to → ⊥
    no_flush None e is = is
    no_flush (Some j) e is =
        let t : FlushTarget s.list s.sealed j = flush_target s.list s.sealed s.flush j e k.memory.flush in
        let g : MergeTarget s.list (record { run = run; target = c }) = merge_target part s.list (record { run = run; target = c }) k.memory.list now.merge in
        omega (arith, t.from, is.0, g.order, g.to)

    explained : (name : FileName) (b : List ℕ) → MayLeaveAt (nothing_held name) (put (file_of c) (made (s.files (file_of c))) s.files name) (Some b) → is_open_file b ≡ true → IsExplained part (step (merge_begun run c) s) name b
    explained (Log g) b left is_open = files.others (Log g) b left is_open
    explained (Component from to) b left is_open = moved (files.others (Component from to) b left is_open)
      where
        moved : IsExplained part s (Component from to) b → IsExplained part (step (merge_begun run c) s) (Component from to) b
        moved (inl covered) = inl covered
        moved (inr (inl is)) = inr (inl is)
        moved (inr (inr is)) = absurd (no_merge s.merge m.none_out from to b is)
