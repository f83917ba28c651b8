-- The events that install what a job made.
use Rattle.std.proofs.Common.{◌≡◌, ◌+◌, ℕ, true, List, [], ◌∷◌, ◌++◌, length, sym, ap, ◌∙◌, subst, arith, inl, inr, Option, Some, None, length-append}
use Rattle.std.specs.Prelude.{All}
use Rattle.std.proofs.lemmas.Bool.{cases_lt}
use Rattle.std.proofs.lemmas.List.Elements.{All-nil, All-cons, All-append}
use Rattle.tc_plain_model.specs.Store.{names_after}
use Rattle.tc_lsm_model.specs.Contents.{Content, Partition}
use Rattle.tc_lsm_model.specs.Flushes.{IsFlush}
use Rattle.tc_lsm_model.specs.Lists.{Covers, last_of, live, names_of}
use Rattle.tc_lsm_model.specs.Merges.{Run, before_run, behind_run, in_run, swapped}
use Rattle.tc_lsm_model.specs.Tables.{Table, writes_of}
use Rattle.tc_lsm_model.proofs.Covering.{Covers-back, Covers-front}
use Rattle.tc_lsm_model.proofs.MergeLaws.{Replaces, split_at_run, swapped_replaces}
use Rattle.tc_store.specs.Disk.{Disk, MayLeaveAt}
use Rattle.tc_store.specs.Gate.{is_open_file}
use Rattle.tc_store.specs.Images.{Image}
use Rattle.tc_store.specs.declared.file_name.FileName.{FileName}
use Rattle.tc_store.specs.declared.file_name.FileName.TheVariants.{Component, Log}
use Rattle.tc_machine.specs.Components.{HasComponentHead, IsStillComponent, LeavesComponent, file_of}
use Rattle.tc_machine.specs.Events.{flush_installed, merge_installed, step}
use Rattle.tc_machine.specs.Kept.{IsKept}
use Rattle.tc_machine.specs.Sound.{Flushes, IsExplained, LeavesActive, LeavesLogs, LeavesOf}
use Rattle.tc_machine.specs.State.{Flushing, Merging, Sealed, State, active_generation, active_logs, flush_name, logs, next_generation, sealed_logs}
use Rattle.tc_machine.specs.Steps.{InstallsFlush, InstallsMerge, IsExpected, IsFlushed, IsShutOrHas, nothing_held}
use Rattle.tc_machine.proofs.ComponentHeads.{component_has_head}
use Rattle.tc_machine.proofs.FilesMade.{log_there}
use Rattle.tc_machine.proofs.MemorySteps.{flush_installed_memory, flushing, flushing_is, installed_last, merge_installed_memory, merging}
use Rattle.tc_machine.proofs.Options.{All-back, All-front, if_some_map}

-- what a still component leaves
still_leaves : (c : Content) (name : FileName) (files : Disk) → IsStillComponent c (files name) → LeavesOf files name (LeavesComponent c)
still_leaves c name files is image left = subst (λ i. LeavesComponent c i) (sym (subst (λ e. MayLeaveAt (nothing_held name) e image) is.1 left)) is.2

-- ---- a flush is installed

pub flushed_head : (part : Partition) (cs : List Content) (d : Sealed) (j : Flushing) → Flushes cs d j → (from to : ℕ) (b : List ℕ) → from ≡ j.from → to ≡ j.to → IsFlushed part cs (Some d) b → HasComponentHead part from to b
flushed_head part cs d j fits from to b is_from is_to (c, f, w) =
    let first : c.from ≡ from = omega (arith, is_from, fits.from, f.goes_on.next) in
    let last : c.to ≡ to = omega (arith, is_to, fits.to, f.to) in
    subst (λ n. HasComponentHead part n to b) first (subst (λ n. HasComponentHead part c.from n b) last (component_has_head part c b f.goes_on.here w))

flush_install : (part : Partition) (s : State) (d : Sealed) (j : Flushing) (c : Content) → IsKept part (flushing s d (Some j)) → IsFlush part s.list d.table (length d.logs) c → IsStillComponent c (s.files (file_of c))
    → IsKept part (step (flush_installed c) (flushing s d (Some j)))
flush_install part s d j c k f is_still = record {
  memory = flush_installed_memory part s d (Some j) c k.memory f;
  files = record {
    listed = All-append (λ c. LeavesOf s.files (file_of c) (LeavesComponent c)) s.list (c ∷ []) k.files.listed
        (All-cons (λ c. LeavesOf s.files (file_of c) (LeavesComponent c)) c [] (still_leaves c (file_of c) s.files is_still) (All-nil (λ c. LeavesOf s.files (file_of c) (LeavesComponent c))));
    still = λ running. All-append (λ c. IsStillComponent c (s.files (file_of c))) s.list (c ∷ []) (k.files.still running)
        (All-cons (λ c. IsStillComponent c (s.files (file_of c))) c [] is_still (All-nil (λ c. IsStillComponent c (s.files (file_of c)))));
    sealed_logs = tt;
    active_log = if_some_map (λ x. LeavesOf s.files (Log (active_generation (flushing s d (Some j))))
        (LeavesActive part (active_generation (flushing s d (Some j))) x.writes s.frame))
        (λ x. LeavesOf s.files (Log (active_generation new)) (LeavesActive part (active_generation new) x.writes s.frame)) s.active
        (λ x is leaves. subst (λ g. LeavesOf s.files (Log g) (LeavesActive part g x.writes s.frame)) (sym generation) leaves) k.files.active_log;
    others = explained;
    flush_file = tt;
    merge_file = k.files.merge_file;
  };
  expected = λ running sound name there. expected name (k.expected running sound name there);
  next_log = λ running sound not_made. subst (λ g. LeavesOf s.files (Log g) (IsShutOrHas (λ b. ⊥))) (sym next) (k.next_log running sound not_made);
}
  where
    new : State
    new = step (flush_installed c) (flushing s d (Some j))

    last : last_of (s.list ++ c ∷ []) ≡ last_of s.list + length d.logs
    last = installed_last part s d c f

    generation : active_generation (step (flush_installed c) (flushing s d (Some j))) ≡ active_generation (flushing s d (Some j))
    generation = omega (arith, last)

    next : next_generation (step (flush_installed c) (flushing s d (Some j))) ≡ next_generation (flushing s d (Some j))
    next = omega (arith, last, length-append d.logs (active_logs s.active))

    covers_new : (from to : ℕ) → from ≡ j.from → to ≡ j.to → Covers (s.list ++ c ∷ []) from to
    covers_new from to is_from is_to = Covers-back s.list (c ∷ []) from to (inl (omega (arith, is_from, k.memory.flush.from, f.goes_on.next), omega (arith, is_to, k.memory.flush.to, f.to)))

    expected : (name : FileName) → IsExpected (flushing s d (Some j)) name → IsExpected (step (flush_installed c) (flushing s d (Some j))) name
    expected (Component from to) (inl covered) = inl (Covers-front s.list (c ∷ []) from to covered)
    expected (Component from to) (inr (inl is)) = inl (covers_new from to is.0 is.1)
    expected (Component from to) (inr (inr is)) = inr (inr is)
    expected (Log g) (inl earlier) = inl (omega (arith, earlier, next))
    expected (Log g) (inr is) = inr (is.0 ∙ sym next, is.1)

    explained : (name : FileName) (b : List ℕ) → MayLeaveAt (nothing_held name) (s.files name) (Some b) → is_open_file b ≡ true → IsExplained part (step (flush_installed c) (flushing s d (Some j))) name b
    explained (Component from to) b left is_open = moved (k.files.others (Component from to) b left is_open)
      where
        moved : IsExplained part (flushing s d (Some j)) (Component from to) b → IsExplained part (step (flush_installed c) (flushing s d (Some j))) (Component from to) b
        moved (inl covered) = inl (Covers-front s.list (c ∷ []) from to covered.0, covered.1)
        moved (inr (inl is)) = inl (covers_new from to is.0.0 is.0.1, flushed_head part s.list d j k.memory.flush from to b is.0.0 is.0.1 is.1)
        moved (inr (inr is)) = inr (inr is)
    explained (Log g) b left is_open = moved (k.files.others (Log g) b left is_open)
      where
        moved : IsExplained part (flushing s d (Some j)) (Log g) b → IsExplained part (step (flush_installed c) (flushing s d (Some j))) (Log g) b
        moved (inl covered) = inl (omega (arith, covered.0, last), covered.1)
        moved (inr (inl between)) = elim (cases_lt (last_of (s.list ++ c ∷ [])) g) [
          | inl above ↦ inr (inl (above, omega (arith, between.1, next)))
          | inr at_most ↦ inl (at_most, (log_there part (flushing s d (Some j)) g k.files between.0 between.1 (Some b) left).1)
        ]
        moved (inr (inr is)) = inr (inr (is.0 ∙ sym next, is.1))

pub flush_installed_keeps : (part : Partition) (s : State) (c : Content) → IsKept part s → InstallsFlush part s c → IsKept part (step (flush_installed c) s)
flush_installed_keeps part s c k m =
    let is : flushing s m.sealed (Some m.flushing) ≡ s = flushing_is s m.sealed (Some m.flushing) m.is_sealed m.is_out in
    subst (λ x. IsKept part (step (flush_installed c) x)) is (flush_install part s m.sealed m.flushing c (subst (λ x. IsKept part x) (sym is) k) m.is_flush m.still)

-- ---- a merge is installed

pub All-swapped : (P : Content → Type 0) (run : Run) (c : Content) (cs : List Content) → All P cs → P c → All P (swapped run c cs)
All-swapped P run c cs all one =
    let split : All P (before_run run cs ++ (in_run run cs ++ behind_run run cs)) = subst (λ l. All P l) (sym (split_at_run run cs)) all in
    All-append P (before_run run cs) (c ∷ behind_run run cs) (All-front P (before_run run cs) (in_run run cs ++ behind_run run cs) split)
    (All-cons P c (behind_run run cs) one (All-back P (in_run run cs) (behind_run run cs) (All-back P (before_run run cs) (in_run run cs ++ behind_run run cs) split)))

pub IsFlush-same : (part : Partition) (old new : List Content) (t : Table) (generations : ℕ) (c : Content) → names_of new ≡ names_of old → last_of new ≡ last_of old → live new ≡ live old → IsFlush part old t generations c → IsFlush part new t generations c
IsFlush-same part old new t generations c names last lives is = record {
  entries = is.entries;
  names = is.names ∙ ap (λ ns. names_after ns (writes_of t)) (sym names);
  to = is.to ∙ ap (λ g. g + generations) (sym last);
  goes_on = rw (names, last, lives) is.goes_on;
}

IsFlushed-same : (part : Partition) (old new : List Content) (sealed : Option Sealed) (b : List ℕ) → names_of new ≡ names_of old → last_of new ≡ last_of old → live new ≡ live old → IsFlushed part old sealed b → IsFlushed part new sealed b
IsFlushed-same part old new None b names last lives is = is
IsFlushed-same part old new (Some d) b names last lives (c, f, w) = (c, IsFlush-same part old new d.table (length d.logs) c names last lives f, w)

shut_weaker : (P Q : List ℕ → Type 0) → ((b : List ℕ) → P b → Q b) → (image : Image) → IsShutOrHas P image → IsShutOrHas Q image
shut_weaker P Q go None is = is
shut_weaker P Q go (Some b) (inl closed) = inl closed
shut_weaker P Q go (Some b) (inr is) = inr (go b is)

merge_install : (part : Partition) (s : State) (m : Merging) → IsKept part (merging s m) → IsStillComponent m.target (s.files (file_of m.target)) → IsKept part (step merge_installed (merging s m))
merge_install part s m k is_still = record {
  memory = merge_installed_memory part s m k.memory;
  files = record {
    listed = All-swapped (λ c. LeavesOf s.files (file_of c) (LeavesComponent c)) m.run m.target s.list k.files.listed (still_leaves m.target (file_of m.target) s.files is_still);
    still = λ running. All-swapped (λ c. IsStillComponent c (s.files (file_of c))) m.run m.target s.list (k.files.still running) is_still;
    sealed_logs = subst (λ g. LeavesLogs part s.files (g + 1) (sealed_logs s.sealed)) (sym r.last) k.files.sealed_logs;
    active_log = if_some_map (λ x. LeavesOf s.files (Log (active_generation s)) (LeavesActive part (active_generation s) x.writes s.frame)) (λ x. LeavesOf s.files (Log (active_generation new)) (LeavesActive part (active_generation new) x.writes s.frame)) s.active
        (λ x is leaves. subst (λ g. LeavesOf s.files (Log (g + length (sealed_logs s.sealed) + 1)) (LeavesActive part (g + length (sealed_logs s.sealed) + 1) x.writes s.frame)) (sym r.last) leaves) k.files.active_log;
    others = explained;
    flush_file = if_some_map (λ j. LeavesOf s.files (flush_name j) (IsShutOrHas (IsFlushed part s.list s.sealed))) (λ j. LeavesOf s.files (flush_name j) (IsShutOrHas (IsFlushed part cs s.sealed))) s.flush
        (λ j is leaves image left. shut_weaker (IsFlushed part s.list s.sealed) (IsFlushed part cs s.sealed) (λ b. IsFlushed-same part s.list cs s.sealed b r.names r.last r.live) image (leaves image left)) k.files.flush_file;
    merge_file = tt;
  };
  expected = λ running sound name there. expected name (k.expected running sound name there);
  next_log = λ running sound not_made. subst (λ g. LeavesOf s.files (Log (g + length (logs s) + 1)) (IsShutOrHas (λ b. ⊥))) (sym r.last) (k.next_log running sound not_made);
}
  where
    cs : List Content
    cs = swapped m.run m.target s.list

    new : State
    new = step merge_installed (merging s m)

    r : Replaces part s.list (swapped m.run m.target s.list) m.target
    r = swapped_replaces part m.run s.list m.target k.memory.list k.memory.merge.is_merge

    expected : (name : FileName) → IsExpected (merging s m) name → IsExpected (step merge_installed (merging s m)) name
    expected (Component from to) (inl covered) = inl (r.covers from to covered)
    expected (Component from to) (inr (inl is)) = inr (inl is)
    expected (Component from to) (inr (inr is)) = inl (rw (is.0, is.1) r.covered)
    expected (Log g) (inl earlier) = inl (omega (arith, earlier, r.last))
    expected (Log g) (inr is) = inr (omega (arith, is.0, r.last), is.1)

    explained : (name : FileName) (b : List ℕ) → MayLeaveAt (nothing_held name) (s.files name) (Some b) → is_open_file b ≡ true → IsExplained part (step merge_installed (merging s m)) name b
    explained (Component from to) b left is_open = moved (k.files.others (Component from to) b left is_open)
      where
        moved : IsExplained part (merging s m) (Component from to) b → IsExplained part (step merge_installed (merging s m)) (Component from to) b
        moved (inl covered) = inl (r.covers from to covered.0, covered.1)
        moved (inr (inl is)) = inr (inl (is.0, IsFlushed-same part s.list cs s.sealed b r.names r.last r.live is.1))
        moved (inr (inr is)) = inl (rw (is.0.0, is.0.1) r.covered, rw (is.0.0, is.0.1) (component_has_head part m.target b here is.1))
          where
            here : m.target.part ≡ part
            here = r.here
    explained (Log g) b left is_open = moved (k.files.others (Log g) b left is_open)
      where
        moved : IsExplained part (merging s m) (Log g) b → IsExplained part (step merge_installed (merging s m)) (Log g) b
        moved (inl covered) = inl (omega (arith, covered.0, r.last), covered.1)
        moved (inr (inl between)) = inr (inl (omega (arith, between.0, r.last), omega (arith, between.1, r.last)))
        moved (inr (inr is)) = inr (inr (omega (arith, is.0, r.last), is.1))

pub merge_installed_keeps : (part : Partition) (s : State) → IsKept part s → InstallsMerge s → IsKept part (step merge_installed s)
merge_installed_keeps part s k m =
    let is : merging s m.merging ≡ s = ap (λ o. record s { merge = o }) (sym m.is_out) in
    subst (λ t. IsKept part (step merge_installed t)) is (merge_install part s m.merging (subst (λ t. IsKept part t) (sym is) k) m.still)
