-- The events of a run: frames, the sealing of the table, snapshots, devices given up, and changes of files alone.
use Rattle.std.proofs.Common.{◌≡◌, ◌≢◌, ◌+◌, ℕ, true, false, List, [], ◌∷◌, ◌++◌, length, refl, sym, ap, ◌∙◌, subst, arith, inl, inr, Option, Some, None, length-append}
use Rattle.std.specs.Prelude.{All, IfSome, IsSome}
use Rattle.std.proofs.lemmas.Bool.{true≢false, false≢true}
use Rattle.tc_plain_model.specs.Writes.{Write}
use Rattle.tc_lsm_model.specs.Contents.{Partition}
use Rattle.tc_lsm_model.specs.Lists.{last_of}
use Rattle.tc_store.specs.Disk.{Entry, IsThere, MayLeaveAt, put}
use Rattle.tc_store.specs.Gate.{is_open_file}
use Rattle.tc_store.specs.Images.{Image}
use Rattle.tc_store.specs.declared.file_name.FileName.{FileName}
use Rattle.tc_store.specs.declared.file_name.FileName.TheVariants.{Component, Log}
use Rattle.tc_machine.specs.Components.{IsStillComponent, file_of}
use Rattle.tc_machine.specs.Events.{frame_committed, frame_started, part_failed, part_started, snapshot_taken, step, table_sealed}
use Rattle.tc_machine.specs.Kept.{IsKept}
use Rattle.tc_machine.specs.Logs.{LeavesLog}
use Rattle.tc_machine.specs.Sound.{AreFilesSound, IsExplained, LeavesActive, LeavesOf}
use Rattle.tc_machine.specs.State.{Active, Flushing, State, active_generation, active_logs, flush_name, next_generation, sealed_logs}
use Rattle.tc_machine.specs.Steps.{AreExpected, CommitsFrame, IsExpected, IsFlushed, IsShutOrHas, IsWritten, SealsTable, StartsFrame, StartsPart, nothing_held}
use Rattle.tc_machine.proofs.FilesLeft.{LeavesOf-other, LeavesOf-weaker, LeavesOf-written, at_name}
use Rattle.tc_machine.proofs.MemorySteps.{after_commit, after_seal, committed_is, frame_committed_memory, frame_started_memory, no_flush, same_memory, sealed_step, sealing_memory, snapshot_taken_memory, starting_memory, unsealed, unsealed_is, unstarted, unstarted_is}
use Rattle.tc_machine.proofs.NextLogs.{beyond_is_shut}
use Rattle.tc_machine.proofs.Options.{if_some_map}

-- ---- files that stay explained

-- in a state with the same list, jobs and next log, each file is open for the same reason
explained_same : (part : Partition) (s t : State) → t.list ≡ s.list → t.sealed ≡ s.sealed → t.flush ≡ s.flush → t.merge ≡ s.merge → next_generation t ≡ next_generation s
    → (name : FileName) (b : List ℕ) → IsExplained part s name b → IsExplained part t name b
explained_same part s t list sealed flush merge next (Component from to) b is = rw (list, sealed, flush, merge) is
explained_same part s t list sealed flush merge next (Log g) b is = rw (next, list) is

pub expected_same : (s t : State) → t.list ≡ s.list → t.flush ≡ s.flush → t.merge ≡ s.merge → next_generation t ≡ next_generation s → (s.making ≡ true → t.making ≡ true) → (name : FileName) → IsExpected s name → IsExpected t name
expected_same s t list flush merge next making (Component from to) is = rw (list, flush, merge) is
expected_same s t list flush merge next making (Log g) (inl earlier) = inl (rw next earlier)
expected_same s t list flush merge next making (Log g) (inr is) = inr (rw next is.0, making is.1)

-- The files stay sound where nothing that speaks of them changes.
pub same_files : (part : Partition) (s t : State) → t.list ≡ s.list → t.sealed ≡ s.sealed → t.active ≡ s.active → t.frame ≡ s.frame → t.flush ≡ s.flush → t.merge ≡ s.merge → t.files ≡ s.files → next_generation t ≡ next_generation s
    → AreFilesSound part s → AreFilesSound part t
same_files part s t list sealed active frame flush merge files next k = record {
  listed = rw (list, files) k.listed;
  still = rw (list, files, active) k.still;
  sealed_logs = rw (list, files, sealed) k.sealed_logs;
  active_log = rw (list, files, sealed, active, frame) k.active_log;
  others = λ name b left is_open. explained_same part s t list sealed flush merge next name b (k.others name b (subst (λ fs. MayLeaveAt (nothing_held name) (fs name) (Some b)) files left) is_open);
  flush_file = rw (list, files, sealed, flush) k.flush_file;
  merge_file = rw (files, merge) k.merge_file;
}

-- ---- a frame is appended

pub frame_started_keeps : (part : Partition) (s : State) (ws : List Write) → IsKept part s → StartsFrame s ws → IsKept part (step (frame_started ws) s)
frame_started_keeps part s ws k m = record {
  memory = frame_started_memory part s ws k.memory m;
  files = record {
    listed = k.files.listed;
    still = k.files.still;
    sealed_logs = k.files.sealed_logs;
    active_log = if_some_map (λ d. LeavesOf s.files (Log (active_generation s)) (LeavesActive part (active_generation s) d.writes s.frame)) (λ d. LeavesOf s.files (Log (active_generation s)) (LeavesActive part (active_generation s) d.writes (Some ws))) s.active
        (λ d is leaves. LeavesOf-weaker (Log (active_generation s)) s.files (LeavesActive part (active_generation s) d.writes s.frame) (LeavesActive part (active_generation s) d.writes (Some ws))
        (λ image was. without (active_generation s) d.writes image (subst (λ fr. LeavesActive part (active_generation s) d.writes fr image) m.none was)) leaves) k.files.active_log;
    others = λ name b left is_open. explained_same part s (step (frame_started ws) s) refl refl refl refl refl name b (k.files.others name b left is_open);
    flush_file = k.files.flush_file;
    merge_file = k.files.merge_file;
  };
  expected = λ running sound name there. expected_same s (step (frame_started ws) s) refl refl refl refl (λ is. is) name (k.expected running sound name there);
  next_log = k.next_log;
}
  where
    without : (g : ℕ) (old : List Write) (image : Image) → LeavesLog part g old image → LeavesActive part g old (Some ws) image
    without g old None is = is
    without g old (Some b) is = inl is

-- ---- a frame is committed

committing : (part : Partition) (s : State) (d : Active) (ws : List Write) → IsKept part s → s.active ≡ Some d → s.frame ≡ Some ws
    → IsWritten (LeavesLog part (active_generation s) (d.writes ++ ws)) (s.files (Log (active_generation s))) → IsKept part (after_commit s d ws)
committing part s d ws k is_active is_frame durable = record {
  memory = frame_committed_memory part s d ws is_active is_frame k.memory;
  files = record {
    listed = k.files.listed;
    still = λ is. k.files.still (subst (λ a. IsSome a) (sym is_active) refl);
    sealed_logs = k.files.sealed_logs;
    active_log = LeavesOf-written (Log (active_generation s)) s.files (LeavesLog part (active_generation s) (d.writes ++ ws)) durable;
    others = λ name b left is_open. explained_same part s (after_commit s d ws) refl refl refl refl next name b (k.files.others name b left is_open);
    flush_file = k.files.flush_file;
    merge_file = k.files.merge_file;
  };
  expected = λ running sound name there. expected_same s (after_commit s d ws) refl refl refl next (λ is. is) name (k.expected (subst (λ a. IsSome a) (sym is_active) refl) sound name there);
  next_log = λ running sound not_made. subst (λ g. LeavesOf s.files (Log g) (IsShutOrHas (λ b. ⊥))) (sym next) (k.next_log (subst (λ a. IsSome a) (sym is_active) refl) sound not_made);
}
  where
    next : next_generation (after_commit s d ws) ≡ next_generation s
    next = omega (arith, length-append (sealed_logs s.sealed) (active_logs s.active), length-append (sealed_logs s.sealed) ((d.writes ++ ws) ∷ []), ap (λ a. length (active_logs a)) is_active)

pub frame_committed_keeps : (part : Partition) (s : State) → IsKept part s → CommitsFrame part s → IsKept part (step frame_committed s)
frame_committed_keeps part s k m =
    subst (λ t. IsKept part t) (sym (committed_is s m.active m.frame m.is_active m.is_frame)) (committing part s m.active m.frame k m.is_active m.is_frame m.durable)

-- ---- the table is sealed

sealing : (part : Partition) (s : State) (d : Active) → IsKept part (unsealed s d) → IsWritten (LeavesLog part (next_generation (unsealed s d)) []) (s.files (Log (next_generation (unsealed s d)))) → IsKept part (after_seal (unsealed s d) d)
sealing part s d k ready = record {
  memory = sealing_memory part s d k.memory;
  files = record {
    listed = k.files.listed;
    still = λ is. k.files.still refl;
    sealed_logs = (subst (λ g. LeavesOf s.files (Log g) (LeavesLog part g d.writes)) first k.files.active_log, tt);
    active_log = subst (λ g. LeavesOf s.files (Log g) (LeavesLog part g [])) second (LeavesOf-written (Log (next_generation (unsealed s d))) s.files (LeavesLog part (next_generation (unsealed s d)) []) ready);
    others = explained;
    flush_file = no_file s.flush (no_flush s.list s.flush k.memory.flush);
    merge_file = k.files.merge_file;
  };
  expected = λ running sound name there. expected name (k.expected refl sound name there);
  next_log = λ running sound not_made. beyond_is_shut part (unsealed s d) (next_generation (after_seal (unsealed s d) d)) k.files (omega arith);
}
  where
    expected : (name : FileName) → IsExpected (unsealed s d) name → IsExpected (after_seal (unsealed s d) d) name
    expected (Component from to) is = is
    expected (Log g) (inl earlier) = inl (omega (arith, earlier))
    expected (Log g) (inr is) = inl (omega (arith, is.0))

    no_file : (f : Option Flushing) → f ≡ None → IfSome f (λ j. LeavesOf s.files (flush_name j) (IsShutOrHas (IsFlushed part s.list (Some (record { table = d.table; logs = d.writes ∷ [] })))))
    no_file None isnone = tt
    no_file (Some f) isnone = absurd (cc)

    first : active_generation (unsealed s d) ≡ last_of s.list + 1
    first = omega arith

    second : next_generation (unsealed s d) ≡ active_generation (after_seal (unsealed s d) d)
    second = omega arith

    explained : (name : FileName) (b : List ℕ) → MayLeaveAt (nothing_held name) (s.files name) (Some b) → is_open_file b ≡ true → IsExplained part (after_seal (unsealed s d) d) name b
    explained (Component from to) b left is_open = of_list (k.files.others (Component from to) b left is_open)
      where
        of_list : IsExplained part (unsealed s d) (Component from to) b → IsExplained part (after_seal (unsealed s d) d) (Component from to) b
        of_list (inl covered) = inl covered
        of_list (inr (inl is)) = absurd is.1
        of_list (inr (inr is)) = inr (inr is)
    explained (Log g) b left is_open = moved (k.files.others (Log g) b left is_open)
      where
        moved : IsExplained part (unsealed s d) (Log g) b → IsExplained part (after_seal (unsealed s d) d) (Log g) b
        moved (inl covered) = inl covered
        moved (inr (inl between)) = inr (inl (between.0, omega (arith, between.1)))
        moved (inr (inr is)) = inr (inl (omega (arith, is.0), omega (arith, is.0)))

pub active_of : (active : Option Active) → IsSome active → (d : Active) × (active ≡ Some d)
active_of None is = absurd (false≢true is)
active_of (Some d) is = (d, refl)

pub table_sealed_keeps : (part : Partition) (s : State) → IsKept part s → SealsTable part s → IsKept part (step table_sealed s)
table_sealed_keeps part s k m =
    let there = active_of s.active m.running in
    let is : unsealed s there.0 ≡ s = unsealed_is s there.0 m.none_sealed there.1 m.no_frame in
    let sealed : IsKept part (after_seal (unsealed s there.0) there.0) = sealing part s there.0 (subst (λ t. IsKept part t) (sym is) k)
    (subst (λ t. IsWritten (LeavesLog part (next_generation t) []) (t.files (Log (next_generation t)))) (sym is) m.next_log.1) in
    subst (λ t. IsKept part t) (ap (λ t. after_seal t there.0) is ∙ sym (sealed_step s there.0 there.1)) sealed

-- ---- an opening ends

starting : (part : Partition) (s : State) → IsKept part (unstarted s) → IsWritten (LeavesLog part (next_generation (unstarted s)) []) (s.files (Log (next_generation (unstarted s))))
    → All (λ c. IsStillComponent c (s.files (file_of c))) s.list → AreExpected (unstarted s) → IsKept part (step part_started (unstarted s))
starting part s k ready all_still all_expected = record {
  memory = starting_memory part s k.memory;
  files = record {
    listed = k.files.listed;
    still = λ is. all_still;
    sealed_logs = tt;
    active_log = subst (λ g. LeavesOf s.files (Log g) (LeavesLog part g [])) here (LeavesOf-written (Log (next_generation (unstarted s))) s.files (LeavesLog part (next_generation (unstarted s)) []) ready);
    others = explained;
    flush_file = k.files.flush_file;
    merge_file = k.files.merge_file;
  };
  expected = λ running sound name there. expected name (all_expected name there);
  next_log = λ running sound not_made. beyond_is_shut part (unstarted s) (next_generation (step part_started (unstarted s))) k.files (omega arith);
}
  where
    expected : (name : FileName) → IsExpected (unstarted s) name → IsExpected (step part_started (unstarted s)) name
    expected (Component from to) is = is
    expected (Log g) (inl earlier) = inl (omega (arith, earlier))
    expected (Log g) (inr is) = inl (omega (arith, is.0))

    here : next_generation (unstarted s) ≡ active_generation (step part_started (unstarted s))
    here = omega arith

    explained : (name : FileName) (b : List ℕ) → MayLeaveAt (nothing_held name) (s.files name) (Some b) → is_open_file b ≡ true → IsExplained part (step part_started (unstarted s)) name b
    explained (Component from to) b left is_open = k.files.others (Component from to) b left is_open
    explained (Log g) b left is_open = moved (k.files.others (Log g) b left is_open)
      where
        moved : IsExplained part (unstarted s) (Log g) b → IsExplained part (step part_started (unstarted s)) (Log g) b
        moved (inl covered) = inl covered
        moved (inr (inl between)) = inr (inl (between.0, omega (arith, between.1)))
        moved (inr (inr is)) = inr (inl (omega (arith, is.0), omega (arith, is.0)))

pub no_frame : (frame : Option (List Write)) (active : Option Active) → (IsSome frame → IsSome active) → active ≡ None → frame ≡ None
no_frame None active running none = refl
no_frame (Some ws) active running none = absurd (false≢true (subst (λ a. IsSome a) none (running refl)))

pub part_started_keeps : (part : Partition) (s : State) → IsKept part s → StartsPart part s → IsKept part (step part_started s)
part_started_keeps part s k m =
    let is : unstarted s ≡ s = unstarted_is s m.none_sealed m.opening (no_frame s.frame s.active k.memory.running m.opening) in
    subst (λ t. IsKept part (step part_started t)) is (starting part s (subst (λ t. IsKept part t) (sym is) k)
    (subst (λ t. IsWritten (LeavesLog part (next_generation t) []) (t.files (Log (next_generation t)))) (sym is) m.next_log.1) m.still (subst (λ t. AreExpected t) (sym is) m.expected))

-- ---- a snapshot is taken

pub snapshot_taken_keeps : (part : Partition) (s : State) → IsKept part s → IsSome s.active → IsKept part (step snapshot_taken s)
snapshot_taken_keeps part s k running = record {
  memory = snapshot_taken_memory part s k.memory running;
  files = same_files part s (step snapshot_taken s) refl refl refl refl refl refl refl refl k.files;
  expected = λ running sound name there. expected_same s (step snapshot_taken s) refl refl refl refl (λ is. is) name (k.expected running sound name there);
  next_log = k.next_log;
}

-- ---- a device is given up, and the next log is made

pub part_failed_keeps : (part : Partition) (s : State) → IsKept part s → IsKept part (step part_failed s)
part_failed_keeps part s k = record {
  memory = same_memory part s s.files s.making true k.memory;
  files = same_files part s (step part_failed s) refl refl refl refl refl refl refl refl k.files;
  expected = λ running sound. absurd (true≢false sound);
  next_log = λ running sound. absurd (true≢false sound);
}

pub making_keeps : (part : Partition) (s : State) → IsKept part s → IsKept part (record s { making = true })
making_keeps part s k = record {
  memory = same_memory part s s.files true s.failed k.memory;
  files = same_files part s (record s { making = true }) refl refl refl refl refl refl refl refl k.files;
  expected = λ running sound name there. expected_same s (record s { making = true }) refl refl refl refl (λ is. refl) name (k.expected running sound name there);
  next_log = λ running sound not_made. absurd (true≢false not_made);
}

-- ---- a file alone

-- The files where one changes under a name that is expected. Where no next log is made, the name is not that of the next log.
pub with_one_file : (part : Partition) (s : State) (name : FileName) (entry : Entry) → IsKept part s → AreFilesSound part (record s { files = put name entry s.files }) → (IsSome s.active → s.failed ≡ false → IsThere entry → IsExpected s name)
    → (IsSome s.active → s.failed ≡ false → s.making ≡ false → name ≢ Log (next_generation s))
    → IsKept part (record s { files = put name entry s.files })
with_one_file part s name entry k sound here apart = record {
  memory = same_memory part s (put name entry s.files) s.making s.failed k.memory;
  files = sound;
  expected = λ running fine other there. expected_same s (record s { files = put name entry s.files }) refl refl refl refl (λ is. is) other
      (at_name name other entry s.files (λ e. IsThere e → IsExpected s other) (λ same there. subst (λ n. IsExpected s n) same (here running fine there)) (λ differ there. k.expected running fine other there) there);
  next_log = λ running fine not_made. LeavesOf-other name (Log (next_generation s)) entry s.files (IsShutOrHas (λ b. ⊥)) (apart running fine not_made) (k.next_log running fine not_made);
}
