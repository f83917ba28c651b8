-- What each event keeps of list, tables, writes and jobs, whatever the files are.
use Rattle.std.proofs.Common.{◌≡◌, ◌≢◌, ◌≤◌, ◌<◌, ◌+◌, Bool, false, List, [], ◌∷◌, ◌++◌, length, take, refl, sym, ap, ◌∙◌, subst, arith, Option, Some, None, length-append, append_assoc, append-nil}
use Rattle.std.specs.Prelude.{All, IfSome, IsSome}
use Rattle.std.proofs.lemmas.Bool.{false≢true}
use Rattle.std.proofs.lemmas.List.{take-append-le, take_all}
use Rattle.std.proofs.lemmas.List.Elements.{All-nil, All-cons, All-append, All-weaker}
use Rattle.std.proofs.lemmas.List.Sums.{fold-append}
use Rattle.std.proofs.lemmas.Option.{MatchOption-at_some}
use Rattle.tc_plain_model.specs.Store.{names_after}
use Rattle.tc_plain_model.specs.Writes.{Write, after_writes}
use Rattle.tc_plain_model.proofs.WriteLaws.{after_writes-append}
use Rattle.tc_plain_model.proofs.WriteLookups.{Ascends-after_writes}
use Rattle.tc_lsm_model.specs.Contents.{Content, Partition}
use Rattle.tc_lsm_model.specs.Flushes.{IsFlush}
use Rattle.tc_lsm_model.specs.Lists.{last_of, live, names_of}
use Rattle.tc_lsm_model.specs.Merges.{IsMerge, Run, in_run, swapped}
use Rattle.tc_lsm_model.specs.Tables.{over, shape_in, table_over, table_with, writes_of}
use Rattle.tc_lsm_model.proofs.FlushLaws.{flushed_list, flushed_live, last_of-push, names_of-push}
use Rattle.tc_lsm_model.proofs.ListLaws.{Ascends-live}
use Rattle.tc_lsm_model.proofs.MergeLaws.{Replaces, in_run-append, swapped_replaces}
use Rattle.tc_lsm_model.proofs.MergedGenerations.{merge_not_covered}
use Rattle.tc_lsm_model.proofs.WrittenNames.{names_after-table}
use Rattle.tc_store.specs.Disk.{Disk, Picture}
use Rattle.tc_machine.specs.Components.{file_of}
use Rattle.tc_machine.specs.Events.{committed, flush_installed, frame_committed, frame_started, merge_installed, opened, part_started, rebased, replayed, sealed_by, snapshot_taken, step, table_sealed}
use Rattle.tc_machine.specs.Kept.{IsMemoryKept, MergeFits, SnapshotFits}
use Rattle.tc_machine.specs.Logs.{all_writes}
use Rattle.tc_machine.specs.Pictures.{Opens}
use Rattle.tc_machine.specs.Sound.{IsFlushOf}
use Rattle.tc_machine.specs.State.{Active, Flushing, Merging, Sealed, State, active_logs, active_table, below_active, flushing_of, frame_writes, history, logs, names_held, no_writes, sealed_logs, sealed_table, table_after}
use Rattle.tc_machine.specs.Steps.{StartsFrame}
use Rattle.tc_machine.specs.Writes.{AreFew, HasRoom, IsStorableWrite}
use Rattle.tc_machine.proofs.Holding.{all_writes-append, all_writes-one, holds, sealed_holds}
use Rattle.tc_machine.proofs.Options.{All-back, if_some_map}
use Rattle.tc_machine.proofs.Targets.{MergeTarget, file_from, merge_target, uncovered_apart}

-- the files, and whether something failed, make no difference
pub same_memory : (part : Partition) (s : State) (files : Disk) (making failed : Bool) → IsMemoryKept part s → IsMemoryKept part (record s { files = files; making = making; failed = failed })
same_memory part s files making failed k = record {
  base = k.base;
  list = k.list;
  list_holds = k.list_holds;
  sealed = k.sealed;
  active = k.active;
  running = k.running;
  no_reader = k.no_reader;
  writes = k.writes;
  frame = k.frame;
  room = k.room;
  frame_room = k.frame_room;
  few = k.few;
  frame_few = k.frame_few;
  some_log = k.some_log;
  flush = k.flush;
  merge = k.merge;
  snapshots = k.snapshots;
}

-- ---- a frame is appended

pub frame_started_memory : (part : Partition) (s : State) (ws : List Write) → IsMemoryKept part s → StartsFrame s ws → IsMemoryKept part (step (frame_started ws) s)
frame_started_memory part s ws k m = record {
  base = k.base;
  list = k.list;
  list_holds = k.list_holds;
  sealed = k.sealed;
  active = k.active;
  running = λ is. m.running;
  no_reader = k.no_reader;
  writes = k.writes;
  frame = m.each;
  room = k.room;
  frame_room = subst (λ p. HasRoom (after_writes p ws)) (holds k) m.room;
  few = k.few;
  frame_few = m.few;
  some_log = k.some_log;
  flush = k.flush;
  merge = k.merge;
  snapshots = k.snapshots;
}

-- ---- a frame is committed

-- the writes of the log, one frame more
more_writes : (folded : List Write) (sealed : List (List Write)) (old frame : List Write) → folded ++ all_writes (sealed ++ (old ++ frame) ∷ []) ≡ (folded ++ all_writes (sealed ++ old ∷ [])) ++ frame
more_writes folded sealed old frame =
    ap (λ ws. folded ++ ws) (all_writes-append sealed ((old ++ frame) ∷ []) ∙ ap (λ ws. all_writes sealed ++ ws) (all_writes-one (old ++ frame))
    ∙ sym (append_assoc (all_writes sealed) old frame) ∙ ap (λ ws. ws ++ frame) (ap (λ ws. all_writes sealed ++ ws) (sym (all_writes-one old)) ∙ sym (all_writes-append sealed (old ∷ []))))
    ∙ sym (append_assoc folded (all_writes (sealed ++ old ∷ [])) frame)

-- the state after a commit, field by field
abbrev pub after_commit : State → Active → List Write → State
after_commit s d ws = record s { active = Some (record { table = table_after (below_active s) d.table ws; writes = d.writes ++ ws }); frame = None }

pub committed_is : (s : State) (d : Active) (ws : List Write) → s.active ≡ Some d → s.frame ≡ Some ws → step frame_committed s ≡ after_commit s d ws
committed_is s d ws is_active is_frame =
    ap (λ a. record s { active = a; frame = None }) (ap (λ a. committed (below_active s) a s.frame) is_active ∙ ap (λ f. committed (below_active s) (Some d) f) is_frame)

pub history_after : (s : State) (d : Active) (ws : List Write) → s.active ≡ Some d → history (after_commit s d ws) ≡ history s ++ ws
history_after s d ws is =
    more_writes s.folded (sealed_logs s.sealed) d.writes ws ∙ ap (λ a. (s.folded ++ all_writes (sealed_logs s.sealed ++ active_logs a)) ++ ws) (sym is)

writes_after : (s : State) (d : Active) (ws : List Write) → s.active ≡ Some d → all_writes (logs (after_commit s d ws)) ≡ all_writes (logs s) ++ ws
writes_after s d ws is = more_writes [] (sealed_logs s.sealed) d.writes ws ∙ ap (λ a. (all_writes (sealed_logs s.sealed ++ active_logs a)) ++ ws) (sym is)

some_not_none : {a : Active} → Some a ≡ None → ⊥
some_not_none e = cc

pub frame_committed_memory : (part : Partition) (s : State) (d : Active) (ws : List Write) → s.active ≡ Some d → s.frame ≡ Some ws → IsMemoryKept part s → IsMemoryKept part (after_commit s d ws)
frame_committed_memory part s d ws is_active is_frame k = record {
  base = k.base;
  list = k.list;
  list_holds = k.list_holds;
  sealed = k.sealed;
  active = table;
  running = λ is. absurd (false≢true is);
  no_reader = λ none. absurd (some_not_none none);
  writes = subst (λ l. All IsStorableWrite l) (sym (writes_after s d ws is_active)) (All-append IsStorableWrite (all_writes (logs s)) ws k.writes (subst (λ f. All IsStorableWrite (frame_writes f)) is_frame k.frame));
  frame = All-nil IsStorableWrite;
  room = room;
  frame_room = room;
  few = few;
  frame_few = few;
  some_log = k.some_log;
  flush = k.flush;
  merge = k.merge;
  snapshots = All-weaker (SnapshotFits s.base (history s)) (SnapshotFits s.base (history (after_commit s d ws))) (λ p fits. record {
    within = subst (λ h. p.number ≤ length h) (sym longer) (omega (arith, fits.within, length-append (history s) ws));
    holds = fits.holds ∙ ap (λ h. after_writes s.base h) (sym (ap (λ h. take p.number h) longer ∙ take-append-le p.number (history s) ws fits.within));
  }) s.snapshots k.snapshots;
}
  where
    old : d.table ≡ table_over (below_active s) d.writes
    old = MatchOption-at_some _ (λ d. d.table ≡ table_over (below_active s) d.writes) d is_active k.active

    table : table_after (below_active s) d.table ws ≡ table_over (below_active s) (d.writes ++ ws)
    table = ap (λ t. table_after (below_active s) t ws) old ∙ sym (fold-append (table_with (shape_in (below_active s))) [] d.writes ws)

    longer : history (after_commit s d ws) ≡ history s ++ ws
    longer = history_after s d ws is_active

    room : HasRoom (after_writes s.base (history (after_commit s d ws)))
    room = subst (λ h. HasRoom (after_writes s.base h)) (sym longer) (subst (λ p. HasRoom p) (sym (after_writes-append s.base (history s) ws)) (subst (λ f. HasRoom (after_writes (after_writes s.base (history s)) (frame_writes f))) is_frame k.frame_room))

    few_before : AreFew (names_after (names_after (names_of s.list) (writes_of (sealed_table s.sealed))) (writes_of d.table ++ ws))
    few_before =
        subst (λ a. AreFew (names_after (names_after (names_of s.list) (writes_of (sealed_table s.sealed))) (writes_of (active_table a) ++ ws))) is_active
        (subst (λ f. AreFew (names_held s (frame_writes f))) is_frame k.frame_few)

    same_names : names_held (after_commit s d ws) [] ≡ names_after (names_after (names_of s.list) (writes_of (sealed_table s.sealed))) (writes_of d.table ++ ws)
    same_names =
        let known = names_after (names_of s.list) (writes_of (sealed_table s.sealed)) in
        ap (λ t. names_after known (writes_of t ++ [])) table
        ∙ names_after-table known (below_active s) (d.writes ++ ws) []
        ∙ ap (λ l. names_after known l) (append-nil (d.writes ++ ws))
        ∙ sym (names_after-table known (below_active s) d.writes ws)
        ∙ sym (ap (λ t. names_after known (writes_of t ++ ws)) old)

    few : AreFew (names_held (after_commit s d ws) [])
    few = subst (λ ns. AreFew ns) (sym same_names) few_before

-- ---- the table is sealed

abbrev pub after_seal : State → Active → State
after_seal s d = record s { sealed = Some (record { table = d.table; logs = d.writes ∷ [] }); active = Some no_writes; making = false }

pub sealed_step : (s : State) (d : Active) → s.active ≡ Some d → step table_sealed s ≡ after_seal s d
sealed_step s d is = ap (λ x. record s { sealed = x; active = Some no_writes; making = false }) (ap sealed_by is)

pub no_flush : (cs : List Content) (flush : Option Flushing) → IsFlushOf cs None flush → flush ≡ None
no_flush cs None fits = refl
no_flush cs (Some j) fits = absurd fits

IsFlushOf-none : (cs : List Content) (sealed : Option Sealed) (flush : Option Flushing) → flush ≡ None → IsFlushOf cs sealed flush
IsFlushOf-none cs sealed flush none = subst (λ f. IsFlushOf cs sealed f) (sym none) tt

-- the state that seals, as one with no sealed table
abbrev pub unsealed : State → Active → State
unsealed s d = record s { sealed = None; active = Some d; frame = None }

pub unsealed_is : (s : State) (d : Active) → s.sealed ≡ None → s.active ≡ Some d → s.frame ≡ None → unsealed s d ≡ s
unsealed_is s d a b c = ap (λ x. record s { sealed = x; active = Some d; frame = None }) (sym a) ∙ ap (λ x. record s { active = x; frame = None }) (sym b) ∙ ap (λ x. record s { frame = x }) (sym c)

pub sealing_memory : (part : Partition) (s : State) (d : Active) → IsMemoryKept part (unsealed s d) → IsMemoryKept part (after_seal (unsealed s d) d)
sealing_memory part s d k = record {
  base = k.base;
  list = k.list;
  list_holds = k.list_holds;
  sealed = k.active ∙ ap (λ ws. table_over (live s.list) ws) (sym (all_writes-one d.writes));
  active = refl;
  running = λ is. absurd (false≢true is);
  no_reader = λ none. absurd (some_not_none none);
  writes = k.writes;
  frame = All-nil IsStorableWrite;
  room = k.room;
  frame_room = k.room;
  few = few;
  frame_few = few;
  some_log = omega arith;
  flush = IsFlushOf-none s.list (Some (record { table = d.table; logs = d.writes ∷ [] })) s.flush (no_flush s.list s.flush k.flush);
  merge = k.merge;
  snapshots = k.snapshots;
}
  where
    few : AreFew (names_held (after_seal (unsealed s d) d) [])
    few = subst (λ l. AreFew (names_after (names_of s.list) l)) (append-nil (writes_of d.table)) k.few

-- ---- an opening ends

abbrev pub unstarted : State → State
unstarted s = record s { sealed = None; active = None; frame = None }

pub unstarted_is : (s : State) → s.sealed ≡ None → s.active ≡ None → s.frame ≡ None → unstarted s ≡ s
unstarted_is s a b c = ap (λ x. record s { sealed = x; active = None; frame = None }) (sym a) ∙ ap (λ x. record s { active = x; frame = None }) (sym b) ∙ ap (λ x. record s { frame = x }) (sym c)

pub starting_memory : (part : Partition) (s : State) → IsMemoryKept part (unstarted s) → IsMemoryKept part (step part_started (unstarted s))
starting_memory part s k = record {
  base = Ascends-after_writes s.base s.folded k.base;
  list = k.list;
  list_holds = k.list_holds;
  sealed = tt;
  active = refl;
  running = λ is. absurd (false≢true is);
  no_reader = λ none. absurd (some_not_none none);
  writes = All-nil IsStorableWrite;
  frame = All-nil IsStorableWrite;
  room = room;
  frame_room = room;
  few = k.few;
  frame_few = k.few;
  some_log = k.some_log;
  flush = k.flush;
  merge = k.merge;
  snapshots = subst (λ ps. All (SnapshotFits (after_writes s.base s.folded) []) ps) (sym (k.no_reader refl)) (All-nil (SnapshotFits (after_writes s.base s.folded) []));
}
  where
    room : HasRoom (after_writes s.base s.folded)
    room = subst (λ h. HasRoom (after_writes s.base h)) (append-nil s.folded) k.room

-- ---- a snapshot is taken

pub snapshot_taken_memory : (part : Partition) (s : State) → IsMemoryKept part s → IsSome s.active → IsMemoryKept part (step snapshot_taken s)
snapshot_taken_memory part s k running = record {
  base = k.base;
  list = k.list;
  list_holds = k.list_holds;
  sealed = k.sealed;
  active = k.active;
  running = k.running;
  no_reader = λ none. absurd (false≢true (subst (λ a. IsSome a) none running));
  writes = k.writes;
  frame = k.frame;
  room = k.room;
  frame_room = k.frame_room;
  few = k.few;
  frame_few = k.frame_few;
  some_log = k.some_log;
  flush = k.flush;
  merge = k.merge;
  snapshots = All-cons (SnapshotFits s.base (history s)) (record { number = length (history s); list = s.list; sealed = sealed_table s.sealed; active = active_table s.active }) s.snapshots
      (record { within = omega arith; holds = holds k ∙ ap (λ h. after_writes s.base h) (sym (take_all (length (history s)) (history s) (omega arith))) }) k.snapshots;
}

-- ---- jobs

pub flush_begun_memory : (part : Partition) (s : State) → IsMemoryKept part s → IsSome s.sealed → IsMemoryKept part (record s { flush = Some (flushing_of s) })
flush_begun_memory part s k there = record {
  base = k.base;
  list = k.list;
  list_holds = k.list_holds;
  sealed = k.sealed;
  active = k.active;
  running = k.running;
  no_reader = k.no_reader;
  writes = k.writes;
  frame = k.frame;
  room = k.room;
  frame_room = k.frame_room;
  few = k.few;
  frame_few = k.frame_few;
  some_log = k.some_log;
  flush = fits s.sealed k.some_log there;
  merge = k.merge;
  snapshots = k.snapshots;
}
  where
    fits : (o : Option Sealed) → IfSome o (λ d. 0 < length d.logs) → IsSome o → IsFlushOf s.list o (Some (record { from = last_of s.list + 1; to = last_of s.list + length (sealed_logs o) }))
    fits None some is = absurd (false≢true is)
    fits (Some d) some is = record { some = some; from = refl; to = refl }

pub merge_begun_memory : (part : Partition) (s : State) (run : Run) (c : Content) → IsMemoryKept part s → 2 ≤ run.length → run.first + run.length ≤ length s.list → IsMerge (in_run run s.list) c
    → IsMemoryKept part (record s { merge = Some (record { run = run; target = c }) })
merge_begun_memory part s run c k two within is_merge = record {
  base = k.base;
  list = k.list;
  list_holds = k.list_holds;
  sealed = k.sealed;
  active = k.active;
  running = k.running;
  no_reader = k.no_reader;
  writes = k.writes;
  frame = k.frame;
  room = k.room;
  frame_room = k.frame_room;
  few = k.few;
  frame_few = k.frame_few;
  some_log = k.some_log;
  flush = k.flush;
  merge = record { is_merge = is_merge; two = two; within = within; apart = uncovered_apart s.list c.from c.to (merge_not_covered part run s.list c k.list two within is_merge) };
  snapshots = k.snapshots;
}

-- the state whose flush is installed, as one with a sealed table
abbrev pub flushing : State → Sealed → Option Flushing → State
flushing s d j = record s { sealed = Some d; flush = j }

pub flushing_is : (s : State) (d : Sealed) (j : Option Flushing) → s.sealed ≡ Some d → s.flush ≡ j → flushing s d j ≡ s
flushing_is s d j a b = ap (λ x. record s { sealed = x; flush = j }) (sym a) ∙ ap (λ x. record s { flush = x }) (sym b)

-- the list then holds what the table showed over it
pub installed_live : (part : Partition) (s : State) (d : Sealed) (c : Content) → IsFlush part s.list d.table (length d.logs) c → live (s.list ++ c ∷ []) ≡ over (live s.list) d.table
installed_live part s d c f = flushed_live part s.list d.table (length d.logs) c f

pub installed_last : (part : Partition) (s : State) (d : Sealed) (c : Content) → IsFlush part s.list d.table (length d.logs) c → last_of (s.list ++ c ∷ []) ≡ last_of s.list + length d.logs
installed_last part s d c f = last_of-push s.list c ∙ f.to

pub flush_installed_memory : (part : Partition) (s : State) (d : Sealed) (j : Option Flushing) (c : Content) → IsMemoryKept part (flushing s d j) → IsFlush part s.list d.table (length d.logs) c → IsMemoryKept part (step (flush_installed c) (flushing s d j))
flush_installed_memory part s d j c k f = record {
  base = k.base;
  list = flushed_list part s.list d.table (length d.logs) c k.list f;
  list_holds = lives ∙ sealed_holds k;
  sealed = tt;
  active = if_some_map (λ x. x.table ≡ table_over (below_active (flushing s d j)) x.writes) (λ x. x.table ≡ table_over (live (s.list ++ c ∷ [])) x.writes) s.active (λ x is old. old ∙ ap (λ p. table_over p x.writes) (sym lives)) k.active;
  running = k.running;
  no_reader = k.no_reader;
  writes = All-back IsStorableWrite (all_writes d.logs) (all_writes (active_logs s.active)) (subst (λ l. All IsStorableWrite l) (all_writes-append d.logs (active_logs s.active)) k.writes);
  frame = k.frame;
  room = subst (λ h. HasRoom (after_writes s.base h)) (sym same) k.room;
  frame_room = subst (λ h. HasRoom (after_writes (after_writes s.base h) (frame_writes s.frame))) (sym same) k.frame_room;
  few = subst (λ ns. AreFew (names_after ns (writes_of (active_table s.active) ++ []))) (sym names) k.few;
  frame_few = subst (λ ns. AreFew (names_after ns (writes_of (active_table s.active) ++ frame_writes s.frame))) (sym names) k.frame_few;
  some_log = tt;
  flush = tt;
  merge = if_some_map (MergeFits s.list) (MergeFits (s.list ++ c ∷ [])) s.merge (λ m is fits. still_fits m fits) k.merge;
  snapshots = subst (λ h. All (SnapshotFits s.base h) s.snapshots) (sym same) k.snapshots;
}
  where
    lives : live (s.list ++ c ∷ []) ≡ below_active (flushing s d j)
    lives = installed_live part s d c f

    same : (s.folded ++ all_writes d.logs) ++ all_writes (active_logs s.active) ≡ history (flushing s d j)
    same = append_assoc s.folded (all_writes d.logs) (all_writes (active_logs s.active)) ∙ ap (λ ws. s.folded ++ ws) (sym (all_writes-append d.logs (active_logs s.active)))

    names : names_of (s.list ++ c ∷ []) ≡ names_after (names_of s.list) (writes_of d.table)
    names = names_of-push s.list c ∙ f.names

    still_fits : (m : Merging) → MergeFits s.list m → MergeFits (s.list ++ c ∷ []) m
    still_fits m fits =
        let e : MergeTarget s.list m = merge_target part s.list m k.list fits in
        record {
          is_merge = subst (λ r. IsMerge r m.target) (sym (in_run-append m.run s.list (c ∷ []) fits.within)) fits.is_merge;
          two = fits.two;
          within = omega (arith, fits.within, length-append s.list (c ∷ []));
          apart = All-append (λ x. file_of x ≢ file_of m.target) s.list (c ∷ []) fits.apart
              (All-cons (λ x. file_of x ≢ file_of m.target) c [] (λ same. omega (arith, file_from c m.target same, f.goes_on.next, e.order, e.to)) (All-nil (λ x. file_of x ≢ file_of m.target)));
        }

abbrev pub merging : State → Merging → State
merging s m = record s { merge = Some m }

pub merge_installed_memory : (part : Partition) (s : State) (m : Merging) → IsMemoryKept part (merging s m) → IsMemoryKept part (step merge_installed (merging s m))
merge_installed_memory part s m k = record {
  base = k.base;
  list = r.list;
  list_holds = r.live ∙ k.list_holds;
  sealed = if_some_map (λ d. d.table ≡ table_over (live s.list) (all_writes d.logs)) (λ d. d.table ≡ table_over (live cs) (all_writes d.logs)) s.sealed (λ d is old. old ∙ ap (λ p. table_over p (all_writes d.logs)) (sym r.live)) k.sealed;
  active = if_some_map (λ d. d.table ≡ table_over (below_active s) d.writes) (λ d. d.table ≡ table_over (over (live cs) (sealed_table s.sealed)) d.writes) s.active (λ d is old. old ∙ ap (λ p. table_over (over p (sealed_table s.sealed)) d.writes) (sym r.live)) k.active;
  running = k.running;
  no_reader = k.no_reader;
  writes = k.writes;
  frame = k.frame;
  room = k.room;
  frame_room = k.frame_room;
  few = subst (λ ns. AreFew (names_after (names_after ns (writes_of (sealed_table s.sealed))) (writes_of (active_table s.active) ++ []))) (sym r.names) k.few;
  frame_few = subst (λ ns. AreFew (names_after (names_after ns (writes_of (sealed_table s.sealed))) (writes_of (active_table s.active) ++ frame_writes s.frame))) (sym r.names) k.frame_few;
  some_log = k.some_log;
  flush = IsFlushOf-same s.list cs s.sealed s.flush r.last k.flush;
  merge = tt;
  snapshots = k.snapshots;
}
  where
    cs : List Content
    cs = swapped m.run m.target s.list

    r : Replaces part s.list (swapped m.run m.target s.list) m.target
    r = swapped_replaces part m.run s.list m.target k.list k.merge.is_merge

    IsFlushOf-same : (old new : List Content) (sealed : Option Sealed) (flush : Option Flushing) → last_of new ≡ last_of old → IsFlushOf old sealed flush → IsFlushOf new sealed flush
    IsFlushOf-same old new sealed None last fits = tt
    IsFlushOf-same old new None (Some j) last fits = fits
    IsFlushOf-same old new (Some d) (Some j) last fits = record { some = fits.some; from = omega (arith, fits.from, last); to = omega (arith, fits.to, last) }

-- ---- an opening begins, and a state is told from its list on

pub replayed_logs : (cs : List Content) (ls : List (List Write)) → sealed_logs (replayed cs ls) ≡ ls
replayed_logs cs [] = refl
replayed_logs cs (ws ∷ ls) = refl

pub opened_logs : (picture : Picture) (cs : List Content) (ls : List (List Write)) → logs (opened picture cs ls) ≡ ls
opened_logs picture cs ls = append-nil (sealed_logs (replayed cs ls)) ∙ replayed_logs cs ls

pub opened_memory : (part : Partition) (picture : Picture) (cs : List Content) (ls : List (List Write)) → Opens part picture cs ls → IsMemoryKept part (opened picture cs ls)
opened_memory part picture cs ls o = record {
  base = Ascends-live cs;
  list = o.list;
  list_holds = refl;
  sealed = table ls;
  active = tt;
  running = λ is. absurd (false≢true is);
  no_reader = λ none. refl;
  writes = subst (λ l. All IsStorableWrite (all_writes l)) (sym (opened_logs picture cs ls)) o.writes;
  frame = All-nil IsStorableWrite;
  room = room;
  frame_room = room;
  few = few;
  frame_few = few;
  some_log = some ls;
  flush = tt;
  merge = tt;
  snapshots = All-nil (SnapshotFits (live cs) (all_writes (logs (opened picture cs ls))));
}
  where
    table : (ls : List (List Write)) → IfSome (replayed cs ls) (λ d. d.table ≡ table_over (live cs) (all_writes d.logs))
    table [] = tt
    table (ws ∷ ls) = refl

    some : (ls : List (List Write)) → IfSome (replayed cs ls) (λ d. 0 < length d.logs)
    some [] = tt
    some (ws ∷ ls) = omega arith

    room : HasRoom (after_writes (live cs) (all_writes (logs (opened picture cs ls))))
    room = subst (λ l. HasRoom (after_writes (live cs) (all_writes l))) (sym (opened_logs picture cs ls)) o.room

    names : (ls : List (List Write)) → names_after (names_of cs) (writes_of (sealed_table (replayed cs ls)) ++ []) ≡ names_after (names_of cs) (all_writes ls)
    names [] = refl
    names (ws ∷ ls) = names_after-table (names_of cs) (live cs) (all_writes (ws ∷ ls)) [] ∙ ap (λ l. names_after (names_of cs) l) (append-nil (all_writes (ws ∷ ls)))

    few : AreFew (names_held (opened picture cs ls) [])
    few = subst (λ l. AreFew (names_after (names_of cs) l)) (append-nil (writes_of (sealed_table (replayed cs ls)))) (subst (λ ns. AreFew ns) (sym (names ls)) o.few)

pub same_store : (part : Partition) (s : State) → IsMemoryKept part s → after_writes (live s.list) (all_writes (logs s)) ≡ after_writes s.base (history s)
same_store part s k = ap (λ p. after_writes p (all_writes (logs s))) k.list_holds ∙ sym (after_writes-append s.base s.folded (all_writes (logs s)))

pub rebased_memory : (part : Partition) (s : State) → IsMemoryKept part s → IsMemoryKept part (rebased s)
rebased_memory part s k = record {
  base = Ascends-live s.list;
  list = k.list;
  list_holds = refl;
  sealed = k.sealed;
  active = k.active;
  running = k.running;
  no_reader = λ none. refl;
  writes = k.writes;
  frame = k.frame;
  room = subst (λ p. HasRoom p) (sym (same_store part s k)) k.room;
  frame_room = subst (λ p. HasRoom (after_writes p (frame_writes s.frame))) (sym (same_store part s k)) k.frame_room;
  few = k.few;
  frame_few = k.frame_few;
  some_log = k.some_log;
  flush = k.flush;
  merge = k.merge;
  snapshots = All-nil (SnapshotFits (live s.list) (all_writes (logs s)));
}
