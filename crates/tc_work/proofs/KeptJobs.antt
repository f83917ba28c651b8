-- Calls that move documents by jobs, one after another: the jobs that are out stay those of the part.
use Rattle.std.proofs.Common.{◌≡◌, ◌∙◌, ◌+◌, ◌-◌, ◌++◌, ◌∷◌, [], ℕ, Bool, true, false, List, Option, Some, None, take, drop, is_some, refl, sym, ap, subst, arith}
use Rattle.std.specs.Prelude.{IfSome, option_map}
use Rattle.std.proofs.lemmas.List.{drop-append-le, length-append, length-drop, take-append-le}
use Rattle.tc_component.specs.declared.head.Head.{Head}
use Rattle.tc_component.specs.Loading.{ComponentState}
use Rattle.tc_flush.specs.Jobs as flush
use Rattle.tc_list.specs.Intervals.{first_of, last_of}
use Rattle.tc_list.specs.Runs.{in_run}
use Rattle.tc_list.specs.declared.policy.Policy.{Policy}
use Rattle.tc_list.specs.declared.run.Run.{Run}
use Rattle.tc_merge.specs.Jobs as merge
use Rattle.tc_part.specs.FilesOut.{OnlyDevicesOut}
use Rattle.tc_part.specs.MergeEnds.{merged_name, run_out}
use Rattle.tc_part.specs.Ready.{LiesIn}
use Rattle.tc_part_model.specs.PartState.{PartState, IsTold}
use Rattle.tc_running.specs.Jobs.{JobsState}
use Rattle.tc_store.specs.Counted.{IsCounted}
use Rattle.tc_store.specs.Moments.{IfTold}
use Rattle.tc_store.specs.declared.file_name.FileName.{FileName}
use Rattle.tc_store.specs.Disk.{Disk}
use Rattle.tc_store.specs.DiskFile.{DiskFile}
use Rattle.tc_store.specs.StoreCalls.{fresh_file_at}
use Rattle.tc_work.specs.JobsOut.{AreOut, IsFlushOf, IsMergeOf, OutAs, flusher_of, merger_of, watched_part}
use Rattle.tc_work.specs.Moving.{Eyes, Working, beside, told_by, works_by, IsOutBy, IsPickedBy, KeepsJobs, ListsPicked, MovesWell}
use Rattle.tc_work.specs.Settling.{HasOnlyMoved}
use Rattle.tc_work.proofs.JobsGoOn.{made_still, told_still}
use Rattle.tc_work.proofs.MovedDocuments.{moved_then}
use Rattle.tc_work.proofs.PickedMerges.{listed_same, listed_then}
use Rattle.tc_work.proofs.StayingStores.{stays_then}
use Rattle.tc_work.proofs.Watches.{faults_same, main_watched, then_watched}

-- ---- two calls

module _ {S D F W : Type 0} (e : Eyes S D F W) (old mid new : Working S D F W) where
  pub keeps_then : (First Second Failed : Type 0) → KeepsJobs e First old mid → KeepsJobs e Second mid new → (Failed → Second) → KeepsJobs e Failed old new
  keeps_then First Second Failed one two cause = record {
    jobs = two.jobs;
    moved = moved_then old.part mid.part new.part one.moved two.moved;
    untold = λ none. two.untold (one.untold none);
    tells = λ tells. two.tells (one.tells tells);
    devices = λ tells only. two.devices (one.tells tells) (one.devices tells only);
    watched = then_watched e.counts First Second Failed (watched_part old.part old.jobs) (watched_part mid.part mid.jobs) (watched_part new.part new.jobs) one.watched two.watched cause;
  }

  pub well_then : MovesWell e old mid → MovesWell e mid new → MovesWell e old new
  well_then one two = record {
    sound = two.sound;
    stays = stays_then (works_by e old) (works_by e mid) (works_by e new) (told_by e old) (told_by e mid) (told_by e new) one.stays two.stays;
    log_out = λ out. two.log_out (one.log_out out);
  }

  pub lists_then : (policy : Policy) → ListsPicked e policy old mid → ListsPicked e policy mid new → ListsPicked e policy old new
  lists_then policy one two = record { listed = listed_then policy e.size old.part mid.part new.part one.listed two.listed; picked = two.picked }

-- nothing was done
pub lists_nothing : {S D F W : Type 0} (e : Eyes S D F W) (w : Working S D F W) (policy : Policy) → IsPickedBy e policy w → ListsPicked e policy w w
lists_nothing e w policy picked = record { listed = listed_same policy e.size w.part w.part refl refl; picked = picked }

-- ---- a job that is out stays the part's

module _ {S D F W : Type 0} (disks : S → List Disk) (history : D → List DiskFile) (content : F → Option (List ℕ)) (name_of : D → FileName) (old new : PartState S D F W) (untold : disks old.store ≡ [] → disks new.store ≡ []) where
  -- while the sealed table stays, and the generation of the active one
  pub flush_out_still : (o : Option (flush.JobState D W))
      → new ≡ record old { store = new.store; main = new.main; merger = new.merger; list = new.list; active = new.active; log = new.log; taken = new.taken; live = new.live; writes = new.writes; staged = new.staged; merging = new.merging; failed = new.failed }
      → OutAs old.flushing o (IsFlushOf disks history name_of old) → OutAs new.flushing o (IsFlushOf disks history name_of new)
  flush_out_still o same is = subst (λ (s : PartState S D F W). OutAs s.flushing o (IsFlushOf disks history name_of s)) (sym same) (at old.flushing o is)
    where
      there : PartState S D F W
      there = record old { store = new.store; main = new.main; merger = new.merger; list = new.list; active = new.active; log = new.log; taken = new.taken; live = new.live; writes = new.writes; staged = new.staged; merging = new.merging; failed = new.failed }

      at : (b : Bool) (o : Option (flush.JobState D W)) → OutAs b o (IsFlushOf disks history name_of old) → OutAs b o (IsFlushOf disks history name_of there)
      at false None is = tt
      at false (Some job) is = is
      at true None is = is
      at true (Some job) is = record { table = is.table; log = is.log; lawful = is.lawful; head = is.head; name = is.name; device = made_still _ (disks old.store) (disks new.store) (history job.device) untold is.device }

  -- while the list stays, and the run
  pub merge_out_still : (o : Option (merge.JobState F D W))
      → new ≡ record old {
        store = new.store;
        main = new.main;
        flusher = new.flusher;
        sealed = new.sealed;
        sealed_log = new.sealed_log;
        active = new.active;
        log = new.log;
        generation = new.generation;
        taken = new.taken;
        live = new.live;
        writes = new.writes;
        staged = new.staged;
        flushing = new.flushing;
        failed = new.failed;
      }
      → OutAs (is_some old.merging) o (IsMergeOf disks history content name_of old) → OutAs (is_some new.merging) o (IsMergeOf disks history content name_of new)
  merge_out_still o same is = subst (λ (s : PartState S D F W). OutAs (is_some s.merging) o (IsMergeOf disks history content name_of s)) (sym same) (at (is_some old.merging) o is)
    where
      there : PartState S D F W
      there = record old {
        store = new.store;
        main = new.main;
        flusher = new.flusher;
        sealed = new.sealed;
        sealed_log = new.sealed_log;
        active = new.active;
        log = new.log;
        generation = new.generation;
        taken = new.taken;
        live = new.live;
        writes = new.writes;
        staged = new.staged;
        flushing = new.flushing;
        failed = new.failed;
      }

      at : (b : Bool) (o : Option (merge.JobState F D W)) → OutAs b o (IsMergeOf disks history content name_of old) → OutAs b o (IsMergeOf disks history content name_of there)
      at false None is = tt
      at false (Some job) is = is
      at true None is = is
      at true (Some job) is = record { within = is.within; run = is.run; head = is.head; name = is.name; device = made_still _ (disks old.store) (disks new.store) (history job.device) untold is.device; run_told = is.run_told }

  -- while a component is listed behind the others
  pub merge_out_behind : (o : Option (merge.JobState F D W)) (c : ComponentState F) → new.merging ≡ old.merging → new.list ≡ old.list ++ c ∷ [] → (new.number ≡ old.number) × (new.count ≡ old.count)
      → (is_some old.merging ≡ true → merged_name (run_out new) new ≡ merged_name (run_out old) old)
      → OutAs (is_some old.merging) o (IsMergeOf disks history content name_of old) → OutAs (is_some new.merging) o (IsMergeOf disks history content name_of new)
  merge_out_behind o c merging list partition named is = subst (λ m. OutAs (is_some m) o (IsMergeOf disks history content name_of new)) (sym merging) (at (is_some old.merging) refl o is)
    where
      run : run_out new ≡ run_out old
      run = ap (λ m. run_out (record old { merging = m })) merging

      in_run_behind : (r : Run) (xs : List (ComponentState F)) (x : ComponentState F) → LiesIn xs r → in_run r (xs ++ x ∷ []) ≡ in_run r xs
      in_run_behind r xs x within =
          ap (take (r.last + 1 - r.first)) (drop-append-le r.first xs (x ∷ []) (omega (arith, within.0, within.1)))
          ∙ take-append-le (r.last + 1 - r.first) (drop r.first xs) (x ∷ []) (omega (arith, within.0, within.1, length-drop r.first xs))

      still : LiesIn old.list (run_out old) → in_run (run_out old) old.list ≡ in_run (run_out new) new.list
      still within = sym (in_run_behind (run_out old) old.list c within) ∙ ap (λ r. in_run r (old.list ++ c ∷ [])) (sym run) ∙ ap (in_run (run_out new)) (sym list)

      over : ℕ → ℕ → List (ComponentState F) → Head
      over number count xs = record { number = number; count = count; from = first_of xs; to = last_of xs }

      at : (b : Bool) → is_some old.merging ≡ b → (o : Option (merge.JobState F D W)) → OutAs b o (IsMergeOf disks history content name_of old) → OutAs b o (IsMergeOf disks history content name_of new)
      at false out None is = tt
      at false out (Some job) is = is
      at true out None is = is
      at true out (Some job) is = record {
        within = subst (λ xs. LiesIn xs (run_out new)) (sym list) (subst (λ r. LiesIn (old.list ++ c ∷ []) r) (sym run) (is.within.0, omega (arith, is.within.1, length-append old.list (c ∷ []))));
        run = is.run ∙ still is.within;
        head = is.head ∙ ap (over old.number old.count) (still is.within) ∙ ap (λ n. over n old.count (in_run (run_out new) new.list)) (sym partition.0) ∙ ap (λ n. over new.number n (in_run (run_out new) new.list)) (sym partition.1);
        name = is.name ∙ sym (named out);
        device = record { was = is.device.was; made = is.device.made ∙ ap (λ name. fresh_file_at name is.device.was) (sym (named out)); told = (made_still (merged_name (run_out old) old) (disks old.store) (disks new.store) (history job.device) untold is.device).told };
        run_told = is.run_told;
      }

-- whether the reader's watch is at home or out
pub out_as_read : {S D F W : Type 0} (disks : S → List Disk) (history : D → List DiskFile) (content : F → Option (List ℕ)) (name_of : D → FileName) (old : PartState S D F W) (reader : Option W) (jobs : JobsState F D W)
    → AreOut disks history content name_of old jobs → AreOut disks history content name_of (record old { reader = reader }) jobs
out_as_read {S = S} {D = D} {F = F} {W = W} disks history content name_of old reader jobs out = record { flush = flushing old.flushing jobs.flush out.flush; merge = merging (is_some old.merging) jobs.merge out.merge }
  where
    new : PartState S D F W
    new = record old { reader = reader }

    flushing : (b : Bool) (o : Option (flush.JobState D W)) → OutAs b o (IsFlushOf disks history name_of old) → OutAs b o (IsFlushOf disks history name_of new)
    flushing false None is = tt
    flushing false (Some job) is = is
    flushing true None is = is
    flushing true (Some job) is = record { table = is.table; log = is.log; lawful = is.lawful; head = is.head; name = is.name; device = is.device }

    merging : (b : Bool) (o : Option (merge.JobState F D W)) → OutAs b o (IsMergeOf disks history content name_of old) → OutAs b o (IsMergeOf disks history content name_of new)
    merging false None is = tt
    merging false (Some job) is = is
    merging true None is = is
    merging true (Some job) is = record { within = is.within; run = is.run; head = is.head; name = is.name; device = is.device; run_told = is.run_told }

-- ---- one call

-- nothing was done
pub keeps_same : {S D F W : Type 0} (e : Eyes S D F W) (w : Working S D F W) (Failed : Type 0) → IsOutBy e w → (Failed → ⊥) → KeepsJobs e Failed w w
keeps_same e w Failed out never = record {
  jobs = out;
  moved = refl;
  untold = λ none. none;
  tells = λ tells. tells;
  devices = λ tells only. only;
  watched = record { main = omega arith; flusher = faults_same (option_map e.counts (watched_part w.part w.jobs).flusher); merger = faults_same (option_map e.counts (watched_part w.part w.jobs).merger); cause = λ failed. absurd (never failed) };
}

-- no job was begun and no table sealed: nothing changed but the store, and whether the part failed
pub keeps_unless_failed : {S D F W : Type 0} (e : Eyes S D F W) (old new : PartState S D F W) (jobs : JobsState F D W) (Failed First : Type 0)
    → IsOutBy e (beside old jobs) → new ≡ record old { store = new.store; main = new.main; failed = new.failed } → (e.disks old.store ≡ [] → e.disks new.store ≡ [])
    → (OnlyDevicesOut (told_by e (beside old jobs)) → OnlyDevicesOut (told_by e (beside new jobs))) → IsCounted First (e.counts old.main) (e.counts new.main) → (Failed → First) → KeepsJobs e Failed (beside old jobs) (beside new jobs)
keeps_unless_failed {S = S} {D = D} {F = F} {W = W} e old new jobs Failed First out same untold devices counted cause = record {
  jobs = record {
    flush = flush_out_still e.disks e.history e.content e.name_of old new untold jobs.flush
        (subst (λ (s : PartState S D F W). s ≡ record old { store = s.store; main = s.main; merger = s.merger; list = s.list; active = s.active; log = s.log; taken = s.taken; live = s.live; writes = s.writes; staged = s.staged; merging = s.merging; failed = s.failed }) (sym same) refl) out.flush;
    merge = merge_out_still e.disks e.history e.content e.name_of old new untold jobs.merge
        (subst (λ (s : PartState S D F W). s ≡ record old {
          store = s.store;
          main = s.main;
          flusher = s.flusher;
          sealed = s.sealed;
          sealed_log = s.sealed_log;
          active = s.active;
          log = s.log;
          generation = s.generation;
          taken = s.taken;
          live = s.live;
          writes = s.writes;
          staged = s.staged;
          flushing = s.flushing;
          failed = s.failed;
        }) (sym same) refl) out.merge;
  };
  moved = subst (λ (s : PartState S D F W). HasOnlyMoved old s) (sym same) refl;
  untold = untold;
  tells = λ told. record {
    active = told_still (e.disks old.store) (e.disks new.store) _ untold (subst (λ (s : PartState S D F W). IfTold (e.disks old.store) (λ disk. IsTold (e.history s.log.device))) (sym same) told.active);
    sealed = told_still (e.disks old.store) (e.disks new.store) _ untold (subst (λ (s : PartState S D F W). IfTold (e.disks old.store) (λ disk. IfSome (told_by e (beside s jobs)).sealed_log (λ moments. IsTold moments))) (sym same) told.sealed);
  };
  devices = λ tells. devices;
  watched = main_watched e.counts Failed First (watched_part old jobs) (watched_part new jobs) counted (ap (λ (s : PartState S D F W). flusher_of s.flusher jobs.flush) same) (ap (λ (s : PartState S D F W). merger_of s.merger jobs.merge) same) cause;
}
