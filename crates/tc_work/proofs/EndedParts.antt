-- A part that is closed once its jobs have ended: what is left of it.
use Rattle.std.proofs.Common.{◌≡◌, ◌∙◌, ◌<◌, ◌-◌, ℕ, Bool, true, false, List, [], ◌∷◌, Option, Some, None, length, is_some, refl, sym, ap, subst, arith, inl, inr}
use Rattle.std.specs.Prelude.{◌⊎◌, Result, Ok, Err, OnErr, OnOk, if◌then◌else◌, option_map}
use Rattle.std.proofs.lemmas.Bool.{true≢false}
use Rattle.std.proofs.lemmas.List.{length-map}
use Rattle.std.proofs.lemmas.Slice.Zip.{AllZip-long}
use Rattle.tc_flush.proofs.Outcomes.{if_err, ok_both, ok_then}
use Rattle.tc_list.specs.Policies.{listed_least}
use Rattle.tc_list.specs.declared.policy.Policy.{Policy}
use Rattle.tc_log.specs.Appending.{LogState}
use Rattle.tc_lsm_model.specs.Contents.{Content, Partition}
use Rattle.tc_machine.specs.State.{logs}
use Rattle.tc_plain_model.specs.Writes.{Pairs, Write}
use Rattle.tc_part.specs.Closing.{HasLogsOf, brought_home, logs_length}
use Rattle.tc_part.specs.FilesOut.{LogIsOut, OnlyDevicesOut, TellsLogs}
use Rattle.tc_part.specs.OwnComponents.{AreOwnComponents}
use Rattle.tc_part_model.specs.Leaving.{FailedMomentsLeaveStore, KeepsStore, OpensAs}
use Rattle.tc_part_model.specs.Meaning.{HasFailedAs, IsOfContent, IsPart}
use Rattle.tc_part_model.specs.PartState.{PartState, Told, AreTold, IsTold, told_component}
use Rattle.tc_part_model.specs.PartView.{PartView, state_of, store_of}
use Rattle.tc_part_model.proofs.DeviceFiles.{comes_untold}
use Rattle.tc_part_model.proofs.FollowingMoments.{run_on}
use Rattle.tc_store.specs.declared.file_name.FileName.{FileName}
use Rattle.tc_store.specs.declared.file_name.FileName.TheVariants.{Log}
use Rattle.tc_store.specs.Disk.{Disk, home, is_out, out, put, same_name, IsThere}
use Rattle.tc_store.specs.DiskFile.{DiskFile}
use Rattle.tc_store.specs.Images.{IsImageOf}
use Rattle.tc_store.specs.Moments.{IfTold}
use Rattle.tc_store.specs.StoreCalls.{comes_home}
use Rattle.tc_work.specs.declared.fault.EngineFault.{EngineFault}
use Rattle.tc_work.specs.Damage.{HasMetDamage, IsPartDamage}
use Rattle.tc_work.specs.Ending.{EndsSmall, Finishes, GivesBack}
use Rattle.tc_work.specs.Faults.{IfDamaged}
use Rattle.tc_work.specs.JobsOut.{flusher_of, merger_of, watched_part}
use Rattle.tc_work.specs.Moving.{Eyes, Working, beside, told_by, works_by, KeepsJobs, MayMove, Moves}
use Rattle.tc_work.specs.Settling.{IsWatchedIn, MomentsLeavePairs, PicksNone, TellsFiles}
use Rattle.tc_work.proofs.EmptyLogs.{one_log_opens, unwritten}
use Rattle.tc_work.proofs.GivenBack.{failed_then}
use Rattle.tc_work.proofs.MergeFaults.{fault_damage_so}
use Rattle.tc_work.proofs.MovingCalls.{sealed_still}
use Rattle.tc_work.proofs.OnResults.{on_err_is, on_err_only, on_ok}
use Rattle.tc_work.proofs.StoredMoments.{moments_of, no_moments, store_moments, then_moments, where_told}

-- ---- files that come home

there_put : (name other : FileName) (f : DiskFile) (disk : Disk) (b : Bool) → IsThere (disk name) → IsThere (if b then home f else disk name)
there_put name other f disk true there = tt
there_put name other f disk false there = there

there_home : (name other : FileName) (log : List DiskFile) (disks : List Disk) → IfTold disks (λ disk. IsThere (disk name)) → IfTold (comes_home other (λ f. home f) log disks) (λ disk. IsThere (disk name))
there_home name other [] disks there = there
there_home name other (f ∷ more) [] there = tt
there_home name other (f ∷ more) (disk ∷ past) there = either (is_out (disk other))
  where
    either : (b : Bool) → IfTold (if b then put other (home f) disk ∷ disk ∷ past else disk ∷ past) (λ disk. IsThere (disk name))
    either true = there_put name other f disk (same_name other name) there
    either false = there

-- a file that is there stays there, whichever logs come home
there_brought : (name first : FileName) (log : List DiskFile) (second : Option (FileName × List DiskFile)) (disks : List Disk) → IfTold disks (λ disk. IsThere (disk name)) → IfTold (brought_home first log second disks) (λ disk. IsThere (disk name))
there_brought name first log None disks there = there_home name first log disks there
there_brought name first log (Some (other, sealed)) disks there = there_home name other sealed (comes_home first (λ f. home f) log disks) (there_home name first log disks there)

log_there : (disks : List Disk) (log : List DiskFile) (generation : ℕ) → IfTold disks (λ disk. (disk (Log generation) ≡ out) × IsTold log) → IfTold disks (λ disk. IsThere (disk (Log generation)))
log_there [] log generation is = tt
log_there (disk ∷ past) log generation is = subst IsThere (sym is.0) tt

brought_untold : (first : FileName) (log : List DiskFile) (second : Option (FileName × List DiskFile)) (disks : List Disk) → disks ≡ [] → brought_home first log second disks ≡ []
brought_untold first log None disks none = ap (comes_home first (λ f. home f) log) none ∙ comes_untold first (λ f. home f) log
brought_untold first log (Some (other, sealed)) disks none = ap (comes_home other (λ f. home f) sealed) (ap (comes_home first (λ f. home f) log) none ∙ comes_untold first (λ f. home f) log) ∙ comes_untold other (λ f. home f) sealed

-- what holds wherever a store tells that told before
if_told : {X Y : Type 0} (xs : List X) (ys : List Y) (P : Y → Type 0) → (xs ≡ [] → ys ≡ []) → (IsTold xs → IfTold ys P) → IfTold ys P
if_told [] ys P untold holds = subst (λ zs. IfTold zs P) (sym (untold refl)) tt
if_told (x ∷ xs) ys P untold holds = holds tt

-- so few are listed as components
few_listed : {C : Type 0} (policy : Policy) (list : List C) (cs : List Content) → length cs ≡ length list → (length list < listed_least policy) ⊎ (length list < 2) → (length cs < listed_least policy) ⊎ (length cs < 2)
few_listed policy list cs same (inl below) = inl (omega (arith, same, below))
few_listed policy list cs same (inr two) = inr (omega (arith, same, two))

-- ---- a part is closed

module _ {S D F W : Type 0} (e : Eyes S D F W) (size_of : D → ℕ) (new : Working S D F W) (store : S) (main_watch flush_watch merge_watch read_watch : W) where
  abbrev u : Told
  u = told_by e new

  abbrev disks : List Disk
  disks = e.disks store

  -- what the call of the part promises
  pub record IsClosed : Type 0 where
    pub home : disks ≡ brought_home (Log u.generation) u.log (option_map (λ moments. (Log (u.generation - 1), moments)) u.sealed_log) u.disks
    pub brought_in : TellsLogs u → OnlyDevicesOut u → IfTold disks (λ disk. (name : FileName) → is_out (disk name) ≡ false)
    pub kept : (p : PartView) → IsPart u p → IfTold disks (KeepsStore p.part (store_of p) None)
    pub failed : (p : PartView) (frame : Option (List Write)) → HasFailedAs u p frame → HasLogsOf u p → IfTold disks (KeepsStore p.part (store_of p) frame)
    pub opens : (p : PartView) → IsPart u p → IfTold disks (OpensAs p.part p.list (logs (state_of p)) (logs_length size_of new.part.log new.part.sealed_log))
    pub moments : (p : PartView) → IsPart u p → FailedMomentsLeaveStore p None u disks
    pub failed_moments : (p : PartView) (frame : Option (List Write)) → HasFailedAs u p frame → HasLogsOf u p → FailedMomentsLeaveStore p frame u disks
    pub main : main_watch ≡ new.part.main
    pub flusher : Some flush_watch ≡ new.part.flusher
    pub merger : Some merge_watch ≡ new.part.merger
    pub reader : Some read_watch ≡ new.part.reader

  module _ (k : IsClosed) where
    closed_untold : u.disks ≡ [] → disks ≡ []
    closed_untold none = k.home ∙ brought_untold (Log u.generation) u.log (option_map (λ moments. (Log (u.generation - 1), moments)) u.sealed_log) u.disks none

    log_home : LogIsOut u → IfTold disks (λ disk. IsThere (disk (Log u.generation)))
    log_home is_out =
        subst (λ ds. IfTold ds (λ disk. IsThere (disk (Log u.generation)))) (sym k.home)
        (there_brought (Log u.generation) (Log u.generation) u.log (option_map (λ moments. (Log (u.generation - 1), moments)) u.sealed_log) u.disks (log_there u.disks u.log u.generation is_out))

    closed_watched : (Failed : Type 0) (old : Working S D F W) → IsWatchedIn e.counts Failed (watched_part old.part old.jobs) (watched_part new.part new.jobs) → new.jobs.flush ≡ None → new.jobs.merge ≡ None
        → IsWatchedIn e.counts Failed (watched_part old.part old.jobs) (record old.part { main = main_watch; flusher = Some flush_watch; merger = Some merge_watch })
    closed_watched Failed old is no_flush no_merge =
        let flush : flusher_of new.part.flusher new.jobs.flush ≡ Some flush_watch = ap (flusher_of new.part.flusher) no_flush ∙ sym k.flusher in
        let merge : merger_of new.part.merger new.jobs.merge ≡ Some merge_watch = ap (merger_of new.part.merger) no_merge ∙ sym k.merger in
        subst (λ m. IsWatchedIn e.counts Failed (watched_part old.part old.jobs) (record old.part { main = main_watch; flusher = Some flush_watch; merger = m })) merge
        (subst (λ f. IsWatchedIn e.counts Failed (watched_part old.part old.jobs) (record old.part { main = main_watch; flusher = f; merger = merger_of new.part.merger new.jobs.merge })) flush
        (subst (λ w. IsWatchedIn e.counts Failed (watched_part old.part old.jobs) (record old.part { main = w; flusher = flusher_of new.part.flusher new.jobs.flush; merger = merger_of new.part.merger new.jobs.merge })) (sym k.main)
        (record { main = is.main; flusher = is.flusher; merger = is.merger; cause = is.cause })))

    -- ---- of an engine that failed

    module _ (old : Working S D F W) (failed : old.part.failed ≡ true) (keeps : KeepsJobs e ⊥ old new) (log_out : LogIsOut (told_by e old) → LogIsOut u) (stays : (p : PartView) (frame : Option (List Write)) → GivesBack (works_by e old) (works_by e new) p frame (told_by e old) u)
        (nothing : old.jobs.flush ≡ None → old.jobs.merge ≡ None → new.part ≡ old.part) (none_left : (new.jobs.flush ≡ None) × (new.jobs.merge ≡ None))
        (same : (new.part.log ≡ old.part.log) × (new.part.generation ≡ old.part.generation) × (new.part.sealed_log ≡ old.part.sealed_log)
        × (new.part.reader ≡ old.part.reader)) where
      abbrev t : Told
      t = told_by e old

      sealed_same : u.sealed_log ≡ t.sealed_log
      sealed_same = ap (λ (o : Option (LogState D)). option_map (λ (l : LogState D). e.history l.device) o) same.2

      logs_of : (p : PartView) → HasLogsOf t p → HasLogsOf u p
      logs_of p has = record { generation = same.1 ∙ has.generation; sealed_log = ap is_some sealed_same ∙ has.sealed_log; one = has.one }

      never : (Q : Type 0) (p : PartView) → IsPart t p → Q
      never Q p is = absurd (true≢false (sym failed ∙ is.sound))

      pub failed_finishes : (policy : Policy) → Finishes e size_of policy old (Ok tt) store main_watch flush_watch merge_watch read_watch
      failed_finishes policy = record {
        brought_in = λ tells only. k.brought_in (keeps.tells tells) (keeps.devices tells only);
        log = λ is. subst (λ n. IfTold disks (λ disk. IsThere (disk (Log n)))) same.1 (log_home (log_out is));
        kept = λ p is works. never _ p is;
        failed = λ part pairs frame has.
            subst (λ (x : Partition). IfTold disks (KeepsStore x pairs frame)) has.here
            (subst (λ (x : Pairs). IfTold disks (KeepsStore has.view.part x frame)) has.holds (k.failed has.view frame (stays has.view frame has.files has.jobs).0 (logs_of has.view has.logs)));
        opens = λ p is works. never _ p is;
        moments = λ p is works. never _ p is;
        failed_moments = λ part pairs frame has.
            let given = stays has.view frame has.files has.jobs in
            failed_then has.view frame t u disks (ap (λ (l : LogState D). e.history l.device) same.0) sealed_same given.2 (k.failed_moments has.view frame given.0 (logs_of has.view has.logs));
        outcome = λ is. refl;
        damaged = tt;
        undamaged = λ p is tells works. tt;
        unspent = λ spent. absurd (cc);
        idle = λ none. let as_was = nothing none.flush none.merge in (k.main ∙ ap (λ (s : PartState S D F W). s.main) as_was, k.flusher ∙ ap (λ (s : PartState S D F W). s.flusher) as_was, k.merger ∙ ap (λ (s : PartState S D F W). s.merger) as_was);
        home = λ none. subst (λ (s : PartState S D F W). disks ≡ brought_home (Log s.generation) (e.history s.log.device) (option_map (λ moments. (Log (s.generation - 1), moments)) (told_by e (beside s new.jobs)).sealed_log) (e.disks s.store)) (nothing none.flush none.merge) k.home;
        listed = λ none p is. never _ p is;
        watched = closed_watched _ old (record { main = keeps.watched.main; flusher = keeps.watched.flusher; merger = keeps.watched.merger; cause = λ disk. absurd (cc) }) none_left.0 none_left.1;
        reader = k.reader ∙ same.3;
      }

    -- ---- of one that had not

    module _ (old : Working S D F W) (policy : Policy) (r : Result (Unit {0}) EngineFault) (may : MayMove e old) (m : Moves e r old new)
        (left : OnErr r (new.part.failed ≡ true)) (none : OnOk r (PicksNone policy new.part.list)) (none_sealed : OnOk r (new.part.sealed ≡ None))
        (was_sealed : old.part.flushing ≡ is_some old.part.sealed)
        (nothing : old.jobs.flush ≡ None → old.jobs.merge ≡ None → PicksNone policy old.part.list → OnOk r (new.part ≡ old.part))
        (none_left : (new.jobs.flush ≡ None) × (new.jobs.merge ≡ None)) (reader_same : new.part.reader ≡ old.part.reader)
        (sized : IfTold u.log (λ f. size_of new.part.log.device ≡ length f.content)) (stays : IfTold u.log (λ f. IsImageOf f f.content)) (own : AreOwnComponents e.content new.part.number new.part.count new.part.list) where
      abbrev before : Told
      before = told_by e old

      tells_files : IsTold before.disks → TellsFiles before
      tells_files told = record { store = told; components = where_told before.disks (AreTold before.components) told may.ready.components }

      all_untold : before.disks ≡ [] → disks ≡ []
      all_untold is = closed_untold (m.keeps.untold is)

      -- where it succeeded, and where it did not
      by_result : (Q : Type 0) → (r ≡ Ok tt → Q) → ((fault : EngineFault) → r ≡ Err fault → Q) → Q
      by_result Q well ill = at r refl
        where
          at : (x : Result (Unit {0}) EngineFault) → r ≡ x → Q
          at (Ok tt) is = well is
          at (Err fault) is = ill fault is

      pub sound_finishes : Finishes e size_of policy old r store main_watch flush_watch merge_watch read_watch
      sound_finishes = record {
        brought_in = λ tells only. k.brought_in (m.keeps.tells tells) (m.keeps.devices tells only);
        log = ok_then r _ _ (λ well is. subst (λ n. IfTold disks (λ disk. IsThere (disk (Log n)))) m.logs.1 (log_home (well.log_out is))) m.well;
        kept = λ p is works. if_told before.disks disks (KeepsStore p.part (store_of p) None) all_untold (λ told. by_result _
            (λ ok. let v = (on_ok r tt _ ok m.well).stays.stores p is (tells_files told) works in
            subst (λ (x : Partition). IfTold disks (KeepsStore x (store_of p) None)) v.here (subst (λ (x : Pairs). IfTold disks (KeepsStore v.view.part x None)) v.stores (k.kept v.view v.is)))
            (λ fault err. let has = on_err_is r fault _ err m.failed p is (tells_files told) works in
            subst (λ (x : Partition). IfTold disks (KeepsStore x (store_of p) None)) has.here (subst (λ (x : Pairs). IfTold disks (KeepsStore has.view.part x None)) has.holds (k.failed has.view None (failed_files fault err has.view has.files) (failed_logs has.view has.logs)))));
        failed = λ part pairs frame has. absurd (true≢false (sym has.files.failed ∙ may.sound));
        opens = λ p is works. by_result _
            (λ ok. subst (λ x. OnOk x (EndsSmall p.part policy (size_of old.part.log.device) disks)) (sym ok) (small p is works ok))
            (λ fault err. on_err_only r fault _ err);
        moments = λ p is works. at_moments p is works (before.disks) refl;
        failed_moments = λ part pairs frame has. absurd (true≢false (sym has.files.failed ∙ may.sound));
        outcome = λ failed. absurd (true≢false (sym failed ∙ may.sound));
        damaged = if_err r (λ fault. IfDamaged fault (IsPartDamage e.content e.history new.part))
            (λ fault. IfDamaged fault (HasMetDamage e.content e.history old.part))
            (λ fault told. fault_damage_so fault (IsPartDamage e.content e.history new.part) (HasMetDamage e.content e.history old.part)
            (λ damage is. record { part = new.part; moved = m.keeps.moved; own = own; is = is }) told) m.damaged;
        undamaged = m.undamaged;
        unspent = m.unspent;
        idle = λ n. ok_then r _ _ (λ as_was. (k.main ∙ ap (λ (s : PartState S D F W). s.main) as_was, k.flusher ∙ ap (λ (s : PartState S D F W). s.flusher) as_was, k.merger ∙ ap (λ (s : PartState S D F W). s.merger) as_was)) (nothing n.flush n.merge (n.none may.sound));
        home = λ n. ok_then r _ _ (λ as_was. subst (λ (s : PartState S D F W). disks
            ≡ brought_home (Log s.generation) (e.history s.log.device) (option_map (λ moments. (Log (s.generation - 1), moments))
            (told_by e (beside s new.jobs)).sealed_log) (e.disks s.store)) as_was k.home) (nothing n.flush n.merge (n.none may.sound));
        listed = λ n p is. ok_both r _ _ _ (λ as_was sealed.
            let now : IsPart u p = subst (λ (s : PartState S D F W). IsPart (told_by e (beside s new.jobs)) p) (sym as_was) is in
            subst (λ (s : PartState S D F W). IfTold disks (OpensAs p.part p.list (p.active.writes ∷ []) (size_of s.log.device))) as_was
            (one_log_opens u p size_of e.history new.part.log new.part.sealed_log disks now sealed refl (k.opens p now))) (nothing n.flush n.merge (n.none may.sound)) none_sealed;
        watched = closed_watched _ old m.keeps.watched none_left.0 none_left.1;
        reader = k.reader ∙ reader_same;
      }
        where
          failed_files : (fault : EngineFault) → r ≡ Err fault → (v : PartView) → HasFailedAs (record u { failed = true }) v None → HasFailedAs u v None
          failed_files fault err v has = record { failed = on_err_is r fault _ err left; tells = has.tells; files = has.files }

          failed_logs : (v : PartView) → HasLogsOf (record u { failed = true }) v → HasLogsOf u v
          failed_logs v has = record { generation = has.generation; sealed_log = has.sealed_log; one = has.one }

          small : (p : PartView) → IsPart before p → works_by e old p → r ≡ Ok tt → EndsSmall p.part policy (size_of old.part.log.device) disks
          small p is works ok = at before.disks refl
            where
              at : (ds : List Disk) → before.disks ≡ ds → EndsSmall p.part policy (size_of old.part.log.device) disks
              at [] untold = record { list = []; writes = []; opens = subst (λ ds. IfTold ds (OpensAs p.part [] ([] ∷ []) (size_of old.part.log.device))) (sym (all_untold untold)) tt; few = inr (omega arith); unwritten = λ short. refl }
              at (disk ∷ past) tells =
                  let told : IsTold before.disks = subst (λ ds. IsTold ds) (sym tells) tt in
                  let v = (on_ok r tt _ ok m.well).stays.stores p is (tells_files told) works in
                  let sealed = on_ok r tt _ ok none_sealed in
                  let same_size = ap (λ (l : LogState D). size_of l.device) m.logs.0 in
                  record {
                    list = v.view.list;
                    writes = v.view.active.writes;
                    opens = subst (λ (x : Partition). IfTold disks (OpensAs x v.view.list (v.view.active.writes ∷ []) (size_of old.part.log.device))) v.here
                        (subst (λ n. IfTold disks (OpensAs v.view.part v.view.list (v.view.active.writes ∷ []) n)) same_size (one_log_opens u v.view size_of e.history new.part.log new.part.sealed_log disks v.is sealed refl (k.opens v.view v.is)));
                    few = few_listed policy new.part.list v.view.list (AllZip-long IsOfContent u.components v.view.list v.is.view.components ∙ length-map new.part.list (told_component e.content)) (on_ok r tt _ ok none);
                    unwritten = λ short. unwritten u v.view (size_of new.part.log.device) v.is v.tells.store sized stays (omega (arith, same_size, short));
                  }

          at_moments : (p : PartView) → IsPart before p → works_by e old p → (ds : List Disk) → before.disks ≡ ds → MomentsLeavePairs p.part (store_of p) before disks
          at_moments p is works [] untold = subst (λ ds. MomentsLeavePairs p.part (store_of p) before ds) (untold ∙ sym (all_untold untold)) (no_moments p.part (store_of p) before)
          at_moments p is works (disk ∷ past) tells =
              let told : IsTold before.disks = subst (λ ds. IsTold ds) (sym tells) tt in
              then_moments p.part (store_of p) before u disks (ap (λ (l : LogState D). e.history l.device) m.logs.0) (sealed_still e old new new m.sealed_log) (m.moments p is (tells_files told) works)
              (by_result _
              (λ ok. let v = (on_ok r tt _ ok m.well).stays.stores p is (tells_files told) works in
              moments_of u p v.view disks v.here v.stores (store_moments u v.view v.view disks refl refl (run_on u v.view disks (k.moments v.view v.is))))
              (λ fault err. let has = on_err_is r fault _ err m.failed p is (tells_files told) works in
              moments_of u p has.view disks has.here has.holds (store_moments u has.view has.view disks refl refl (run_on u has.view disks (k.failed_moments has.view None (failed_files fault err has.view has.files) (failed_logs has.view has.logs))))))
