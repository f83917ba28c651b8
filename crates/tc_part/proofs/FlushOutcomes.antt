-- What the files keep where a flush is handed back and a call fails, and at each moment.
use Rattle.std.proofs.Common.{is_some, ◌≡◌, ◌∙◌, ◌+◌, ◌-◌, ◌⊎◌, ◌++◌, inl, inr, ℕ, List, [], ◌∷◌, Option, Some, None, true, false, length, map, option_map, refl, sym, ap, subst, arith}
use Rattle.std.specs.Prelude.{IfSome}
use Rattle.std.proofs.lemmas.List.{map-append}
use Rattle.tc_store.specs.declared.file_name.FileName.{FileName}
use Rattle.tc_store.specs.declared.file_name.FileName.TheVariants.{Component, Log}
use Rattle.tc_store.specs.Disk.{Disk, home}
use Rattle.tc_store.specs.DiskFile.{DiskFile, IsSettled}
use Rattle.tc_store.specs.Moments.{IfTold, LeavesAt}
use Rattle.tc_store.specs.StoreCalls.{comes_home, frozen_entry, removes}
use Rattle.tc_log.specs.Appending.{LogState}
use Rattle.tc_component.specs.declared.head.Head.{Head}
use Rattle.tc_component.specs.Loaded.{IsLoadedOf}
use Rattle.tc_component.specs.Loading.{ComponentState}
use Rattle.tc_component.specs.Rows.{head_of}
use Rattle.tc_component.specs.Spelling.{name_of}
use Rattle.tc_list.specs.declared.run.Run.{Run}
use Rattle.tc_list.specs.Runs.{neighbours}
use Rattle.tc_lsm_model.specs.Contents.{Content}
use Rattle.tc_lsm_model.specs.Lists.{last_of}
use Rattle.tc_lsm_model.proofs.FlushLaws.{last_of-push}
use Rattle.tc_machine.specs.State.{Flushing, flush_name, sealed_logs}
use Rattle.tc_machine.specs.Steps.{IsFlushed, IsShutOrHas}
use Rattle.tc_jobs.specs.Listing.{FailsRemoving}
use Rattle.tc_jobs.specs.ReadBack.{ComesHome}
use Rattle.tc_part_model.specs.Calls.{HasMade, MakesFlush}
use Rattle.tc_part_model.specs.Changes.{flushed_part}
use Rattle.tc_part_model.specs.Leaving.{FailedMomentsLeaveStore, StoreMomentsLeaveStore}
use Rattle.tc_part_model.specs.Meaning.{HasFailedAs, IsOfContent, IsPart}
use Rattle.tc_part_model.specs.PartFiles.{AreKeptAt, IfFiles}
use Rattle.tc_part_model.specs.PartState.{IsTold, PartState, Told, told, told_component}
use Rattle.tc_part_model.specs.PartView.{PartView}
use Rattle.tc_part_model.proofs.DeviceFiles.{comes_untold}
use Rattle.tc_part_model.proofs.FailedParts.{fails_so, flush_returns}
use Rattle.tc_part_model.proofs.FlushedParts.{flush_listed, flush_listed_moments, flush_log_home, flush_log_home_moments, flush_made_leaves, flush_not_listed, flush_not_listed_moments, is_flushed_soon}
use Rattle.tc_part_model.proofs.FollowingMoments.{as_before, run_on}
use Rattle.tc_part_model.proofs.HomeMoments.{flush_home_moments}
use Rattle.tc_part.specs.Closing.{HasFailedWhole, HasLogsOf}
use Rattle.tc_part.specs.FlushEnds.{covered_name, flushed_name, IsFlushCovering, IsFlushUnlisted}
use Rattle.tc_part.specs.JobHeads.{flushed_head, merged_head}
use Rattle.tc_part.specs.MergeEnds.{merged_name, positions, run_out}
use Rattle.tc_part.specs.Ready.{LiesIn}
use Rattle.tc_part.proofs.ClosedParts.{logs_like, logs_of}
use Rattle.tc_part.proofs.FlushedContents.{of_made}
use Rattle.tc_part.proofs.ReplacedRun.{named_still}

module _ (t : Told) (p : PartView) (device covered : List DiskFile) (is : IsPart t p) (flushing : t.flushing ≡ true) (some : t.sealed_log ≡ Some covered) where
  -- the flush that is out
  abbrev flush : Flushing
  flush = record { from = last_of p.list + 1; to = last_of p.list + 1 }

  flush_out : p.flush ≡ Some flush
  flush_out = sym (ap (λ (q : PartView). q.flush) (is_flushed_soon t p is flushing covered some).is)

  generation : t.generation ≡ last_of p.list + 1 + 1
  generation = is.view.generation ∙ ap (λ o. last_of p.list + length (sealed_logs o) + 1) (sym (ap (λ (q : PartView). q.sealed) (is_flushed_soon t p is flushing covered some).is))

  before : last_of p.list + 1 ≡ t.generation - 1
  before = omega (arith, generation)

  named : flush_name flush ≡ Component (t.generation - 1) (t.generation - 1)
  named = ap (λ n. Component n n) before

  failed_now : HasFailedAs (record t { failed = true }) p None
  failed_now = fails_so t (record t { failed = true }) p is refl refl refl refl

  -- ---- the device comes home as it is

  module _ (leaves : IfTold device (LeavesAt (IsShutOrHas (IsFlushed p.part p.list p.sealed)))) where
    pub home_failed : (u : Told) → u.failed ≡ true → u.log ≡ t.log → u.sealed_log ≡ t.sealed_log → u.disks ≡ comes_home (Component (t.generation - 1) (t.generation - 1)) (λ f. home f) device t.disks → HasFailedAs u p None
    home_failed u failed log sealed at_home =
        flush_returns (record t { failed = true }) u p None flush device failed_now flush_out leaves failed log sealed (at_home ∙ ap (λ n. comes_home n (λ f. home f) device t.disks) (sym named))

    pub home_moments : (disks : List Disk) → disks ≡ comes_home (Component (t.generation - 1) (t.generation - 1)) (λ f. home f) device t.disks → FailedMomentsLeaveStore p None t disks
    home_moments disks at_home =
        subst (λ ds. FailedMomentsLeaveStore p None t ds) (sym (at_home ∙ ap (λ n. comes_home n (λ f. home f) device t.disks) (sym named)))
        (flush_home_moments (record t { failed = true }) p None flush device failed_now flush_out leaves)

  -- ---- it has the whole component

  module _ (c : Content) (makes : MakesFlush p c) (made : HasMade c t.disks device) where
    leaves_whole : IfTold device (LeavesAt (IsShutOrHas (IsFlushed p.part p.list p.sealed)))
    leaves_whole = flush_made_leaves t p c device covered is flushing some makes made

    pub unlisted_failed : (u : Told) → u.failed ≡ true → u.log ≡ t.log → u.sealed_log ≡ t.sealed_log → ComesHome (Component (t.generation - 1) (t.generation - 1)) device t.disks u.disks → HasFailedAs u p None
    unlisted_failed u failed log sealed (inl still) = flush_not_listed t u p c device covered is flushing some makes made failed log sealed still
    unlisted_failed u failed log sealed (inr at_home) = home_failed leaves_whole u failed log sealed at_home

    pub unlisted_moments : (disks : List Disk) → ComesHome (Component (t.generation - 1) (t.generation - 1)) device t.disks disks → StoreMomentsLeaveStore p p t disks
    unlisted_moments disks (inl still) = subst (λ ds. StoreMomentsLeaveStore p p t ds) (sym still) (flush_not_listed_moments t p c device covered is flushing some makes made)
    unlisted_moments disks (inr at_home) = run_on t p disks (home_moments leaves_whole disks at_home)

    pub covering_moments : (disks : List Disk) → IfTold covered IsSettled → FailsRemoving (Log (t.generation - 1)) covered (comes_home (Component (t.generation - 1) (t.generation - 1)) frozen_entry device t.disks) disks
        → StoreMomentsLeaveStore p (flushed_part c p) t disks
    covering_moments disks settled (inl at_home) = subst (λ ds. StoreMomentsLeaveStore p (flushed_part c p) t ds) (sym at_home) (flush_log_home_moments t p c device covered is flushing some makes made)
    covering_moments disks settled (inr gone) = subst (λ ds. StoreMomentsLeaveStore p (flushed_part c p) t ds) (sym gone) (flush_listed_moments t p c device covered is flushing some makes made settled)

module _ {S D F W : Type 0} (disks : S → List Disk) (moments : D → List DiskFile) (content : F → Option (List ℕ)) (name : F → FileName) (old new : PartState S D F W) (p : PartView) (c : Content) (device : List DiskFile) (l : LogState D) where
  -- at each moment of a call that fails a stop leaves what was stored
  pub ended_moments : (is : IsPart (record (told disks moments content old) { flushing = true }) p) → old.sealed_log ≡ Some l → MakesFlush p c → HasMade c (disks old.store) device
      → IsFlushUnlisted disks device old new ⊎ IsFlushCovering content name disks moments device old new → StoreMomentsLeaveStore p (flushed_part c p) (record (told disks moments content old) { flushing = true }) (disks new.store)
  ended_moments is there makes made (inl unlisted) =
      as_before (record (told disks moments content old) { flushing = true }) p (flushed_part c p) (disks new.store)
      (unlisted_moments (record (told disks moments content old) { flushing = true }) p device (moments l.device) is refl (ap (option_map (λ x. moments x.device)) there) c makes made (disks new.store) unlisted.home)
  ended_moments is there makes made (inr covering) =
      covering_moments (record (told disks moments content old) { flushing = true }) p device (moments l.device) is refl (ap (option_map (λ x. moments x.device)) there) c makes made (disks new.store)
      (subst (λ o. IfSome o (λ x. IfTold (moments x.device) IsSettled)) there covering.settled)
      (subst (λ o. IfSome o (λ x. FailsRemoving (covered_name old) (moments x.device) (comes_home (flushed_name old) frozen_entry device (disks old.store)) (disks new.store))) there covering.covered)

  -- a store that tells nothing tells nothing of what is gone
  untold_failed : (u : Told) (q : PartView) → u.failed ≡ true → u.disks ≡ [] → HasFailedAs u q None
  untold_failed u q failed untold = record {
    failed = failed;
    tells = record { active = subst (λ ds. IfTold ds (λ disk. IsTold u.log)) (sym untold) tt; sealed = subst (λ ds. IfTold ds (λ disk. IfSome u.sealed_log (λ x. IsTold x))) (sym untold) tt };
    files = subst (λ ds. IfFiles ds u.log u.sealed_log (AreKeptAt q true None)) (sym untold) tt;
  }

  module _ (is : IsPart (record (told disks moments content old) { flushing = true }) p) (there : old.sealed_log ≡ Some l) (makes : MakesFlush p c) (made : HasMade c (disks old.store) device) (back : old.flushing ≡ false) where
    abbrev failing : Told
    failing = record (told disks moments content new) { failed = true }

    some : option_map (λ (x : LogState D). moments x.device) old.sealed_log ≡ Some (moments l.device)
    some = ap (option_map (λ x. moments x.device)) there

    module _ (covering : IsFlushCovering content name disks moments device old new) where
      settled : IfTold (moments l.device) IsSettled
      settled = subst (λ o. IfSome o (λ x. IfTold (moments x.device) IsSettled)) there covering.settled

      gone_failed : (ds : List Disk) → disks old.store ≡ ds → IfTold ds (λ disk. IsOfContent (told_component content covering.listed.component) c)
          → disks new.store ≡ removes (covered_name old) (comes_home (covered_name old) frozen_entry (moments l.device) (comes_home (flushed_name old) frozen_entry device (disks old.store))) → HasFailedAs failing (flushed_part c p) None
      gone_failed [] same of gone =
          untold_failed failing (flushed_part c p) refl
          (gone ∙ ap (λ ds. removes (covered_name old) (comes_home (covered_name old) frozen_entry (moments l.device) (comes_home (flushed_name old) frozen_entry device ds))) same
          ∙ ap (λ ds. removes (covered_name old) (comes_home (covered_name old) frozen_entry (moments l.device) ds)) (comes_untold (flushed_name old) frozen_entry device)
          ∙ ap (removes (covered_name old)) (comes_untold (covered_name old) frozen_entry (moments l.device)))
      gone_failed (disk ∷ past) same of gone =
          let m = covering.listed.component in
          let runs : Told = record (told disks moments content new) { failed = old.failed } in
          let told_so : runs
          ≡ record (told disks moments content old) {
            disks = removes (covered_name old)
                (comes_home (covered_name old) frozen_entry (moments l.device) (comes_home (flushed_name old) frozen_entry device (disks old.store)));
            sealed = None;
            sealed_log = None;
            components = map (told_component content) old.list ++ told_component content m ∷ [];
            flushing = false;
          } =
          ap (λ (x : PartState S D F W). record (told disks moments content x) { failed = old.failed }) covering.same
          ∙ ap (λ d. record (told disks moments content old) { disks = d; sealed = None; sealed_log = None; components = map (told_component content) new.list }) gone
          ∙ ap (λ cs. record (told disks moments content old) { disks = removes (covered_name old) (comes_home (covered_name old) frozen_entry (moments l.device) (comes_home (flushed_name old) frozen_entry device (disks old.store))); sealed = None; sealed_log = None; components = cs })
          (ap (map (told_component content)) covering.listed.listed ∙ map-append (told_component content) old.list (m ∷ []))
          ∙ ap (λ b. record (told disks moments content old) {
            disks = removes (covered_name old)
                (comes_home (covered_name old) frozen_entry (moments l.device) (comes_home (flushed_name old) frozen_entry device (disks old.store)));
            sealed = None;
            sealed_log = None;
            components = map (told_component content) old.list ++ told_component content m ∷ [];
            flushing = b;
          }) back in
          fails_so runs failing (flushed_part c p)
          (flush_listed (record (told disks moments content old) { flushing = true }) runs p c (told_component content m) device (moments l.device) is refl some makes of made settled told_so) refl refl refl refl

      covering_failed : IfTold (disks old.store) (λ disk. IsOfContent (told_component content covering.listed.component) c)
          → FailsRemoving (covered_name old) (moments l.device) (comes_home (flushed_name old) frozen_entry device (disks old.store)) (disks new.store) → HasFailedAs failing (flushed_part c p) None
      covering_failed of (inl at_home) =
          flush_log_home (record (told disks moments content old) { flushing = true }) failing p c device (moments l.device) is refl some makes made refl
          (ap (λ (x : PartState S D F W). moments x.log.device) covering.same) (ap (λ (x : PartState S D F W). option_map (λ (y : LogState D). moments y.device) x.sealed_log) covering.same) at_home
      covering_failed of (inr gone) = gone_failed (disks old.store) refl of gone

    -- the logs are those of the part whose flush is listed, whose generation is the next one
    covering_logs : head_of c ≡ flushed_head old.number old.count old.generation → IsFlushCovering content name disks moments device old new → HasLogsOf failing (flushed_part c p)
    covering_logs head covering =
        let to : c.to ≡ old.generation - 1 = ap (λ (h : Head). h.to) head in
        record {
          generation = ap (λ (x : PartState S D F W). x.generation) covering.same ∙ omega (arith, to, last_of-push p.list c, is.view.generation);
          sealed_log = ap (λ (x : PartState S D F W). is_some (option_map (λ (y : LogState D). moments y.device) x.sealed_log)) covering.same;
          one = tt;
        }

    -- behind a call that fails the files keep what was stored, as the part that it was or as the one whose flush is listed
    pub ended_failed : head_of c ≡ flushed_head old.number old.count old.generation → ((m : ComponentState F) → IsLoadedOf content m c → IsOfContent (told_component content m) c)
        → IsFlushUnlisted disks device old new ⊎ IsFlushCovering content name disks moments device old new → HasFailedWhole failing p ⊎ HasFailedWhole failing (flushed_part c p)
    ended_failed head of (inl unlisted) =
        inl (
          unlisted_failed (record (told disks moments content old) { flushing = true }) p device (moments l.device) is refl some c makes made failing refl
              (ap (λ (x : PartState S D F W). moments x.log.device) unlisted.same) (ap (λ (x : PartState S D F W). option_map (λ (y : LogState D). moments y.device) x.sealed_log) unlisted.same) unlisted.home,
          logs_like (record (told disks moments content old) { flushing = true }) failing p (logs_of (record (told disks moments content old) { flushing = true }) p is)
              (ap (λ (x : PartState S D F W). x.generation) unlisted.same) (ap (λ (x : PartState S D F W). is_some (option_map (λ (y : LogState D). moments y.device) x.sealed_log)) unlisted.same),
        )
    ended_failed head of (inr covering) =
        inr (
          covering_failed covering (of_made content name (flushed_head old.number old.count old.generation) (flushed_name old) (disks old.store) c device covering.listed.component covering.listed.made made head (of covering.listed.component))
              (subst (λ o. IfSome o (λ x. FailsRemoving (covered_name old) (moments x.device) (comes_home (flushed_name old) frozen_entry device (disks old.store)) (disks new.store))) there covering.covered),
          covering_logs head covering,
        )

module _ {S D F W : Type 0} (disks : S → List Disk) (moments : D → List DiskFile) (content : F → Option (List ℕ)) (old new : PartState S D F W) (p : PartView) (device : List DiskFile) (l : LogState D) where
  -- where the flush failed and its device came home, the part keeps what it stored
  pub unmade_failed : IsPart (record (told disks moments content old) { flushing = true }) p → old.sealed_log ≡ Some l → IfTold device (LeavesAt (IsShutOrHas (IsFlushed p.part p.list p.sealed)))
      → new ≡ record old { store = new.store } → disks new.store ≡ comes_home (flushed_name old) (λ f. home f) device (disks old.store) → HasFailedWhole (record (told disks moments content new) { failed = true }) p
  unmade_failed is there leaves same at_home = (
    home_failed (record (told disks moments content old) { flushing = true }) p device (moments l.device) is refl (ap (option_map (λ x. moments x.device)) there) leaves (record (told disks moments content new) { failed = true }) refl
        (ap (λ (x : PartState S D F W). moments x.log.device) same) (ap (λ (x : PartState S D F W). option_map (λ (y : LogState D). moments y.device) x.sealed_log) same) at_home,
    logs_like (record (told disks moments content old) { flushing = true }) (record (told disks moments content new) { failed = true }) p (logs_of (record (told disks moments content old) { flushing = true }) p is)
        (ap (λ (x : PartState S D F W). x.generation) same) (ap (λ (x : PartState S D F W). is_some (option_map (λ (y : LogState D). moments y.device) x.sealed_log)) same),
  )

  pub unmade_moments : IsPart (record (told disks moments content old) { flushing = true }) p → old.sealed_log ≡ Some l → IfTold device (LeavesAt (IsShutOrHas (IsFlushed p.part p.list p.sealed)))
      → disks new.store ≡ comes_home (flushed_name old) (λ f. home f) device (disks old.store) → FailedMomentsLeaveStore p None (record (told disks moments content old) { flushing = true }) (disks new.store)
  unmade_moments is there leaves at_home =
      home_moments (record (told disks moments content old) { flushing = true }) p device (moments l.device) is refl (ap (option_map (λ x. moments x.device)) there) leaves (disks new.store) at_home

-- ---- a merge that is out beside the flush

module _ {S D F W : Type 0} (disks : S → List Disk) (moments : D → List DiskFile) (content : F → Option (List ℕ)) (name : F → FileName) (old new : PartState S D F W) (device : List DiskFile) (o : Option Run) (merging : old.merging ≡ option_map neighbours o)
    (lies : IfSome o (LiesIn old.list)) (out : is_some old.merging ≡ true) where
  pub listed_named : (m : ComponentState F) → new ≡ record old { store = new.store; main = new.main; list = new.list; sealed = None; sealed_log = None; failed = new.failed } → new.list ≡ old.list ++ m ∷ []
      → merged_name (run_out new) new ≡ merged_name (run_out old) old
  listed_named m same listed =
      ap (λ (x : PartState S D F W). merged_name (run_out x) x) same ∙ ap (λ cs. name_of (merged_head old.number old.count (run_out old) cs)) listed
      ∙ subst (λ ns. name_of (merged_head old.number old.count (positions ns) (old.list ++ m ∷ [])) ≡ name_of (merged_head old.number old.count (positions ns) old.list)) (sym merging)
      (named_still old.number old.count o old.list m lies (ap (λ ns. is_some ns) (sym merging) ∙ out))

  pub ended_named : IsFlushUnlisted disks device old new ⊎ IsFlushCovering content name disks moments device old new → merged_name (run_out new) new ≡ merged_name (run_out old) old
  ended_named (inl unlisted) = ap (λ (x : PartState S D F W). merged_name (run_out x) x) unlisted.same
  ended_named (inr covering) = listed_named covering.listed.component covering.same covering.listed.listed
