-- A seal, over one disk and one file of the log: the next log is made, and the table is sealed.
use Rattle.std.proofs.Common.{◌≡◌, ◌≢◌, ◌≤◌, ◌<◌, ◌+◌, ◌^◌, ℕ, Bool, List, [], refl, sym, ap, ◌∙◌, subst, arith, inl, inr, Option, Some, None, false, true, if◌then◌else◌}
use Rattle.std.specs.Prelude.{◌==◌}
use Rattle.std.proofs.Math.Path.{fun_ext}
use Rattle.std.proofs.lemmas.Bool.{cases_Bool, false≢true}
use Rattle.std.proofs.lemmas.Bool.Decides.{nat_tests}
use Rattle.tc_store.specs.declared.file_name.FileName.{FileName}
use Rattle.tc_store.specs.declared.file_name.FileName.TheVariants.{Component, Log}
use Rattle.tc_store.specs.Disk.{Disk, Entry, IsThere, MayLeaveAt, Picture, home, is_out, none, out, put, removed_of, same_name}
use Rattle.tc_store.specs.DiskFile.{DiskFile, empty_file, settled_file}
use Rattle.tc_store.specs.Gate.{IsShutOrWhole, is_open_file}
use Rattle.tc_store.specs.Images.{Image}
use Rattle.tc_store.specs.Moments.{LeavesAt}
use Rattle.tc_store.proofs.GateLemmas.{settled_leaves}
use Rattle.tc_store.proofs.NameLemmas.{put_there, same_name-is, same_name-refl}
use Rattle.tc_log.specs.Spelling.{IsHead, log_at_rest}
use Rattle.tc_lsm_model.specs.Lists.{last_of}
use Rattle.tc_machine.specs.Beside.{IsPictureBeside}
use Rattle.tc_machine.specs.Events.{device_called, file_wasted, log_made, made, step, table_sealed}
use Rattle.tc_machine.specs.Kept.{IsKept}
use Rattle.tc_machine.specs.Logs.{IsLog, LeavesLog, log_head}
use Rattle.tc_machine.specs.Pictures.{Recovers}
use Rattle.tc_machine.specs.Sound.{IsExplained, IsWithOrWithout}
use Rattle.tc_machine.specs.Steps.{IsShutOrHas, nothing_held}
use Rattle.tc_machine.proofs.Beside.{picture_beside_recovers}
use Rattle.tc_machine.proofs.Events.{event_keeps}
use Rattle.tc_machine.proofs.FilesLeft.{at_name}
use Rattle.tc_machine.proofs.FilesMade.{empty_image}
use Rattle.tc_machine.proofs.FreeNames.{next_log_is_free, none_there}
use Rattle.tc_machine.proofs.LogHeads.{new_log}
use Rattle.tc_machine.proofs.Targets.{log_generation}
use Rattle.tc_machine.proofs.Moments.{put_twice}
use Rattle.tc_part_model.specs.Changes.{sealed_part}
use Rattle.tc_part_model.specs.Leaving.{LeavesStoreAt, NextLogLeaves, with_next_log}
use Rattle.tc_part_model.specs.PartFiles.{AreKeptAt, IsDevice, JobsLeave, active_name, device_at, files_at, no_job, seen_entry}
use Rattle.tc_part_model.specs.PartView.{PartView, generation_of, next_of, state_with, store_of}
use Rattle.tc_part_model.proofs.Pictures.{same_beside}
use Rattle.tc_part_model.proofs.DeviceFiles.{next_log_jobs, no_job_leaves, not_same, put_seen, seen_active, there_seen}

-- a part that may seal
abbrev pub bare : PartView → PartView
bare p = record p { sealed = None; flush = None; staged = [] }

-- its next log
abbrev pub next_name : PartView → FileName
next_name p = Log (next_of (bare p))

differ : (a b : ℕ) → b < a → (a == b) ≡ false
differ a b h = grind (arith, nat_tests)

next_device : (p : PartView) (f g : DiskFile) (job : FileName → DiskFile) → device_at (bare p) f g job (next_name p) ≡ job (next_name p)
next_device p f g job = rw (differ (next_of (bare p)) (generation_of (bare p)) (omega arith), differ (next_of (bare p)) (last_of p.list + 1) (omega arith)) refl

log_is : (p : PartView) → generation_of (bare p) ≡ last_of p.list + 1
log_is p = omega arith

next_apart : (p : PartView) → next_name p ≢ active_name (bare p)
next_apart p same = absurd (no (log_generation (next_of (bare p)) (generation_of (bare p)) same))
  where
    no : next_of (bare p) ≡ generation_of (bare p) → ⊥
    no same = omega (arith, same)

module _ (p : PartView) (disk : Disk) (f g : DiskFile) (k : AreKeptAt (bare p) false None disk f g) where
  pub free : IsThere (disk (next_name p)) → ⊥
  free there = next_log_is_free p.part (state_with (bare p) false None (files_at (bare p) disk f g no_job)) (k.kept no_job (no_job_leaves (bare p))) refl refl refl
      (there_seen (device_at (bare p) f g no_job (next_name p)) (disk (next_name p)) there)

  absent : (before : Option (List ℕ)) × (disk (next_name p) ≡ none before)
  absent = none_there (disk (next_name p)) free

  seen_absent : (job : FileName → DiskFile) → files_at (bare p) disk f g job (next_name p) ≡ none absent.0
  seen_absent job = ap (seen_entry (device_at (bare p) f g job (next_name p))) absent.1

  -- what there was before under the name is closed, or a log without a frame
  shut_before : (b : List ℕ) → absent.0 ≡ Some b → IsShutOrHas (IsLog p.part (next_of (bare p)) []) (Some b)
  shut_before b was = elim (cases_Bool (is_open_file b)) [
    | inl is_open ↦ inr (at ((k.kept no_job (no_job_leaves (bare p))).files.others (next_name p) b (subst (λ e. MayLeaveAt (nothing_held (next_name p)) e (Some b)) (sym (seen_absent no_job)) was) is_open))
    | inr shut ↦ inl shut
  ]
    where
      above : next_of (bare p) ≤ last_of p.list → ⊥
      above h = omega (arith, h)

      next : next_of (bare p) < next_of (bare p) → ⊥
      next h = omega (arith, h)

      at : IsExplained p.part (state_with (bare p) false None (files_at (bare p) disk f g no_job)) (next_name p) b → IsLog p.part (next_of (bare p)) [] b
      at (inl covered) = absurd (above covered.0)
      at (inr (inl between)) = absurd (next between.1)
      at (inr (inr is_next)) = is_next.1

  pub empty_next : NextLogLeaves (bare p) (empty_file (removed_of (disk (next_name p))))
  empty_next = subst (λ before. NextLogLeaves (bare p) (empty_file before)) (sym (ap removed_of absent.1)) at
    where
      at : NextLogLeaves (bare p) (empty_file absent.0)
      at None left = tt
      at (Some b) (inl is) = inl (empty_image absent.0 b is)
      at (Some b) (inr was) = shut_before b was

  -- what the creation of the log says of a moment is what the machine asks
  pub created_next : (x : DiskFile) → IsHead (log_head p.part (next_of (bare p))) → LeavesAt (IsShutOrWhole (removed_of (disk (next_name p))) (log_at_rest (log_head p.part (next_of (bare p))) [])) x → NextLogLeaves (bare p) x
  created_next x is_head leaves image left = at image (subst (λ before. IsShutOrWhole before (log_at_rest (log_head p.part (next_of (bare p))) []) image) (ap removed_of absent.1) (leaves image left))
    where
      at : (image : Image) → IsShutOrWhole absent.0 (log_at_rest (log_head p.part (next_of (bare p))) []) image → IsShutOrHas (IsLog p.part (next_of (bare p)) []) image
      at None is = tt
      at (Some b) (inl shut) = inl shut
      at (Some b) (inr (inl was)) = shut_before b was
      at (Some b) (inr (inr whole)) = inr (subst (λ bytes. IsLog p.part (next_of (bare p)) [] bytes) (sym whole.same) (new_log p.part (next_of (bare p)) is_head))

  -- ---- a log that is made, and not used yet

  wasted_kept : (x : DiskFile) → NextLogLeaves (bare p) x → (job : FileName → DiskFile) → JobsLeave (bare p) job → IsKept p.part (state_with (bare p) true None (put (next_name p) (home x) (files_at (bare p) disk f g job)))
  wasted_kept x leaves job leave =
      let files = files_at (bare p) disk f g job in
      let s = state_with (bare p) false None files in
      let wasted : IsKept p.part (step (file_wasted (next_name p)) s) = event_keeps p.part s (file_wasted (next_name p)) (k.kept job leave) (record { before = absent.0; absent = seen_absent job }) in
      subst (λ fs. IsKept p.part (state_with (bare p) true None fs)) (put_twice (next_name p) (made (files (next_name p))) (home x) files)
      (event_keeps p.part (step (file_wasted (next_name p)) s) (device_called (next_name p) x) wasted (record {
        old = empty_file (removed_of (files (next_name p)));
        home = put_there (next_name p) (made (files (next_name p))) files;
        may = inr (inl (record { named = refl; leaves = leaves }));
      }))

  recovers : (x y : DiskFile) → NextLogLeaves (bare p) x → (picture : Picture) → IsPictureBeside p.part (state_with (bare p) true None (put (next_name p) (home x) (files_at (bare p) disk f g (with_next_log (bare p) y)))) picture
      → Recovers p.part picture (IsWithOrWithout (store_of (bare p)) None)
  recovers x y leaves picture beside =
      picture_beside_recovers p.part (state_with (bare p) true None (put (next_name p) (home x) (files_at (bare p) disk f g (with_next_log (bare p) y)))) picture
      (wasted_kept x leaves (with_next_log (bare p) y) (next_log_jobs (bare p) y)) beside

  -- while it is out, and once it is at home
  pub out_leaves : LeavesStoreAt (bare p) None g f (put (next_name p) out disk)
  out_leaves x leaves picture beside =
      recovers x x leaves picture (same_beside (bare p) true None (files_at (bare p) (put (next_name p) out disk) f g (with_next_log (bare p) x)) (put (next_name p) (home x) (files_at (bare p) disk f g (with_next_log (bare p) x))) picture
      (put_seen (bare p) (next_name p) out disk f g (with_next_log (bare p) x)
      ∙ ap (λ d. put (next_name p) (home d) (files_at (bare p) disk f g (with_next_log (bare p) x))) (next_device p f g (with_next_log (bare p) x) ∙ own x)) beside)
    where
      own : (x : DiskFile) → with_next_log (bare p) x (next_name p) ≡ x
      own x = rw (same_name-refl (next_name p)) refl

  pub home_leaves : (x : DiskFile) → NextLogLeaves (bare p) x → LeavesStoreAt (bare p) None g f (put (next_name p) (home x) disk)
  home_leaves x leaves y any picture beside =
      recovers x y leaves picture (same_beside (bare p) true None (files_at (bare p) (put (next_name p) (home x) disk) f g (with_next_log (bare p) y)) (put (next_name p) (home x) (files_at (bare p) disk f g (with_next_log (bare p) y))) picture
      (put_seen (bare p) (next_name p) (home x) disk f g (with_next_log (bare p) y)) beside)

  -- ---- the seal failed

  log_stays : (e : Entry) → put (next_name p) e disk (active_name (bare p)) ≡ out
  log_stays e = at_name (next_name p) (active_name (bare p)) e disk (λ e. e ≡ out) (λ same. absurd (next_apart p same)) (λ apart. k.log_out)

  pub home_kept : (x : DiskFile) → NextLogLeaves (bare p) x → AreKeptAt (bare p) true None (put (next_name p) (home x) disk) f g
  home_kept x leaves = record {
    log_out = log_stays (home x);
    sealed_out = λ some. absurd (false≢true some);
    devices = λ name is. at_name (next_name p) name (home x) disk (λ e. is_out e ≡ true → IsDevice (bare p) name) (λ same held. absurd (false≢true held)) (λ apart held. k.devices name held) is;
    kept = λ job leave. subst (λ fs. IsKept p.part (state_with (bare p) true None fs)) (sym (put_seen (bare p) (next_name p) (home x) disk f g job)) (wasted_kept x leaves job leave);
  }

  -- ---- the seal is done

  devices_after : (name : FileName) → IsDevice (bare p) name → IsDevice (sealed_part (bare p)) name
  devices_after (Log n) (inl active) = inr (refl, active ∙ log_is p)
  devices_after (Log n) (inr sealed) = absurd (false≢true sealed.0)
  devices_after (Component from to) job = job

  -- the active log is sealed, and the next one is active
  sealed_files : (new : DiskFile) (job : FileName → DiskFile) (between : Entry)
      → put (next_name p) (home new) (put (next_name p) between (files_at (bare p) disk f g job)) ≡ files_at (sealed_part (bare p)) (put (next_name p) out disk) new f job
  sealed_files new job between = fun_ext λ n. elim (cases_Bool (same_name (next_name p) n)) [
    | inl same ↦ subst (λ m. put (next_name p) (home new) (put (next_name p) between (files_at (bare p) disk f g job)) m ≡ files_at (sealed_part (bare p)) (put (next_name p) out disk) new f job m)
        (same_name-is (next_name p) n same)
        (put_there (next_name p) (home new) (put (next_name p) between (files_at (bare p) disk f g job))
        ∙ sym (seen_active (sealed_part (bare p)) (put (next_name p) out disk) new f job (put_there (next_name p) out disk)))
    | inr apart ↦ rw (apart, not_same (next_name p) n apart, log_is p) (old (same_name n (Log (last_of p.list + 1))) n)
  ]
    where
      old : (b : Bool) (n : FileName) → seen_entry (if b then f else (if b then g else job n)) (disk n) ≡ seen_entry (if b then f else job n) (disk n)
      old true n = refl
      old false n = refl

  module _ (new : DiskFile) (bound : next_of (bare p) < 2 ^ 63) (head : IsHead (log_head p.part (next_of (bare p)))) (is : new ≡ settled_file (log_at_rest (log_head p.part (next_of (bare p))) [])) where
    whole : LeavesAt (LeavesLog p.part (next_of (bare p)) []) new
    whole = subst (λ x. LeavesAt (LeavesLog p.part (next_of (bare p)) []) x) (sym is)
        (settled_leaves (log_at_rest (log_head p.part (next_of (bare p))) []) (LeavesLog p.part (next_of (bare p)) []) (new_log p.part (next_of (bare p)) head))

    shut_or : (image : Image) → LeavesLog p.part (next_of (bare p)) [] image → IsShutOrHas (IsLog p.part (next_of (bare p)) []) image
    shut_or None is = absurd is
    shut_or (Some b) is = inr is

    sealed_kept : (job : FileName → DiskFile) → JobsLeave (sealed_part (bare p)) job → IsKept p.part (state_with (sealed_part (bare p)) false None (files_at (sealed_part (bare p)) (put (next_name p) out disk) new f job))
    sealed_kept job leave =
        let files = files_at (bare p) disk f g job in
        let s = state_with (bare p) false None files in
        let entry = made (files (next_name p)) in
        let is_made = event_keeps p.part s log_made (k.kept job (tt, leave.1)) (record { before = absent.0; absent = seen_absent job }) in
        let is_called = event_keeps p.part (step log_made s) (device_called (next_name p) new) is_made (record {
          old = empty_file (removed_of (files (next_name p)));
          home = put_there (next_name p) entry files;
          may = inr (inl (record { named = refl; leaves = λ image may. shut_or image (whole image may) }));
        }) in
        let is_sealed = event_keeps p.part (step (device_called (next_name p) new) (step log_made s)) table_sealed is_called (record {
          running = refl;
          no_frame = refl;
          none_sealed = refl;
          sound = refl;
          next_log = (bound, (new, put_there (next_name p) (home new) (put (next_name p) entry files), whole));
        }) in
        subst (λ fs. IsKept p.part (state_with (sealed_part (bare p)) false None fs)) (sealed_files new job entry) is_sealed

    pub seal_keeps : AreKeptAt (sealed_part (bare p)) false None (put (next_name p) out disk) new f
    seal_keeps = record {
      log_out = put_there (next_name p) out disk;
      sealed_out = λ some. subst (λ n. put (next_name p) out disk (Log n) ≡ out) (log_is p) (log_stays out);
      devices = λ name held. at_name (next_name p) name out disk (λ e. is_out e ≡ true → IsDevice (sealed_part (bare p)) name) (λ same held. subst (λ n. IsDevice (sealed_part (bare p)) n) same (inl refl)) (λ apart held. devices_after name (k.devices name held)) held;
      kept = sealed_kept;
    }
