-- A job begins, over one disk and one file of each log: its file is made, and is out from then on.
use Rattle.std.proofs.Common.{◌≡◌, ◌≤◌, ◌+◌, ℕ, Bool, List, length, refl, sym, ap, ◌∙◌, subst, inl, inr, Option, Some, None, false, true}
use Rattle.std.specs.Prelude.{IsSome}
use Rattle.std.proofs.lemmas.Bool.{false≢true}
use Rattle.tc_store.specs.declared.file_name.FileName.{FileName}
use Rattle.tc_store.specs.declared.file_name.FileName.TheVariants.{Component, Log}
use Rattle.tc_store.specs.Disk.{Disk, IsThere, home, is_out, none, out, put, removed_of}
use Rattle.tc_store.specs.DiskFile.{DiskFile, empty_file}
use Rattle.tc_store.proofs.NameLemmas.{put_there}
use Rattle.tc_plain_model.specs.Writes.{Write}
use Rattle.tc_lsm_model.specs.Contents.{Content}
use Rattle.tc_lsm_model.specs.Merges.{IsMerge, Run, in_run}
use Rattle.tc_machine.specs.Components.{file_of}
use Rattle.tc_machine.specs.Events.{device_called, file_wasted, flush_begun, made, merge_begun, step}
use Rattle.tc_machine.specs.Kept.{IsKept}
use Rattle.tc_machine.specs.State.{Sealed, flush_name, flushing_of}
use Rattle.tc_machine.specs.Steps.{IsOfFlush, IsOfMerge}
use Rattle.tc_machine.proofs.Beside.{picture_beside_recovers}
use Rattle.tc_machine.proofs.Events.{event_keeps}
use Rattle.tc_machine.proofs.FilesLeft.{at_name}
use Rattle.tc_machine.proofs.FreeNames.{flush_is_free, merge_is_free, none_there}
use Rattle.tc_machine.proofs.Moments.{put_twice}
use Rattle.tc_part_model.specs.Changes.{flushing_part, merging_part}
use Rattle.tc_part_model.specs.Leaving.{LeavesStoreAt, with_next_log}
use Rattle.tc_part_model.specs.PartFiles.{AreKeptAt, FlushLeaves, IsDevice, JobsLeave, MergeLeaves, device_at, files_at, no_job, seen_entry}
use Rattle.tc_part_model.specs.PartView.{PartView, state_of, state_with}
use Rattle.tc_part_model.proofs.DeviceFiles.{next_log_jobs, no_job_leaves, put_seen, there_seen}
use Rattle.tc_part_model.proofs.Pictures.{same_beside}

-- what the files keep is left at each moment at which they do
pub same_leaves : (p : PartView) (failed : Bool) (frame : Option (List Write)) (disk other : Disk) (f g : DiskFile) → AreKeptAt p failed frame disk f g → ((job : FileName → DiskFile) → files_at p other f g job ≡ files_at p disk f g job)
    → LeavesStoreAt p frame g f other
same_leaves p failed frame disk other f g k same x leaves picture beside =
    picture_beside_recovers p.part (state_with p failed frame (files_at p disk f g (with_next_log p x))) picture (k.kept (with_next_log p x) (next_log_jobs p x))
    (same_beside p failed frame (files_at p other f g (with_next_log p x)) (files_at p disk f g (with_next_log p x)) picture (same (with_next_log p x)) beside)

pub frame_leaves : (p : PartView) (failed : Bool) (frame : Option (List Write)) (disk : Disk) (f g : DiskFile) → AreKeptAt p failed frame disk f g → LeavesStoreAt p frame g f disk
frame_leaves p failed frame disk f g k = same_leaves p failed frame disk disk f g k (λ job. refl)

pub kept_leaves : (p : PartView) (failed : Bool) (disk : Disk) (f g : DiskFile) → AreKeptAt p failed None disk f g → LeavesStoreAt p None g f disk
kept_leaves p failed = frame_leaves p failed None

module _ (p : PartView) (disk : Disk) (f g : DiskFile) (k : AreKeptAt p false None disk f g) where
  -- ---- a file that nobody will use

  module _ (from to : ℕ) (free : IsThere (disk (Component from to)) → ⊥) where
    absent : (before : Option (List ℕ)) × (disk (Component from to) ≡ none before)
    absent = none_there (disk (Component from to)) free

    seen_absent : (job : FileName → DiskFile) → files_at p disk f g job (Component from to) ≡ none absent.0
    seen_absent job = ap (seen_entry (device_at p f g job (Component from to))) absent.1

    same_made : (job : FileName → DiskFile) → made (files_at p disk f g job (Component from to)) ≡ home (empty_file (removed_of (disk (Component from to))))
    same_made job = ap made (seen_absent job) ∙ sym (ap (λ e. home (empty_file (removed_of e))) absent.1)

    pub waste_keeps : AreKeptAt p true None (put (Component from to) (home (empty_file (removed_of (disk (Component from to))))) disk) f g
    waste_keeps = record {
      log_out = k.log_out;
      sealed_out = k.sealed_out;
      devices = λ name is. at_name (Component from to) name (home (empty_file (removed_of (disk (Component from to))))) disk (λ e. is_out e ≡ true → IsDevice p name) (λ same held. absurd (false≢true held)) (λ apart held. k.devices name held) is;
      kept = λ job leave.
          let s = state_with p false None (files_at p disk f g job) in
          subst (λ fs. IsKept p.part (state_with p true None fs))
          (ap (λ e. put (Component from to) e (files_at p disk f g job)) (same_made job) ∙ sym (put_seen p (Component from to) (home (empty_file (removed_of (disk (Component from to))))) disk f g job))
          (event_keeps p.part s (file_wasted (Component from to)) (k.kept job leave) (record { before = absent.0; absent = seen_absent job }));
    }

  -- ---- a flush

  abbrev flush_file : FileName
  flush_file = flush_name (flushing_of (state_of p))

  module _ (d : Sealed) (sealed : p.sealed ≡ Some d) (none_out : p.flush ≡ None) where
    is_sealed : IsSome p.sealed
    is_sealed = subst (λ o. IsSome o) (sym sealed) refl

    pub flush_free : IsThere (disk flush_file) → ⊥
    flush_free there = flush_is_free p.part (state_with p false None (files_at p disk f g no_job)) (k.kept no_job (no_job_leaves p)) refl refl is_sealed none_out
        (there_seen (device_at p f g no_job flush_file) (disk flush_file) there)

    free_is : (before : Option (List ℕ)) × (disk flush_file ≡ none before)
    free_is = none_there (disk flush_file) flush_free

    begun : (job : FileName → DiskFile) → JobsLeave (flushing_part p) job → IsKept p.part (state_with (flushing_part p) false None (files_at (flushing_part p) (put flush_file out disk) f g job))
    begun job leave =
        let files = files_at p disk f g job in
        let s = state_with p false None files in
        let k1 = event_keeps p.part s flush_begun (k.kept job (subst (λ o. FlushLeaves p o job) (sym none_out) tt, leave.1))
        (record { sealed = d; is_sealed = sealed; none_out = none_out; sound = refl; before = free_is.0; absent = ap (seen_entry (device_at p f g job flush_file)) free_is.1 }) in
        subst (λ fs. IsKept p.part (state_with (flushing_part p) false None fs))
        (put_twice flush_file (made (files flush_file)) (home (job flush_file)) files ∙ sym (put_seen (flushing_part p) flush_file out disk f g job))
        (event_keeps p.part (step flush_begun s) (device_called flush_file (job flush_file)) k1 (record {
          old = empty_file (removed_of (files flush_file));
          home = put_there flush_file (made (files flush_file)) files;
          may = inr (inr (inl (record { flushing = flushing_of (state_of p); is_out = refl; named = refl; leaves = leave.0 })));
        }))

    still_devices : (name : FileName) → IsDevice p name → IsDevice (flushing_part p) name
    still_devices (Log n) is = is
    still_devices (Component from to) (inl is) = absurd (subst (λ o. IsOfFlush o from to) none_out is)
    still_devices (Component from to) (inr is) = inr is

    pub flush_begins : AreKeptAt (flushing_part p) false None (put flush_file out disk) f g
    flush_begins = record {
      log_out = k.log_out;
      sealed_out = k.sealed_out;
      devices = λ name is. at_name flush_file name out disk (λ e. is_out e ≡ true → IsDevice (flushing_part p) name) (λ same held. subst (λ n. IsDevice (flushing_part p) n) same (inl (refl, refl))) (λ apart held. still_devices name (k.devices name held)) is;
      kept = begun;
    }

  -- ---- a merge

  module _ (run : Run) (c : Content) (two : 2 ≤ run.length) (within : run.first + run.length ≤ length p.list) (is_merge : IsMerge (in_run run p.list) c) (none_out : p.merge ≡ None) where
    pub merge_free : IsThere (disk (file_of c)) → ⊥
    merge_free there = merge_is_free p.part (state_with p false None (files_at p disk f g no_job)) (k.kept no_job (no_job_leaves p)) refl refl run c two within is_merge none_out
        (there_seen (device_at p f g no_job (file_of c)) (disk (file_of c)) there)

    merge_free_is : (before : Option (List ℕ)) × (disk (file_of c) ≡ none before)
    merge_free_is = none_there (disk (file_of c)) merge_free

    merging : (job : FileName → DiskFile) → JobsLeave (merging_part run c p) job → IsKept p.part (state_with (merging_part run c p) false None (files_at (merging_part run c p) (put (file_of c) out disk) f g job))
    merging job leave =
        let files = files_at p disk f g job in
        let s = state_with p false None files in
        let k1 = event_keeps p.part s (merge_begun run c) (k.kept job (leave.0, subst (λ o. MergeLeaves o job) (sym none_out) tt))
        (record { none_out = none_out; sound = refl; two = two; within = within; is_merge = is_merge; before = merge_free_is.0; absent = ap (seen_entry (device_at p f g job (file_of c))) merge_free_is.1 }) in
        subst (λ fs. IsKept p.part (state_with (merging_part run c p) false None fs))
        (put_twice (file_of c) (made (files (file_of c))) (home (job (file_of c))) files ∙ sym (put_seen (merging_part run c p) (file_of c) out disk f g job))
        (event_keeps p.part (step (merge_begun run c) s) (device_called (file_of c) (job (file_of c))) k1 (record {
          old = empty_file (removed_of (files (file_of c)));
          home = put_there (file_of c) (made (files (file_of c))) files;
          may = inr (inr (inr (record { merging = record { run = run; target = c }; is_out = refl; named = refl; leaves = leave.1 })));
        }))

    merge_devices : (name : FileName) → IsDevice p name → IsDevice (merging_part run c p) name
    merge_devices (Log n) is = is
    merge_devices (Component from to) (inl is) = inl is
    merge_devices (Component from to) (inr is) = absurd (subst (λ o. IsOfMerge o from to) none_out is)

    pub merge_begins : AreKeptAt (merging_part run c p) false None (put (file_of c) out disk) f g
    merge_begins = record {
      log_out = k.log_out;
      sealed_out = k.sealed_out;
      devices = λ name is. at_name (file_of c) name out disk (λ e. is_out e ≡ true → IsDevice (merging_part run c p) name) (λ same held. subst (λ n. IsDevice (merging_part run c p) n) same (inr (refl, refl))) (λ apart held. merge_devices name (k.devices name held)) is;
      kept = merging;
    }
