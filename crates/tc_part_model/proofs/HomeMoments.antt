-- The moments of a store to which devices come home: of a job, to a part that has failed, and of the logs of one that is closed.
use Rattle.std.proofs.Common.{◌≡◌, ◌<◌, ℕ, Bool, List, [], ◌∷◌, length, refl, sym, ap, ◌∙◌, subst, inl, inr, Option, Some, true, if◌then◌else◌}
use Rattle.std.specs.Prelude.{IsSome}
use Rattle.std.proofs.Math.Path.{fun_ext}
use Rattle.std.proofs.lemmas.Bool.{cases_Bool}
use Rattle.tc_store.specs.declared.file_name.FileName.{FileName}
use Rattle.tc_store.specs.declared.file_name.FileName.TheVariants.{Component}
use Rattle.tc_store.specs.Disk.{Disk, home, is_out, out, put, same_name}
use Rattle.tc_store.specs.DiskFile.{DiskFile}
use Rattle.tc_store.specs.Moments.{EachSince, IfTold, LeavesAt}
use Rattle.tc_store.specs.StoreCalls.{comes_home}
use Rattle.tc_store.proofs.MomentLemmas.{EachSince-none, EachSince-one, EachSince-trans, told_map}
use Rattle.tc_store.proofs.NameLemmas.{put_there, same_name-is}
use Rattle.tc_plain_model.specs.Writes.{Write}
use Rattle.tc_component.specs.Rows.{IsComponent}
use Rattle.tc_machine.specs.Components.{file_of}
use Rattle.tc_machine.specs.State.{Flushing, Merging, flush_name, sealed_logs}
use Rattle.tc_machine.specs.Steps.{IsFlushed, IsShutOrHas}
use Rattle.tc_machine.proofs.FilesLeft.{at_name}
use Rattle.tc_part_model.specs.Leaving.{FailedMomentsLeaveStore, LeavesStoreAt}
use Rattle.tc_part_model.specs.Meaning.{HasFailedAs}
use Rattle.tc_part_model.specs.PartFiles.{AreKeptAt, IfFiles, active_name, device_at, files_at, sealed_name, seen_entry}
use Rattle.tc_part_model.specs.PartState.{Told}
use Rattle.tc_part_model.specs.PartView.{PartView}
use Rattle.tc_part_model.proofs.Beginnings.{frame_leaves, same_leaves}
use Rattle.tc_part_model.proofs.Closes.{apart, later}
use Rattle.tc_part_model.proofs.DeviceFiles.{active_device, sealed_device}
use Rattle.tc_part_model.proofs.Returns.{JobCalls, flush_calls, home_keeps, merge_calls}
use Rattle.tc_part_model.proofs.ToldFiles.{MomentsSince}
use Rattle.tc_part_model.proofs.ToldReturns.{out_is, returned}

module _ (p : PartView) (failed : Bool) (frame : Option (List Write)) where
  abbrev Leaves : Disk → DiskFile → DiskFile → Type 0
  Leaves disk f g = LeavesStoreAt p frame g f disk

  -- ---- the device of a job

  job_moments : (from to : ℕ) (disks : List Disk) (log dev : List DiskFile) (sealed : Option (List DiskFile)) → IfFiles disks log sealed (AreKeptAt p failed frame) → IfTold dev (JobCalls p (Component from to))
      → MomentsSince Leaves disks log sealed (comes_home (Component from to) (λ x. home x) dev disks)
  job_moments from to disks [] dev sealed kept calls = tt
  job_moments from to disks (f ∷ fs) [] sealed kept calls = λ g is. EachSince-none (λ disk. Leaves disk f g) disks disks refl
  job_moments from to [] (f ∷ fs) (x ∷ xs) sealed kept calls = λ g is. EachSince-none (λ disk. Leaves disk f g) [] [] refl
  job_moments from to (disk ∷ past) (f ∷ fs) (x ∷ xs) sealed kept calls = λ g is. elim (cases_Bool (is_out (disk (Component from to)))) [
    | inl held ↦ subst (λ ds. EachSince (λ d. Leaves d f g) (disk ∷ past) ds) (sym (returned (Component from to) (home x) disk past (out_is (disk (Component from to)) held)))
        (EachSince-one (λ d. Leaves d f g) (put (Component from to) (home x)) (disk ∷ past)
        (frame_leaves p failed frame (put (Component from to) (home x) disk) f g (home_keeps p failed frame disk f g (kept g is) from to (out_is (disk (Component from to)) held) x calls)))
    | inr other ↦ subst (λ b. EachSince (λ d. Leaves d f g) (disk ∷ past) (if b then put (Component from to) (home x) disk ∷ disk ∷ past else disk ∷ past)) (sym other) (EachSince-none (λ d. Leaves d f g) (disk ∷ past) (disk ∷ past) refl)
  ]

  -- ---- the devices of the logs

  -- what stood at home already for the part is now at home
  home_seen : (name : FileName) (x : DiskFile) (disk : Disk) (f g : DiskFile) (job : FileName → DiskFile) → device_at p f g job name ≡ x → disk name ≡ out → files_at p (put name (home x) disk) f g job ≡ files_at p disk f g job
  home_seen name x disk f g job own held = fun_ext λ n. elim (cases_Bool (same_name name n)) [
    | inl same ↦ subst (λ m. files_at p (put name (home x) disk) f g job m ≡ files_at p disk f g job m) (same_name-is name n same)
        (ap (seen_entry (device_at p f g job name)) (put_there name (home x) disk) ∙ sym (ap (seen_entry (device_at p f g job name)) held ∙ ap (λ d. home d) own))
    | inr other ↦ rw other refl
  ]

  log_moments : (disks : List Disk) (log : List DiskFile) (sealed : Option (List DiskFile)) → IfFiles disks log sealed (AreKeptAt p failed frame) → MomentsSince Leaves disks log sealed (comes_home (active_name p) (λ x. home x) log disks)
  log_moments disks [] sealed kept = tt
  log_moments [] (f ∷ fs) sealed kept = λ g is. EachSince-none (λ d. Leaves d f g) [] [] refl
  log_moments (disk ∷ past) (f ∷ fs) sealed kept = λ g is.
      let k = kept g is in
      subst (λ ds. EachSince (λ d. Leaves d f g) (disk ∷ past) ds) (sym (returned (active_name p) (home f) disk past k.log_out))
      (EachSince-one (λ d. Leaves d f g) (put (active_name p) (home f)) (disk ∷ past)
      (same_leaves p failed frame disk (put (active_name p) (home f) disk) f g k (λ job. home_seen (active_name p) f disk f g job (active_device p f g job) k.log_out)))

  module _ (some : IsSome p.sealed) (logs : 0 < length (sealed_logs p.sealed)) where
    both_moments : (disks : List Disk) (log covered : List DiskFile) → IfFiles disks log (Some covered) (AreKeptAt p failed frame)
        → MomentsSince Leaves disks log (Some covered) (comes_home (sealed_name p) (λ x. home x) covered (comes_home (active_name p) (λ x. home x) log disks))
    both_moments disks [] covered kept = tt
    both_moments disks (f ∷ fs) [] kept = log_moments disks (f ∷ fs) (Some []) kept
    both_moments [] (f ∷ fs) (h ∷ hs) kept = λ g is. EachSince-none (λ d. Leaves d f g) [] [] refl
    both_moments (disk ∷ past) (f ∷ fs) (h ∷ hs) kept = λ g is.
        let k = kept g is in
        let one = put (active_name p) (home f) disk in
        let held : one (sealed_name p) ≡ out = at_name (active_name p) (sealed_name p) (home f) disk (λ e. e ≡ out) (λ same. absurd (apart p some logs same)) (λ differ. k.sealed_out some) in
        subst (λ ds. EachSince (λ d. Leaves d f g) (disk ∷ past) ds)
        (sym (ap (comes_home (sealed_name p) (λ x. home x) (h ∷ hs)) (returned (active_name p) (home f) disk past k.log_out) ∙ returned (sealed_name p) (home h) one (disk ∷ past) held))
        (EachSince-trans (λ d. Leaves d f g) (disk ∷ past) (one ∷ disk ∷ past) (put (sealed_name p) (home h) one ∷ one ∷ disk ∷ past)
        (EachSince-one (λ d. Leaves d f g) (put (active_name p) (home f)) (disk ∷ past) (same_leaves p failed frame disk one f g k (λ job. home_seen (active_name p) f disk f g job (active_device p f g job) k.log_out)))
        (EachSince-one (λ d. Leaves d f g) (put (sealed_name p) (home h)) (one ∷ disk ∷ past)
        (same_leaves p failed frame disk (put (sealed_name p) (home h) one) f g k
        (λ job. home_seen (sealed_name p) h one f g job (sealed_device p (later p some logs) f g job ∙ is) held ∙ home_seen (active_name p) f disk f g job (active_device p f g job) k.log_out))))

-- ---- a part

pub flush_home_moments : (t : Told) (p : PartView) (frame : Option (List Write)) (j : Flushing) (dev : List DiskFile) → HasFailedAs t p frame → p.flush ≡ Some j → IfTold dev (LeavesAt (IsShutOrHas (IsFlushed p.part p.list p.sealed)))
    → FailedMomentsLeaveStore p frame t (comes_home (flush_name j) (λ x. home x) dev t.disks)
flush_home_moments t p frame j dev has is leaves =
    job_moments p true frame j.from j.to t.disks t.log dev t.sealed_log has.files (told_map (LeavesAt (IsShutOrHas (IsFlushed p.part p.list p.sealed))) (JobCalls p (flush_name j)) dev (λ x leaves. flush_calls p j x is leaves) leaves)

pub merge_home_moments : (t : Told) (p : PartView) (frame : Option (List Write)) (m : Merging) (dev : List DiskFile) → HasFailedAs t p frame → p.merge ≡ Some m → IfTold dev (LeavesAt (IsShutOrHas (IsComponent m.target)))
    → FailedMomentsLeaveStore p frame t (comes_home (file_of m.target) (λ x. home x) dev t.disks)
merge_home_moments t p frame m dev has is leaves =
    job_moments p true frame m.target.from m.target.to t.disks t.log dev t.sealed_log has.files (told_map (LeavesAt (IsShutOrHas (IsComponent m.target))) (JobCalls p (file_of m.target)) dev (λ x leaves. merge_calls p m x is leaves) leaves)

pub close_moments : (t : Told) (p : PartView) (frame : Option (List Write)) → HasFailedAs t p frame → FailedMomentsLeaveStore p frame t (comes_home (active_name p) (λ x. home x) t.log t.disks)
close_moments t p frame has = log_moments p true frame t.disks t.log t.sealed_log has.files

pub close_both_moments : (t : Told) (p : PartView) (frame : Option (List Write)) (covered : List DiskFile) → HasFailedAs t p frame → t.sealed_log ≡ Some covered → IsSome p.sealed → 0 < length (sealed_logs p.sealed)
    → FailedMomentsLeaveStore p frame t (comes_home (sealed_name p) (λ x. home x) covered (comes_home (active_name p) (λ x. home x) t.log t.disks))
close_both_moments t p frame covered has is some logs =
    subst (λ o. MomentsSince (λ disk f g. LeavesStoreAt p frame g f disk) t.disks t.log o (comes_home (sealed_name p) (λ x. home x) covered (comes_home (active_name p) (λ x. home x) t.log t.disks))) (sym is)
    (both_moments p true frame some logs t.disks t.log covered (subst (λ o. IfFiles t.disks t.log o (AreKeptAt p true frame)) is has.files))
