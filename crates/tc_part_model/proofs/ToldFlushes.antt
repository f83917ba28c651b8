-- A flush is installed, for the moments that are told.
use Rattle.std.proofs.Common.{◌≡◌, ◌≢◌, ◌+◌, ◌∙◌, ℕ, List, [], ◌∷◌, ◌⊎◌, refl, sym, ap, subst, inl, inr, Option, Some, None, false, true, if◌then◌else◌}
use Rattle.std.specs.Prelude.{IfSome}
use Rattle.std.proofs.lemmas.List.Elements.{All-nil, All-cons}
use Rattle.tc_store.specs.Disk.{Disk, content_of, home, is_still, none, out, put, still}
use Rattle.tc_store.specs.DiskFile.{DiskFile, IsSettled, settled_file}
use Rattle.tc_store.specs.Moments.{IfTold, LeavesAt}
use Rattle.tc_store.specs.StoreCalls.{comes_home, frozen_entry, removes}
use Rattle.tc_store.proofs.GateLemmas.{settled_leaves}
use Rattle.tc_store.proofs.NameLemmas.{put_there}
use Rattle.tc_plain_model.specs.Writes.{Write}
use Rattle.tc_component.specs.Rows.{IsComponent}
use Rattle.tc_lsm_model.specs.Contents.{Content}
use Rattle.tc_lsm_model.specs.Flushes.{IsFlush}
use Rattle.tc_lsm_model.specs.Lists.{last_of}
use Rattle.tc_lsm_model.specs.Tables.{Table}
use Rattle.tc_machine.specs.Components.{file_of}
use Rattle.tc_machine.specs.State.{Merging}
use Rattle.tc_machine.proofs.FilesLeft.{at_name}
use Rattle.tc_machine.specs.Steps.{IsFlushed, IsShutOrHas}
use Rattle.tc_machine.proofs.Moments.{put_twice}
use Rattle.tc_part_model.specs.Leaving.{LeavesStoreAt}
use Rattle.tc_part_model.specs.PartFiles.{AreJobsOut, AreKeptAt, IfFiles, sealed_name}
use Rattle.tc_part_model.specs.PartState.{IsTold}
use Rattle.tc_part_model.specs.PartView.{PartView}
use Rattle.tc_part_model.proofs.Beginnings.{kept_leaves}
use Rattle.tc_part_model.proofs.DeviceFiles.{comes_untold}
use Rattle.tc_part_model.proofs.Failures.{failing_keeps}
use Rattle.tc_part_model.proofs.FlushInstalls.{after, flushed_soon, home_after, made_name, none_after, still_after}
use Rattle.tc_part_model.proofs.Returns.{flush_calls, still_keeps}
use Rattle.tc_part_model.proofs.ToldFiles.{MomentsSince, no_moments_since}
use Rattle.tc_part_model.proofs.ToldReturns.{returned}

-- where the store tells, so do its devices
all_told : (R : List Disk → List DiskFile → List DiskFile → List DiskFile → Type 0) → ((log dev covered : List DiskFile) → R [] log dev covered)
    → ((disk : Disk) (past : List Disk) (f : DiskFile) (fs : List DiskFile) (x : DiskFile) (xs : List DiskFile) (g : DiskFile) (gs : List DiskFile) → R (disk ∷ past) (f ∷ fs) (x ∷ xs) (g ∷ gs))
    → (disks : List Disk) (log dev covered : List DiskFile) → IfTold disks (λ disk. IsTold log) → IfTold disks (λ disk. IsTold dev) → IfTold disks (λ disk. IsTold covered) → R disks log dev covered
all_told R untold told [] log dev covered a b c = untold log dev covered
all_told R untold told (disk ∷ past) [] dev covered a b c = absurd a
all_told R untold told (disk ∷ past) (f ∷ fs) [] covered a b c = absurd b
all_told R untold told (disk ∷ past) (f ∷ fs) (x ∷ xs) [] a b c = absurd c
all_told R untold told (disk ∷ past) (f ∷ fs) (x ∷ xs) (g ∷ gs) a b c = told disk past f fs x xs g gs

module _ (p : PartView) (table : Table) (ws : List Write) (c : Content) (is_flush : IsFlush p.part p.list table 1 c) (bytes : List ℕ) (whole : IsComponent c bytes) where
  -- ---- the moments of the store

  abbrev pub frozen : List DiskFile → List Disk → List Disk
  frozen dev disks = comes_home (made_name p) frozen_entry dev disks

  abbrev pub uncovered : List DiskFile → List DiskFile → List Disk → List Disk
  uncovered dev covered disks = removes (sealed_name p) (comes_home (sealed_name p) frozen_entry covered (frozen dev disks))

  pub uncovered_untold : (dev covered : List DiskFile) → uncovered dev covered [] ≡ []
  uncovered_untold dev covered = ap (λ ds. removes (sealed_name p) (comes_home (sealed_name p) frozen_entry covered ds)) (comes_untold (made_name p) frozen_entry dev) ∙ ap (removes (sealed_name p)) (comes_untold (sealed_name p) frozen_entry covered)

  abbrev with_made : Disk → Disk
  with_made disk = put (made_name p) (still bytes) disk

  frozen_is : (disk : Disk) (past : List Disk) (x : DiskFile) (xs : List DiskFile) → disk (made_name p) ≡ out → x ≡ settled_file bytes → frozen (x ∷ xs) (disk ∷ past) ≡ with_made disk ∷ disk ∷ past
  frozen_is disk past x xs held is = returned (made_name p) (frozen_entry x) disk past held ∙ ap (λ (y : DiskFile). put (made_name p) (still y.content) disk ∷ disk ∷ past) is

  uncovered_is : (disk : Disk) (past : List Disk) (x : DiskFile) (xs : List DiskFile) (g : DiskFile) (gs : List DiskFile) → disk (made_name p) ≡ out → disk (sealed_name p) ≡ out → x ≡ settled_file bytes
      → uncovered (x ∷ xs) (g ∷ gs) (disk ∷ past) ≡ put (sealed_name p) (none (Some g.content)) (with_made disk) ∷ put (sealed_name p) (still g.content) (with_made disk) ∷ with_made disk ∷ disk ∷ past
  uncovered_is disk past x xs g gs held log_held is =
      let two = put (sealed_name p) (still g.content) (with_made disk) in
      ap (λ ds. removes (sealed_name p) (comes_home (sealed_name p) frozen_entry (g ∷ gs) ds)) (frozen_is disk past x xs held is)
      ∙ ap (removes (sealed_name p)) (returned (sealed_name p) (still g.content) (with_made disk) (disk ∷ past) log_held)
      ∙ ap (λ e. if is_still e then put (sealed_name p) (none (content_of e)) two ∷ two ∷ with_made disk ∷ disk ∷ past else two ∷ with_made disk ∷ disk ∷ past) (put_there (sealed_name p) (still g.content) (with_made disk))
      ∙ ap (λ d. d ∷ two ∷ with_made disk ∷ disk ∷ past) (put_twice (sealed_name p) (still g.content) (none (Some g.content)) (with_made disk))

  -- ---- one disk

  module _ (disk : Disk) (f g : DiskFile) (k : AreKeptAt (flushed_soon p table ws) false None disk f g) (held : disk (made_name p) ≡ out) where
    whole_leaves : LeavesAt (IsShutOrHas (IsFlushed p.part p.list (flushed_soon p table ws).sealed)) (settled_file bytes)
    whole_leaves = settled_leaves bytes (IsShutOrHas (IsFlushed p.part p.list (flushed_soon p table ws).sealed)) (inr (c, is_flush, whole))

    made_kept : AreKeptAt (flushed_soon p table ws) false None (with_made disk) f g
    made_kept = still_keeps (flushed_soon p table ws) false None disk f g k (last_of p.list + 1) (last_of p.list + 1) held bytes
        (flush_calls (flushed_soon p table ws) (record { from = last_of p.list + 1; to = last_of p.list + 1 }) (settled_file bytes) refl whole_leaves)

    home_left : (other : DiskFile) → AreKeptAt (after p table ws c is_flush) false None (put (sealed_name p) (home g) (with_made disk)) f other
    home_left other = home_after p table ws c is_flush (with_made disk) f g bytes made_kept (put_there (made_name p) (still bytes) disk) whole other

    still_left : IsSettled g → (other : DiskFile) → AreKeptAt (after p table ws c is_flush) false None (put (sealed_name p) (still g.content) (with_made disk)) f other
    still_left settled other = still_after p table ws c is_flush (with_made disk) f g bytes made_kept (put_there (made_name p) (still bytes) disk) whole settled other

    none_left : IsSettled g → (other : DiskFile) → AreKeptAt (after p table ws c is_flush) false None (put (sealed_name p) (none (Some g.content)) (with_made disk)) f other
    none_left settled other = none_after p table ws c is_flush (with_made disk) f g bytes made_kept (put_there (made_name p) (still bytes) disk) whole settled other

  -- ---- all that is told

  abbrev Kept : List Disk → List DiskFile → List DiskFile → Type 0
  Kept disks log covered = IfFiles disks log (Some covered) (AreKeptAt (flushed_soon p table ws) false None)

  abbrev Jobs : List Disk → Type 0
  Jobs disks = IfTold disks (AreJobsOut (flushed_soon p table ws).flush p.merge)

  abbrev Whole : List DiskFile → Type 0
  Whole dev = IfTold dev (λ x. x ≡ settled_file bytes)

  module _ (disks : List Disk) (log dev covered : List DiskFile) (log_tells : IfTold disks (λ disk. IsTold log)) (dev_tells : IfTold disks (λ disk. IsTold dev)) (covered_tells : IfTold disks (λ disk. IsTold covered)) where
    -- the log is gone
    pub uncovered_files : Kept disks log covered → Jobs disks → Whole dev → IfTold covered IsSettled → IfFiles (uncovered dev covered disks) log None (AreKeptAt (after p table ws c is_flush) false None)
    uncovered_files = all_told (λ disks log dev covered. Kept disks log covered → Jobs disks → Whole dev → IfTold covered IsSettled → IfFiles (uncovered dev covered disks) log None (AreKeptAt (after p table ws c is_flush) false None))
        (λ log dev covered kept jobs is settled. subst (λ ds. IfFiles ds log None (AreKeptAt (after p table ws c is_flush) false None)) (sym (uncovered_untold dev covered)) tt)
        (λ disk past f fs x xs g gs kept jobs is settled. subst (λ ds. IfFiles ds (f ∷ fs) None (AreKeptAt (after p table ws c is_flush) false None))
        (sym (uncovered_is disk past x xs g gs jobs.flush_out ((kept g refl).sealed_out refl) is)) (λ other any. none_left disk f g (kept g refl) jobs.flush_out settled other))
        disks log dev covered log_tells dev_tells covered_tells

    -- no other file is out
    pub uncovered_jobs : (merge : Option Merging) → IfSome merge (λ m. file_of m.target ≢ made_name p) → IfTold disks (λ disk. IfSome merge (λ m. disk (file_of m.target) ≡ out)) → Kept disks log covered → Jobs disks → Whole dev → IfTold (uncovered dev covered disks) (AreJobsOut None merge)
    uncovered_jobs merge apart = all_told (λ disks log dev covered. IfTold disks (λ disk. IfSome merge (λ m. disk (file_of m.target) ≡ out)) → Kept disks log covered → Jobs disks → Whole dev → IfTold (uncovered dev covered disks) (AreJobsOut None merge))
        (λ log dev covered held kept jobs is. subst (λ ds. IfTold ds (AreJobsOut None merge)) (sym (uncovered_untold dev covered)) tt)
        (λ disk past f fs x xs g gs held kept jobs is. subst (λ ds. IfTold ds (AreJobsOut None merge)) (sym (uncovered_is disk past x xs g gs jobs.flush_out ((kept g refl).sealed_out refl) is))
        (record { flush_out = tt; merge_out = still_out disk merge apart held }))
        disks log dev covered log_tells dev_tells covered_tells
      where
        still_out : (disk : Disk) (o : Option Merging) → IfSome o (λ m. file_of m.target ≢ made_name p) → IfSome o (λ m. disk (file_of m.target) ≡ out) → IfSome o (λ m. with_made disk (file_of m.target) ≡ out)
        still_out disk None apart held = tt
        still_out disk (Some m) apart held = at_name (made_name p) (file_of m.target) (still bytes) disk (λ e. e ≡ out) (λ same. absurd (apart (sym same))) (λ other. held)

    -- the component is there, and the log is as it was
    pub frozen_files : Kept disks log covered → Jobs disks → Whole dev → IfFiles (frozen dev disks) log (Some covered) (AreKeptAt (flushed_soon p table ws) true None)
    frozen_files = all_told (λ disks log dev covered. Kept disks log covered → Jobs disks → Whole dev → IfFiles (frozen dev disks) log (Some covered) (AreKeptAt (flushed_soon p table ws) true None))
        (λ log dev covered kept jobs is. subst (λ ds. IfFiles ds log (Some covered) (AreKeptAt (flushed_soon p table ws) true None)) (sym (comes_untold (made_name p) frozen_entry dev)) tt)
        (λ disk past f fs x xs g gs kept jobs is. subst (λ ds. IfFiles ds (f ∷ fs) (Some (g ∷ gs)) (AreKeptAt (flushed_soon p table ws) true None)) (sym (frozen_is disk past x xs jobs.flush_out is))
        (λ h same. failing_keeps (flushed_soon p table ws) (with_made disk) f h (made_kept disk f h (kept h same) jobs.flush_out)))
        disks log dev covered log_tells dev_tells covered_tells

    -- the log is at home
    pub home_files : Kept disks log covered → Jobs disks → Whole dev → IfFiles (comes_home (sealed_name p) (λ x. home x) covered (frozen dev disks)) log None (AreKeptAt (after p table ws c is_flush) true None)
    home_files = all_told (λ disks log dev covered. Kept disks log covered → Jobs disks → Whole dev → IfFiles (comes_home (sealed_name p) (λ x. home x) covered (frozen dev disks)) log None (AreKeptAt (after p table ws c is_flush) true None))
        (λ log dev covered kept jobs is. subst (λ ds. IfFiles ds log None (AreKeptAt (after p table ws c is_flush) true None))
        (sym (ap (comes_home (sealed_name p) (λ x. home x) covered) (comes_untold (made_name p) frozen_entry dev) ∙ comes_untold (sealed_name p) (λ x. home x) covered)) tt)
        (λ disk past f fs x xs g gs kept jobs is. subst (λ ds. IfFiles ds (f ∷ fs) None (AreKeptAt (after p table ws c is_flush) true None))
        (sym (ap (comes_home (sealed_name p) (λ x. home x) (g ∷ gs)) (frozen_is disk past x xs jobs.flush_out is) ∙ returned (sealed_name p) (home g) (with_made disk) (disk ∷ past) ((kept g refl).sealed_out refl)))
        (λ other any. failing_keeps (after p table ws c is_flush) (put (sealed_name p) (home g) (with_made disk)) f other (home_left disk f g (kept g refl) jobs.flush_out other)))
        disks log dev covered log_tells dev_tells covered_tells

    -- ---- moments

    abbrev Stays : Disk → DiskFile → DiskFile → Type 0
    Stays disk f g = LeavesStoreAt (flushed_soon p table ws) None g f disk ⊎ LeavesStoreAt (flushed_soon p table ws) None g f disk

    pub frozen_moments_since : Kept disks log covered → Jobs disks → Whole dev → MomentsSince Stays disks log (Some covered) (frozen dev disks)
    frozen_moments_since = all_told (λ disks log dev covered. Kept disks log covered → Jobs disks → Whole dev → MomentsSince Stays disks log (Some covered) (frozen dev disks))
        (λ log dev covered kept jobs is. subst (λ ds. MomentsSince Stays [] log (Some covered) ds) (sym (comes_untold (made_name p) frozen_entry dev)) (no_moments_since Stays [] log (Some covered)))
        (λ disk past f fs x xs g gs kept jobs is. λ h same. record {
          added = with_made disk ∷ [];
          goes_on = frozen_is disk past x xs jobs.flush_out is;
          each = All-cons (λ d. Stays d f h) (with_made disk) [] (inl (kept_leaves (flushed_soon p table ws) false (with_made disk) f h (made_kept disk f h (kept h same) jobs.flush_out))) (All-nil (λ d. Stays d f h));
          untold = λ none. absurd (cc);
        })
        disks log dev covered log_tells dev_tells covered_tells

    abbrev Leaves : Disk → DiskFile → DiskFile → Type 0
    Leaves disk f g = LeavesStoreAt (flushed_soon p table ws) None g f disk ⊎ LeavesStoreAt (after p table ws c is_flush) None g f disk

    pub home_moments_since : Kept disks log covered → Jobs disks → Whole dev → MomentsSince Leaves disks log (Some covered) (comes_home (sealed_name p) (λ x. home x) covered (frozen dev disks))
    home_moments_since = all_told (λ disks log dev covered. Kept disks log covered → Jobs disks → Whole dev → MomentsSince Leaves disks log (Some covered) (comes_home (sealed_name p) (λ x. home x) covered (frozen dev disks)))
        (λ log dev covered kept jobs is. subst (λ ds. MomentsSince Leaves [] log (Some covered) ds)
        (sym (ap (comes_home (sealed_name p) (λ x. home x) covered) (comes_untold (made_name p) frozen_entry dev) ∙ comes_untold (sealed_name p) (λ x. home x) covered)) (no_moments_since Leaves [] log (Some covered)))
        (λ disk past f fs x xs g gs kept jobs is. λ h same. record {
          added = put (sealed_name p) (home g) (with_made disk) ∷ with_made disk ∷ [];
          goes_on = ap (comes_home (sealed_name p) (λ x. home x) (g ∷ gs)) (frozen_is disk past x xs jobs.flush_out is) ∙ returned (sealed_name p) (home g) (with_made disk) (disk ∷ past) ((kept g refl).sealed_out refl);
          each = All-cons (λ d. Leaves d f h) (put (sealed_name p) (home g) (with_made disk)) (with_made disk ∷ [])
              (inr (kept_leaves (after p table ws c is_flush) false (put (sealed_name p) (home g) (with_made disk)) f h (home_left disk f g (kept g refl) jobs.flush_out h)))
              (All-cons (λ d. Leaves d f h) (with_made disk) [] (inl (kept_leaves (flushed_soon p table ws) false (with_made disk) f h (made_kept disk f h (kept h same) jobs.flush_out))) (All-nil (λ d. Leaves d f h)));
          untold = λ none. absurd (cc);
        })
        disks log dev covered log_tells dev_tells covered_tells

    pub flush_moments_since : Kept disks log covered → Jobs disks → Whole dev → IfTold covered IsSettled → MomentsSince Leaves disks log (Some covered) (uncovered dev covered disks)
    flush_moments_since = all_told (λ disks log dev covered. Kept disks log covered → Jobs disks → Whole dev → IfTold covered IsSettled → MomentsSince Leaves disks log (Some covered) (uncovered dev covered disks))
        (λ log dev covered kept jobs is settled. subst (λ ds. MomentsSince Leaves [] log (Some covered) ds) (sym (uncovered_untold dev covered)) (no_moments_since Leaves [] log (Some covered)))
        (λ disk past f fs x xs g gs kept jobs is settled. λ h same. record {
          added = put (sealed_name p) (none (Some g.content)) (with_made disk) ∷ put (sealed_name p) (still g.content) (with_made disk) ∷ with_made disk ∷ [];
          goes_on = uncovered_is disk past x xs g gs jobs.flush_out ((kept g refl).sealed_out refl) is;
          each = All-cons (λ d. Leaves d f h) (put (sealed_name p) (none (Some g.content)) (with_made disk)) (put (sealed_name p) (still g.content) (with_made disk) ∷ with_made disk ∷ [])
              (inr (kept_leaves (after p table ws c is_flush) false (put (sealed_name p) (none (Some g.content)) (with_made disk)) f h (none_left disk f g (kept g refl) jobs.flush_out settled h)))
              (All-cons (λ d. Leaves d f h) (put (sealed_name p) (still g.content) (with_made disk)) (with_made disk ∷ [])
              (inr (kept_leaves (after p table ws c is_flush) false (put (sealed_name p) (still g.content) (with_made disk)) f h (still_left disk f g (kept g refl) jobs.flush_out settled h)))
              (All-cons (λ d. Leaves d f h) (with_made disk) [] (inl (kept_leaves (flushed_soon p table ws) false (with_made disk) f h (made_kept disk f h (kept h same) jobs.flush_out))) (All-nil (λ d. Leaves d f h))));
          untold = λ none. absurd (cc);
        })
        disks log dev covered log_tells dev_tells covered_tells
