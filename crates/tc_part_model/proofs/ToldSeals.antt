-- A seal, for the moments that are told.
use Rattle.std.proofs.Common.{◌≡◌, ◌++◌, ◌<◌, ◌^◌, ◌⊎◌, List, [], ◌∷◌, refl, sym, ap, ◌∙◌, subst, inl, inr, Option, Some, None, false, true, if◌then◌else◌}
use Rattle.std.specs.Prelude.{All}
use Rattle.std.proofs.lemmas.List.Elements.{All-nil, All-cons, All-append, All-weaker}
use Rattle.tc_store.specs.Disk.{Disk, home, is_out, out, put, removed_of}
use Rattle.tc_store.specs.DiskFile.{DiskFile, empty_file, settled_file}
use Rattle.tc_store.specs.Gate.{IsShutOr, IsShutOrWhole}
use Rattle.tc_store.specs.Images.{Image}
use Rattle.tc_store.specs.Moments.{IfTold, EachSince, LeavesAt}
use Rattle.tc_store.specs.StoreCalls.{FailsMaking, comes_home, fresh_file_at, makes, returns_as}
use Rattle.tc_store.proofs.MomentLemmas.{EachSince-none, EachSince-one, EachSince-trans}
use Rattle.tc_store.proofs.NameLemmas.{put_there}
use Rattle.tc_store.proofs.StopLaws.{now_since, since_weaker}
use Rattle.tc_log.specs.Spelling.{IsHead, log_at_rest}
use Rattle.tc_machine.specs.Logs.{log_head}
use Rattle.tc_machine.proofs.FilesMade.{empty_image}
use Rattle.tc_machine.proofs.Moments.{put_twice}
use Rattle.tc_part_model.specs.Calls.{Creates}
use Rattle.tc_part_model.specs.Changes.{sealed_part}
use Rattle.tc_part_model.specs.Leaving.{LeavesStoreAt, NextLogLeaves, NextLogMoments}
use Rattle.tc_part_model.specs.PartFiles.{AreKeptAt, IfFiles, IsSealedFile}
use Rattle.tc_part_model.specs.PartState.{IsTold}
use Rattle.tc_part_model.specs.PartView.{PartView, next_of}
use Rattle.tc_part_model.proofs.DeviceFiles.{comes_untold, some_sealed}
use Rattle.tc_part_model.proofs.ToldFiles.{MomentsSince, if_files_unmade, moments_goes_on, moments_unmade, wasted}
use Rattle.tc_part_model.proofs.Failures.{failing_keeps}
use Rattle.tc_part_model.proofs.Seals.{bare, created_next, empty_next, home_kept, home_leaves, next_name, out_leaves, seal_keeps}

-- a device that was just made leaves what was there before, or nothing open
fresh_shut : (before : Image) → LeavesAt (IsShutOr before) (empty_file before)
fresh_shut before None left = tt
fresh_shut before (Some b) (inl is) = inl (empty_image before b is)
fresh_shut before (Some b) (inr was) = inr was

more_told : {X : Type 0} (added old : List X) → IsTold old → IsTold (added ++ old)
more_told [] old tells = tells
more_told (x ∷ xs) old tells = tt

module _ (p : PartView) where
  abbrev Kept : List Disk → List DiskFile → Option (List DiskFile) → Type 0
  Kept disks log sealed = IfFiles disks log sealed (AreKeptAt (bare p) false None)

  abbrev Tells : List Disk → List DiskFile → Type 0
  Tells disks log = IfTold disks (λ disk. IsTold log)

  -- a moment of the store
  abbrev Leaves : Disk → DiskFile → DiskFile → Type 0
  Leaves disk f g = LeavesStoreAt (bare p) None g f disk ⊎ LeavesStoreAt (bare p) None g f disk

  abbrev Moments : List Disk → List DiskFile → Option (List DiskFile) → List Disk → Type 0
  Moments disks log sealed new = MomentsSince Leaves disks log sealed new

  -- ---- moments of the store

  pub made_moments : (disks : List Disk) (log : List DiskFile) (sealed : Option (List DiskFile)) → Kept disks log sealed → Moments disks log sealed (makes (next_name p) disks)
  made_moments disks log sealed kept = moments_goes_on (put (next_name p) out) (AreKeptAt (bare p) false None) Leaves disks log sealed (λ disk f g k. inl (out_leaves p disk f g k)) kept

  wasted_leaves : (disk : Disk) (f g : DiskFile) → AreKeptAt (bare p) false None disk f g → Leaves (wasted (next_name p) disk) f g
  wasted_leaves disk f g k = inl (home_leaves p disk f g k (empty_file (removed_of (disk (next_name p)))) (empty_next p disk f g k))

  pub unmade_moments : (disks new : List Disk) (log : List DiskFile) (sealed : Option (List DiskFile)) → Kept disks log sealed → FailsMaking (next_name p) disks new → Moments disks log sealed new
  unmade_moments disks new log sealed kept fails = moments_unmade (next_name p) (AreKeptAt (bare p) false None) Leaves disks new log sealed wasted_leaves kept fails

  -- ---- the new log

  module _ (head : IsHead (log_head p.part (next_of (bare p)))) where
    made_creates : (disk : Disk) (before : List Disk) (new : List DiskFile) → Creates (log_head p.part (next_of (bare p))) (fresh_file_at (next_name p) (disk ∷ before)) new
        → EachSince (LeavesAt (IsShutOrWhole (removed_of (disk (next_name p))) (log_at_rest (log_head p.part (next_of (bare p))) []))) (empty_file (removed_of (disk (next_name p))) ∷ []) new
    made_creates disk before new creates = creates.moments (removed_of (disk (next_name p))) (fresh_shut (removed_of (disk (next_name p))))

    pub created_tells : (disks : List Disk) (new : List DiskFile) → Creates (log_head p.part (next_of (bare p))) (fresh_file_at (next_name p) disks) new → Tells (makes (next_name p) disks) new
    created_tells [] new creates = tt
    created_tells (disk ∷ before) new creates =
        let since = made_creates disk before new creates in
        subst (λ l. IsTold l) (sym since.goes_on) (more_told since.added (empty_file (removed_of (disk (next_name p))) ∷ []) tt)

    all_next : (disk : Disk) (f g : DiskFile) (k : AreKeptAt (bare p) false None disk f g) (before : List Disk) (new : List DiskFile)
        → Creates (log_head p.part (next_of (bare p))) (fresh_file_at (next_name p) (disk ∷ before)) new → NextLogMoments (bare p) new
    all_next disk f g k before new creates =
        let since = made_creates disk before new creates in
        let fresh = empty_file (removed_of (disk (next_name p))) in
        subst (λ l. All (NextLogLeaves (bare p)) l) (sym since.goes_on)
        (All-append (NextLogLeaves (bare p)) since.added (fresh ∷ [])
        (All-weaker (LeavesAt (IsShutOrWhole (removed_of (disk (next_name p))) (log_at_rest (log_head p.part (next_of (bare p))) []))) (NextLogLeaves (bare p)) (λ x leaves. created_next p disk f g k x head leaves) since.added since.each)
        (All-cons (NextLogLeaves (bare p)) fresh [] (empty_next p disk f g k) (All-nil (NextLogLeaves (bare p)))))

    pub created_moments : (disks : List Disk) (log new : List DiskFile) (sealed : Option (List DiskFile)) → Tells disks log → Kept disks log sealed → Creates (log_head p.part (next_of (bare p))) (fresh_file_at (next_name p) disks) new → NextLogMoments (bare p) new
    created_moments [] log new sealed tells kept creates = subst (λ l. All (NextLogLeaves (bare p)) l) (sym ((creates.moments None tt).untold refl)) (All-nil (NextLogLeaves (bare p)))
    created_moments (disk ∷ before) [] new sealed tells kept creates = absurd tells
    created_moments (disk ∷ before) (f ∷ past) new sealed tells kept creates = let any = some_sealed sealed in all_next disk f any.0 (kept any.0 any.1) before new creates

    pub sealed_told : (disks : List Disk) (log new : List DiskFile) (sealed : Option (List DiskFile)) → Tells disks log → Kept disks log sealed → next_of (bare p) < 2 ^ 63
        → IfTold new (λ f. f ≡ settled_file (log_at_rest (log_head p.part (next_of (bare p))) [])) → IfFiles (makes (next_name p) disks) new (Some log) (AreKeptAt (sealed_part (bare p)) false None)
    sealed_told [] log new sealed tells kept bound is = tt
    sealed_told (disk ∷ before) [] new sealed tells kept bound is = absurd tells
    sealed_told (disk ∷ before) (f ∷ past) [] sealed tells kept bound is = tt
    sealed_told (disk ∷ before) (f ∷ past) (x ∷ more) sealed tells kept bound is = λ g same.
        let any = some_sealed sealed in
        subst (λ h. AreKeptAt (sealed_part (bare p)) false None (put (next_name p) out disk) x h) (sym same) (seal_keeps p disk f any.0 (kept any.0 any.1) x bound head is)

    -- ---- the log was not created, and its device came home

    returned : (disk : Disk) (before : List Disk) (x : DiskFile) → returns_as (next_name p) (home x) (put (next_name p) out disk ∷ disk ∷ before) ≡ put (next_name p) (home x) disk ∷ put (next_name p) out disk ∷ disk ∷ before
    returned disk before x =
        ap (λ e. if is_out e then put (next_name p) (home x) (put (next_name p) out disk) ∷ put (next_name p) out disk ∷ disk ∷ before else put (next_name p) out disk ∷ disk ∷ before) (put_there (next_name p) out disk)
        ∙ ap (λ d. d ∷ put (next_name p) out disk ∷ disk ∷ before) (put_twice (next_name p) out (home x) disk)

    broken_now : (disk : Disk) (f g : DiskFile) (k : AreKeptAt (bare p) false None disk f g) (before : List Disk) (broken : List DiskFile)
        → Creates (log_head p.part (next_of (bare p))) (fresh_file_at (next_name p) (disk ∷ before)) broken → IfTold broken (NextLogLeaves (bare p))
    broken_now disk f g k before broken creates =
        let fresh = empty_file (removed_of (disk (next_name p))) in
        now_since (NextLogLeaves (bare p)) (fresh ∷ []) broken (empty_next p disk f g k)
        (since_weaker (LeavesAt (IsShutOrWhole (removed_of (disk (next_name p))) (log_at_rest (log_head p.part (next_of (bare p))) []))) (NextLogLeaves (bare p)) (fresh ∷ []) broken
        (λ x leaves. created_next p disk f g k x head leaves) (made_creates disk before broken creates))

    back_moments : (disk : Disk) (f g : DiskFile) (k : AreKeptAt (bare p) false None disk f g) (before : List Disk) (broken : List DiskFile) → IfTold broken (NextLogLeaves (bare p))
        → EachSince (λ d. Leaves d f g) (disk ∷ before) (comes_home (next_name p) (λ x. home x) broken (put (next_name p) out disk ∷ disk ∷ before))
    back_moments disk f g k before [] now = EachSince-one (λ d. Leaves d f g) (put (next_name p) out) (disk ∷ before) (inl (out_leaves p disk f g k))
    back_moments disk f g k before (x ∷ more) now =
        subst (λ ds. EachSince (λ d. Leaves d f g) (disk ∷ before) ds) (sym (returned disk before x))
        (EachSince-trans (λ d. Leaves d f g) (disk ∷ before) (put (next_name p) out disk ∷ disk ∷ before) (put (next_name p) (home x) disk ∷ put (next_name p) out disk ∷ disk ∷ before)
        (EachSince-one (λ d. Leaves d f g) (put (next_name p) out) (disk ∷ before) (inl (out_leaves p disk f g k)))
        (EachSince-one (λ d. Leaves d f g) (λ d. put (next_name p) (home x) disk) (put (next_name p) out disk ∷ disk ∷ before) (inl (home_leaves p disk f g k x now))))

    pub broken_moments : (disks : List Disk) (log broken : List DiskFile) (sealed : Option (List DiskFile)) → Kept disks log sealed → Creates (log_head p.part (next_of (bare p))) (fresh_file_at (next_name p) disks) broken
        → Moments disks log sealed (comes_home (next_name p) (λ x. home x) broken (makes (next_name p) disks))
    broken_moments disks [] broken sealed kept creates = tt
    broken_moments [] (f ∷ past) broken sealed kept creates = λ g is. EachSince-none (λ d. Leaves d f g) [] (comes_home (next_name p) (λ x. home x) broken []) (comes_untold (next_name p) (λ x. home x) broken)
    broken_moments (disk ∷ before) (f ∷ past) broken sealed kept creates = λ g is.
        back_moments disk f g (kept g is) before broken (broken_now disk f g (kept g is) before broken creates)

    back_failed : (disk : Disk) (f : DiskFile) (past : List DiskFile) (sealed : Option (List DiskFile)) → ((g : DiskFile) → IsSealedFile sealed g → AreKeptAt (bare p) false None disk f g) → (before : List Disk) (broken : List DiskFile)
        → IsTold broken → IfTold broken (NextLogLeaves (bare p)) → IfFiles (comes_home (next_name p) (λ x. home x) broken (put (next_name p) out disk ∷ disk ∷ before)) (f ∷ past) sealed (AreKeptAt (bare p) true None)
    back_failed disk f past sealed kept before [] tells now = absurd tells
    back_failed disk f past sealed kept before (x ∷ more) tells now =
        subst (λ ds. IfFiles ds (f ∷ past) sealed (AreKeptAt (bare p) true None)) (sym (returned disk before x)) (λ g is. home_kept p disk f g (kept g is) x now)

    pub broken_failed : (disks : List Disk) (log broken : List DiskFile) (sealed : Option (List DiskFile)) → Tells disks log → Kept disks log sealed → Creates (log_head p.part (next_of (bare p))) (fresh_file_at (next_name p) disks) broken
        → IfFiles (comes_home (next_name p) (λ x. home x) broken (makes (next_name p) disks)) log sealed (AreKeptAt (bare p) true None)
    broken_failed [] log [] sealed tells kept creates = tt
    broken_failed [] log (x ∷ more) sealed tells kept creates = tt
    broken_failed (disk ∷ before) [] broken sealed tells kept creates = absurd tells
    broken_failed (disk ∷ before) (f ∷ past) broken sealed tells kept creates =
        let any = some_sealed sealed in
        back_failed disk f past sealed kept before broken (created_tells (disk ∷ before) broken creates) (broken_now disk f any.0 (kept any.0 any.1) before broken creates)

  -- ---- no file was made

  pub unmade_failed : (disks new : List Disk) (log : List DiskFile) (sealed : Option (List DiskFile)) → Kept disks log sealed → FailsMaking (next_name p) disks new → IfFiles new log sealed (AreKeptAt (bare p) true None)
  unmade_failed disks new log sealed kept fails =
      if_files_unmade (next_name p) (AreKeptAt (bare p) false None) (AreKeptAt (bare p) true None) disks new log sealed (failing_keeps (bare p))
      (λ disk f g k. home_kept p disk f g k (empty_file (removed_of (disk (next_name p)))) (empty_next p disk f g k)) kept fails
