-- The first log of a part is made, for the moments that are told.
use Rattle.std.proofs.Common.{◌≡◌, ◌∙◌, ◌+◌, ◌<◌, ◌^◌, List, [], ◌∷◌, refl, sym, ap, subst, inl, inr, None, if◌then◌else◌}
use Rattle.std.specs.Prelude.{All}
use Rattle.std.specs.List.{AllZip}
use Rattle.std.proofs.lemmas.List.Elements.{All-nil, All-cons, All-append}
use Rattle.tc_store.specs.Disk.{Disk, home, is_out, out, put, removed_of}
use Rattle.tc_store.specs.DiskFile.{DiskFile, empty_file, settled_file}
use Rattle.tc_store.specs.Gate.{IsShutOr, IsShutOrWhole}
use Rattle.tc_store.specs.Moments.{EachSince, IfTold, LeavesAt}
use Rattle.tc_store.specs.StoreCalls.{FailsMaking, comes_home, fresh_file_at, makes, returns_as}
use Rattle.tc_store.specs.Pictures.{HeldOut}
use Rattle.tc_store.proofs.MomentLemmas.{EachSince-none, EachSince-one, EachSince-trans, told_map}
use Rattle.tc_store.proofs.NameLemmas.{put_there}
use Rattle.tc_store.proofs.StopLaws.{now_since, picture_weaker, since_weaker}
use Rattle.tc_log.specs.Spelling.{IsHead, log_at_rest}
use Rattle.tc_lsm_model.specs.Contents.{Content, Partition}
use Rattle.tc_lsm_model.specs.Lists.{IsList, last_of, live}
use Rattle.tc_machine.specs.Logs.{log_head}
use Rattle.tc_machine.specs.Steps.{nothing_held}
use Rattle.tc_machine.proofs.FilesMade.{made_at}
use Rattle.tc_machine.proofs.Moments.{put_twice}
use Rattle.tc_part_model.specs.Calls.{Creates, HasCreated}
use Rattle.tc_part_model.specs.Leaving.{KeepsStore}
use Rattle.tc_part_model.specs.Meaning.{IsOfContent}
use Rattle.tc_part_model.specs.PartState.{IsTold, ToldComponent}
use Rattle.tc_part_model.specs.Starting.{IsOpened, IsOpenedAt, first_log}
use Rattle.tc_part_model.proofs.DeviceFiles.{comes_untold}
use Rattle.tc_part_model.proofs.StartedParts.{opening_ends}
use Rattle.tc_part_model.proofs.ToldFiles.{wasted}
use Rattle.tc_open.specs.FirstLog.{EachStarts, FailsCreating, IsStarting, MakesLog, held_under}
use Rattle.tc_open.specs.Resting.{IsTidy}
use Rattle.tc_open.proofs.ToldMoments.{told_on}
use Rattle.tc_open.proofs.FirstLogs.{created_leaves, empty_leaves, home_starts, may_start, only_put, out_starts, rest_starts, whole_kept, with_log}

module _ (part : Partition) (cs : List Content) where
  abbrev Tidy : Disk → Type 0
  Tidy disk = IsTidy part cs [] disk

  abbrev Leaves : DiskFile → Type 0
  Leaves x = LeavesAt (MakesLog part cs) x

  abbrev At : Disk → Type 0
  At disk = IsStarting part cs (live cs) disk

  abbrev Each : List Disk → List Disk → Type 0
  Each old new = EachStarts part cs old new

  pub none_made : (disks : List Disk) → Each disks disks
  none_made disks = EachSince-none At disks disks refl

  pub made_moments : (disks : List Disk) → IfTold disks Tidy → Each disks (makes (first_log cs) disks)
  made_moments [] tidy = EachSince-none At [] [] refl
  made_moments (disk ∷ past) tidy = EachSince-one At (put (first_log cs) out) (disk ∷ past) (out_starts part cs disk tidy)

  unmade_moments : (disks new : List Disk) → IfTold disks Tidy → FailsMaking (first_log cs) disks new → Each disks new
  unmade_moments disks new tidy (inl same) = EachSince-none At disks new same
  unmade_moments [] new tidy (inr is) = EachSince-none At [] new is
  unmade_moments (disk ∷ past) new tidy (inr is) =
      subst (λ ds. Each (disk ∷ past) ds) (sym is)
      (EachSince-one At (wasted (first_log cs)) (disk ∷ past) (home_starts part cs disk tidy (empty_file (removed_of (disk (first_log cs)))) (empty_leaves part cs disk tidy)))

  module _ (is_head : IsHead (log_head part (last_of cs + 1))) where
    abbrev head_log : List DiskFile → List DiskFile → Type 0
    head_log device new = Creates (log_head part (last_of cs + 1)) device new

    since_made : (disk : Disk) (past : List Disk) (new : List DiskFile) → IsTidy part cs [] disk → head_log (fresh_file_at (first_log cs) (disk ∷ past)) new → EachSince Leaves (empty_file (removed_of (disk (first_log cs))) ∷ []) new
    since_made disk past new tidy creates =
        since_weaker (LeavesAt (IsShutOrWhole (removed_of (disk (first_log cs))) (log_at_rest (log_head part (last_of cs + 1)) []))) Leaves (empty_file (removed_of (disk (first_log cs))) ∷ []) new
        (λ x leaves. created_leaves part cs disk tidy x is_head leaves) (creates.moments (removed_of (disk (first_log cs))) (made_at (first_log cs) (removed_of (disk (first_log cs))) (IsShutOr (removed_of (disk (first_log cs)))) tt (λ b shut. inl shut) (λ b was. inr was)))

    log_leaves : (disk : Disk) (past : List Disk) (new : List DiskFile) → IsTidy part cs [] disk → head_log (fresh_file_at (first_log cs) (disk ∷ past)) new → All Leaves new
    log_leaves disk past new tidy creates =
        let since = since_made disk past new tidy creates in
        let fresh = empty_file (removed_of (disk (first_log cs))) in
        subst (λ l. All Leaves l) (sym since.goes_on) (All-append Leaves since.added (fresh ∷ []) since.each (All-cons Leaves fresh [] (empty_leaves part cs disk tidy) (All-nil Leaves)))

    pub log_moments : (disks : List Disk) (new : List DiskFile) → IfTold disks Tidy → head_log (fresh_file_at (first_log cs) disks) new → IfTold disks (λ disk. All Leaves new)
    log_moments [] new tidy creates = tt
    log_moments (disk ∷ past) new tidy creates = log_leaves disk past new tidy creates

    log_tells : (disks : List Disk) (new : List DiskFile) → IfTold disks Tidy → head_log (fresh_file_at (first_log cs) disks) new → IfTold (makes (first_log cs) disks) (λ disk. IsTold new)
    log_tells [] new tidy creates = tt
    log_tells (disk ∷ past) new tidy creates =
        let since = since_made disk past new tidy creates in
        subst (λ l. IsTold l) (sym since.goes_on) (told_on (empty_file (removed_of (disk (first_log cs)))) [] since.added)

    -- ---- the log was not created, and its device came home

    returned : (disk : Disk) (past : List Disk) (x : DiskFile) → returns_as (first_log cs) (home x) (put (first_log cs) out disk ∷ disk ∷ past) ≡ put (first_log cs) (home x) disk ∷ put (first_log cs) out disk ∷ disk ∷ past
    returned disk past x =
        ap (λ e. if is_out e then put (first_log cs) (home x) (put (first_log cs) out disk) ∷ put (first_log cs) out disk ∷ disk ∷ past else put (first_log cs) out disk ∷ disk ∷ past) (put_there (first_log cs) out disk)
        ∙ ap (λ d. d ∷ put (first_log cs) out disk ∷ disk ∷ past) (put_twice (first_log cs) out (home x) disk)

    back_moments : (disk : Disk) (past : List Disk) (broken : List DiskFile) → IsTidy part cs [] disk → IfTold broken Leaves → Each (disk ∷ past) (comes_home (first_log cs) (λ x. home x) broken (put (first_log cs) out disk ∷ disk ∷ past))
    back_moments disk past [] tidy now = EachSince-one At (put (first_log cs) out) (disk ∷ past) (out_starts part cs disk tidy)
    back_moments disk past (x ∷ more) tidy now =
        subst (λ ds. Each (disk ∷ past) ds) (sym (returned disk past x))
        (EachSince-trans At (disk ∷ past) (put (first_log cs) out disk ∷ disk ∷ past) (put (first_log cs) (home x) disk ∷ put (first_log cs) out disk ∷ disk ∷ past)
        (EachSince-one At (put (first_log cs) out) (disk ∷ past) (out_starts part cs disk tidy))
        (EachSince-one At (λ d. put (first_log cs) (home x) disk) (put (first_log cs) out disk ∷ disk ∷ past) (home_starts part cs disk tidy x now)))

    broken_moments : (disks : List Disk) (broken : List DiskFile) → IfTold disks Tidy → head_log (fresh_file_at (first_log cs) disks) broken → Each disks (comes_home (first_log cs) (λ x. home x) broken (makes (first_log cs) disks))
    broken_moments [] broken tidy creates = EachSince-none At [] (comes_home (first_log cs) (λ x. home x) broken []) (comes_untold (first_log cs) (λ x. home x) broken)
    broken_moments (disk ∷ past) broken tidy creates =
        back_moments disk past broken tidy (now_since Leaves (empty_file (removed_of (disk (first_log cs))) ∷ []) broken (empty_leaves part cs disk tidy) (since_made disk past broken tidy creates))

    -- whatever failed, each moment of the store is such
    pub failed_moments : (disks new : List Disk) → IfTold disks Tidy → FailsCreating (log_head part (last_of cs + 1)) (first_log cs) disks new → Each disks new
    failed_moments disks new tidy (inl unmade) = unmade_moments disks new tidy unmade
    failed_moments disks new tidy (inr broken) = subst (λ ds. Each disks ds) (sym broken.2) (broken_moments disks broken.0 tidy broken.1)

    -- ---- the log was created

    opened_at : (disk : Disk) (x : DiskFile) → IsTidy part cs [] disk → last_of cs + 1 < 2 ^ 63 → x ≡ settled_file (log_at_rest (log_head part (last_of cs + 1)) []) → IsOpenedAt part cs (put (first_log cs) out disk) x
    opened_at disk x tidy bound is =
        opening_ends part (with_log part cs disk tidy x) (put (first_log cs) out disk) x (whole_kept part cs disk tidy x bound is_head is) (may_start part cs disk tidy x bound is_head is) refl refl
        (sym (put_twice (first_log cs) out (home x) disk)) (put_there (first_log cs) out disk) (only_put part cs disk tidy out)

    opened_files : (disks : List Disk) (log : List DiskFile) → IfTold disks Tidy → last_of cs + 1 < 2 ^ 63 → IfTold log (λ f. f ≡ settled_file (log_at_rest (log_head part (last_of cs + 1)) []))
        → IfTold (makes (first_log cs) disks) (λ disk. IfTold log (λ f. IsOpenedAt part cs disk f))
    opened_files [] log tidy bound is = tt
    opened_files (disk ∷ past) [] tidy bound is = tt
    opened_files (disk ∷ past) (x ∷ more) tidy bound is = opened_at disk x tidy bound is

    pub opening_is : (disks : List Disk) (log : List DiskFile) (components : List ToldComponent) → IfTold disks Tidy → IsList part cs → AllZip IsOfContent components cs → last_of cs + 1 < 2 ^ 63
        → HasCreated (log_head part (last_of cs + 1)) (fresh_file_at (first_log cs) disks) log → IsOpened (record { part = part; disks = makes (first_log cs) disks; log = log; components = components }) cs
    opening_is disks log components tidy lawful of bound created = record {
      components = of;
      lawful = lawful;
      tells = log_tells disks log tidy created.creates;
      files = opened_files disks log tidy bound created.content;
    }

-- once nothing is out any more, each picture holds what is live
pub failed_keeps : (part : Partition) (cs : List Content) (disks new : List Disk) → IfTold disks (IsTidy part cs []) → EachStarts part cs disks new → IfTold new (KeepsStore part (live cs) None)
failed_keeps part cs disks new tidy since = told_map At (KeepsStore part (live cs) None) new (λ disk starts picture left. starts.leaves picture (picture_weaker nothing_held held disk picture (λ n image none. absurd none) left)) (now_since At disks new (now disks tidy) since)
  where
    held : HeldOut
    held = held_under (first_log cs) (MakesLog part cs)

    At : Disk → Type 0
    At disk = IsStarting part cs (live cs) disk

    now : (ds : List Disk) → IfTold ds (IsTidy part cs []) → IfTold ds At
    now [] tidy = tt
    now (disk ∷ past) tidy = rest_starts part cs disk tidy
