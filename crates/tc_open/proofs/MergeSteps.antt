-- The merge of listed components while a partition is being opened: begun, while its device is written, frozen and listed.
use Rattle.std.proofs.Common.{◌≡◌, ◌∙◌, ◌+◌, ◌≤◌, List, [], ◌∷◌, length, refl, sym, ap, subst, inl, inr, Some, None}
use Rattle.std.specs.Prelude.{All}
use Rattle.tc_store.specs.Disk.{Disk, IsThere, MayLeaveAt, home, put, removed_of, still, taken}
use Rattle.tc_store.specs.DiskFile.{DiskFile, IsSettled, empty_file}
use Rattle.tc_store.specs.Gate.{IsShutOr, IsShutOrWhole}
use Rattle.tc_store.specs.Images.{Image}
use Rattle.tc_store.specs.Moments.{IfTold, LeavesAt, LeavesOnly}
use Rattle.tc_store.specs.StoreCalls.{FailsMaking, comes_home, fresh_file_at, frozen_entry, makes}
use Rattle.tc_store.proofs.NameLemmas.{put_there}
use Rattle.tc_component.specs.Rows.{IsComponent, IsShortWrite, component_bytes}
use Rattle.tc_component.proofs.Versions.{written_component}
use Rattle.tc_lsm_model.specs.Contents.{Content, Partition}
use Rattle.tc_lsm_model.specs.Lists.{live}
use Rattle.tc_lsm_model.specs.Merges.{IsMerge, Run, in_run, swapped}
use Rattle.tc_lsm_model.proofs.MergeLaws.{swapped_replaces}
use Rattle.tc_machine.specs.Components.{file_of}
use Rattle.tc_machine.specs.Events.{device_called, file_frozen, merge_begun, merge_installed, step}
use Rattle.tc_machine.specs.Kept.{IsKept, IsMemoryKept}
use Rattle.tc_machine.specs.State.{Merging, State}
use Rattle.tc_machine.specs.Steps.{IsShutOrHas, nothing_held}
use Rattle.tc_machine.proofs.Events.{event_keeps}
use Rattle.tc_machine.proofs.FreeNames.{none_there}
use Rattle.tc_machine.proofs.MemorySteps.{merge_begun_memory, merge_installed_memory, rebased_memory}
use Rattle.tc_machine.proofs.FilesMade.{made_at}
use Rattle.tc_machine.proofs.Moments.{put_twice}
use Rattle.tc_machine.proofs.Rebasing.{rebased_is_kept}
use Rattle.tc_part_model.specs.PartView.{no_files}
use Rattle.tc_open.specs.BeingOpened.{AreIn, IsKeptWriting, IsOpening, IsWritingNow, opening_at}
use Rattle.tc_open.proofs.JobMoments.{MayWrite, came_again, came_opened, came_still, never_made, writing_now}
use Rattle.tc_open.proofs.OpeningPictures.{keeps_store}

module _ (part : Partition) (cs : List Content) (run : Run) (c : Content) (two : 2 ≤ run.length) (within : run.first + run.length ≤ length cs) (is_merge : IsMerge (in_run run cs) c) where
  abbrev merged : List Content
  merged = swapped run c cs

  abbrev m : Merging
  m = record { run = run; target = c }

  -- the merge is out
  abbrev merging_at : Disk → State
  merging_at disk = record (opening_at cs [] disk) { merge = Some m }

  -- ---- over one disk

  module _ (disk : Disk) (k : IsKept part (opening_at cs [] disk)) (free : IsThere (disk (file_of c)) → ⊥) where
    abbrev fresh : DiskFile
    fresh = empty_file (removed_of (disk (file_of c)))

    begun : IsKept part (merging_at (put (file_of c) (home fresh) disk))
    begun =
        let none_is = none_there (disk (file_of c)) free in
        event_keeps part (opening_at cs [] disk) (merge_begun run c) k (record { none_out = refl; sound = refl; two = two; within = within; is_merge = is_merge; before = none_is.0; absent = none_is.1 })

    fresh_leaves : LeavesAt (IsShutOrHas (IsComponent c)) fresh
    fresh_leaves image left = begun.files.merge_file image (subst (λ e. MayLeaveAt (nothing_held (file_of c)) e image) (sym (put_there (file_of c) (home fresh) disk)) left)

    -- whatever its device has by then
    called : (x : DiskFile) → LeavesAt (IsShutOrHas (IsComponent c)) x → IsKept part (merging_at (put (file_of c) (home x) disk))
    called x leaves =
        let first = put (file_of c) (home fresh) disk in
        subst (λ files. IsKept part (merging_at files)) (put_twice (file_of c) (home fresh) (home x) disk)
        (event_keeps part (merging_at first) (device_called (file_of c) x) begun
        (record { old = fresh; home = put_there (file_of c) (home fresh) disk; may = inr (inr (inr (record { merging = m; is_out = refl; named = refl; leaves = leaves }))) }))

    -- its file never changes any more
    frozen : (x : DiskFile) → LeavesAt (IsShutOrHas (IsComponent c)) x → IsSettled x → IsKept part (merging_at (put (file_of c) (still x.content) disk))
    frozen x leaves settled =
        let now = put (file_of c) (home x) disk in
        subst (λ files. IsKept part (merging_at files)) (ap (λ e. put (file_of c) (taken e) now) (put_there (file_of c) (home x) disk) ∙ put_twice (file_of c) (home x) (still x.content) disk)
        (event_keeps part (merging_at now) (file_frozen (file_of c)) (called x leaves) (record { file = x; home = put_there (file_of c) (home x) disk; settled = settled }))

    -- and its component is listed in place of the run
    installed : (x : DiskFile) → LeavesAt (IsShutOrHas (IsComponent c)) x → IsSettled x → IsComponent c x.content → IsKept part (opening_at merged [] (put (file_of c) (still x.content) disk))
    installed x leaves settled whole =
        let s = merging_at (put (file_of c) (still x.content) disk) in
        rebased_is_kept part (step merge_installed s) (event_keeps part s merge_installed (frozen x leaves settled) (record { merging = m; is_out = refl; still = (x.content, put_there (file_of c) (still x.content) disk, whole) }))

    pub may_write : AreIn disk → MayWrite part (live cs) (IsComponent c) (file_of c) disk
    may_write is_in = record {
      is_in = is_in;
      kept = keeps_store part cs [] None None disk k;
      fresh = fresh_leaves;
      called = λ x leaves. keeps_store part cs [] None (Some m) (put (file_of c) (home x) disk) (called x leaves);
      frozen = λ x leaves settled. keeps_store part cs [] None (Some m) (put (file_of c) (still x.content) disk) (frozen x leaves settled);
    }

  -- ---- what is in memory, and what is stored

  merged_memory : IsMemoryKept part (opening_at cs [] no_files) → IsMemoryKept part (opening_at merged [] no_files)
  merged_memory memory =
      let s = opening_at cs [] no_files in
      rebased_memory part (step merge_installed (merging_at no_files)) (merge_installed_memory part s m (merge_begun_memory part s run c memory two within is_merge))

  -- ---- where the store tells

  module _ (disks : List Disk) (is : IsOpening part cs [] disks) (free : IfTold disks (λ disk. IsThere (disk (file_of c)) → ⊥)) where
    may_on : (ds : List Disk) → IfTold ds (λ disk. IsKept part (opening_at cs [] disk)) → IfTold ds AreIn → IfTold ds (λ disk. IsThere (disk (file_of c)) → ⊥) → IfTold ds (MayWrite part (live cs) (IsComponent c) (file_of c))
    may_on [] kept is_in absent = tt
    may_on (disk ∷ past) kept is_in absent = may_write disk kept absent is_in

    may : IfTold disks (MayWrite part (live cs) (IsComponent c) (file_of c))
    may = may_on disks is.kept is.home free

    pub merge_not_made : (later : List Disk) → FailsMaking (file_of c) disks later → IsKeptWriting part (live cs) (IsComponent c) disks later
    merge_not_made later fails = never_made part (live cs) (IsComponent c) (file_of c) disks later may fails

    abbrev Moments : List DiskFile → List DiskFile → Type 0
    Moments old device = (before : Image) → IfTold old (LeavesAt (IsShutOr before)) → LeavesOnly (IsShutOrWhole before (component_bytes c)) old device

    now_on : (ds : List Disk) (device : List DiskFile) → All IsShortWrite c.entries → IfTold ds (MayWrite part (live cs) (IsComponent c) (file_of c)) → Moments (fresh_file_at (file_of c) ds) device → IfTold ds (λ disk. IsWritingNow (IsComponent c) device)
    now_on [] device short mays moments = tt
    now_on (disk ∷ past) device short mays moments =
        writing_now (IsComponent c) (LeavesAt (IsShutOrWhole before (component_bytes c))) (empty_file before) device mays.fresh (λ x leaves image left. written image (leaves image left))
        (moments before (made_at (file_of c) before (IsShutOr before) tt (λ b shut. inl shut) (λ b was. inr was)))
      where
        before : Image
        before = removed_of (disk (file_of c))

        -- what was there before is no worse once the file was made
        written : (image : Image) → IsShutOrWhole before (component_bytes c) image → IsShutOrHas (IsComponent c) image
        written None is_shut = tt
        written (Some b) (inl closed) = inl closed
        written (Some b) (inr (inl was)) = mays.fresh (Some b) (inr was)
        written (Some b) (inr (inr whole)) = inr (written_component c b (swapped_replaces part run cs c is.memory.list is_merge).content short whole.same whole.short)

    pub merge_now : (device : List DiskFile) → All IsShortWrite c.entries → Moments (fresh_file_at (file_of c) disks) device → IfTold disks (λ disk. IsWritingNow (IsComponent c) device)
    merge_now device short moments = now_on disks device short may moments

    module _ (device : List DiskFile) (now : IfTold disks (λ disk. IsWritingNow (IsComponent c) device)) where
      pub merge_home : (later : List Disk) → later ≡ comes_home (file_of c) (λ f. home f) device (makes (file_of c) disks) → IsKeptWriting part (live cs) (IsComponent c) disks later
      merge_home later came = came_again part (live cs) (IsComponent c) (file_of c) disks later device may now came

      pub merge_still : IfTold device IsSettled → (later : List Disk) → later ≡ comes_home (file_of c) frozen_entry device (makes (file_of c) disks) → IsKeptWriting part (live cs) (IsComponent c) disks later
      merge_still settled later came = came_still part (live cs) (IsComponent c) (file_of c) disks later device may now settled came

      module _ (settled : IfTold device IsSettled) (whole : IfTold device (λ f. IsComponent c f.content)) where
        listed_on : (ds : List Disk) → IfTold ds (λ disk. IsKept part (opening_at cs [] disk)) → IfTold ds (λ disk. IsThere (disk (file_of c)) → ⊥)
            → IfTold ds (λ disk. (n : IsWritingNow (IsComponent c) device) → IsKept part (opening_at merged [] (put (file_of c) (still n.now.content) disk)))
        listed_on [] kept absent = tt
        listed_on (disk ∷ past) kept absent = λ n. installed disk kept absent n.now n.leaves (subst (λ fs. IfTold fs IsSettled) n.is settled) (subst (λ fs. IfTold fs (λ f. IsComponent c f.content)) n.is whole)

        pub merge_opened : (later : List Disk) → later ≡ comes_home (file_of c) frozen_entry device (makes (file_of c) disks) → IsOpening part merged [] later
        merge_opened later came = came_opened part (live cs) (IsComponent c) (file_of c) merged disks later device (merged_memory is.memory) may now (listed_on disks is.kept free) came
