-- The flush of the logs of an opening, as its store tells it: what each of its calls leaves, and at each moment.
use Rattle.std.proofs.Common.{◌≡◌, ◌<◌, ◌^◌, ◌++◌, ℕ, List, [], ◌∷◌, length, subst, Some, None}
use Rattle.std.specs.Prelude.{All}
use Rattle.tc_store.specs.declared.file_name.FileName.{FileName}
use Rattle.tc_store.specs.Disk.{Disk, IsThere, home, put, removed_of, still}
use Rattle.tc_store.specs.DiskFile.{DiskFile, IsSettled, empty_file, settled_file}
use Rattle.tc_store.specs.Gate.{IsShutOr, IsShutOrWhole}
use Rattle.tc_store.specs.Moments.{IfTold, LeavesAt, LeavesOnly}
use Rattle.tc_store.specs.StoreCalls.{FailsMaking, comes_home, fresh_file_at, frozen_entry, makes}
use Rattle.tc_plain_model.specs.Writes.{Pairs, Write}
use Rattle.tc_component.specs.Rows.{IsComponent, IsShortWrite, component_bytes}
use Rattle.tc_lsm_model.specs.Contents.{Content, Partition}
use Rattle.tc_lsm_model.specs.Flushes.{IsFlush}
use Rattle.tc_lsm_model.specs.Lists.{live}
use Rattle.tc_lsm_model.specs.Tables.{table_over}
use Rattle.tc_machine.specs.Kept.{IsKept}
use Rattle.tc_machine.specs.Logs.{all_writes}
use Rattle.tc_machine.specs.Events.{replayed}
use Rattle.tc_machine.specs.Steps.{IsFlushed}
use Rattle.tc_machine.proofs.Moments.{making_flush}
use Rattle.tc_open.specs.BeingOpened.{AreIn, IsOpening, opening_at, stored_by}
use Rattle.tc_open.specs.LogFlushes.{IsDeviceNow, IsKeptBehind, made_name}
use Rattle.tc_open.proofs.FlushSteps.{called, flushing_logs, fresh_is_shut, fresh_leaves, frozen, listed, listed_memory}
use Rattle.tc_open.proofs.JobMoments.{MayWrite, came_again, came_opened, came_still, never_made, whole_file, writing_now}
use Rattle.tc_open.proofs.OpeningPictures.{keeps_store}

module _ (part : Partition) (cs : List Content) (ws : List Write) (more : List (List Write)) where
  abbrev name : FileName
  name = made_name cs (ws ∷ more)

  abbrev Whole : List ℕ → Type 0
  Whole = IsFlushed part cs (replayed cs (ws ∷ more))

  abbrev pairs : Pairs
  pairs = stored_by cs (ws ∷ more)

  -- ---- the device, once the component is written

  module _ (c : Content) (is_flush : IsFlush part cs (table_over (live cs) (all_writes (ws ∷ more))) (length (ws ∷ more)) c) (short : All IsShortWrite c.entries) where
    pub device_now : (disks : List Disk) (device : List DiskFile) → IfTold disks (λ disk. IsKept part (opening_at cs (ws ∷ more) disk)) → IfTold disks (λ disk. IsThere (disk name) → ⊥)
        → LeavesOnly (IsShutOrWhole None (component_bytes c)) (fresh_file_at name disks) device → IfTold disks (λ disk. IsDeviceNow part cs (ws ∷ more) device)
    device_now [] device kept free moments = tt
    device_now (disk ∷ past) device kept free moments =
        writing_now Whole (LeavesAt (IsShutOrWhole None (component_bytes c))) (empty_file (removed_of (disk name))) device (fresh_leaves part cs ws more disk kept free)
        (λ x leaves. making_flush part cs (record { table = table_over (live cs) (all_writes (ws ∷ more)); logs = ws ∷ more }) c x is_flush is_flush.goes_on.content short leaves) moments

    -- the whole component
    pub whole_now : (device : List DiskFile) (size : ℕ) → size < 2 ^ 63 → IfTold device (λ f. size ≡ length f.content) → IfTold device (λ f. f ≡ settled_file (component_bytes c)) → IfTold device (λ f. IsComponent c f.content)
    whole_now device size fits told is = whole_file c is_flush.goes_on.content short device size fits told is

  -- ---- one disk

  may_write : (disk : Disk) → IsKept part (opening_at cs (ws ∷ more) disk) → AreIn disk → (IsThere (disk name) → ⊥) → MayWrite part pairs Whole name disk
  may_write disk k is_in free = record {
    is_in = is_in;
    kept = keeps_store part cs (ws ∷ more) None None disk k;
    fresh = fresh_leaves part cs ws more disk k free;
    called = λ x leaves. keeps_store part cs (ws ∷ more) (Some (flushing_logs cs (ws ∷ more))) None (put name (home x) disk) (called part cs ws more disk k free x leaves);
    frozen = λ x leaves settled. keeps_store part cs (ws ∷ more) (Some (flushing_logs cs (ws ∷ more))) None (put name (still x.content) disk) (frozen part cs ws more disk k free x leaves settled);
  }

  may_write_on : (ds : List Disk) → IfTold ds (λ disk. IsKept part (opening_at cs (ws ∷ more) disk)) → IfTold ds AreIn → IfTold ds (λ disk. IsThere (disk name) → ⊥) → IfTold ds (MayWrite part pairs Whole name)
  may_write_on [] kept is_in free = tt
  may_write_on (disk ∷ past) kept is_in free = may_write disk kept is_in free

  -- ---- where the store tells

  module _ (disks : List Disk) (is : IsOpening part cs (ws ∷ more) disks) (free : IfTold disks (λ disk. IsThere (disk name) → ⊥)) where
    may : IfTold disks (MayWrite part pairs Whole name)
    may = may_write_on disks is.kept is.home free

    pub not_made : (later : List Disk) → FailsMaking name disks later → IsKeptBehind part cs (ws ∷ more) disks later
    not_made later fails = never_made part pairs Whole name disks later may fails

    module _ (device : List DiskFile) (now : IfTold disks (λ disk. IsDeviceNow part cs (ws ∷ more) device)) where
      pub home_again : (later : List Disk) → later ≡ comes_home name (λ f. home f) device (makes name disks) → IsKeptBehind part cs (ws ∷ more) disks later
      home_again later came = came_again part pairs Whole name disks later device may now came

      pub still_behind : IfTold device IsSettled → (later : List Disk) → later ≡ comes_home name frozen_entry device (makes name disks) → IsKeptBehind part cs (ws ∷ more) disks later
      still_behind settled later came = came_still part pairs Whole name disks later device may now settled came

      -- ---- the component is listed

      module _ (c : Content) (is_flush : IsFlush part cs (table_over (live cs) (all_writes (ws ∷ more))) (length (ws ∷ more)) c) (settled : IfTold device IsSettled) (whole : IfTold device (λ f. IsComponent c f.content)) where
        listed_on : (ds : List Disk) → IfTold ds (λ disk. IsKept part (opening_at cs (ws ∷ more) disk)) → IfTold ds (λ disk. IsThere (disk name) → ⊥)
            → IfTold ds (λ disk. (n : IsDeviceNow part cs (ws ∷ more) device) → IsKept part (opening_at (cs ++ c ∷ []) [] (put name (still n.now.content) disk)))
        listed_on [] kept free = tt
        listed_on (disk ∷ past) kept free = λ n. listed part cs ws more disk kept free n.now c n.leaves (subst (λ fs. IfTold fs IsSettled) n.is settled) is_flush (subst (λ fs. IfTold fs (λ f. IsComponent c f.content)) n.is whole)

        pub opened_with : (later : List Disk) → later ≡ comes_home name frozen_entry device (makes name disks) → IsOpening part (cs ++ c ∷ []) [] later
        opened_with later came = came_opened part pairs Whole name (cs ++ c ∷ []) disks later device (listed_memory part cs ws more c is.memory is_flush) may now (listed_on disks is.kept free) came

-- the file of its device is absent or closed before anything is written
pub shut_at_first : (part : Partition) (cs : List Content) (ws : List Write) (more : List (List Write)) (disks : List Disk) → IsOpening part cs (ws ∷ more) disks → IfTold disks (λ disk. IsThere (disk (made_name cs (ws ∷ more))) → ⊥)
    → IfTold (fresh_file_at (made_name cs (ws ∷ more)) disks) (LeavesAt (IsShutOr None))
shut_at_first part cs ws more [] is free = tt
shut_at_first part cs ws more (disk ∷ past) is free = fresh_is_shut part cs ws more disk is.kept free
