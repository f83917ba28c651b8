-- A part whose sealed table is flushed: what stays.
use Rattle.std.proofs.Common.{◌≡◌, ◌∙◌, true, List, [], Option, Some, None, ap}
use Rattle.std.specs.Prelude.{IfSome, is_some, option_map}
use Rattle.tc_log.specs.Appending.{LogState}
use Rattle.tc_store.specs.Disk.{Disk}
use Rattle.tc_store.specs.DiskFile.{DiskFile, IsSettled}
use Rattle.tc_store.specs.Moments.{IfTold}
use Rattle.tc_store.specs.StoreCalls.{comes_home, frozen_entry, removes}
use Rattle.tc_part.specs.FlushEnds.{HasUncovered, covered_name, flushed_name}
use Rattle.tc_lsm_model.specs.Contents.{Content}
use Rattle.tc_part_model.specs.Calls.{MakesFlush}
use Rattle.tc_part_model.specs.Changes.{flushed_part}
use Rattle.tc_part_model.specs.Meaning.{IsPart}
use Rattle.tc_part_model.specs.PartState.{PartState, Told}
use Rattle.tc_part_model.specs.PartView.{PartView, store_of}
use Rattle.tc_part_model.proofs.FlushedParts.{flush_keeps_store}
use Rattle.tc_part_model.proofs.DeviceFiles.{comes_untold}

-- a store that tells nothing tells nothing behind it
pub uncovered_untold : {S D F W : Type 0} (old : PartState S D F W) (disks : S → List Disk) (moments : D → List DiskFile) (device : List DiskFile) (now : List Disk) → is_some old.sealed_log ≡ true → HasUncovered disks moments device old now → disks old.store ≡ [] → now ≡ []
uncovered_untold {D = D} old disks moments device now some uncovered untold = at old.sealed_log some uncovered
  where
    at : (o : Option (LogState D)) → is_some o ≡ true
        → IfSome o (λ l. IfTold (moments l.device) IsSettled × (now ≡ removes (covered_name old) (comes_home (covered_name old) frozen_entry (moments l.device) (comes_home (flushed_name old) frozen_entry device (disks old.store)))))
        → now ≡ []
    at None is gone = absurd (cc)
    at (Some l) is gone =
        gone.1 ∙ ap (λ (ds : List Disk). removes (covered_name old) (comes_home (covered_name old) frozen_entry (moments l.device) (comes_home (flushed_name old) frozen_entry device ds))) untold
        ∙ ap (λ (ds : List Disk). removes (covered_name old) (comes_home (covered_name old) frozen_entry (moments l.device) ds)) (comes_untold (flushed_name old) frozen_entry device)
        ∙ ap (removes (covered_name old)) (comes_untold (covered_name old) frozen_entry (moments l.device))

-- what a flush that is out makes is what is stored, once that is listed
pub flushed_keeps : {D : Type 0} (moments : D → List DiskFile) (u : Told) (q : PartView) (c : Content) (log : Option (LogState D)) → u.sealed_log ≡ option_map (λ (l : LogState D). moments l.device) log → is_some log ≡ true → IsPart u q → u.flushing ≡ true → MakesFlush q c
    → store_of (flushed_part c q) ≡ store_of q
flushed_keeps moments u q c None same some is out makes = absurd (cc)
flushed_keeps moments u q c (Some l) same some is out makes = flush_keeps_store u q c (moments l.device) is out same makes
