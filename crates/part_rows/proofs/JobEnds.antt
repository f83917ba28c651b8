-- What is left of a flush or of a merge is handed back: no other job goes out or comes back.
use Rattle.std.proofs.Common.{◌≡◌, ◌⊎◌, List, Result, Err, inl, inr, refl, sym, subst}
use Rattle.std.specs.Prelude.{OnOk}
use Rattle.tc_store.specs.DiskFile.{DiskFile}
use Rattle.tc_store.specs.Memory.Device.{device_files}
use Rattle.tc_store.specs.Memory.Frozen.{frozen_content, frozen_name}
use Rattle.tc_store.specs.Memory.Store.{store_disks}
use Rattle.tc_list.specs.declared.run.Run.{Run}
use Rattle.tc_part.specs.FlushEnds.{IsFlushCovering, IsFlushUnlisted}
use Rattle.tc_part.specs.MergeEnds.{IsMergeRemoving, IsMergeUnlisted}
use Rattle.part_rows.specs.Standing.{MemPart}
use Rattle.part_rows.proofs.Parts.{HasSameJobs, same_by}

pub flush_ended : (device : List DiskFile) (old new : MemPart) → IsFlushUnlisted store_disks device old new ⊎ IsFlushCovering frozen_content frozen_name store_disks device_files device old new → HasSameJobs old new
flush_ended device old new (inl left) = same_by old new _ left.same refl refl refl
flush_ended device old new (inr left) = same_by old new _ left.same refl refl refl

pub merge_ended : (device : List DiskFile) (run : Run) (old new : MemPart) → IsMergeUnlisted store_disks device run old new ⊎ IsMergeRemoving frozen_content frozen_name store_disks device run old new → HasSameJobs old new
merge_ended device run old new (inl left) = same_by old new _ left.same refl refl refl
merge_ended device run old new (inr left) = same_by old new _ left.same refl refl refl

-- what is a fault is no good end
pub ends_in_err : {X E : Type 0} (r : Result X E) (e : E) → r ≡ Err e → OnOk r ⊥
ends_in_err r e is = subst (λ (r : Result _ _). OnOk r ⊥) (sym is) tt
