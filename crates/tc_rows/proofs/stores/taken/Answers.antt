use Rattle.std.proofs.Common.{List, [], ◌∷◌, inl, inr, sym, subst}
use Rattle.tc_store.specs.declared.file_name.FileName.{FileName}
use Rattle.tc_store.specs.Disk.{Disk, IsAtRest, IsThere, IsSettledHome}
use Rattle.tc_store.specs.Memory.Store.{store_disks}
use Rattle.tc_store.specs.Moments.{IfTold}
use Rattle.tc_rows.proofs.stores.taken.Goals as goal

-- a file that is there in a store at rest is settled
settled : (disks : List Disk) (name : FileName) → IfTold disks IsAtRest → IfTold disks (λ disk. IsThere (disk name)) → IfTold disks (λ disk. IsSettledHome (disk name))
settled [] name rests there = tt
settled (disk ∷ past) name rests there = elim (rests name) [
  | inl gone ↦ absurd (subst IsThere gone there)
  | inr is ↦ is
]

pub take-requires : goal.take-requires
take-requires c = subst (λ (disks : List Disk). IfTold disks (λ disk. IsSettledHome (disk c.args.name))) (sym c.in_ok-is_there.ensures.same)
    (settled (store_disks c.args.store.now) c.args.name c.requires.at_rest (c.in_ok-is_there.ensures.there c.if-not-branch.false))
