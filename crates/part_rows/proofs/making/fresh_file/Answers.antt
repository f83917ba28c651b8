use Rattle.std.proofs.Common.{List, sym, subst}
use Rattle.tc_store.specs.Disk.{Disk, IsThere}
use Rattle.tc_store.specs.Moments.{IfTold}
use Rattle.part_rows.proofs.making.fresh_file.Goals as goal

pub fresh-requires : goal.fresh-requires
fresh-requires c = subst (λ (disks : List Disk). IfTold disks (λ disk. IsThere (disk c.args.name) → ⊥)) (sym c.in_ok-is_there.ensures.same) (c.in_ok-is_there.ensures.absent c.if-branch.false)
