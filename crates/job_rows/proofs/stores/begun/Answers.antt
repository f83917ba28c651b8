use Rattle.std.proofs.Common.{List, sym, subst}
use Rattle.tc_store.specs.declared.file_name.FileName.TheVariants.{Component}
use Rattle.tc_store.specs.Disk.{Disk, IsThere}
use Rattle.tc_store.specs.Moments.{IfTold}
use Rattle.job_rows.proofs.stores.begun.Goals as goal

pub fresh-made-requires : goal.fresh-made-requires
fresh-made-requires c = subst (λ (disks : List Disk). IfTold disks (λ disk. IsThere (disk (Component 1 1)) → ⊥)) (sym c.new-store.ensures.empty) (λ there. there)
