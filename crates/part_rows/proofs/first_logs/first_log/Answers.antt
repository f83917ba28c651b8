use Rattle.std.proofs.Common.{List, sym, subst}
use Rattle.tc_store.specs.declared.file_name.FileName.TheVariants.{Log}
use Rattle.tc_store.specs.Disk.{Disk, IsThere}
use Rattle.tc_store.specs.Moments.{IfTold}
use Rattle.part_rows.proofs.FirstLogs.{first_opening}
use Rattle.part_rows.proofs.first_logs.first_log.Goals as goal

pub fresh-requires : goal.fresh-requires
fresh-requires c = subst (λ (disks : List Disk). IfTold disks (λ disk. IsThere (disk (Log 1)) → ⊥)) (sym c.new-store.ensures.empty) (λ there. there)

pub returns-in-Ok-create-clause-opened : goal.returns-in-Ok-create-clause-opened
returns-in-Ok-create-clause-opened c = first_opening _ _ _ _ c.new-store.ensures.empty c.in-Ok.ensures.made c.in-Ok.ensures.file c.in-Ok-create.ensures.created c.in-Ok-create.ensures.content c.in-Ok-create.ensures.means
