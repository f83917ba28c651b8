use Rattle.std.proofs.Common.{List, sym, subst}
use Rattle.tc_store.specs.Disk.{Disk, IsAtRest}
use Rattle.tc_store.specs.Moments.{IfTold}
use Rattle.tc_rows.proofs.stores.files_in.Goals as goal

pub read_out-requires : goal.read_out-requires
read_out-requires c = record { at_rest = subst (λ (disks : List Disk). IfTold disks IsAtRest) (sym c.names.ensures.same) c.requires.at_rest }
