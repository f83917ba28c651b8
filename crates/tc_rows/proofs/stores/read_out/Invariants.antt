use Rattle.tc_store.specs.Disk.{IsAtRest}
use Rattle.tc_store.specs.Memory.Store.{store_disks}
use Rattle.tc_store.specs.Moments.{IfTold}
use Rattle.tc_rows.proofs.stores.read_out.Given as goal

abbrev pub invariant-loop-name : goal.invariant-loop-name
invariant-loop-name l = IfTold (store_disks l.store) IsAtRest
