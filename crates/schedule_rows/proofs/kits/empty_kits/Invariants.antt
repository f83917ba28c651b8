use Rattle.std.specs.Prelude.{All}
use Rattle.tc_store.specs.Disk.{IsAtRest}
use Rattle.tc_store.specs.Memory.Store.{store_disks}
use Rattle.tc_store.specs.Moments.{IfTold}
use Rattle.schedule_rows.proofs.kits.empty_kits.Given as goal

abbrev pub invariant-loop : goal.invariant-loop
invariant-loop l = All (λ kit. IfTold (store_disks kit.store) IsAtRest) l.kits.items
