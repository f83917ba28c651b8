use Rattle.std.specs.Prelude.{All}
use Rattle.tc_store.specs.Disk.{IsAtRest}
use Rattle.tc_store.specs.Memory.Store.{store_disks}
use Rattle.tc_store.specs.Moments.{IfTold}
use Rattle.run_rows.proofs.parts.Parts.kits.Given as goal

abbrev pub invariant-loop-at : goal.invariant-loop-at
invariant-loop-at l = All (λ kit. IfTold (store_disks kit.store) IsAtRest) l.kits.items
