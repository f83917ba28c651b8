-- The fault of a run whose partitions were not all opened.
use Rattle.std.specs.Prelude.{ℕ}
use Rattle.tc_open.specs.declared.fault.OpenCause.{OpenCause}
use Rattle.tc_open.specs.declared.fault.OpenCause.TheVariants as opening
use Rattle.tc_store.specs.declared.fault.ShelfFault.{ShelfFault}
use Rattle.tc_store.specs.declared.fault.ShelfFault.TheVariants as shelf
use Rattle.tc_keeper.specs.declared.fault.RunFault.{RunFault}
use Rattle.tc_keeper.specs.declared.fault.RunFault.TheVariants.{Spent, Disk, Damaged, Memory, Layout}

-- this one of so many partitions was not opened
abbrev pub fault_of_opening : ℕ → ℕ → OpenCause → RunFault
fault_of_opening p count opening.Disk = Disk p
fault_of_opening p count (opening.Damaged damage) = Damaged p damage
fault_of_opening p count (opening.Layout found found_of) = Layout p found found_of count
fault_of_opening p count opening.Spent = Spent
fault_of_opening p count opening.Memory = Memory

-- the kit of this partition was not given
abbrev pub fault_of_shelf : ℕ → ShelfFault → RunFault
fault_of_shelf p shelf.Fault = Disk p
fault_of_shelf p shelf.Memory = Memory
