-- The faults that an audit ends by, and its exit status.
use Rattle.std.specs.Prelude.{ℕ, Option, None, Some}
use Rattle.tc_store.specs.declared.fault.ShelfFault.{ShelfFault}
use Rattle.tc_store.specs.declared.fault.ShelfFault.TheVariants as shelf
use Rattle.tc_check.specs.declared.fault.CheckFault.{CheckFault}
use Rattle.tc_check.specs.declared.fault.CheckFault.TheVariants as check
use Rattle.tc_verdicts.specs.declared.fault.CheckedFault.{CheckedFault}
use Rattle.tc_verdicts.specs.declared.fault.CheckedFault.TheVariants.{Disk, Memory, Write}

-- 0 where all lines were written, and for each fault what a run that ended by it has
abbrev pub status_of : Option CheckedFault → ℕ
status_of None = 0
status_of (Some (Write n)) = 4
status_of (Some (Disk p)) = 5
status_of (Some Memory) = 7

-- the kit of this partition was not given
abbrev pub fault_of_shelf : ℕ → ShelfFault → CheckedFault
fault_of_shelf p shelf.Fault = Disk p
fault_of_shelf p shelf.Memory = Memory

-- there is no verdict on this partition
abbrev pub fault_of_check : ℕ → CheckFault → CheckedFault
fault_of_check p check.Disk = Disk p
fault_of_check p check.Memory = Memory

-- it is one of the sink
abbrev pub IsWrite : CheckedFault → Type 0
IsWrite (Write n) = Unit {0}
IsWrite (Disk p) = ⊥
IsWrite Memory = ⊥
