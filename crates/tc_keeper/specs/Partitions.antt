-- How the engines of the partitions stand to a world that may not be known, and how a run ends by their faults, and by those of a scan.
use Rattle.std.specs.Prelude.{ℕ, Bool, true, false, List, Result, Ok, Err}
use Rattle.tc_command.specs.declared.replies.Reply.{Reply}
use Rattle.tc_command.specs.declared.replies.Reply.TheVariants.{Collected}
use Rattle.tc_keeper.specs.Standing.{HoldWorld}
use Rattle.tc_keeper.specs.WithJobs.{WithJobs}
use Rattle.tc_keeper.specs.declared.engines_fault.EnginesFault.{EnginesFault}
use Rattle.tc_keeper.specs.declared.engines_fault.EnginesFault.TheVariants as engines
use Rattle.tc_shown.specs.declared.fault.ScanFault.{ScanFault}
use Rattle.tc_shown.specs.declared.fault.ScanFault.TheVariants as scan
use Rattle.tc_shown.specs.declared.scan.Scanned.{Scanned}
use Rattle.tc_store.specs.declared.damage.Damage.TheVariants.{Bytes}
use Rattle.tc_work.specs.Moving.{Eyes}
use Rattle.tc_work.specs.declared.fault.EngineFault.{EngineFault}
use Rattle.tc_work.specs.declared.fault.EngineFault.TheVariants as engine
use Rattle.tc_keeper.specs.Faults.{fault_of_engine}
use Rattle.tc_keeper.specs.Sight.{IfKnown, Sight}
use Rattle.tc_keeper.specs.declared.fault.RunFault.{RunFault}
use Rattle.tc_keeper.specs.declared.fault.RunFault.TheVariants.{Disk, Damaged, Memory}

-- each holds its part of the world, where that is known, or the one that is known alone
abbrev pub StandAt : {S D F W : Type 0} → Eyes S D F W → List (WithJobs S D F W) → Sight → Type 0
StandAt e es known = IfKnown known (λ only w. HoldWorld e only es w)

-- How a run ends by a fault of a window in the engine of this partition. No number of writes is spent: an input has not so many
-- lines.
abbrev pub window_fault_at : ℕ → EngineFault → RunFault
window_fault_at p engine.Disk = Disk p
window_fault_at p (engine.Damaged damage) = Damaged p damage
window_fault_at p engine.Spent = Memory
window_fault_at p engine.Memory = Memory

-- by a fault of a window in the engines
abbrev pub window_fault_of : EnginesFault → RunFault
window_fault_of (engines.Of p fault) = window_fault_at p fault
window_fault_of engines.Memory = Memory

-- by one of another call
abbrev pub fault_of_engines : EnginesFault → RunFault
fault_of_engines (engines.Of p fault) = fault_of_engine p fault
fault_of_engines engines.Memory = Memory

-- by one of a scan
abbrev pub fault_of_scan : ScanFault → RunFault
fault_of_scan (scan.Disk p) = Disk p
fault_of_scan (scan.Damaged p file place bytes) = Damaged p (Bytes file place bytes)
fault_of_scan scan.Memory = Memory

-- what is replied to a collect, or how the run ends, by whether what was scanned is a beginning of what is shown
abbrev pub collected_as : Bool → Result Scanned ScanFault → Result Reply RunFault
collected_as false outcome = Err Memory
collected_as true (Ok scanned) = Ok (Collected scanned.rows scanned.upto)
collected_as true (Err fault) = Err (fault_of_scan fault)
