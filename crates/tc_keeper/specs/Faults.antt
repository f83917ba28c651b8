-- Faults of a run: what kind each is, and what counts where it comes.
use Rattle.std.specs.Prelude.{◌≡◌, ◌⊎◌, ◌≤◌, ℕ, Option, Some, None, Result, Ok, Err, option_map, unwrap_or, IfSome}
use Rattle.tc_bytes.specs.Counts.{Rose}
use Rattle.tc_part_model.specs.PartState.{PartState}
use Rattle.tc_store.specs.Counted.{Counts}
use Rattle.tc_store.specs.KitFaults.{KitFaults}
use Rattle.tc_store.specs.declared.damage.Damage.{Damage}
use Rattle.tc_store.specs.declared.kit.Kit.{Kit}
use Rattle.tc_work.specs.declared.fault.EngineFault.{EngineFault}
use Rattle.tc_work.specs.declared.fault.EngineFault.TheVariants as engine
use Rattle.tc_run_model.specs.Course.{Ending, finished, input_failed, input_spent, output_failed, stopped}
use Rattle.tc_keeper.specs.Standing.{IsSeen}
use Rattle.tc_keeper.specs.declared.fault.RunFault.{RunFault}
use Rattle.tc_keeper.specs.declared.fault.RunFault.TheVariants.{Usage, Read, Write, Spent, Disk, Damaged, Memory, Layout}

-- The exit status: 0 for a run to the end of its input, and a number of its own for each fault.
abbrev pub status_of : Option RunFault → ℕ
status_of None = 0
status_of (Some Usage) = 2
status_of (Some Read) = 3
status_of (Some (Write n)) = 4
status_of (Some (Disk p)) = 5
status_of (Some (Damaged p damage)) = 6
status_of (Some Memory) = 7
status_of (Some (Layout p found found_of asked_of)) = 8
status_of (Some Spent) = 9

-- the fault that a function answered, if any
abbrev pub fault_in : {T : Type 0} → Result T RunFault → Option RunFault
fault_in (Ok x) = None
fault_in (Err fault) = Some fault

-- ---- faults of a partition

-- an engine of this partition failed
abbrev pub fault_of_engine : ℕ → EngineFault → RunFault
fault_of_engine p engine.Disk = Disk p
fault_of_engine p (engine.Damaged damage) = Damaged p damage
fault_of_engine p engine.Spent = Spent
fault_of_engine p engine.Memory = Memory

-- ---- how a run ends by a fault

-- A run ends within a window: a write of its replies failed after so many bytes, or it could not be answered.
pub data Stop : Type 0 where
  failed_writing : ℕ → Stop
  gave_up : Stop

abbrev pub ending_at : Stop → Ending
ending_at (failed_writing n) = output_failed n
ending_at gave_up = stopped

-- a fault in a window; none for one of the words, of the source, or of opening
abbrev pub stop_of : RunFault → Option Stop
stop_of Usage = None
stop_of Read = None
stop_of (Write n) = Some (failed_writing n)
stop_of Spent = Some gave_up
stop_of (Disk p) = Some gave_up
stop_of (Damaged p damage) = Some gave_up
stop_of Memory = Some gave_up
stop_of (Layout p found found_of asked_of) = None

-- A run over an opened store ends so by this fault, or by none. Of a run that spent its numbers it is either the bytes of the
-- input, or a generation: then this holds.
abbrev pub EndsAs : Type 0 → Option RunFault → Ending → Type 0
EndsAs spent None ending = ending ≡ finished
EndsAs spent (Some Usage) ending = ⊥
EndsAs spent (Some Read) ending = ending ≡ input_failed
EndsAs spent (Some (Write n)) ending = ending ≡ output_failed n
EndsAs spent (Some Spent) ending = (ending ≡ input_spent) ⊎ ((ending ≡ stopped) × spent)
EndsAs spent (Some (Disk p)) ending = ending ≡ stopped
EndsAs spent (Some (Damaged p damage)) ending = ending ≡ stopped
EndsAs spent (Some Memory) ending = ending ≡ stopped
EndsAs spent (Some (Layout p found found_of asked_of)) ending = ⊥

-- ---- causes

-- the fault is one of the sink
abbrev pub IsWrite : RunFault → Type 0
IsWrite Usage = ⊥
IsWrite Read = ⊥
IsWrite (Write n) = Unit {0}
IsWrite Spent = ⊥
IsWrite (Disk p) = ⊥
IsWrite (Damaged p damage) = ⊥
IsWrite Memory = ⊥
IsWrite (Layout p found found_of asked_of) = ⊥

-- if it is one of the disk, this holds of its partition
abbrev pub IfDisk : RunFault → (ℕ → Type 0) → Type 0
IfDisk (Disk p) P = P p
IfDisk _ _ = Unit {0}

-- if it is damage, this holds of it by the partition
abbrev pub IfDamaged : RunFault → (ℕ → Damage → Type 0) → Type 0
IfDamaged (Damaged p damage) P = P p damage
IfDamaged _ _ = Unit {0}

-- it is no damage of a partition that is looked at
abbrev pub IsNoDamage : Option ℕ → RunFault → Type 0
IsNoDamage only (Damaged p damage) = IsSeen only p → ⊥
IsNoDamage _ _ = Unit {0}

-- What it says of what keeps the documents: that a generation is spent, or what is damaged.
abbrev pub IsSaid : Type 0 → (ℕ → Damage → Type 0) → RunFault → Type 0
IsSaid spent met Spent = spent
IsSaid spent met (Damaged p damage) = met p damage
IsSaid _ _ _ = Unit {0}

-- it is one of a store that is open
abbrev pub IsOfStore : RunFault → Type 0
IsOfStore Usage = ⊥
IsOfStore Read = ⊥
IsOfStore (Write n) = ⊥
IsOfStore (Layout p found found_of asked_of) = ⊥
IsOfStore _ = Unit {0}

-- it is one of a job, or of a scan, that was waited for
abbrev pub IsOfJob : RunFault → Type 0
IsOfJob Usage = ⊥
IsOfJob Read = ⊥
IsOfJob (Write n) = ⊥
IsOfJob Spent = ⊥
IsOfJob (Layout p found found_of asked_of) = ⊥
IsOfJob _ = Unit {0}

-- it is one of a window, and not of the words, of the source, or of opening
abbrev pub IsOfWindow : RunFault → Type 0
IsOfWindow Usage = ⊥
IsOfWindow Read = ⊥
IsOfWindow (Layout p found found_of asked_of) = ⊥
IsOfWindow _ = Unit {0}

-- it is one of a run over an opened store
abbrev pub IsOfRun : RunFault → Type 0
IsOfRun Usage = ⊥
IsOfRun (Layout p found found_of asked_of) = ⊥
IsOfRun _ = Unit {0}

-- ---- counts of faults

-- the counts of the watches of each partition that there is
abbrev pub DiskFaults : Type 0
DiskFaults = ℕ → Option KitFaults

-- the counts of faults of a kit's watches
abbrev pub faults_in : {S W D F : Type 0} → (W → Counts) → Kit S W D F → KitFaults
faults_in counts kit = record { main = (counts kit.main).faults; flusher = (counts kit.flusher).faults; merger = (counts kit.merger).faults; reader = (counts kit.reader).faults }

-- the same of a part; a watch that is lent has none
abbrev pub faults_of_part : {S D F W : Type 0} → (W → Counts) → PartState S D F W → KitFaults
faults_of_part counts part = record {
  main = (counts part.main).faults;
  flusher = unwrap_or (option_map (λ w. (counts w).faults) part.flusher) 0;
  merger = unwrap_or (option_map (λ w. (counts w).faults) part.merger) 0;
  reader = unwrap_or (option_map (λ w. (counts w).faults) part.reader) 0;
}

-- no count fell
pub record NoneFell (old new : KitFaults) : Type 0 where
  pub main : old.main ≤ new.main
  pub flusher : old.flusher ≤ new.flusher
  pub merger : old.merger ≤ new.merger
  pub reader : old.reader ≤ new.reader

-- one of them rose
abbrev pub OneRose : KitFaults → KitFaults → Type 0
OneRose old new = Rose old.main new.main ⊎ (Rose old.flusher new.flusher ⊎ (Rose old.merger new.merger ⊎ Rose old.reader new.reader))

-- a partition is there as before, and no count of it fell
abbrev pub HaveStayed : Option KitFaults → Option KitFaults → Type 0
HaveStayed None None = Unit {0}
HaveStayed None (Some now) = ⊥
HaveStayed (Some before) None = ⊥
HaveStayed (Some before) (Some now) = NoneFell before now

-- it is there, and one of its counts rose
abbrev pub HaveRisen : Option KitFaults → Option KitFaults → Type 0
HaveRisen (Some before) (Some now) = OneRose before now
HaveRisen _ _ = ⊥

-- What counts over a call of the store: no count falls, and one of the partition rose where the disk is at fault. That a generation is
-- spent, and what is damaged, is told as it is.
pub record HasDiskCause (old new : DiskFaults) (why : RunFault → Type 0) (fault : Option RunFault) : Type 0 where
  pub stayed : (p : ℕ) → HaveStayed (old p) (new p)
  pub disk : IfSome fault (λ f. IfDisk f (λ p. HaveRisen (old p) (new p)))
  pub damaged : IfSome fault (λ f. IfDamaged f (λ p damage. why (Damaged p damage)))
  pub spent : IfSome fault (λ f. f ≡ Spent → why Spent)

-- The same over a window: the count of the sink's faults does not fall, and rises where a write failed.
pub record HasCauses (before now : ℕ) (old new : DiskFaults) (why : RunFault → Type 0) (fault : Option RunFault) : Type 0 where
  pub kept : before ≤ now
  pub failed : IfSome fault (λ f. IsWrite f → Rose before now)
  pub kind : IfSome fault IsOfWindow
  pub disks : HasDiskCause old new why fault

-- The same over a run, whose fault may also be one of the source, which may spend numbers too.
pub record HasRunCauses (reads reads' before now : ℕ) (old new : DiskFaults) (why : RunFault → Type 0) (fault : Option RunFault) : Type 0 where
  pub heard : reads ≤ reads'
  pub read : IfSome fault (λ f. f ≡ Read → Rose reads reads')
  pub kept : before ≤ now
  pub failed : IfSome fault (λ f. IsWrite f → Rose before now)
  pub stayed : (p : ℕ) → HaveStayed (old p) (new p)
  pub disk : IfSome fault (λ f. IfDisk f (λ p. HaveRisen (old p) (new p)))
  pub damaged : IfSome fault (λ f. IfDamaged f (λ p damage. why (Damaged p damage)))
  pub kind : IfSome fault IsOfRun
