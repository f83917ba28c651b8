-- Why a partition is not opened, by what a call below answered.
use Rattle.tc_jobs.specs.declared.fault.JobFault.{JobFault}
use Rattle.tc_jobs.specs.declared.fault.JobFault.TheVariants as job
use Rattle.tc_part.specs.declared.fault.PartFault.{PartFault}
use Rattle.tc_part.specs.declared.fault.PartFault.TheVariants as part
use Rattle.tc_store.specs.declared.damage.Damage.{Damage}
use Rattle.tc_store.specs.declared.fault.DeviceFault.{DeviceFault}
use Rattle.tc_store.specs.declared.fault.DeviceFault.TheVariants as device
use Rattle.tc_store.specs.declared.fault.StoreFault.{StoreFault}
use Rattle.tc_store.specs.declared.fault.StoreFault.TheVariants as store
use Rattle.tc_recover.specs.declared.cause.FilesCause.{FilesCause}
use Rattle.tc_recover.specs.declared.cause.FilesCause.TheVariants as files
use Rattle.tc_open.specs.declared.fault.OpenCause.{OpenCause}
use Rattle.tc_open.specs.declared.fault.OpenCause.TheVariants.{Disk, Damaged, Layout, Spent, Memory}

abbrev pub of_files : FilesCause → OpenCause
of_files files.Disk = Disk
of_files (files.Damaged damage) = Damaged damage
of_files (files.Layout found found_of) = Layout found found_of
of_files files.Memory = Memory

abbrev pub of_store : StoreFault → OpenCause
of_store store.Fault = Disk
of_store store.Memory = Memory

abbrev pub of_device : DeviceFault → OpenCause
of_device device.Fault = Disk
of_device device.Memory = Memory

abbrev pub of_job : JobFault → OpenCause
of_job job.Disk = Disk
of_job (job.Damaged damage) = Damaged damage
of_job job.Memory = Memory

-- No read of a record answers that a number is spent.
abbrev pub of_read : PartFault → JobFault
of_read part.Disk = job.Disk
of_read (part.Damaged damage) = job.Damaged damage
of_read part.Spent = job.Memory
of_read part.Memory = job.Memory

-- of a call that reads no file: it is the disk, or memory, or that no generation is left
abbrev pub IsOfNoFile : OpenCause → Type 0
IsOfNoFile (Damaged damage) = ⊥
IsOfNoFile (Layout found found_of) = ⊥
IsOfNoFile _ = Unit {0}

-- of a call of the store or of a device
abbrev pub IsOfCall : OpenCause → Type 0
IsOfCall (Damaged damage) = ⊥
IsOfCall (Layout found found_of) = ⊥
IsOfCall Spent = ⊥
IsOfCall _ = Unit {0}

-- of a partition of other numbers this holds
abbrev pub IfLayout : OpenCause → Type 0 → Type 0
IfLayout (Layout found found_of) P = P
IfLayout _ _ = Unit {0}

-- of damage this holds
abbrev pub IfDamaged : OpenCause → (Damage → Type 0) → Type 0
IfDamaged (Damaged damage) P = P damage
IfDamaged _ _ = Unit {0}

-- of a job: the disk, memory, or damage
abbrev pub IsOfJob : OpenCause → Type 0
IsOfJob (Layout found found_of) = ⊥
IsOfJob Spent = ⊥
IsOfJob _ = Unit {0}
