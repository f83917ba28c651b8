-- Why a call of a part failed, by what a call below it answered, and what damage it tells.
use Rattle.std.specs.Prelude.{Result, Err}
use Rattle.tc_jobs.specs.declared.fault.JobFault.{JobFault}
use Rattle.tc_jobs.specs.declared.fault.JobFault.TheVariants as job
use Rattle.tc_query.specs.declared.fault.QueryFault.{QueryFault}
use Rattle.tc_query.specs.declared.fault.QueryFault.TheVariants as query
use Rattle.tc_store.specs.declared.damage.Damage.{Damage}
use Rattle.tc_store.specs.declared.damage.Damage.TheVariants.{Bytes}
use Rattle.tc_store.specs.declared.fault.DeviceFault.{DeviceFault}
use Rattle.tc_store.specs.declared.fault.DeviceFault.TheVariants as device
use Rattle.tc_store.specs.declared.fault.StoreFault.{StoreFault}
use Rattle.tc_store.specs.declared.fault.StoreFault.TheVariants as store
use Rattle.tc_part.specs.declared.fault.PartFault.{PartFault}
use Rattle.tc_part.specs.declared.fault.PartFault.TheVariants as part

abbrev pub of_device : DeviceFault → PartFault
of_device device.Fault = part.Disk
of_device device.Memory = part.Memory

abbrev pub of_store : StoreFault → PartFault
of_store store.Fault = part.Disk
of_store store.Memory = part.Memory

abbrev pub of_job : JobFault → PartFault
of_job job.Disk = part.Disk
of_job (job.Damaged damage) = part.Damaged damage
of_job job.Memory = part.Memory

abbrev pub of_query : QueryFault → PartFault
of_query query.Disk = part.Disk
of_query (query.Damaged file place bytes) = part.Damaged (Bytes file place bytes)
of_query query.Memory = part.Memory

-- of damage this holds
abbrev pub IfDamaged : {X : Type 0} → Result X PartFault → (Damage → Type 0) → Type 0
IfDamaged (Err (part.Damaged damage)) P = P damage
IfDamaged _ _ = Unit {0}

-- that of a call that reads no file, so that it finds none damaged
abbrev pub IsUndamaged : PartFault → Type 0
IsUndamaged (part.Damaged damage) = ⊥
IsUndamaged _ = Unit {0}
