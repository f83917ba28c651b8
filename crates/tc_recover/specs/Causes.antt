-- The causes that faults of the calls below are.
use Rattle.std.specs.Prelude.{◌≡◌, Result, Err}
use Rattle.tc_store.specs.declared.file_name.FileName.{FileName}
use Rattle.tc_store.specs.declared.fault.StoreFault.{StoreFault}
use Rattle.tc_store.specs.declared.fault.StoreFault.TheVariants.{Fault, Memory as no_room}
use Rattle.tc_store.specs.declared.fault.FrozenFault.{FrozenFault}
use Rattle.tc_store.specs.declared.damage.ReadFault.{ReadFault}
use Rattle.tc_store.specs.declared.damage.ReadFault.TheVariants.{Disk as unread, Damaged as broken, Memory as no_memory}
use Rattle.tc_store.specs.declared.damage.Damage.TheVariants.{Bytes}
use Rattle.tc_jobs.specs.declared.fault.JobFault.{JobFault}
use Rattle.tc_jobs.specs.declared.fault.JobFault.TheVariants as job
use Rattle.tc_recover.specs.declared.cause.FilesCause.{FilesCause}
use Rattle.tc_recover.specs.declared.cause.FilesCause.TheVariants.{Disk, Damaged, Layout, Memory}

abbrev pub of_store : StoreFault → FilesCause
of_store Fault = Disk
of_store no_room = Memory

abbrev pub of_frozen : FrozenFault → FilesCause
of_frozen fault = Disk

abbrev pub of_job : JobFault → FilesCause
of_job job.Disk = Disk
of_job (job.Damaged damage) = Damaged damage
of_job job.Memory = Memory

-- of the file of this name
abbrev pub IsOfRead : FileName → ReadFault → FilesCause → Type 0
IsOfRead name unread cause = cause ≡ Disk
IsOfRead name (broken place bytes) cause = cause ≡ Damaged (Bytes name place bytes)
IsOfRead name no_memory cause = cause ≡ Memory

-- nothing that a file holds is at fault
abbrev pub IsNoRefusal : {X : Type 0} → Result X FilesCause → Type 0
IsNoRefusal (Err (Damaged damage)) = ⊥
IsNoRefusal (Err (Layout found found_of)) = ⊥
IsNoRefusal _ = Unit {0}
