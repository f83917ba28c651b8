-- Why a call failed, by what a call below it answered, and what damage it tells.
use Rattle.std.specs.Prelude.{◌≡◌, ℕ, List, Result, Err}
use Rattle.tc_merge.specs.declared.fault.MergeFault.{MergeFault}
use Rattle.tc_merge.specs.declared.fault.MergeFault.TheVariants as merge
use Rattle.tc_store.specs.declared.damage.Damage.{Damage}
use Rattle.tc_store.specs.declared.damage.Damage.TheVariants.{Bytes, Files}
use Rattle.tc_store.specs.declared.damage.ReadFault.{ReadFault}
use Rattle.tc_store.specs.declared.damage.ReadFault.TheVariants as read
use Rattle.tc_store.specs.declared.fault.DeviceFault.{DeviceFault}
use Rattle.tc_store.specs.declared.fault.DeviceFault.TheVariants as device
use Rattle.tc_store.specs.declared.fault.StoreFault.{StoreFault}
use Rattle.tc_store.specs.declared.fault.StoreFault.TheVariants as store
use Rattle.tc_store.specs.declared.file_name.FileName.{FileName}
use Rattle.tc_jobs.specs.declared.fault.JobFault.{JobFault}
use Rattle.tc_jobs.specs.declared.fault.JobFault.TheVariants.{Disk, Damaged, Memory}

-- ---- by what was answered

abbrev pub of_store : StoreFault → JobFault
of_store store.Fault = Disk
of_store store.Memory = Memory

abbrev pub of_device : DeviceFault → JobFault
of_device device.Fault = Disk
of_device device.Memory = Memory

abbrev pub of_merge : MergeFault → JobFault
of_merge merge.Disk = Disk
of_merge (merge.Damaged file place bytes) = Damaged (Bytes file place bytes)
of_merge merge.Memory = Memory

-- of a file that was read
abbrev pub of_file : FileName → ReadFault → JobFault
of_file file read.Disk = Disk
of_file file (read.Damaged place bytes) = Damaged (Bytes file place bytes)
of_file file read.Memory = Memory

-- ---- damage

-- of damage this holds
abbrev pub IfDamaged : {X : Type 0} → Result X JobFault → (Damage → Type 0) → Type 0
IfDamaged (Err (Damaged damage)) P = P damage
IfDamaged _ _ = Unit {0}

-- of damaged bytes this holds, by the file and their place
abbrev pub IfHarmed : JobFault → (FileName → ℕ → List ℕ → Type 0) → Type 0
IfHarmed (Damaged (Bytes file place bytes)) P = P file place bytes
IfHarmed (Damaged (Files names)) P = ⊥
IfHarmed _ _ = Unit {0}

-- bytes are damaged, of which this holds by the file and their place
abbrev pub AreBytes : (FileName → ℕ → List ℕ → Type 0) → Damage → Type 0
AreBytes P (Bytes file place bytes) = P file place bytes
AreBytes P (Files names) = ⊥

-- the files of these names do not go together
abbrev pub AreFiles : List FileName → Damage → Type 0
AreFiles names (Bytes file place bytes) = ⊥
AreFiles names (Files found) = found ≡ names

-- this damage, or want of memory
abbrev pub AreBytesOr : FileName → ℕ → List ℕ → JobFault → Type 0
AreBytesOr file place bytes Disk = ⊥
AreBytesOr file place bytes (Damaged damage) = damage ≡ Bytes file place bytes
AreBytesOr file place bytes Memory = Unit {0}

abbrev pub AreFilesOr : List FileName → JobFault → Type 0
AreFilesOr names Disk = ⊥
AreFilesOr names (Damaged damage) = AreFiles names damage
AreFilesOr names Memory = Unit {0}
