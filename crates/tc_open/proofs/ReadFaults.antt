-- What a fault of a read tells once it is one of a replay.
use Rattle.std.proofs.Common.{◌≡◌, ℕ, List, refl}
use Rattle.std.specs.Prelude.{Result, Ok, Err, IfErr}
use Rattle.tc_store.specs.declared.damage.Damage.TheVariants.{Bytes, Files}
use Rattle.tc_store.specs.declared.file_name.FileName.{FileName}
use Rattle.tc_jobs.specs.declared.fault.JobFault.{JobFault}
use Rattle.tc_jobs.specs.declared.fault.JobFault.TheVariants as job
use Rattle.tc_jobs.specs.Faults.{IfHarmed}
use Rattle.tc_part.specs.declared.fault.PartFault.{PartFault}
use Rattle.tc_part.specs.declared.fault.PartFault.TheVariants.{Disk, Damaged, Spent, Memory}
use Rattle.tc_part.specs.Harms.{IsOfRead}
use Rattle.tc_open.specs.OpenCauses.{of_read}

pub unspent : (fault : PartFault) (P : FileName → ℕ → List ℕ → Type 0) → IsOfRead fault P → fault ≡ Spent → ⊥
unspent Disk P is same = cc
unspent (Damaged damage) P is same = cc
unspent Spent P is same = is
unspent Memory P is same = cc

pub harmed_read : (fault : PartFault) (P Q : FileName → ℕ → List ℕ → Type 0) → ((file : FileName) (place : ℕ) (bytes : List ℕ) → P file place bytes → Q file place bytes) → IsOfRead fault P → IfHarmed (of_read fault) Q
harmed_read Disk P Q f is = tt
harmed_read (Damaged (Bytes file place bytes)) P Q f is = f file place bytes is
harmed_read (Damaged (Files names)) P Q f is = absurd is
harmed_read Spent P Q f is = absurd is
harmed_read Memory P Q f is = tt

-- a fault of the disk is one of the read
pub disk_read : (fault : PartFault) → of_read fault ≡ job.Disk → fault ≡ Disk
disk_read Disk is = refl
disk_read (Damaged damage) is = absurd (cc)
disk_read Spent is = absurd (cc)
disk_read Memory is = absurd (cc)

-- a call without a read fails for want of memory alone
pub memory_harms : {X : Type 0} (r : Result X JobFault) (P : FileName → ℕ → List ℕ → Type 0) → IfErr r (λ fault. fault ≡ job.Memory) → IfErr r (λ fault. IfHarmed fault P)
memory_harms (Ok x) P is = tt
memory_harms (Err e) P is = rw is tt
