-- Why a merge fails, and what damage it tells.
use Rattle.std.proofs.Common.{◌≡◌, ℕ, List, refl, sym, subst, inl, inr}
use Rattle.std.specs.Prelude.{◌⊎◌, Result, Ok, Err, IfErr, IsErrOf, IsOk}
use Rattle.tc_jobs.specs.Faults.{of_merge}
use Rattle.tc_merge.specs.declared.fault.MergeFault.{MergeFault}
use Rattle.tc_merge.specs.declared.fault.MergeFault.TheVariants as merge
use Rattle.tc_merge.specs.Faults.{IfHarmed}
use Rattle.tc_part.specs.declared.fault.PartFault.{PartFault}
use Rattle.tc_part.specs.declared.fault.PartFault.TheVariants as part
use Rattle.tc_part.specs.Faults.{of_job, IfDamaged as part_damaged}
use Rattle.tc_store.specs.declared.damage.Damage.{Damage}
use Rattle.tc_store.specs.declared.damage.Damage.TheVariants.{Bytes}
use Rattle.tc_store.specs.declared.file_name.FileName.{FileName}
use Rattle.tc_work.specs.declared.fault.EngineFault.{EngineFault}
use Rattle.tc_work.specs.declared.fault.EngineFault.TheVariants as engine
use Rattle.tc_work.specs.Faults.{IfDamaged}

-- a disk fault of the call that ends a merge is its own, or that of the merge
pub merge_cause : (outcome : Result (Unit {0}) MergeFault) (r : Result (Unit {0}) PartFault) → IfErr outcome (λ cause. r ≡ Err (of_job (of_merge cause))) → IsErrOf r part.Disk → (IsOk outcome × IsErrOf r part.Disk) ⊎ IsErrOf outcome merge.Disk
merge_cause (Ok x) r is disk = inl (refl, disk)
merge_cause (Err merge.Disk) r is disk = inr refl
merge_cause (Err (merge.Damaged file place bytes)) r is disk = absurd (cc)
merge_cause (Err merge.Memory) r is disk = absurd (cc)

pub err_both : {E : Type 0} (o : Result (Unit {0}) E) (P Q : E → Type 0) → IfErr o P → IfErr o Q → IfErr o (λ e. P e × Q e)
err_both (Ok x) P Q p q = tt
err_both (Err e) P Q p q = (p, q)

-- ---- damage

-- the damage that a merge found is told
pub told_damage : (r : Result (Unit {0}) PartFault) (cause : MergeFault) (P : FileName → ℕ → List ℕ → Type 0) (Q : Damage → Type 0) → r ≡ Err (of_job (of_merge cause))
    → IfHarmed cause P → ((file : FileName) (place : ℕ) (bytes : List ℕ) → P file place bytes → Q (Bytes file place bytes)) → part_damaged r Q
told_damage r cause P Q is harmed go = subst (λ (x : Result (Unit {0}) PartFault). part_damaged x Q) (sym is) (at cause harmed)
  where
    at : (e : MergeFault) → IfHarmed e P → part_damaged {X = Unit {0}} (Err (of_job (of_merge e))) Q
    at merge.Disk h = tt
    at (merge.Damaged file place bytes) h = go file place bytes h
    at merge.Memory h = tt

pub damage_so : (r : Result (Unit {0}) PartFault) (P Q : Damage → Type 0) → ((damage : Damage) → P damage → Q damage) → part_damaged r P → part_damaged r Q
damage_so (Ok x) P Q go is = tt
damage_so (Err part.Disk) P Q go is = tt
damage_so (Err (part.Damaged damage)) P Q go is = go damage is
damage_so (Err part.Spent) P Q go is = tt
damage_so (Err part.Memory) P Q go is = tt

pub fault_damage_so : (fault : EngineFault) (P Q : Damage → Type 0) → ((damage : Damage) → P damage → Q damage) → IfDamaged fault P → IfDamaged fault Q
fault_damage_so engine.Disk P Q go is = tt
fault_damage_so (engine.Damaged damage) P Q go is = go damage is
fault_damage_so engine.Spent P Q go is = tt
fault_damage_so engine.Memory P Q go is = tt
