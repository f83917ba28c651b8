-- A job of a part begins or ends: the part before, and behind that.
use Rattle.std.proofs.Common.{◌≡◌, ◌∙◌, ℕ, List, [], ◌∷◌, length, refl, sym, subst}
use Rattle.std.specs.Prelude.{Result, Ok, Err, IfErr, IsOk}
use Rattle.tc_store.specs.declared.damage.Damage.{Damage}
use Rattle.tc_store.specs.declared.fault.DeviceFault.{DeviceFault}
use Rattle.tc_store.specs.declared.fault.DeviceFault.TheVariants as device
use Rattle.tc_store.specs.declared.file_name.FileName.{FileName}
use Rattle.tc_store.specs.Disk.{Disk}
use Rattle.tc_store.specs.DiskFile.{DiskFile, IsSettled, settled_file}
use Rattle.tc_store.specs.Moments.{IfTold}
use Rattle.tc_store.specs.StoreCalls.{makes}
use Rattle.tc_part.specs.declared.fault.PartFault.{PartFault}
use Rattle.tc_part.specs.Faults.{of_device, IfDamaged}
use Rattle.tc_part_model.specs.Leaving.{StoreMomentsLeaveStore}
use Rattle.tc_part_model.specs.Meaning.{IsPart}
use Rattle.tc_part_model.specs.PartState.{AreTold, IsTold, Told}
use Rattle.tc_part_model.specs.PartView.{PartView, store_of}
use Rattle.tc_work.specs.Settling.{StoresStill}
use Rattle.tc_work.proofs.Settled.{still}
use Rattle.tc_work.proofs.StoredMoments.{store_moments, store_tells, where_told}

-- ---- the outcome

-- a job that ended well, or did not
pub by_outcome : {E : Type 0} (o : Result (Unit {0}) E) (P : E → Type 0) (Q : Type 0) → IfErr o P → ((e : E) → P e → Q) → (IsOk o → Q) → Q
by_outcome (Ok x) P Q is failed ended = ended refl
by_outcome (Err e) P Q is failed ended = failed e is

-- where the call that ends it succeeds the job ended well
pub ended_well : {E F : Type 0} (o : Result (Unit {0}) E) (r : Result (Unit {0}) F) (x : Unit {0}) (P : E → Type 0) (of : E → F) → IfErr o P → ((e : E) → P e → r ≡ Err (of e)) → r ≡ Ok x → IsOk o
ended_well (Ok y) r x P of is fails done = refl
ended_well {F = F} (Err e) r x P of is fails done = absurd (apart (of e) (sym done ∙ fails e is))
  where
    ok_err : Result (Unit {0}) F → F → Type 0
    ok_err a f = a ≡ Err f

    apart : (f : F) → ok_err (Ok x) f → ⊥
    apart f same = absurd (cc)

-- ---- what was told

-- a device that tells is as long as its content
abbrev pub IsSized : {D : Type 0} → (D → List DiskFile) → (D → ℕ) → D → Type 0
IsSized history size_of device = IfTold (history device) (λ f. size_of device ≡ length f.content)

pub makes_tells : (name : FileName) (disks : List Disk) → IsTold disks → IsTold (makes name disks)
makes_tells name [] tells = absurd tells
makes_tells name (disk ∷ past) tells = tt

pub settled_told : (bytes : List ℕ) (device : List DiskFile) → IfTold device (λ f. f ≡ settled_file bytes) → IfTold device IsSettled
settled_told bytes [] is = tt
settled_told bytes (f ∷ past) is = subst (λ (x : DiskFile). x ≡ settled_file x.content) (sym is) refl

-- ---- what is stored

-- one call of a part that begins a job, or lists what it made
pub job_stores : (Works : PartView → Type 0) (t v : Told) (p q : PartView) → IsPart t p → IsTold t.disks → IfTold t.disks (λ disk. IsPart v q) → q.part ≡ p.part → store_of q ≡ store_of p → q.staged ≡ p.staged
    → StoreMomentsLeaveStore p q t v.disks → v.taken ≡ t.taken → AreTold v.components → Works q → StoresStill Works t p v
job_stores Works t v p q was tells is here holds staged moments taken components jobs =
    still Works t v p q (where_told t.disks (IsPart v q) tells is) here holds staged taken
    (record { store = store_tells p.part (store_of p) t p v.disks was tells (store_moments t p q v.disks here holds moments); components = components }) jobs

-- ---- damage

-- a device that fails tells no damage
pub device_undamaged : (r : Result (Unit {0}) PartFault) (cause : DeviceFault) (P : Damage → Type 0) → r ≡ Err (of_device cause) → IfDamaged r P
device_undamaged r cause P is = subst (λ (x : Result (Unit {0}) PartFault). IfDamaged x P) (sym is) (at cause)
  where
    at : (f : DeviceFault) → IfDamaged {X = Unit {0}} (Err (of_device f)) P
    at device.Fault = tt
    at device.Memory = tt
