-- How the reads of a record, and those of a file that is loaded, are counted.
use Rattle.std.proofs.Common.{◌≡◌, ◌⊎◌, ◌≤◌, ◌+◌, ℕ, List, Result, Ok, Err, subst, sym, inl, inr, arith}
use Rattle.std.specs.Prelude.{IsErrOf}
use Rattle.tc_bytes.specs.Counts.{next_count}
use Rattle.tc_store.specs.Counted.{Counts, IsCountedOnce}
use Rattle.tc_store.specs.Judging.{IsNoDisk, IfDamaged}
use Rattle.tc_store.specs.declared.damage.ReadFault.{ReadFault}
use Rattle.tc_store.specs.declared.damage.ReadFault.TheVariants.{Disk, Damaged, Memory}

no_fault : {X : Type 0} (r : Result X ReadFault) → IsNoDisk r → IsErrOf r Disk → ⊥
no_fault (Ok x) none is = cc
no_fault (Err Disk) none is = none
no_fault (Err (Damaged place bytes)) none is = cc
no_fault (Err Memory) none is = cc

-- what is made of the bytes that were read needs no second read
pub read_once : {X : Type 0} (r : Result X ReadFault) (Failed Done : Type 0) (old new : Counts) → IsNoDisk r → Done → IsCountedOnce Failed Done old new → IsCountedOnce (IsErrOf r Disk) (IsErrOf r Memory → ⊥) old new
read_once r Failed Done old new none done is = record { faults = is.faults; cause = λ failed. absurd (no_fault r none failed); done = λ there. is.done done; reads = is.reads }

-- ---- bytes that were held are judged, and the fault is handed on

no_disk_on : (X Y : Type 0) (fault : ReadFault) → IsNoDisk {X = X} (Err fault) → IsNoDisk {X = Y} (Err fault)
no_disk_on X Y Disk none = none
no_disk_on X Y (Damaged place bytes) none = tt
no_disk_on X Y Memory none = tt

damage_on : (X Y : Type 0) (fault : ReadFault) (P Q : ℕ → List ℕ → Type 0) → ((place : ℕ) (kept : List ℕ) → P place kept → Q place kept) → IfDamaged {X = X} (Err fault) P → IfDamaged {X = Y} (Err fault) Q
damage_on X Y Disk P Q f is = tt
damage_on X Y (Damaged place kept) P Q f is = f place kept is
damage_on X Y Memory P Q f is = tt

-- what is made of them needs no second read
pub held_once : {Y : Type 0} (X : Type 0) (r : Result Y ReadFault) (fault : ReadFault) (Failed Held Fine : Type 0) (old new : Counts) → r ≡ Err fault → IsNoDisk {X = X} (Err fault) → Fine → IsCountedOnce Failed ((Held → ⊥) × Fine) old new
    → IsCountedOnce (IsErrOf r Disk) ((Held → ⊥) × (IsErrOf r Memory → ⊥)) old new
held_once {Y} X r fault Failed Held Fine old new same none fine is =
    record { faults = is.faults; cause = λ failed. absurd (no_fault r (subst (λ s. IsNoDisk s) (sym same) (no_disk_on X Y fault none)) failed); done = λ there. is.done (there.0, fine); reads = is.reads }

-- their damage is that of the file
pub damage_told : {Y : Type 0} (X : Type 0) (r : Result Y ReadFault) (fault : ReadFault) (P : ℕ → List ℕ → Type 0) (Q : List ℕ → Type 0) (bytes : List ℕ) → r ≡ Err fault → ((place : ℕ) (kept : List ℕ) → P place kept → kept ≡ bytes) → Q bytes
    → IfDamaged {X = X} (Err fault) P → IfDamaged r (λ place kept. Q kept)
damage_told {Y} X r fault P Q bytes same those q is =
    subst (λ s. IfDamaged s (λ place kept. Q kept)) (sym same) (damage_on X Y fault P (λ place kept. Q kept) (λ place kept at. subst Q (sym (those place kept at)) q) is)

-- ---- a file that is loaded

-- one part was read, or was to be
pub one_part : (old new : ℕ) → (new ≡ old) ⊎ (new ≡ next_count old) → new ≤ old + 2
one_part old new (inl same) = omega (arith, same)
one_part old new (inr next) = omega (arith, next)

-- both parts were
pub two_parts : (old middle new : ℕ) → (middle ≡ old) ⊎ (middle ≡ next_count old) → (new ≡ middle) ⊎ (new ≡ next_count middle) → new ≤ old + 2
two_parts old middle new (inl x) second = omega (arith, x, one_part middle new second)
two_parts old middle new (inr x) (inl y) = omega (arith, x, y)
two_parts old middle new (inr x) (inr y) = omega (arith, x, y)
