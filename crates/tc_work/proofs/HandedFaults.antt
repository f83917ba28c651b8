-- A fault of a call below that is handed on.
use Rattle.std.proofs.Common.{◌≡◌, ◌∙◌, ℕ, List, refl, sym, ap, subst}
use Rattle.std.specs.Prelude.{Result, Ok, Err, IfErr, IsErrOf, IsErrAnd}
use Rattle.tc_store.specs.declared.file_name.FileName.{FileName}
use Rattle.tc_part.specs.declared.fault.PartFault.{PartFault}
use Rattle.tc_part.specs.declared.fault.PartFault.TheVariants as part
use Rattle.tc_part.specs.Harms.{IsOfRead}
use Rattle.tc_part.specs.Faults.{IsUndamaged, IfDamaged as part_damaged}
use Rattle.tc_store.specs.declared.damage.Damage.{Damage}
use Rattle.tc_work.specs.declared.fault.EngineFault.{EngineFault}
use Rattle.tc_work.specs.declared.fault.EngineFault.TheVariants as engine
use Rattle.tc_work.specs.Faults.{of_part, IfDamage, IfDamaged}

found : (fault : PartFault) (P : FileName → ℕ → List ℕ → Type 0) → IsOfRead fault P → IfDamage (of_part fault) P
found part.Disk P is = tt
found (part.Damaged damage) P is = is
found part.Spent P is = tt
found part.Memory P is = tt

not_spent : (fault : PartFault) (P : FileName → ℕ → List ℕ → Type 0) → IsOfRead fault P → of_part fault ≡ engine.Spent → ⊥
not_spent part.Disk P is spent = absurd (cc)
not_spent (part.Damaged damage) P is spent = absurd (cc)
not_spent part.Spent P is spent = is
not_spent part.Memory P is spent = absurd (cc)

undamaged : (fault : PartFault) (P : FileName → ℕ → List ℕ → Type 0) → IsUndamaged fault → IfDamage (of_part fault) P
undamaged part.Disk P is = tt
undamaged (part.Damaged damage) P is = absurd is
undamaged part.Spent P is = tt
undamaged part.Memory P is = tt

of_disk : (fault : PartFault) → of_part fault ≡ engine.Disk → fault ≡ part.Disk
of_disk part.Disk is = refl
of_disk (part.Damaged damage) is = absurd (cc)
of_disk part.Spent is = absurd (cc)
of_disk part.Memory is = absurd (cc)

of_spent : (fault : PartFault) → of_part fault ≡ engine.Spent → fault ≡ part.Spent
of_spent part.Disk is = absurd (cc)
of_spent (part.Damaged damage) is = absurd (cc)
of_spent part.Spent is = refl
of_spent part.Memory is = absurd (cc)

-- the fault of a call is this one of its part
abbrev pub IsOf : {X : Type 0} → Result X EngineFault → PartFault → Type 0
IsOf r fault = IsErrAnd r (λ e. e ≡ of_part fault)

pub harmed : {X : Type 0} (r : Result X EngineFault) (fault : PartFault) (P : FileName → ℕ → List ℕ → Type 0) → IsOf r fault → IsOfRead fault P → IfErr r (λ e. IfDamage e P)
harmed (Ok x) fault P is read = tt
harmed (Err e) fault P is read = rw is (found fault P read)

pub unspent : {X : Type 0} (r : Result X EngineFault) (fault : PartFault) (P : FileName → ℕ → List ℕ → Type 0) → IsOf r fault → IsOfRead fault P → IsErrOf r engine.Spent → ⊥
unspent (Ok x) fault P is read spent = absurd (cc)
unspent (Err e) fault P is read spent = let same : e ≡ engine.Spent = cc in not_spent fault P read (sym is ∙ same)

pub not_harmed : {X : Type 0} (r : Result X EngineFault) (fault : PartFault) (P : FileName → ℕ → List ℕ → Type 0) → IsOf r fault → IsUndamaged fault → IfErr r (λ e. IfDamage e P)
not_harmed (Ok x) fault P is un = tt
not_harmed (Err e) fault P is un = rw is (undamaged fault P un)

pub disk_below : {X Y : Type 0} (r : Result X EngineFault) (below : Result Y PartFault) (fault : PartFault) → IsOf r fault → below ≡ Err fault → IsErrOf r engine.Disk → IsErrOf below part.Disk
disk_below (Ok x) below fault is failed disk = absurd (cc)
disk_below (Err e) below fault is failed disk = let same : e ≡ engine.Disk = cc in failed ∙ ap Err (of_disk fault (sym is ∙ same))

pub spent_below : {X Y : Type 0} (r : Result X EngineFault) (below : Result Y PartFault) (fault : PartFault) → IsOf r fault → below ≡ Err fault → IsErrOf r engine.Spent → IsErrOf below part.Spent
spent_below (Ok x) below fault is failed spent = absurd (cc)
spent_below (Err e) below fault is failed spent = let same : e ≡ engine.Spent = cc in failed ∙ ap Err (of_spent fault (sym is ∙ same))

-- for want of memory there is no other cause
pub no_memory : {X : Type 0} (r : Result X EngineFault) (other : EngineFault) → IsErrAnd r (λ e. e ≡ engine.Memory) → (engine.Memory ≡ other → ⊥) → IsErrOf r other → ⊥
no_memory (Ok x) other is apart failed = absurd (cc)
no_memory (Err e) other is apart failed = let same : e ≡ other = cc in apart (sym is ∙ same)

-- a fault that is handed on as it is
pub same_fault : {X Y : Type 0} (r : Result X EngineFault) (below : Result Y EngineFault) (fault other : EngineFault) → IsErrAnd r (λ e. e ≡ fault) → below ≡ Err fault → IsErrOf r other → IsErrOf below other
same_fault (Ok x) below fault other is failed cause = absurd (cc)
same_fault (Err e) below fault other is failed cause = let same : e ≡ other = cc in failed ∙ ap Err (sym is ∙ same)

pub handed_on : {X : Type 0} (r : Result X EngineFault) (fault : EngineFault) (P : EngineFault → Type 0) → IsErrAnd r (λ e. e ≡ fault) → P fault → IfErr r P
handed_on (Ok x) fault P is holds = tt
handed_on (Err e) fault P is holds = subst P (sym is) holds

pub same_harm : {X : Type 0} (r : Result X EngineFault) (fault : EngineFault) (P : FileName → ℕ → List ℕ → Type 0) → IsErrAnd r (λ e. e ≡ fault) → IfDamage fault P → IfErr r (λ e. IfDamage e P)
same_harm r fault P is harm = handed_on r fault (λ e. IfDamage e P) is harm

-- ---- damage of any kind

damaged_as : (fault : PartFault) (P Q : Damage → Type 0) → part_damaged {X = Unit {0}} (Err fault) P → ((damage : Damage) → P damage → Q damage) → IfDamaged (of_part fault) Q
damaged_as part.Disk P Q is go = tt
damaged_as (part.Damaged damage) P Q is go = go damage is
damaged_as part.Spent P Q is go = tt
damaged_as part.Memory P Q is go = tt

below_damaged : (Y : Type 0) (fault : PartFault) (P : Damage → Type 0) → part_damaged {X = Y} (Err fault) P → part_damaged {X = Unit {0}} (Err fault) P
below_damaged Y part.Disk P is = tt
below_damaged Y (part.Damaged damage) P is = is
below_damaged Y part.Spent P is = tt
below_damaged Y part.Memory P is = tt

pub damaged_so : {X Y : Type 0} (r : Result X EngineFault) (below : Result Y PartFault) (fault : PartFault) (P Q : Damage → Type 0) → IsOf r fault → below ≡ Err fault → part_damaged below P → ((damage : Damage) → P damage → Q damage)
    → IfErr r (λ e. IfDamaged e Q)
damaged_so (Ok x) below fault P Q is failed damaged go = tt
damaged_so {Y = Y} (Err e) below fault P Q is failed damaged go = rw is (damaged_as fault P Q (below_damaged Y fault P (subst (λ (b : Result Y PartFault). part_damaged b P) failed damaged)) go)

pub undamaged_so : {X : Type 0} (r : Result X EngineFault) (fault : PartFault) (Q : Damage → Type 0) → IsOf r fault → IsUndamaged fault → IfErr r (λ e. IfDamaged e Q)
undamaged_so (Ok x) fault Q is un = tt
undamaged_so (Err e) fault Q is un = rw is (at fault un)
  where
    at : (f : PartFault) → IsUndamaged f → IfDamaged (of_part f) Q
    at part.Disk u = tt
    at (part.Damaged damage) u = absurd u
    at part.Spent u = tt
    at part.Memory u = tt

-- where no damage is told, none is of anything
pub undamaged_any : {X : Type 0} (r : Result X EngineFault) (Q : Damage → Type 0) → IfErr r (λ e. IfDamaged e (λ damage. ⊥)) → IfErr r (λ e. IfDamaged e Q)
undamaged_any (Ok x) Q is = tt
undamaged_any (Err engine.Disk) Q is = tt
undamaged_any (Err (engine.Damaged damage)) Q is = absurd is
undamaged_any (Err engine.Spent) Q is = tt
undamaged_any (Err engine.Memory) Q is = tt
