-- Faults of engines, by the partition whose engine failed.
use Rattle.std.specs.Prelude.{◌≡◌, ◌≤◌, ◌<◌, ◌+◌, ◌^◌, ℕ, zero, suc, List, [], ◌∷◌, true, false, Option, Result, Ok, Err}
use Rattle.tc_model.specs.Keyed.{Keyed, values_in}
use Rattle.tc_request_model.specs.Request.{Request}
use Rattle.tc_part.specs.Harms.{IsHarmIn}
use Rattle.tc_part_model.specs.Meaning.{IsPart}
use Rattle.tc_part_model.specs.PartState.{AreTold, PartState, Told}
use Rattle.tc_part_model.specs.PartView.{PartView}
use Rattle.tc_work.specs.Asked.{most_writes}
use Rattle.tc_work.specs.EngineState.{EngineState}
use Rattle.tc_work.specs.Faults.{IfDamage, IfDamaged}
use Rattle.tc_work.specs.declared.fault.EngineFault.{EngineFault}
use Rattle.tc_work.specs.declared.fault.EngineFault.TheVariants.{Disk, Spent}
use Rattle.tc_keeper.specs.declared.engines_fault.EnginesFault.{EnginesFault}
use Rattle.tc_keeper.specs.declared.engines_fault.EnginesFault.TheVariants.{Of, Memory}

-- where it is that of a partition, this holds of the partition's number and of the fault
abbrev pub IfOf : EnginesFault → (ℕ → EngineFault → Type 0) → Type 0
IfOf (Of p fault) P = P p fault
IfOf Memory P = Unit {0}

-- a call failed for a fault of the disk in the partition of this number
abbrev pub IsDiskOf : {A : Type 0} → ℕ → Result A EnginesFault → Type 0
IsDiskOf p (Ok x) = ⊥
IsDiskOf p (Err Memory) = ⊥
IsDiskOf p (Err (Of q why)) = (q ≡ p) × (why ≡ Disk)

-- of these answers the one of this number is the first fault
abbrev pub IsFirstFault : {A : Type 0} → ℕ → EngineFault → List (Result A EngineFault) → Type 0
IsFirstFault p why [] = ⊥
IsFirstFault zero why (Ok x ∷ answers) = ⊥
IsFirstFault zero why (Err fault ∷ answers) = fault ≡ why
IsFirstFault (suc p) why (Ok x ∷ answers) = IsFirstFault p why answers
IsFirstFault (suc p) why (Err fault ∷ answers) = ⊥

-- The engine failed by this fault in its share of a window. Damage is that of a record of a listed component, and where the files
-- of these are told there is none.
pub record HasStopped {S D F W : Type 0} (tell : PartState S D F W → Told) (content : F → Option (List ℕ)) (why : EngineFault) (rs : Keyed Request) (old new : EngineState S D F W) : Type 0 where
  pub failed : new.part.failed ≡ true
  pub harmed : IfDamage why (λ file at bytes. IsHarmIn content old.part.list file at bytes)
  pub undamaged : (p : PartView) → IsPart (tell old.part) p → AreTold (tell old.part).components → IfDamaged why (λ damage. ⊥)
  pub spent : why ≡ Spent → 2 ^ 63 ≤ old.part.writes + most_writes (values_in rs)
  pub unspent : why ≡ Spent → new.part.log ≡ old.part.log

-- that of the partition p did, and none of a lower one failed
abbrev pub StopsFirst : {S D F W : Type 0} → (PartState S D F W → Told) → (F → Option (List ℕ)) → ℕ → EngineFault → ℕ → Keyed Request → EngineState S D F W → EngineState S D F W → Type 0
StopsFirst tell content p why q rs old new = (q < p → new.part.failed ≡ false) × (q ≡ p → HasStopped tell content why rs old new)
