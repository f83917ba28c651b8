-- Why a call of an engine failed, by what a call of its part answered.
use Rattle.std.specs.Prelude.{◌≡◌, ◌⊎◌, ℕ, List}
use Rattle.tc_jobs.specs.Faults.{AreBytes, AreFiles}
use Rattle.tc_store.specs.declared.damage.Damage.{Damage}
use Rattle.tc_store.specs.declared.file_name.FileName.{FileName}
use Rattle.tc_part.specs.declared.fault.PartFault.{PartFault}
use Rattle.tc_part.specs.declared.fault.PartFault.TheVariants as part
use Rattle.tc_part.specs.Harms.{IsBytesHarm}
use Rattle.tc_work.specs.declared.fault.EngineFault.{EngineFault}
use Rattle.tc_work.specs.declared.fault.EngineFault.TheVariants as engine

abbrev pub of_part : PartFault → EngineFault
of_part part.Disk = engine.Disk
of_part (part.Damaged damage) = engine.Damaged damage
of_part part.Spent = engine.Spent
of_part part.Memory = engine.Memory

-- if it is damage, this holds of it by the file, the place and the bytes there
abbrev pub IfDamage : EngineFault → (FileName → ℕ → List ℕ → Type 0) → Type 0
IfDamage (engine.Damaged damage) P = IsBytesHarm damage P
IfDamage _ _ = Unit {0}

-- of damage this holds
abbrev pub IfDamaged : EngineFault → (Damage → Type 0) → Type 0
IfDamaged (engine.Damaged damage) P = P damage
IfDamaged _ _ = Unit {0}

-- these files do not go together, or this one is damaged
abbrev pub AreOfFiles : List FileName → FileName → Damage → Type 0
AreOfFiles names name damage = AreFiles names damage ⊎ AreBytes (λ file place bytes. file ≡ name) damage
