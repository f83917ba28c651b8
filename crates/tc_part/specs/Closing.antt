-- What is left in the store of a part that is closed.
use Rattle.std.specs.Prelude.{◌≡◌, ◌+◌, ◌⊎◌, ℕ, List, Option, Some, None, length, is_some, IfSome}
use Rattle.tc_store.specs.declared.file_name.FileName.{FileName}
use Rattle.tc_store.specs.Disk.{Disk, home}
use Rattle.tc_store.specs.DiskFile.{DiskFile}
use Rattle.tc_store.specs.StoreCalls.{comes_home}
use Rattle.tc_log.specs.Appending.{LogState}
use Rattle.tc_part_model.specs.Meaning.{HasFailedAs}
use Rattle.tc_part_model.specs.PartState.{Told}
use Rattle.tc_part_model.specs.PartView.{PartView, generation_of}

-- the device of the active log comes home, and behind it that of the sealed log, if there is one
abbrev pub brought_home : FileName → List DiskFile → Option (FileName × List DiskFile) → List Disk → List Disk
brought_home name log None disks = comes_home name (λ f. home f) log disks
brought_home name log (Some (other, sealed)) disks = comes_home other (λ f. home f) sealed (comes_home name (λ f. home f) log disks)

-- how long both logs are together
abbrev pub logs_length : {D : Type 0} → (D → ℕ) → LogState D → Option (LogState D) → ℕ
logs_length size log None = size log.device
logs_length size log (Some sealed) = size sealed.device + size log.device

-- A part that failed has the logs of this: so many generations, and a sealed one where that has one.
pub record HasLogsOf (t : Told) (p : PartView) : Type 0 where
  pub generation : t.generation ≡ generation_of p
  pub sealed_log : is_some t.sealed_log ≡ is_some p.sealed
  pub one : IfSome p.sealed (λ d. length d.logs ≡ 1)

-- It has failed as this, without a frame, and has the logs of this: what is asked of a part that is closed.
abbrev pub HasFailedWhole : Told → PartView → Type 0
HasFailedWhole t p = HasFailedAs t p None × HasLogsOf t p

-- so it has as one of the two
abbrev pub HasFailedEither : Told → PartView → PartView → Type 0
HasFailedEither t p q = HasFailedWhole t p ⊎ HasFailedWhole t q
