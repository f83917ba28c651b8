-- How a component that is read back is judged, and what becomes of its device.
use Rattle.std.specs.Prelude.{◌≡◌, ◌⊎◌, ◌==◌, ◌&&◌, ℕ, Bool, false, if◌then◌else◌, List, length, Result, Ok, Err}
use Rattle.tc_store.specs.Disk.{Disk, home}
use Rattle.tc_store.specs.DiskFile.{DiskFile}
use Rattle.tc_store.specs.Judging.{Damage, damage, judged_then}
use Rattle.tc_store.specs.StoreCalls.{comes_home, frozen_entry}
use Rattle.tc_store.specs.declared.damage.Damage.TheVariants.{Bytes, Files}
use Rattle.tc_store.specs.declared.file_name.FileName.{FileName}
use Rattle.tc_component.specs.declared.head.Head.{Head}
use Rattle.tc_component.specs.Layout.{head_place, head_size, file_size}
use Rattle.tc_component.specs.Reading.{file_judged, front_of}
use Rattle.tc_component.specs.Spelling.{Index, IsIndex, name_of, sizes_in}
use Rattle.tc_jobs.specs.declared.fault.JobFault.{JobFault}
use Rattle.tc_jobs.specs.declared.fault.JobFault.TheVariants.{Damaged}

-- ---- judging

-- the header is of the partition of another one
abbrev pub has_numbers : Head → Head → Bool
has_numbers own head = head.number == own.number && head.count == own.count

-- a whole file as the component of this header, of which the partition is compared last
abbrev pub own_judged : Head → List ℕ → Result Index Damage
own_judged own bytes = judged_then (file_judged (name_of own) bytes) λ c. if has_numbers own c.head then Ok c else Err (damage head_place (front_of bytes))

-- what is answered, seen by view, is what is judged of the file of this name
abbrev pub JudgesFile : {X Y : Type 0} → FileName → (X → Y) → Result X JobFault → Result Y Damage → Type 0
JudgesFile name view (Ok x) judged = judged ≡ Ok (view x)
JudgesFile name view (Err (Damaged (Bytes file place bytes))) judged = (file ≡ name) × (judged ≡ Err (damage place bytes))
JudgesFile name view (Err (Damaged (Files names))) judged = ⊥
JudgesFile _ _ _ _ = Unit {0}

-- ---- of a file that does not tell its content

-- a component of another partition has a file of this length
pub record IsForeign (own : Head) (size place : ℕ) (bytes : List ℕ) : Type 0 where
  pub index : Index
  pub lawful : IsIndex index
  pub named : name_of own ≡ name_of index.head
  pub sized : file_size (sizes_in index) ≡ size
  pub numbers : has_numbers own index.head ≡ false
  pub header : (place ≡ head_place) × (length bytes ≡ head_size)

-- some file of this length is damaged so, or its header is that of another partition
abbrev pub IsDamageIn : Head → ℕ → ℕ → List ℕ → Type 0
IsDamageIn own size place bytes =
    ((whole : List ℕ) × (length whole ≡ size) × (file_judged (name_of own) whole ≡ Err (damage place bytes))) ⊎ IsForeign own size place bytes

-- ---- the device

-- it comes home still, or as it is
abbrev pub ComesHome : FileName → List DiskFile → List Disk → List Disk → Type 0
ComesHome name device old new = (new ≡ comes_home name frozen_entry device old) ⊎ (new ≡ comes_home name home device old)
