-- What the calls of the engines of partitions ask for, and how they leave them.
use Rattle.std.specs.Prelude.{◌≡◌, ◌-◌, ◌^◌, ◌<◌, ◌≤◌, ℕ, false, true, List, All, length, map, None, Option, option_map, slice_get}
use Rattle.tc_keeper.specs.WithJobs.{settings, Settings, WithJobs}
use Rattle.tc_store.specs.Counted.{Counts}
use Rattle.tc_store.specs.Disk.{Disk}
use Rattle.tc_store.specs.DiskFile.{DiskFile}
use Rattle.tc_store.specs.KitFaults.{KitFaults}
use Rattle.tc_store.specs.declared.damage.Damage.{Damage}
use Rattle.tc_log.specs.Layout.{empty_size}
use Rattle.tc_part.specs.FilesOut.{LogIsOut}
use Rattle.tc_part_model.specs.PartState.{PartState, Told, told}
use Rattle.tc_work.specs.Damage.{IsPartDamage}
use Rattle.tc_work.specs.JobsOut.{watched_part}
use Rattle.tc_work.specs.Settling.{PicksNone}
use Rattle.tc_keeper.specs.Faults.{DiskFaults, faults_of_part, IsSaid}
use Rattle.tc_keeper.specs.Places.{IsAt, SomeFrom}
use Rattle.tc_keeper.specs.declared.fault.RunFault.{RunFault}

-- ---- one engine

-- It may be asked: it has not failed, and the file of its log is out.
pub record MayBeAsked {S D F W : Type 0} (t : Told) (part : PartState S D F W) : Type 0 where
  pub sound : part.failed ≡ false
  pub log : LogIsOut t

-- It has not failed, its log is shorter than makes a table be sealed, where a log without a frame is, and the policy picks no
-- merge, where none is out.
pub record IsSettled {S D F W : Type 0} (size : D → ℕ) (e : WithJobs S D F W) : Type 0 where
  pub sound : e.engine.part.failed ≡ false
  pub short : empty_size < e.engine.part.memory → size e.engine.part.log.device < e.engine.part.memory
  pub none : e.jobs.merge ≡ None → PicksNone e.engine.policy e.engine.part.list

-- It has failed, since no generation is left behind that of its log, whose file is out.
pub record IsSpentAt {S D F W : Type 0} (t : Told) (part : PartState S D F W) : Type 0 where
  pub failed : part.failed ≡ true
  pub last : part.generation ≡ 2 ^ 63 - 1
  pub log : LogIsOut t

-- What the watches of an engine counted. That of a job that is out counts with what it went out with.
abbrev pub faults_at : {S D F W : Type 0} → (W → Counts) → WithJobs S D F W → KitFaults
faults_at counts e = faults_of_part counts (watched_part e.engine.part e.jobs)

-- ---- all engines, where the traits of the store tell the moments of a store and of a device, and a file's content

-- there are 1 to 16, and each may be asked
abbrev pub MayAsk : {S W D F : Type 0} → (S → List Disk) → (D → List DiskFile) → (F → Option (List ℕ)) → List (WithJobs S D F W) → Type 0
MayAsk disks moments content es =
    (0 < length es) × (length es ≤ 16) × All (λ e. MayBeAsked (told disks moments content e.engine.part) e.engine.part) es

-- each is as `settle` leaves it
abbrev pub Rests : {S W D F : Type 0} → (D → ℕ) → List (WithJobs S D F W) → Type 0
Rests size es = All (IsSettled size) es

-- of each what no call changes
abbrev pub settings_of : {S W D F : Type 0} → List (WithJobs S D F W) → List Settings
settings_of es = map settings es

-- what was counted, by the partition
abbrev pub faults_of : {S W D F : Type 0} → (W → Counts) → List (WithJobs S D F W) → DiskFaults
faults_of counts es = λ q. option_map (faults_at counts) (slice_get es q)

-- this is damage of the one of this number, as they are left
abbrev pub IsMet : {S W D F : Type 0} → (D → List DiskFile) → (F → Option (List ℕ)) → List (WithJobs S D F W) → ℕ → Damage → Type 0
IsMet moments content es q damage = IsAt q es (λ e. IsPartDamage content moments e.engine.part damage)

-- one of them has no generation left
abbrev pub IsSpent : {S W D F : Type 0} → (S → List Disk) → (D → List DiskFile) → (F → Option (List ℕ)) → List (WithJobs S D F W) → Type 0
IsSpent disks moments content es = SomeFrom (λ q e. IsSpentAt (told disks moments content e.engine.part) e.engine.part) 0 es

-- what a fault says of them
abbrev pub IsTrueOf : {S W D F : Type 0} → (S → List Disk) → (D → List DiskFile) → (F → Option (List ℕ)) → List (WithJobs S D F W) → RunFault → Type 0
IsTrueOf disks moments content es = IsSaid (IsSpent disks moments content es) (IsMet moments content es)
