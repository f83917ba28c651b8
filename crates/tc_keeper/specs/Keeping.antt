-- What keeps the documents of a run: the engines, what is shown of each partition to scans beside them, and the scan that is out.
-- What its calls ask for, and how they leave it.
use Rattle.std.specs.Prelude.{◌≡◌, ◌⊎◌, ◌<◌, ◌≤◌, ◌%◌, ℕ, true, false, List, [], All, length, None, Option, Some, is_some, option_map, slice_get}
use mathlib.Core.List.{IsPrefix}
use Rattle.tc_command.specs.Commands.{ask_of}
use Rattle.tc_keeper.specs.Places.{AtEach, EachFrom, IsAt}
use Rattle.tc_keeper.specs.Showing.{ShowsOwnOf}
use Rattle.tc_keeper.specs.Standing.{partition_at, IsSeen, KeepWorlds}
use Rattle.tc_keeper.specs.WithJobs.{Settings, WithJobs}
use Rattle.tc_lsm_model.specs.Contents.{Partition}
use Rattle.tc_part.specs.Harms.{IsBytesHarm}
use Rattle.tc_part.specs.OwnComponents.{AreOwnComponents}
use Rattle.tc_part_model.specs.PartState.{PartState}
use Rattle.tc_plain_model.specs.Writes.{after_writes}
use Rattle.tc_query.specs.Faults.{IsHarmIn}
use Rattle.tc_run_model.specs.World.{Part, Scan, World}
use Rattle.tc_shown.specs.Shown.{Reads, ShownState}
use Rattle.tc_shown.specs.declared.scan.Scan.{Scan as Begun}
use Rattle.tc_store.specs.Counted.{Counts}
use Rattle.tc_store.specs.Disk.{Disk}
use Rattle.tc_store.specs.DiskFile.{DiskFile}
use Rattle.tc_store.specs.KitFaults.{KitFaults}
use Rattle.tc_store.specs.declared.damage.Damage.{Damage}
use Rattle.tc_view.specs.Holding.{HoldsWrites}
use Rattle.tc_view.specs.Places.{kept_by}
use Rattle.tc_view.specs.declared.lens.Lens.{Lens}
use Rattle.tc_work.specs.Damage.{IsPartDamage}
use Rattle.tc_work.specs.Moving.{Eyes}
use Rattle.tc_keeper.specs.Calls.{faults_of, settings_of, IsMet, IsSpent, MayAsk, Rests}
use Rattle.tc_keeper.specs.Faults.{DiskFaults, IsSaid}
use Rattle.tc_keeper.specs.Partitions.{StandAt}
use Rattle.tc_keeper.specs.OwnKeys.{AreOwn}
use Rattle.tc_keeper.specs.Sight.{IfKnown, Sight}
use Rattle.tc_keeper.specs.declared.fault.RunFault.{RunFault}

-- the engines in ascending number of the partition, what is shown of each, and the scan that is out, as it began
pub record KeeperState (S D F W : Type 0) : Type 0 where
  pub engines : List (WithJobs S D F W)
  pub shown : List (ShownState F W)
  pub scan : Option (Begun F W)

-- ---- over every store, between any two calls

-- The reader's watch of each engine is at home while no scan is out. One that is out has those of all.
abbrev pub AreReadersOut : {S D F W : Type 0} → Option (Begun F W) → List (WithJobs S D F W) → Type 0
AreReadersOut None es = All (λ e. is_some e.engine.part.reader ≡ true) es
AreReadersOut (Some out) es = (length out.passes.items ≡ length es) × All (λ e. e.engine.part.reader ≡ None) es

-- and it has a lens of what is shown of each, where no call failed to show more
abbrev pub AreLensesOut : {F W : Type 0} → Option (Begun F W) → List (ShownState F W) → Type 0
AreLensesOut None shown = Unit {0}
AreLensesOut (Some out) shown = AtEach (λ p s pass. s.failed ≡ false → Reads s.book pass.lens) 0 shown out.passes.items

-- What is shown of each partition has its own components alone.
pub record IsManned {S D F W : Type 0} (content : F → Option (List ℕ)) (k : KeeperState S D F W) : Type 0 where
  pub as_many : length k.shown ≡ length k.engines
  pub readers : AreReadersOut k.scan k.engines
  pub lenses : AreLensesOut k.scan k.shown
  pub own : AtEach (ShowsOwnOf content) 0 k.engines k.shown

-- nothing is in their tables, and the reader's watch of each is at home
abbrev pub AreUnwritten : {S D F W : Type 0} → List (WithJobs S D F W) → Type 0
AreUnwritten es = All (λ e. (e.engine.part.sealed ≡ None) × (e.engine.part.active ≡ []) × (is_some e.engine.part.reader ≡ true)) es

-- there are 1 to 16 engines, and each may be asked
unfoldable pub MayServe : {S W D F : Type 0} → (S → List Disk) → (D → List DiskFile) → (F → Option (List ℕ)) → KeeperState S D F W → Type 0
MayServe disks moments content k = MayAsk disks moments content k.engines

-- each is as `settle` leaves it
unfoldable pub AllRest : {S W D F : Type 0} → (D → ℕ) → KeeperState S D F W → Type 0
AllRest size k = Rests size k.engines

-- of each what no call changes
abbrev pub settings_kept : {S W D F : Type 0} → KeeperState S D F W → List Settings
settings_kept k = settings_of k.engines

-- one of the engines has no generation left
unfoldable pub HasSpent : {S W D F : Type 0} → (S → List Disk) → (D → List DiskFile) → (F → Option (List ℕ)) → KeeperState S D F W → Type 0
HasSpent disks moments content k = IsSpent disks moments content k.engines

-- ---- what is damaged

-- A lens of what is shown of this partition keeps components of its own, and in one of them something else stands in the place of a
-- record.
pub record IsShownDamage {F W : Type 0} (content : F → Option (List ℕ)) (number count : ℕ) (s : ShownState F W) (damage : Damage) : Type 0 where
  pub lens : Lens F W
  pub sound : s.failed ≡ false
  pub kept : IsPrefix (kept_by lens).history s.history
  pub own : AreOwnComponents content number count (kept_by lens).list
  pub harm : IsBytesHarm damage (IsHarmIn content (kept_by lens).list)

-- so of what is shown of the partition of this place
abbrev pub IsShownAt : {S D F W : Type 0} → (F → Option (List ℕ)) → List (WithJobs S D F W) → List (ShownState F W) → ℕ → Damage → Type 0
IsShownAt content engines shown q damage = IsAt q engines (λ e. IsAt q shown (λ s. IsShownDamage content e.engine.part.number e.engine.part.count s damage))

-- and of what was shown of this partition once
abbrev pub WasShown : {F : Type 0} → Type 0 → (F → Option (List ℕ)) → ℕ → ℕ → Damage → Type 0
WasShown {F = F} W content number count damage = (s : ShownState F W) × IsShownDamage content number count s damage

abbrev pub WasShownAt : {S D F W : Type 0} → (F → Option (List ℕ)) → List (WithJobs S D F W) → ℕ → Damage → Type 0
WasShownAt {W = W} content engines q damage = IsAt q engines (λ e. WasShown W content e.engine.part.number e.engine.part.count damage)

-- this is damage of the engine of this number as it is left, or was met by a scan of what is shown of it
unfoldable pub HasMet : {S W D F : Type 0} → (D → List DiskFile) → (F → Option (List ℕ)) → KeeperState S D F W → ℕ → Damage → Type 0
HasMet moments content k q damage = IsMet moments content k.engines q damage ⊎ IsShownAt content k.engines k.shown q damage

-- what a fault says of it
abbrev pub IsTrueHere : {S W D F : Type 0} → (S → List Disk) → (D → List DiskFile) → (F → Option (List ℕ)) → KeeperState S D F W → RunFault → Type 0
IsTrueHere disks moments content k = IsSaid (HasSpent disks moments content k) (HasMet moments content k)

-- once it has ended: this is damage of the one of this number, or was met by a scan of what was shown of it
abbrev pub IsMetBehind : {S W D F : Type 0} → (D → List DiskFile) → (F → Option (List ℕ)) → List (WithJobs S D F W) → ℕ → Damage → Type 0
IsMetBehind moments content es q damage = (q < length es) × (IsMet moments content es q damage ⊎ WasShownAt content es q damage)

-- A part of this partition has it, over a store and watches of these types. The components that it listed are its own.
pub record IsOfPart {D F : Type 0} (S W : Type 0) (moments : D → List DiskFile) (content : F → Option (List ℕ)) (here : Partition) (damage : Damage) : Type 0 where
  pub part : PartState S D F W
  pub is_here : partition_at part.number part.count ≡ here
  pub own : AreOwnComponents content part.number part.count part.list
  pub is : IsPartDamage content moments part damage

-- This partition has it while it is open, or a scan met it of what was shown of this partition.
abbrev pub IsMetIn : {D F : Type 0} → Type 0 → Type 0 → (D → List DiskFile) → (F → Option (List ℕ)) → Partition → Damage → Type 0
IsMetIn S W moments content here damage = IsOfPart S W moments content here damage ⊎ WasShown W content here.number here.count damage

-- and what a fault says of the engines that are left
abbrev pub IsTrueBehind : {S W D F : Type 0} → (S → List Disk) → (D → List DiskFile) → (F → Option (List ℕ)) → List (WithJobs S D F W) → RunFault → Type 0
IsTrueBehind disks moments content es = IsSaid (IsSpent disks moments content es) (IsMetBehind moments content es)

-- ---- what was counted

-- the watch of the reader of a partition as it went out with a scan, if one is out
abbrev pub watch_out : {F W : Type 0} → Option (Begun F W) → ℕ → Option W
watch_out None q = None
watch_out (Some out) q = option_map (λ pass. pass.watch) (slice_get out.passes.items q)

-- counts of a partition, with those of the reader's watch that is out
abbrev pub counted_out : {W : Type 0} → (W → Counts) → Option W → Option KitFaults → Option KitFaults
counted_out counts None counted = counted
counted_out counts (Some w) counted = option_map (λ (f : KitFaults). record f { reader = (counts w).faults }) counted

-- by the partition; a watch that is out counts as it went out
unfoldable pub faults_kept : {S W D F : Type 0} → (W → Counts) → KeeperState S D F W → DiskFaults
faults_kept counts k = λ q. counted_out counts (watch_out k.scan q) (faults_of counts k.engines q)

-- ---- where the traits of the store tell the moments of a store and of a device, and a file's content

-- What is shown of a partition is what its writes of the run left of what it held at first, at each moment that a scan may see.
pub record ShowsPart {F W : Type 0} (content : F → Option (List ℕ)) (s : ShownState F W) (part : Part) : Type 0 where
  pub some : 0 < length s.history
  pub shows : HoldsWrites content part.opened part.writes s.history
  pub stands : part.now.pairs ≡ after_writes part.opened part.writes

-- a partition, of so many, had and wrote keys of its own alone
pub record HasOwnKeys (count p : ℕ) (part : Part) : Type 0 where
  pub opened : AreOwn count p part.opened
  pub writes : All (λ w. w.0 % count ≡ p) part.writes

-- A scan is out exactly where the world has one running, of the same ask. What each lens keeps is a view with as many writes at
-- least as the partition had when it was started.
abbrev pub IsOutFor : {F W : Type 0} → Option ℕ → Option (Begun F W) → Option Scan → Type 0
IsOutFor only None None = Unit {0}
IsOutFor only None (Some running) = ⊥
IsOutFor only (Some out) None = ⊥
IsOutFor only (Some out) (Some running) =
    (ask_of out.ask ≡ running.ask) × AtEach (λ p pass least. IsSeen only p → (0 < length (kept_by pass.lens).history) × (least ≤ (kept_by pass.lens).upto)) 0 out.passes.items running.seen

-- Each partition that is looked at shows its part of the world. Where all are they have keys of their own alone, so that rows of all
-- can be put together.
pub record ShowWorld {S D F W : Type 0} (content : F → Option (List ℕ)) (only : Option ℕ) (k : KeeperState S D F W) (w : World) : Type 0 where
  pub each : AtEach (λ p s part. IsSeen only p → ShowsPart content s part) 0 k.shown w.parts
  pub scan : IsOutFor only k.scan w.running
  pub own : only ≡ None → EachFrom (HasOwnKeys (length w.parts)) 0 w.parts

-- The engines hold the world that is known, and it is shown.
unfoldable pub ServesAt : {S W D F : Type 0} → Eyes S D F W → KeeperState S D F W → Sight → Type 0
ServesAt e k known = StandAt e k.engines known × IfKnown known (λ only w. ShowWorld e.content only k w)

-- Behind a fault each engine holds its part of one of two worlds, or has failed and keeps one of them.
unfoldable pub FailsAt : {S W D F : Type 0} → Eyes S D F W → KeeperState S D F W → Option ℕ → World → World → Type 0
FailsAt e k only w v = KeepWorlds e only k.engines w v
