-- What a call leaves that moves documents from a table into a component: what is stored.
use Rattle.std.specs.Prelude.{◌≡◌, ◌<◌, ◌≤◌, ◌⊎◌, ◌+◌, ℕ, List, [], ◌∷◌, ◌++◌, length, All, Option, None, Some, option_map}
use Rattle.tc_bytes.specs.Counts.{Rose}
use Rattle.tc_store.specs.Counted.{Counts}
use Rattle.tc_store.specs.Disk.{Disk}
use Rattle.tc_store.specs.DiskFile.{DiskFile}
use Rattle.tc_store.specs.Moments.{IfTold, EachSince, LeavesAt}
use Rattle.tc_log.specs.Layout.{empty_size}
use Rattle.tc_component.specs.Loading.{ComponentState}
use Rattle.tc_list.specs.Policies.{listed_least}
use Rattle.tc_list.specs.Runs.{swapped}
use Rattle.tc_list.specs.declared.policy.Policy.{Policy}
use Rattle.tc_list.specs.declared.run.Run.{Run}
use Rattle.tc_lsm_model.specs.Contents.{Partition}
use Rattle.tc_plain_model.specs.Writes.{Pairs}
use Rattle.tc_machine.specs.Logs.{IsLog}
use Rattle.tc_machine.specs.Steps.{IsShutOrHas}
use Rattle.tc_part.specs.OwnFiles.{HasOwnFiles}
use Rattle.tc_part_model.specs.Leaving.{LeavesStoreAt}
use Rattle.tc_part_model.specs.Meaning.{IsPart, plain_of}
use Rattle.tc_part_model.specs.PartFiles.{IsSealedFile}
use Rattle.tc_part_model.specs.PartState.{PartState, Told, AreTold, IsTold}
use Rattle.tc_part_model.specs.PartView.{PartView, store_of}
use Rattle.tc_work.specs.JobsOut.{IsPickedFrom}

-- it tells its files, and those of its components
pub record TellsFiles (t : Told) : Type 0 where
  pub store : IsTold t.disks
  pub components : AreTold t.components

-- Each file of the store is one of the part's own, and where the store tells its files, those of the components are told too.
pub record MaySettle (t : Told) : Type 0 where
  pub own : HasOwnFiles t
  pub components : IfTold t.disks (λ disk. AreTold t.components)

-- It is a part in which the same is stored, which is the same plain store, which tells its files, and for which the jobs work
-- that are out then.
pub record StoresStill (Works : PartView → Type 0) (old : Told) (p : PartView) (new : Told) : Type 0 where
  pub view : PartView
  pub is : IsPart new view
  pub here : view.part ≡ p.part
  pub stores : store_of view ≡ store_of p
  pub plain : plain_of new view ≡ plain_of old p
  pub tells : TellsFiles new
  pub jobs : Works view

-- what a call keeps that moves documents and ends well
pub record StaysStored (Works WorksNow : PartView → Type 0) (old new : Told) : Type 0 where
  pub stores : (p : PartView) → IsPart old p → TellsFiles old → Works p → StoresStill WorksNow old p new
  pub ready : MaySettle new
  pub untold : old.disks ≡ [] → new.disks ≡ []

-- Nothing changed but where the documents are, which jobs are out, and what the watches counted.
abbrev pub HasOnlyMoved : {S D F W : Type 0} → PartState S D F W → PartState S D F W → Type 0
HasOnlyMoved old new =
    new ≡ record old { store = new.store; main = new.main; flusher = new.flusher; merger = new.merger; list = new.list; sealed = new.sealed; sealed_log = new.sealed_log; active = new.active; log = new.log; generation = new.generation; flushing = new.flushing; merging = new.merging; failed = new.failed }

-- ---- when

-- the log of the active table has a frame, and the bytes at which a table is sealed
pub record IsDue {S D F W : Type 0} (size : D → ℕ) (part : PartState S D F W) : Type 0 where
  pub written : empty_size < size part.log.device
  pub long : part.memory ≤ size part.log.device

-- so few components are listed that a policy picks none for a merge
abbrev pub PicksNone : {F : Type 0} → Policy → List (ComponentState F) → Type 0
PicksNone policy list = (length list < listed_least policy) ⊎ (length list < 2)

-- What is listed of what a job made: of a flush behind all, or of a merge in place of its run.
pub data Listed (F : Type 0) : Type 0 where
  flushed : ComponentState F → Listed F
  merged : Run → ComponentState F → Listed F

-- One after another. A policy picks a run by the sizes of the files that are listed when its merge begins. Behind them flushes are
-- listed while that is out.
abbrev pub AreListed : {F : Type 0} → Policy → (F → ℕ) → List (Listed F) → List (ComponentState F) → List (ComponentState F) → Type 0
AreListed policy size [] old new = new ≡ old
AreListed policy size (flushed c ∷ more) old new = AreListed policy size more (old ++ c ∷ []) new
AreListed policy size (merged run c ∷ more) old new = IsPickedFrom policy size old run × AreListed policy size more (swapped run c old) new

-- how many of them were flushed
abbrev pub flushes : {F : Type 0} → List (Listed F) → ℕ
flushes [] = 0
flushes (flushed c ∷ more) = flushes more + 1
flushes (merged run c ∷ more) = flushes more

-- a table that waits for its flush counts as one
abbrev pub waiting : {T : Type 0} → Option T → ℕ
waiting None = 0
waiting (Some table) = 1

-- The list comes to be by such flushes and merges alone. A flush is listed for each table that was sealed, but for the one that is
-- sealed still: a generation begins where a table is sealed.
pub record IsListedBy {S D F W : Type 0} (policy : Policy) (size : F → ℕ) (old new : PartState S D F W) : Type 0 where
  pub jobs : List (Listed F)
  pub are : AreListed policy size jobs old.list new.list
  pub flushed : flushes jobs + waiting new.sealed + old.generation ≡ waiting old.sealed + new.generation

-- ---- moments

-- At this moment of the store, with these files of the logs, a stop leaves these documents, since they are those of some part.
pub record LeavesPairs (part : Partition) (pairs : Pairs) (sealed_log log : DiskFile) (disk : Disk) : Type 0 where
  pub view : PartView
  pub here : view.part ≡ part
  pub holds : store_of view ≡ pairs
  pub leaves : LeavesStoreAt view None sealed_log log disk

-- So does each moment of the store while the logs are as they were.
abbrev pub MomentsLeavePairs : Partition → Pairs → Told → List Disk → Type 0
MomentsLeavePairs part pairs old disks =
    IfTold old.log λ f. (g : DiskFile) → IsSealedFile old.sealed_log g → EachSince (LeavesPairs part pairs g f) old.disks disks

-- So it is of whatever is stored, where the files are told.
abbrev pub MomentsStay : (PartView → Type 0) → Told → List Disk → Type 0
MomentsStay Works old disks = (p : PartView) → IsPart old p → TellsFiles old → Works p → MomentsLeavePairs p.part (store_of p) old disks

-- And so while the log is sealed once, and the next one takes its place.
abbrev pub MomentsLeavePairsOver : Partition → Pairs → Told → List DiskFile → List Disk → Type 0
MomentsLeavePairsOver part pairs old log disks =
    IfTold old.log λ f. (g : DiskFile) → IsSealedFile old.sealed_log g
    → EachSince (λ disk. LeavesPairs part pairs g f disk ⊎ IfTold log (λ h. LeavesPairs part pairs f h disk)) old.disks disks

abbrev pub MomentsStayOver : (PartView → Type 0) → Told → List DiskFile → List Disk → Type 0
MomentsStayOver Works old log disks = (p : PartView) → IsPart old p → TellsFiles old → Works p → MomentsLeavePairsOver p.part (store_of p) old log disks

-- each moment of the next log, which a call made: its file is absent, closed, or a log without a frame
abbrev pub NextLogs : Partition → ℕ → List DiskFile → Type 0
NextLogs part generation log = All (LeavesAt (IsShutOrHas (IsLog part generation []))) log

-- ---- watches

-- a watch that a partition may have lent counted no fewer faults than before, and one more
abbrev pub FaultsStay : Option Counts → Option Counts → Type 0
FaultsStay None None = Unit {0}
FaultsStay None (Some now) = ⊥
FaultsStay (Some before) None = ⊥
FaultsStay (Some before) (Some now) = before.faults ≤ now.faults

abbrev pub FaultsRose : Option Counts → Option Counts → Type 0
FaultsRose (Some before) (Some now) = Rose before.faults now.faults
FaultsRose _ _ = ⊥

-- No watch of the partition counts fewer faults. Where the call failed for a fault, one was counted on one of them.
pub record IsWatchedIn {S D F W : Type 0} (counts : W → Counts) (Failed : Type 0) (old new : PartState S D F W) : Type 0 where
  pub main : (counts old.main).faults ≤ (counts new.main).faults
  pub flusher : FaultsStay (option_map counts old.flusher) (option_map counts new.flusher)
  pub merger : FaultsStay (option_map counts old.merger) (option_map counts new.merger)
  pub cause : Failed → Rose (counts old.main).faults (counts new.main).faults ⊎ (FaultsRose (option_map counts old.flusher) (option_map counts new.flusher) ⊎ FaultsRose (option_map counts old.merger) (option_map counts new.merger))
