-- What an audit of all partitions answers: verdicts that are true of the files, and kits whose files are as they were.
use Rattle.std.specs.Prelude.{◌≡◌, ◌≤◌, ◌<◌, ◌⊎◌, ℕ, suc, List, length, take, Option, None, Some, slice_get, IfSome}
use Rattle.std.specs.Io.KnownBytes.{Appends}
use Rattle.tc_bytes.specs.Counts.{Rose}
use Rattle.tc_store.specs.Counted.{Counts}
use Rattle.tc_store.specs.Disk.{Disk}
use Rattle.tc_store.specs.KitFaults.{KitFaults}
use Rattle.tc_store.specs.Moments.{IfTold}
use Rattle.tc_store.specs.declared.kit.Kit.{Kit}
use Rattle.tc_lsm_model.specs.Contents.{Content, Partition}
use Rattle.tc_plain_model.specs.Writes.{Write as Stored}
use Rattle.tc_machine.specs.Pictures.{recovered}
use Rattle.tc_recover.specs.Files.{TakesSome}
use Rattle.tc_recover.specs.Lawful.{DiskOpens}
use Rattle.tc_check.specs.Verdicts.{IfRight, IfWrong, IsReasonOf, IsRight}
use Rattle.tc_check.specs.declared.verdict.Verdict.{Verdict}
use Rattle.tc_check.specs.declared.verdict.Verdict.TheVariants.{Right}
use Rattle.tc_verdicts.specs.Lines.{lines_from}
use Rattle.tc_verdicts.specs.declared.fault.CheckedFault.{CheckedFault}
use Rattle.tc_verdicts.specs.declared.fault.CheckedFault.TheVariants.{Disk as DiskFault, Memory, Write}

-- of what stands at each place of a list, and of the place's number, something holds
abbrev pub AtPlaces : {X : Type 0} → (ℕ → X → Type 0) → List X → Type 0
AtPlaces P xs = (p : ℕ) → IfSome (slice_get xs p) (P p)

-- ---- verdicts

-- What is said of the files of a partition is true: that they are lawful, with the number of documents that are stored in them, or why
-- they are not. Lawful files are never called wrong.
pub record IsVerdict {F : Type 0} (content : F → Option (List ℕ)) (part : Partition) (came : List Disk) (verdict : Verdict) : Type 0 where
  pub right : IfTold came (λ disk. IfRight verdict (IsRight part disk))
  pub lawful : IfTold came (λ disk. (cs : List Content) (logs : List (List Stored)) → DiskOpens part disk cs logs → verdict ≡ Right (length (recovered cs logs).pairs))
  pub reason : IfTold came (λ disk. IfWrong verdict (IsReasonOf content part disk))

-- the verdicts on all partitions, of which there are so many, in ascending number
pub record AreVerdicts {F : Type 0} (content : F → Option (List ℕ)) (count : ℕ) (files : ℕ → List Disk) (verdicts : List Verdict) : Type 0 where
  pub many : length verdicts ≡ count
  pub each : AtPlaces (λ p verdict. IsVerdict content (record { number = p; count = count }) (files p) verdict) verdicts

-- A sink took the lines of all verdicts, or where a write failed so many of their first bytes. Where some partition has no verdict
-- nothing was given to it.
abbrev pub IsWritten : {F O : Type 0} → (F → Option (List ℕ)) → (O → Option (List ℕ)) → ℕ → (ℕ → List Disk) → Option CheckedFault → O → O → Type 0
IsWritten content taken count files None sink sink' = (verdicts : List Verdict) × AreVerdicts content count files verdicts × Appends (taken sink) (taken sink') (lines_from 0 verdicts)
IsWritten content taken count files (Some (Write n)) sink sink' =
    (verdicts : List Verdict) × AreVerdicts content count files verdicts × (n < length (lines_from 0 verdicts)) × Appends (taken sink) (taken sink') (take n (lines_from 0 verdicts))
IsWritten content taken count files (Some (DiskFault p)) sink sink' = sink' ≡ sink
IsWritten content taken count files (Some Memory) sink sink' = sink' ≡ sink

-- ---- kits

-- A kit that came with these files and counts of faults is given back: its files have the bytes that they had, and no watch but `main`
-- has counted.
pub record IsGivenBack {S W D F : Type 0} (history : S → List Disk) (counts : W → Counts) (came : List Disk) (counted : KitFaults) (kit : Kit S W D F) : Type 0 where
  pub files : TakesSome came (history kit.store)
  pub main : counted.main ≤ (counts kit.main).faults
  pub flusher : (counts kit.flusher).faults ≡ counted.flusher
  pub merger : (counts kit.merger).faults ≡ counted.merger
  pub reader : (counts kit.reader).faults ≡ counted.reader

-- The shelf stands as it did behind the kits that it gave, or the next one was not given, and its count of faults rose. The count
-- did not fall.
pub record IsShelfBehind (count kits : ℕ) (files files' : ℕ → List Disk) (came came' : ℕ → KitFaults) (before now : ℕ) : Type 0 where
  pub others : (p : ℕ) → kits < p → (files' p ≡ files p) × (came' p ≡ came p)
  pub next : ((files' kits ≡ files kits) × (came' kits ≡ came kits)) ⊎ ((kits < count) × Rose before now)
  pub kept : before ≤ now

-- How an audit ended, by the kits that are given back: all of them, unless one was not given, or came to no verdict. A fault of the
-- disk is the shelf's, whose count rose, or that of the last kit, whose watch `main` counted it.
abbrev pub HasEnded : {S W D F : Type 0} → (W → Counts) → ℕ → (ℕ → KitFaults) → Type 0 → List (Kit S W D F) → Option CheckedFault → Type 0
HasEnded counts count came rose kits None = length kits ≡ count
HasEnded counts count came rose kits (Some (Write n)) = length kits ≡ count
HasEnded counts count came rose kits (Some (DiskFault p)) =
    (p < count) × (((length kits ≡ p) × rose) ⊎ ((length kits ≡ suc p) × IfSome (slice_get kits p) (λ kit. Rose (came p).main (counts kit.main).faults)))
HasEnded counts count came rose kits (Some Memory) = length kits ≤ count
