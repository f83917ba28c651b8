-- The stages of an audit of all partitions.
use Rattle.std.specs.Prelude.{◌≡◌, ◌≤◌, ◌<◌, ℕ, List, [], length, take, Option, None, Some}
use Rattle.std.specs.Io.KnownBytes.{Appends}
use Rattle.tc_store.specs.Counted.{Counts}
use Rattle.tc_store.specs.Disk.{Disk}
use Rattle.tc_store.specs.KitFaults.{KitFaults}
use Rattle.tc_store.specs.declared.kit.Kit.{Kit}
use Rattle.tc_recover.specs.Files.{TakesSome}
use Rattle.tc_check.specs.declared.verdict.Verdict.{Verdict}
use Rattle.tc_verdicts.specs.Kits.{AtPlaces, IsGivenBack, IsVerdict}
use Rattle.tc_verdicts.specs.Lines.{lines_from}
use Rattle.tc_verdicts.specs.declared.fault.CheckedFault.{CheckedFault}
use Rattle.tc_verdicts.specs.declared.fault.CheckedFault.TheVariants.{Disk as DiskFault, Memory, Write}

-- a kit whose files were audited: some are still now, and only its watch `main` may have counted
pub record IsKept {S W D F : Type 0} (history : S → List Disk) (counts : W → Counts) (kit back : Kit S W D F) : Type 0 where
  pub files : TakesSome (history kit.store) (history back.store)
  pub main : (counts kit.main).faults ≤ (counts back.main).faults
  pub flusher : back.flusher ≡ kit.flusher
  pub merger : back.merger ≡ kit.merger
  pub reader : back.reader ≡ kit.reader

-- the fault of a kit that was given: of its disk only where its count rose
abbrev pub IsOfKit : ℕ → Type 0 → CheckedFault → Type 0
IsOfKit p rose (Write n) = ⊥
IsOfKit p rose (DiskFault q) = (q ≡ p) × rose
IsOfKit p rose Memory = Unit {0}

-- a sink took all these bytes, or so many of the first
abbrev pub IsTaken : List ℕ → Option CheckedFault → Option (List ℕ) → Option (List ℕ) → Type 0
IsTaken lines None taken taken' = Appends taken taken' lines
IsTaken lines (Some (Write n)) taken taken' = (n < length lines) × Appends taken taken' (take n lines)
IsTaken lines (Some (DiskFault p)) taken taken' = ⊥
IsTaken lines (Some Memory) taken taken' = ⊥

-- The audit stands behind so many partitions, from a shelf as it was first to one as it is now: the lines are those of their
-- verdicts, and the kits are theirs. Behind these no kit was asked for.
pub record StandsAt {S W D F H : Type 0} (history : S → List Disk) (counts : W → Counts) (content : F → Option (List ℕ)) (files : H → ℕ → List Disk) (came : H → ℕ → KitFaults) (faults : H → ℕ) (count : ℕ) (first now : H) (kits : List (Kit S W D F)) (lines : List ℕ) (n : ℕ) : Type 0 where
  pub verdicts : List Verdict
  pub said : length verdicts ≡ n
  pub each : AtPlaces (λ p verdict. IsVerdict content (record { number = p; count = count }) (files first p) verdict) verdicts
  pub lines_are : lines ≡ lines_from 0 verdicts
  pub many : length kits ≡ n
  pub back : AtPlaces (λ p kit. IsGivenBack history counts (files first p) (came first p) kit) kits
  pub behind : (p : ℕ) → n ≤ p → (files now p ≡ files first p) × (came now p ≡ came first p)
  pub kept : faults first ≤ faults now
  pub same : kits ≡ [] → now ≡ first
