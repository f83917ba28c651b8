-- What a sink took of the lines of all verdicts.
use Rattle.std.proofs.Common.{◌≡◌, ◌<◌, ℕ, List, length, take, refl, subst}
use Rattle.std.specs.Prelude.{Option, None, Some, IfSome, IsSome}
use Rattle.std.specs.Io.KnownBytes.{Appends}
use Rattle.tc_store.specs.Counted.{Counts}
use Rattle.tc_store.specs.Disk.{Disk}
use Rattle.tc_store.specs.KitFaults.{KitFaults}
use Rattle.tc_store.specs.declared.kit.Kit.{Kit}
use Rattle.tc_check.specs.declared.verdict.Verdict.{Verdict}
use Rattle.tc_verdicts.specs.Faults.{IsWrite}
use Rattle.tc_verdicts.specs.Kits.{AreVerdicts, HasEnded, IsWritten}
use Rattle.tc_verdicts.specs.Lines.{lines_from}
use Rattle.tc_verdicts.specs.Stages.{IsTaken}
use Rattle.tc_verdicts.specs.declared.fault.CheckedFault.{CheckedFault}
use Rattle.tc_verdicts.specs.declared.fault.CheckedFault.TheVariants.{Disk as DiskFault, Memory, Write}

module _ {F O : Type 0} (content : F → Option (List ℕ)) (taken : O → Option (List ℕ)) (count : ℕ) (files : ℕ → List Disk) where
  pub lines_written : (verdicts : List Verdict) (lines : List ℕ) (fault : Option CheckedFault) (sink sink' : O) → AreVerdicts content count files verdicts → lines ≡ lines_from 0 verdicts
      → IsTaken lines fault (taken sink) (taken sink') → IsWritten content taken count files fault sink sink'
  lines_written verdicts lines None sink sink' are same is = (verdicts, are, subst (λ bs. Appends (taken sink) (taken sink') bs) same is)
  lines_written verdicts lines (Some (Write n)) sink sink' are same is =
      (verdicts, are, subst (λ bs. n < length bs) same is.0, subst (λ bs. Appends (taken sink) (taken sink') (take n bs)) same is.1)
  lines_written verdicts lines (Some (DiskFault p)) sink sink' are same is = absurd is
  lines_written verdicts lines (Some Memory) sink sink' are same is = absurd is

  -- nothing is written before all lines are made
  pub none_written : (fault : CheckedFault) (sink : O) → (IsWrite fault → ⊥) → IsWritten content taken count files (Some fault) sink sink
  none_written (Write n) sink never = absurd (never tt)
  none_written (DiskFault p) sink never = refl
  none_written Memory sink never = refl

pub ended_writing : {S W D F : Type 0} (counts : W → Counts) (count : ℕ) (came : ℕ → KitFaults) (rose : Type 0) (kits : List (Kit S W D F)) (lines : List ℕ) (fault : Option CheckedFault) (taken taken' : Option (List ℕ))
    → length kits ≡ count → IsTaken lines fault taken taken' → HasEnded counts count came rose kits fault
ended_writing counts count came rose kits lines None taken taken' all is = all
ended_writing counts count came rose kits lines (Some (Write n)) taken taken' all is = all
ended_writing counts count came rose kits lines (Some (DiskFault p)) taken taken' all is = absurd is
ended_writing counts count came rose kits lines (Some Memory) taken taken' all is = absurd is

pub cause_of_write : (fault : Option CheckedFault) (rose : Type 0) → (IsSome fault → rose) → IfSome fault (λ f. IsWrite f → rose)
cause_of_write None rose cause = tt
cause_of_write (Some f) rose cause = λ write. cause refl
