-- The causes of a demonstration, whose session writes into memory.
use Rattle.std.proofs.Common.{◌≡◌, ◌≤◌, ℕ, List, sym, subst}
use Rattle.std.specs.Prelude.{Option, Some, None, Result, Ok, Err, IfErr, OnOk}
use Rattle.std.specs.Io.KnownBytes.{Appends}
use Rattle.tc_bytes.specs.Counts.{Rose}
use Rattle.tc_gen.specs.Generated.{generated}
use Rattle.tc_gen.specs.TwoLines.{Heard, lines_for}
use Rattle.tc_run_model.specs.World.{World}
use Rattle.tc_server.specs.Demo.{fault_in_memory, DemoLeaving, HasHeardAll, WroteSome}
use Rattle.tc_keeper.specs.Faults.{fault_in, DiskFaults, HasCauses, HasDiskCause, IsOfStore, IsOfWindow, IsWrite}
use Rattle.tc_keeper.specs.Sight.{Sight}
use Rattle.tc_keeper.specs.declared.fault.RunFault.{RunFault}
use Rattle.tc_keeper.specs.declared.fault.RunFault.TheVariants.{Usage, Read, Write, Spent, Disk, Damaged, Memory, Layout}
use Rattle.tc_keeper.proofs.Causes.{all_done, call_without_memory, write_failed}
use Rattle.tc_server.proofs.DemoRuns.{makes_no_lines, writes_lines, writes_part}

-- ---- a session over memory

pub memory_kind : (f : RunFault) → IsOfWindow f → IsOfStore (fault_in_memory f)
memory_kind Usage kind = absurd kind
memory_kind Read kind = absurd kind
memory_kind (Write n) kind = tt
memory_kind Spent kind = tt
memory_kind (Disk p) kind = tt
memory_kind (Damaged p damage) kind = tt
memory_kind Memory kind = tt
memory_kind (Layout p found found_of asked_of) kind = absurd kind

pub memory_cause : (f : RunFault) (a b : DiskFaults) (why : RunFault → Type 0) → HasDiskCause a b why (Some f) → HasDiskCause a b why (Some (fault_in_memory f))
memory_cause Usage a b why cause = cause
memory_cause Read a b why cause = cause
memory_cause (Write n) a b why cause = record { stayed = cause.stayed; disk = tt; damaged = tt; spent = λ same. cc }
memory_cause Spent a b why cause = cause
memory_cause (Disk p) a b why cause = cause
memory_cause (Damaged p damage) a b why cause = cause
memory_cause Memory a b why cause = cause
memory_cause (Layout p found found_of asked_of) a b why cause = cause

-- replies that are heard behind a call fail for want of memory alone
pub heard_cause : {T : Type 0} (r : Result T RunFault) (a b : DiskFaults) (first why : RunFault → Type 0) → HasDiskCause a b first None → IfErr r (λ f. f ≡ Memory) → HasDiskCause a b why (fault_in r)
heard_cause (Ok x) a b first why one memory = record { stayed = one.stayed; disk = tt; damaged = tt; spent = tt }
heard_cause (Err f) a b first why one memory = subst (λ g. HasDiskCause a b why (Some g)) (sym memory) (call_without_memory a b first why one)

-- ---- the two lines

fault_cause : (f : RunFault) (lines : List ℕ) (taken taken' : Option (List ℕ)) (before now : ℕ) (a b : DiskFaults) (first why : RunFault → Type 0) → HasDiskCause a b first None → before ≤ now → (IsWrite f → Rose before now) → WroteSome f lines taken taken' → HasCauses before now a b why (Some f)
fault_cause Usage lines taken taken' before now a b first why one up rose wrote = absurd wrote
fault_cause Read lines taken taken' before now a b first why one up rose wrote = absurd wrote
fault_cause (Write n) lines taken taken' before now a b first why one up rose wrote = write_failed n before now a b first why one up (rose tt)
fault_cause Spent lines taken taken' before now a b first why one up rose wrote = absurd wrote
fault_cause (Disk p) lines taken taken' before now a b first why one up rose wrote = absurd wrote
fault_cause (Damaged p damage) lines taken taken' before now a b first why one up rose wrote = absurd wrote
fault_cause Memory lines taken taken' before now a b first why one up rose wrote = record { kept = up; failed = λ write. absurd write; kind = tt; disks = call_without_memory a b first why one }
fault_cause (Layout p found found_of asked_of) lines taken taken' before now a b first why one up rose wrote = absurd wrote

pub lines_cause : {T : Type 0} (r : Result T RunFault) (lines : List ℕ) (taken taken' : Option (List ℕ)) (before now : ℕ) (a b : DiskFaults)
    (first why : RunFault → Type 0) → HasDiskCause a b first None → before ≤ now → IfErr r (λ f. IsWrite f → Rose before now)
    → IfErr r (λ f. WroteSome f lines taken taken')
    → HasCauses before now a b why (fault_in r)
lines_cause (Ok x) lines taken taken' before now a b first why one up rose wrote = all_done before now a b first why one up
lines_cause (Err f) lines taken taken' before now a b first why one up rose wrote = fault_cause f lines taken taken' before now a b first why one up rose wrote

module _ {K : Type 0} (holds : K → Sight → Type 0) (keeps : K → Option ℕ → World → World → Type 0) (spent : K → Type 0) where
  fault_leaves : (n : ℕ) (f : RunFault) (first : Sight) (most : ℕ) (taken taken' : Option (List ℕ)) (k : K) (heard : Heard) → HasHeardAll holds first (generated n) k heard → WroteSome f (lines_for n heard) taken taken' → DemoLeaving holds keeps spent n (Some f) first most taken taken' k
  fault_leaves n Usage first most taken taken' k heard a wrote = absurd wrote
  fault_leaves n Read first most taken taken' k heard a wrote = absurd wrote
  fault_leaves n (Write m) first most taken taken' k heard a wrote = writes_part holds keeps spent n m first most taken taken' k heard a wrote.0 wrote.1
  fault_leaves n Spent first most taken taken' k heard a wrote = absurd wrote
  fault_leaves n (Disk p) first most taken taken' k heard a wrote = absurd wrote
  fault_leaves n (Damaged p damage) first most taken taken' k heard a wrote = absurd wrote
  fault_leaves n Memory first most taken taken' k heard a wrote = makes_no_lines holds keeps spent n first most taken taken' k heard wrote a
  fault_leaves n (Layout p found found_of asked_of) first most taken taken' k heard a wrote = absurd wrote

  pub lines_leave : {T : Type 0} (r : Result T RunFault) (n : ℕ) (first : Sight) (most : ℕ) (taken taken' : Option (List ℕ)) (k : K) (heard : Heard)
      → HasHeardAll holds first (generated n) k heard → OnOk r (Appends taken taken' (lines_for n heard)) → IfErr r (λ f. WroteSome f (lines_for n heard) taken taken')
      → DemoLeaving holds keeps spent n (fault_in r) first most taken taken' k
  lines_leave (Ok x) n first most taken taken' k heard a whole part = writes_lines holds keeps spent n first most taken taken' k heard a whole
  lines_leave (Err f) n first most taken taken' k heard a whole part = fault_leaves n f first most taken taken' k heard a part
