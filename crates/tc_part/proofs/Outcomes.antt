-- What holds where a call fails.
use Rattle.std.proofs.Common.{◌≡◌, ◌∙◌, ℕ, List, inl, refl, ap, arith}
use Rattle.std.specs.Prelude.{Result, Ok, Err, OnErr, IfErr, IsErrOf}
use Rattle.tc_store.specs.Counted.{Counts}
use Rattle.tc_store.specs.declared.file_name.FileName.{FileName}
use Rattle.tc_part.specs.declared.fault.PartFault.{PartFault}
use Rattle.tc_part.specs.declared.fault.PartFault.TheVariants.{Disk, Memory}
use Rattle.tc_part.specs.Harms.{IsOfRead}
use Rattle.tc_part.specs.Reads.{IsCountedLookup}

pub err_always : {X E : Type 0} (r : Result X E) (Q : Type 0) → Q → OnErr r Q
err_always (Ok x) Q q = tt
err_always (Err e) Q q = q

pub err_each : {X E : Type 0} (r : Result X E) (Q : E → Type 0) → ((e : E) → Q e) → IfErr r Q
err_each (Ok x) Q q = tt
err_each (Err e) Q q = q e

-- where two results fail alike, a cause of the one is one of the other
pub fails_alike : {X Y E : Type 0} (a : Result X E) (b : Result Y E) (x e : E) → a ≡ Err x → b ≡ Err x → IsErrOf a e → IsErrOf b e
fails_alike a b x e is same fails = let cause : x ≡ e = cc in same ∙ ap Err cause

pub never_fails : {X E P : Type 0} (a : Result X E) (x : X) (e : E) → a ≡ Ok x → IsErrOf a e → P
never_fails a x e is fails = absurd (cc)

-- a call that reads nothing fails for want of memory alone
pub memory_harms : {X : Type 0} (r : Result X PartFault) (P : FileName → ℕ → List ℕ → Type 0) → IfErr r (λ fault. fault ≡ Memory) → IfErr r (λ fault. IsOfRead fault P)
memory_harms (Ok x) P is = tt
memory_harms (Err e) P is = rw is tt

no_fault : {X P : Type 0} (r : Result X PartFault) → IfErr r (λ fault. fault ≡ Memory) → IsErrOf r Disk → P
no_fault (Ok x) is fails = absurd (cc)
no_fault (Err e) is fails = absurd (cc)

pub memory_counts : {X : Type 0} (r : Result X PartFault) (Unwanted : Type 0) (counts : Counts) → IfErr r (λ fault. fault ≡ Memory) → IsCountedLookup (IsErrOf r Disk) Unwanted counts counts
memory_counts r Unwanted counts is = record { once = record { faults = omega arith; cause = no_fault r is; done = λ no. absurd no; reads = inl refl }; none = λ none. refl }
