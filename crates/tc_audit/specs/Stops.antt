-- What is said of calls that stop where something is wrong.
use Rattle.std.specs.Prelude.{◌≡◌, ℕ, Result, Err}
use Rattle.tc_store.specs.declared.damage.ReadFault.{ReadFault}
use Rattle.tc_store.specs.declared.damage.ReadFault.TheVariants as read
use Rattle.tc_audit.specs.declared.verdict.Wrong.{Wrong as Reason}
use Rattle.tc_audit.specs.declared.verdict.Wrong.TheVariants.{Record, Documents, Count}
use Rattle.tc_audit.specs.declared.verdict.Verdict.{Verdict}
use Rattle.tc_audit.specs.declared.verdict.Verdict.TheVariants.{Right, Wrong as Told}
use Rattle.tc_audit.specs.declared.stop.Stop.{Stop}
use Rattle.tc_audit.specs.declared.stop.Stop.TheVariants.{Wrong, Disk, Memory}

-- of what is found to be wrong this holds
abbrev pub IfWrong : {X : Type 0} → Result X Stop → (Reason → Type 0) → Type 0
IfWrong (Err (Wrong w)) P = P w
IfWrong _ _ = Unit {0}

-- the position of the component that is wrong
abbrev pub position_of : Reason → ℕ
position_of (Record at place bytes) = at
position_of (Documents at) = at
position_of (Count at first) = at

-- a fault of reading the component at a position
abbrev pub IsOfRead : ℕ → ReadFault → Stop → Type 0
IsOfRead component read.Disk stop = stop ≡ Disk
IsOfRead component (read.Damaged place bytes) stop = stop ≡ Wrong (Record component place bytes)
IsOfRead component read.Memory stop = stop ≡ Memory

-- of the number of documents, where all is right, and of what is wrong
abbrev pub IfRight : Verdict → (ℕ → Type 0) → Type 0
IfRight (Right documents) P = P documents
IfRight (Told w) P = Unit {0}

abbrev pub IfTold : Verdict → (Reason → Type 0) → Type 0
IfTold (Right documents) P = Unit {0}
IfTold (Told w) P = P w
