-- What is read of the files that count, or the first refusal.
use Rattle.std.specs.Prelude.{◌≡◌, Contains, length, true, ◌&&◌, ℕ, nat_lt, Bool, false, if◌then◌else◌, List, [], ◌∷◌, ◌++◌, Result, Ok, Err}
use Rattle.tc_store.specs.declared.file_name.FileName.{FileName}
use Rattle.tc_store.specs.declared.file_name.FileName.TheVariants.{Component, Log}
use Rattle.tc_store.specs.declared.damage.Damage.TheVariants.{Bytes, Files}
use Rattle.tc_store.specs.Disk.{Picture}
use Rattle.tc_store.specs.Gate.{is_open_file}
use Rattle.tc_store.specs.Judging as judging
use Rattle.tc_log.specs.declared.write.Write.{Write}
use Rattle.tc_log.specs.Reading.{log_judged}
use Rattle.tc_recover.specs.declared.cause.FilesCause.{FilesCause}
use Rattle.tc_recover.specs.declared.cause.FilesCause.TheVariants.{Damaged, Layout}
use Rattle.tc_recover.specs.declared.taken.Taken.{Taken}
use Rattle.tc_recover.specs.Refusals.{Refusal, breaks, strays, clashes}

-- what is judged of the file of this name, and then
abbrev pub file_then : {A B : Type 0} → FileName → Result A judging.Damage → (A → Result B Refusal) → Result B Refusal
file_then name (Ok x) f = f x
file_then name (Err d) f = Err (breaks name d)

-- the name is that of a log above a generation
abbrev pub is_above : ℕ → FileName → Bool
is_above last (Component from to) = false
is_above last (Log generation) = nat_lt last generation

-- the file is such a log, and open
abbrev pub is_log : {F W : Type 0} → ℕ → Taken F W → Bool
is_log last t = t.open && is_above last t.name

-- the writes of each open log above a generation, behind those before
abbrev pub logs_judged : ℕ → List (List Write) → Picture → Result (List (List Write)) Refusal
logs_judged last before [] = Ok before
logs_judged last before (file ∷ files) =
    if is_open_file file.1 && is_above last file.0 then file_then file.0 (log_judged file.1) (λ read. logs_judged last (before ++ read.1 ∷ []) files) else logs_judged last before files

-- What is answered, seen by view, is what is judged. Of a fault of the disk and of want of memory nothing is said here.
abbrev pub Answers : {X Y : Type 0} → (X → Y) → Result X FilesCause → Result Y Refusal → Type 0
Answers view (Ok x) judged = judged ≡ Ok (view x)
Answers view (Err (Damaged (Bytes file place bytes))) judged = judged ≡ Err (breaks file (judging.damage place bytes))
Answers view (Err (Damaged (Files names))) judged = judged ≡ Err (clashes names)
Answers view (Err (Layout found found_of)) judged = judged ≡ Err (strays found found_of)
Answers _ _ _ = Unit {0}

-- the writes of a log
abbrev pub same_writes : List Write → List Write
same_writes writes = writes

-- ---- causes, also of files that tell nothing

-- bytes that break the rules of a log: those at the place in some whole of its length
abbrev pub IsLogDamage : {F W : Type 0} → (F → ℕ) → Taken F W → FilesCause → Type 0
IsLogDamage size t (Damaged (Bytes name place bytes)) = (t.name ≡ name) × ((whole : List ℕ) × (length whole ≡ size t.file) × (log_judged whole ≡ Err (judging.damage place bytes)))
IsLogDamage size t (Damaged (Files names)) = ⊥
IsLogDamage size t (Layout found found_of) = ⊥
IsLogDamage _ _ _ = Unit {0}

-- of one of the open logs above a generation
abbrev pub IsLogCause : {F W : Type 0} → (F → ℕ) → ℕ → List (Taken F W) → FilesCause → Type 0
IsLogCause {F = F} {W = W} size last files (Damaged damage) = (t : Taken F W) × Contains files t × (is_log last t ≡ true) × IsLogDamage size t (Damaged damage)
IsLogCause size last files (Layout found found_of) = ⊥
IsLogCause _ _ _ _ = Unit {0}
