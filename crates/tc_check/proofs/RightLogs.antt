-- Logs above right components, once their records, the documents and the names were looked at.
use Rattle.std.proofs.Common.{◌≡◌, ◌<◌, ◌≤◌, ◌^◌, ◌↔◌, ℕ, Bool, true, false, List, [], ◌∷◌, ◌++◌, map, length, arith, refl, subst, ap, inl, inr}
use Rattle.std.specs.Prelude.{All, IfSome}
use Rattle.std.specs.List.{AllByRecursion}
use Rattle.std.proofs.lemmas.Bool.{cases_lt}
use Rattle.std.proofs.lemmas.List.Elements.{All-cons, All-head, All-nil, All-tail}
use Rattle.tc_log.specs.declared.write.Write.{Write as LogWrite}
use Rattle.tc_log.specs.Writes.{IsWrite}
use Rattle.tc_plain_model.specs.Writes.{Write}
use Rattle.tc_lsm_model.specs.Contents.{Content}
use Rattle.tc_lsm_model.specs.Lists.{names_of}
use Rattle.tc_machine.specs.Logs.{all_writes, kept_write}
use Rattle.tc_machine.specs.Pictures.{recovered}
use Rattle.tc_machine.specs.Writes.{AreFew, HasRoom, IsStorableWrite}
use Rattle.tc_lawful.specs.Logs.{AreStored, IsShort}
use Rattle.tc_check.specs.Counting.{writes_in}
use Rattle.tc_check.specs.Long.{IsFirstLong}
use Rattle.tc_check.specs.Naming.{FitBehind}
use Rattle.tc_check.specs.Verdicts.{AreKept, AreRightLogs, HaveTooMuch}
use Rattle.tc_check.specs.declared.verdict.Over.TheVariants.{Documents, Names}
use Rattle.tc_check.specs.declared.verdict.Verdict.TheVariants.{Right}
use Rattle.tc_check.proofs.LongRecords.{all_short}

-- ---- the writes of each log

front_each : (P : LogWrite → Type 0) (xs ys : List LogWrite) → AllByRecursion P (xs ++ ys) → AllByRecursion P xs
front_each P [] ys all = tt
front_each P (x ∷ xs) ys all = (all.0, front_each P xs ys all.1)

back_each : (P : LogWrite → Type 0) (xs ys : List LogWrite) → AllByRecursion P (xs ++ ys) → AllByRecursion P ys
back_each P [] ys all = all
back_each P (x ∷ xs) ys all = back_each P xs ys all.1

each_log : (P : LogWrite → Type 0) (logs : List (List LogWrite)) → AllByRecursion P (writes_in logs) → All (AllByRecursion P) logs
each_log P [] all = All-nil (AllByRecursion P)
each_log P (log ∷ logs) all = All-cons (AllByRecursion P) log logs (front_each P log (writes_in logs) all) (each_log P logs (back_each P log (writes_in logs) all))

in_all : (logs : List (List LogWrite)) → All (AllByRecursion IsShort) logs → AllByRecursion IsShort (writes_in logs)
in_all [] all = tt
in_all (log ∷ logs) all = all_short log (writes_in logs) (All-head (AllByRecursion IsShort) log logs all) (in_all logs (All-tail (AllByRecursion IsShort) log logs all))

-- ---- kept writes

-- short writes are those of a partition
abbrev pub AreStoredShort : Type 0
AreStoredShort = (read : List (List LogWrite)) → (All (AllByRecursion IsWrite) read × All (AllByRecursion IsShort) read) ↔ AreStored read

pub kept_of : AreStoredShort → (writes : List (List LogWrite)) → All (AllByRecursion IsWrite) writes → AllByRecursion IsShort (writes_in writes) → (logs : List (List Write)) × AreKept writes logs
kept_of stored writes are short = let kept = (stored writes).0 (are, each_log IsShort writes short) in (kept.0, record { kept = kept.1; storable = kept.2 })

-- ---- what is found

-- so many documents were counted: of all writes that the logs may keep
abbrev pub AreCounted : List Content → List (List LogWrite) → ℕ → Type 0
AreCounted cs writes documents = (kept : List (List Write)) → writes ≡ map (map kept_write) kept → documents ≡ length (recovered cs kept).pairs

pub too_many : AreStoredShort → (cs : List Content) (writes : List (List LogWrite)) (documents : ℕ) → All (AllByRecursion IsWrite) writes → AllByRecursion IsShort (writes_in writes) → AreCounted cs writes documents → 2 ^ 32 ≤ documents
    → HaveTooMuch cs writes Documents (2 ^ 32)
too_many stored cs writes documents are short counted many =
    let kept = kept_of stored writes are short in
    (refl, (kept.0, kept.1, subst (λ n. 2 ^ 32 ≤ n) (counted kept.0 kept.1.kept) many))

-- whether the names fit behind those of the components
pub too_many_names : AreStoredShort → (cs : List Content) (writes : List (List LogWrite)) (documents : ℕ) (fit : Bool) → All (AllByRecursion IsWrite) writes → AllByRecursion IsShort (writes_in writes) → AreCounted cs writes documents → documents < 2 ^ 32
    → FitBehind writes (names_of cs) fit → fit ≡ false → HaveTooMuch cs writes Names (2 ^ 32)
too_many_names stored cs writes documents fit are short counted few exact not_fit =
    let kept = kept_of stored writes are short in
    (refl, (kept.0, kept.1, subst (λ n. n < 2 ^ 32) (counted kept.0 kept.1.kept) few, at_least (length (recovered cs kept.0).taken) (λ fits. never ((exact kept.0 kept.1.kept kept.1.storable).1 fits) not_fit)))
  where
    at_least : (n : ℕ) → (n < 2 ^ 32 → ⊥) → 2 ^ 32 ≤ n
    at_least n not_below = elim (cases_lt n (2 ^ 32)) [
      | inl below ↦ absurd (not_below below)
      | inr above ↦ above
    ]

    never : fit ≡ true → fit ≡ false → ⊥
    never fits not_fits = cc

pub right_logs : AreStoredShort → (cs : List Content) (writes : List (List LogWrite)) (documents : ℕ) (fit : Bool) → All (AllByRecursion IsWrite) writes → AllByRecursion IsShort (writes_in writes) → AreCounted cs writes documents → documents < 2 ^ 32
    → FitBehind writes (names_of cs) fit → fit ≡ true → AreRightLogs cs writes documents
right_logs stored cs writes documents fit are short counted room exact fits =
    let kept = kept_of stored writes are short in
    record {
      logs = kept.0;
      kept = kept.1;
      room = subst (λ n. n < 2 ^ 32) (counted kept.0 kept.1.kept) room;
      few = (exact kept.0 kept.1.kept kept.1.storable).0 fits;
      documents_are = counted kept.0 kept.1.kept;
    }

-- ---- nothing is found of logs that are right

pub never_long : AreStoredShort → (writes : List (List LogWrite)) (kept : List (List Write)) (size : ℕ) → writes ≡ map (map kept_write) kept → All IsStorableWrite (all_writes kept) → IsFirstLong (writes_in writes) size → ⊥
never_long stored writes kept size same storable first =
    let short : AllByRecursion IsShort (writes_in writes) = in_all writes ((stored writes).1 (kept, same, storable)).1 in
    let here : IsShort first.write = (back_each IsShort first.before (first.write ∷ first.behind) (subst (AllByRecursion IsShort) first.parts short)).0 in
    let below : length first.long.bytes < 2 ^ 30 = subst (λ o. IfSome o (λ bytes. length bytes < 2 ^ 30)) first.long.record_is here in
    omega (arith, below, first.long.size_is, first.long.long)

pub never_many : (cs : List Content) (writes : List (List LogWrite)) (documents : ℕ) (kept : List (List Write)) → AreCounted cs writes documents → writes ≡ map (map kept_write) kept → HasRoom (recovered cs kept).pairs → 2 ^ 32 ≤ documents → ⊥
never_many cs writes documents kept counted same room many = let is = counted kept same in omega (arith, is, room, many)

pub never_many_names : (cs : List Content) (writes : List (List LogWrite)) (kept : List (List Write)) (fit : Bool) → FitBehind writes (names_of cs) fit → writes ≡ map (map kept_write) kept → All IsStorableWrite (all_writes kept) → AreFew (recovered cs kept).taken
    → fit ≡ false → ⊥
never_many_names cs writes kept fit exact same storable few not_fit = let fits : fit ≡ true = (exact kept same storable).1 few in cc

pub rightly : (cs : List Content) (writes : List (List LogWrite)) (documents : ℕ) (kept : List (List Write)) → AreCounted cs writes documents → writes ≡ map (map kept_write) kept → Right documents ≡ Right (length (recovered cs kept).pairs)
rightly cs writes documents kept counted same = ap (λ n. Right n) (counted kept same)
