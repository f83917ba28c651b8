-- Logs are read one after the other.
use Rattle.std.proofs.Common.{◌≡◌, ◌≤◌, ◌+◌, ℕ, Bool, cond, filter, List, [], ◌∷◌, ◌++◌, length, refl, sym, subst, ap, length-append, arith}
use Rattle.std.specs.Prelude.{Contains, ◌&&◌, false, if◌then◌else◌, Option, Some, None, unwrap_or, All, IsSome, IfSome, true, Result, Ok, Err}
use Rattle.std.specs.List.{AllByRecursion}
use Rattle.std.specs.Result.{IsErrAnd, IsErrOf, IsOk}
use Rattle.std.proofs.lemmas.Bool.{and_parts}
use Rattle.std.proofs.lemmas.List.Elements.{All-push}
use Rattle.tc_store.specs.declared.file_name.FileName.{FileName}
use Rattle.tc_store.specs.declared.damage.Damage.TheVariants.{Bytes, Files}
use Rattle.tc_store.specs.Counted.{Counts}
use Rattle.tc_store.specs.Judging.{Damage, damage, IfDamaged}
use Rattle.tc_store.specs.Gate.{is_open_file}
use Rattle.tc_log.specs.declared.head.LogHead.{LogHead}
use Rattle.tc_log.specs.declared.write.Write.{Write}
use Rattle.tc_log.specs.Reading.{log_judged}
use Rattle.tc_log.specs.Writes.{IsWrite}
use Rattle.tc_recover.specs.declared.cause.FilesCause.{FilesCause}
use Rattle.tc_recover.specs.declared.cause.FilesCause.TheVariants.{Disk, Damaged, Layout, Memory}
use Rattle.tc_recover.specs.declared.taken.Taken.{Taken}
use Rattle.tc_recover.specs.Files.{picture_in, AreTold, AreGates}
use Rattle.tc_recover.specs.Loads.{file_then, is_above, is_log, logs_judged, Answers, IsLogDamage, IsLogCause, same_writes}
use Rattle.tc_recover.specs.Causes.{IsOfRead}
use Rattle.tc_recover.proofs.Members.{AreAmong, member_further}
use Rattle.tc_store.specs.declared.damage.ReadFault.{ReadFault}
use Rattle.tc_store.specs.declared.damage.ReadFault.TheVariants.{Disk as unread, Damaged as broken, Memory as no_memory}
use Rattle.tc_recover.specs.Reads.{count_after, IsCountedTimes}
use Rattle.tc_recover.specs.Refusals.{Refusal}
use Rattle.tc_recover.proofs.HeadSteps.{count_moves, gate_first, gates_behind, told_first, told_behind, told_holds}

-- what is left to be read, behind the writes that were
pub record AreLogsLeft {F W : Type 0} (tells : F → Option (List ℕ)) (last : ℕ) (all rest : List (Taken F W)) (done : List (List Write)) (before now : Counts) : Type 0 where
  pub gates : AreGates tells rest
  pub told : AreTold tells all → AreTold tells rest
  pub judged : AreTold tells all → logs_judged last [] (picture_in tells all) ≡ logs_judged last done (picture_in tells rest)
  pub among : AreAmong rest all
  pub lawful : All (AllByRecursion IsWrite) done
  pub each : length done + length (filter (is_log last) rest) ≡ length (filter (is_log last) all)
  pub faults : before.faults ≤ now.faults
  pub reads : count_after (length (filter (is_log last) rest)) now.reads ≡ count_after (length (filter (is_log last) all)) before.reads

open_told : (open_it : Bool) (content : Option (List ℕ)) → IfSome content (λ bytes. open_it ≡ is_open_file bytes) → open_it ≡ true → IfSome content (λ bytes. is_open_file bytes ≡ true)
open_told open_it None gate is = tt
open_told open_it (Some bytes) gate is = cc

-- the next one is open
pub next_open : {F W : Type 0} (tells : F → Option (List ℕ)) (last : ℕ) (all rest ts : List (Taken F W)) (t : Taken F W) (done : List (List Write)) (before now : Counts) → AreLogsLeft tells last all rest done before now → rest ≡ t ∷ ts
    → is_log last t ≡ true → IfSome (tells t.file) (λ bytes. is_open_file bytes ≡ true)
next_open tells last all rest ts t done before now p rests is =
    let q = subst (λ left. AreLogsLeft tells last all left done before now) rests p in
    open_told t.open (tells t.file) (gate_first tells t ts q.gates) (and_parts t.open (is_above last t.name) is).0

-- the test of the gate's byte and of the name is that of the file
tested : {F W : Type 0} (tells : F → Option (List ℕ)) (last : ℕ) (t : Taken F W) → IsSome (tells t.file) → IfSome (tells t.file) (λ bytes. t.open ≡ is_open_file bytes)
    → is_open_file (unwrap_or (tells t.file) []) && is_above last t.name ≡ is_log last t
tested tells last t some gate = ap (λ is. is && is_above last t.name) (sym (told_holds (λ bytes. t.open ≡ is_open_file bytes) (tells t.file) some gate))

pub log_skipped : {F W : Type 0} (tells : F → Option (List ℕ)) (last : ℕ) (all rest ts : List (Taken F W)) (t : Taken F W) (done : List (List Write)) (before now : Counts) → AreLogsLeft tells last all rest done before now
    → rest ≡ t ∷ ts → is_log last t ≡ false → AreLogsLeft tells last all ts done before now
log_skipped tells last all rest ts t done before now p rests other = left (subst (λ left. AreLogsLeft tells last all left done before now) rests p)
  where
    left : AreLogsLeft tells last all (t ∷ ts) done before now → AreLogsLeft tells last all ts done before now
    left q = record {
      gates = gates_behind tells t ts q.gates;
      told = λ told. told_behind tells t ts (q.told told);
      judged = λ told.
          let test = tested tells last t (told_first tells t ts (q.told told)) (gate_first tells t ts q.gates) in
          let no : is_open_file (unwrap_or (tells t.file) []) && is_above last t.name ≡ false = cc in
          subst (λ (is : Bool). logs_judged last [] (picture_in tells all) ≡ (if is then file_then t.name (log_judged (unwrap_or (tells t.file) [])) (λ read. logs_judged last (done ++ read.1 ∷ []) (picture_in tells ts)) else logs_judged last done (picture_in tells ts)))
          no (q.judged told);
      among = λ u member. q.among u (member_further t ts u member);
      lawful = q.lawful;
      each = subst (λ is. length done + length (cond is (t ∷ filter (is_log last) ts) (filter (is_log last) ts)) ≡ length (filter (is_log last) all)) other q.each;
      faults = q.faults;
      reads = subst (λ is. count_after (length (cond is (t ∷ filter (is_log last) ts) (filter (is_log last) ts))) now.reads ≡ count_after (length (filter (is_log last) all)) before.reads) other q.reads;
    }

read_then : (name : FileName) (judged : Result (LogHead × List Write) Damage) (writes : List Write) (next : List Write → Result (List (List Write)) Refusal)
    → file_then name judged (λ read. Ok read.1) ≡ Ok writes → file_then name judged (λ read. next read.1) ≡ next writes
read_then name (Ok read) writes next is = let same : read.1 ≡ writes = cc in ap next same
read_then name (Err d) writes next is = absurd (cc)

pub log_read : {F W : Type 0} (tells : F → Option (List ℕ)) (last : ℕ) (all rest ts : List (Taken F W)) (t : Taken F W) (done more : List (List Write)) (writes : List Write) (before now after : Counts)
    → AreLogsLeft tells last all rest done before now → rest ≡ t ∷ ts → is_log last t ≡ true → more ≡ done ++ writes ∷ [] → IfSome (tells t.file) (λ bytes. file_then t.name (log_judged bytes) (λ read. Ok read.1) ≡ Ok writes)
    → AllByRecursion IsWrite writes → now.faults ≤ after.faults → after.reads ≡ count_after 1 now.reads → AreLogsLeft tells last all ts more before after
log_read tells last all rest ts t done more writes before now after p rests this pushed judged lawful risen read =
    subst (λ ws. AreLogsLeft tells last all ts ws before after) (sym pushed) (left (subst (λ left. AreLogsLeft tells last all left done before now) rests p))
  where
    left : AreLogsLeft tells last all (t ∷ ts) done before now → AreLogsLeft tells last all ts (done ++ writes ∷ []) before after
    left q = record {
      gates = gates_behind tells t ts q.gates;
      told = λ told. told_behind tells t ts (q.told told);
      judged = λ told.
          let some = told_first tells t ts (q.told told) in
          let test = tested tells last t some (gate_first tells t ts q.gates) in
          let yes : is_open_file (unwrap_or (tells t.file) []) && is_above last t.name ≡ true = cc in
          let is = told_holds (λ bytes. file_then t.name (log_judged bytes) (λ read. Ok read.1) ≡ Ok writes) (tells t.file) some judged in
          let next = read_then t.name (log_judged (unwrap_or (tells t.file) [])) writes (λ ws. logs_judged last (done ++ ws ∷ []) (picture_in tells ts)) is in
          let was = subst (λ (is : Bool). logs_judged last [] (picture_in tells all) ≡ (if is then file_then t.name (log_judged (unwrap_or (tells t.file) [])) (λ read. logs_judged last (done ++ read.1 ∷ []) (picture_in tells ts)) else logs_judged last done (picture_in tells ts)))
          yes (q.judged told) in
          subst (λ r. logs_judged last [] (picture_in tells all) ≡ r) next was;
      among = λ u member. q.among u (member_further t ts u member);
      lawful = All-push (AllByRecursion IsWrite) done writes q.lawful lawful;
      each =
          let was = subst (λ is. length done + length (cond is (t ∷ filter (is_log last) ts) (filter (is_log last) ts)) ≡ length (filter (is_log last) all)) this q.each in
          let more = length-append done (writes ∷ []) in
          omega (arith, was, more);
      faults = omega (arith, q.faults, risen);
      reads =
          let was = subst (λ is. count_after (length (cond is (t ∷ filter (is_log last) ts) (filter (is_log last) ts))) now.reads ≡ count_after (length (filter (is_log last) all)) before.reads) this q.reads in
          let moves = count_moves (length (filter (is_log last) ts)) now.reads in
          let here = ap (λ m. count_after (length (filter (is_log last) ts)) m) read in
          cc;
    }

refused_then : (X Y : Type 0) (view : Y → List (List Write)) (cause : FilesCause) (name : FileName) (judged : Result (LogHead × List Write) Damage) (next : LogHead × List Write → Result (List (List Write)) Refusal) (same : X → List Write)
    → Answers {X = X} same (Err cause) (file_then name judged (λ read. Ok read.1)) → Answers {X = Y} view (Err cause) (file_then name judged next)
refused_then X Y view Disk name judged next same is = tt
refused_then X Y view Memory name judged next same is = tt
refused_then X Y view (Damaged (Bytes file place bytes)) name (Ok read) next same is = absurd (cc)
refused_then X Y view (Damaged (Bytes file place bytes)) name (Err d) next same is = cc
refused_then X Y view (Damaged (Files names)) name (Ok read) next same is = absurd (cc)
refused_then X Y view (Damaged (Files names)) name (Err d) next same is = cc
refused_then X Y view (Layout found found_of) name (Ok read) next same is = absurd (cc)
refused_then X Y view (Layout found found_of) name (Err d) next same is = cc

pub log_refused : (Y : Type 0) (view : Y → List (List Write)) {F W : Type 0} (tells : F → Option (List ℕ)) (last : ℕ) (all rest ts : List (Taken F W)) (t : Taken F W) (done : List (List Write)) (before now : Counts) (cause : FilesCause)
    → AreLogsLeft tells last all rest done before now → rest ≡ t ∷ ts → is_log last t ≡ true → IfSome (tells t.file) (λ bytes. Answers same_writes (Err cause) (file_then t.name (log_judged bytes) (λ read. Ok read.1))) → AreTold tells all
    → Answers view (Err cause) (logs_judged last [] (picture_in tells all))
log_refused Y view tells last all rest ts t done before now cause p rests this refuses told = refused (subst (λ left. AreLogsLeft tells last all left done before now) rests p)
  where
    refused : AreLogsLeft tells last all (t ∷ ts) done before now → Answers view (Err cause) (logs_judged last [] (picture_in tells all))
    refused q =
        let some = told_first tells t ts (q.told told) in
        let test = tested tells last t some (gate_first tells t ts q.gates) in
        let yes : is_open_file (unwrap_or (tells t.file) []) && is_above last t.name ≡ true = cc in
        let here = told_holds (λ bytes. Answers same_writes (Err cause) (file_then t.name (log_judged bytes) (λ read. Ok read.1))) (tells t.file) some refuses in
        let was = subst (λ (is : Bool). logs_judged last [] (picture_in tells all) ≡ (if is then file_then t.name (log_judged (unwrap_or (tells t.file) [])) (λ read. logs_judged last (done ++ read.1 ∷ []) (picture_in tells ts)) else logs_judged last done (picture_in tells ts)))
        yes (q.judged told) in
        subst (λ r. Answers view (Err cause) r) (sym was)
        (refused_then (List Write) Y view cause t.name (log_judged (unwrap_or (tells t.file) [])) (λ read. logs_judged last (done ++ read.1 ∷ []) (picture_in tells ts)) same_writes here)

-- where memory was wanting, no fault is answered
pub counted_memory : {T : Type 0} (result : Result T FilesCause) (times : ℕ) (before now after : Counts) → IsErrAnd result (λ cause. cause ≡ Memory) → before.faults ≤ now.faults → now.faults ≤ after.faults
    → IsCountedTimes (IsErrOf result Disk) (IsOk result) times before after
counted_memory (Ok x) times before now after wanting risen more = absurd wanting
counted_memory (Err cause) times before now after wanting risen more = record {
  faults = omega (arith, risen, more);
  cause = λ failed. absurd (cc);
  done = λ done. absurd (cc);
}

pub logs_counted : {F W : Type 0} (tells : F → Option (List ℕ)) (last : ℕ) (all rest : List (Taken F W)) (done : List (List Write)) (before now : Counts) → AreLogsLeft tells last all rest done before now → rest ≡ []
    → now.reads ≡ count_after (length (filter (is_log last) all)) before.reads
logs_counted tells last all rest done before now p nothing =
    subst (λ left. count_after (length (filter (is_log last) left)) now.reads ≡ count_after (length (filter (is_log last) all)) before.reads) nothing p.reads

pub logs_each : {F W : Type 0} (tells : F → Option (List ℕ)) (last : ℕ) (all rest : List (Taken F W)) (done : List (List Write)) (before now : Counts) → AreLogsLeft tells last all rest done before now → rest ≡ []
    → length done ≡ length (filter (is_log last) all)
logs_each tells last all rest done before now p nothing =
    let all_done : length done + 0 ≡ length (filter (is_log last) all) = subst (λ left. length done + length (filter (is_log last) left) ≡ length (filter (is_log last) all)) nothing p.each in
    omega (arith, all_done)

pub log_damage : {X F W : Type 0} (size : F → ℕ) (t : Taken F W) (judged : Result X ReadFault) (fault : ReadFault) (cause : FilesCause) → IsOfRead t.name fault cause
    → IfDamaged judged (λ place bytes. (whole : List ℕ) × (length whole ≡ size t.file) × (log_judged whole ≡ Err (damage place bytes))) → judged ≡ Err fault → IsLogDamage size t cause
log_damage size t (Ok x) fault cause of_read damaged was = absurd (cc)
log_damage size t (Err unread) fault cause of_read damaged was = subst (IsLogDamage size t) (sym (let same : fault ≡ unread = cc in subst (λ f. IsOfRead t.name f cause) same of_read)) tt
log_damage size t (Err (broken place bytes)) fault cause of_read damaged was =
    subst (IsLogDamage size t) (sym (let same : fault ≡ broken place bytes = cc in subst (λ f. IsOfRead t.name f cause) same of_read)) (refl, damaged)
log_damage size t (Err no_memory) fault cause of_read damaged was = subst (IsLogDamage size t) (sym (let same : fault ≡ no_memory = cc in subst (λ f. IsOfRead t.name f cause) same of_read)) tt

pub damage_of_all : {F W : Type 0} (size : F → ℕ) (last : ℕ) (all : List (Taken F W)) (t : Taken F W) (cause : FilesCause) → Contains all t → is_log last t ≡ true → IsLogDamage size t cause → IsLogCause size last all cause
damage_of_all size last all t Disk member this is = tt
damage_of_all size last all t (Damaged damage) member this is = (t, member, this, is)
damage_of_all size last all t (Layout found found_of) member this is = is
damage_of_all size last all t Memory member this is = tt
