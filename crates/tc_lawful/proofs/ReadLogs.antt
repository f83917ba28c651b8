-- The logs that were read stand behind each other, and none is open behind them.
use Rattle.std.proofs.Common.{◌≡◌, ◌∙◌, ◌<◌, ◌≤◌, ◌+◌, ℕ, Bool, true, false, List, [], ◌∷◌, ◌++◌, map, Some, Ok, refl, sym, subst, ap, arith, append_assoc, append-nil}
use Rattle.std.specs.Prelude.{◌&&◌, nat_lt}
use Rattle.std.specs.List.{AllByRecursion}
use Rattle.std.specs.List.Sorted.{IsStrictlySortedBy}
use Rattle.std.specs.declared.cmp.Ordering.TheVariants.{Less}
use Rattle.std.proofs.lemmas.Bool.{and_from, and_parts}
use Rattle.std.proofs.lemmas.Bool.Decides.{nat_tests}
use Rattle.std.proofs.lemmas.Map.Keys.{sorted_head, sorted_tail}
use Rattle.std.proofs.lemmas.Option.{same_Some}
use Rattle.tc_store.specs.declared.file_name.FileName.{FileName}
use Rattle.tc_store.specs.declared.file_name.FileName.TheVariants.{Component, Log}
use Rattle.tc_store.specs.Disk.{Picture, bytes_at}
use Rattle.tc_store.specs.Gate.{is_open_file}
use Rattle.tc_store.specs.NameOrder.{name_cmp}
use Rattle.tc_store.proofs.NameLemmas.{same_name-refl}
use Rattle.tc_log.specs.declared.head.LogHead.{LogHead}
use Rattle.tc_log.specs.declared.write.Write.{Write as LogWrite}
use Rattle.tc_log.specs.Reading.{front_of, log_judged}
use Rattle.tc_log.specs.Spelling.{Means}
use Rattle.tc_log.proofs.Logs.{named_front, named_judged}
use Rattle.tc_plain_model.specs.Writes.{Write}
use Rattle.tc_lsm_model.specs.Contents.{Partition}
use Rattle.tc_machine.specs.Logs.{HasLogHead, kept_write, log_head}
use Rattle.tc_machine.specs.Pictures.{HasLogs, IfOpen}
use Rattle.tc_recover.specs.Loads.{file_then, is_above, logs_judged}
use Rattle.tc_recover.specs.Opening.{open_in}
use Rattle.tc_recover.specs.Sorting.{Follow, logs_above}
use Rattle.tc_lawful.specs.Files.{IsMeant}
use Rattle.tc_lawful.proofs.CountedTiles.{file_parts, same_answer}
use Rattle.tc_lawful.proofs.OpenFiles.{at_first, found_apart}
use Rattle.tc_lawful.proofs.SpelledHeads.{log_front_parts}

-- ---- one log

-- a log whose header is that of a generation means writes under that header
same_header : (part : Partition) (generation : ℕ) (bytes : List ℕ) (head : LogHead) (writes : List LogWrite) → HasLogHead part generation bytes → Means bytes head writes → head ≡ log_head part generation
same_header part generation bytes head writes has means =
    let own = log_front_parts generation (front_of bytes) (log_head part generation) has in
    let named = log_front_parts head.generation (front_of bytes) head (named_judged head.generation (front_of bytes) head (named_front bytes head means.frames means.spells)) in
    ap (λ (q : LogHead × List ℕ). q.0) (same_Some (head, named.0) (log_head part generation, own.0) (sym named.1 ∙ own.1))

-- the logs from a generation on mean these writes, and no open one is behind them
abbrev pub MeanLogs : Partition → Picture → ℕ → List (List LogWrite) → Type 0
MeanLogs part picture generation [] = (g : ℕ) → generation ≤ g → IfOpen picture (Log g) (λ bytes. ⊥)
MeanLogs part picture generation (writes ∷ logs) =
    ((bytes : List ℕ) × (bytes_at picture (Log generation) ≡ Some bytes) × Means bytes (log_head part generation) writes) × MeanLogs part picture (generation + 1) logs

-- those of kept writes are the logs of the writes
pub logs_of : (part : Partition) (picture : Picture) (generation : ℕ) (logs : List (List Write)) → MeanLogs part picture generation (map (map kept_write) logs) → HasLogs part picture generation logs
logs_of part picture generation [] mean = mean
logs_of part picture generation (ws ∷ logs) mean = (mean.0, logs_of part picture (generation + 1) logs mean.1)

-- ---- a file before others

-- all files behind this one have later names
abbrev pub IsBefore : FileName × List ℕ → Picture → Type 0
IsBefore file files = AllByRecursion (λ later. name_cmp file.0 later ≡ Less) (map (λ f. f.0) files)

-- the file is no open log from a generation on
abbrev IsNoLog : ℕ → FileName × List ℕ → Type 0
IsNoLog generation file = (g : ℕ) → generation ≤ g → file.0 ≡ Log g → is_open_file file.1 ≡ true → ⊥

-- the first file is found under its name
pub first_found : (file : FileName × List ℕ) (files : Picture) (name : FileName) → file.0 ≡ name → bytes_at (file ∷ files) name ≡ Some file.1
first_found file files name named = subst (λ (n : FileName). bytes_at (file ∷ files) n ≡ Some file.1) named (rw (same_name-refl file.0) refl)

-- what stands behind it is found with it too
pub found_with : (file : FileName × List ℕ) (files : Picture) (name : FileName) (bytes : List ℕ) → IsBefore file files → bytes_at files name ≡ Some bytes → bytes_at (file ∷ files) name ≡ Some bytes
found_with file files name bytes before is = let apart = found_apart file.0 files name bytes before is in rw apart is

mean_with : (part : Partition) (file : FileName × List ℕ) (files : Picture) (generation : ℕ) (logs : List (List LogWrite)) → IsBefore file files → IsNoLog generation file → MeanLogs part files generation logs → MeanLogs part (file ∷ files) generation logs
mean_with part file files generation [] before none mean = λ g from bytes is opened.
    at_first file files (Log g) bytes ⊥ (λ called held. none g from called (ap is_open_file held ∙ opened)) (λ behind. mean g from bytes behind opened) is
mean_with part file files generation (writes ∷ logs) before none mean =
    ((mean.0.0, found_with file files (Log generation) mean.0.0 before mean.0.1, mean.0.2), mean_with part file files (generation + 1) logs before (λ g from. none g (omega (arith, from))) mean.1)

-- a file that is not read as a log changes none of the generations above
same_above : (last : ℕ) (file : FileName × List ℕ) (files : Picture) → is_open_file file.1 && is_above last file.0 ≡ false → logs_above last (open_in (file ∷ files)) ≡ logs_above last (open_in files)
same_above last file files not = cases (is_open_file file.1) refl file.0 refl
  where
    cases : (opened : Bool) → is_open_file file.1 ≡ opened → (name : FileName) → file.0 ≡ name → logs_above last (open_in (file ∷ files)) ≡ logs_above last (open_in files)
    cases false closed name named = rw closed refl
    cases true opened (Component from to) named = rw opened (rw named refl)
    cases true opened (Log generation) named =
        let not_above : true && is_above last file.0 ≡ false = subst (λ (yes : Bool). yes && is_above last file.0 ≡ false) opened not in
        let low : nat_lt last generation ≡ false = subst (λ (n : FileName). is_above last n ≡ false) named not_above in
        rw opened (rw named (rw low refl))

-- one that is read is the first of them
first_above : (last : ℕ) (file : FileName × List ℕ) (files : Picture) (generation : ℕ) → file.0 ≡ Log generation → is_open_file file.1 ≡ true → is_above last file.0 ≡ true → logs_above last (open_in (file ∷ files)) ≡ generation ∷ logs_above last (open_in files)
first_above last file files generation named opened above =
    let high : nat_lt last generation ≡ true = subst (λ (n : FileName). is_above last n ≡ true) named above in
    rw opened (rw named (rw high refl))

-- ---- all of them

-- what was read stands behind what was there before, and is what the logs mean
pub record AreRead (part : Partition) (files : Picture) (generation : ℕ) (before all : List (List LogWrite)) : Type 0 where
  pub more : List (List LogWrite)
  pub behind : all ≡ before ++ more
  pub mean : MeanLogs part files generation more

-- an open log has its header and means what is judged of it
abbrev pub AreLogs : Partition → ℕ → Picture → Type 0
AreLogs part last files = (g : ℕ) → last < g → IfOpen files (Log g) (λ bytes. HasLogHead part g bytes × IsMeant bytes)

is_over : (last h : ℕ) → last < h → is_above last (Log h) ≡ true
is_over last h over = grind (arith, nat_tests)

module _ (part : Partition) (last : ℕ) (file : FileName × List ℕ) (files : Picture) (before : IsBefore file files) (p : ℕ) (from : last ≤ p) (so_far all : List (List LogWrite)) where
  passed_by : is_open_file file.1 && is_above last file.0 ≡ false → AreRead part files (p + 1) so_far all → AreRead part (file ∷ files) (p + 1) so_far all
  passed_by not rest = record { more = rest.more; behind = rest.behind; mean = mean_with part file files (p + 1) rest.more before none rest.mean }
    where
      none : IsNoLog (p + 1) file
      none g above named opened =
          let over : is_above last file.0 ≡ true = subst (λ (n : FileName). is_above last n ≡ true) (sym named) (is_over last g (omega (arith, above, from))) in
          let both = and_from (is_open_file file.1) (is_above last file.0) opened over in
          cc

  read_next : (h : ℕ) → file.0 ≡ Log h → h ≡ p + 1 → (writes : List LogWrite) → Means file.1 (log_head part h) writes → AreRead part files (h + 1) (so_far ++ writes ∷ []) all → AreRead part (file ∷ files) (p + 1) so_far all
  read_next h named next writes means rest = record {
    more = writes ∷ rest.more;
    behind = rest.behind ∙ append_assoc so_far (writes ∷ []) rest.more;
    mean = subst (λ g. MeanLogs part (file ∷ files) g (writes ∷ rest.more)) next ((file.1, first_found file files (Log h) named, means), mean_with part file files (h + 1) rest.more before none rest.mean);
  }
    where
      none : IsNoLog (h + 1) file
      none g above called opened =
          let is : Log h ≡ Log g = sym named ∙ called in
          let equal : h ≡ g = cc in
          omega (arith, above, equal)

pub logs_read : (part : Partition) (last : ℕ) (files : Picture) (p : ℕ) (so_far all : List (List LogWrite)) → IsStrictlySortedBy name_cmp (map (λ file. file.0) files) → last ≤ p → AreLogs part last files → logs_judged last so_far files ≡ Ok all
    → Follow p (logs_above last (open_in files)) → AreRead part files (p + 1) so_far all
logs_read part last [] p so_far all sorted from logs judged follow = record { more = []; behind = same_answer all so_far (sym judged) ∙ sym (append-nil so_far); mean = λ g above bytes is opened. absurd (cc) }
logs_read part last (file ∷ files) p so_far all sorted from logs judged follow =
    cases (is_open_file file.1 && is_above last file.0) refl (λ q such passed behind follows. logs_read part last files q such all later passed logs_behind behind follows)
  where
    names : List FileName
    names = map (λ (f : FileName × List ℕ). f.0) files

    later : IsStrictlySortedBy name_cmp names
    later = sorted_tail name_cmp file.0 names sorted

    before : IsBefore file files
    before = sorted_head name_cmp file.0 names sorted

    logs_behind : AreLogs part last files
    logs_behind g above bytes is opened = logs g above bytes (found_with file files (Log g) bytes before is) opened

    -- the rest, read behind a generation and behind these logs
    Rest : Type 0
    Rest = (q : ℕ) (such : List (List LogWrite)) → last ≤ q → logs_judged last such files ≡ Ok all → Follow q (logs_above last (open_in files)) → AreRead part files (q + 1) such all

    read : (h : ℕ) → file.0 ≡ Log h → is_open_file file.1 ≡ true → is_above last file.0 ≡ true → Rest → AreRead part (file ∷ files) (p + 1) so_far all
    read h named opened above rest =
        let higher : nat_lt last h ≡ true = subst (λ (n : FileName). is_above last n ≡ true) named above in
        let over : last < h = grind (arith, nat_tests) in
        let step : logs_judged last so_far (file ∷ files) ≡ file_then file.0 (log_judged file.1) (λ log. logs_judged last (so_far ++ log.1 ∷ []) files) = rw (and_from (is_open_file file.1) (is_above last file.0) opened above) refl in
        let one = file_parts file.0 (log_judged file.1) _ all (sym step ∙ judged) in
        let follows : Follow p (h ∷ logs_above last (open_in files)) = subst (Follow p) (first_above last file files h named opened above) follow in
        let log = logs h over file.1 (first_found file files (Log h) named) opened in
        let means = log.1 one.0.0 one.0.1 one.1 in
        let header = same_header part h file.1 one.0.0 one.0.1 log.0 means in
        read_next part last file files before p from so_far all h named follows.0 one.0.1 (subst (λ (l : LogHead). Means file.1 l one.0.1) header means) (rest h (so_far ++ one.0.1 ∷ []) (omega (arith, over)) one.2 follows.1)

    named_so : (name : FileName) → file.0 ≡ name → is_open_file file.1 ≡ true → is_above last file.0 ≡ true → Rest → AreRead part (file ∷ files) (p + 1) so_far all
    named_so (Component f t) named opened above rest = absurd (let is : is_above last (Component f t) ≡ true = subst (λ (n : FileName). is_above last n ≡ true) named above in cc)
    named_so (Log h) named opened above rest = read h named opened above rest

    cases : (is : Bool) → is_open_file file.1 && is_above last file.0 ≡ is → Rest → AreRead part (file ∷ files) (p + 1) so_far all
    cases false not rest =
        let step : logs_judged last so_far (file ∷ files) ≡ logs_judged last so_far files = rw not refl in
        passed_by part last file files before p from so_far all not (rest p so_far from (sym step ∙ judged) (subst (Follow p) (same_above last file files not) follow))
    cases true both rest = let parts = and_parts (is_open_file file.1) (is_above last file.0) both in named_so file.0 refl parts.0 parts.1 rest

-- the logs that were read, where they are those that keep writes
pub has_logs : (part : Partition) (picture : Picture) (last : ℕ) (logs : List (List Write)) → IsStrictlySortedBy name_cmp (map (λ file. file.0) picture) → AreLogs part last picture → logs_judged last [] picture ≡ Ok (map (map kept_write) logs)
    → Follow last (logs_above last (open_in picture)) → HasLogs part picture (last + 1) logs
has_logs part picture last logs sorted are judged follow =
    let read = logs_read part last picture last [] (map (map kept_write) logs) sorted (omega arith) are judged follow in
    logs_of part picture (last + 1) logs (subst (MeanLogs part picture (last + 1)) (sym read.behind) read.mean)
