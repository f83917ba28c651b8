-- What is read of the files of a partition that is opened, or the first refusal.
use Rattle.std.specs.Prelude.{◌≡◌, ◌⊎◌, ◌↔◌, Contains, filter, map, ℕ, List, [], Option, None, Some, Result, Ok, Err}
use Rattle.std.specs.List.Sorted.{IsStrictlySortedBy}
use Rattle.tc_store.specs.declared.file_name.FileName.{FileName}
use Rattle.tc_store.specs.declared.damage.Damage.TheVariants.{Bytes, Files}
use Rattle.tc_store.specs.Disk.{Disk, Picture, IsThere}
use Rattle.tc_store.specs.Gate.{is_open_file}
use Rattle.tc_store.specs.Moments.{IfTold}
use Rattle.tc_store.specs.Judging.{damage}
use Rattle.tc_store.specs.NameOrder.{name_cmp}
use Rattle.tc_log.specs.declared.write.Write.{Write}
use Rattle.tc_lsm_model.specs.Contents.{Partition}
use Rattle.tc_component.specs.Loading.{ComponentState, index_in}
use Rattle.tc_component.specs.Spelling.{Index}
use Rattle.tc_recover.specs.declared.cause.FilesCause.{FilesCause}
use Rattle.tc_recover.specs.declared.cause.FilesCause.TheVariants.{Damaged, Layout}
use Rattle.tc_recover.specs.declared.interval.Interval.{Interval}
use Rattle.tc_recover.specs.declared.taken.Taken.{Taken}
use Rattle.tc_list.specs.Intervals.{last_of}
use Rattle.tc_recover.specs.Files.{AreBytes, AreGates, AreNamed, AreTold, names_in, picture_at, picture_in, takes_all}
use Rattle.tc_recover.specs.Loading.{IsLoadCause, components_judged, files_of, interval_of, left_of, then_judged}
use Rattle.tc_recover.specs.Loads.{IsLogCause, logs_judged}
use Rattle.tc_recover.specs.Refusals.{IsHeadCause, Refusal, breaks, strays, clashes, heads_refused}
use Rattle.tc_recover.specs.Sorting.{GoTogether, IsClash, open_names}
use Rattle.tc_recover.specs.Tilings.{end_of}

-- the components that count, the oldest first, and the writes of each log above them
pub record Found : Type 0 where
  pub components : List Index
  pub logs : List (List Write)

-- ---- judging

-- the names of the open files
abbrev pub open_in : Picture → List FileName
open_in picture = map (λ file. file.0) (filter (λ file. is_open_file file.1) picture)

-- what is read where the components that count have these intervals: components come before logs
abbrev pub tiles_judged : Partition → Picture → List Interval → Result Found Refusal
tiles_judged part picture tiles =
    then_judged (components_judged part picture tiles [] []) (λ cs. then_judged (logs_judged (end_of 0 tiles) [] picture) (λ logs. Ok (record { components = cs; logs = logs })))

-- of open files that go together what is read of them, and of others their names
abbrev pub SortedJudged : Partition → Picture → Result Found Refusal → Type 0
SortedJudged part picture answer =
    ((tiles : List Interval) × GoTogether (open_in picture) tiles × (answer ≡ tiles_judged part picture tiles))
    ⊎ (((tiles : List Interval) → GoTogether (open_in picture) tiles → ⊥) × (answer ≡ Err (clashes (open_in picture))))

abbrev pub HeadsThen : Option Refusal → Result Found Refusal → Type 0 → Type 0
HeadsThen (Some refusal) answer P = answer ≡ Err refusal
HeadsThen None answer P = P

-- the answer of opening a picture, whose names ascend: headers come first, then how the open files go together
abbrev pub OpeningJudged : Partition → Picture → Result Found Refusal → Type 0
OpeningJudged part picture answer = HeadsThen (heads_refused part picture) answer (SortedJudged part picture answer)

-- the answer of opening all files of a disk, in the order of their names
abbrev pub DiskJudged : Partition → Disk → Result Found Refusal → Type 0
DiskJudged part disk answer =
    (names : List FileName) × ((name : FileName) → Contains names name ↔ IsThere (disk name)) × IsStrictlySortedBy name_cmp names × OpeningJudged part (picture_at disk names) answer

-- What is answered, seen by view, is judged so. Of a fault of the disk and of want of memory nothing is said here.
abbrev pub AnswersBy : {X Y : Type 0} → (X → Y) → Result X FilesCause → (Result Y Refusal → Type 0) → Type 0
AnswersBy view (Ok x) P = P (Ok (view x))
AnswersBy view (Err (Damaged (Bytes file place bytes))) P = P (Err (breaks file (damage place bytes)))
AnswersBy view (Err (Damaged (Files names))) P = P (Err (clashes names))
AnswersBy view (Err (Layout found found_of)) P = P (Err (strays found found_of))
AnswersBy _ _ _ = Unit {0}

-- what is read of these components, with the writes of logs
abbrev pub found_in : {F : Type 0} → List (ComponentState F) → List (List Write) → Found
found_in list logs = record { components = map index_in list; logs = logs }

-- ---- what was read

-- The components are those of the files that count, and the other files are left, each in its order. The last generation is
-- that of the newest component, or 0.
pub record IsReadOf {F W : Type 0} (files : List (Taken F W)) (list : List (ComponentState F)) (left : List (Taken F W)) (last : ℕ) : Type 0 where
  pub together : GoTogether (open_names files) (map interval_of list)
  pub last_is : last ≡ last_of list
  pub files_are : map (λ c. c.file) list ≡ files_of (map interval_of list) files
  pub left_are : left ≡ left_of (map interval_of list) files

-- All files of a store were taken, in the order of their names, and nothing else changed. Where the store tells its files,
-- these tell what it had.
pub record AreAllTaken {F W : Type 0} (content : F → Option (List ℕ)) (name : F → FileName) (files : List (Taken F W)) (old new : List Disk) : Type 0 where
  pub taken : new ≡ takes_all (names_in files) old
  pub ascend : IsStrictlySortedBy name_cmp (names_in files)
  pub named : AreNamed name files
  pub gates : AreGates content files
  pub bytes : AreBytes content files
  pub exact : IfTold old (λ disk. (n : FileName) → Contains (names_in files) n ↔ IsThere (disk n))
  pub told : IfTold old (λ disk. AreTold content files)
  pub picture : IfTold old (λ disk. picture_in content files ≡ picture_at disk (names_in files))

-- ---- causes, also of files that tell nothing

-- a component that counts, or a log above them
pub record IsCountingCause {F W : Type 0} (size : F → ℕ) (part : Partition) (files : List (Taken F W)) (cause : FilesCause) : Type 0 where
  pub tiles : List Interval
  pub together : GoTogether (open_names files) tiles
  pub harm : IsLoadCause size part tiles files cause ⊎ IsLogCause size (end_of 0 tiles) (left_of tiles files) cause

-- a header, files that do not go together, or one of those that are read whole
abbrev pub IsReadCause : {F W : Type 0} → (F → ℕ) → Partition → List (Taken F W) → FilesCause → Type 0
IsReadCause size part files cause = IsHeadCause size part files cause ⊎ (IsClash (open_names files) cause ⊎ IsCountingCause size part files cause)
