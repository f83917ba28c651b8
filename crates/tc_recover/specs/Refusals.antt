-- What is refused of the files of a partition, by their names and bytes.
use Rattle.std.specs.Prelude.{◌≡◌, Contains, length, true, ℕ, List, [], ◌∷◌, Option, None, Some, Result, Ok, Err, if◌then◌else◌, ◌==◌, ◌&&◌}
use Rattle.std.specs.Option.{option_or}
use Rattle.tc_store.specs.declared.file_name.FileName.{FileName}
use Rattle.tc_store.specs.declared.file_name.FileName.TheVariants.{Component, Log}
use Rattle.tc_store.specs.declared.damage.Damage.TheVariants.{Bytes, Files}
use Rattle.tc_store.specs.Disk.{Picture}
use Rattle.tc_store.specs.Gate.{is_open_file}
use Rattle.tc_store.specs.Judging as judging
use Rattle.tc_lsm_model.specs.Contents.{Partition}
use Rattle.tc_component.specs.Reading as component
use Rattle.tc_log.specs.Reading as log
use Rattle.tc_recover.specs.declared.cause.FilesCause.{FilesCause}
use Rattle.tc_recover.specs.declared.taken.Taken.{Taken}
use Rattle.tc_recover.specs.declared.heads.Partition.{Partition as Asked}
use Rattle.tc_recover.specs.declared.cause.FilesCause.TheVariants.{Damaged, Layout}

pub data Refusal : Type 0 where
  -- bytes of a file that break the rules, at their place
  breaks : FileName → judging.Damage → Refusal
  -- a file of another partition, or of another count of them
  strays : ℕ → ℕ → Refusal
  -- files that do not go together
  clashes : List FileName → Refusal

-- the partition that is asked for
abbrev pub asked : Asked → Partition
asked part = record { number = part.number; count = part.count }

-- ---- headers

abbrev pub refused_then : {A : Type 0} → FileName → Result A judging.Damage → (A → Option Refusal) → Option Refusal
refused_then name (Ok x) f = f x
refused_then name (Err d) f = Some (breaks name d)

-- the numbers that a file keeps are not those of the partition
abbrev pub stray : Partition → ℕ → ℕ → Option Refusal
stray part number count = if (number == part.number) && (count == part.count) then None else Some (strays number count)

-- the header of an open file: the damage of its bytes first, and then its numbers
abbrev pub head_refused : Partition → FileName → List ℕ → Option Refusal
head_refused part (Component from to) bytes = refused_then (Component from to) (component.head_judged (Component from to) bytes) (λ h. stray part h.number h.count)
head_refused part (Log generation) bytes = refused_then (Log generation) (log.front_judged generation (log.front_of bytes)) (λ h. stray part h.number h.count)

abbrev pub file_refused : Partition → FileName × List ℕ → Option Refusal
file_refused part file = if is_open_file file.1 then head_refused part file.0 file.1 else None

-- the first open file whose header is refused
abbrev pub heads_refused : Partition → Picture → Option Refusal
heads_refused part [] = None
heads_refused part (file ∷ files) = option_or (file_refused part file) (heads_refused part files)

-- ---- answering

-- What is answered is what is refused, and where it is Ok there is nothing. Of a fault of the disk and of want of memory
-- nothing is said here.
abbrev pub Refuses : {X : Type 0} → Result X FilesCause → Option Refusal → Type 0
Refuses (Ok x) refused = refused ≡ None
Refuses (Err (Damaged (Bytes file place bytes))) refused = refused ≡ Some (breaks file (judging.damage place bytes))
Refuses (Err (Damaged (Files names))) refused = refused ≡ Some (clashes names)
Refuses (Err (Layout found found_of)) refused = refused ≡ Some (strays found found_of)
Refuses _ _ = Unit {0}

-- ---- causes, also of files that tell nothing

-- bytes that are no header of an open file of this name: those at the place in some whole of its length
pub record BreaksHead {F W : Type 0} (size : F → ℕ) (part : Partition) (files : List (Taken F W)) (name : FileName) (place : ℕ) (bytes : List ℕ) : Type 0 where
  pub file : Taken F W
  pub there : Contains files file
  pub is_open : file.open ≡ true
  pub named : file.name ≡ name
  pub whole : List ℕ
  pub sized : length whole ≡ size file.file
  pub refused : head_refused part name whole ≡ Some (breaks name (judging.damage place bytes))

-- bytes of one of these files, or numbers that are others
abbrev pub IsHeadCause : {F W : Type 0} → (F → ℕ) → Partition → List (Taken F W) → FilesCause → Type 0
IsHeadCause size part files (Damaged (Bytes name place bytes)) = BreaksHead size part files name place bytes
IsHeadCause size part files (Damaged (Files names)) = ⊥
IsHeadCause size part files (Layout found found_of) = stray part found found_of ≡ Some (strays found found_of)
IsHeadCause _ _ _ _ = Unit {0}
