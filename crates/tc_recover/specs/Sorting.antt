-- The open files of a partition, sorted by their generations: which components count, and which logs stand above them.
use Rattle.std.specs.Prelude.{◌≡◌, ◌+◌, ℕ, nat_lt, List, [], ◌∷◌, filter, if◌then◌else◌}
use Rattle.tc_store.specs.declared.file_name.FileName.{FileName}
use Rattle.tc_store.specs.declared.file_name.FileName.TheVariants.{Component, Log}
use Rattle.tc_store.specs.declared.damage.Damage.TheVariants.{Bytes, Files}
use Rattle.tc_recover.specs.declared.cause.FilesCause.{FilesCause}
use Rattle.tc_recover.specs.declared.cause.FilesCause.TheVariants.{Disk, Damaged, Layout, Memory}
use Rattle.tc_recover.specs.declared.interval.Interval.{Interval}
use Rattle.tc_recover.specs.declared.taken.Taken.{Taken}
use Rattle.tc_recover.specs.Files.{names_in}
use Rattle.tc_recover.specs.Tilings.{IsTiling, end_of}

-- the intervals of the components
abbrev pub intervals_of : List FileName → List Interval
intervals_of [] = []
intervals_of (Component from to ∷ names) = record { from = from; to = to } ∷ intervals_of names
intervals_of (Log generation ∷ names) = intervals_of names

-- the generations of the logs above a generation
abbrev pub logs_above : ℕ → List FileName → List ℕ
logs_above last [] = []
logs_above last (Component from to ∷ names) = logs_above last names
logs_above last (Log generation ∷ names) = if nat_lt last generation then generation ∷ logs_above last names else logs_above last names

-- they follow each other from a generation on
abbrev pub Follow : ℕ → List ℕ → Type 0
Follow last [] = Unit {0}
Follow last (generation ∷ generations) = (generation ≡ last + 1) × Follow generation generations

-- The components tile the generations from 1 on, and the logs above them follow each other.
pub record GoTogether (names : List FileName) (tiles : List Interval) : Type 0 where
  pub tiling : IsTiling (intervals_of names) tiles
  pub logs : Follow (end_of 0 tiles) (logs_above (end_of 0 tiles) names)

-- ---- files

-- the names of the open ones
abbrev pub open_names : {F W : Type 0} → List (Taken F W) → List FileName
open_names ts = names_in (filter (λ t. t.open) ts)

-- What is answered where files do not go together: the names of all of them. Of want of memory nothing is said.
abbrev pub IsClash : List FileName → FilesCause → Type 0
IsClash names (Damaged (Files kept)) = (kept ≡ names) × ((tiles : List Interval) → GoTogether names tiles → ⊥)
IsClash names (Damaged (Bytes file place bytes)) = ⊥
IsClash names Disk = ⊥
IsClash names (Layout found found_of) = ⊥
IsClash names Memory = Unit {0}
