-- Which pictures of a partition's files are lawful, what is stored in them, and how long their logs are.
use Rattle.std.specs.Prelude.{◌≡◌, ◌≤◌, ◌⊎◌, ℕ, ◌+◌, true, List, [], ◌∷◌, length, Some, None, All}
use Rattle.tc_store.specs.declared.file_name.FileName.{FileName}
use Rattle.tc_store.specs.declared.file_name.FileName.TheVariants.{Component, Log}
use Rattle.tc_store.specs.Disk.{Picture, bytes_at}
use Rattle.tc_store.specs.Gate.{is_open_file}
use Rattle.tc_store.specs.Images.{Image}
use Rattle.tc_plain_model.specs.Writes.{Pairs, Write}
use Rattle.tc_plain_model.specs.Store.{Store, reopened}
use Rattle.tc_lsm_model.specs.Contents.{Partition, Content}
use Rattle.tc_lsm_model.specs.Lists.{Covers, live, names_of, last_of, IsList}
use Rattle.tc_machine.specs.Writes.{IsStorableWrite, HasRoom, AreFew}
use Rattle.tc_machine.specs.Logs.{IsLog, HasLogHead, all_writes}
use Rattle.tc_machine.specs.Components.{file_of, LeavesComponent, HasComponentHead}

-- what is stored in components and in the logs above them
abbrev pub recovered : List Content → List (List Write) → Store
recovered cs logs = reopened (live cs) (names_of cs) (all_writes logs)

-- an open file of this name holds what P says
abbrev pub IfOpen : Picture → FileName → (List ℕ → Type 0) → Type 0
IfOpen picture name P = (bytes : List ℕ) → bytes_at picture name ≡ Some bytes → is_open_file bytes ≡ true → P bytes

-- the logs from a generation on: these, and no open one behind them
abbrev pub HasLogs : Partition → Picture → ℕ → List (List Write) → Type 0
HasLogs part picture generation [] = (g : ℕ) → generation ≤ g → IfOpen picture (Log g) (λ bytes. ⊥)
HasLogs part picture generation (ws ∷ logs) =
    ((bytes : List ℕ) × (bytes_at picture (Log generation) ≡ Some bytes) × IsLog part generation ws bytes) × HasLogs part picture (generation + 1) logs

-- A picture opens as these components, the oldest first, and these logs. Each open file has its header. Each open
-- component lies within one of these, and the open logs above them follow each other. These files are whole.
pub record Opens (part : Partition) (picture : Picture) (cs : List Content) (logs : List (List Write)) : Type 0 where
  pub list : IsList part cs
  pub there : All (λ c. LeavesComponent c (bytes_at picture (file_of c))) cs
  pub components : (from to : ℕ) → IfOpen picture (Component from to) (λ bytes. HasComponentHead part from to bytes × Covers cs from to)
  pub heads : (generation : ℕ) → IfOpen picture (Log generation) (HasLogHead part generation)
  pub logs_there : HasLogs part picture (last_of cs + 1) logs
  pub writes : All IsStorableWrite (all_writes logs)
  pub room : HasRoom (recovered cs logs).pairs
  pub few : AreFew (recovered cs logs).taken

-- how many bytes a file has, where it is there
abbrev pub image_size : Image → ℕ
image_size None = 0
image_size (Some bytes) = length bytes

-- how many bytes the files of logs have together, of which the first is of this generation
abbrev pub logs_size : Picture → ℕ → List (List Write) → ℕ
logs_size picture generation [] = 0
logs_size picture generation (ws ∷ logs) = image_size (bytes_at picture (Log generation)) + logs_size picture (generation + 1) logs

pub record IsLawful (part : Partition) (picture : Picture) : Type 0 where
  pub contents : List Content
  pub logs : List (List Write)
  pub opens : Opens part picture contents logs

-- the picture is lawful, and P holds of the documents that are stored in it
pub record Recovers (part : Partition) (picture : Picture) (P : Pairs → Type 0) : Type 0 where
  pub lawful : IsLawful part picture
  pub holds : P (recovered lawful.contents lawful.logs).pairs

-- no other open component has an interval around this one
pub record IsMaximal (picture : Picture) (from to : ℕ) : Type 0 where
  pub alone : (f t : ℕ) (bytes : List ℕ) → bytes_at picture (Component f t) ≡ Some bytes → is_open_file bytes ≡ true → f ≤ from → to ≤ t → (f ≡ from) × (t ≡ to)

-- one of these contents has this interval
abbrev pub IsListed : List Content → ℕ → ℕ → Type 0
IsListed [] from to = ⊥
IsListed (c ∷ cs) from to = ((c.from ≡ from) × (c.to ≡ to)) ⊎ IsListed cs from to
