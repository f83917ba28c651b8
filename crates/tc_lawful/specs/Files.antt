-- What an opening does not look at, and what makes the files that it reads lawful.
use Rattle.std.specs.Prelude.{◌≡◌, ◌<◌, ℕ, List, length, Ok, All}
use Rattle.tc_bytes.specs.Codec.{IsBytes}
use Rattle.tc_store.specs.declared.file_name.FileName.TheVariants.{Component, Log}
use Rattle.tc_store.specs.Disk.{Picture, bytes_at}
use Rattle.tc_component.specs.Layout.{number_end}
use Rattle.tc_component.specs.Reading.{front_of}
use Rattle.tc_log.specs.declared.head.LogHead.{LogHead}
use Rattle.tc_log.specs.declared.write.Write.{Write as LogWrite}
use Rattle.tc_log.specs.Reading.{log_judged}
use Rattle.tc_log.specs.Spelling.{Means}
use Rattle.tc_plain_model.specs.Writes.{Write}
use Rattle.tc_lsm_model.specs.Contents.{Content, Partition}
use Rattle.tc_lsm_model.specs.Lists.{IsList}
use Rattle.tc_machine.specs.Components.{LeavesComponent, file_of}
use Rattle.tc_machine.specs.Logs.{all_writes}
use Rattle.tc_machine.specs.Pictures.{IfOpen, recovered}
use Rattle.tc_machine.specs.Writes.{AreFew, HasRoom, IsStorableWrite}
use Rattle.tc_recover.specs.Lawful.{found_of}
use Rattle.tc_recover.specs.Opening.{Found}

-- ---- files of bytes

-- what is judged of the bytes of a log is what they mean
abbrev pub IsMeant : List ℕ → Type 0
IsMeant bytes = (head : LogHead) (writes : List LogWrite) → log_judged bytes ≡ Ok (head, writes) → Means bytes head writes

-- What is read of open files is bytes: of each component its header, and the logs above a generation. No component is longer
-- than a file may be.
pub record IsReadable (picture : Picture) (last : ℕ) : Type 0 where
  pub heads : (from to : ℕ) → IfOpen picture (Component from to) (λ bytes. IsBytes (front_of bytes) × (length bytes < number_end))
  pub logs : (generation : ℕ) → last < generation → IfOpen picture (Log generation) IsMeant

-- ---- what was read

-- What was read is what these contents and logs have, all of it is lawful, and there is room for what is stored in them.
pub record IsWhole (part : Partition) (picture : Picture) (found : Found) (cs : List Content) (logs : List (List Write)) : Type 0 where
  pub found_is : found ≡ found_of (bytes_at picture) cs logs
  pub list : IsList part cs
  pub there : All (λ c. LeavesComponent c (bytes_at picture (file_of c))) cs
  pub writes : All IsStorableWrite (all_writes logs)
  pub room : HasRoom (recovered cs logs).pairs
  pub few : AreFew (recovered cs logs).taken
