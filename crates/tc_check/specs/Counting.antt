-- The count of documents while writes lie over components, one after the other.
use Rattle.std.specs.Prelude.{◌≡◌, ℕ, List, ◌++◌, length, map, flat_map, is_some, unwrap_or}
use Rattle.std.specs.List.{AllZip}
use Rattle.tc_log.specs.declared.write.Write.{Write as LogWrite}
use Rattle.tc_model.specs.Keyed.{value_of}
use Rattle.tc_plain_model.specs.Writes.{Pairs, Write, after_writes}
use Rattle.tc_lsm_model.specs.Contents.{Content, Partition}
use Rattle.tc_lsm_model.specs.Lists.{IsList, live}
use Rattle.tc_component.specs.Loading.{ComponentState}
use Rattle.tc_list.specs.Contents.{Shows}
use Rattle.tc_machine.specs.Logs.{kept_write}
use Rattle.tc_check.specs.declared.counting.Counting.{Counting}

-- the writes of all logs, the oldest first
abbrev pub writes_in : List (List LogWrite) → List LogWrite
writes_in logs = flat_map (λ writes. writes) logs

-- so many documents are stored once these writes lie over pairs, and a key has one where the last write to it says so, or else
-- where it has one among the pairs
pub record IsCount (pairs : Pairs) (writes : List Write) (counting : Counting) : Type 0 where
  pub documents_are : counting.documents ≡ length (after_writes pairs writes)
  pub written_are : (key : ℕ) → is_some (value_of key (after_writes pairs writes)) ≡ unwrap_or (value_of key counting.written.entries) (is_some (value_of key pairs))

-- over what components have that show contents, the count goes on by what these writes keep
abbrev pub CountsOver : {F : Type 0} → List (ComponentState F) → List LogWrite → Counting → Counting → Type 0
CountsOver list writes old new =
    (part : Partition) (cs : List Content) (before ws : List Write) → IsList part cs → AllZip Shows list cs → writes ≡ map kept_write ws → IsCount (live cs) before old → IsCount (live cs) (before ++ ws) new
