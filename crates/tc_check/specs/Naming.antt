-- Writes of logs, put into a memory table that lies over nothing, and the names of what they set.
use Rattle.std.specs.Prelude.{◌≡◌, ◌↔◌, Bool, List, [], All, IsTrue, fold, map}
use Rattle.tc_model.specs.Document.{Name}
use Rattle.tc_log.specs.declared.write.Write.{Write as LogWrite}
use Rattle.tc_memory.specs.DocumentTables.{IsTableOf}
use Rattle.tc_memory.specs.Table as memory
use Rattle.tc_plain_model.specs.Store.{names_after}
use Rattle.tc_plain_model.specs.Writes.{Write}
use Rattle.tc_lsm_model.specs.Tables.{Table, shape_in, table_with}
use Rattle.tc_machine.specs.Logs.{all_writes, kept_write}
use Rattle.tc_machine.specs.Writes.{AreFew, IsStorableWrite}

-- a table of documents becomes the one that the writes make of it
abbrev pub PutsIn : List LogWrite → memory.Table → memory.Table → Type 0
PutsIn writes old new = (t : Table) (ws : List Write) → writes ≡ map kept_write ws → All IsStorableWrite ws → IsTableOf t old → IsTableOf (fold (table_with (shape_in [])) t ws) new

-- whether a dictionary has room for the names of what logs set last at their keys, where they keep writes that a partition makes
abbrev pub FitBehind : List (List LogWrite) → List Name → Bool → Type 0
FitBehind logs names fit = (kept : List (List Write)) → logs ≡ map (map kept_write) kept → All IsStorableWrite (all_writes kept) → IsTrue fit ↔ AreFew (names_after names (all_writes kept))
