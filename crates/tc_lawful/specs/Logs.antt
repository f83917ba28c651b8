-- The writes that were read of logs, and those that a partition makes.
use Rattle.std.specs.Prelude.{◌≡◌, ◌<◌, ◌^◌, List, length, map, All, IfSome}
use Rattle.tc_log.specs.declared.write.Write.{Write as LogWrite}
use Rattle.tc_log.specs.Writes.{record_in}
use Rattle.tc_plain_model.specs.Writes.{Write}
use Rattle.tc_machine.specs.Logs.{all_writes, kept_write}
use Rattle.tc_machine.specs.Writes.{IsStorableWrite}

-- the record of a write, if it has one, is short enough to be compacted
abbrev pub IsShort : LogWrite → Type 0
IsShort write = IfSome (record_in write) (λ bytes. length bytes < 2 ^ 30)

-- logs keep these of writes that a partition makes
abbrev pub AreStored : List (List LogWrite) → Type 0
AreStored read = (logs : List (List Write)) × (read ≡ map (map kept_write) logs) × All IsStorableWrite (all_writes logs)
