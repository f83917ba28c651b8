-- Writes of which one makes a frame.
use Rattle.std.specs.Prelude.{◌<◌, ◌^◌, length}
use Rattle.tc_log.specs.declared.write.Write.{Write}
use Rattle.tc_log.specs.Spelling.{entry_bytes}
use Rattle.tc_log.specs.Writes.{IsWrite}

pub record IsShortWrite (write : Write) : Type 0 where
  pub lawful : IsWrite write
  pub short : length (entry_bytes write) < 2 ^ 32
