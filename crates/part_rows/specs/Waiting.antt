-- Writes that wait for a frame which takes them, however many there are of them below the most.
use Rattle.std.specs.Prelude.{◌≤◌, ◌*◌, ℕ, List, length}
use Rattle.std.specs.List.{AllByRecursion}
use Rattle.tc_log.specs.declared.write.Write.{Write}
use Rattle.tc_log.specs.Spelling.{body_bytes, entry_bytes}
use Rattle.tc_log.specs.Writes.{IsWrite}

-- the bytes of a write in a frame, at most
abbrev pub most_bytes : ℕ
most_bytes = 131072

pub record IsShortWrite (write : Write) : Type 0 where
  pub lawful : IsWrite write
  pub short : length (entry_bytes write) ≤ most_bytes

-- at most so many
pub record AreWaiting (staged : List Write) (count : ℕ) : Type 0 where
  pub each : AllByRecursion IsWrite staged
  pub few : length staged ≤ count
  pub short : length (body_bytes staged) ≤ count * most_bytes
