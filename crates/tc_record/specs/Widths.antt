-- How many bytes a number of a column takes.
use Rattle.std.specs.Prelude.{ℕ}
use Rattle.tc_record.specs.declared.widths.Width.{Width}
use Rattle.tc_record.specs.declared.widths.Width.TheVariants.{Zero, One, Two, Four}

abbrev pub width_bytes : Width → ℕ
width_bytes Zero = 0
width_bytes One = 1
width_bytes Two = 2
width_bytes Four = 4
