-- What the sources and sinks over std's readers and writers hold.
use Rattle.std.specs.Prelude.{ℕ}
use Rattle.tc_edge.specs.declared.standard.StdSource.{StdSource}
use Rattle.tc_edge.specs.declared.standard.StdSink.{StdSink}

-- the reader of a source
abbrev pub reader_of : {R : Type 0} → StdSource R → R
reader_of s = s.inner

-- how many reads failed
abbrev pub read_faults : {R : Type 0} → StdSource R → ℕ
read_faults s = s.faults

-- the writer of a sink
abbrev pub writer_of : {W : Type 0} → StdSink W → W
writer_of s = s.inner

-- how many writes failed
abbrev pub write_faults : {W : Type 0} → StdSink W → ℕ
write_faults s = s.faults
