-- What a stream that keeps its last error holds.
use Rattle.std.specs.Prelude.{Option}
use Rattle.std.specs.declared.io.Error.{Error}
use Rattle.tc_reasons.specs.declared.kept.Kept.{Kept}

-- the stream
abbrev pub stream_of : {S : Type 0} → Kept S → S
stream_of s = s.inner

-- why the last call failed of those that did
abbrev pub error_of : {S : Type 0} → Kept S → Option Error
error_of s = s.last_error
