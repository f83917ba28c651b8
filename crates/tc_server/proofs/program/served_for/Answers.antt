use Rattle.std.proofs.Common.{sym}
use Rattle.tc_server.proofs.program.served_for.Goals as goal

-- what is said of the words as they were given, by what was said of their slice
pub returns-in-Ok-clause-cause : goal.returns-in-Ok-clause-cause
returns-in-Ok-clause-cause g c = rw (c.in-Ok.is, sym c.as_slice.ensures.value) c.serve.ensures.cause
