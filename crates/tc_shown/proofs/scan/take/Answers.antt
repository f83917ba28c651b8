use Rattle.std.proofs.Common.{refl}
use Rattle.tc_shown.proofs.scan.take.Goals as goal

pub returns-clause-taken : goal.returns-clause-taken
returns-clause-taken g c = record { lens = c.snapshot.ensures.lens; seen = c.snapshot.ensures.seen; watch = refl }
