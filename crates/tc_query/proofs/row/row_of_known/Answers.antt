use Rattle.std.proofs.Common.{sym, subst}
use Rattle.tc_compact.specs.Meant.{IsRecordUnder}
use Rattle.tc_query.proofs.row.row_of_known.Goals as goal

pub returns : goal.returns
returns c = λ d is. c.row_if_met.ensures d is (c.meets-met.ensures d (subst (λ r. IsRecordUnder c.args.names.now d r.bytes) (sym c.again.ensures) is))
