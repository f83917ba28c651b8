use Rattle.std.proofs.Common.{sym, subst}
use Rattle.tc_memory.specs.DocumentTables.{IsTableOf}
use Rattle.job_rows.proofs.Answered.{at_ok}
use Rattle.job_rows.proofs.flushes.job_of.Goals as goal

pub new-requires-2-clause-counted : goal.new-requires-2-clause-counted
new-requires-2-clause-counted c κs t table =
    at_ok _ c.counted.result c.in_ok-ok.field-0 c.in_ok-ok.ensures.value c.counted.ensures.can c.if-not-branch.false t (subst (λ kept. IsTableOf t kept) (sym c.deref-table.ensures) table)
