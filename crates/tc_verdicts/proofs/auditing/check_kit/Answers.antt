use Rattle.std.proofs.Common.{refl, ap}
use Rattle.std.specs.Prelude.{Err}
use Rattle.std.proofs.lemmas.Result.{err_from_is_err_and}
use Rattle.tc_bytes.specs.Counts.{Rose}
use Rattle.tc_verdicts.proofs.Audits.{check_fault}
use Rattle.tc_verdicts.proofs.auditing.check_kit.Goals as goal

pub returns-in_err-put_verdict-in-Ok-clause-kept : goal.returns-in_err-put_verdict-in-Ok-clause-kept
returns-in_err-put_verdict-in-Ok-clause-kept g c =
    let p = err_from_is_err_and c.from_residual.result c.from_residual.ensures.1 in (
      record c.args.kit { store = c.check_part-checked.new.store; main = c.check_part-checked.new.watch },
      c.keep.ensures.items,
      record { files = c.check_part-checked.ensures.files; main = c.check_part-checked.ensures.faults.faults; flusher = refl; merger = refl; reader = refl },
      rw (p.1, p.2) tt,
    )

pub returns-in-Err-clause-kept : goal.returns-in-Err-clause-kept
returns-in-Err-clause-kept g c = (
  record c.args.kit { store = c.check_part-checked.new.store; main = c.check_part-checked.new.watch },
  c.keep.ensures.items,
  record { files = c.check_part-checked.ensures.files; main = c.check_part-checked.ensures.faults.faults; flusher = refl; merger = refl; reader = refl },
  rw c.of_check.ensures (check_fault c.args.part.number (Rose (g.S.Watch.Watch.counts c.args.kit.main).faults (g.S.Watch.Watch.counts c.check_part-checked.new.watch).faults) c.in-Err.fault (λ is. c.in-Err.ensures.faults.cause (ap Err is))),
)
