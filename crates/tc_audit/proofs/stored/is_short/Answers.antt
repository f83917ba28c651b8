use Rattle.std.proofs.Common.{refl, subst}
use Rattle.std.specs.List.{AllByRecursion}
use Rattle.tc_record.specs.Record.{labels}
use Rattle.tc_record.specs.Borrowed.{IsBelow}
use Rattle.tc_audit.proofs.stored.is_short.Goals as goal

pub returns-then-is_surely_short : goal.returns-then-is_surely_short
returns-then-is_surely_short c = λ n is.
    let r = c.args.of in
    let known = subst (λ limit. AllByRecursion (IsBelow limit) (labels r.tokens)) c.len.ensures.count (c.numbers_below.ensures.0 c.if-numbers_below.true) in
    (λ yes. (known, c.is_surely_short.ensures c.if-is_surely_short.true n is), λ both. refl)
