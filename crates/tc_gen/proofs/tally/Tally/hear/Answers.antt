use Rattle.std.proofs.Common.{arith}
use Rattle.std.specs.Prelude.{Some, None}
use Rattle.tc_lines.specs.Holding.{HasFeedAt}
use Rattle.tc_lines.proofs.FeedLemmas.{first_feed}
use Rattle.tc_gen.proofs.Hearing.{hears_all, hears_next, hears_none}
use Rattle.tc_gen.proofs.tally.Tally.hear.Goals as goal

pub loop-end-init : goal.loop-end-init
loop-end-init c = (omega arith, λ replies more may. hears_none replies more c.args.self.now c.args.lines.now may)

pub overflow_add-end : goal.overflow_add-end
overflow_add-end c = omega (arith, c.in-Some.ensures.0.high, c.loop-end.invariant.0)

pub loop-end-preserved : goal.loop-end-preserved
loop-end-preserved c = (
  omega (arith, c.split_at.ensures.back_len, c.loop-end.invariant.0),
  λ replies more may.
      let at : HasFeedAt c.loop-end.rest.now c.in-Some.end = first_feed c.loop-end.rest.now (Some c.in-Some.end) c.in-Some.ensures in
      rw (c.split_at.ensures.back, c.in_ok-hear_line.ensures, c.split_at.ensures.front)
      (hears_next replies more c.loop-end.rest.now c.loop-end.self c.in-Some.end may.1 at (c.loop-end.invariant.1 replies more may)),
)

pub returns : goal.returns
returns c = λ replies more old few lines.
    hears_all replies more c.loop-end.rest.now c.loop-end.self (first_feed c.loop-end.rest.now None c.in_default.ensures) (c.loop-end.invariant.1 replies more (old, few, lines))
