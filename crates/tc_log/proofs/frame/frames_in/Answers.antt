use Rattle.std.proofs.Common.{◌≡◌, ◌∙◌, ◌<◌, ◌+◌, ◌-◌, true, false, length, ap, sym, arith}
use Rattle.std.proofs.lemmas.Result.{err_from_is_err_and}
use Rattle.tc_log.specs.Reading.{is_gate_open, frames_judged}
use Rattle.tc_log.proofs.Frames.{frames_closed, frames_refused, frames_more}
use Rattle.tc_log.proofs.frame.frames_in.Goals as goal
use Rattle.tc_log.proofs.frame.frames_in.Goals.{else-loop-test, then-loop-test+then-not-is_gate_open}

pub returns-in_err-rest-clause-judged : goal.returns-in_err-rest-clause-judged
returns-in_err-rest-clause-judged c =
    let opened : is_gate_open c.loop.rest.now ≡ true = let told = c.is_gate_open.ensures in let is = c.if-not-is_gate_open.false in cc in
    let left : 0 < length c.args.bytes.now - c.loop.counter = let more = c.loop-test.true in omega arith in
    let p = err_from_is_err_and c.from_residual.result c.from_residual.ensures.1 in
    rw (p.1, ← c.loop.invariant.reads) (frames_refused (length c.args.bytes.now - c.loop.counter) c.args.end c.loop.writes.items c.loop.rest.now _ _ c.in_err-rest.field-0.0 p.0 left opened c.in_err-rest.was p.2 c.frame_in.ensures.judged)

pub loop-preserved : goal.loop-preserved
loop-preserved c =
    let opened : is_gate_open c.loop.rest.now ≡ true = let told = c.is_gate_open.ensures in let is = c.if-not-is_gate_open.false in cc in
    let left : 0 < length c.args.bytes.now - c.loop.counter = let more = c.loop-test.true in omega arith in
    let fewer : length c.args.bytes.now - (c.loop.counter + 1) ≡ length c.args.bytes.now - c.loop.counter - 1 = omega arith in
    record { reads = rw fewer (sym (frames_more (length c.args.bytes.now - c.loop.counter) c.args.end c.loop.writes.items c.loop.rest.now _ left opened c.in_ok-rest.ensures.judged) ∙ c.loop.invariant.reads) }

pub returns-clause-judged : goal.returns-clause-judged
returns-clause-judged c = elim c.loop-test.branch [
  | else-loop-test w ↦
      let over : length c.args.bytes.now - c.loop.counter ≡ 0 = let more = w.loop-test.false in omega arith in
      sym c.loop.invariant.reads ∙ ap (λ n. frames_judged n c.args.end c.loop.writes.items c.loop.rest.now) over
  | then-loop-test+then-not-is_gate_open w ↦
      let closed : is_gate_open c.loop.rest.now ≡ false = let told = w.is_gate_open.ensures in let is = w.if-not-is_gate_open.true in cc in
      sym c.loop.invariant.reads ∙ frames_closed _ c.args.end c.loop.writes.items c.loop.rest.now closed
]
