use Rattle.std.proofs.Common.{◌≤◌, List, ℕ, length, IfOk, subst}
use Rattle.tc_log.specs.Spelling.{IsNamedHead}
use Rattle.tc_store.specs.Judging.{Judges}
use Rattle.tc_log.specs.Judging.{same_head}
use Rattle.tc_log.specs.Reading.{front_judged}
use Rattle.tc_log.proofs.Logs.{named_answers, answers_head, damaged_front}
use Rattle.tc_log.proofs.reading.read_log_head.Goals as goal

pub returns-clause-found : goal.returns-clause-found
returns-clause-found g c =
    named_answers c.args.generation c.named_head_in.result (g.F.Frozen.content c.args.file.now) c.in_ok-front.front.items c.in_ok-front.ensures.read
    (subst (λ (front : List ℕ). length front ≤ 20 → IfOk c.named_head_in.result (IsNamedHead c.args.generation front)) c.deref.ensures.value c.named_head_in.ensures.found)

pub returns-clause-whole : goal.returns-clause-whole
returns-clause-whole g c =
    answers_head c.args.generation c.named_head_in.result (g.F.Frozen.content c.args.file.now) c.in_ok-front.front.items c.in_ok-front.ensures.read
    (subst (λ (front : List ℕ). Judges same_head c.named_head_in.result (front_judged c.args.generation front)) c.deref.ensures.value c.named_head_in.ensures.judged)

pub returns-clause-damaged : goal.returns-clause-damaged
returns-clause-damaged g c =
    damaged_front c.args.generation c.named_head_in.result (g.F.Frozen.size c.args.file.now) c.in_ok-front.front.items c.in_ok-front.ensures.possible
    (subst (λ (front : List ℕ). Judges same_head c.named_head_in.result (front_judged c.args.generation front)) c.deref.ensures.value c.named_head_in.ensures.judged)
