use Rattle.std.proofs.Common.{◌≡◌, ◌∙◌, List, ℕ, Ok, take, sym, refl, ap}
use Rattle.tc_log.specs.Reading.{head_at, head_judged}
use Rattle.tc_store.specs.Judging.{or_damage, damage}
use Rattle.tc_log.proofs.Logs.{opened_file, judged_lawful}
use Rattle.tc_log.proofs.reading.log_in.Goals as goal

pub returns-clause-found : goal.returns-clause-found
returns-clause-found c = λ opened.
    let first : head_judged c.args.bytes.now ≡ Ok (c.in_ok-head.head, c.in_ok-head.frames.now) =
    ap (λ (bytes : List ℕ). or_damage (head_at bytes) (damage 1 (take 20 bytes))) (sym c.behind_gate.ensures) ∙ c.in_ok-head.ensures.judged in
    opened_file c.args.bytes.now c.in_ok-head.head c.in_ok-writes.writes.items (λ i. (c.type_inv.bytes i).fits) opened (rw (first, c.in_ok-writes.ensures.judged) refl)

pub returns-clause-lawful : goal.returns-clause-lawful
returns-clause-lawful c =
    let first : head_judged c.args.bytes.now ≡ Ok (c.in_ok-head.head, c.in_ok-head.frames.now) =
    ap (λ (bytes : List ℕ). or_damage (head_at bytes) (damage 1 (take 20 bytes))) (sym c.behind_gate.ensures) ∙ c.in_ok-head.ensures.judged in
    judged_lawful c.args.bytes.now c.in_ok-head.head c.in_ok-writes.writes.items (λ i. (c.type_inv.bytes i).fits) (rw (first, c.in_ok-writes.ensures.judged) refl)
