use Rattle.std.proofs.Common.{◌≡◌, ◌∙◌, ◌<◌, ◌≤◌, ◌+◌, ◌++◌, ◌∷◌, [], length, set, arith, refl, ap, subst, sym, vec_capacity, vec_len}
use Rattle.tc_keeper.specs.declared.seat.Seat.{Seat}
use Rattle.tc_keeper.proofs.AnswersTaken.{taking_all, taking_fault, taking_more, taking_none, taking_put, taking_reads, Taking}
use Rattle.tc_keeper.proofs.window.take_answers.Goals as goal

pub loop-at-init : goal.loop-at-init
loop-at-init g c =
    (subst (Taking (λ (s : Seat _ _ _ _ _). s.engine) (λ (s : Seat _ _ _ _ _). s.answer) c.args.seats.now c.args.seats.now 0) (sym c.requires.empty.0) (taking_none (λ (s : Seat _ _ _ _ _). s.engine) (λ (s : Seat _ _ _ _ _). s.answer) c.args.seats.now), c.requires.empty.1, refl)

pub returns-in-Err-clause-engines : goal.returns-in-Err-clause-engines
returns-in-Err-clause-engines g c =
    let below : c.loop-at.at < length c.loop-at.seats = omega (arith, c.loop-at-test.true, c.loop-at.invariant.0.many) in
    taking_put (λ (s : Seat _ _ _ _ _). s.engine) (λ (s : Seat _ _ _ _ _). s.answer) c.args.seats.now c.loop-at.seats c.loop-at.at c.loop-at.parts.items
    c.index-seats-at.result c.take_answer.new.self c.loop-at.invariant.0 below c.index-seats-at.is
    (c.take_answer.ensures.same ∙ sym (ap (λ (s : Seat _ _ _ _ _). s.engine) c.index-seats-at.is))

pub returns-in-Err-clause-first : goal.returns-in-Err-clause-first
returns-in-Err-clause-first g c =
    let below : c.loop-at.at < length c.loop-at.seats = omega (arith, c.loop-at-test.true, c.loop-at.invariant.0.many) in
    let within : c.loop-at.at < length c.args.seats.now = omega (arith, below, c.loop-at.invariant.0.many) in (
      within,
      taking_fault (λ (s : Seat _ _ _ _ _). s.engine) (λ (s : Seat _ _ _ _ _). s.answer) c.args.seats.now c.loop-at.seats c.loop-at.at c.loop-at.parts.items
          c.index-seats-at.result c.in-Err.fault c.loop-at.invariant.0 below c.index-seats-at.is
          (ap (λ (s : Seat _ _ _ _ _). s.answer) c.index-seats-at.is ∙ sym c.take_answer.ensures.answer ∙ c.in-Err.is),
    )

pub loop-at-preserved : goal.loop-at-preserved
loop-at-preserved g c =
    let below : c.loop-at.at < length c.loop-at.seats = omega (arith, c.loop-at-test.true, c.loop-at.invariant.0.many) in
    let more : Taking (λ (s : Seat _ _ _ _ _). s.engine) (λ (s : Seat _ _ _ _ _). s.answer) c.args.seats.now (set c.loop-at.seats c.loop-at.at c.take_answer.new.self) (c.loop-at.at + 1) (c.loop-at.parts.items ++ c.in-Ok.replies ∷ []) =
    taking_more (λ (s : Seat _ _ _ _ _). s.engine) (λ (s : Seat _ _ _ _ _). s.answer) c.args.seats.now c.loop-at.seats c.loop-at.at c.loop-at.parts.items
    c.index-seats-at.result c.take_answer.new.self c.in-Ok.replies c.loop-at.invariant.0 below c.index-seats-at.is
    (c.take_answer.ensures.same ∙ sym (ap (λ (s : Seat _ _ _ _ _). s.engine) c.index-seats-at.is))
    (ap (λ (s : Seat _ _ _ _ _). s.answer) c.index-seats-at.is ∙ sym c.take_answer.ensures.answer ∙ c.in-Ok.is) in
    let room : vec_capacity c.push_reserved.new.self ≡ vec_capacity c.args.parts = c.push_reserved.ensures.capacity ∙ c.loop-at.invariant.2 in
    let filled : vec_len c.push_reserved.new.self ≡ c.loop-at.at + 1 = c.push_reserved.ensures.len ∙ ap (λ n. n + 1) c.loop-at.invariant.1 in
    (subst (Taking (λ (s : Seat _ _ _ _ _). s.engine) (λ (s : Seat _ _ _ _ _). s.answer) c.args.seats.now (set c.loop-at.seats c.loop-at.at c.take_answer.new.self) (c.loop-at.at + 1)) (sym c.push_reserved.ensures.items) more, filled, room)

pub returns-clause-engines : goal.returns-clause-engines
returns-clause-engines g c = taking_reads (λ (s : Seat _ _ _ _ _). s.engine) (λ (s : Seat _ _ _ _ _). s.answer) c.args.seats.now c.loop-at.seats c.loop-at.at c.loop-at.parts.items c.loop-at.invariant.0

pub returns-clause-all : goal.returns-clause-all
returns-clause-all g c =
    let ends : length c.loop-at.seats ≤ c.loop-at.at = omega (arith, c.loop-at-test.false, c.loop-at.invariant.0.many) in
    taking_all (λ (s : Seat _ _ _ _ _). s.engine) (λ (s : Seat _ _ _ _ _). s.answer) c.args.seats.now c.loop-at.seats c.loop-at.at c.loop-at.parts.items c.loop-at.invariant.0 ends
