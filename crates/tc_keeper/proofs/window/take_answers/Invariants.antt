use Rattle.std.proofs.Common.{◌≡◌, vec_capacity, vec_len}
use Rattle.tc_keeper.proofs.AnswersTaken.{Taking}
use Rattle.tc_keeper.proofs.window.take_answers.Given as goal

abbrev pub invariant-loop-at : goal.invariant-loop-at
invariant-loop-at g l = Taking (λ s. s.engine) (λ s. s.answer) l.fn.seats l.seats l.at l.parts.items × (vec_len l.parts ≡ l.at) × (vec_capacity l.parts ≡ vec_capacity l.initial.parts)
