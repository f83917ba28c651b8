use Rattle.std.proofs.Common.{◌≡◌, vec_capacity, vec_len}
use Rattle.std.specs.Prelude.{Ok}
use Rattle.tc_keeper.proofs.AnswersTaken.{Taking}
use Rattle.tc_keeper.proofs.window.take_frames.Given as goal

abbrev pub invariant-loop-at : goal.invariant-loop-at
invariant-loop-at g l = Taking (λ s. s.engine) (λ s. Ok s.frame) l.fn.seats l.seats l.at l.frames.items × Taking (λ s. s.answer) (λ s. Ok s.frame) l.fn.seats l.seats l.at l.frames.items × (vec_len l.frames ≡ l.at) × (vec_capacity l.frames ≡ vec_capacity l.fn.frames)
