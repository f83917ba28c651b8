use Rattle.std.proofs.Common.{◌≡◌, ◌∙◌, ◌<◌, ◌≤◌, ◌+◌, ◌++◌, ◌∷◌, [], length, map, set, arith, refl, ap, subst, sym, vec_capacity, vec_len}
use Rattle.std.specs.Prelude.{Ok, Result}
use Rattle.std.specs.declared.alloc.Global.{Global}
use Rattle.std.specs.declared.vec.Vec.{Vec}
use Rattle.tc_log.specs.declared.write.Write.{Write}
use Rattle.tc_work.specs.declared.fault.EngineFault.{EngineFault}
use Rattle.tc_keeper.specs.declared.seat.Seat.{Seat}
use Rattle.tc_keeper.proofs.AnswersTaken.{taking_all, taking_more, taking_none, taking_reads, Taking}
use Rattle.tc_keeper.proofs.FramesTaken.{all_ok}
use Rattle.tc_keeper.proofs.SharesRun.{read_again}
use Rattle.tc_keeper.proofs.window.take_frames.Goals as goal

pub loop-at-init : goal.loop-at-init
loop-at-init g c = (
  subst (Taking (λ (s : Seat _ _ _ _ _). s.engine) (λ (s : Seat _ _ _ _ _). Ok s.frame) c.args.seats.now c.args.seats.now 0) (sym c.requires.empty.0) (taking_none (λ (s : Seat _ _ _ _ _). s.engine) (λ (s : Seat _ _ _ _ _). Ok s.frame) c.args.seats.now),
  subst (Taking (λ (s : Seat _ _ _ _ _). s.answer) (λ (s : Seat _ _ _ _ _). Ok s.frame) c.args.seats.now c.args.seats.now 0) (sym c.requires.empty.0) (taking_none (λ (s : Seat _ _ _ _ _). s.answer) (λ (s : Seat _ _ _ _ _). Ok s.frame) c.args.seats.now),
  c.requires.empty.1,
  refl,
)

pub loop-at-preserved : goal.loop-at-preserved
loop-at-preserved g c =
    let below : c.loop-at.at < length c.loop-at.seats = omega (arith, c.loop-at-test.true, c.loop-at.invariant.0.many) in
    let frame : ◌≡◌ {A = Result (Vec Write Global) EngineFault} (Ok c.index-seats-at.result.frame) (Ok c.take_frame-frame.result) = ap (λ (v : Vec Write Global). Ok v) (ap (λ (s : Seat _ _ _ _ _). s.frame) c.index-seats-at.is ∙ sym c.take_frame-frame.ensures.frame) in
    let engines : Taking (λ (s : Seat _ _ _ _ _). s.engine) (λ (s : Seat _ _ _ _ _). Ok s.frame) c.args.seats.now (set c.loop-at.seats c.loop-at.at c.take_frame-frame.new.self) (c.loop-at.at + 1) (c.loop-at.frames.items ++ c.take_frame-frame.result ∷ []) =
    taking_more (λ (s : Seat _ _ _ _ _). s.engine) (λ (s : Seat _ _ _ _ _). Ok s.frame) c.args.seats.now c.loop-at.seats c.loop-at.at c.loop-at.frames.items
    c.index-seats-at.result c.take_frame-frame.new.self c.take_frame-frame.result c.loop-at.invariant.0 below c.index-seats-at.is
    (c.take_frame-frame.ensures.same.0 ∙ sym (ap (λ (s : Seat _ _ _ _ _). s.engine) c.index-seats-at.is)) frame in
    let answers : Taking (λ (s : Seat _ _ _ _ _). s.answer) (λ (s : Seat _ _ _ _ _). Ok s.frame) c.args.seats.now (set c.loop-at.seats c.loop-at.at c.take_frame-frame.new.self) (c.loop-at.at + 1) (c.loop-at.frames.items ++ c.take_frame-frame.result ∷ []) =
    taking_more (λ (s : Seat _ _ _ _ _). s.answer) (λ (s : Seat _ _ _ _ _). Ok s.frame) c.args.seats.now c.loop-at.seats c.loop-at.at c.loop-at.frames.items
    c.index-seats-at.result c.take_frame-frame.new.self c.take_frame-frame.result c.loop-at.invariant.1 below c.index-seats-at.is
    (c.take_frame-frame.ensures.same.1 ∙ sym (ap (λ (s : Seat _ _ _ _ _). s.answer) c.index-seats-at.is)) frame in
    let room : vec_capacity c.push_reserved.new.self ≡ vec_capacity c.args.frames.now = c.push_reserved.ensures.capacity ∙ c.loop-at.invariant.3 in
    let filled : vec_len c.push_reserved.new.self ≡ c.loop-at.at + 1 = c.push_reserved.ensures.len ∙ ap (λ n. n + 1) c.loop-at.invariant.2 in (
      subst (Taking (λ (s : Seat _ _ _ _ _). s.engine) (λ (s : Seat _ _ _ _ _). Ok s.frame) c.args.seats.now (set c.loop-at.seats c.loop-at.at c.take_frame-frame.new.self) (c.loop-at.at + 1)) (sym c.push_reserved.ensures.items) engines,
      subst (Taking (λ (s : Seat _ _ _ _ _). s.answer) (λ (s : Seat _ _ _ _ _). Ok s.frame) c.args.seats.now (set c.loop-at.seats c.loop-at.at c.take_frame-frame.new.self) (c.loop-at.at + 1)) (sym c.push_reserved.ensures.items) answers,
      filled,
      room,
    )

pub returns-clause-engines : goal.returns-clause-engines
returns-clause-engines g c = taking_reads (λ (s : Seat _ _ _ _ _). s.engine) (λ (s : Seat _ _ _ _ _). Ok s.frame) c.args.seats.now c.loop-at.seats c.loop-at.at c.loop-at.frames.items c.loop-at.invariant.0

pub returns-clause-answers : goal.returns-clause-answers
returns-clause-answers g c = taking_reads (λ (s : Seat _ _ _ _ _). s.answer) (λ (s : Seat _ _ _ _ _). Ok s.frame) c.args.seats.now c.loop-at.seats c.loop-at.at c.loop-at.frames.items c.loop-at.invariant.1

pub returns-clause-all : goal.returns-clause-all
returns-clause-all g c =
    let ends : length c.loop-at.seats ≤ c.loop-at.at = omega (arith, c.loop-at-test.false, c.loop-at.invariant.0.many) in
    all_ok (map (λ (s : Seat _ _ _ _ _). Ok s.frame) c.args.seats.now) c.loop-at.frames.items (map (λ (s : Seat _ _ _ _ _). s.frame) c.args.seats.now)
    (taking_all (λ (s : Seat _ _ _ _ _). s.engine) (λ (s : Seat _ _ _ _ _). Ok s.frame) c.args.seats.now c.loop-at.seats c.loop-at.at c.loop-at.frames.items c.loop-at.invariant.0 ends) (sym (read_again (λ (v : Vec Write Global). Ok v) (λ (s : Seat _ _ _ _ _). s.frame) c.args.seats.now))
