use Rattle.std.proofs.Common.{List, subst, sym}
use Rattle.std.specs.Prelude.{OnOk, Result, zip}
use Rattle.std.specs.declared.alloc.Global.{Global}
use Rattle.std.specs.declared.vec.Vec.{Vec}
use Rattle.tc_log.specs.declared.write.Write.{Write}
use Rattle.tc_route.specs.Meaning.{requests_at}
use Rattle.tc_route.specs.declared.placed.Placed.{Placed}
use Rattle.tc_work.specs.EngineState.{EngineState}
use Rattle.tc_work.specs.Moving.{eyes}
use Rattle.tc_work.specs.declared.fault.EngineFault.{EngineFault}
use Rattle.tc_keeper.specs.Places.{AtEach}
use Rattle.tc_work.specs.Committed.{HasFramed}
use Rattle.tc_keeper.specs.Running.{HasRun}
use Rattle.tc_keeper.specs.declared.seat.Seat.{Seat}
use Rattle.tc_keeper.proofs.FramesTaken.{reads_stay, reads_taken}
use Rattle.tc_keeper.proofs.window.run_lists.Goals as goal

pub returns-clause-ran : goal.returns-clause-ran
returns-clause-ran g c =
    reads_stay (λ (s : Seat _ _ _ _ _). s.engine) (λ (s : Seat _ _ _ _ _). s.answer)
    (λ p (old : Seat _ _ _ _ _) (engine : EngineState _ _ _ _) (answer : Result (List Placed) EngineFault). HasRun
    (eyes g.S.Store.history g.S.Device.Device.history g.S.Frozen.Frozen.content g.S.Device.Device.name g.S.Frozen.Frozen.size g.S.Watch.Watch.counts)
    (requests_at p c.args.lists.now) old.engine engine answer) 0
    c.args.seats.now c.run_each.new.seats c.take_frames.new.seats c.take_frames.ensures.engines c.take_frames.ensures.answers c.run_each.ensures.ran

pub returns-clause-framed : goal.returns-clause-framed
returns-clause-framed g c =
    subst (λ (frames : List (Vec Write Global)). AtEach (λ p (run : Seat _ _ _ _ _ × Seat _ _ _ _ _) (frame : Vec Write Global). OnOk run.1.answer
    (HasFramed (eyes g.S.Store.history g.S.Device.Device.history g.S.Frozen.Frozen.content g.S.Device.Device.name g.S.Frozen.Frozen.size g.S.Watch.Watch.counts)
    (requests_at p c.args.lists.now) run.0.engine run.1.engine frame.items)) 0 (zip c.args.seats.now c.take_frames.new.seats) frames)
    (sym c.take_frames.ensures.all)
    (reads_taken (λ (s : Seat _ _ _ _ _). s.engine) (λ (s : Seat _ _ _ _ _). s.answer) (λ (s : Seat _ _ _ _ _). s.frame)
    (λ p (old : Seat _ _ _ _ _) (engine : EngineState _ _ _ _) (answer : Result (List Placed) EngineFault) (frame : Vec Write Global). OnOk answer
    (HasFramed (eyes g.S.Store.history g.S.Device.Device.history g.S.Frozen.Frozen.content g.S.Device.Device.name g.S.Frozen.Frozen.size g.S.Watch.Watch.counts)
    (requests_at p c.args.lists.now) old.engine engine frame.items)) 0
    c.args.seats.now c.run_each.new.seats c.take_frames.new.seats c.take_frames.ensures.engines c.take_frames.ensures.answers c.run_each.ensures.framed)
