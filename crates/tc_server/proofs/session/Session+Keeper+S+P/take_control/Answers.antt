use Rattle.std.proofs.Common.{[], ◌∷◌, length, ap, sym, subst, refl, arith}
use Rattle.std.proofs.lemmas.Result.{err_from_is_err_and, IfErr-weaker, on_ok_weaker}
use Rattle.tc_work.specs.Moving.{eyes}
use Rattle.tc_keeper.specs.Faults.{fault_in}
use Rattle.tc_server.specs.Stage.{with_end}
use Rattle.tc_server.specs.Window.{IsSoundWindow}
use Rattle.tc_server.specs.declared.answer.Action.TheVariants.{Whole as whole}
use Rattle.tc_server.specs.declared.window.Window.{Window}
use Rattle.tc_keeper.specs.Keeping.{FailsAt, ServesAt}
use Rattle.tc_keeper.proofs.Causes.{windows_follow}
use Rattle.tc_server.proofs.SessionLemmas.{closes, closes_line, fails_closing, fails_line, with_line-control, with_pushed}
use Rattle.tc_server.proofs.session.Session+Keeper+S+P.take_control.Goals as goal

pub close-requires-clause-few : goal.close-requires-clause-few
close-requires-clause-few g c = omega (arith, c.requires.ready.lines, c.requires.ready.limit)

pub close-requires-clause-bytes : goal.close-requires-clause-bytes
close-requires-clause-bytes g c = omega (arith, c.requires.ready.room)

pub returns-in_err-close-clause-fault : goal.returns-in_err-close-clause-fault
returns-in_err-close-clause-fault g c =
    let p = err_from_is_err_and c.from_residual.result c.from_residual.ensures.1 in
    rw (p.1, p.2) (λ line asks first base ws at.
    rw (with_line-control c.args.self.now.window.limit ws line (sym asks.whole))
    (fails_closing (ServesAt (eyes g.S.Store.history g.S.Device.Device.history g.S.Frozen.Frozen.content g.S.Device.Device.name g.S.Frozen.Frozen.size
    g.S.Watch.Watch.counts)) (FailsAt (eyes g.S.Store.history g.S.Device.Device.history g.S.Frozen.Frozen.content g.S.Device.Device.name g.S.Frozen.Frozen.size
    g.S.Watch.Watch.counts)) first base (g.O.Sink.taken c.args.sink.now) (g.O.Sink.taken c.close.new.sink) ws c.args.self.now c.in_err-close.field-0.0
    c.close.new.self.keeper (with_end (with_pushed (with_end ws) line)).closed at
    c.in_err-close.ensures.fault (record { more = (line ∷ []) ∷ []; goes_on = refl })))

pub returns-in_err-close-clause-cause : goal.returns-in_err-close-clause-cause
returns-in_err-close-clause-cause g c =
    let p = err_from_is_err_and c.from_residual.result c.from_residual.ensures.1 in
    rw (p.1, p.2) c.in_err-close.ensures.cause

pub returns-clause-ok : goal.returns-clause-ok
returns-clause-ok g c =
    on_ok_weaker c.close_control.result (λ writes line asks first base ws at.
    let before = closes (ServesAt (eyes g.S.Store.history g.S.Device.Device.history g.S.Frozen.Frozen.content g.S.Device.Device.name g.S.Frozen.Frozen.size g.S.Watch.Watch.counts)) first base (g.O.Sink.taken c.args.sink.now) (g.O.Sink.taken c.close.new.sink) ws c.args.self.now c.close.new.self at
    c.in_ok-close.ensures.written c.in_ok-close.ensures.requests c.in_ok-close.ensures.bytes in
    rw (with_line-control c.args.self.now.window.limit ws line (sym asks.whole))
    (closes_line (ServesAt (eyes g.S.Store.history g.S.Device.Device.history g.S.Frozen.Frozen.content g.S.Device.Device.name g.S.Frozen.Frozen.size
    g.S.Watch.Watch.counts)) first base (g.O.Sink.taken c.close.new.sink) (g.O.Sink.taken c.close_control.new.sink) ws line (whole c.args.control) c.args.size
    c.close.new.self c.close_control.new.self asks before
    c.close_control.ensures.window c.in_ok-close.ensures.requests c.in_ok-close.ensures.bytes writes))
    c.close_control.ensures.written

pub returns-clause-ready : goal.returns-clause-ready
returns-clause-ready g c =
    on_ok_weaker c.close_control.result (λ works. record {
      works = works;
      sound = subst IsSoundWindow (sym c.close_control.ensures.window) c.in_ok-close.ensures.sound;
      room = omega (arith, ap (λ (w : Window). w.bytes) c.close_control.ensures.window, c.in_ok-close.ensures.bytes);
      lines = omega (arith, ap (λ (w : Window). length w.refusals.items) c.close_control.ensures.window, ap (λ (w : Window). w.limit) c.close_control.ensures.window, c.in_ok-close.ensures.lines, c.in_ok-close.ensures.limit, c.requires.ready.lines);
      limit = omega (arith, ap (λ (w : Window). w.limit) c.close_control.ensures.window, c.in_ok-close.ensures.limit, c.requires.ready.limit);
    }) c.close_control.ensures.works

pub returns-clause-fault : goal.returns-clause-fault
returns-clause-fault g c =
    IfErr-weaker c.close_control.result _ _ (λ f fails line asks first base ws at.
    let before = closes (ServesAt (eyes g.S.Store.history g.S.Device.Device.history g.S.Frozen.Frozen.content g.S.Device.Device.name g.S.Frozen.Frozen.size g.S.Watch.Watch.counts)) first base (g.O.Sink.taken c.args.sink.now) (g.O.Sink.taken c.close.new.sink) ws c.args.self.now c.close.new.self at
    c.in_ok-close.ensures.written c.in_ok-close.ensures.requests c.in_ok-close.ensures.bytes in
    rw (with_line-control c.args.self.now.window.limit ws line (sym asks.whole))
    (fails_line (ServesAt (eyes g.S.Store.history g.S.Device.Device.history g.S.Frozen.Frozen.content g.S.Device.Device.name g.S.Frozen.Frozen.size
    g.S.Watch.Watch.counts)) (FailsAt (eyes g.S.Store.history g.S.Device.Device.history g.S.Frozen.Frozen.content g.S.Device.Device.name g.S.Frozen.Frozen.size
    g.S.Watch.Watch.counts)) first base (g.O.Sink.taken c.close.new.sink) (g.O.Sink.taken c.close_control.new.sink) ws line (whole c.args.control) c.args.size
    c.close.new.self f c.close_control.new.self.keeper asks before fails))
    c.close_control.ensures.fault

pub returns-clause-cause : goal.returns-clause-cause
returns-clause-cause g c =
    windows_follow (fault_in c.close_control.result) _ _ _ _ _ _ _ _ c.in_ok-close.ensures.cause c.close_control.ensures.cause
