use Rattle.std.proofs.Common.{◌≡◌, true, false, [], ◌∷◌, ◌++◌, ◌∙◌, sym, refl, arith}
use Rattle.std.proofs.lemmas.Result.{err_from_is_err_and}
use Rattle.tc_run_model.specs.Windows.{is_full}
use Rattle.tc_work.specs.Moving.{eyes}
use Rattle.tc_server.specs.Stage.{IsAt, with_end}
use Rattle.tc_server.specs.declared.session.Session.{Session}
use Rattle.tc_keeper.specs.Keeping.{faults_kept, FailsAt, ServesAt, IsTrueHere}
use Rattle.tc_keeper.proofs.Causes.{memory_wanting, nothing_failed}
use Rattle.tc_server.proofs.SessionLemmas.{holds_line, is_full-found, closes, fails_closing, has_room, with_line-full, with_line-open, with_pushed, fails_before, BeginsWith-refl}
use Rattle.tc_server.proofs.session.Session+Keeper+S+P.take_line.Goals as goal

pub push-requires-clause-room : goal.push-requires-clause-room
push-requires-clause-room g c = omega (arith, c.requires.ready.room, c.requires.size)

pub push-requires-clause-lines : goal.push-requires-clause-lines
push-requires-clause-lines g c = omega (arith, c.requires.ready.lines, c.requires.ready.limit)

pub close-requires-clause-few : goal.close-requires-clause-few
close-requires-clause-few g c = omega (arith, c.in_ok-push.ensures.lines, c.requires.ready.lines, c.requires.ready.limit)

pub close-requires-clause-bytes : goal.close-requires-clause-bytes
close-requires-clause-bytes g c = omega (arith, c.in_ok-push.ensures.bytes, c.requires.ready.room, c.requires.size)

pub returns-in_err-push-clause-fault : goal.returns-in_err-push-clause-fault
returns-in_err-push-clause-fault g c =
    let p = err_from_is_err_and c.from_residual.result c.from_residual.ensures.1 in
    rw (p.1, p.2) (λ line asks first base ws at. fails_before (ServesAt
    (eyes g.S.Store.history g.S.Device.Device.history g.S.Frozen.Frozen.content g.S.Device.Device.name g.S.Frozen.Frozen.size g.S.Watch.Watch.counts))
    (FailsAt (eyes g.S.Store.history g.S.Device.Device.history g.S.Frozen.Frozen.content g.S.Device.Device.name g.S.Frozen.Frozen.size g.S.Watch.Watch.counts))
    first c.args.self.now.window.limit base (g.O.Sink.taken c.args.sink.now) ws line c.args.self.now c.args.self.now.keeper at refl)

pub returns-in_err-push-clause-cause : goal.returns-in_err-push-clause-cause
returns-in_err-push-clause-cause g c =
    let p = err_from_is_err_and c.from_residual.result c.from_residual.ensures.1 in
    rw (p.1, p.2) (memory_wanting (g.O.Sink.faults c.args.sink.now) ((faults_kept g.S.Watch.Watch.counts) c.args.self.now.keeper) (IsTrueHere g.S.Store.history g.S.Device.Device.history g.S.Frozen.Frozen.content c.args.self.now.keeper))

pub returns-in_err-close-clause-fault : goal.returns-in_err-close-clause-fault
returns-in_err-close-clause-fault g c =
    let p = err_from_is_err_and c.from_residual-in_err-close.result c.from_residual-in_err-close.ensures.1 in
    rw (p.1, p.2) (λ line asks first base ws at.
    let pushed : Session _ = record c.args.self.now { window = c.push.new.self } in
    let held : IsAt (ServesAt (eyes g.S.Store.history g.S.Device.Device.history g.S.Frozen.Frozen.content g.S.Device.Device.name g.S.Frozen.Frozen.size g.S.Watch.Watch.counts)) first base (with_pushed ws line) pushed (g.O.Sink.taken c.args.sink.now) =
    holds_line (ServesAt (eyes g.S.Store.history g.S.Device.Device.history g.S.Frozen.Frozen.content g.S.Device.Device.name g.S.Frozen.Frozen.size
    g.S.Watch.Watch.counts)) first base (g.O.Sink.taken c.args.sink.now) ws line c.args.action c.args.size c.args.self.now pushed asks at refl
    c.in_ok-push.ensures.requests c.in_ok-push.ensures.bytes in
    let full : is_full c.args.self.now.window.limit (ws.open_lines ++ line ∷ []) ≡ true =
    sym (is_full-found (ServesAt (eyes g.S.Store.history g.S.Device.Device.history g.S.Frozen.Frozen.content g.S.Device.Device.name g.S.Frozen.Frozen.size
    g.S.Watch.Watch.counts)) first c.args.self.now.window.limit base (g.O.Sink.taken c.args.sink.now) (with_pushed ws line) pushed c.in_ok-push.ensures.sound held)
    ∙ rw (← c.in_ok-push.ensures.limit) (sym c.is_full.ensures ∙ c.if-not-is_full.false) in
    rw (with_line-full c.args.self.now.window.limit ws line (sym asks.whole ∙ c.requires.plain) full)
    (fails_closing (ServesAt (eyes g.S.Store.history g.S.Device.Device.history g.S.Frozen.Frozen.content g.S.Device.Device.name g.S.Frozen.Frozen.size
    g.S.Watch.Watch.counts)) (FailsAt (eyes g.S.Store.history g.S.Device.Device.history g.S.Frozen.Frozen.content g.S.Device.Device.name g.S.Frozen.Frozen.size
    g.S.Watch.Watch.counts)) first base (g.O.Sink.taken c.args.sink.now) (g.O.Sink.taken c.close.new.sink) (with_pushed ws line) pushed c.in_err-close.field-0.0
    c.close.new.self.keeper (with_end (with_pushed ws line)).closed held
    c.in_err-close.ensures.fault (BeginsWith-refl _)))

pub returns-in_err-close-clause-cause : goal.returns-in_err-close-clause-cause
returns-in_err-close-clause-cause g c =
    let p = err_from_is_err_and c.from_residual-in_err-close.result c.from_residual-in_err-close.ensures.1 in
    rw (p.1, p.2) c.in_err-close.ensures.cause

pub returns-clause-ok : goal.returns-clause-ok
returns-clause-ok g c = λ line asks first base ws at.
    let pushed : Session _ = record c.args.self.now { window = c.push.new.self } in
    let held : IsAt (ServesAt (eyes g.S.Store.history g.S.Device.Device.history g.S.Frozen.Frozen.content g.S.Device.Device.name g.S.Frozen.Frozen.size g.S.Watch.Watch.counts)) first base (with_pushed ws line) pushed (g.O.Sink.taken c.args.sink.now) =
    holds_line (ServesAt (eyes g.S.Store.history g.S.Device.Device.history g.S.Frozen.Frozen.content g.S.Device.Device.name g.S.Frozen.Frozen.size
    g.S.Watch.Watch.counts)) first base (g.O.Sink.taken c.args.sink.now) ws line c.args.action c.args.size c.args.self.now pushed asks at refl
    c.in_ok-push.ensures.requests c.in_ok-push.ensures.bytes in
    let full : is_full c.args.self.now.window.limit (ws.open_lines ++ line ∷ []) ≡ true =
    sym (is_full-found (ServesAt (eyes g.S.Store.history g.S.Device.Device.history g.S.Frozen.Frozen.content g.S.Device.Device.name g.S.Frozen.Frozen.size
    g.S.Watch.Watch.counts)) first c.args.self.now.window.limit base (g.O.Sink.taken c.args.sink.now) (with_pushed ws line) pushed c.in_ok-push.ensures.sound held)
    ∙ rw (← c.in_ok-push.ensures.limit) (sym c.is_full.ensures ∙ c.if-not-is_full.false) in
    rw (with_line-full c.args.self.now.window.limit ws line (sym asks.whole ∙ c.requires.plain) full)
    (closes (ServesAt (eyes g.S.Store.history g.S.Device.Device.history g.S.Frozen.Frozen.content g.S.Device.Device.name g.S.Frozen.Frozen.size g.S.Watch.Watch.counts)) first base (g.O.Sink.taken c.args.sink.now) (g.O.Sink.taken c.close.new.sink) (with_pushed ws line) pushed c.close.new.self held
    c.in_ok-close.ensures.written c.in_ok-close.ensures.requests c.in_ok-close.ensures.bytes)

pub returns-clause-ready : goal.returns-clause-ready
returns-clause-ready g c = record {
  works = c.in_ok-close.ensures.works;
  sound = c.in_ok-close.ensures.sound;
  room = omega (arith, c.in_ok-close.ensures.bytes);
  lines = omega (arith, c.in_ok-close.ensures.lines, c.in_ok-close.ensures.limit, c.in_ok-push.ensures.limit, c.requires.ready.lines);
  limit = omega (arith, c.in_ok-close.ensures.limit, c.in_ok-push.ensures.limit, c.requires.ready.limit);
}

pub returns-then-not-is_full-clause-ok : goal.returns-then-not-is_full-clause-ok
returns-then-not-is_full-clause-ok g c = λ line asks first base ws at.
    let pushed : Session _ = record c.args.self.now { window = c.push.new.self } in
    let held : IsAt (ServesAt (eyes g.S.Store.history g.S.Device.Device.history g.S.Frozen.Frozen.content g.S.Device.Device.name g.S.Frozen.Frozen.size g.S.Watch.Watch.counts)) first base (with_pushed ws line) pushed (g.O.Sink.taken c.args.sink.now) =
    holds_line (ServesAt (eyes g.S.Store.history g.S.Device.Device.history g.S.Frozen.Frozen.content g.S.Device.Device.name g.S.Frozen.Frozen.size
    g.S.Watch.Watch.counts)) first base (g.O.Sink.taken c.args.sink.now) ws line c.args.action c.args.size c.args.self.now pushed asks at refl
    c.in_ok-push.ensures.requests c.in_ok-push.ensures.bytes in
    let open_yet : is_full c.args.self.now.window.limit (ws.open_lines ++ line ∷ []) ≡ false =
    sym (is_full-found (ServesAt (eyes g.S.Store.history g.S.Device.Device.history g.S.Frozen.Frozen.content g.S.Device.Device.name g.S.Frozen.Frozen.size
    g.S.Watch.Watch.counts)) first c.args.self.now.window.limit base (g.O.Sink.taken c.args.sink.now) (with_pushed ws line) pushed c.in_ok-push.ensures.sound held)
    ∙ rw (← c.in_ok-push.ensures.limit) (sym c.is_full.ensures ∙ c.if-not-is_full.true) in
    rw (with_line-open c.args.self.now.window.limit ws line (sym asks.whole ∙ c.requires.plain) open_yet) held

pub returns-then-not-is_full-clause-ready : goal.returns-then-not-is_full-clause-ready
returns-then-not-is_full-clause-ready g c =
    let room = has_room c.push.new.self.limit _ c.push.new.self.bytes (sym c.is_full.ensures ∙ c.if-not-is_full.true) in record {
      works = c.requires.ready.works;
      sound = c.in_ok-push.ensures.sound;
      room = room.1;
      lines = room.0;
      limit = omega (arith, c.in_ok-push.ensures.limit, c.requires.ready.limit);
    }

pub returns-then-not-is_full-clause-cause : goal.returns-then-not-is_full-clause-cause
returns-then-not-is_full-clause-cause g c = nothing_failed (g.O.Sink.faults c.args.sink.now) ((faults_kept g.S.Watch.Watch.counts) c.args.self.now.keeper) (IsTrueHere g.S.Store.history g.S.Device.Device.history g.S.Frozen.Frozen.content c.args.self.now.keeper)
