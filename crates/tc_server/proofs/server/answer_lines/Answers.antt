use Rattle.std.proofs.Common.{◌∙◌, ap, subst}
use Rattle.std.specs.Prelude.{None, Some}
use Rattle.std.proofs.lemmas.Result.{err_from_is_err_and}
use Rattle.tc_work.specs.Moving.{eyes}
use Rattle.tc_server.specs.Window.{requests_of}
use Rattle.tc_server.specs.declared.window.Window.{Window}
use Rattle.tc_keeper.specs.Keeping.{HasSpent, FailsAt, ServesAt}
use Rattle.tc_keeper.proofs.Causes.{run_by_call, runs_follow, run_without_memory}
use Rattle.tc_server.proofs.RunLemmas.{begins, begins_not, gives_up, unread}
use Rattle.tc_server.proofs.server.answer_lines.Goals as goal

pub returns-in_err-begin-clause-ran : goal.returns-in_err-begin-clause-ran
returns-in_err-begin-clause-ran g c =
    let p = err_from_is_err_and c.from_residual.result c.from_residual.ensures.1 in
    rw (p.1, p.2) (λ first holds. begins_not (ServesAt (eyes g.S.Store.history g.S.Device.Device.history g.S.Frozen.Frozen.content g.S.Device.Device.name
    g.S.Frozen.Frozen.size g.S.Watch.Watch.counts)) (FailsAt (eyes g.S.Store.history g.S.Device.Device.history g.S.Frozen.Frozen.content g.S.Device.Device.name
    g.S.Frozen.Frozen.size g.S.Watch.Watch.counts)) (HasSpent g.S.Store.history g.S.Device.Device.history g.S.Frozen.Frozen.content) first
    c.args.session.now.window.limit (g.I.Source.left c.args.source.now) (g.O.Sink.taken c.args.sink.now) c.in_err-begin.field-0.0 c.begin.new.self.keeper
    c.in_err-begin.ensures.kinds c.in_err-begin.ensures.cause.spent
    (λ only w is. c.in_err-begin.ensures.undamaged only w (subst ((ServesAt (eyes g.S.Store.history g.S.Device.Device.history g.S.Frozen.Frozen.content g.S.Device.Device.name g.S.Frozen.Frozen.size g.S.Watch.Watch.counts)) c.args.session.now.keeper) is holds))
    (λ only w is. c.in_err-begin.ensures.failed only w (subst ((ServesAt (eyes g.S.Store.history g.S.Device.Device.history g.S.Frozen.Frozen.content g.S.Device.Device.name g.S.Frozen.Frozen.size g.S.Watch.Watch.counts)) c.args.session.now.keeper) is holds)))

pub returns-in_err-begin-clause-prompt : goal.returns-in_err-begin-clause-prompt
returns-in_err-begin-clause-prompt g c = λ first holds. unread first c.args.session.now.window.limit (g.O.Sink.taken c.args.sink.now) (g.I.Source.moments c.args.source.now)

pub returns-in_err-begin-clause-cause : goal.returns-in_err-begin-clause-cause
returns-in_err-begin-clause-cause g c =
    let p = err_from_is_err_and c.from_residual.result c.from_residual.ensures.1 in
    rw (p.1, p.2) (run_by_call (Some c.in_err-begin.field-0.0) (g.I.Source.faults c.args.source.now) (g.O.Sink.faults c.args.sink.now) _ _ _ c.in_err-begin.ensures.kinds c.in_err-begin.ensures.cause)

pub loop-init : goal.loop-init
loop-init g c = record {
  works = ap (λ r. r.failed) c.new-lines.ensures;
  most = ap (λ r. r.limit) c.new-lines.ensures;
  ready = c.in_ok-begin.ensures.ready;
  limit = ap (λ (w : Window). w.limit) c.begin.ensures.window;
  settings = c.begin.ensures.settings;
  come = λ first holds.
      begins (ServesAt (eyes g.S.Store.history g.S.Device.Device.history g.S.Frozen.Frozen.content g.S.Device.Device.name g.S.Frozen.Frozen.size
      g.S.Watch.Watch.counts)) first 1048576 c.new-lines.result c.begin.new.self (g.I.Source.left c.args.source.now) (g.O.Sink.taken c.args.sink.now)
      (g.I.Source.moments c.args.source.now) c.new-lines.ensures
      (c.in_ok-begin.ensures.held first holds) (ap requests_of c.begin.ensures.window ∙ c.requires.requests) (ap (λ (w : Window). w.bytes) c.begin.ensures.window ∙ c.requires.bytes);
  cause = run_by_call None (g.I.Source.faults c.args.source.now) (g.O.Sink.faults c.args.sink.now) _ _ _ tt c.in_ok-begin.ensures.cause;
}

pub loop-preserved : goal.loop-preserved
loop-preserved g c =
    let l = c.loop in record {
      works = c.in_ok-answer_line.ensures.works;
      most = c.answer_line.ensures.limit;
      ready = c.in_ok-answer_line.ensures.ready c.if-not-branch.false;
      limit = c.in_ok-answer_line.ensures.window ∙ l.invariant.limit;
      settings = c.answer_line.ensures.settings ∙ l.invariant.settings;
      come = λ first holds.
          let goes = rw c.if-not-branch.false at c.in_ok-answer_line.ensures.more in
          goes first (g.I.Source.left c.args.source.now) (g.O.Sink.taken c.args.sink.now) (g.I.Source.moments c.args.source.now) (l.invariant.come first holds);
      cause = runs_follow None _ _ _ _ _ _ _ _ _ _ _ l.invariant.cause c.in_ok-answer_line.ensures.cause;
    }

pub returns-in_err-answer_line-clause-ran : goal.returns-in_err-answer_line-clause-ran
returns-in_err-answer_line-clause-ran g c =
    let p = err_from_is_err_and c.from_residual-in_err-answer_line.result c.from_residual-in_err-answer_line.ensures.1 in
    rw (p.1, p.2, ← c.loop.invariant.limit) (λ first holds. c.in_err-answer_line.ensures.fault first (g.I.Source.left c.args.source.now) (g.O.Sink.taken c.args.sink.now) (g.I.Source.moments c.args.source.now) (c.loop.invariant.come first holds))

pub returns-in_err-answer_line-clause-prompt : goal.returns-in_err-answer_line-clause-prompt
returns-in_err-answer_line-clause-prompt g c = λ first holds.
    rw (← c.loop.invariant.limit) (c.answer_line.ensures.prompt first (g.I.Source.left c.args.source.now) (g.O.Sink.taken c.args.sink.now) (g.I.Source.moments c.args.source.now) (c.loop.invariant.come first holds))

pub returns-in_err-answer_line-clause-cause : goal.returns-in_err-answer_line-clause-cause
returns-in_err-answer_line-clause-cause g c =
    let p = err_from_is_err_and c.from_residual-in_err-answer_line.result c.from_residual-in_err-answer_line.ensures.1 in
    rw (p.1, p.2) (runs_follow (Some c.in_err-answer_line.field-0.0) _ _ _ _ _ _ _ _ _ _ _ c.loop.invariant.cause c.in_err-answer_line.ensures.cause)

pub returns-in_err-answer_line-clause-settings : goal.returns-in_err-answer_line-clause-settings
returns-in_err-answer_line-clause-settings g c = c.answer_line.ensures.settings ∙ c.loop.invariant.settings

pub returns-then-not-branch-clause-ran : goal.returns-then-not-branch-clause-ran
returns-then-not-branch-clause-ran g c = λ first holds.
    let ended = rw c.if-not-branch.true at c.in_ok-answer_line.ensures.more in
    rw (← c.loop.invariant.limit) (ended first (g.I.Source.left c.args.source.now) (g.O.Sink.taken c.args.sink.now) (g.I.Source.moments c.args.source.now) (c.loop.invariant.come first holds))

pub returns-then-not-branch-clause-prompt : goal.returns-then-not-branch-clause-prompt
returns-then-not-branch-clause-prompt g c = λ first holds.
    rw (← c.loop.invariant.limit) (c.answer_line.ensures.prompt first (g.I.Source.left c.args.source.now) (g.O.Sink.taken c.args.sink.now) (g.I.Source.moments c.args.source.now) (c.loop.invariant.come first holds))

pub returns-then-not-branch-clause-cause : goal.returns-then-not-branch-clause-cause
returns-then-not-branch-clause-cause g c = runs_follow None _ _ _ _ _ _ _ _ _ _ _ c.loop.invariant.cause c.in_ok-answer_line.ensures.cause

pub returns-then-not-branch-clause-settings : goal.returns-then-not-branch-clause-settings
returns-then-not-branch-clause-settings g c = c.answer_line.ensures.settings ∙ c.loop.invariant.settings

pub returns-clause-ran : goal.returns-clause-ran
returns-clause-ran g c = λ first holds.
    rw (← c.loop.invariant.limit) (gives_up (ServesAt (eyes g.S.Store.history g.S.Device.Device.history g.S.Frozen.Frozen.content g.S.Device.Device.name
    g.S.Frozen.Frozen.size g.S.Watch.Watch.counts)) (FailsAt (eyes g.S.Store.history g.S.Device.Device.history g.S.Frozen.Frozen.content g.S.Device.Device.name
    g.S.Frozen.Frozen.size g.S.Watch.Watch.counts)) (HasSpent g.S.Store.history g.S.Device.Device.history g.S.Frozen.Frozen.content) first c.loop.lines
    c.loop.session (g.I.Source.left c.args.source.now) (g.I.Source.left c.loop.source) (g.O.Sink.taken c.args.sink.now) (g.O.Sink.taken c.loop.sink)
    (c.loop.invariant.come first holds))

pub returns-clause-prompt : goal.returns-clause-prompt
returns-clause-prompt g c = λ first holds. rw (← c.loop.invariant.limit) (let come = c.loop.invariant.come first holds in (come.heard.input, come.prompt))

pub returns-clause-cause : goal.returns-clause-cause
returns-clause-cause g c = run_without_memory _ _ _ _ _ _ _ _ c.loop.invariant.cause

pub returns-clause-settings : goal.returns-clause-settings
returns-clause-settings g c = c.loop.invariant.settings
