use Rattle.std.proofs.Common.{◌∙◌, ap, subst}
use Rattle.std.specs.Prelude.{None, Some}
use Rattle.std.proofs.KnownBytes.{Keeps-refl}
use Rattle.std.proofs.lemmas.Result.{err_from_is_err_and}
use Rattle.tc_gen.specs.Generated.{generated}
use Rattle.tc_gen.specs.TwoLines.{lines_for}
use Rattle.tc_run_model.specs.Windows.{windows_of}
use Rattle.tc_work.specs.Moving.{eyes}
use Rattle.tc_keeper.specs.Keeping.{HasSpent, FailsAt, ServesAt}
use Rattle.tc_server.specs.Demo.{ended}
use Rattle.tc_server.specs.Window.{requests_of}
use Rattle.tc_server.specs.declared.window.Window.{Window}
use Rattle.tc_keeper.proofs.Causes.{calls_follow, store_failed}
use Rattle.tc_server.proofs.DemoCauses.{lines_cause, lines_leave}
use Rattle.tc_server.proofs.DemoLemmas.{begins_not}
use Rattle.tc_server.proofs.DemoRuns.{gives_up}
use Rattle.tc_server.proofs.demo.answer_demo.Goals as goal

-- ---- the store does not settle

pub returns-in_err-begin-clause-ran : goal.returns-in_err-begin-clause-ran
returns-in_err-begin-clause-ran g c =
    let holds = ServesAt (eyes g.S.Store.history g.S.Device.Device.history g.S.Frozen.Frozen.content g.S.Device.Device.name g.S.Frozen.Frozen.size g.S.Watch.Watch.counts) in
    let keeps = FailsAt (eyes g.S.Store.history g.S.Device.Device.history g.S.Frozen.Frozen.content g.S.Device.Device.name g.S.Frozen.Frozen.size g.S.Watch.Watch.counts) in
    let spent = HasSpent g.S.Store.history g.S.Device.Device.history g.S.Frozen.Frozen.content in
    let most = c.args.session.now.window.limit in
    let p = err_from_is_err_and c.from_residual.result c.from_residual.ensures.1 in
    rw (p.1, p.2) (λ first held.
    gives_up holds keeps spent c.args.commands c.in_err-begin.field-0.0 first most (g.O.Sink.taken c.args.sink.now) (g.O.Sink.taken c.args.sink.now) c.begin.new.self.keeper c.in_err-begin.ensures.kinds c.in_err-begin.ensures.cause.spent (Keeps-refl (g.O.Sink.taken c.args.sink.now))
    (begins_not holds keeps first c.in_err-begin.field-0.0 (ended (windows_of most (generated c.args.commands))) c.begin.new.self.keeper
    (λ only w is. c.in_err-begin.ensures.undamaged only w (subst (holds c.args.session.now.keeper) is held)) (λ only w is. c.in_err-begin.ensures.failed only w (subst (holds c.args.session.now.keeper) is held))))

pub returns-in_err-begin-clause-cause : goal.returns-in_err-begin-clause-cause
returns-in_err-begin-clause-cause g c =
    let p = err_from_is_err_and c.from_residual.result c.from_residual.ensures.1 in
    rw (p.1, p.2) (store_failed c.in_err-begin.field-0.0 (g.O.Sink.faults c.args.sink.now) _ _ _ c.in_err-begin.ensures.kinds c.in_err-begin.ensures.cause)

-- ---- the lines

pub hear_all-requires-clause-requests : goal.hear_all-requires-clause-requests
hear_all-requires-clause-requests g c κs within = ap requests_of c.begin.ensures.window ∙ c.requires.requests

pub hear_all-requires-clause-bytes : goal.hear_all-requires-clause-bytes
hear_all-requires-clause-bytes g c κs within = ap (λ (w : Window). w.bytes) c.begin.ensures.window ∙ c.requires.bytes

pub returns-in_err-tally-clause-ran : goal.returns-in_err-tally-clause-ran
returns-in_err-tally-clause-ran g c =
    let holds = ServesAt (eyes g.S.Store.history g.S.Device.Device.history g.S.Frozen.Frozen.content g.S.Device.Device.name g.S.Frozen.Frozen.size g.S.Watch.Watch.counts) in
    let keeps = FailsAt (eyes g.S.Store.history g.S.Device.Device.history g.S.Frozen.Frozen.content g.S.Device.Device.name g.S.Frozen.Frozen.size g.S.Watch.Watch.counts) in
    let spent = HasSpent g.S.Store.history g.S.Device.Device.history g.S.Frozen.Frozen.content in
    let p = err_from_is_err_and c.from_residual-in_err-tally.result c.from_residual-in_err-tally.ensures.1 in
    rw (p.1, p.2, ← ap (λ (w : Window). w.limit) c.begin.ensures.window) (λ first held.
    gives_up holds keeps spent c.args.commands c.in_err-tally.field-0.0 first c.begin.new.self.window.limit (g.O.Sink.taken c.args.sink.now)
    (g.O.Sink.taken c.args.sink.now) c.hear_all.new.session.keeper c.in_err-tally.ensures.kinds c.in_err-tally.ensures.cause.spent
    (Keeps-refl (g.O.Sink.taken c.args.sink.now))
    (c.in_err-tally.ensures.fault first (c.in_ok-begin.ensures.held first held)))

pub returns-in_err-tally-clause-cause : goal.returns-in_err-tally-clause-cause
returns-in_err-tally-clause-cause g c =
    let p = err_from_is_err_and c.from_residual-in_err-tally.result c.from_residual-in_err-tally.ensures.1 in
    rw (p.1, p.2) (store_failed c.in_err-tally.field-0.0 (g.O.Sink.faults c.args.sink.now) _ _ _ c.in_err-tally.ensures.kinds (calls_follow (Some c.in_err-tally.field-0.0) _ _ _ _ _ c.in_ok-begin.ensures.cause c.in_err-tally.ensures.cause))

-- ---- the two lines

pub returns-clause-ran : goal.returns-clause-ran
returns-clause-ran g c =
    let holds = ServesAt (eyes g.S.Store.history g.S.Device.Device.history g.S.Frozen.Frozen.content g.S.Device.Device.name g.S.Frozen.Frozen.size g.S.Watch.Watch.counts) in
    let keeps = FailsAt (eyes g.S.Store.history g.S.Device.Device.history g.S.Frozen.Frozen.content g.S.Device.Device.name g.S.Frozen.Frozen.size g.S.Watch.Watch.counts) in
    let spent = HasSpent g.S.Store.history g.S.Device.Device.history g.S.Frozen.Frozen.content in
    rw (← ap (λ (w : Window). w.limit) c.begin.ensures.window) (λ first held.
    lines_leave holds keeps spent c.write_lines.result c.args.commands first c.begin.new.self.window.limit (g.O.Sink.taken c.args.sink.now) (g.O.Sink.taken c.write_lines.new.sink) c.hear_all.new.session.keeper c.in_ok-tally.tally
    (c.in_ok-tally.ensures.heard first (c.in_ok-begin.ensures.held first held)) c.write_lines.ensures.ok c.write_lines.ensures.fault)

pub returns-clause-cause : goal.returns-clause-cause
returns-clause-cause g c =
    lines_cause c.write_lines.result (lines_for c.args.commands c.in_ok-tally.tally) (g.O.Sink.taken c.args.sink.now) (g.O.Sink.taken c.write_lines.new.sink) (g.O.Sink.faults c.args.sink.now) (g.O.Sink.faults c.write_lines.new.sink) _ _ _ _
    (calls_follow None _ _ _ _ _ c.in_ok-begin.ensures.cause c.in_ok-tally.ensures.cause) c.write_lines.ensures.kept c.write_lines.ensures.cause c.write_lines.ensures.fault
