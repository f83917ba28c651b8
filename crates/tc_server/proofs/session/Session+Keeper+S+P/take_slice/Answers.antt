use Rattle.std.proofs.Common.{refl}
use Rattle.std.proofs.lemmas.Result.{err_from_is_err_and, IfErr-weaker, on_ok_weaker}
use Rattle.tc_work.specs.Moving.{eyes}
use Rattle.tc_keeper.proofs.Causes.{memory_wanting}
use Rattle.tc_server.proofs.SessionLemmas.{asks_whole, fails_before, stands_still, stays_ready}
use Rattle.tc_keeper.specs.Keeping.{faults_kept, FailsAt, MayServe, ServesAt, IsTrueHere}
use Rattle.tc_server.proofs.session.Session+Keeper+S+P.take_slice.Goals as goal

pub returns-in_err-asked-clause-fault : goal.returns-in_err-asked-clause-fault
returns-in_err-asked-clause-fault g c =
    let p = err_from_is_err_and c.from_residual.result c.from_residual.ensures.1 in
    rw (p.1, p.2) (λ first base ws at. fails_before (ServesAt (eyes g.S.Store.history g.S.Device.Device.history g.S.Frozen.Frozen.content g.S.Device.Device.name
    g.S.Frozen.Frozen.size g.S.Watch.Watch.counts)) (FailsAt (eyes g.S.Store.history g.S.Device.Device.history g.S.Frozen.Frozen.content g.S.Device.Device.name
    g.S.Frozen.Frozen.size g.S.Watch.Watch.counts)) first c.args.self.now.window.limit base (g.O.Sink.taken c.args.sink.now) ws c.args.line.now c.args.self.now
    c.args.self.now.keeper at refl)

pub returns-in_err-asked-clause-cause : goal.returns-in_err-asked-clause-cause
returns-in_err-asked-clause-cause g c =
    let p = err_from_is_err_and c.from_residual.result c.from_residual.ensures.1 in
    rw (p.1, p.2) (memory_wanting (g.O.Sink.faults c.args.sink.now) ((faults_kept g.S.Watch.Watch.counts) c.args.self.now.keeper) (IsTrueHere g.S.Store.history g.S.Device.Device.history g.S.Frozen.Frozen.content c.args.self.now.keeper))

pub take-requires-clause-ready : goal.take-requires-clause-ready
take-requires-clause-ready g c = λ κs within.
    stays_ready (MayServe g.S.Store.history g.S.Device.Device.history g.S.Frozen.Frozen.content) c.args.self.now (record c.args.self.now { commands = c.of.new.commands }) refl refl c.requires.ready

pub returns-clause-ok : goal.returns-clause-ok
returns-clause-ok g c =
    on_ok_weaker c.take.result (λ takes first base ws at.
    takes c.args.line.now (asks_whole c.args.line.now c.in_ok-asked.asked c.in_ok-asked.ensures.request c.in_ok-asked.ensures.whole c.requires.size)
    first base ws (stands_still _ first base _ ws c.args.self.now _ refl refl at)) c.take.ensures.ok

pub returns-clause-fault : goal.returns-clause-fault
returns-clause-fault g c =
    IfErr-weaker c.take.result _ _ (λ f fails first base ws at.
    fails c.args.line.now (asks_whole c.args.line.now c.in_ok-asked.asked c.in_ok-asked.ensures.request c.in_ok-asked.ensures.whole c.requires.size)
    first base ws (stands_still _ first base _ ws c.args.self.now _ refl refl at)) c.take.ensures.fault
