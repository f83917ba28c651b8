use Rattle.std.proofs.Common.{subst}
use Rattle.std.proofs.KnownBytes.{Keeps-refl}
use Rattle.std.proofs.lemmas.Result.{err_from_is_err_and, IfErr-weaker, on_ok_weaker}
use Rattle.tc_work.specs.Moving.{eyes}
use Rattle.tc_keeper.specs.Faults.{fault_in}
use Rattle.tc_server.specs.Window.{requests_of}
use Rattle.tc_keeper.specs.Keeping.{faults_kept, FailsAt, ServesAt, IsTrueHere}
use Rattle.tc_server.proofs.Answering.{none_written}
use Rattle.tc_keeper.proofs.Causes.{store_failed, window_behind_call}
use Rattle.tc_server.proofs.session.Session+Keeper+S+P.close.Goals as goal

pub returns-in_err-answer-clause-fault : goal.returns-in_err-answer-clause-fault
returns-in_err-answer-clause-fault g c =
    let p = err_from_is_err_and c.from_residual.result c.from_residual.ensures.1 in
    rw (p.1, p.2) (λ known holds.
    none_written (ServesAt (eyes g.S.Store.history g.S.Device.Device.history g.S.Frozen.Frozen.content g.S.Device.Device.name g.S.Frozen.Frozen.size
    g.S.Watch.Watch.counts)) (FailsAt (eyes g.S.Store.history g.S.Device.Device.history g.S.Frozen.Frozen.content g.S.Device.Device.name g.S.Frozen.Frozen.size
    g.S.Watch.Watch.counts)) c.in_err-answer.field-0.0 known (requests_of c.args.self.now.window) c.answer.new.keeper (g.O.Sink.taken c.args.sink.now)
    (g.O.Sink.taken c.args.sink.now)
    c.in_err-answer.ensures.kinds (λ only w is. c.in_err-answer.ensures.undamaged only w
    (subst ((ServesAt (eyes g.S.Store.history g.S.Device.Device.history g.S.Frozen.Frozen.content g.S.Device.Device.name g.S.Frozen.Frozen.size
    g.S.Watch.Watch.counts)) c.args.self.now.keeper) is holds)) (Keeps-refl (g.O.Sink.taken c.args.sink.now)) (c.in_err-answer.ensures.left known holds))

pub returns-in_err-answer-clause-cause : goal.returns-in_err-answer-clause-cause
returns-in_err-answer-clause-cause g c =
    let p = err_from_is_err_and c.from_residual.result c.from_residual.ensures.1 in
    rw (p.1, p.2) (store_failed c.in_err-answer.field-0.0 (g.O.Sink.faults c.args.sink.now) ((faults_kept g.S.Watch.Watch.counts) c.args.self.now.keeper)
    ((faults_kept g.S.Watch.Watch.counts) c.answer.new.keeper) (IsTrueHere g.S.Store.history g.S.Device.Device.history g.S.Frozen.Frozen.content
    c.answer.new.keeper) c.in_err-answer.ensures.kinds c.in_err-answer.ensures.cause)

pub returns-clause-written : goal.returns-clause-written
returns-clause-written g c =
    on_ok_weaker c.settle_and_write.result (λ writes known holds. writes known (requests_of c.args.self.now.window) (c.in_ok-answer.ensures.answered known holds)) c.settle_and_write.ensures.written

pub returns-clause-fault : goal.returns-clause-fault
returns-clause-fault g c =
    IfErr-weaker c.settle_and_write.result _ _ (λ f fails known holds. fails known (requests_of c.args.self.now.window) (c.in_ok-answer.ensures.answered known holds)) c.settle_and_write.ensures.fault

pub returns-clause-cause : goal.returns-clause-cause
returns-clause-cause g c =
    window_behind_call (fault_in c.settle_and_write.result) _ _ _ _ _ _ _ c.in_ok-answer.ensures.cause c.settle_and_write.ensures.cause
