use Rattle.std.proofs.Common.{◌<◌, length, take, subst}
use Rattle.std.specs.Io.KnownBytes.{Appends}
use Rattle.std.proofs.KnownBytes.{Keeps-refl}
use Rattle.std.proofs.lemmas.Result.{err_from_is_err_and}
use Rattle.tc_run_model.specs.World.{after_all}
use Rattle.tc_work.specs.Moving.{eyes}
use Rattle.tc_server.proofs.Answering.{all_written, left_behind, none_written, part_written}
use Rattle.tc_keeper.proofs.Causes.{all_done, store_failed, write_failed}
use Rattle.tc_keeper.specs.Keeping.{faults_kept, FailsAt, ServesAt, IsTrueHere}
use Rattle.tc_keeper.specs.Sight.{sight_after}
use Rattle.tc_server.proofs.session.Session+Keeper+S+P.settle_and_write.Goals as goal

pub returns-in_err-settle-clause-fault : goal.returns-in_err-settle-clause-fault
returns-in_err-settle-clause-fault g c =
    let p = err_from_is_err_and c.from_residual.result c.from_residual.ensures.1 in
    let old = c.args.self.now.keeper in
    rw (p.1, p.2) (λ known rs answered.
    none_written (ServesAt (eyes g.S.Store.history g.S.Device.Device.history g.S.Frozen.Frozen.content g.S.Device.Device.name g.S.Frozen.Frozen.size
    g.S.Watch.Watch.counts)) (FailsAt (eyes g.S.Store.history g.S.Device.Device.history g.S.Frozen.Frozen.content g.S.Device.Device.name g.S.Frozen.Frozen.size
    g.S.Watch.Watch.counts)) c.in_err-settle.field-0.0 known rs c.settle.new.self (g.O.Sink.taken c.args.sink.now) (g.O.Sink.taken c.args.sink.now)
    c.in_err-settle.ensures.kinds
    (λ only w is. c.in_err-settle.ensures.undamaged only (after_all rs w) (subst (λ known. (ServesAt (eyes g.S.Store.history g.S.Device.Device.history g.S.Frozen.Frozen.content g.S.Device.Device.name g.S.Frozen.Frozen.size g.S.Watch.Watch.counts)) old (sight_after rs known)) is answered.held))
    (Keeps-refl (g.O.Sink.taken c.args.sink.now))
    (left_behind (ServesAt (eyes g.S.Store.history g.S.Device.Device.history g.S.Frozen.Frozen.content g.S.Device.Device.name g.S.Frozen.Frozen.size
    g.S.Watch.Watch.counts)) (FailsAt (eyes g.S.Store.history g.S.Device.Device.history g.S.Frozen.Frozen.content g.S.Device.Device.name g.S.Frozen.Frozen.size
    g.S.Watch.Watch.counts)) c.settle.new.self rs known (λ only w is. c.in_err-settle.ensures.failed only w
    (subst ((ServesAt (eyes g.S.Store.history g.S.Device.Device.history g.S.Frozen.Frozen.content g.S.Device.Device.name g.S.Frozen.Frozen.size
    g.S.Watch.Watch.counts)) old) is answered.held))))

pub returns-in_err-settle-clause-cause : goal.returns-in_err-settle-clause-cause
returns-in_err-settle-clause-cause g c =
    let p = err_from_is_err_and c.from_residual.result c.from_residual.ensures.1 in
    rw (p.1, p.2) (store_failed c.in_err-settle.field-0.0 (g.O.Sink.faults c.args.sink.now) ((faults_kept g.S.Watch.Watch.counts) c.args.self.now.keeper)
    ((faults_kept g.S.Watch.Watch.counts) c.settle.new.self) (IsTrueHere g.S.Store.history g.S.Device.Device.history g.S.Frozen.Frozen.content c.settle.new.self)
    c.in_err-settle.ensures.kinds c.in_err-settle.ensures.cause)

pub returns-in_err-write_all-clause-fault : goal.returns-in_err-write_all-clause-fault
returns-in_err-write_all-clause-fault g c =
    let p = err_from_is_err_and c.from_residual-in_err-write_all.result c.from_residual-in_err-write_all.ensures.1 in
    let n = c.in_err-write_all.field-0.0.taken in
    rw (p.1, p.2) (λ known rs answered.
    part_written (ServesAt (eyes g.S.Store.history g.S.Device.Device.history g.S.Frozen.Frozen.content g.S.Device.Device.name g.S.Frozen.Frozen.size
    g.S.Watch.Watch.counts)) (FailsAt (eyes g.S.Store.history g.S.Device.Device.history g.S.Frozen.Frozen.content g.S.Device.Device.name g.S.Frozen.Frozen.size
    g.S.Watch.Watch.counts)) n known rs c.args.self.now.replies.items c.args.self.now.keeper c.settle.new.self (g.O.Sink.taken c.args.sink.now)
    (g.O.Sink.taken c.write_all.new.sink) answered
    (c.in_ok-settle.ensures.held (sight_after rs known))
    (subst (λ bytes. n < length bytes) c.as_slice.ensures.value c.in_err-write_all.ensures.within)
    (subst (λ bytes. Appends (g.O.Sink.taken c.args.sink.now) (g.O.Sink.taken c.write_all.new.sink) (take n bytes)) c.as_slice.ensures.value c.in_err-write_all.ensures.err))

pub returns-in_err-write_all-clause-cause : goal.returns-in_err-write_all-clause-cause
returns-in_err-write_all-clause-cause g c =
    let p = err_from_is_err_and c.from_residual-in_err-write_all.result c.from_residual-in_err-write_all.ensures.1 in
    rw (p.1, p.2) (write_failed c.in_err-write_all.field-0.0.taken (g.O.Sink.faults c.args.sink.now) (g.O.Sink.faults c.write_all.new.sink)
    ((faults_kept g.S.Watch.Watch.counts) c.args.self.now.keeper) ((faults_kept g.S.Watch.Watch.counts) c.settle.new.self) _
    (IsTrueHere g.S.Store.history g.S.Device.Device.history g.S.Frozen.Frozen.content c.settle.new.self) c.in_ok-settle.ensures.cause
    c.in_err-write_all.ensures.cause.kept c.in_err-write_all.ensures.cause.failed)

pub returns-clause-written : goal.returns-clause-written
returns-clause-written g c = λ known rs answered.
    all_written (ServesAt (eyes g.S.Store.history g.S.Device.Device.history g.S.Frozen.Frozen.content g.S.Device.Device.name g.S.Frozen.Frozen.size
    g.S.Watch.Watch.counts)) known rs c.args.self.now.replies.items c.args.self.now.keeper c.settle.new.self (g.O.Sink.taken c.args.sink.now)
    (g.O.Sink.taken c.write_all.new.sink) answered
    (c.in_ok-settle.ensures.held (sight_after rs known))
    (subst (Appends (g.O.Sink.taken c.args.sink.now) (g.O.Sink.taken c.write_all.new.sink)) c.as_slice.ensures.value c.in_ok-write_all.ensures.ok)

pub returns-clause-cause : goal.returns-clause-cause
returns-clause-cause g c =
    all_done (g.O.Sink.faults c.args.sink.now) (g.O.Sink.faults c.write_all.new.sink) ((faults_kept g.S.Watch.Watch.counts) c.args.self.now.keeper)
    ((faults_kept g.S.Watch.Watch.counts) c.settle.new.self) _ (IsTrueHere g.S.Store.history g.S.Device.Device.history g.S.Frozen.Frozen.content c.settle.new.self)
    c.in_ok-settle.ensures.cause c.in_ok-write_all.ensures.cause.kept
