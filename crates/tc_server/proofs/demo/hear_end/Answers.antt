use Rattle.std.proofs.Common.{ap, subst, arith}
use Rattle.std.specs.Prelude.{Some}
use Rattle.std.proofs.lemmas.Result.{IfErr-weaker, on_ok_weaker}
use Rattle.tc_edge.specs.Memory.{MemoryOutput}
use Rattle.tc_run_model.specs.Windows.{windows_of}
use Rattle.tc_work.specs.Moving.{eyes}
use Rattle.tc_keeper.specs.Keeping.{faults_kept, FailsAt, ServesAt, IsTrueHere}
use Rattle.tc_keeper.specs.Holds.{AreWritten, HaveFailed}
use Rattle.tc_keeper.specs.Sight.{sight_behind}
use Rattle.tc_server.specs.Window.{requests_of}
use Rattle.tc_server.proofs.DemoCauses.{heard_cause, memory_cause, memory_kind}
use Rattle.tc_server.proofs.DemoLemmas.{end_unheard, fails_end, hears_end}
use Rattle.tc_server.proofs.demo.hear_end.Goals as goal

pub close-requires-clause-few : goal.close-requires-clause-few
close-requires-clause-few g c κs within = omega (arith, c.requires.ready.lines, c.requires.ready.limit)

pub close-requires-clause-bytes : goal.close-requires-clause-bytes
close-requires-clause-bytes g c κs within = omega (arith, c.requires.ready.room)

pub returns-in-Ok-clause-heard : goal.returns-in-Ok-clause-heard
returns-in-Ok-clause-heard g c =
    let holds = ServesAt (eyes g.S.Store.history g.S.Device.Device.history g.S.Frozen.Frozen.content g.S.Device.Device.name g.S.Frozen.Frozen.size g.S.Watch.Watch.counts) in
    let keeps = FailsAt (eyes g.S.Store.history g.S.Device.Device.history g.S.Frozen.Frozen.content g.S.Device.Device.name g.S.Frozen.Frozen.size g.S.Watch.Watch.counts) in
    let session = c.args.session.now in
    let limit = session.window.limit in
    let empty = ap (λ (s : MemoryOutput). s.taken) c.new-replies.ensures in
    on_ok_weaker c.heard.result (λ hears first seen few h.
    let known = sight_behind first (windows_of limit seen).closed in
    let written = subst (λ taken. AreWritten holds known (requests_of session.window) (Some taken) (Some c.close.new.sink.taken) c.close.new.self.keeper) empty (c.in-Ok.ensures.written known h.at.store) in
    hears_end holds keeps first limit seen session c.args.tally.now h c.heard.new.tally c.close.new.sink.taken c.close.new.self.keeper few written hears)
    c.heard.ensures.ok

pub returns-in-Ok-clause-fault : goal.returns-in-Ok-clause-fault
returns-in-Ok-clause-fault g c =
    let holds = ServesAt (eyes g.S.Store.history g.S.Device.Device.history g.S.Frozen.Frozen.content g.S.Device.Device.name g.S.Frozen.Frozen.size g.S.Watch.Watch.counts) in
    let keeps = FailsAt (eyes g.S.Store.history g.S.Device.Device.history g.S.Frozen.Frozen.content g.S.Device.Device.name g.S.Frozen.Frozen.size g.S.Watch.Watch.counts) in
    let session = c.args.session.now in
    let limit = session.window.limit in
    let empty = ap (λ (s : MemoryOutput). s.taken) c.new-replies.ensures in
    IfErr-weaker c.heard.result _ _ (λ f memory. rw memory (λ first seen h.
    let known = sight_behind first (windows_of limit seen).closed in
    let written = subst (λ taken. AreWritten holds known (requests_of session.window) (Some taken) (Some c.close.new.sink.taken) c.close.new.self.keeper) empty (c.in-Ok.ensures.written known h.at.store) in
    end_unheard holds keeps first limit seen session c.args.tally.now h c.close.new.sink.taken c.close.new.self.keeper written))
    c.heard.ensures.memory

pub returns-in-Ok-clause-kinds : goal.returns-in-Ok-clause-kinds
returns-in-Ok-clause-kinds g c = IfErr-weaker c.heard.result _ _ (λ f memory. rw memory tt) c.heard.ensures.memory

pub returns-in-Ok-clause-cause : goal.returns-in-Ok-clause-cause
returns-in-Ok-clause-cause g c =
    heard_cause c.heard.result (faults_kept g.S.Watch.Watch.counts c.args.session.now.keeper) (faults_kept g.S.Watch.Watch.counts c.close.new.self.keeper) _
    (IsTrueHere g.S.Store.history g.S.Device.Device.history g.S.Frozen.Frozen.content c.close.new.self.keeper) c.in-Ok.ensures.cause.disks c.heard.ensures.memory

pub returns-clause-fault : goal.returns-clause-fault
returns-clause-fault g c =
    let holds = ServesAt (eyes g.S.Store.history g.S.Device.Device.history g.S.Frozen.Frozen.content g.S.Device.Device.name g.S.Frozen.Frozen.size g.S.Watch.Watch.counts) in
    let keeps = FailsAt (eyes g.S.Store.history g.S.Device.Device.history g.S.Frozen.Frozen.content g.S.Device.Device.name g.S.Frozen.Frozen.size g.S.Watch.Watch.counts) in
    let session = c.args.session.now in
    let limit = session.window.limit in
    let empty = ap (λ (s : MemoryOutput). s.taken) c.new-replies.ensures in
    rw c.in_memory.ensures (λ first seen h.
    let known = sight_behind first (windows_of limit seen).closed in
    let failed = subst (λ taken. HaveFailed holds keeps c.in-Err.fault known (requests_of session.window) (Some taken) (Some c.close.new.sink.taken) c.close.new.self.keeper) empty (c.in-Err.ensures.fault known h.at.store) in
    fails_end holds keeps first limit seen session c.args.tally.now h c.in-Err.fault (Some c.close.new.sink.taken) c.close.new.self.keeper failed)

pub returns-clause-kinds : goal.returns-clause-kinds
returns-clause-kinds g c = rw c.in_memory.ensures (memory_kind c.in-Err.fault c.in-Err.ensures.cause.kind)

pub returns-clause-cause : goal.returns-clause-cause
returns-clause-cause g c = rw c.in_memory.ensures (memory_cause c.in-Err.fault _ _ _ c.in-Err.ensures.cause.disks)
