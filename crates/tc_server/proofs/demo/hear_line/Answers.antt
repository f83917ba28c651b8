use Rattle.std.proofs.Common.{[], ap, sym, subst}
use Rattle.std.specs.Prelude.{Some}
use Rattle.std.proofs.lemmas.Result.{IfErr-weaker, on_ok_weaker}
use Rattle.tc_edge.specs.Memory.{MemoryOutput}
use Rattle.tc_run_model.specs.Windows.{windows_of}
use Rattle.tc_work.specs.Moving.{eyes}
use Rattle.tc_keeper.specs.Keeping.{faults_kept, FailsAt, ServesAt, IsTrueHere}
use Rattle.tc_keeper.specs.Sight.{sight_behind}
use Rattle.tc_server.specs.Stage.{IsAt}
use Rattle.tc_server.proofs.DemoCauses.{heard_cause, memory_cause, memory_kind}
use Rattle.tc_server.proofs.DemoLemmas.{fails_line, hears_line, line_unheard, stands_fresh}
use Rattle.tc_server.proofs.DemoWindows.{fresh}
use Rattle.tc_server.proofs.demo.hear_line.Goals as goal

pub returns-in-Ok-clause-heard : goal.returns-in-Ok-clause-heard
returns-in-Ok-clause-heard g c =
    let holds = ServesAt (eyes g.S.Store.history g.S.Device.Device.history g.S.Frozen.Frozen.content g.S.Device.Device.name g.S.Frozen.Frozen.size g.S.Watch.Watch.counts) in
    let keeps = FailsAt (eyes g.S.Store.history g.S.Device.Device.history g.S.Frozen.Frozen.content g.S.Device.Device.name g.S.Frozen.Frozen.size g.S.Watch.Watch.counts) in
    let session = c.args.session.now in
    let limit = session.window.limit in
    let empty = ap (λ (s : MemoryOutput). s.taken) c.new-replies.ensures in
    on_ok_weaker c.heard.result (λ hears first seen few h.
    let known = sight_behind first (windows_of limit seen).closed in
    let begun = subst (λ taken. IsAt holds known (Some []) (fresh (windows_of limit seen)) session (Some taken)) (sym empty) (stands_fresh holds keeps first (windows_of limit seen) session c.args.tally.now h) in
    hears_line holds keeps first limit seen c.args.line session c.take_whole.new.self c.args.tally.now c.take_whole.new.sink.taken h (c.in-Ok.ensures.ok known (Some []) (fresh (windows_of limit seen)) begun) c.heard.new.tally few hears)
    c.heard.ensures.ok

pub returns-in-Ok-clause-fault : goal.returns-in-Ok-clause-fault
returns-in-Ok-clause-fault g c =
    let holds = ServesAt (eyes g.S.Store.history g.S.Device.Device.history g.S.Frozen.Frozen.content g.S.Device.Device.name g.S.Frozen.Frozen.size g.S.Watch.Watch.counts) in
    let keeps = FailsAt (eyes g.S.Store.history g.S.Device.Device.history g.S.Frozen.Frozen.content g.S.Device.Device.name g.S.Frozen.Frozen.size g.S.Watch.Watch.counts) in
    let session = c.args.session.now in
    let limit = session.window.limit in
    let empty = ap (λ (s : MemoryOutput). s.taken) c.new-replies.ensures in
    IfErr-weaker c.heard.result _ _ (λ f memory. rw memory (λ first seen h.
    let known = sight_behind first (windows_of limit seen).closed in
    let begun = subst (λ taken. IsAt holds known (Some []) (fresh (windows_of limit seen)) session (Some taken)) (sym empty) (stands_fresh holds keeps first (windows_of limit seen) session c.args.tally.now h) in
    line_unheard holds keeps first limit seen c.args.line session c.take_whole.new.self c.args.tally.now c.take_whole.new.sink.taken h (c.in-Ok.ensures.ok known (Some []) (fresh (windows_of limit seen)) begun)))
    c.heard.ensures.memory

pub returns-in-Ok-clause-kinds : goal.returns-in-Ok-clause-kinds
returns-in-Ok-clause-kinds g c = IfErr-weaker c.heard.result _ _ (λ f memory. rw memory tt) c.heard.ensures.memory

pub returns-in-Ok-clause-cause : goal.returns-in-Ok-clause-cause
returns-in-Ok-clause-cause g c =
    heard_cause c.heard.result (faults_kept g.S.Watch.Watch.counts c.args.session.now.keeper) (faults_kept g.S.Watch.Watch.counts c.take_whole.new.self.keeper) _
    (IsTrueHere g.S.Store.history g.S.Device.Device.history g.S.Frozen.Frozen.content c.take_whole.new.self.keeper) c.in-Ok.ensures.cause.disks
    c.heard.ensures.memory

pub returns-clause-fault : goal.returns-clause-fault
returns-clause-fault g c =
    let holds = ServesAt (eyes g.S.Store.history g.S.Device.Device.history g.S.Frozen.Frozen.content g.S.Device.Device.name g.S.Frozen.Frozen.size g.S.Watch.Watch.counts) in
    let keeps = FailsAt (eyes g.S.Store.history g.S.Device.Device.history g.S.Frozen.Frozen.content g.S.Device.Device.name g.S.Frozen.Frozen.size g.S.Watch.Watch.counts) in
    let session = c.args.session.now in
    let limit = session.window.limit in
    let empty = ap (λ (s : MemoryOutput). s.taken) c.new-replies.ensures in
    rw c.in_memory.ensures (λ first seen h.
    let known = sight_behind first (windows_of limit seen).closed in
    let begun = subst (λ taken. IsAt holds known (Some []) (fresh (windows_of limit seen)) session (Some taken)) (sym empty) (stands_fresh holds keeps first (windows_of limit seen) session c.args.tally.now h) in
    fails_line holds keeps first limit seen c.args.line session c.args.tally.now (Some c.take_whole.new.sink.taken) c.in-Err.fault c.take_whole.new.self.keeper h (c.in-Err.ensures.fault known (Some []) (fresh (windows_of limit seen)) begun))

pub returns-clause-kinds : goal.returns-clause-kinds
returns-clause-kinds g c = rw c.in_memory.ensures (memory_kind c.in-Err.fault c.in-Err.ensures.cause.kind)

pub returns-clause-cause : goal.returns-clause-cause
returns-clause-cause g c = rw c.in_memory.ensures (memory_cause c.in-Err.fault _ _ _ c.in-Err.ensures.cause.disks)
