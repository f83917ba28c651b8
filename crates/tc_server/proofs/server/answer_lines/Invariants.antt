use Rattle.std.proofs.Common.{◌≡◌, false}
use Rattle.std.specs.Prelude.{None}
use Rattle.tc_work.specs.Moving.{eyes}
use Rattle.tc_keeper.specs.Faults.{HasRunCauses}
use Rattle.tc_server.specs.Progress.{HasCome}
use Rattle.tc_keeper.specs.Sight.{Sight}
use Rattle.tc_server.specs.Stage.{IsReady}
use Rattle.tc_keeper.specs.Keeping.{faults_kept, settings_kept, IsTrueHere, MayServe, ServesAt}
use Rattle.tc_server.proofs.server.answer_lines.Given as goal

-- lines were taken, and the session stands behind them
abbrev pub invariant-loop : goal.invariant-loop
invariant-loop g l =
    record {
      works : l.lines.failed ≡ false;
      most : l.lines.limit ≡ 1048576;
      ready : IsReady (MayServe g.S.Store.history g.S.Device.Device.history g.S.Frozen.Frozen.content) l.session;
      limit : l.session.window.limit ≡ l.fn.session.window.limit;
      settings : settings_kept l.session.keeper ≡ settings_kept l.fn.session.keeper;
      come : (first : Sight) → (ServesAt (eyes g.S.Store.history g.S.Device.Device.history g.S.Frozen.Frozen.content g.S.Device.Device.name g.S.Frozen.Frozen.size g.S.Watch.Watch.counts)) l.fn.session.keeper first
          → HasCome (ServesAt (eyes g.S.Store.history g.S.Device.Device.history g.S.Frozen.Frozen.content g.S.Device.Device.name g.S.Frozen.Frozen.size
          g.S.Watch.Watch.counts)) first l.lines l.session (g.I.Source.left l.fn.source) (g.I.Source.left l.source) (g.O.Sink.taken l.fn.sink)
          (g.O.Sink.taken l.sink) (g.I.Source.moments l.fn.source) (g.I.Source.moments l.source);
      cause : HasRunCauses (g.I.Source.faults l.fn.source) (g.I.Source.faults l.source) (g.O.Sink.faults l.fn.sink) (g.O.Sink.faults l.sink)
          ((faults_kept g.S.Watch.Watch.counts) l.fn.session.keeper) ((faults_kept g.S.Watch.Watch.counts) l.session.keeper)
          (IsTrueHere g.S.Store.history g.S.Device.Device.history g.S.Frozen.Frozen.content l.session.keeper) None;
    }
