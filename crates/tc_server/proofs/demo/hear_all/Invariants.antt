-- Lines were taken, and the replies to them heard.
use Rattle.std.proofs.Common.{◌≡◌}
use Rattle.std.specs.Prelude.{None}
use Rattle.tc_gen.specs.Generated.{generated}
use Rattle.tc_work.specs.Moving.{eyes}
use Rattle.tc_keeper.specs.Keeping.{faults_kept, settings_kept, MayServe, ServesAt, IsTrueHere}
use Rattle.tc_keeper.specs.Faults.{HasDiskCause}
use Rattle.tc_server.specs.Stage.{IsReady}
use Rattle.tc_server.proofs.DemoLoops.{ComesOn}
use Rattle.tc_server.proofs.demo.hear_all.Given as goal

abbrev pub invariant-loop : goal.invariant-loop
invariant-loop g l =
    record {
      ready : IsReady (MayServe g.S.Store.history g.S.Device.Device.history g.S.Frozen.Frozen.content) l.session;
      limit : l.session.window.limit ≡ l.fn.session.window.limit;
      settings : settings_kept l.session.keeper ≡ settings_kept l.fn.session.keeper;
      comes : ComesOn (ServesAt (eyes g.S.Store.history g.S.Device.Device.history g.S.Frozen.Frozen.content g.S.Device.Device.name g.S.Frozen.Frozen.size
          g.S.Watch.Watch.counts)) (ServesAt (eyes g.S.Store.history g.S.Device.Device.history g.S.Frozen.Frozen.content g.S.Device.Device.name g.S.Frozen.Frozen.size
          g.S.Watch.Watch.counts) l.fn.session.keeper) (generated l.commands) l.feed l.fn.session.window.limit l.session l.tally;
      cause : HasDiskCause (faults_kept g.S.Watch.Watch.counts l.fn.session.keeper) (faults_kept g.S.Watch.Watch.counts l.session.keeper) (IsTrueHere g.S.Store.history g.S.Device.Device.history g.S.Frozen.Frozen.content l.session.keeper) None;
    }
