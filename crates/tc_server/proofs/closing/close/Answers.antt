use Rattle.tc_work.specs.JobsOut.{watched_part}
use Rattle.tc_keeper.proofs.EngineWorlds.{on_ok}
use Rattle.tc_server.proofs.FinishedFiles.{last_left}
use Rattle.tc_server.proofs.KitCounts.{closed_rose, closed_stays}
use Rattle.tc_server.proofs.closing.close.Goals as goal

pub returns : goal.returns
returns g c =
    let part = c.args.engine.part in
    let end = c.finish.result in
    let disks = g.S.Store.history end.kit.store in
    record {
      home = c.finish.ensures.ends.brought_in c.requires.devices.tells c.requires.devices.only;
      keeps = c.finish.ensures.ends.kept;
      failed = c.finish.ensures.ends.failed;
      opens = c.finish.ensures.ends.opens;
      last = λ spent. last_left disks part.generation spent.last (on_ok end.outcome tt (c.finish.ensures.ends.outcome spent.failed) c.finish.ensures.ends.log spent.log);
      none_fell = closed_stays g.S.Watch.Watch.counts end.kit (watched_part part c.args.jobs) _ c.finish.ensures.ends.watched c.finish.ensures.ends.reader;
      disk = closed_rose g.S.Watch.Watch.counts end.kit (watched_part part c.args.jobs) _ c.finish.ensures.ends.watched;
      own = c.components_are_own.ensures;
      damaged = c.finish.ensures.ends.damaged;
      undamaged = c.finish.ensures.ends.undamaged;
      unspent = c.finish.ensures.ends.unspent;
    }
