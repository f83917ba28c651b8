use Rattle.std.proofs.Common.{◌∙◌, Err, ap, ap₂, sym}
use Rattle.std.proofs.lemmas.Bool.{true≢false}
use Rattle.tc_work.specs.Moving.{beside, eyes}
use Rattle.tc_keeper.specs.WithJobs.{engine_with}
use Rattle.tc_keeper.proofs.EnginesMoved.{failed_kept, holds_still}
use Rattle.tc_keeper.proofs.flushing.flush_one.Goals as goal

pub returns-in-Ok-clause-staffed : goal.returns-in-Ok-clause-staffed
returns-in-Ok-clause-staffed g c = record {
  out = c.force_flush.ensures.moves.keeps.jobs;
  ready = λ is. c.in-Ok.ensures.moves.well.stays.ready;
  devices = holds_still
      (eyes g.S.Store.history g.S.Device.Device.history g.S.Frozen.Frozen.content g.S.Device.Device.name g.S.Frozen.Frozen.size g.S.Watch.Watch.counts) _
      (beside c.args.seat.now.engine.part c.args.running.now) (beside c.force_flush.new.self.part c.force_flush.new.jobs) c.force_flush.ensures.moves.keeps c.requires.staffed.devices;
}

pub returns-in-Ok-clause-flushed : goal.returns-in-Ok-clause-flushed
returns-in-Ok-clause-flushed g c =
    let done = c.in-Ok.ensures in
    let all = c.force_flush.ensures in record {
      stays = record { stores = done.moves.well.stays.stores; sound = done.moves.well.sound; ready = done.moves.well.stays.ready; log_out = done.moves.well.log_out; untold = done.moves.keeps.untold };
      flushed = record {
        nothing = λ short none. ap₂ engine_with (all.nothing short none).0 (all.nothing short none).1;
        written = done.written;
        unwritten = done.unwritten;
        listed = done.listed;
        empty = done.empty;
        none_sealed = done.none_sealed;
        emptied = done.emptied;
        flushed = done.flushed;
      };
      moved = record {
        moved = all.moves.keeps.moved;
        policy = all.policy;
        devices = all.moves.keeps.devices;
        at_moments = all.moves.moments;
        next_log = all.moves.next_log;
        watched = record { main = all.moves.keeps.watched.main; flusher = all.moves.keeps.watched.flusher; merger = all.moves.keeps.watched.merger; cause = λ never. absurd never };
      };
    }

pub returns-in-Err-clause-staffed : goal.returns-in-Err-clause-staffed
returns-in-Err-clause-staffed g c = record {
  out = c.force_flush.ensures.moves.keeps.jobs;
  ready = λ is. absurd (true≢false (sym c.in-Err.ensures.left ∙ is));
  devices = holds_still
      (eyes g.S.Store.history g.S.Device.Device.history g.S.Frozen.Frozen.content g.S.Device.Device.name g.S.Frozen.Frozen.size g.S.Watch.Watch.counts) _
      (beside c.args.seat.now.engine.part c.args.running.now) (beside c.force_flush.new.self.part c.force_flush.new.jobs) c.force_flush.ensures.moves.keeps c.requires.staffed.devices;
}

pub returns-in-Err-clause-stopped : goal.returns-in-Err-clause-stopped
returns-in-Err-clause-stopped g c =
    let left = c.in-Err.ensures in
    let all = c.force_flush.ensures in record {
      fails = record {
        failed = left.left;
        kept = failed_kept
            (eyes g.S.Store.history g.S.Device.Device.history g.S.Frozen.Frozen.content g.S.Device.Device.name g.S.Frozen.Frozen.size g.S.Watch.Watch.counts)
            (beside c.args.seat.now.engine.part c.args.running.now) (beside c.force_flush.new.self.part c.force_flush.new.jobs) left.left left.moves.failed;
        damaged = left.moves.damaged;
        undamaged = left.moves.undamaged;
        spent = λ is. all.moves.spent (c.in-Err.is ∙ ap Err is);
        unmoved = λ is. all.moves.unmoved (c.in-Err.is ∙ ap Err is);
        log_out_spent = λ is. all.moves.log_out_spent (c.in-Err.is ∙ ap Err is);
      };
      damaged_alone = left.damaged_alone;
      moved = record {
        moved = all.moves.keeps.moved;
        policy = all.policy;
        devices = all.moves.keeps.devices;
        at_moments = all.moves.moments;
        next_log = all.moves.next_log;
        watched = record { main = all.moves.keeps.watched.main; flusher = all.moves.keeps.watched.flusher; merger = all.moves.keeps.watched.merger; cause = λ is. all.moves.keeps.watched.cause (c.in-Err.is ∙ ap Err is) };
      };
    }
