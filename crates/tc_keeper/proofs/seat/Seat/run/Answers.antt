use Rattle.std.proofs.lemmas.Result.{on_err_weaker, on_ok_weaker}
use Rattle.tc_work.specs.Committed.{Commits, FailsWindow}
use Rattle.tc_work.specs.Moving.{eyes}
use Rattle.tc_keeper.proofs.EngineRan.{left_failed, only_run, places_read, run_staffed, still_sound, still_staged}
use Rattle.tc_keeper.proofs.seat.Seat.run.Goals as goal

pub returns-clause-ran : goal.returns-clause-ran
returns-clause-ran g c =
    let ran = c.window.ensures in record {
      replies = ran.replies;
      places = places_read c.window.result c.args.list.now ran.places;
      kinds = ran.kinds;
      windowed = on_ok_weaker c.window.result (λ (k : Commits _ _ _ _). k.windowed) ran.commits;
      sound = still_sound c.window.result c.args.self.now.engine.part c.window.new.self.part c.requires.sound ran.same;
      same = only_run c.window.result c.args.self.now.engine.part c.window.new.self.part ran.same (on_err_weaker c.window.result (λ (k : FailsWindow _ _ _ _). k.left) ran.fails);
      unstaged = still_staged c.window.result c.args.self.now.engine.part c.window.new.self.part ran.same;
      policy = ran.kept.policy;
      staffed = λ jobs. run_staffed c.window.result (eyes g.S.Store.history g.S.Device.Device.history g.S.Frozen.Frozen.content g.S.Device.Device.name
          g.S.Frozen.Frozen.size g.S.Watch.Watch.counts) c.args.self.now.engine c.window.new.self jobs c.requires.sound (ran.kept.jobs jobs) (on_ok_weaker c.window.result (λ (k : Commits _ _ _ _). k.ready) ran.commits)
          (left_failed c.window.result c.args.self.now.engine.part c.window.new.self.part (on_err_weaker c.window.result (λ (k : FailsWindow _ _ _ _). k.left) ran.fails))
          (λ holds. record { tells = ran.kept.tells holds.tells; only = ran.kept.devices holds.only });
      ready = on_ok_weaker c.window.result (λ (k : Commits _ _ _ _). k.ready) ran.commits;
      tells = on_ok_weaker c.window.result (λ (k : Commits _ _ _ _). k.tells) ran.commits;
      devices = ran.kept.devices;
      log_out = on_ok_weaker c.window.result (λ (k : Commits _ _ _ _). k.log_out) ran.commits;
      log_out_spent = λ is. (ran.spent is).log_out;
      unwritten = on_ok_weaker c.window.result (λ (k : Commits _ _ _ _). k.unwritten) ran.commits;
      looked_up = on_ok_weaker c.window.result (λ (k : Commits _ _ _ _). k.looked_up) ran.commits;
      few_writes = on_ok_weaker c.window.result (λ (k : Commits _ _ _ _). k.few_writes) ran.commits;
      at_moments = ran.moments;
      failed = on_err_weaker c.window.result (λ (k : FailsWindow _ _ _ _). k.failed) ran.fails;
      left = left_failed c.window.result c.args.self.now.engine.part c.window.new.self.part (on_err_weaker c.window.result (λ (k : FailsWindow _ _ _ _). k.left) ran.fails);
      harmed = ran.harmed;
      undamaged = ran.undamaged;
      spent = λ is. (ran.spent is).most;
      unspent = λ is. (ran.spent is).unspent;
      counted = ran.counted;
    }
