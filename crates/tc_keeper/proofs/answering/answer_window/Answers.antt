use Rattle.std.proofs.Common.{◌≡◌, ◌<◌, ◌≤◌, map, subst, sym}
use Rattle.std.specs.Prelude.{IfOk}
use Rattle.tc_keeper.proofs.PlaceLaws.{at_each-length}
use Rattle.tc_keeper.specs.Running.{HasOnlyRun}
use Rattle.tc_work.specs.Moving.{eyes}
use Rattle.tc_route.specs.Answers.{window_answered}
use Rattle.tc_model.specs.Keyed.{on_value}
use Rattle.tc_request_model.specs.Rendered.{rendered}
use Rattle.tc_route.specs.Meaning.{rendered_in, routed_of}
use Rattle.tc_keeper.specs.Standing.{KeepWorlds}
use Rattle.tc_run_model.specs.World.{after_all}
use Rattle.tc_work.specs.Asked.{requests_in}
use Rattle.tc_keeper.specs.Faults.{IsNoDamage}
use Rattle.tc_keeper.specs.Partitions.{StandAt}
use Rattle.tc_keeper.specs.Sight.{sight_after}
use Rattle.tc_keeper.specs.Calls.{faults_at}
use Rattle.tc_keeper.proofs.EnginesAsked.{asked_after, ran_readers, ran_settings, sound_all}
use Rattle.tc_keeper.proofs.EngineCauses.{caused_none, caused_window, ran_stayed, window_met, window_rose}
use Rattle.tc_keeper.proofs.EngineWorlds.{on_err, on_ok, stand_after, window_replied, window_undamaged}
use Rattle.tc_keeper.proofs.WindowLengths.{all_for_part, is_window, requests_same}
use Rattle.tc_keeper.proofs.answering.answer_window.Goals as goal

pub window-requires-clause-some : goal.window-requires-clause-some
window-requires-clause-some g c κs within = c.requires.works.0

pub window-requires-clause-few : goal.window-requires-clause-few
window-requires-clause-few g c κs within = c.requires.works.1

pub window-requires-clause-sound : goal.window-requires-clause-sound
window-requires-clause-sound g c κs within = sound_all (eyes g.S.Store.history g.S.Device.Device.history g.S.Frozen.Frozen.content g.S.Device.Device.name g.S.Frozen.Frozen.size g.S.Watch.Watch.counts) c.args.engines.now c.requires.works.2

pub window-requires-clause-window : goal.window-requires-clause-window
window-requires-clause-window g c κs within = is_window c.record_within_weight.ensures c.args.commands.items c.requires.together

pub window-requires-clause-ascending : goal.window-requires-clause-ascending
window-requires-clause-ascending g c κs within = c.requires.together.ascending

pub returns-in-Ok-clause-works : goal.returns-in-Ok-clause-works
returns-in-Ok-clause-works g c =
    let es = c.args.engines.now in
    let same = at_each-length (λ p old new. HasOnlyRun old.engine.part new.engine.part × (new.engine.policy ≡ old.engine.policy) × (new.jobs ≡ old.jobs)) 0 es c.window.new.self c.window.ensures.ran.same in (
      subst (λ n. 0 < n) same c.requires.works.0,
      subst (λ n. n ≤ 16) same c.requires.works.1,
      asked_after
          (eyes g.S.Store.history g.S.Device.Device.history g.S.Frozen.Frozen.content g.S.Device.Device.name g.S.Frozen.Frozen.size g.S.Watch.Watch.counts) 0 es
          c.window.new.self c.requires.works.2 c.in-Ok.ensures.well.sound c.in-Ok.ensures.well.log_out,
    )

pub returns-in-Ok-clause-replies : goal.returns-in-Ok-clause-replies
returns-in-Ok-clause-replies g c = λ known stands.
    window_replied (eyes g.S.Store.history g.S.Device.Device.history g.S.Frozen.Frozen.content g.S.Device.Device.name g.S.Frozen.Frozen.size g.S.Watch.Watch.counts)
    c.args.engines.now c.args.commands.items known (rendered_in c.in-Ok.replies) stands (all_for_part c.args.commands.items c.requires.together)
    c.in-Ok.ensures.kinds
    (λ w h. subst (λ r. IfOk r (λ replies. rendered_in replies ≡ map (on_value rendered) (window_answered (map routed_of c.args.commands.items) w))) c.in-Ok.is (c.window.ensures.replies w h))

pub returns-in-Ok-clause-held : goal.returns-in-Ok-clause-held
returns-in-Ok-clause-held g c = λ known stands.
    subst (λ rs. StandAt (eyes g.S.Store.history g.S.Device.Device.history g.S.Frozen.Frozen.content g.S.Device.Device.name g.S.Frozen.Frozen.size g.S.Watch.Watch.counts) c.window.new.self (sight_after rs known)) (requests_same c.args.commands.items)
    (stand_after (eyes g.S.Store.history g.S.Device.Device.history g.S.Frozen.Frozen.content g.S.Device.Device.name g.S.Frozen.Frozen.size g.S.Watch.Watch.counts)
    c.args.engines.now c.window.new.self (requests_in c.args.commands.items) known stands
    (λ only w h. on_ok c.window.result c.in-Ok.replies c.in-Ok.is (c.window.ensures.held only w h)))

pub returns-in-Ok-clause-settings : goal.returns-in-Ok-clause-settings
returns-in-Ok-clause-settings g c = ran_settings c.args.engines.now c.window.new.self c.window.ensures.ran.same

pub returns-in-Ok-clause-cause : goal.returns-in-Ok-clause-cause
returns-in-Ok-clause-cause g c = caused_none (faults_at g.S.Watch.Watch.counts) _ c.args.engines.now c.window.new.self (ran_stayed g.S.Watch.Watch.counts (λ p old. _) (λ p. _) c.args.engines.now c.window.new.self c.window.ensures.counted c.window.ensures.ran.same)

pub returns-in-Err-clause-failed : goal.returns-in-Err-clause-failed
returns-in-Err-clause-failed g c = λ only w h.
    subst (λ rs. KeepWorlds (eyes g.S.Store.history g.S.Device.Device.history g.S.Frozen.Frozen.content g.S.Device.Device.name g.S.Frozen.Frozen.size
    g.S.Watch.Watch.counts) only c.window.new.self w (after_all rs w)) (requests_same c.args.commands.items)
    (on_err c.window.result c.in-Err.fault c.in-Err.is (c.window.ensures.kept only w h))

pub returns-in-Err-clause-undamaged : goal.returns-in-Err-clause-undamaged
returns-in-Err-clause-undamaged g c = λ only w h.
    subst (IsNoDamage only) (sym c.of_window.ensures) (window_undamaged
    (eyes g.S.Store.history g.S.Device.Device.history g.S.Frozen.Frozen.content g.S.Device.Device.name g.S.Frozen.Frozen.size g.S.Watch.Watch.counts)
    c.args.engines.now c.window.new.self only w h g.S.Frozen.Frozen.content (λ q. _) c.in-Err.fault c.in-Err.ensures.first)

pub returns-in-Err-clause-settings : goal.returns-in-Err-clause-settings
returns-in-Err-clause-settings g c = ran_settings c.args.engines.now c.window.new.self c.window.ensures.ran.same

pub returns-in-Err-clause-cause : goal.returns-in-Err-clause-cause
returns-in-Err-clause-cause g c =
    let stayed = ran_stayed g.S.Watch.Watch.counts (λ p old. _) (λ p. _) c.args.engines.now c.window.new.self c.window.ensures.counted c.window.ensures.ran.same in
    rw c.of_window.ensures (caused_window (faults_at g.S.Watch.Watch.counts) _ c.in-Err.fault c.args.engines.now c.window.new.self stayed
    (window_rose g.S.Watch.Watch.counts (λ p old. _) (λ p why. _) c.in-Err.fault c.window.result c.args.engines.now c.window.new.self c.in-Err.is c.in-Err.ensures.first c.window.ensures.counted)
    (window_met (eyes g.S.Store.history g.S.Device.Device.history g.S.Frozen.Frozen.content g.S.Device.Device.name g.S.Frozen.Frozen.size g.S.Watch.Watch.counts) (λ q. _) c.in-Err.fault c.args.engines.now c.window.new.self c.window.ensures.ran.same c.in-Err.ensures.first))

pub returns-in-Ok-clause-readers : goal.returns-in-Ok-clause-readers
returns-in-Ok-clause-readers g c = ran_readers c.args.engines.now c.window.new.self c.window.ensures.ran.same

pub returns-in-Err-clause-readers : goal.returns-in-Err-clause-readers
returns-in-Err-clause-readers g c = ran_readers c.args.engines.now c.window.new.self c.window.ensures.ran.same
