use Rattle.std.proofs.Common.{◌≡◌, ◌<◌, ◌≤◌, [], ◌∷◌, ap, sym, subst, ◌∙◌}
use Rattle.tc_keeper.proofs.PlaceLaws.{at_each-length}
use Rattle.tc_keeper.specs.Moving.{Flushes, FailsFlushing}
use Rattle.tc_request_model.specs.Request.{flush}
use Rattle.tc_work.specs.declared.fault.EngineFault.TheVariants as engine
use Rattle.std.specs.Prelude.{Err}
use Rattle.tc_work.specs.Moving.{eyes}
use Rattle.tc_keeper.specs.Calls.{faults_at}
use Rattle.tc_keeper.specs.Faults.{IsNoDamage}
use Rattle.tc_keeper.proofs.EnginesAsked.{asked_behind, flushed_all, moved_readers, moved_settings, sound_all, stopped_readers, stopped_settings}
use Rattle.tc_keeper.proofs.EngineCauses.{call_caused, caused_none, moved_stayed}
use Rattle.tc_keeper.proofs.EngineWorlds.{call_undamaged, on_err, on_ok, stand_after}
use Rattle.tc_keeper.proofs.answering.flush_all.Goals as goal

pub force_flush-requires-clause-few : goal.force_flush-requires-clause-few
force_flush-requires-clause-few g c κs within = c.requires.works.1

pub force_flush-requires-clause-sound : goal.force_flush-requires-clause-sound
force_flush-requires-clause-sound g c κs within = sound_all (eyes g.S.Store.history g.S.Device.Device.history g.S.Frozen.Frozen.content g.S.Device.Device.name g.S.Frozen.Frozen.size g.S.Watch.Watch.counts) c.args.engines.now c.requires.works.2

pub returns-in-Ok-clause-works : goal.returns-in-Ok-clause-works
returns-in-Ok-clause-works g c =
    let es = c.args.engines.now in
    let same = at_each-length (λ p old new. Flushes _ _ old new) 0 es c.force_flush.new.self c.in-Ok.ensures.flushed in (
      subst (λ n. 0 < n) same c.requires.works.0,
      subst (λ n. n ≤ 16) same c.requires.works.1,
      asked_behind
          (eyes g.S.Store.history g.S.Device.Device.history g.S.Frozen.Frozen.content g.S.Device.Device.name g.S.Frozen.Frozen.size g.S.Watch.Watch.counts)
          (λ old new. Flushes (eyes g.S.Store.history g.S.Device.Device.history g.S.Frozen.Frozen.content g.S.Device.Device.name g.S.Frozen.Frozen.size
          g.S.Watch.Watch.counts) g.S.Device.Device.size old new) 0 es c.force_flush.new.self (λ old new d. d.stays) c.requires.works.2 c.in-Ok.ensures.flushed,
    )

pub returns-in-Ok-clause-emptied : goal.returns-in-Ok-clause-emptied
returns-in-Ok-clause-emptied g c = (flushed_all (eyes g.S.Store.history g.S.Device.Device.history g.S.Frozen.Frozen.content g.S.Device.Device.name g.S.Frozen.Frozen.size g.S.Watch.Watch.counts) g.S.Device.Device.size 0 c.args.engines.now c.force_flush.new.self c.in-Ok.ensures.flushed).1

pub returns-in-Ok-clause-none_sealed : goal.returns-in-Ok-clause-none_sealed
returns-in-Ok-clause-none_sealed g c = (flushed_all (eyes g.S.Store.history g.S.Device.Device.history g.S.Frozen.Frozen.content g.S.Device.Device.name g.S.Frozen.Frozen.size g.S.Watch.Watch.counts) g.S.Device.Device.size 0 c.args.engines.now c.force_flush.new.self c.in-Ok.ensures.flushed).0

pub returns-in-Ok-clause-held : goal.returns-in-Ok-clause-held
returns-in-Ok-clause-held g c = λ known stands. stand_after (eyes g.S.Store.history g.S.Device.Device.history g.S.Frozen.Frozen.content g.S.Device.Device.name
    g.S.Frozen.Frozen.size g.S.Watch.Watch.counts) c.args.engines.now c.force_flush.new.self (flush ∷ []) known stands
    (λ only w h. on_ok c.force_flush.result tt c.in-Ok.is (c.force_flush.ensures.held only w h))

pub returns-in-Ok-clause-settings : goal.returns-in-Ok-clause-settings
returns-in-Ok-clause-settings g c = moved_settings (eyes g.S.Store.history g.S.Device.Device.history g.S.Frozen.Frozen.content g.S.Device.Device.name
    g.S.Frozen.Frozen.size g.S.Watch.Watch.counts) (λ old new. Flushes
    (eyes g.S.Store.history g.S.Device.Device.history g.S.Frozen.Frozen.content g.S.Device.Device.name g.S.Frozen.Frozen.size g.S.Watch.Watch.counts)
    g.S.Device.Device.size old new) c.args.engines.now c.force_flush.new.self (λ old new d. d.moved) c.in-Ok.ensures.flushed

pub returns-in-Ok-clause-cause : goal.returns-in-Ok-clause-cause
returns-in-Ok-clause-cause g c = caused_none (faults_at g.S.Watch.Watch.counts) _ c.args.engines.now c.force_flush.new.self
    (moved_stayed (eyes g.S.Store.history g.S.Device.Device.history g.S.Frozen.Frozen.content g.S.Device.Device.name g.S.Frozen.Frozen.size g.S.Watch.Watch.counts)
    (λ old new. Flushes (eyes g.S.Store.history g.S.Device.Device.history g.S.Frozen.Frozen.content g.S.Device.Device.name g.S.Frozen.Frozen.size
    g.S.Watch.Watch.counts) g.S.Device.Device.size old new) c.args.engines.now c.force_flush.new.self (λ old new d. d.moved) c.in-Ok.ensures.flushed)

pub returns-in-Err-clause-failed : goal.returns-in-Err-clause-failed
returns-in-Err-clause-failed g c = λ only w h. on_err c.force_flush.result c.in-Err.fault c.in-Err.is (c.force_flush.ensures.kept only w h)

pub returns-in-Err-clause-undamaged : goal.returns-in-Err-clause-undamaged
returns-in-Err-clause-undamaged g c = λ only w h. subst (IsNoDamage only) (sym c.of_engines.ensures)
    (call_undamaged (eyes g.S.Store.history g.S.Device.Device.history g.S.Frozen.Frozen.content g.S.Device.Device.name g.S.Frozen.Frozen.size g.S.Watch.Watch.counts)
    c.args.engines.now c.force_flush.new.self only w h (λ old new. Flushes
    (eyes g.S.Store.history g.S.Device.Device.history g.S.Frozen.Frozen.content g.S.Device.Device.name g.S.Frozen.Frozen.size g.S.Watch.Watch.counts)
    g.S.Device.Device.size old new) (λ why old new. FailsFlushing
    (eyes g.S.Store.history g.S.Device.Device.history g.S.Frozen.Frozen.content g.S.Device.Device.name g.S.Frozen.Frozen.size g.S.Watch.Watch.counts) why old new)
    c.in-Err.fault (λ why old new f. f.fails) c.in-Err.ensures.stopped)

pub returns-in-Err-clause-settings : goal.returns-in-Err-clause-settings
returns-in-Err-clause-settings g c =
    stopped_settings (eyes g.S.Store.history g.S.Device.Device.history g.S.Frozen.Frozen.content g.S.Device.Device.name g.S.Frozen.Frozen.size g.S.Watch.Watch.counts)
    (λ old new. Flushes (eyes g.S.Store.history g.S.Device.Device.history g.S.Frozen.Frozen.content g.S.Device.Device.name g.S.Frozen.Frozen.size
    g.S.Watch.Watch.counts) g.S.Device.Device.size old new) (λ why old new. FailsFlushing
    (eyes g.S.Store.history g.S.Device.Device.history g.S.Frozen.Frozen.content g.S.Device.Device.name g.S.Frozen.Frozen.size g.S.Watch.Watch.counts) why old new)
    (λ why. why ≡ engine.Disk) c.in-Err.fault c.args.engines.now c.force_flush.new.self (λ old new d. d.moved) (λ why old new f. f.moved)
    (λ same. c.force_flush.ensures.of_engine (c.in-Err.is ∙ ap Err same)) c.in-Err.ensures.stopped

pub returns-in-Err-clause-cause : goal.returns-in-Err-clause-cause
returns-in-Err-clause-cause g c =
    rw c.of_engines.ensures (call_caused (eyes g.S.Store.history g.S.Device.Device.history g.S.Frozen.Frozen.content g.S.Device.Device.name g.S.Frozen.Frozen.size
    g.S.Watch.Watch.counts) (λ old new. Flushes (eyes g.S.Store.history g.S.Device.Device.history g.S.Frozen.Frozen.content g.S.Device.Device.name
    g.S.Frozen.Frozen.size g.S.Watch.Watch.counts) g.S.Device.Device.size old new)
    (λ why old new. FailsFlushing (eyes g.S.Store.history g.S.Device.Device.history g.S.Frozen.Frozen.content g.S.Device.Device.name g.S.Frozen.Frozen.size
    g.S.Watch.Watch.counts) why old new) c.in-Err.fault c.args.engines.now c.force_flush.new.self (λ old new d. d.moved) (λ why old new f. f.moved)
    (λ why old new f. f.fails)
    c.requires.works.2 (λ same. c.force_flush.ensures.of_engine (c.in-Err.is ∙ ap Err same)) c.in-Err.ensures.stopped)

pub returns-in-Ok-clause-readers : goal.returns-in-Ok-clause-readers
returns-in-Ok-clause-readers g c = moved_readers (eyes g.S.Store.history g.S.Device.Device.history g.S.Frozen.Frozen.content g.S.Device.Device.name
    g.S.Frozen.Frozen.size g.S.Watch.Watch.counts) (λ old new. Flushes
    (eyes g.S.Store.history g.S.Device.Device.history g.S.Frozen.Frozen.content g.S.Device.Device.name g.S.Frozen.Frozen.size g.S.Watch.Watch.counts)
    g.S.Device.Device.size old new) c.args.engines.now c.force_flush.new.self (λ old new d. d.moved) c.in-Ok.ensures.flushed

pub returns-in-Err-clause-readers : goal.returns-in-Err-clause-readers
returns-in-Err-clause-readers g c =
    stopped_readers (eyes g.S.Store.history g.S.Device.Device.history g.S.Frozen.Frozen.content g.S.Device.Device.name g.S.Frozen.Frozen.size g.S.Watch.Watch.counts)
    (λ old new. Flushes (eyes g.S.Store.history g.S.Device.Device.history g.S.Frozen.Frozen.content g.S.Device.Device.name g.S.Frozen.Frozen.size
    g.S.Watch.Watch.counts) g.S.Device.Device.size old new) (λ why old new. FailsFlushing
    (eyes g.S.Store.history g.S.Device.Device.history g.S.Frozen.Frozen.content g.S.Device.Device.name g.S.Frozen.Frozen.size g.S.Watch.Watch.counts) why old new)
    (λ why. why ≡ engine.Disk) c.in-Err.fault c.args.engines.now c.force_flush.new.self (λ old new d. d.moved) (λ why old new f. f.moved)
    (λ same. c.force_flush.ensures.of_engine (c.in-Err.is ∙ ap Err same)) c.in-Err.ensures.stopped
