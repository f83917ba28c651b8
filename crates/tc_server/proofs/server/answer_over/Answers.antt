use Rattle.std.proofs.Common.{◌∙◌, List, map, ap, inr, refl}
use Rattle.tc_keeper.specs.WithJobs.{settings, WithJobs}
use Rattle.tc_keeper.specs.Calls.{IsSpent}
use Rattle.tc_keeper.specs.Partitions.{StandAt}
use Rattle.tc_keeper.specs.Standing.{KeepWorlds}
use Rattle.tc_work.specs.Moving.{eyes}
use Rattle.tc_words.specs.Options.{options_asked}
use Rattle.tc_server.proofs.EndedRuns.{prompt_unread, without_room}
use Rattle.tc_keeper.proofs.BegunKeepers.{begun_causes, begun_works, readers_home, unrun_causes}
use Rattle.tc_server.proofs.server.answer_over.Goals as goal

pub answer_with-requires-clause-works : goal.answer_with-requires-clause-works
answer_with-requires-clause-works g c κs within = begun_works g.S.Store.history g.S.Device.Device.history g.S.Frozen.Frozen.content c.in-Ok.keeper c.args.engines c.in-Ok.ensures.opened.0 c.requires.works

pub returns-in-Ok-clause-ran : goal.returns-in-Ok-clause-ran
returns-in-Ok-clause-ran g c = λ first begins stands. c.answer_with.ensures.ran first (c.in-Ok.ensures.held first begins stands)

pub returns-in-Ok-clause-prompt : goal.returns-in-Ok-clause-prompt
returns-in-Ok-clause-prompt g c = λ first begins stands. c.answer_with.ensures.prompt first (c.in-Ok.ensures.held first begins stands)

pub returns-in-Ok-clause-settings : goal.returns-in-Ok-clause-settings
returns-in-Ok-clause-settings g c = c.answer_with.ensures.settings ∙ ap (λ (es : List (WithJobs _ _ _ _)). map settings es) c.in-Ok.ensures.opened.0

pub returns-in-Ok-clause-cause : goal.returns-in-Ok-clause-cause
returns-in-Ok-clause-cause g c = begun_causes g.S.Watch.Watch.counts c.in-Ok.keeper c.args.engines _ _ _ _ _ _ _ c.in-Ok.ensures.opened.0 c.in-Ok.ensures.opened.1 c.answer_with.ensures.cause

pub returns-in-Err-clause-ran : goal.returns-in-Err-clause-ran
returns-in-Err-clause-ran g c = rw c.in-Err.ensures.back (λ first begins stands. without_room
    (StandAt (eyes g.S.Store.history g.S.Device.Device.history g.S.Frozen.Frozen.content g.S.Device.Device.name g.S.Frozen.Frozen.size g.S.Watch.Watch.counts))
    (λ es only. KeepWorlds (eyes g.S.Store.history g.S.Device.Device.history g.S.Frozen.Frozen.content g.S.Device.Device.name g.S.Frozen.Frozen.size g.S.Watch.Watch.counts) only es)
    (IsSpent g.S.Store.history g.S.Device.Device.history g.S.Frozen.Frozen.content) c.args.engines c.args.asked.now first (options_asked c.args.asked.now).window
    (g.I.Source.left c.args.source.now) (g.O.Sink.taken c.args.sink.now) stands)

pub returns-in-Err-clause-unread : goal.returns-in-Err-clause-unread
returns-in-Err-clause-unread g c = inr refl

pub returns-in-Err-clause-prompt : goal.returns-in-Err-clause-prompt
returns-in-Err-clause-prompt g c = λ first begins stands. prompt_unread c.args.asked.now first (options_asked c.args.asked.now).window (g.O.Sink.taken c.args.sink.now) (g.I.Source.moments c.args.source.now)

pub returns-in-Err-clause-readers : goal.returns-in-Err-clause-readers
returns-in-Err-clause-readers g c = rw c.in-Err.ensures.back (readers_home c.args.engines c.requires.unwritten)

pub returns-in-Err-clause-settings : goal.returns-in-Err-clause-settings
returns-in-Err-clause-settings g c = rw c.in-Err.ensures.back refl

pub returns-in-Err-clause-cause : goal.returns-in-Err-clause-cause
returns-in-Err-clause-cause g c = rw c.in-Err.ensures.back (unrun_causes g.S.Watch.Watch.counts c.args.engines _ _ _)

pub returns-in-Err-clause-spent : goal.returns-in-Err-clause-spent
returns-in-Err-clause-spent g c = λ is. absurd (cc)
