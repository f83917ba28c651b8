use Rattle.std.proofs.Common.{◌∙◌, ap, sym, subst}
use Rattle.tc_work.specs.Moving.{eyes}
use Rattle.tc_words.specs.declared.run.Options.{Options}
use Rattle.tc_keeper.specs.Calls.{IsSpent}
use Rattle.tc_keeper.specs.Partitions.{StandAt}
use Rattle.tc_keeper.specs.Standing.{KeepWorlds}
use Rattle.tc_server.specs.Ending.{AskedPromptly, RanLeaving, RunsOver}
use Rattle.tc_keeper.specs.Faults.{fault_in, HasRunCauses}
use Rattle.tc_keeper.specs.Keeping.{faults_kept, settings_kept, FailsAt, HasSpent, IsTrueBehind, IsTrueHere, KeeperState, ServesAt}
use Rattle.tc_server.specs.Kits.{answer_behind}
use Rattle.tc_server.proofs.EndedCauses.{run_ended, spent_with}
use Rattle.tc_server.proofs.EndedRuns.{ended_run, well_behind}
use Rattle.tc_server.proofs.server.answer_with.Goals as goal

pub returns-clause-ran : goal.returns-clause-ran
returns-clause-ran g c =
    let limit = c.new-session.ensures.limit ∙ ap (λ (o : Options). o.window) c.options_asked-options.ensures in
    rw c.with_fault.ensures (λ first serves.
    subst (λ most. RunsOver c.args.asked.now (g.I.Source.left c.args.source.now) (g.I.Source.left c.answer_asked-answer.new.source)
    (λ shown unread unread'. RanLeaving shown (StandAt (eyes g.S.Store.history g.S.Device.Device.history g.S.Frozen.Frozen.content g.S.Device.Device.name
    g.S.Frozen.Frozen.size g.S.Watch.Watch.counts)) (λ es only. KeepWorlds (eyes g.S.Store.history g.S.Device.Device.history g.S.Frozen.Frozen.content g.S.Device.Device.name
    g.S.Frozen.Frozen.size g.S.Watch.Watch.counts) only es) (IsSpent g.S.Store.history g.S.Device.Device.history g.S.Frozen.Frozen.content)
    (fault_in (answer_behind c.answer_asked-answer.result c.end-engines.result.1)) first most unread unread' (g.O.Sink.taken c.args.sink.now)
    (g.O.Sink.taken c.answer_asked-answer.new.sink) c.end-engines.result.0)) limit
    (ended_run (ServesAt (eyes g.S.Store.history g.S.Device.Device.history g.S.Frozen.Frozen.content g.S.Device.Device.name g.S.Frozen.Frozen.size
    g.S.Watch.Watch.counts)) (FailsAt (eyes g.S.Store.history g.S.Device.Device.history g.S.Frozen.Frozen.content g.S.Device.Device.name g.S.Frozen.Frozen.size
    g.S.Watch.Watch.counts)) (HasSpent g.S.Store.history g.S.Device.Device.history g.S.Frozen.Frozen.content)
    (StandAt (eyes g.S.Store.history g.S.Device.Device.history g.S.Frozen.Frozen.content g.S.Device.Device.name g.S.Frozen.Frozen.size g.S.Watch.Watch.counts))
    (λ es only. KeepWorlds (eyes g.S.Store.history g.S.Device.Device.history g.S.Frozen.Frozen.content g.S.Device.Device.name g.S.Frozen.Frozen.size g.S.Watch.Watch.counts) only es)
    (IsSpent g.S.Store.history g.S.Device.Device.history g.S.Frozen.Frozen.content) c.into_keeper.result c.end-engines.result.0 c.end-engines.ensures.held
    c.end-engines.ensures.failed c.end-engines.ensures.spent c.args.asked.now c.answer_asked-answer.result c.end-engines.result.1 first
    c.new-session.result.window.limit (g.I.Source.left c.args.source.now) (g.I.Source.left c.answer_asked-answer.new.source) (g.O.Sink.taken c.args.sink.now)
    (g.O.Sink.taken c.answer_asked-answer.new.sink) c.end-engines.ensures.kind c.end-engines.ensures.undamaged
    (subst (λ (k : KeeperState g.row.S.Denot g.row.S-Device.Denot g.row.S-Frozen.Denot g.row.S-Watch.Denot). RunsOver c.args.asked.now
    (g.I.Source.left c.args.source.now) (g.I.Source.left c.answer_asked-answer.new.source)
    (λ shown unread unread'. RanLeaving shown (ServesAt (eyes g.S.Store.history g.S.Device.Device.history g.S.Frozen.Frozen.content g.S.Device.Device.name
    g.S.Frozen.Frozen.size g.S.Watch.Watch.counts)) (FailsAt (eyes g.S.Store.history g.S.Device.Device.history g.S.Frozen.Frozen.content g.S.Device.Device.name
    g.S.Frozen.Frozen.size g.S.Watch.Watch.counts)) (HasSpent g.S.Store.history g.S.Device.Device.history g.S.Frozen.Frozen.content)
    (fault_in c.answer_asked-answer.result) first c.new-session.result.window.limit unread unread' (g.O.Sink.taken c.args.sink.now)
    (g.O.Sink.taken c.answer_asked-answer.new.sink) k)) (sym c.into_keeper.ensures)
    (c.answer_asked-answer.ensures.ran first (subst (λ (k : KeeperState g.row.S.Denot g.row.S-Device.Denot g.row.S-Frozen.Denot g.row.S-Watch.Denot). ServesAt
    (eyes g.S.Store.history g.S.Device.Device.history g.S.Frozen.Frozen.content g.S.Device.Device.name g.S.Frozen.Frozen.size g.S.Watch.Watch.counts) k first)
    (sym c.new-session.ensures.keeper) serves)))))

pub returns-clause-prompt : goal.returns-clause-prompt
returns-clause-prompt g c = λ first serves.
    subst (λ most. AskedPromptly c.args.asked.now first most (g.O.Sink.taken c.args.sink.now) (g.I.Source.moments c.args.source.now) (g.I.Source.moments c.answer_asked-answer.new.source)) (c.new-session.ensures.limit ∙ ap (λ (o : Options). o.window) c.options_asked-options.ensures)
    (c.answer_asked-answer.ensures.prompt first (subst (λ (k : KeeperState g.row.S.Denot g.row.S-Device.Denot g.row.S-Frozen.Denot g.row.S-Watch.Denot). ServesAt
    (eyes g.S.Store.history g.S.Device.Device.history g.S.Frozen.Frozen.content g.S.Device.Device.name g.S.Frozen.Frozen.size g.S.Watch.Watch.counts) k first)
    (sym c.new-session.ensures.keeper) serves))

pub returns-clause-rests : goal.returns-clause-rests
returns-clause-rests g c = rw c.with_fault.ensures (well_behind c.answer_asked-answer.result c.end-engines.result.1 (λ rests. c.end-engines.ensures.rests (rw c.into_keeper.ensures rests)) c.answer_asked-answer.ensures.rests)

pub returns-clause-settings : goal.returns-clause-settings
returns-clause-settings g c = c.end-engines.ensures.settings
    ∙ ap (λ (k : KeeperState g.row.S.Denot g.row.S-Device.Denot g.row.S-Frozen.Denot g.row.S-Watch.Denot). settings_kept k) c.into_keeper.ensures
    ∙ c.answer_asked-answer.ensures.settings ∙ ap (λ (k : KeeperState g.row.S.Denot g.row.S-Device.Denot g.row.S-Frozen.Denot g.row.S-Watch.Denot). settings_kept k)
    c.new-session.ensures.keeper

pub returns-clause-cause : goal.returns-clause-cause
returns-clause-cause g c =
    rw c.with_fault.ensures (run_ended c.answer_asked-answer.result c.end-engines.result.1 (g.I.Source.faults c.args.source.now)
    (g.I.Source.faults c.answer_asked-answer.new.source) (g.O.Sink.faults c.args.sink.now) (g.O.Sink.faults c.answer_asked-answer.new.sink) _ _ _
    (IsTrueHere g.S.Store.history g.S.Device.Device.history g.S.Frozen.Frozen.content c.into_keeper.result)
    (IsTrueBehind g.S.Store.history g.S.Device.Device.history g.S.Frozen.Frozen.content c.end-engines.result.0)
    c.end-engines.ensures.met c.end-engines.ensures.kind
    (subst (λ (k : KeeperState g.row.S.Denot g.row.S-Device.Denot g.row.S-Frozen.Denot g.row.S-Watch.Denot). HasRunCauses (g.I.Source.faults c.args.source.now)
    (g.I.Source.faults c.answer_asked-answer.new.source) (g.O.Sink.faults c.args.sink.now) (g.O.Sink.faults c.answer_asked-answer.new.sink)
    (faults_kept g.S.Watch.Watch.counts k) (faults_kept g.S.Watch.Watch.counts c.into_keeper.result)
    (IsTrueHere g.S.Store.history g.S.Device.Device.history g.S.Frozen.Frozen.content c.into_keeper.result) (fault_in c.answer_asked-answer.result))
    c.new-session.ensures.keeper
    (subst (λ (k : KeeperState g.row.S.Denot g.row.S-Device.Denot g.row.S-Frozen.Denot g.row.S-Watch.Denot). HasRunCauses (g.I.Source.faults c.args.source.now)
    (g.I.Source.faults c.answer_asked-answer.new.source) (g.O.Sink.faults c.args.sink.now) (g.O.Sink.faults c.answer_asked-answer.new.sink)
    (faults_kept g.S.Watch.Watch.counts c.new-session.result.keeper) (faults_kept g.S.Watch.Watch.counts k)
    (IsTrueHere g.S.Store.history g.S.Device.Device.history g.S.Frozen.Frozen.content k) (fault_in c.answer_asked-answer.result)) (sym c.into_keeper.ensures)
    c.answer_asked-answer.ensures.cause))
    c.end-engines.ensures.cause)

pub returns-clause-spent : goal.returns-clause-spent
returns-clause-spent g c = rw c.with_fault.ensures (spent_with c.answer_asked-answer.result c.end-engines.result.1 c.end-engines.ensures.kind
    (subst (λ (k : KeeperState g.row.S.Denot g.row.S-Device.Denot g.row.S-Frozen.Denot g.row.S-Watch.Denot). HasSpent g.S.Store.history g.S.Device.Device.history
    g.S.Frozen.Frozen.content k → IsSpent g.S.Store.history g.S.Device.Device.history g.S.Frozen.Frozen.content c.end-engines.result.0) c.into_keeper.ensures
    c.end-engines.ensures.spent) c.answer_asked-answer.ensures.spent)
