use Rattle.std.proofs.Common.{◌≡◌, ◌<◌, false, length, refl, ap, arith}
use Rattle.std.specs.Prelude.{None, Some}
use Rattle.std.proofs.lemmas.Result.{err_from_is_err_and}
use Rattle.tc_model.specs.Limits.{max_line}
use Rattle.tc_run_model.specs.Windows.{windows_of}
use Rattle.tc_work.specs.Moving.{eyes}
use Rattle.tc_server.specs.Stage.{with_end}
use Rattle.tc_keeper.specs.Keeping.{HasSpent, FailsAt, ServesAt}
use Rattle.tc_keeper.proofs.Causes.{run_by_reads, run_by_window}
use Rattle.tc_server.proofs.RunLemmas.{goes_by, goes_on, asked_promptly, fails_at_line, hears_all, ran_to_end, fails_at_end, read_failed, all_taken, reads_without_memory}
use Rattle.tc_server.proofs.SessionLemmas.{closes, fails_closing, BeginsWith-refl}
use Rattle.tc_server.proofs.server.answer_line.Goals as goal

-- ---- a line

pub returns-in_err-take_whole-in-Whole-clause-fault : goal.returns-in_err-take_whole-in-Whole-clause-fault
returns-in_err-take_whole-in-Whole-clause-fault g c =
    let p = err_from_is_err_and c.from_residual.result c.from_residual.ensures.1 in
    let goes : c.args.lines.now.ended ≡ false = goes_by _ c.args.lines.now (λ same. cc) (λ ended. (c.in-Whole.ensures.ended ended).0) in
    let answer = c.in-Whole.ensures.answer goes in
    rw (p.1, p.2) (λ first begun base before come. fails_at_line
    (ServesAt (eyes g.S.Store.history g.S.Device.Device.history g.S.Frozen.Frozen.content g.S.Device.Device.name g.S.Frozen.Frozen.size g.S.Watch.Watch.counts))
    (FailsAt (eyes g.S.Store.history g.S.Device.Device.history g.S.Frozen.Frozen.content g.S.Device.Device.name g.S.Frozen.Frozen.size g.S.Watch.Watch.counts))
    (HasSpent g.S.Store.history g.S.Device.Device.history g.S.Frozen.Frozen.content) first _ c.in-Whole.line c.args.lines.now c.next.new.self c.args.session.now
    c.take_whole.new.self begun _ _ base _ _ goes come answer.input answer.consumed answer.counted answer.says.0
    c.in_err-take_whole-in-Whole.ensures.cause.disks.spent c.in_err-take_whole-in-Whole.ensures.fault)

pub returns-in_ok-take_whole-in-Whole-clause-more : goal.returns-in_ok-take_whole-in-Whole-clause-more
returns-in_ok-take_whole-in-Whole-clause-more g c = λ first begun base before come.
    let goes : c.args.lines.now.ended ≡ false = goes_by _ c.args.lines.now (λ same. cc) (λ ended. (c.in-Whole.ensures.ended ended).0) in
    let answer = c.in-Whole.ensures.answer goes in
    goes_on (ServesAt (eyes g.S.Store.history g.S.Device.Device.history g.S.Frozen.Frozen.content g.S.Device.Device.name g.S.Frozen.Frozen.size
    g.S.Watch.Watch.counts)) first c.in-Whole.line c.args.lines.now c.next.new.self c.args.session.now c.take_whole.new.self begun _ _ base _ _ before _ _ goes
    come answer.input answer.consumed answer.counted answer.says.0
    answer.prompt c.in_ok-take_whole-in-Whole.ensures.ok c.in_ok-take_whole-in-Whole.ensures.limit

-- ---- an oversized line

pub returns-in_err-take_oversized-in-Oversized-clause-fault : goal.returns-in_err-take_oversized-in-Oversized-clause-fault
returns-in_err-take_oversized-in-Oversized-clause-fault g c =
    let p = err_from_is_err_and c.from_residual-in_err-take_oversized-in-Oversized.result c.from_residual-in_err-take_oversized-in-Oversized.ensures.1 in
    let goes : c.args.lines.now.ended ≡ false = goes_by _ c.args.lines.now (λ same. cc) (λ ended. (c.in-Oversized.ensures.ended ended).0) in
    let answer = c.in-Oversized.ensures.answer goes in
    let long : max_line < length answer.says.0 = omega (arith, answer.says.2, c.in-Oversized.ensures.limit, c.requires.limit) in
    rw (p.1, p.2) (λ first begun base before come. fails_at_line
    (ServesAt (eyes g.S.Store.history g.S.Device.Device.history g.S.Frozen.Frozen.content g.S.Device.Device.name g.S.Frozen.Frozen.size g.S.Watch.Watch.counts))
    (FailsAt (eyes g.S.Store.history g.S.Device.Device.history g.S.Frozen.Frozen.content g.S.Device.Device.name g.S.Frozen.Frozen.size g.S.Watch.Watch.counts))
    (HasSpent g.S.Store.history g.S.Device.Device.history g.S.Frozen.Frozen.content) first _ answer.says.0 c.args.lines.now c.next.new.self c.args.session.now
    c.take_oversized.new.self begun _ _ base _ _ goes come answer.input answer.consumed answer.counted answer.says.1
    c.in_err-take_oversized-in-Oversized.ensures.cause.disks.spent (c.in_err-take_oversized-in-Oversized.ensures.fault answer.says.0 long))

pub returns-in_ok-take_oversized-in-Oversized-clause-more : goal.returns-in_ok-take_oversized-in-Oversized-clause-more
returns-in_ok-take_oversized-in-Oversized-clause-more g c = λ first begun base before come.
    let goes : c.args.lines.now.ended ≡ false = goes_by _ c.args.lines.now (λ same. cc) (λ ended. (c.in-Oversized.ensures.ended ended).0) in
    let answer = c.in-Oversized.ensures.answer goes in
    let long : max_line < length answer.says.0 = omega (arith, answer.says.2, c.in-Oversized.ensures.limit, c.requires.limit) in
    goes_on (ServesAt (eyes g.S.Store.history g.S.Device.Device.history g.S.Frozen.Frozen.content g.S.Device.Device.name g.S.Frozen.Frozen.size
    g.S.Watch.Watch.counts)) first answer.says.0 c.args.lines.now c.next.new.self c.args.session.now c.take_oversized.new.self begun _ _ base _ _ before _ _ goes
    come answer.input answer.consumed answer.counted answer.says.1
    answer.prompt (c.in_ok-take_oversized-in-Oversized.ensures.ok answer.says.0 long) c.in_ok-take_oversized-in-Oversized.ensures.limit

-- ---- the end of the input

pub returns-in_err-close-in-End-clause-fault : goal.returns-in_err-close-in-End-clause-fault
returns-in_err-close-in-End-clause-fault g c =
    let p = err_from_is_err_and c.from_residual-in_err-close-in-End.result c.from_residual-in_err-close-in-End.ensures.1 in
    rw (p.1, p.2) (λ first begun base before come.
    let limit = c.args.session.now.window.limit in
    let heard = hears_all come.seen c.args.lines.now c.next.new.self begun _ (g.I.Source.left c.next.new.source) come.heard c.in-End.ensures.answer (λ ended. ap g.I.Source.left (c.in-End.ensures.ended ended).2) in
    fails_at_end (ServesAt (eyes g.S.Store.history g.S.Device.Device.history g.S.Frozen.Frozen.content g.S.Device.Device.name g.S.Frozen.Frozen.size
    g.S.Watch.Watch.counts)) (FailsAt (eyes g.S.Store.history g.S.Device.Device.history g.S.Frozen.Frozen.content g.S.Device.Device.name g.S.Frozen.Frozen.size
    g.S.Watch.Watch.counts)) (HasSpent g.S.Store.history g.S.Device.Device.history g.S.Frozen.Frozen.content) first limit come.seen _ begun _ base _
    c.close.new.self.keeper heard c.in_err-close-in-End.ensures.cause.disks.spent
    (fails_closing (ServesAt (eyes g.S.Store.history g.S.Device.Device.history g.S.Frozen.Frozen.content g.S.Device.Device.name g.S.Frozen.Frozen.size
    g.S.Watch.Watch.counts)) (FailsAt (eyes g.S.Store.history g.S.Device.Device.history g.S.Frozen.Frozen.content g.S.Device.Device.name g.S.Frozen.Frozen.size
    g.S.Watch.Watch.counts)) first base (g.O.Sink.taken c.args.sink.now) (g.O.Sink.taken c.close.new.sink) (windows_of limit come.seen) c.args.session.now _
    c.close.new.self.keeper (with_end (windows_of limit come.seen)).closed come.at
    c.in_err-close-in-End.ensures.fault (BeginsWith-refl _)))

pub returns-in_ok-close-in-End-clause-more : goal.returns-in_ok-close-in-End-clause-more
returns-in_ok-close-in-End-clause-more g c = λ first begun base before come.
    let limit = c.args.session.now.window.limit in
    let heard = hears_all come.seen c.args.lines.now c.next.new.self begun _ (g.I.Source.left c.next.new.source) come.heard c.in-End.ensures.answer (λ ended. ap g.I.Source.left (c.in-End.ensures.ended ended).2) in
    ran_to_end (ServesAt (eyes g.S.Store.history g.S.Device.Device.history g.S.Frozen.Frozen.content g.S.Device.Device.name g.S.Frozen.Frozen.size
    g.S.Watch.Watch.counts)) (FailsAt (eyes g.S.Store.history g.S.Device.Device.history g.S.Frozen.Frozen.content g.S.Device.Device.name g.S.Frozen.Frozen.size
    g.S.Watch.Watch.counts)) (HasSpent g.S.Store.history g.S.Device.Device.history g.S.Frozen.Frozen.content) first limit come.seen c.close.new.self
    begun _ base _ heard
    (closes (ServesAt (eyes g.S.Store.history g.S.Device.Device.history g.S.Frozen.Frozen.content g.S.Device.Device.name g.S.Frozen.Frozen.size
    g.S.Watch.Watch.counts)) first base (g.O.Sink.taken c.args.sink.now) (g.O.Sink.taken c.close.new.sink) (windows_of limit come.seen) c.args.session.now
    c.close.new.self come.at
    c.in_ok-close-in-End.ensures.written c.in_ok-close-in-End.ensures.requests c.in_ok-close-in-End.ensures.bytes)

-- ---- a failure of the reader

pub returns-in-ReadFault-clause-fault : goal.returns-in-ReadFault-clause-fault
returns-in-ReadFault-clause-fault g c = λ first begun base before come.
    let goes : c.args.lines.now.ended ≡ false = goes_by _ c.args.lines.now (λ same. cc) (λ ended. (c.in-ReadFault.ensures.ended ended).0) in
    let answer = c.in-ReadFault.ensures.answer goes in
    read_failed (ServesAt (eyes g.S.Store.history g.S.Device.Device.history g.S.Frozen.Frozen.content g.S.Device.Device.name g.S.Frozen.Frozen.size
    g.S.Watch.Watch.counts)) (FailsAt (eyes g.S.Store.history g.S.Device.Device.history g.S.Frozen.Frozen.content g.S.Device.Device.name g.S.Frozen.Frozen.size
    g.S.Watch.Watch.counts)) (HasSpent g.S.Store.history g.S.Device.Device.history g.S.Frozen.Frozen.content) first c.args.lines.now c.args.session.now begun _ _
    base _ goes come answer.input answer.consumed answer.says.0

pub returns-in-Spent-clause-fault : goal.returns-in-Spent-clause-fault
returns-in-Spent-clause-fault g c = λ first begun base before come.
    let goes : c.args.lines.now.ended ≡ false = goes_by _ c.args.lines.now (λ same. cc) (λ ended. (c.in-Spent.ensures.ended ended).0) in
    let answer = c.in-Spent.ensures.answer goes in
    all_taken (ServesAt (eyes g.S.Store.history g.S.Device.Device.history g.S.Frozen.Frozen.content g.S.Device.Device.name g.S.Frozen.Frozen.size
    g.S.Watch.Watch.counts)) (FailsAt (eyes g.S.Store.history g.S.Device.Device.history g.S.Frozen.Frozen.content g.S.Device.Device.name g.S.Frozen.Frozen.size
    g.S.Watch.Watch.counts)) (HasSpent g.S.Store.history g.S.Device.Device.history g.S.Frozen.Frozen.content) first c.args.lines.now c.next.new.self
    c.args.session.now begun _ _ base _ goes come answer.input answer.consumed answer.counted answer.says.0 answer.says.1

pub returns-in-Memory-clause-fault : goal.returns-in-Memory-clause-fault
returns-in-Memory-clause-fault g c = λ first begun base before come.
    let goes : c.args.lines.now.ended ≡ false = goes_by _ c.args.lines.now (λ same. cc) (λ ended. (c.in-Memory.ensures.ended ended).0) in
    let answer = c.in-Memory.ensures.answer goes in
    reads_without_memory (ServesAt (eyes g.S.Store.history g.S.Device.Device.history g.S.Frozen.Frozen.content g.S.Device.Device.name g.S.Frozen.Frozen.size
    g.S.Watch.Watch.counts)) (FailsAt (eyes g.S.Store.history g.S.Device.Device.history g.S.Frozen.Frozen.content g.S.Device.Device.name g.S.Frozen.Frozen.size
    g.S.Watch.Watch.counts)) (HasSpent g.S.Store.history g.S.Device.Device.history g.S.Frozen.Frozen.content) first c.args.lines.now c.args.session.now begun _ _
    base _ goes come answer.input answer.consumed

-- ---- the reads

pub returns-in_err-take_whole-in-Whole-clause-prompt : goal.returns-in_err-take_whole-in-Whole-clause-prompt
returns-in_err-take_whole-in-Whole-clause-prompt g c = λ first begun base before come.
    asked_promptly (ServesAt (eyes g.S.Store.history g.S.Device.Device.history g.S.Frozen.Frozen.content g.S.Device.Device.name g.S.Frozen.Frozen.size
    g.S.Watch.Watch.counts)) _ first c.args.lines.now c.next.new.self c.args.session.now begun _ _ base _ before _ _ come c.in-Whole.ensures.answer
    (λ ended. ap g.I.Source.moments (c.in-Whole.ensures.ended ended).2)

pub returns-in_ok-take_whole-in-Whole-clause-prompt : goal.returns-in_ok-take_whole-in-Whole-clause-prompt
returns-in_ok-take_whole-in-Whole-clause-prompt g c = λ first begun base before come.
    asked_promptly (ServesAt (eyes g.S.Store.history g.S.Device.Device.history g.S.Frozen.Frozen.content g.S.Device.Device.name g.S.Frozen.Frozen.size
    g.S.Watch.Watch.counts)) _ first c.args.lines.now c.next.new.self c.args.session.now begun _ _ base _ before _ _ come c.in-Whole.ensures.answer
    (λ ended. ap g.I.Source.moments (c.in-Whole.ensures.ended ended).2)

pub returns-in_err-take_oversized-in-Oversized-clause-prompt : goal.returns-in_err-take_oversized-in-Oversized-clause-prompt
returns-in_err-take_oversized-in-Oversized-clause-prompt g c = λ first begun base before come.
    asked_promptly (ServesAt (eyes g.S.Store.history g.S.Device.Device.history g.S.Frozen.Frozen.content g.S.Device.Device.name g.S.Frozen.Frozen.size
    g.S.Watch.Watch.counts)) _ first c.args.lines.now c.next.new.self c.args.session.now begun _ _ base _ before _ _ come c.in-Oversized.ensures.answer
    (λ ended. ap g.I.Source.moments (c.in-Oversized.ensures.ended ended).2)

pub returns-in_ok-take_oversized-in-Oversized-clause-prompt : goal.returns-in_ok-take_oversized-in-Oversized-clause-prompt
returns-in_ok-take_oversized-in-Oversized-clause-prompt g c = λ first begun base before come.
    asked_promptly (ServesAt (eyes g.S.Store.history g.S.Device.Device.history g.S.Frozen.Frozen.content g.S.Device.Device.name g.S.Frozen.Frozen.size
    g.S.Watch.Watch.counts)) _ first c.args.lines.now c.next.new.self c.args.session.now begun _ _ base _ before _ _ come c.in-Oversized.ensures.answer
    (λ ended. ap g.I.Source.moments (c.in-Oversized.ensures.ended ended).2)

pub returns-in_err-close-in-End-clause-prompt : goal.returns-in_err-close-in-End-clause-prompt
returns-in_err-close-in-End-clause-prompt g c = λ first begun base before come.
    asked_promptly (ServesAt (eyes g.S.Store.history g.S.Device.Device.history g.S.Frozen.Frozen.content g.S.Device.Device.name g.S.Frozen.Frozen.size
    g.S.Watch.Watch.counts)) _ first c.args.lines.now c.next.new.self c.args.session.now begun _ _ base _ before _ _ come c.in-End.ensures.answer
    (λ ended. ap g.I.Source.moments (c.in-End.ensures.ended ended).2)

pub returns-in_ok-close-in-End-clause-prompt : goal.returns-in_ok-close-in-End-clause-prompt
returns-in_ok-close-in-End-clause-prompt g c = λ first begun base before come.
    asked_promptly (ServesAt (eyes g.S.Store.history g.S.Device.Device.history g.S.Frozen.Frozen.content g.S.Device.Device.name g.S.Frozen.Frozen.size
    g.S.Watch.Watch.counts)) _ first c.args.lines.now c.next.new.self c.args.session.now begun _ _ base _ before _ _ come c.in-End.ensures.answer
    (λ ended. ap g.I.Source.moments (c.in-End.ensures.ended ended).2)

pub returns-in-ReadFault-clause-prompt : goal.returns-in-ReadFault-clause-prompt
returns-in-ReadFault-clause-prompt g c = λ first begun base before come.
    asked_promptly (ServesAt (eyes g.S.Store.history g.S.Device.Device.history g.S.Frozen.Frozen.content g.S.Device.Device.name g.S.Frozen.Frozen.size
    g.S.Watch.Watch.counts)) _ first c.args.lines.now c.next.new.self c.args.session.now begun _ _ base _ before _ _ come c.in-ReadFault.ensures.answer
    (λ ended. ap g.I.Source.moments (c.in-ReadFault.ensures.ended ended).2)

pub returns-in-Spent-clause-prompt : goal.returns-in-Spent-clause-prompt
returns-in-Spent-clause-prompt g c = λ first begun base before come.
    asked_promptly (ServesAt (eyes g.S.Store.history g.S.Device.Device.history g.S.Frozen.Frozen.content g.S.Device.Device.name g.S.Frozen.Frozen.size
    g.S.Watch.Watch.counts)) _ first c.args.lines.now c.next.new.self c.args.session.now begun _ _ base _ before _ _ come c.in-Spent.ensures.answer
    (λ ended. ap g.I.Source.moments (c.in-Spent.ensures.ended ended).2)

pub returns-in-Memory-clause-prompt : goal.returns-in-Memory-clause-prompt
returns-in-Memory-clause-prompt g c = λ first begun base before come.
    asked_promptly (ServesAt (eyes g.S.Store.history g.S.Device.Device.history g.S.Frozen.Frozen.content g.S.Device.Device.name g.S.Frozen.Frozen.size
    g.S.Watch.Watch.counts)) _ first c.args.lines.now c.next.new.self c.args.session.now begun _ _ base _ before _ _ come c.in-Memory.ensures.answer
    (λ ended. ap g.I.Source.moments (c.in-Memory.ensures.ended ended).2)

-- ---- causes

pub returns-in_err-take_whole-in-Whole-clause-cause : goal.returns-in_err-take_whole-in-Whole-clause-cause
returns-in_err-take_whole-in-Whole-clause-cause g c =
    let p = err_from_is_err_and c.from_residual.result c.from_residual.ensures.1 in
    rw (p.1, p.2) (run_by_window (Some c.in_err-take_whole-in-Whole.field-0.0) _ _ _ _ _ _ _ c.next.ensures.kept c.in_err-take_whole-in-Whole.ensures.cause)

pub returns-in_ok-take_whole-in-Whole-clause-cause : goal.returns-in_ok-take_whole-in-Whole-clause-cause
returns-in_ok-take_whole-in-Whole-clause-cause g c = run_by_window None _ _ _ _ _ _ _ c.next.ensures.kept c.in_ok-take_whole-in-Whole.ensures.cause

pub returns-in_err-take_oversized-in-Oversized-clause-cause : goal.returns-in_err-take_oversized-in-Oversized-clause-cause
returns-in_err-take_oversized-in-Oversized-clause-cause g c =
    let p = err_from_is_err_and c.from_residual-in_err-take_oversized-in-Oversized.result c.from_residual-in_err-take_oversized-in-Oversized.ensures.1 in
    rw (p.1, p.2) (run_by_window (Some c.in_err-take_oversized-in-Oversized.field-0.0) _ _ _ _ _ _ _ c.next.ensures.kept c.in_err-take_oversized-in-Oversized.ensures.cause)

pub returns-in_ok-take_oversized-in-Oversized-clause-cause : goal.returns-in_ok-take_oversized-in-Oversized-clause-cause
returns-in_ok-take_oversized-in-Oversized-clause-cause g c = run_by_window None _ _ _ _ _ _ _ c.next.ensures.kept c.in_ok-take_oversized-in-Oversized.ensures.cause

pub returns-in_err-close-in-End-clause-cause : goal.returns-in_err-close-in-End-clause-cause
returns-in_err-close-in-End-clause-cause g c =
    let p = err_from_is_err_and c.from_residual-in_err-close-in-End.result c.from_residual-in_err-close-in-End.ensures.1 in
    rw (p.1, p.2) (run_by_window (Some c.in_err-close-in-End.field-0.0) _ _ _ _ _ _ _ c.next.ensures.kept c.in_err-close-in-End.ensures.cause)

pub returns-in_ok-close-in-End-clause-cause : goal.returns-in_ok-close-in-End-clause-cause
returns-in_ok-close-in-End-clause-cause g c = run_by_window None _ _ _ _ _ _ _ c.next.ensures.kept c.in_ok-close-in-End.ensures.cause

pub returns-in-ReadFault-clause-cause : goal.returns-in-ReadFault-clause-cause
returns-in-ReadFault-clause-cause g c = run_by_reads _ _ _ _ _ _ c.next.ensures.kept (λ same. c.in-ReadFault.ensures.fault refl) tt (λ write. absurd write) tt tt

pub returns-in-Spent-clause-cause : goal.returns-in-Spent-clause-cause
returns-in-Spent-clause-cause g c = run_by_reads _ _ _ _ _ _ c.next.ensures.kept (λ same. absurd (cc)) tt (λ write. absurd write) tt tt

pub returns-in-Memory-clause-cause : goal.returns-in-Memory-clause-cause
returns-in-Memory-clause-cause g c = run_by_reads _ _ _ _ _ _ c.next.ensures.kept (λ same. absurd (cc)) tt (λ write. absurd write) tt tt
