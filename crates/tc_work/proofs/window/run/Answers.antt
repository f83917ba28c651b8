use Rattle.std.proofs.Common.{◌∙◌, ◌+◌, List, ap, subst, sym, refl, length, true, Some, arith}
use Rattle.tc_log.specs.declared.write.Write.{Write}
use Rattle.tc_part.specs.FilesOut.{LogIsOut, TellsLogs}
use Rattle.tc_part_model.specs.Leaving.{LogMomentsLeaveStore}
use Rattle.tc_part_model.specs.Meaning.{plain_of, HasFailedAs}
use Rattle.tc_part_model.specs.PartState.{PartState, Told, told}
use Rattle.tc_request_model.specs.Part.{part_writes_all}
use Rattle.tc_work.specs.Asked.{most_writes, requests_in}
use Rattle.tc_work.specs.Reads.{live_in, most_reads}
use Rattle.tc_work.specs.Windowed.{staged_as}
use Rattle.tc_work.proofs.HandedFaults.{not_harmed, disk_below, spent_below, same_fault, same_harm}
use Rattle.tc_work.proofs.ReadCounts.{committed_counted, counted_weaker}
use Rattle.tc_work.proofs.Failures.{failed_with, failed_without}
use Rattle.tc_work.proofs.Windows.{none_staged_in, count_staged, is_windowed, no_moments, err_always, left_staged, left_uncommitted, kept_committed, log_stays, spent_of, few_written, storable_staged, writes_staged}
use Rattle.tc_work.proofs.window.run.Goals as goal

-- ---- the commands fail

pub returns-in_err-replies-clause-moments : goal.returns-in_err-replies-clause-moments
returns-in_err-replies-clause-moments g c = λ p is.
    no_moments (told g.S.Store.history g.S.Device.Device.history g.S.Frozen.Frozen.content c.args.part.now)
    (staged_as (part_writes_all c.args.part.now.limits (requests_in c.args.list.now)
    (plain_of (told g.S.Store.history g.S.Device.Device.history g.S.Frozen.Frozen.content c.args.part.now) p)) p)
    (g.S.Device.Device.history c.answer_all.new.part.log.device) (ap (λ (s : PartState _ _ _ _). g.S.Device.Device.history s.log.device) c.answer_all.ensures.same)

pub returns-in_err-replies-clause-failed : goal.returns-in_err-replies-clause-failed
returns-in_err-replies-clause-failed g c =
    let old = told g.S.Store.history g.S.Device.Device.history g.S.Frozen.Frozen.content c.args.part.now in
    let new = told g.S.Store.history g.S.Device.Device.history g.S.Frozen.Frozen.content c.answer_all.new.part in
    let same = c.answer_all.ensures.same in
    err_always c.from_residual.result _ (λ p jobs is works. failed_without _ old (record new { failed = true }) p _ is
    (c.failed_parts_keep_files.ensures.fails old (record new { failed = true }) p is refl (ap (λ (s : PartState _ _ _ _). g.S.Store.history s.store) same) (ap (λ (s : PartState _ _ _ _). g.S.Device.Device.history s.log.device) same)
    (ap (λ (s : PartState _ _ _ _). (told g.S.Store.history g.S.Device.Device.history g.S.Frozen.Frozen.content s).sealed_log) same))
    (ap (λ (s : PartState _ _ _ _). s.generation) same) (ap (λ (s : PartState _ _ _ _). (told g.S.Store.history g.S.Device.Device.history g.S.Frozen.Frozen.content s).sealed_log) same) works)

pub returns-in_err-replies-clause-left : goal.returns-in_err-replies-clause-left
returns-in_err-replies-clause-left g c = err_always c.from_residual.result _ (left_staged c.args.part.now c.answer_all.new.part c.answer_all.ensures.same)

pub returns-in_err-replies-clause-harmed : goal.returns-in_err-replies-clause-harmed
returns-in_err-replies-clause-harmed g c = same_harm c.from_residual.result c.in_err-replies.field-0.0 _ c.from_residual.ensures.1 c.in_err-replies.ensures.harmed

pub returns-in_err-replies-clause-spent : goal.returns-in_err-replies-clause-spent
returns-in_err-replies-clause-spent g c = λ spent. absurd (c.answer_all.ensures.unspent (same_fault c.from_residual.result c.answer_all.result c.in_err-replies.field-0.0 _ c.from_residual.ensures.1 c.in_err-replies.was spent))

pub returns-in_err-replies-clause-unspent : goal.returns-in_err-replies-clause-unspent
returns-in_err-replies-clause-unspent g c = λ spent. ap (λ (s : PartState _ _ _ _). s.log) c.answer_all.ensures.same

pub returns-in_err-replies-clause-counted : goal.returns-in_err-replies-clause-counted
returns-in_err-replies-clause-counted g c =
    counted_weaker (most_reads (live_in c.args.part.now) (requests_in c.args.list.now)) (most_reads (live_in c.args.part.now) (requests_in c.args.list.now)) _ _ _ _
    (omega arith) (same_fault c.from_residual.result c.answer_all.result c.in_err-replies.field-0.0 _ c.from_residual.ensures.1 c.in_err-replies.was)
    c.answer_all.ensures.counted

-- ---- the commit fails

pub returns-in_err-frame-clause-moments : goal.returns-in_err-frame-clause-moments
returns-in_err-frame-clause-moments g c = λ p is.
    subst (λ (t : Told). LogMomentsLeaveStore (staged_as (part_writes_all c.args.part.now.limits (requests_in c.args.list.now)
    (plain_of (told g.S.Store.history g.S.Device.Device.history g.S.Frozen.Frozen.content c.args.part.now) p)) p) t
    (g.S.Device.Device.history c.commit.new.self.log.device)) (ap (told g.S.Store.history g.S.Device.Device.history g.S.Frozen.Frozen.content)
    c.answer_all.ensures.same)
    (c.commit.ensures.moments (staged_as (part_writes_all c.args.part.now.limits (requests_in c.args.list.now) (plain_of (told g.S.Store.history g.S.Device.Device.history g.S.Frozen.Frozen.content c.args.part.now) p)) p) (c.in_ok-replies.ensures.staged p is).part)

pub returns-in_err-frame-clause-failed : goal.returns-in_err-frame-clause-failed
returns-in_err-frame-clause-failed g c =
    err_always c.from_residual-in_err-frame.result _ (λ p jobs is works.
    let old = told g.S.Store.history g.S.Device.Device.history g.S.Frozen.Frozen.content c.args.part.now in
    let mid = told g.S.Store.history g.S.Device.Device.history g.S.Frozen.Frozen.content c.answer_all.new.part in
    let new = told g.S.Store.history g.S.Device.Device.history g.S.Frozen.Frozen.content c.commit.new.self in
    let ws = part_writes_all c.args.part.now.limits (requests_in c.args.list.now) (plain_of old p) in
    let q = staged_as ws p in
    let staged = (c.in_ok-replies.ensures.staged p is).part in
    let left = c.in_err-frame.ensures.left in
    failed_with _ mid (record new { failed = true }) p ws (none_staged_in old p is c.requires.nothing_staged) staged
    (subst (λ b. HasFailedAs (record new { failed = b }) q (Some q.staged)) (ap (λ (s : PartState _ _ _ _). s.failed) left) (c.in_err-frame.ensures.failed q staged))
    (ap (λ (s : PartState _ _ _ _). s.generation) left) (ap (λ (s : PartState _ _ _ _). (told g.S.Store.history g.S.Device.Device.history g.S.Frozen.Frozen.content s).sealed_log) left) works)

pub returns-in_err-frame-clause-left : goal.returns-in_err-frame-clause-left
returns-in_err-frame-clause-left g c = err_always c.from_residual-in_err-frame.result _ (left_uncommitted c.args.part.now c.answer_all.new.part c.commit.new.self c.answer_all.ensures.same c.in_err-frame.ensures.left)

pub returns-in_err-frame-clause-harmed : goal.returns-in_err-frame-clause-harmed
returns-in_err-frame-clause-harmed g c = not_harmed c.from_residual-in_err-frame.result c.in_err-frame.field-0.0 _ c.from_residual-in_err-frame.ensures.1 c.in_err-frame.ensures.undamaged

pub returns-in_err-frame-clause-spent : goal.returns-in_err-frame-clause-spent
returns-in_err-frame-clause-spent g c = λ spent.
    spent_of c.args.part.now.writes c.answer_all.new.part.writes (length c.answer_all.new.part.staged) (most_writes (requests_in c.args.list.now)) (ap (λ (s : PartState _ _ _ _). s.writes) c.answer_all.ensures.same) c.in_ok-replies.ensures.grown.few
    (c.commit.ensures.spent.0 (spent_below c.from_residual-in_err-frame.result c.commit.result c.in_err-frame.field-0.0 c.from_residual-in_err-frame.ensures.1 c.in_err-frame.was spent))

pub returns-in_err-frame-clause-unspent : goal.returns-in_err-frame-clause-unspent
returns-in_err-frame-clause-unspent g c = λ spent.
    c.commit.ensures.unspent (spent_below c.from_residual-in_err-frame.result c.commit.result c.in_err-frame.field-0.0 c.from_residual-in_err-frame.ensures.1 c.in_err-frame.was spent)
    ∙ ap (λ (s : PartState _ _ _ _). s.log) c.answer_all.ensures.same

pub returns-in_err-frame-clause-counted : goal.returns-in_err-frame-clause-counted
returns-in_err-frame-clause-counted g c =
    committed_counted (most_reads (live_in c.args.part.now) (requests_in c.args.list.now)) _ _ _ (g.S.Watch.Watch.counts c.args.part.now.main) (g.S.Watch.Watch.counts c.answer_all.new.part.main) (g.S.Watch.Watch.counts c.commit.new.self.main) c.answer_all.ensures.counted c.commit.ensures.counted
    (disk_below c.from_residual-in_err-frame.result c.commit.result c.in_err-frame.field-0.0 c.from_residual-in_err-frame.ensures.1 c.in_err-frame.was)

-- ---- the writes are committed

pub returns-clause-windowed : goal.returns-clause-windowed
returns-clause-windowed g c = λ p is.
    let old = told g.S.Store.history g.S.Device.Device.history g.S.Frozen.Frozen.content c.args.part.now in
    let mid = told g.S.Store.history g.S.Device.Device.history g.S.Frozen.Frozen.content c.answer_all.new.part in
    let new = told g.S.Store.history g.S.Device.Device.history g.S.Frozen.Frozen.content c.commit.new.self in
    let none = none_staged_in old p is c.requires.nothing_staged in
    let staged = c.in_ok-replies.ensures.staged p is in
    let q = staged_as (part_writes_all c.args.part.now.limits (requests_in c.args.list.now) (plain_of (told g.S.Store.history g.S.Device.Device.history g.S.Frozen.Frozen.content c.args.part.now) p)) p in
    let committed = c.in_ok-frame.ensures.committed q staged.part in
    is_windowed c.args.part.now.limits (requests_in c.args.list.now) old mid new p none staged committed.0 committed.1
    (c.commits_are_kept.ensures.plain mid new q (ap (λ (s : PartState _ _ _ _). s.taken) c.in_ok-frame.ensures.same))

pub returns-clause-same : goal.returns-clause-same
returns-clause-same g c = kept_committed c.args.part.now c.answer_all.new.part c.commit.new.self _ c.requires.nothing_staged c.in_ok-replies.ensures.sound c.requires.sound c.answer_all.ensures.same c.in_ok-frame.ensures.same c.in_ok-frame.ensures.cleared

pub returns-clause-writes : goal.returns-clause-writes
returns-clause-writes g c = λ p is.
    ap (λ (s : PartState _ _ _ _). s.writes) c.in_ok-frame.ensures.same
    ∙ ap (λ n. n + length c.answer_all.new.part.staged) (ap (λ (s : PartState _ _ _ _). s.writes) c.answer_all.ensures.same)
    ∙ ap (λ n. c.args.part.now.writes + n) (count_staged (told g.S.Store.history g.S.Device.Device.history g.S.Frozen.Frozen.content c.answer_all.new.part) p
    (part_writes_all c.args.part.now.limits (requests_in c.args.list.now)
    (plain_of (told g.S.Store.history g.S.Device.Device.history g.S.Frozen.Frozen.content c.args.part.now) p))
    (none_staged_in (told g.S.Store.history g.S.Device.Device.history g.S.Frozen.Frozen.content c.args.part.now) p is c.requires.nothing_staged)
    (c.in_ok-replies.ensures.staged p is).part)

pub returns-clause-moments : goal.returns-clause-moments
returns-clause-moments g c = λ p is.
    subst (λ (t : Told). LogMomentsLeaveStore (staged_as (part_writes_all c.args.part.now.limits (requests_in c.args.list.now)
    (plain_of (told g.S.Store.history g.S.Device.Device.history g.S.Frozen.Frozen.content c.args.part.now) p)) p) t
    (g.S.Device.Device.history c.commit.new.self.log.device)) (ap (told g.S.Store.history g.S.Device.Device.history g.S.Frozen.Frozen.content)
    c.answer_all.ensures.same)
    (c.commit.ensures.moments (staged_as (part_writes_all c.args.part.now.limits (requests_in c.args.list.now) (plain_of (told g.S.Store.history g.S.Device.Device.history g.S.Frozen.Frozen.content c.args.part.now) p)) p) (c.in_ok-replies.ensures.staged p is).part)

pub returns-clause-counted : goal.returns-clause-counted
returns-clause-counted g c =
    committed_counted (most_reads (live_in c.args.part.now) (requests_in c.args.list.now)) _ _ _ (g.S.Watch.Watch.counts c.args.part.now.main)
    (g.S.Watch.Watch.counts c.answer_all.new.part.main) (g.S.Watch.Watch.counts c.commit.new.self.main) c.answer_all.ensures.counted c.commit.ensures.counted
    (λ failed. absurd (cc))

pub returns-clause-sound : goal.returns-clause-sound
returns-clause-sound g c = ap (λ (s : PartState _ _ _ _). s.failed) c.in_ok-frame.ensures.same ∙ c.in_ok-replies.ensures.sound

pub returns-clause-unwritten : goal.returns-clause-unwritten
returns-clause-unwritten g c = λ p is none.
    let old = told g.S.Store.history g.S.Device.Device.history g.S.Frozen.Frozen.content c.args.part.now in
    let mid = told g.S.Store.history g.S.Device.Device.history g.S.Frozen.Frozen.content c.answer_all.new.part in
    let ws = part_writes_all c.args.part.now.limits (requests_in c.args.list.now) (plain_of old p) in
    log_stays c.args.part.now c.answer_all.new.part c.commit.new.self c.answer_all.ensures.same (λ empty. (c.commit.ensures.nothing empty).1)
    (count_staged mid p ws (none_staged_in old p is c.requires.nothing_staged) (c.in_ok-replies.ensures.staged p is).part ∙ ap length none)

pub returns-clause-looked_up : goal.returns-clause-looked_up
returns-clause-looked_up g c = λ none.
    let few = c.in_ok-replies.ensures.grown.few in
    log_stays c.args.part.now c.answer_all.new.part c.commit.new.self c.answer_all.ensures.same (λ empty. (c.commit.ensures.nothing empty).1) (omega (arith, few, none))

pub returns-clause-few_writes : goal.returns-clause-few_writes
returns-clause-few_writes g c =
    few_written c.args.part.now.writes c.answer_all.new.part.writes (length c.answer_all.new.part.staged) (most_writes (requests_in c.args.list.now)) c.commit.new.self.writes
    (ap (λ (s : PartState _ _ _ _). s.writes) c.answer_all.ensures.same) c.in_ok-replies.ensures.grown.few (ap (λ (s : PartState _ _ _ _). s.writes) c.in_ok-frame.ensures.same)

pub returns-clause-log_out : goal.returns-clause-log_out
returns-clause-log_out g c = λ is. c.in_ok-frame.ensures.log_out (subst (λ (s : PartState _ _ _ _). LogIsOut (told g.S.Store.history g.S.Device.Device.history g.S.Frozen.Frozen.content s)) (sym c.answer_all.ensures.same) is)

-- ---- the frame

pub returns-clause-frame : goal.returns-clause-frame
returns-clause-frame g c = λ p is.
    let old = told g.S.Store.history g.S.Device.Device.history g.S.Frozen.Frozen.content c.args.part.now in
    let mid = told g.S.Store.history g.S.Device.Device.history g.S.Frozen.Frozen.content c.answer_all.new.part in
    let ws = part_writes_all c.args.part.now.limits (requests_in c.args.list.now) (plain_of old p) in
    c.in_ok-frame.ensures.frame.0 ∙ writes_staged mid p ws (none_staged_in old p is c.requires.nothing_staged) (c.in_ok-replies.ensures.staged p is).part

pub returns-clause-storable : goal.returns-clause-storable
returns-clause-storable g c = λ p is.
    let old = told g.S.Store.history g.S.Device.Device.history g.S.Frozen.Frozen.content c.args.part.now in
    let mid = told g.S.Store.history g.S.Device.Device.history g.S.Frozen.Frozen.content c.answer_all.new.part in
    let ws = part_writes_all c.args.part.now.limits (requests_in c.args.list.now) (plain_of old p) in
    storable_staged mid p ws (none_staged_in old p is c.requires.nothing_staged) (c.in_ok-replies.ensures.staged p is).part

pub returns-clause-frame_counted : goal.returns-clause-frame_counted
returns-clause-frame_counted g c =
    ap (λ (s : PartState _ _ _ _). s.writes) c.in_ok-frame.ensures.same
    ∙ ap (λ n. n + length c.answer_all.new.part.staged) (ap (λ (s : PartState _ _ _ _). s.writes) c.answer_all.ensures.same)
    ∙ ap (λ (ws : List Write). c.args.part.now.writes + length ws) (sym c.in_ok-frame.ensures.frame.0)

pub returns-clause-frame_stored : goal.returns-clause-frame_stored
returns-clause-frame_stored g c = c.in_ok-frame.ensures.frame.1

-- ---- whether the logs tell

pub returns-in_err-replies-clause-tells : goal.returns-in_err-replies-clause-tells
returns-in_err-replies-clause-tells g c = λ tells. subst (λ (s : PartState _ _ _ _). TellsLogs (told g.S.Store.history g.S.Device.Device.history g.S.Frozen.Frozen.content s)) (sym c.answer_all.ensures.same) tells

pub returns-in_err-frame-clause-tells : goal.returns-in_err-frame-clause-tells
returns-in_err-frame-clause-tells g c = λ tells. c.commit.ensures.tells (subst (λ (s : PartState _ _ _ _). TellsLogs (told g.S.Store.history g.S.Device.Device.history g.S.Frozen.Frozen.content s)) (sym c.answer_all.ensures.same) tells)

pub returns-clause-tells : goal.returns-clause-tells
returns-clause-tells g c = λ tells. c.commit.ensures.tells (subst (λ (s : PartState _ _ _ _). TellsLogs (told g.S.Store.history g.S.Device.Device.history g.S.Frozen.Frozen.content s)) (sym c.answer_all.ensures.same) tells)
