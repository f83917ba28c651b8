-- Each exit answers for what was read until then.
use Rattle.std.proofs.Common.{◌≡◌, ◌<◌, ◌+◌, ◌==◌, true, false, Err, length, ap, ◌∙◌, arith}
use Rattle.std.proofs.lemmas.Bool.{ne_eqb}
use Rattle.tc_lines.specs.declared.intake.TheConstants.{MAX_TAKEN}
use Rattle.tc_lines.proofs.Progress.{makes_room, room_made, reads_more, answers_at_feed, answers_at_end, answers_fault, answers_spent, none_of_length}
use Rattle.tc_lines.proofs.reader.read_line.Goals as goal

pub returns-in-Ok-eq0-clause-answer : goal.returns-in-Ok-eq0-clause-answer
returns-in-Ok-eq0-clause-answer g c =
    let way = makes_room _ _ _ _ _ _ _ _ _ _ _ c.loop-too_long.invariant.0 c.loop-too_long.invariant.1 c.in-Ok.ensures.ok in
    let room = room_made _ _ _ _ _ c.in-Ok.ensures.ok in
    let read = c.in-Ok-eq0.ensures in
    let zero : c.in-Ok-eq0.field-0 ≡ 0 = c.in-Ok-eq0.field-0-test in
    let more = reads_more _ _ _ _ _ _ _ _ _ _ _ _ _ way room.0 read.ok.0 read.ok.1 read.bytes.0 read.told in
    let front : length c.read.new.self.front ≡ length c.make_room.new.intake.front = ap (λ h. length h.front) read.ok.1 in
    let taken : c.read.new.self.taken ≡ c.make_room.new.intake.taken + c.in-Ok-eq0.field-0 = ap (λ h. h.taken) read.ok.1 in
    let below : c.make_room.new.intake.taken < MAX_TAKEN = read.below (λ e. cc) in
    let ended : c.read.new.self.ended ≡ true = ap (λ h. h.ended) read.ok.1 ∙ ap (λ n. n == 0) zero in
    answers_at_end _ _ _ _ _ _ _ _ _ _ _ more (none_of_length _ (read.ok.0 ∙ zero)) (omega (arith, front, room.1)) (read.bytes.1 zero) ended (omega (arith, taken, zero, below)) c.last_line.ensures.line c.last_line.ensures.left

pub returns-in-Err-ReadFault-clause-answer : goal.returns-in-Err-ReadFault-clause-answer
returns-in-Err-ReadFault-clause-answer g c =
    let way = makes_room _ _ _ _ _ _ _ _ _ _ _ c.loop-too_long.invariant.0 c.loop-too_long.invariant.1 c.in-Ok.ensures.ok in
    let room = room_made _ _ _ _ _ c.in-Ok.ensures.ok in
    let read = c.in-Err-ReadFault.ensures in
    let fault = c.in-Err-ReadFault.field-0-is in
    answers_fault _ _ _ _ _ _ _ _ _ _ _ _ way room.0 read.err.0 read.err.1 (read.below (λ e. cc)) read.untold

pub returns-in-Err-Spent-clause-answer : goal.returns-in-Err-Spent-clause-answer
returns-in-Err-Spent-clause-answer g c =
    let way = makes_room _ _ _ _ _ _ _ _ _ _ _ c.loop-too_long.invariant.0 c.loop-too_long.invariant.1 c.in-Ok.ensures.ok in
    let room = room_made _ _ _ _ _ c.in-Ok.ensures.ok in
    answers_spent _ _ _ _ _ _ _ _ _ _ _ _ way room.0 c.in-Err-Spent.ensures.err.0 c.in-Err-Spent.ensures.err.1 (c.in-Err-Spent.ensures.spent.0 (ap Err c.in-Err-Spent.field-0-is)) c.in-Err-Spent.ensures.untold

pub returns-in-Some-clause-answer : goal.returns-in-Some-clause-answer
returns-in-Some-clause-answer g c =
    let way = makes_room _ _ _ _ _ _ _ _ _ _ _ c.loop-too_long.invariant.0 c.loop-too_long.invariant.1 c.in-Ok.ensures.ok in
    let room = room_made _ _ _ _ _ c.in-Ok.ensures.ok in
    let read = c.in-Ok-read.ensures in
    let more = reads_more _ _ _ _ _ _ _ _ _ _ _ _ _ way room.0 read.ok.0 read.ok.1 read.bytes.0 read.told in
    let goes_on : c.read.new.self.ended ≡ false = ap (λ h. h.ended) read.ok.1 ∙ ne_eqb _ 0 c.in-Ok-read.field-0-test.1 in
    answers_at_feed _ _ _ _ _ _ _ _ _ _ _ _ more goes_on c.in-Some.ensures.feed c.line_at.ensures.line c.line_at.ensures.left c.line_at.ensures.failed

pub loop-too_long-preserved : goal.loop-too_long-preserved
loop-too_long-preserved g c =
    let way = makes_room _ _ _ _ _ _ _ _ _ _ _ c.loop-too_long.invariant.0 c.loop-too_long.invariant.1 c.in-Ok.ensures.ok in
    let room = room_made _ _ _ _ _ c.in-Ok.ensures.ok in
    let read = c.in-Ok-read.ensures in
    let more = reads_more _ _ _ _ _ _ _ _ _ _ _ _ _ way room.0 read.ok.0 read.ok.1 read.bytes.0 read.told in
    let front : length c.read.new.self.front ≡ length c.make_room.new.intake.front = ap (λ h. length h.front) read.ok.1 in
    let kept = c.loop-too_long.invariant.5 in
    let below : c.make_room.new.intake.taken < MAX_TAKEN = read.below (λ e. cc) in
    let goes_on : c.read.new.self.ended ≡ false = ap (λ h. h.ended) read.ok.1 ∙ ne_eqb _ 0 c.in-Ok-read.field-0-test.1 in
    (more, c.in-None.ensures.feed, omega (arith, front, room.1), read.piece, read.count, omega (arith, kept, read.kept), λ all. absurd (omega (arith, all, below, way.counted)), goes_on)
