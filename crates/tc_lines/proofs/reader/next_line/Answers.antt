-- A line feed that is held ends a line, and where none is, no whole line is held.
use Rattle.std.proofs.Common.{sym, subst}
use Rattle.tc_lines.specs.Holding.{IsOneLine}
use Rattle.tc_lines.proofs.LineLemmas.{IsOneLine-append, whole_lines-one_line}
use Rattle.tc_lines.proofs.Progress.{starts, answers_at_feed, feed_ends_line}
use Rattle.tc_lines.proofs.reader.next_line.Goals as goal

pub returns-in-Some-clause-answer : goal.returns-in-Some-clause-answer
returns-in-Some-clause-answer g c =
    answers_at_feed _ _ _ _ _ _ _ _ _ _ _ _ (starts _ _ _ _ _ c.requires.front) c.requires.ended c.in-Some.ensures.feed c.line_at.ensures.line c.line_at.ensures.left c.line_at.ensures.failed

pub returns-in-Some-clause-spent : goal.returns-in-Some-clause-spent
returns-in-Some-clause-spent g c =
    λ _ none _. absurd (feed_ends_line _ _ _ (subst IsOneLine (sym c.requires.front) tt) c.in-Some.ensures.feed none)

pub returns-in-None-clause-unread : goal.returns-in-None-clause-unread
returns-in-None-clause-unread g c =
    λ some. absurd (some (whole_lines-one_line _ (IsOneLine-append _ _ (subst IsOneLine (sym c.requires.front) tt) c.in-None.ensures.feed)))
