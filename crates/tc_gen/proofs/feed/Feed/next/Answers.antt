use Rattle.std.proofs.Common.{◌∙◌, ap, sym, ◌∷◌, suc, ◌+◌, ◌-◌, ◌%◌}
use Rattle.tc_gen.specs.Generated.{line_of, lines_left, lines_from}
use Rattle.tc_gen.proofs.LinesLeft.{with_next}
use Rattle.tc_gen.proofs.feed.Feed.next.Goals as goal

pub returns-clause-given : goal.returns-clause-given
returns-clause-given c =
    let given = c.self.inside.given in
    let left = c.in-Some.left in
    let is_left = sym c.self.view_is ∙ ap (lines_left given) c.in-Some.is in
    let is_line = c.in_ok-line-2.ensures ∙ ap (λ d. line_of (given + 1) (d % 5000)) c.next_drawn-drawn.ensures in
    is_left ∙ with_next given left c.self.inside.drawn c.if-left-eq0.false c.self.invariant.0
    ∙ ap (λ line. line ∷ lines_from (suc (given + 1)) (left - 1)) (sym is_line)
