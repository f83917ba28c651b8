-- The search is of the last read alone.
use Rattle.std.proofs.Common.{◌≡◌, ◌-◌, List, ℕ, take, drop, MatchOption, ap, ◌∙◌, subst}
use Rattle.tc_lines.specs.Holding.{IsOneLine, HasFeedAt}
use Rattle.tc_lines.proofs.FeedLemmas.{first_feed}
use Rattle.tc_lines.proofs.intake.Intake.find_feed.Goals as goal

pub returns-clause-feed : goal.returns-clause-feed
returns-clause-feed c =
    let part : List ℕ → List ℕ = λ bs. take (c.self.inside.end - c.self.inside.start) (drop c.self.inside.start bs) in
    let same : part c.deref.result.now ≡ c.args.self.now.rest = ap part c.deref.ensures.value ∙ ap (λ h. h.rest) c.self.view_is in
    subst (λ bs. MatchOption c.memchr.result (IsOneLine bs) (HasFeedAt bs)) same (first_feed _ c.memchr.result c.memchr.ensures)
