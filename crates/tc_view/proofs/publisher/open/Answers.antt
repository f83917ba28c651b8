use Rattle.std.proofs.Common.{◌≡◌, ap, sym, subst, ◌∙◌, fold}
use Rattle.tc_view.specs.declared.content.Content.{Content}
use Rattle.tc_view.specs.Rules.{IsViewOf}
use Rattle.tc_view.specs.Places.{shown_of, next_of}
use Rattle.tc_view.specs.Views.{content_of, applied}
use Rattle.tc_view.proofs.RuleKept.{opens, agreed_first}
use Rattle.tc_view.proofs.ViewLemmas.{opening_view}
use Rattle.tc_view.proofs.publisher.open.Goals as goal

pub new-requires-clause-rule : goal.new-requires-clause-rule
new-requires-clause-rule g c =
    let key = c.requires.0 in
    agreed_first key (content_of c.args.first) (subst (λ (x : Content _ _). IsViewOf key x) (sym c.requires.1) (opening_view key))

pub publish_as-writer-requires : goal.publish_as-writer-requires
publish_as-writer-requires g c next is =
    let shown = c.in_ok-writer.writer.desk.shown.value in
    opens content_of _ _ shown next (is ∙ ap (fold applied (content_of shown)) c.in_ok-writer.ensures.1)

pub returns-in-Ok : goal.returns-in-Ok
returns-in-Ok g c =
    let before = c.in_ok-writer.writer in
    let after = c.publish_as-writer.result.0 in
    let values = rw c.in-Ok.is at c.publish_as-writer.ensures.values in
    let rule = rw c.in-Ok.is at c.publish_as-writer.ensures.rule in
    let same : shown_of after ≡ content_of c.args.first =
    values.0 ∙ (ap (λ l. fold applied (content_of before.desk.shown.value) l) c.in_ok-writer.ensures.1 ∙ ap content_of c.in_ok-writer.ensures.0) in
    let next : next_of after ≡ content_of c.args.first = ap (λ l. fold applied (shown_of after) l) values.1 ∙ same in (
      (rule.0, record { place = rule.1; shown = rule.2; next = subst (λ (x : Content _ _). IsViewOf rule.0 x) (same ∙ sym next) rule.2 }),
      same,
      next,
    )
