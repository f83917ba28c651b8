use Rattle.std.proofs.Common.{sym, subst, ap, ◌∙◌, ◌≡◌}
use Rattle.tc_view.specs.declared.content.Content.{Content}
use Rattle.tc_view.specs.Places.{shown_by, published_by}
use Rattle.tc_view.specs.Rules.{IsViewOf}
use Rattle.tc_view.specs.Views.{content_of}
use Rattle.tc_view.proofs.RuleKept.{admits, forks, merges}
use Rattle.tc_view.proofs.publisher.Publisher.lens.Goals as goal

pub reader-requires : goal.reader-requires
reader-requires g c = admits content_of

pub tell-requires : goal.tell-requires
tell-requires g c = forks content_of _ _

pub learn-requires-clause-rule : goal.learn-requires-clause-rule
learn-requires-clause-rule g c = merges content_of _ _ _ _

pub returns-clause-lens : goal.returns-clause-lens
returns-clause-lens g c =
    let kept : shown_by c.in_ok-kept.kept ≡ published_by c.args.self.now =
    c.in_ok-kept.ensures ∙ (c.in_ok-share.ensures ∙ ap content_of (c.published.ensures ∙ ap (λ p. p.value) c.tell.ensures.kept.0)) in (
      (λ k r. record {
        place = c.learn.ensures.1 ∙ (c.tell.ensures.given.1 ∙ r.open_to.place);
        kept = subst (λ (x : Content _ _). IsViewOf k x) (sym kept) r.open_to.shown;
      }),
      kept,
    )
