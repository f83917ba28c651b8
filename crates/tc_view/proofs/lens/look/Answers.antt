use Rattle.std.proofs.Common.{subst, sym, ◌≡◌}
use Rattle.tc_view.specs.declared.content.Content.{Content}
use Rattle.tc_view.specs.Rules.{IsViewOf}
use Rattle.tc_view.specs.Views.{content_of}
use Rattle.tc_view.proofs.RuleKept.{looks, if_ok}
use Rattle.tc_view.proofs.lens.look.Goals as goal

pub enter_as-requires : goal.enter_as-requires
enter_as-requires g c = looks content_of _ _

pub returns-in-Ok-clause-shares : goal.returns-in-Ok-clause-shares
returns-in-Ok-clause-shares g c k at =
    let seen : IsViewOf k (content_of c.get.result.now) = subst (λ v. IsViewOf k (content_of v)) (sym c.get.ensures) (c.in-Ok.ensures.1.1 k at) in
    if_ok {P = λ v. content_of v ≡ content_of c.get.result.now} {Q = λ v. IsViewOf k (content_of v)} c.share-shares.result c.share-shares.ensures (λ v e. subst (λ (x : Content _ _). IsViewOf k x) (sym e) seen)
