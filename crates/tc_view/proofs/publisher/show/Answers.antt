use Rattle.std.proofs.Common.{sym, subst}
use Rattle.tc_view.specs.declared.content.Content.{Content}
use Rattle.tc_view.specs.Rules.{IsViewOf}
use Rattle.tc_view.specs.Views.{content_of}
use Rattle.tc_view.proofs.RuleKept.{stays}
use Rattle.tc_view.proofs.publisher.show.Goals as goal

pub publish_as-requires : goal.publish_as-requires
publish_as-requires g c next is =
    let k = c.requires.0 in
    stays content_of _ _ k c.args.writer.desk.shown.value next c.requires.1.place (subst (λ (x : Content _ _). IsViewOf k x) (sym is) c.requires.1.next)
