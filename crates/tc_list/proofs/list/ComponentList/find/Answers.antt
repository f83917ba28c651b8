use Rattle.std.proofs.Common.{◌∙◌, ap, map, subst}
use Rattle.std.specs.Arc.{arc_value}
use Rattle.tc_list.specs.Lookups.{IsWhere}
use Rattle.tc_list.proofs.Shown.{where_live}
use Rattle.tc_list.proofs.list.ComponentList.find.Goals as goal

pub returns-clause-live : goal.returns-clause-live
returns-clause-live g c part cs is all =
    let seen = subst (λ ms. IsWhere ms c.args.key c.newest_of.result) (ap (map arc_value) c.deref.ensures.value ∙ c.self.view_is) c.newest_of.ensures in
    where_live part c.args.self.now cs c.args.key c.newest_of.result is all seen
