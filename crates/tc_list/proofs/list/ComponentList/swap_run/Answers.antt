use Rattle.std.proofs.Common.{◌∙◌, ap, map}
use Rattle.std.specs.Arc.{arc_value}
use Rattle.tc_list.specs.Runs.{in_run}
use Rattle.tc_list.proofs.Following.{put_follow}
use Rattle.tc_list.proofs.RunLaws.{in_run-map, put_is}
use Rattle.tc_list.proofs.list.ComponentList.swap_run.Goals as goal

pub invariant_of-self : goal.invariant_of-self
invariant_of-self g c =
    put_follow arc_value c.args.run c.args.merged c.self.inside.components.items c.put_for.new.components.items c.args.self.now c.put_for.ensures c.self.view_is c.self.invariant
    c.requires.order c.requires.within c.requires.begins c.requires.ends

pub returns-clause-ok : goal.returns-clause-ok
returns-clause-ok g c = put_is arc_value c.args.run c.args.merged c.self.inside.components.items c.put_for.new.components.items c.args.self.now c.put_for.ensures c.self.view_is

pub returns-clause-left : goal.returns-clause-left
returns-clause-left g c =
    c.in_ok-left.ensures ∙ ap (λ xs. map arc_value (in_run c.args.run xs)) c.deref.ensures.value
    ∙ in_run-map arc_value c.args.run c.self.inside.components.items ∙ ap (in_run c.args.run) c.self.view_is
