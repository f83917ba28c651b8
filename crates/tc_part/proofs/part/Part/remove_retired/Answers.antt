use Rattle.std.proofs.Common.{map}
use Rattle.std.specs.Arc.{arc_value}
use Rattle.tc_part.proofs.SweptFiles.{removes_apart}
use Rattle.tc_part.proofs.part.Part.remove_retired.Goals as goal

pub returns-clause-removed : goal.returns-clause-removed
returns-clause-removed g c =
    rw (← c.self.view_is) (removes_apart g.S.Frozen.Frozen.name c.self.inside.list (map arc_value c.apart_from-apart.result.items) (g.S.Store.history c.self.inside.store) (g.S.Store.history c.retire.new.self.store) c.apart_from-apart.ensures.apart c.retire.ensures.removed)

pub returns-in_err-retire-clause-removed : goal.returns-in_err-retire-clause-removed
returns-in_err-retire-clause-removed g c =
    rw (← c.self.view_is) (removes_apart g.S.Frozen.Frozen.name c.self.inside.list (map arc_value c.apart_from-apart.result.items) (g.S.Store.history c.self.inside.store) (g.S.Store.history c.retire.new.self.store) c.apart_from-apart.ensures.apart c.retire.ensures.removed)
