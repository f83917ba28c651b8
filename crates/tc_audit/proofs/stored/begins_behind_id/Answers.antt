use Rattle.std.proofs.Common.{◌∙◌, sym, ap}
use Rattle.tc_audit.specs.Lacking.{begins_behind}
use Rattle.tc_audit.proofs.stored.begins_behind_id.Goals as goal

pub returns-in-Some : goal.returns-in-Some
returns-in-Some c = λ n is yes. ap (begins_behind c.args.names.now) (sym (c.slots-slots.ensures n is) ∙ c.in-Some.ensures.some) ∙ c.is_behind_id.ensures yes
