use Rattle.std.proofs.Common.{◌∙◌, ap}
use Rattle.std.specs.Arc.{arc_value}
use Rattle.tc_model.proofs.KeyedMaps.{is_some-option_map}
use Rattle.tc_part.specs.Ready.{active_generation}
use Rattle.tc_part.proofs.part.Part.generations_follow.Goals as goal

pub returns : goal.returns
returns g c = rw (← c.self.view_is) λ sound. c.self.invariant.behind sound ∙ ap (active_generation c.self.inside.list) (is_some-option_map arc_value c.self.inside.sealed)
