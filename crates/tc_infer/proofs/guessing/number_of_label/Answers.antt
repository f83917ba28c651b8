use Rattle.std.proofs.Common.{◌∙◌, sym, ap}
use Rattle.tc_model.specs.Dictionary.{number_of}
use Rattle.tc_infer.proofs.guessing.number_of_label.Goals as goal

pub returns-in-None : goal.returns-in-None
returns-in-None c = c.id_of.ensures.number ∙ ap (number_of c.args.names.now) (c.name_in.ensures ∙ sym c.in-None.ensures.none)
