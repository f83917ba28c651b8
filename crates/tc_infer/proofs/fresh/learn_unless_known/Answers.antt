use Rattle.std.proofs.Common.{◌++◌, ◌∙◌, sym, ap}
use Rattle.tc_model.proofs.FreshNames.{learned_behind, nothing_learned}
use Rattle.tc_infer.proofs.fresh.learn_unless_known.Goals as goal

pub returns-in-Some : goal.returns-in-Some
returns-in-Some c =
    sym (nothing_learned c.args.known.now c.args.fresh.now c.args.name.now c.in-Some._id (sym c.id_of.ensures.number ∙ c.in-Some.is))

pub returns-in_ok-learn-in-None : goal.returns-in_ok-learn-in-None
returns-in_ok-learn-in-None c =
    ap (λ names. c.args.known.now ++ names) c.in_ok-learn-in-None.ensures.ok ∙ sym (learned_behind c.args.known.now c.args.fresh.now c.args.name.now (sym c.id_of.ensures.number ∙ c.in-None.is))
