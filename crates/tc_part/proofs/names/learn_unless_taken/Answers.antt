use Rattle.std.proofs.Common.{◌++◌, ◌∙◌, length, length-append, sym, ap, arith}
use Rattle.tc_model.specs.Dictionary.{learned}
use Rattle.tc_model.proofs.FreshNames.{learned_behind, nothing_learned}
use Rattle.tc_part.proofs.names.learn_unless_taken.Goals as goal

pub learn-requires-clause-room : goal.learn-requires-clause-room
learn-requires-clause-room c =
    let behind = learned_behind c.args.taken.now c.args.fresh.now c.args.name.now (sym c.number_of.ensures ∙ c.in-None.is) in
    omega (arith, c.requires.room, ap length behind, length-append c.args.taken.now (learned c.args.fresh.now c.args.name.now))

pub returns-in-Some : goal.returns-in-Some
returns-in-Some c =
    sym (nothing_learned c.args.taken.now c.args.fresh.now c.args.name.now c.in-Some._id (sym c.number_of.ensures ∙ c.in-Some.is))

pub returns-in_ok-learn-in-None : goal.returns-in_ok-learn-in-None
returns-in_ok-learn-in-None c =
    ap (λ names. c.args.taken.now ++ names) c.in_ok-learn-in-None.ensures.ok ∙ sym (learned_behind c.args.taken.now c.args.fresh.now c.args.name.now (sym c.number_of.ensures ∙ c.in-None.is))
