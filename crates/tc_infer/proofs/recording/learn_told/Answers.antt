use Rattle.std.proofs.Common.{rules, ◌≡◌, ◌∙◌, ◌∷◌, length, sym, ap, arith}
use Rattle.tc_model.specs.Dictionary.{learned, all_learned}
use Rattle.tc_model.proofs.LearnedNames.{length-all_learned}
use Rattle.tc_infer.specs.Levels.{names_told}
use Rattle.tc_infer.proofs.recording.learn_told.Goals as goal

pub learn-requires-clause-room : goal.learn-requires-clause-room
learn-requires-clause-room c =
    let l = c.loop-token in
    let n = c.in-Name.name.now in
    let here : names_told l.cursor ≡ n ∷ names_told c.next.new.self = search rules in
    let left : all_learned (learned l.names n) (names_told c.next.new.self) ≡ all_learned c.args.names.now (names_told c.args.of.now.tokens) = ap (all_learned l.names) (sym here) ∙ l.invariant.left in
    omega (arith, length-all_learned (learned l.names n) (names_told c.next.new.self), ap length left, c.requires.room)
