use Rattle.std.proofs.Common.{rules, arith}
use Rattle.tc_merge.proofs.NextInputs.{taken, left_out}
use Rattle.tc_merge.proofs.merging.newer_of.Goals as goal

pub returns-then-key-least : goal.returns-then-key-least
returns-then-key-least g c = λ inputs len before.
    taken inputs c.args.input.now c.args.least c.args.place c.key-key.result len c.key-key.ensures c.if-key-least.true (search rules) before

pub returns-else-key-least : goal.returns-else-key-least
returns-else-key-least g c = λ inputs len before.
    let other = c.if-key-least.false in
    left_out inputs c.args.input.now c.args.least c.key-key.result c.key-key.ensures (omega (arith, other)) (search rules) before
