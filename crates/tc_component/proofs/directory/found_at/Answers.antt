use Rattle.std.proofs.Common.{◌∙◌, ◌<◌, ap, arith, Some}
use Rattle.tc_component.specs.Spelling.{slot}
use Rattle.tc_component.proofs.directory.found_at.Goals as goal

pub returns-then-slot-eq0 : goal.returns-then-slot-eq0
returns-then-slot-eq0 c = λ slots here. (c.args.at, here ∙ ap (λ n. Some (slot c.args.slot.key n)) c.if-slot-eq0.true)

pub returns-else-slot-eq0 : goal.returns-else-slot-eq0
returns-else-slot-eq0 c = λ slots here.
    let some : 0 < c.args.slot.length = let is = c.if-slot-eq0.false in omega arith in
    (c.args.slot.length, here, some)
