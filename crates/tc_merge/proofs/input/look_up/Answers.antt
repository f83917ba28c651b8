use Rattle.std.proofs.Common.{◌∙◌, ◌<◌, ◌-◌, ap, length, arith}
use Rattle.std.specs.Prelude.{min}
use Rattle.tc_merge.proofs.Near.{looked_up_none, looked_up}
use Rattle.tc_merge.proofs.input.look_up.Goals as goal

pub returns-then-held-eq0 : goal.returns-then-held-eq0
returns-then-held-eq0 g c =
    let left = length c.args.component.now.index.slots - c.args.at in
    looked_up_none c.args.component.now.index c.args.at c.spans-held.new.room c.spans-held.result c.requires c.spans-held.ensures.spans (c.spans-held.auto.room ∙ c.told-near) (c.spans-held.ensures.count ∙ ap (λ n. min n left) c.told-near) c.if-held-eq0.true

pub returns-else-held-eq0 : goal.returns-else-held-eq0
returns-else-held-eq0 g c =
    let left = length c.args.component.now.index.slots - c.args.at in
    let some : 0 < c.spans-held.result = let other = c.if-held-eq0.false in omega (arith, other) in
    looked_up c.args.component.now.index c.args.at c.spans-held.new.room c.spans-held.result _ c.requires c.spans-held.ensures.spans (c.spans-held.auto.room ∙ c.told-near) (c.spans-held.ensures.count ∙ ap (λ n. min n left) c.told-near) some
