use Rattle.std.proofs.Common.{◌≡◌, ◌∙◌, ◌+◌, ◌-◌, ◌<◌, ◌^◌, sym, ap, subst, arith}
use Rattle.tc_part_model.specs.Newest.{next_by}
use Rattle.tc_part.specs.Openings.{newest_in}
use Rattle.tc_part.proofs.NewestListed.{newest_at}
use Rattle.tc_part.proofs.starting.generation_behind.Goals as goal

pub overflow_add-result : goal.overflow_add-result
overflow_add-result g c =
    let list = c.args.list.now in
    let newest = newest_at g.F.Frozen.content list (c.len-count.result - 1) c.component_at.result.now c.component_at.ensures (omega (arith, c.len-count.ensures, c.if-count-eq0.false)) in
    let behind : c.head.result.to + 1 ≡ next_by (newest_in g.F.Frozen.content list) = ap (λ h. h.to + 1) c.head.ensures ∙ sym (ap next_by newest) in
    let few : c.head.result.to + 1 < 2 ^ 63 = subst (λ n. n < 2 ^ 63) (sym behind) c.requires in
    omega (arith, few)

pub returns : goal.returns
returns g c =
    let list = c.args.list.now in
    let newest = newest_at g.F.Frozen.content list (c.len-count.result - 1) c.component_at.result.now c.component_at.ensures (omega (arith, c.len-count.ensures, c.if-count-eq0.false)) in
    ap (λ h. h.to + 1) c.head.ensures ∙ sym (ap next_by newest)
