use Rattle.std.proofs.Common.{◌∙◌, ◌-◌, sym, ap, arith}
use Rattle.tc_part_model.specs.Newest.{names_by}
use Rattle.tc_part.proofs.NewestListed.{newest_at}
use Rattle.tc_part.proofs.Spelled.{if_ok_then}
use Rattle.tc_part.proofs.starting.names_of.Goals as goal

pub returns : goal.returns
returns g c =
    let list = c.args.list.now in
    let newest = newest_at g.F.Frozen.content list (c.len-count.result - 1) c.component_at.result.now c.component_at.ensures (omega (arith, c.len-count.ensures, c.if-count-eq0.false)) in
    if_ok_then c.copy.result _ _ (λ names _ same. same ∙ c.names.ensures ∙ sym (ap names_by newest)) c.copy.ensures.same
