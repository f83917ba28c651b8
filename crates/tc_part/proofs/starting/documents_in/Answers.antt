use Rattle.std.proofs.Common.{◌∙◌, ◌-◌, sym, ap, arith}
use Rattle.tc_part_model.specs.Newest.{documents_by}
use Rattle.tc_part.proofs.NewestListed.{newest_at}
use Rattle.tc_part.proofs.starting.documents_in.Goals as goal

pub returns : goal.returns
returns g c =
    let list = c.args.list.now in
    let newest = newest_at g.F.Frozen.content list (c.len-count.result - 1) c.component_at.result.now c.component_at.ensures (omega (arith, c.len-count.ensures, c.if-count-eq0.false)) in
    c.documents.ensures ∙ sym (ap documents_by newest)
