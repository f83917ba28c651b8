use Rattle.std.proofs.Common.{◌∙◌, sym, ap, length}
use Rattle.tc_record.proofs.Placed.{length-elements_from}
use Rattle.tc_record.proofs.column.Column.len.Goals as goal

pub returns : goal.returns
returns c =
    let n = c.self.inside.left in
    sym (length-elements_from n.width n.place n.left n.bytes.now) ∙ ap length c.self.view_is
