use Rattle.std.proofs.Common.{◌∙◌, length, ap, sym}
use Rattle.tc_names.proofs.Cuts.{length-cut}
use Rattle.tc_names.proofs.texts.Texts.len.Goals as goal

pub returns : goal.returns
returns c = record {
  count = ap length c.as_slice.ensures.value ∙ sym (length-cut 0 c.self.inside.ends.items c.self.inside.bytes.items) ∙ ap length c.self.view_is;
}
