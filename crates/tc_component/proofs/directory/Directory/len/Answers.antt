use Rattle.std.proofs.Common.{◌∙◌, length, sym, ap}
use Rattle.tc_component.proofs.Marks.{slots_length}
use Rattle.tc_component.proofs.directory.Directory.len.Goals as goal

pub returns : goal.returns
returns c = sym (slots_length c.self.inside.count c.self.inside.bytes.items) ∙ ap length c.self.view_is
