use Rattle.std.proofs.Common.{arith}
use Rattle.tc_names.proofs.SectionSize.{section-size}
use Rattle.tc_names.proofs.dictionary.Names.section_size.Goals as goal

pub returns : goal.returns
returns c = omega (arith, section-size c.args.self.now, c.len.ensures.count, c.size.ensures)
