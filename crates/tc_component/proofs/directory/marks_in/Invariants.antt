use Rattle.tc_component.proofs.Marks.{SlotsRead}
use Rattle.tc_component.proofs.directory.marks_in.Given as goal

abbrev pub invariant-loop-index : goal.invariant-loop-index
invariant-loop-index l = SlotsRead l.sizes.entries l.sizes.records l.index l.low l.end l.bytes l.rest l.marks.items
