use Rattle.std.proofs.Common.{◌≡◌, take}
use Rattle.tc_merge.specs.Inputs.{IsNextOf, next_in}
use Rattle.tc_merge.proofs.merging.next_of.Given as goal

abbrev pub invariant-loop-input : goal.invariant-loop-input
invariant-loop-input g l = record {
  next : IsNextOf (take l.input-index l.inputs) (next_in l.least);
  place : l.place ≡ l.input-index;
}
