use Rattle.std.proofs.Common.{◌≡◌, ◌++◌, map, take, drop}
use Rattle.tc_merge.specs.Inputs.{passed, IsNextOf, next_in}
use Rattle.tc_merge.proofs.merging.pass_all.Given as goal

abbrev pub invariant-loop-input : goal.invariant-loop-input
invariant-loop-input g l = record {
  passed : l.inputs ≡ map (passed l.key) (take l.input-index l.fn.inputs) ++ drop l.input-index l.fn.inputs;
  next : IsNextOf (take l.input-index l.inputs) (next_in l.least);
  place : l.place ≡ l.input-index;
}
