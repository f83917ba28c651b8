use Rattle.std.proofs.Common.{◌≡◌, ◌≤◌, take}
use Rattle.tc_record.specs.WalkView.{numbers_of}
use Rattle.tc_record.proofs.numbers.Numbers.are_like_by_parts.Given as goal

abbrev pub invariant-loop-todo : goal.invariant-loop-todo
invariant-loop-todo l = record {
  width : l.mine.width ≡ l.theirs.width;
  own : l.mine.width ≡ l.fn.self.width;
  mine : l.todo ≤ l.mine.left;
  theirs : l.todo ≤ l.theirs.left;
  same : take l.todo (numbers_of l.mine) ≡ take l.todo (numbers_of l.theirs) → take l.fn.count (numbers_of l.fn.self) ≡ take l.fn.count (numbers_of l.fn.others);
}

abbrev pub decreases-loop-todo : goal.decreases-loop-todo
decreases-loop-todo l = l.todo
