use Rattle.std.proofs.Common.{◌≡◌, ◌≤◌, ◌+◌, ◌-◌, ◌*◌, ◌^◌, max, min}
use Rattle.std.specs.List.{sum}
use Rattle.tc_record.specs.NumbersLeft.{elements_from, IsSeen}
use Rattle.tc_record.specs.Record.{greatest}
use Rattle.tc_record.proofs.totals.Totals.add_last.Given as goal

abbrev pub invariant-loop-todo : goal.invariant-loop-todo
invariant-loop-todo l =
    let n = l.fn.numbers in
    record {
      few : l.todo ≤ l.found.left;
      within : l.found.left ≤ n.left;
      left : l.found.left - l.todo ≡ l.fn.self.left - l.fn.count;
      seen : IsSeen l.window (n.width * l.todo) (n.place + n.width * l.found.left) n.bytes.now;
      most : max l.found.greatest (greatest (elements_from n.width n.place l.found.left n.bytes.now)) ≡ max l.fn.self.greatest (greatest (elements_from n.width n.place l.fn.self.left n.bytes.now));
      all : min (l.found.total + sum (elements_from n.width n.place l.found.left n.bytes.now)) (2 ^ 32 - 1) ≡ min (l.fn.self.total + sum (elements_from n.width n.place l.fn.self.left n.bytes.now)) (2 ^ 32 - 1);
    }

abbrev pub decreases-loop-todo : goal.decreases-loop-todo
decreases-loop-todo l = l.todo
