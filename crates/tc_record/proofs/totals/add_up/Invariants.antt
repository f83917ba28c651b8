use Rattle.std.proofs.Common.{◌≡◌, ◌≤◌, ◌+◌, ◌-◌, ◌^◌, max, min}
use Rattle.std.specs.List.{sum}
use Rattle.tc_record.specs.NumbersLeft.{elements_from}
use Rattle.tc_record.specs.Record.{greatest}
use Rattle.tc_record.specs.Sections.{capped_sum}
use Rattle.tc_record.specs.WalkView.{numbers_of}
use Rattle.tc_record.proofs.totals.add_up.Given as goal

abbrev pub invariant-loop-found : goal.invariant-loop-found
invariant-loop-found l =
    let n = l.fn.numbers in
    record {
      within : l.found.left ≤ n.left;
      most : max l.found.greatest (greatest (elements_from n.width n.place l.found.left n.bytes.now)) ≡ greatest (numbers_of n);
      all : min (l.found.total + sum (elements_from n.width n.place l.found.left n.bytes.now)) (2 ^ 32 - 1) ≡ capped_sum (numbers_of n);
    }

abbrev pub decreases-loop-found : goal.decreases-loop-found
decreases-loop-found l = l.found.left
