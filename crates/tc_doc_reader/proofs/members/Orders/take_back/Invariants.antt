use Rattle.std.proofs.Common.{◌≤◌, length}
use Rattle.std.specs.List.Sorted.{IsPermutation}
use Rattle.tc_doc_reader.proofs.members.Orders.take_back.Given as goal

abbrev pub invariant-members : goal.invariant-members
invariant-members l = (l.at ≤ length l.found.items) × IsPermutation l.initial.found.items l.found.items

abbrev pub decreases-members : goal.decreases-members
decreases-members l = l.at
