use Rattle.std.proofs.Common.{◌-◌, ◌≤◌, length, map, drop}
use Rattle.tc_model.specs.Document.{IsAscending}
use Rattle.tc_value.specs.Meaning.{member_of}
use Rattle.tc_doc_reader.proofs.members.ascend.Given as goal

abbrev pub invariant-names : goal.invariant-names
invariant-names l = (l.at ≤ length l.found) × IsAscending (drop (l.at - 1) (map member_of l.found))

abbrev pub decreases-names : goal.decreases-names
decreases-names l = l.at
