use Rattle.std.proofs.Common.{◌-◌, ◌<◌, length}
use Rattle.tc_doc_reader.proofs.members.least_from.Given as goal

abbrev pub invariant-names : goal.invariant-names
invariant-names l = l.least < length l.found

abbrev pub decreases-names : goal.decreases-names
decreases-names l = length l.found - l.at
