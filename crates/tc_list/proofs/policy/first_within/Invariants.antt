use Rattle.std.proofs.Common.{length}
use Rattle.tc_list.proofs.Suffixes.{IsWithin}
use Rattle.tc_list.proofs.policy.first_within.Given as goal

abbrev pub invariant-loop-newest : goal.invariant-loop-newest
invariant-loop-newest l = IsWithin l.fn.limit l.sizes l.rest l.room

abbrev pub decreases-loop-newest : goal.decreases-loop-newest
decreases-loop-newest l = length l.rest
