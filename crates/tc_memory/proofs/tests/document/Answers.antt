use Rattle.std.proofs.Common.{rules}
use Rattle.tc_model.proofs.TreeLists.{ascending_single}
use Rattle.tc_memory.proofs.tests.document.Goals as goal

pub of-requires : goal.of-requires
of-requires c = search (rules, ascending_single)
