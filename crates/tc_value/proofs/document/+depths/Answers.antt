use Rattle.std.proofs.Common.{rules}
use Rattle.tc_model.proofs.TreeLists.{lawful_object}
use Rattle.tc_value.proofs.document.+depths.Goals as goal

pub Doc::depth-returns-in-Object-clause-lawful : goal.Doc::depth-returns-in-Object-clause-lawful
Doc::depth-returns-in-Object-clause-lawful t c = search (rules, lawful_object)
