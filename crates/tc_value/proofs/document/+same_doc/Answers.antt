use Rattle.std.proofs.Common.{rules}
use Rattle.tc_model.proofs.TreeLists.{same_array, same_object}
use Rattle.tc_value.proofs.document.+same_doc.Goals as goal

pub Doc::same-returns-in-Array-other : goal.Doc::same-returns-in-Array-other
Doc::same-returns-in-Array-other t c = search (rules, same_array)

pub Doc::same-returns-in-Object-other : goal.Doc::same-returns-in-Object-other
Doc::same-returns-in-Object-other t c = search (rules, same_object)
