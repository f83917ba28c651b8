use Rattle.std.proofs.Common.{rules}
use Rattle.tc_model.proofs.TreeLists.{lawful_object}
use Rattle.tc_value.proofs.document.+limits.Goals as goal

pub Doc::nests_within-returns-then-limit-gt0-2-clause-lawful :
    goal.Doc::nests_within-returns-then-limit-gt0-2-clause-lawful
Doc::nests_within-returns-then-limit-gt0-2-clause-lawful t c = λ within.
    let each = c.members_nest_within.ensures.lawful within in
    search (rules, lawful_object)
