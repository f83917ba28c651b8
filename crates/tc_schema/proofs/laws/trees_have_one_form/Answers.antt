use Rattle.tc_schema_model.proofs.CanonicalTrees.{canonical_tree}
use Rattle.tc_schema_model.proofs.TreesMade.{tree_made}
use Rattle.tc_schema.proofs.laws.trees_have_one_form.Goals as goal

pub returns-clause-made : goal.returns-clause-made
returns-clause-made c = canonical_tree

pub returns-clause-each : goal.returns-clause-each
returns-clause-each c = tree_made
