use Rattle.tc_plain_model.proofs.AscendingWrites.{documents_in_order}
use Rattle.tc_lsm_model.proofs.FlushNames.{Extends-names_after, distinct-names_after, known-names_after, live-names_after, few-names_after}
use Rattle.tc_lsm_model.proofs.laws.flushes_learn_names.Goals as goal

pub returns-clause-extends : goal.returns-clause-extends
returns-clause-extends c = Extends-names_after

pub returns-clause-distinct : goal.returns-clause-distinct
returns-clause-distinct c = distinct-names_after

pub returns-clause-written : goal.returns-clause-written
returns-clause-written c = known-names_after

pub returns-clause-live : goal.returns-clause-live
returns-clause-live c = live-names_after

pub returns-clause-few : goal.returns-clause-few
returns-clause-few c = few-names_after

pub returns-clause-documents : goal.returns-clause-documents
returns-clause-documents c = documents_in_order
