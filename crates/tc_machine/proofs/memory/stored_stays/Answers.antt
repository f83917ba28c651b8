use Rattle.std.proofs.Common.{ap, ◌∙◌}
use Rattle.tc_machine.specs.State.{history}
use Rattle.tc_machine.proofs.MemorySteps.{committed_is, history_after, same_store}
use Rattle.tc_machine.proofs.StoredStays.{stored_stays, opened_stored, stored_committed, started_anew}
use Rattle.tc_machine.proofs.memory.stored_stays.Goals as goal

pub returns-clause-stays : goal.returns-clause-stays
returns-clause-stays c = stored_stays

pub returns-clause-committed : goal.returns-clause-committed
returns-clause-committed c = stored_committed

pub returns-clause-history : goal.returns-clause-history
returns-clause-history c = λ s d ws active frame. ap (λ t. history t) (committed_is s d ws active frame) ∙ history_after s d ws active

pub returns-clause-opened : goal.returns-clause-opened
returns-clause-opened c = opened_stored

pub returns-clause-started : goal.returns-clause-started
returns-clause-started c = started_anew

pub returns-clause-rebased : goal.returns-clause-rebased
returns-clause-rebased c = same_store
