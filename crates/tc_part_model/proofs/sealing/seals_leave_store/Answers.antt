use Rattle.tc_part_model.proofs.SealedParts.{seal_broken_moments, seal_made_moments, seal_next_moments, seal_unmade_moments}
use Rattle.tc_part_model.proofs.sealing.seals_leave_store.Goals as goal

pub returns-clause-store : goal.returns-clause-store
returns-clause-store c = seal_made_moments

pub returns-clause-next_log : goal.returns-clause-next_log
returns-clause-next_log c = λ t p device log is none nothing fresh head. seal_next_moments t p is none nothing device fresh head log

pub returns-clause-not_made : goal.returns-clause-not_made
returns-clause-not_made c = λ t p disks is none nothing. seal_unmade_moments t p is none nothing disks

pub returns-clause-broken : goal.returns-clause-broken
returns-clause-broken c = λ t p device broken is none nothing fresh head. seal_broken_moments t p is none nothing device fresh head broken
