use Rattle.tc_part_model.proofs.HeldKeys.{active_held, active_stored, active_absent, sealed_held, sealed_stored, sealed_absent, unsealed}
use Rattle.tc_part_model.proofs.staging.tables_hold_keys.Goals as goal

pub returns-clause-active : goal.returns-clause-active
returns-clause-active c = λ t p key k is. active_held t p is key k

pub returns-clause-active_stored : goal.returns-clause-active_stored
returns-clause-active_stored c = λ t p key k d is. active_stored t p is key k d

pub returns-clause-below : goal.returns-clause-below
returns-clause-below c = λ t p key is. active_absent t p is key

pub returns-clause-sealed : goal.returns-clause-sealed
returns-clause-sealed c = λ t p key table k is. sealed_held t p is key table k

pub returns-clause-sealed_stored : goal.returns-clause-sealed_stored
returns-clause-sealed_stored c = λ t p key table k d is. sealed_stored t p is key table k d

pub returns-clause-list : goal.returns-clause-list
returns-clause-list c = λ t p key table is. sealed_absent t p is key table

pub returns-clause-unsealed : goal.returns-clause-unsealed
returns-clause-unsealed c = unsealed

pub returns-clause-is_list : goal.returns-clause-is_list
returns-clause-is_list c = λ t p is. is.memory.list
