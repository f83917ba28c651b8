use Rattle.std.proofs.Common.{refl}
use Rattle.tc_part_model.proofs.NewestComponents.{newest_last}
use Rattle.tc_part_model.proofs.StartedParts.{not_started, not_started_moments, start_is_part, start_plain}
use Rattle.tc_part_model.proofs.starting.parts_start.Goals as goal

pub returns-clause-started : goal.returns-clause-started
returns-clause-started c = start_is_part

pub returns-clause-plain : goal.returns-clause-plain
returns-clause-plain c = start_plain

pub returns-clause-newest : goal.returns-clause-newest
returns-clause-newest c = newest_last

pub returns-clause-not_begun : goal.returns-clause-not_begun
returns-clause-not_begun c = not_started

pub returns-clause-not_begun_moments : goal.returns-clause-not_begun_moments
returns-clause-not_begun_moments c = not_started_moments

pub returns-clause-stored : goal.returns-clause-stored
returns-clause-stored c = λ part list. refl
