use Rattle.tc_compact.proofs.Repacks.{repacked_of}
use Rattle.tc_compact.proofs.RoundTrip.{compacted_stays, one_record}
use Rattle.tc_compact.proofs.law.round_trip.Goals as goal

pub returns-clause-stays : goal.returns-clause-stays
returns-clause-stays c = compacted_stays

pub returns-clause-one : goal.returns-clause-one
returns-clause-one c = one_record

pub returns-clause-repacks : goal.returns-clause-repacks
returns-clause-repacks c = repacked_of
