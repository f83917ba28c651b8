use Rattle.tc_merge.proofs.MergedContents.{merge_of, made}
use Rattle.tc_merge.proofs.laws.merges_are_made.Goals as goal

pub returns : goal.returns
returns g c = λ head run cs is all.
    let is_made = made (λ file. g.F.Frozen.content file) c.round_trip.ensures.repacks (c.round_trip.ensures.stays 2) head run cs is all in
    (merge_of head cs, is_made.merge, is_made.short, is_made.bytes)
