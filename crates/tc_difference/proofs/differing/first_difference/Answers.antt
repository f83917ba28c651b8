use Rattle.std.proofs.Common.{subst}
use Rattle.tc_schema_model.proofs.CountingLaws.{same_counted}
use Rattle.tc_schema.specs.Places.{place_counted}
use Rattle.tc_difference.specs.Comparing.{IsCompared, ShowTheSame}
use Rattle.tc_difference.proofs.differing.first_difference.Goals as goal

pub returns-clause-none : goal.returns-clause-none
returns-clause-none c =
    let names = c.args.names.now in
    let same : ShowTheSame names (place_counted c.root.result.now) (place_counted c.root-2.result.now) = subst (IsCompared names (place_counted c.root.result.now) (place_counted c.root-2.result.now)) c.in-None.is c.in_ok-met.ensures in
    same_counted names c.len-known.ensures.dictionary.distinct c.args.kept.now c.args.counted.now c.requires.kept c.requires.counted
    (subst (λ e. ShowTheSame names c.args.kept.now e) c.root-2.ensures.counted (subst (λ d. ShowTheSame names d (place_counted c.root-2.result.now)) c.root.ensures.counted same))
