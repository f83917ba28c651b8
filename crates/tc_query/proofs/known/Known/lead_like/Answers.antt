use Rattle.std.proofs.Common.{◌<◌, length, sym, subst, arith}
use Rattle.tc_query.proofs.KnownRecords.{known_still, known_set}
use Rattle.tc_query.specs.Readers.{KnowsUnder}
use Rattle.tc_query.proofs.known.Known.lead_like.Goals as goal

pub returns-then-at-len-clause-knows : goal.returns-then-at-len-clause-knows
returns-then-at-len-clause-knows c = λ hops knows.
    let names = c.args.names.now in
    let known = c.self.inside.records.items in
    let within : c.args.at < length known = let test = c.if-at-len.true in let many = c.len.ensures in omega (arith, test, many) in
    known_set names hops known c.args.at c.index_mut.result.now c.lead_like.new.self within c.index_mut.ensures.value
    (known_still names hops c.index_mut.result.now c.lead_like.new.self c.lead_like.ensures.same.0 c.lead_like.ensures.same.1) (subst (KnowsUnder names hops) (sym c.self.view_is) knows)
