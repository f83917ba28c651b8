use Rattle.std.proofs.Common.{◌<◌, length, sym, subst, arith}
use Rattle.tc_query.proofs.KnownRecords.{known_then, known_set}
use Rattle.tc_query.specs.Readers.{KnowsUnder}
use Rattle.tc_query.proofs.known.Known.keep.Goals as goal

pub returns-then-at-len : goal.returns-then-at-len
returns-then-at-len c = λ names hops found is knows.
    let known = c.self.inside.records.items in
    let within : c.args.at < length known = let test = c.if-at-len.true in let many = c.len.ensures in omega (arith, test, many) in
    known_set names hops known c.args.at c.index_mut.result.now c.keep.new.self within c.index_mut.ensures.value
    (known_then names hops c.args.of.now c.args.lead c.index_mut.result.now c.keep.new.self c.bytes-bytes.ensures.spells c.requires.numbered found is c.keep.ensures)
    (subst (KnowsUnder names hops) (sym c.self.view_is) (c.make_room.ensures names hops knows))
