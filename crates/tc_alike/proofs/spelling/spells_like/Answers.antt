use Rattle.tc_alike.proofs.AlikeRecords.{like_spelled, like_shaped}
use Rattle.tc_alike.proofs.spelling.spells_like.Goals as goal

pub returns-then-is_alike-clause-found : goal.returns-then-is_alike-clause-found
returns-then-is_alike-clause-found c = λ short.
    like_spelled c.args.names.now c.args.of.now c.args.other.now c.len-known.ensures.dictionary c.bytes-bytes.ensures.spells c.requires.numbered c.requires.known (c.is_alike.ensures c.if-is_alike.true) (c.is_surely_short.ensures short)

pub returns-then-is_alike-clause-shape : goal.returns-then-is_alike-clause-shape
returns-then-is_alike-clause-shape c = λ short.
    like_shaped c.args.names.now c.args.of.now c.args.other.now c.len-known.ensures.dictionary c.bytes-bytes.ensures.spells c.requires.numbered c.requires.known (c.is_alike.ensures c.if-is_alike.true)
