use Rattle.std.proofs.Common.{arith, ◌∙◌, ap, take}
use Rattle.tc_bits.specs.Bits.{value}
use Rattle.tc_bits.proofs.Places.{bytes_at_place}
use Rattle.tc_bits.proofs.reading.number_from.Goals as goal

pub returns-then-width-eq8 : goal.returns-then-width-eq8
returns-then-width-eq8 c =
    c.one_byte.ensures ∙ ap (λ bs. value (take 1 bs)) c.split_at.ensures.back
    ∙ bytes_at_place c.args.width 1 c.args.place c.args.bytes.now (omega arith) (λ i. omega (arith, c.type_inv.bytes i)) c.requires.aligned c.requires.room

pub returns-then-width-eq16 : goal.returns-then-width-eq16
returns-then-width-eq16 c =
    c.two_bytes.ensures ∙ ap (λ bs. value (take 2 bs)) c.split_at.ensures.back
    ∙ bytes_at_place c.args.width 2 c.args.place c.args.bytes.now (omega arith) (λ i. omega (arith, c.type_inv.bytes i)) c.requires.aligned c.requires.room

pub returns-then-width-eq32 : goal.returns-then-width-eq32
returns-then-width-eq32 c =
    c.four_bytes.ensures ∙ ap (λ bs. value (take 4 bs)) c.split_at.ensures.back
    ∙ bytes_at_place c.args.width 4 c.args.place c.args.bytes.now (omega arith) (λ i. omega (arith, c.type_inv.bytes i)) c.requires.aligned c.requires.room
