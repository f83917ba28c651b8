use Rattle.std.proofs.Common.{arith, ◌∙◌, ap}
use Rattle.tc_bits.specs.Bits.{field_of}
use Rattle.tc_bits.proofs.Places.{bits_in_window}
use Rattle.tc_bits.proofs.reading.number_after.Goals as goal

pub returns-then-bytes-ge8 : goal.returns-then-bytes-ge8
returns-then-bytes-ge8 c =
    c.field_of.ensures
    ∙ ap (field_of _ c.args.width) c.window_of.ensures
    ∙ bits_in_window c.args.width c.args.shift c.args.bytes.now (λ i. omega (arith, c.type_inv.bytes i)) c.if-bytes-ge8.true (omega arith)
