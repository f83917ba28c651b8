use Rattle.std.proofs.Common.{◌∙◌, ap}
use Rattle.tc_bits.specs.Bits.{bits_at}
use Rattle.tc_bits.proofs.Places.{bits_from}
use Rattle.tc_bits.proofs.reading.number_at.Goals as goal

pub returns : goal.returns
returns c =
    c.number_after.ensures
    ∙ ap (bits_at c.args.width _) c.split_at.ensures.back
    ∙ bits_from c.args.width c.args.place c.args.bytes.now c.requires.room
