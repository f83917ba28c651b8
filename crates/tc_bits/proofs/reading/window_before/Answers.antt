use Rattle.std.proofs.Common.{◌≡◌, ◌∙◌, ◌-◌, arith, ap, subst, sym, take, drop}
use Rattle.tc_bits.specs.Bits.{value, IsWindow}
use Rattle.tc_bits.proofs.Places.{bits_in_look}
use Rattle.tc_bits.proofs.reading.window_before.Goals as goal

pub returns : goal.returns
returns c =
    let bytes = c.args.bytes.now in
    let is : c.window_of.result ≡ value (take 8 (drop (c.args.end - 8) bytes)) = c.window_of.ensures ∙ ap (λ bs. value (take 8 bs)) c.split_at.ensures.back in
    subst (λ n. IsWindow c.args.end n bytes) (sym is) (bits_in_look c.args.end bytes (λ i. omega (arith, c.type_inv.bytes i)) c.requires.long c.requires.room)
