use Rattle.std.proofs.Common.{◌∙◌, ◌≤◌, ◌*◌, sym, ap, length, arith}
use Rattle.std.proofs.lemmas.Nat.{mul-le}
use Rattle.tc_bits.specs.Bits.{column_size}
use Rattle.tc_bits.proofs.Codec.{length-column}
use Rattle.tc_record.proofs.column_sizes.column_bytes.Goals as goal

pub returns-clause-len : goal.returns-clause-len
returns-clause-len c = λ ns many most.
    c.size_of_column.ensures
    ∙ ap (λ k. column_size k c.column_bits.result) (sym many)
    ∙ sym (length-column c.column_bits.result ns)
    ∙ ap length (c.column_bits.ensures.spells ns most)

pub returns-clause-most : goal.returns-clause-most
returns-clause-most c =
    let more : c.args.count * c.column_bits.result ≤ c.args.count * 32 = mul-le c.args.count c.column_bits.result c.args.count 32 (omega arith) c.column_bits.ensures.most in
    omega (arith, more, c.size_of_column.ensures)
