use Rattle.std.proofs.Common.{◌∙◌, ◌-◌, ◌++◌, ap, drop}
use Rattle.tc_bits.proofs.Values.{low_bytes}
use Rattle.tc_bits.proofs.writer.put_low.Goals as goal

pub returns : goal.returns
returns c =
    c.in_ok-extend_from_slice.ensures.items
    ∙ ap (λ bs. c.args.out.now.items ++ bs) (c.split_at.ensures.back ∙ ap (λ k. drop (8 - k) c.to_be_bytes-bytes.result) c.from.ensures ∙ ap (drop (8 - c.args.count)) c.to_be_bytes-bytes.ensures ∙ low_bytes c.args.count c.args.number c.requires)
