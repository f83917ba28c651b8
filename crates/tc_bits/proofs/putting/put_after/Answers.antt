use Rattle.std.proofs.Common.{rules, arith, ◌∙◌, ap, ◌++◌}
use Rattle.tc_bits.specs.Bits.{value, with_bits}
use Rattle.tc_bits.proofs.Places.{put_in_window}
use Rattle.tc_bits.proofs.putting.put_after.Goals as goal

pub returns-clause-put : goal.returns-clause-put
returns-clause-put c =
    ap (λ r. value (c.put_in_front.new.into ++ r)) c.split_at_mut-front.ensures.back
    ∙ put_in_window c.args.width c.args.shift c.args.value c.min.result c.args.into.now c.put_in_front.new.into (λ i. search (rules, c.type_inv.into i))
    (omega arith) (c.put_in_front.ensures.len ∙ c.split_at_mut-front.ensures.front_len) (omega arith)
    (c.put_in_front.ensures.put ∙ ap (with_bits c.args.width c.args.shift c.args.value) c.split_at_mut-front.ensures.front)
