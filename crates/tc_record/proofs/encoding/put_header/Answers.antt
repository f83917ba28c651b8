use Rattle.std.proofs.Common.{◌∙◌, ap, ◌∷◌, [], ◌++◌}
use Rattle.tc_record.proofs.Encoded.{eight_parts}
use Rattle.tc_record.proofs.encoding.put_header.Goals as goal

pub returns : goal.returns
returns c =
    let text_width = c.in_ok-push-2.ensures.items ∙ ap (λ w. c.put_u32-4.new.out.items ++ w ∷ []) (c.bytes.ensures ∙ c.width_of_column.ensures) in
    let name_width = c.in_ok-push-3.ensures.items ∙ ap (λ w. c.put_u32-5.new.out.items ++ w ∷ []) (c.bytes-2.ensures ∙ c.width_of_column-2.ensures) in
    eight_parts _ _ _ _ _ _ _ _ _ _ _ _ _ _ _ _ _ c.in_ok-put_u32.ensures c.in_ok-push.ensures.items c.in_ok-put_u32-2.ensures c.in_ok-put_u32-3.ensures c.in_ok-put_u32-4.ensures text_width c.in_ok-put_u32-5.ensures name_width
