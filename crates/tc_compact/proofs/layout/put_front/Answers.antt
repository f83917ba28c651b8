use Rattle.std.proofs.Common.{◌∙◌, ◌++◌, ap, append_assoc}
use Rattle.tc_record.specs.Record.{spelling_of}
use Rattle.tc_compact.specs.Layout.{parts_of, values}
use Rattle.tc_compact.proofs.layout.put_front.Goals as goal

pub returns : goal.returns
returns c =
    let out = c.args.out.now.items in
    let behind = values (spelling_of c.args.form) (parts_of c.args.from.now.tokens) in
    c.in_ok-put_values.ensures ∙ ap (λ bs. bs ++ behind) (c.in_ok-extend_from_slice.ensures.items ∙ ap (λ bs. out ++ bs) c.header_of.ensures) ∙ append_assoc out _ behind
