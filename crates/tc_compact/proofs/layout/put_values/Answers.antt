use Rattle.std.proofs.Common.{◌∙◌, ◌++◌, length, map, ap, append_assoc}
use Rattle.tc_record.specs.Record.{tags, fixed, texts, joined, spelling_of, column_in}
use Rattle.tc_compact.proofs.layout.put_values.Goals as goal

pub returns : goal.returns
returns c =
    let out = c.args.out.now.items in
    let ts = c.args.from.now.tokens in
    let first = tags ts ++ fixed ts in
    let lengths = column_in (spelling_of c.args.form) (map length (texts ts)) in
    let all = joined (texts ts) in
    let put = c.in_ok-extend_from_slice.ensures.items ∙ ap (λ bs. out ++ bs) c.tags_and_fixed.ensures in
    c.in_ok-extend_from_slice-2.ensures.items ∙ ap (λ bs. c.put_lengths.new.out.items ++ bs) c.texts.ensures
    ∙ ap (λ bs. bs ++ all) (c.in_ok-put_lengths.ensures ∙ ap (λ bs. bs ++ lengths) put)
    ∙ append_assoc (out ++ first) lengths all ∙ append_assoc out first (lengths ++ all) ∙ ap (λ bs. out ++ bs) (append_assoc (tags ts) (fixed ts) (lengths ++ all))
