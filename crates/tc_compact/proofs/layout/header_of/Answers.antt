use Rattle.std.proofs.Common.{◌∷◌, [], ◌++◌, ap}
use Rattle.std.specs.Int.{w32, to_be_bytes}
use Rattle.tc_record.specs.Record.{spelling_of}
use Rattle.tc_compact.proofs.Laid.{counts_told}
use Rattle.tc_compact.proofs.layout.header_of.Goals as goal

pub returns : goal.returns
returns c =
    let told = counts_told (spelling_of c.args.form) c.args.from.now.tokens _ _ _ _ _ _ c.token_count.ensures c.fixed_size.ensures c.text_count-text_count.ensures c.longest_text.ensures c.least_width-width.ensures c.member_count.ensures in
    rw (c.to_be_bytes-total.ensures, c.to_be_bytes-tags.ensures, c.to_be_bytes-fixed.ensures, c.to_be_bytes-texts.ensures, c.to_be_bytes-members.ensures)
    (ap (λ bs. to_be_bytes w32 c.args.len ++ (c.args.form ∷ (bs ++ c.args.slot_width ∷ []))) told)
