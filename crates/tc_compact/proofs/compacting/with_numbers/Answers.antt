use Rattle.std.proofs.Common.{◌∙◌, ◌++◌, [], sym, ap, arith, append-nil}
use Rattle.tc_record.specs.Record.{spelling_of, column_in}
use Rattle.tc_record.proofs.NumberColumns.{width_told}
use Rattle.tc_compact.specs.Layout.{parts_of}
use Rattle.tc_compact.proofs.Laid.{whole_sum, written_whole}
use Rattle.tc_compact.proofs.compacting.with_numbers.Goals as goal

pub overflow_cast-len : goal.overflow_cast-len
overflow_cast-len c =
    let form = c.args.form in
    let ns = c.args.numbers.now in
    let slots = c.column_bytes-slots.ensures.len ns (c.requires.members ∙ sym c.member_count-members.ensures) c.requires.greatest in
    omega (arith, c.requires.short, slots, c.values_len.ensures.len, whole_sum (spelling_of form) form (parts_of c.args.from.now.tokens) ns [])

pub returns : goal.returns
returns c =
    let form = c.args.form in
    let s = spelling_of form in
    let ns = c.args.numbers.now in
    let p = parts_of c.args.from.now.tokens in
    let many = c.requires.members ∙ sym c.member_count-members.ensures in
    let slots = c.column_bytes-slots.ensures.len ns many c.requires.greatest in
    let least = width_told s ns c.member_count-members.result c.args.greatest _ many c.requires.greatest c.least_width-width.ensures in
    c.of.ensures.same
    ∙ written_whole s form p ns [] c.in_ok-out.out.items _ _ _ _ (omega (arith, slots, c.values_len.ensures.len, whole_sum s form p ns [])) (sym c.requires.members) least c.in_ok-out.ensures
    (c.in_ok-put_slots.ensures ∙ ap (λ bs. c.in_ok-out.out.items ++ bs) (sym (append-nil (column_in s ns))))
