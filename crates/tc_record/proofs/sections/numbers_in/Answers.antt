use Rattle.std.proofs.Common.{◌≡◌, ◌∙◌, ◌-◌, ◌*◌, true, length, Some, refl, sym, ap}
use Rattle.tc_bits.specs.Bits.{column_size, is_column}
use Rattle.tc_bytes.specs.Codec.{IsBytes}
use Rattle.tc_bytes.specs.Reading.{bytes_at}
use Rattle.tc_record.specs.Record.{spelling_of}
use Rattle.tc_record.proofs.NumberColumns.{numbers_beyond}
use Rattle.tc_record.proofs.Placed.{least_is, column_read, column_wide}
use Rattle.tc_record.proofs.sections.numbers_in.Goals as goal

pub returns-in_err-width-clause-read : goal.returns-in_err-width-clause-read
returns-in_err-width-clause-read c = rw c.from_residual.ensures (sym (numbers_beyond (spelling_of c.args.form) c.args.told c.args.count c.args.bytes.now c.in_err-width.ensures.beyond))

pub returns-then-told-least_width-clause-read : goal.returns-then-told-least_width-clause-read
returns-then-told-least_width-clause-read c =
    let whole = c.args.whole.now in
    let bytes = c.args.bytes.now in
    let w = c.in_ok-width.width in
    let each : IsBytes bytes = λ i. (c.type_inv.bytes i).fits in
    let cut : bytes_at (column_size c.args.count w) bytes ≡ Some (c.in_ok-column.column.now, c.in_ok-column.rest.now) = ap (λ n. bytes_at n bytes) (sym c.size_of_column.ensures) ∙ sym c.slice_at.ensures ∙ rw c.in_ok-column.was refl in
    let is : is_column w c.args.count c.in_ok-column.column.now ≡ true = sym c.of.ensures.judged ∙ rw c.in_ok-_judged.was refl in
    let least = least_is (spelling_of c.args.form) w (8 * (length whole - length bytes)) c.args.count whole _ _ c.add_up-greatest.ensures.most c.least_width.ensures in
    sym (column_wide (spelling_of c.args.form) whole bytes c.in_ok-column.column.now c.in_ok-column.rest.now c.args.told c.args.count w each c.requires.tail c.in_ok-width.ensures.same cut is (λ same. c.if-told-least_width.true (same ∙ sym least)))

pub returns-clause-read : goal.returns-clause-read
returns-clause-read c =
    let whole = c.args.whole.now in
    let bytes = c.args.bytes.now in
    let w = c.in_ok-width.width in
    let each : IsBytes bytes = λ i. (c.type_inv.bytes i).fits in
    let cut : bytes_at (column_size c.args.count w) bytes ≡ Some (c.in_ok-column.column.now, c.in_ok-column.rest.now) = ap (λ n. bytes_at n bytes) (sym c.size_of_column.ensures) ∙ sym c.slice_at.ensures ∙ rw c.in_ok-column.was refl in
    let is : is_column w c.args.count c.in_ok-column.column.now ≡ true = sym c.of.ensures.judged ∙ rw c.in_ok-_judged.was refl in
    let least = least_is (spelling_of c.args.form) w (8 * (length whole - length bytes)) c.args.count whole _ _ c.add_up-greatest.ensures.most c.least_width.ensures in
    sym (column_read (spelling_of c.args.form) whole bytes c.in_ok-column.column.now c.in_ok-column.rest.now c.args.told c.args.count w each c.requires.tail c.in_ok-width.ensures.same cut is (c.if-told-least_width.false ∙ least))
