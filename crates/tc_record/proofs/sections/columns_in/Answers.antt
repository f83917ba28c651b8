use Rattle.std.proofs.Common.{◌≡◌, ◌∙◌, Some, refl, sym}
use Rattle.tc_bytes.specs.Codec.{IsBytes}
use Rattle.tc_bytes.specs.Reading.{bytes_at}
use Rattle.tc_record.specs.Record.{spelling_of}
use Rattle.tc_record.specs.Sections.{IsTail, numbers_at}
use Rattle.tc_record.specs.WalkView.{numbers_of}
use Rattle.tc_record.proofs.Tails.{tail_behind, tail_behind_numbers, texts_add_up}
use Rattle.tc_record.proofs.sections.columns_in.Goals as goal

pub numbers_in-requires-clause-tail : goal.numbers_in-requires-clause-tail
numbers_in-requires-clause-tail c =
    let whole = c.args.whole.now in
    let h = c.args.header in
    let each : IsBytes whole = λ i. (c.type_inv.whole i).fits in
    let tags : bytes_at h.tags c.args.bytes.now ≡ Some (c.in_ok-tags.tags.now, c.in_ok-tags.bytes.now) = sym c.slice_at.ensures ∙ rw c.in_ok-tags.was refl in
    let fixed : bytes_at h.fixed c.in_ok-tags.bytes.now ≡ Some (c.in_ok-fixed.fixed.now, c.in_ok-fixed.bytes.now) = sym c.slice_at-2.ensures ∙ rw c.in_ok-fixed.was refl in
    tail_behind h.fixed whole _ _ _ each (tail_behind h.tags whole _ _ _ each c.requires.tail tags) fixed

pub numbers_in-requires-2-clause-tail : goal.numbers_in-requires-2-clause-tail
numbers_in-requires-2-clause-tail c =
    let whole = c.args.whole.now in
    let h = c.args.header in
    let each : IsBytes whole = λ i. (c.type_inv.whole i).fits in
    let tags : bytes_at h.tags c.args.bytes.now ≡ Some (c.in_ok-tags.tags.now, c.in_ok-tags.bytes.now) = sym c.slice_at.ensures ∙ rw c.in_ok-tags.was refl in
    let fixed : bytes_at h.fixed c.in_ok-tags.bytes.now ≡ Some (c.in_ok-fixed.fixed.now, c.in_ok-fixed.bytes.now) = sym c.slice_at-2.ensures ∙ rw c.in_ok-fixed.was refl in
    let lengths : numbers_at (spelling_of h.form) h.text_width h.texts c.in_ok-fixed.bytes.now ≡ Some (numbers_of c.in_ok-lengths.lengths.numbers, c.in_ok-lengths.lengths.rest.now) = sym c.numbers_in.ensures.read ∙ rw c.in_ok-lengths.was refl in
    let texts : bytes_at c.in_ok-lengths.lengths.total c.in_ok-lengths.lengths.rest.now ≡ Some (c.in_ok-texts.texts.now, c.in_ok-texts.bytes.now) = sym c.slice_at-3.ensures ∙ rw c.in_ok-texts.was refl in
    let at_lengths : IsTail whole c.in_ok-fixed.bytes.now = tail_behind h.fixed whole _ _ _ each (tail_behind h.tags whole _ _ _ each c.requires.tail tags) fixed in
    tail_behind c.in_ok-lengths.lengths.total whole _ _ _ each (tail_behind_numbers (spelling_of h.form) h.text_width h.texts whole _ _ _ each at_lengths lengths) texts

pub returns-clause-summed : goal.returns-clause-summed
returns-clause-summed c =
    let whole = c.args.whole.now in
    let h = c.args.header in
    let each : IsBytes whole = λ i. (c.type_inv.whole i).fits in
    let tags : bytes_at h.tags c.args.bytes.now ≡ Some (c.in_ok-tags.tags.now, c.in_ok-tags.bytes.now) = sym c.slice_at.ensures ∙ rw c.in_ok-tags.was refl in
    let fixed : bytes_at h.fixed c.in_ok-tags.bytes.now ≡ Some (c.in_ok-fixed.fixed.now, c.in_ok-fixed.bytes.now) = sym c.slice_at-2.ensures ∙ rw c.in_ok-fixed.was refl in
    let lengths : numbers_at (spelling_of h.form) h.text_width h.texts c.in_ok-fixed.bytes.now ≡ Some (numbers_of c.in_ok-lengths.lengths.numbers, c.in_ok-lengths.lengths.rest.now) = sym c.numbers_in.ensures.read ∙ rw c.in_ok-lengths.was refl in
    let texts : bytes_at c.in_ok-lengths.lengths.total c.in_ok-lengths.lengths.rest.now ≡ Some (c.in_ok-texts.texts.now, c.in_ok-texts.bytes.now) = sym c.slice_at-3.ensures ∙ rw c.in_ok-texts.was refl in
    let at_lengths : IsTail whole c.in_ok-fixed.bytes.now = tail_behind h.fixed whole _ _ _ each (tail_behind h.tags whole _ _ _ each c.requires.tail tags) fixed in
    let behind_lengths : IsTail whole c.in_ok-lengths.lengths.rest.now = tail_behind_numbers (spelling_of h.form) h.text_width h.texts whole _ _ _ each at_lengths lengths in
    texts_add_up whole c.in_ok-lengths.lengths.rest.now _ _ (numbers_of c.in_ok-lengths.lengths.numbers) c.in_ok-lengths.lengths.total c.requires.few behind_lengths texts c.in_ok-lengths.ensures.all
