use Rattle.std.proofs.Common.{◌≡◌, ◌∙◌, ℕ, List, ◌++◌, [], length, sym, ap, arith, append-nil}
use Rattle.tc_record.specs.Record.{greatest, in_bits, column_in}
use Rattle.tc_record.proofs.NumberColumns.{width_told}
use Rattle.tc_compact.specs.Slots.{numbers_in}
use Rattle.tc_compact.specs.Layout.{parts_of, whole}
use Rattle.tc_compact.proofs.Laid.{whole_sum, written_whole}
use Rattle.tc_compact.proofs.Repacks.{form1_tree, is_repacked, repacked_short}
use Rattle.tc_compact.proofs.repacking.repack.Goals as goal

pub overflow_cast-len : goal.overflow_cast-len
overflow_cast-len c =
    let r = c.args.of in
    let tree = form1_tree r c.bytes-bytes.ensures.spells c.requires in
    let ns = numbers_in r.tokens in
    let most : greatest ns ≡ c.greatest_slot-greatest.result = ap greatest tree.numbers ∙ sym (c.greatest_slot-greatest.ensures tree.tree tree.tokens) in
    let slots = c.column_bytes-slots.ensures.len ns (sym tree.members ∙ sym c.member_count-members.ensures) most in
    omega (arith, repacked_short r c.bytes-bytes.ensures.spells c.requires, slots, c.values_len.ensures.len, whole_sum in_bits 2 (parts_of r.tokens) ns [])

pub returns : goal.returns
returns c =
    let r = c.args.of in
    let p = parts_of r.tokens in
    let spells = c.bytes-bytes.ensures.spells in
    let tree = form1_tree r spells c.requires in
    let ns = numbers_in r.tokens in
    let begun = c.put_front.new.out.items in
    let many : length ns ≡ c.member_count-members.result = sym tree.members ∙ sym c.member_count-members.ensures in
    let most : greatest ns ≡ c.greatest_slot-greatest.result = ap greatest tree.numbers ∙ sym (c.greatest_slot-greatest.ensures tree.tree tree.tokens) in
    let slots = c.column_bytes-slots.ensures.len ns many most in
    let least = width_told in_bits ns c.member_count-members.result c.greatest_slot-greatest.result _ many most c.least_width-width.ensures in
    let written : c.put_packed_slots.new.out.items ≡ whole in_bits 2 p ns [] =
    written_whole in_bits 2 p ns [] begun _ _ _ _ (omega (arith, slots, c.values_len.ensures.len, whole_sum in_bits 2 p ns [])) tree.members least (alone c.in_ok-put_front.ensures c.clear.ensures.items)
    (c.in_ok-put_packed_slots.ensures ∙ ap (λ bs. begun ++ bs) (sym (append-nil (column_in in_bits ns)))) in
    is_repacked r _ spells c.requires written
  where
    alone : {before front out : List ℕ} → out ≡ before ++ front → before ≡ [] → out ≡ front
    alone {before} {front} {out} all none = all ∙ ap (λ bs. bs ++ front) none
