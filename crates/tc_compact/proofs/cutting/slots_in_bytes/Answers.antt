use Rattle.std.proofs.Common.{◌≡◌, ◌∙◌, ◌<◌, ◌-◌, length, drop, ap, arith, length-append}
use Rattle.std.proofs.lemmas.List.{drop_at}
use Rattle.tc_record.specs.Record.{greatest}
use Rattle.tc_compact.specs.Slots.{numbers_in}
use Rattle.tc_compact.proofs.Cut.{ends_in_numbers}
use Rattle.tc_compact.proofs.Repacks.{form1_tree}
use Rattle.tc_compact.proofs.cutting.slots_in_bytes.Goals as goal

pub overflow_sub-bytes : goal.overflow_sub-bytes
overflow_sub-bytes c =
    let r = c.args.of.now in
    let tree = form1_tree r c.bytes-bytes.ensures.spells c.requires in
    let small : greatest (numbers_in r.tokens) < 256 = omega (arith, ap greatest tree.numbers, c.greatest_slot.ensures tree.tree tree.tokens, c.if-greatest_slot-gt255.false) in
    let ends = ends_in_numbers r c.bytes-bytes.ensures.spells c.requires small in
    omega (arith, ap length c.bytes-bytes.ensures.same, ap length ends.1, length-append ends.0 (numbers_in r.tokens), tree.members, c.member_count.ensures)

pub returns : goal.returns
returns c =
    let r = c.args.of.now in
    let tree = form1_tree r c.bytes-bytes.ensures.spells c.requires in
    let small : greatest (numbers_in r.tokens) < 256 = omega (arith, ap greatest tree.numbers, c.greatest_slot.ensures tree.tree tree.tokens, c.if-greatest_slot-gt255.false) in
    let ends = ends_in_numbers r c.bytes-bytes.ensures.spells c.requires small in
    let n = length c.bytes-bytes.result.now - c.member_count.result in
    let long : length ends.0 ≡ n = omega (arith, ap length c.bytes-bytes.ensures.same, ap length ends.1, length-append ends.0 (numbers_in r.tokens), tree.members, c.member_count.ensures) in
    c.split_at.ensures.back ∙ ap (drop n) (c.bytes-bytes.ensures.same ∙ ends.1) ∙ drop_at ends.0 (numbers_in r.tokens) n long
