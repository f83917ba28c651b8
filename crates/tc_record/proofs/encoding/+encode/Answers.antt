use Rattle.std.proofs.Common.{rules, arith, ◌∙◌, ◌≤◌, map}
use Rattle.tc_value.specs.Meaning.{tree_of, member_of}
use Rattle.tc_model.specs.TreeSize.{tree_size, trees_size, labelled_size}
use Rattle.tc_value.proofs.Sizes.{item_size, member_size}
use Rattle.tc_record.specs.Written.{written, with_tokens, with_label}
use Rattle.tc_record.proofs.Folds.{fold-item, fold-member}
use Rattle.tc_record.proofs.Writing.{written-append, written-labelled}
use Rattle.tc_record.proofs.encoding.+encode.Goals as goal

pub put_items-put_value-requires : goal.put_items-put_value-requires
put_items-put_value-requires t c =
    let within : tree_size (tree_of c.item-item.result) ≤ trees_size (map tree_of c.args.items.now) = item_size c.args.items.now c.loop-item.item-index c.item-item.result (search rules) (search rules) in
    (omega (arith, c.decreases), tt)

pub put_members-put_value-requires : goal.put_members-put_value-requires
put_members-put_value-requires t c =
    let within : tree_size (tree_of c.member-item.result.value) ≤ labelled_size (map member_of c.args.members.now) = member_size c.args.members.now c.loop-member.member-index c.member-item.result (search rules) (search rules) in
    (omega (arith, c.decreases), tt)

pub put_value-returns-in_ok-put_items-in-Array : goal.put_value-returns-in_ok-put_items-in-Array
put_value-returns-in_ok-put_items-in-Array t c = search (rules, written-append)

pub put_value-returns-in_ok-put_members-in-Object : goal.put_value-returns-in_ok-put_members-in-Object
put_value-returns-in_ok-put_members-in-Object t c = search (rules, written-append)

pub put_items-loop-item-preserved : goal.put_items-loop-item-preserved
put_items-loop-item-preserved t c =
    fold-item with_tokens written-append c.args.items.now c.loop-item.item-index c.item-item.result (written c.loop-item.columns) _ (search rules) (search rules) (search rules) ∙ c.loop-item.invariant

pub put_members-loop-member-preserved : goal.put_members-loop-member-preserved
put_members-loop-member-preserved t c =
    fold-member with_tokens with_label written-append written-labelled c.args.members.now c.loop-member.member-index c.member-item.result (written c.loop-member.columns) _ (search rules) (search rules) (search rules) ∙ c.loop-member.invariant
