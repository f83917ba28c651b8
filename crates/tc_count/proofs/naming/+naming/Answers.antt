use Rattle.std.proofs.Common.{◌+◌, ◌++◌, map, drop, sym, ap, ◌∙◌, append_assoc, arith}
use Rattle.tc_model.specs.Tree.{items_of}
use Rattle.tc_model.specs.ShapeNames.{names_within, names_of_items}
use Rattle.tc_value.specs.ShapeMeaning.{shape_tree}
use Rattle.tc_value.proofs.ShapeWalks.{items_from, item_size, member_size}
use Rattle.tc_count.proofs.naming.+naming.Goals as goal

pub push_names_of_items-push_names-requires : goal.push_names_of_items-push_names-requires
push_names_of_items-push_names-requires t c =
    omega (arith, c.decreases, item_size c.args.items.now c.loop-item.item-index c.item-item.result c.loop-item-test.true c.item-item.is)

pub push_names_of_items-loop-item-preserved : goal.push_names_of_items-loop-item-preserved
push_names_of_items-loop-item-preserved t c =
    let l = c.loop-item in
    let x = c.item-item.result in
    let rest = names_of_items (items_of (map shape_tree (drop (l.item-index + 1) c.args.items.now))) in
    let here = items_from c.args.items.now l.item-index x c.loop-item-test.true c.item-item.is in
    ap (λ names. names ++ rest) c.in_ok-push_names.ensures ∙ append_assoc l.names.items (names_within (shape_tree x)) rest ∙ ap (λ xs. l.names.items ++ names_of_items xs) (sym here) ∙ l.invariant

pub push_names_of_members-push_names-requires : goal.push_names_of_members-push_names-requires
push_names_of_members-push_names-requires t c =
    omega (arith, c.decreases, member_size c.args.members.now c.loop-member.member-index c.member-item.result c.loop-member-test.true c.member-item.is)
