use Rattle.std.proofs.Common.{◌≡◌, ◌+◌, ◌*◌, map, drop}
use Rattle.tc_model.specs.Tree.{items_of, members_of}
use Rattle.tc_record.specs.Preorder.{items_preorder, members_preorder}
use Rattle.tc_value.specs.Meaning.{tree_of, member_of}
use Rattle.tc_model.specs.TreeSize.{tree_size, trees_size, labelled_size}
use Rattle.tc_record.specs.Written.{written, with_tokens}
use Rattle.tc_record.proofs.encoding.+encode.Given as goal

abbrev pub decreases-put_value : goal.decreases-put_value
decreases-put_value l = 2 * tree_size (tree_of l.doc.now)

abbrev pub decreases-put_items : goal.decreases-put_items
decreases-put_items l = 2 * trees_size (map tree_of l.items.now) + 1

abbrev pub decreases-put_members : goal.decreases-put_members
decreases-put_members l = 2 * labelled_size (map member_of l.members.now) + 1

abbrev pub invariant-put_items-loop-item : goal.invariant-put_items-loop-item
invariant-put_items-loop-item l =
    with_tokens (written l.columns) (items_preorder (items_of (map tree_of (drop l.item-index l.items)))) ≡ with_tokens (written l.fn.columns) (items_preorder (items_of (map tree_of l.items)))

abbrev pub invariant-put_members-loop-member : goal.invariant-put_members-loop-member
invariant-put_members-loop-member l =
    with_tokens (written l.columns) (members_preorder (members_of (map member_of (drop l.member-index l.members)))) ≡ with_tokens (written l.fn.columns) (members_preorder (members_of (map member_of l.members)))
