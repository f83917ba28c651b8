use Rattle.std.proofs.Common.{◌≡◌, ◌+◌, ◌*◌, map, drop}
use Rattle.tc_model.specs.Tree.{items_of, members_of}
use Rattle.tc_model.specs.Document.{AreItemsOf, AreMembersOf, IsScalar}
use Rattle.tc_record.specs.Preorder.{items_preorder, members_preorder}
use Rattle.tc_value.specs.Meaning.{tree_of, member_of}
use Rattle.tc_model.specs.TreeSize.{tree_size, trees_size, labelled_size}
use Rattle.tc_record.specs.Measured.{measured}
use Rattle.tc_record.proofs.measure.+measure.Given as goal

abbrev pub invariant-with_items-loop-item : goal.invariant-with_items-loop-item
invariant-with_items-loop-item l = record {
  measured : measured l.measure (items_preorder (items_of (map tree_of (drop l.item-index l.items)))) ≡ measured l.fn.so_far (items_preorder (items_of (map tree_of l.items)));
  lawful : AreItemsOf IsScalar (items_of (map tree_of (drop l.item-index l.items))) → AreItemsOf IsScalar (items_of (map tree_of l.items));
}

abbrev pub invariant-with_members-loop-member : goal.invariant-with_members-loop-member
invariant-with_members-loop-member l = record {
  measured : measured l.measure (members_preorder (members_of (map member_of (drop l.member-index l.members)))) ≡ measured l.fn.so_far (members_preorder (members_of (map member_of l.members)));
  lawful : AreMembersOf IsScalar (members_of (map member_of (drop l.member-index l.members))) → AreMembersOf IsScalar (members_of (map member_of l.members));
}

abbrev pub decreases-with_value : goal.decreases-with_value
decreases-with_value l = 2 * tree_size (tree_of l.doc.now)

abbrev pub decreases-with_items : goal.decreases-with_items
decreases-with_items l = 2 * trees_size (map tree_of l.items.now) + 1

abbrev pub decreases-with_members : goal.decreases-with_members
decreases-with_members l = 2 * labelled_size (map member_of l.members.now) + 1
