use Rattle.std.proofs.Common.{◌≡◌, max, map, drop}
use Rattle.tc_model.specs.Tree.{items_depth, members_depth, items_of, members_of}
use Rattle.tc_model.specs.Document.{AreItemsOf, AreMembersOf, IsScalar}
use Rattle.tc_value.specs.Meaning.{tree_of, member_of}
use Rattle.tc_value.proofs.document.+depths.Given as goal

abbrev pub invariant-depths::depth_of_items-loop-item :
    goal.invariant-depths::depth_of_items-loop-item
invariant-depths::depth_of_items-loop-item l = record {
  depth : max l.greatest (items_depth (items_of (map tree_of (drop l.item-index l.items)))) ≡ items_depth (items_of (map tree_of l.items));
  lawful : AreItemsOf IsScalar (items_of (map tree_of (drop l.item-index l.items))) → AreItemsOf IsScalar (items_of (map tree_of l.items));
}

abbrev pub invariant-depths::depth_of_members-loop-member :
    goal.invariant-depths::depth_of_members-loop-member
invariant-depths::depth_of_members-loop-member l = record {
  depth : max l.greatest (members_depth (members_of (map member_of (drop l.member-index l.members)))) ≡ members_depth (members_of (map member_of l.members));
  lawful : AreMembersOf IsScalar (members_of (map member_of (drop l.member-index l.members))) → AreMembersOf IsScalar (members_of (map member_of l.members));
}
