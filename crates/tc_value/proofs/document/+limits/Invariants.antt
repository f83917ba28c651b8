use Rattle.std.proofs.Common.{◌↔◌, ◌≤◌, map, drop}
use Rattle.tc_model.specs.Tree.{items_depth, members_depth, items_of, members_of}
use Rattle.tc_model.specs.Document.{AreItemsOf, AreMembersOf, IsScalar}
use Rattle.tc_value.specs.Meaning.{tree_of, member_of}
use Rattle.tc_value.proofs.document.+limits.Given as goal

abbrev pub invariant-depths::items_nest_within-loop-item :
    goal.invariant-depths::items_nest_within-loop-item
invariant-depths::items_nest_within-loop-item l = record {
  within : (items_depth (items_of (map tree_of (drop l.item-index l.items))) ≤ l.limit) ↔ (items_depth (items_of (map tree_of l.items)) ≤ l.limit);
  lawful : AreItemsOf IsScalar (items_of (map tree_of (drop l.item-index l.items))) → AreItemsOf IsScalar (items_of (map tree_of l.items));
}

abbrev pub invariant-depths::members_nest_within-loop-member :
    goal.invariant-depths::members_nest_within-loop-member
invariant-depths::members_nest_within-loop-member l = record {
  within : (members_depth (members_of (map member_of (drop l.member-index l.members))) ≤ l.limit) ↔ (members_depth (members_of (map member_of l.members)) ≤ l.limit);
  lawful : AreMembersOf IsScalar (members_of (map member_of (drop l.member-index l.members))) → AreMembersOf IsScalar (members_of (map member_of l.members));
}
