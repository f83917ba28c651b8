use Rattle.std.proofs.Common.{◌≡◌, map, take}
use Rattle.tc_value.specs.Meaning.{tree_of, member_of}
use Rattle.tc_value.proofs.document.+copy_doc.Given as goal

abbrev pub invariant-copying::copy_items-loop-item : goal.invariant-copying::copy_items-loop-item
invariant-copying::copy_items-loop-item l = map tree_of l.copied.items ≡ map tree_of (take l.item-index l.items)

abbrev pub invariant-copying::copy_members-loop-member :
    goal.invariant-copying::copy_members-loop-member
invariant-copying::copy_members-loop-member l = map member_of l.copied.items ≡ map member_of (take l.member-index l.members)
