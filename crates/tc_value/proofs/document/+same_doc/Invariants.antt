use Rattle.std.proofs.Common.{◌≡◌, ◌↔◌, map, drop}
use Rattle.tc_value.specs.Meaning.{tree_of, member_of}
use Rattle.tc_value.proofs.document.+same_doc.Given as goal

abbrev pub invariant-equality::same_items-loop-place : goal.invariant-equality::same_items-loop-place
invariant-equality::same_items-loop-place l = (map tree_of (drop l.place l.items) ≡ map tree_of (drop l.place l.others)) ↔ (map tree_of l.items ≡ map tree_of l.others)

abbrev pub invariant-equality::same_members-loop-place :
    goal.invariant-equality::same_members-loop-place
invariant-equality::same_members-loop-place l = (map member_of (drop l.place l.members) ≡ map member_of (drop l.place l.others)) ↔ (map member_of l.members ≡ map member_of l.others)
