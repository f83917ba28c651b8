use Rattle.std.proofs.Common.{◌≡◌, ◌+◌, ◌*◌, map, take}
use Rattle.serde_json.specs.View.{view, members_view}
use Rattle.tc_model.specs.Tree.{members_of}
use Rattle.tc_model.specs.Json.{data_of, members_data}
use Rattle.tc_value.specs.Meaning.{tree_of, member_of}
use Rattle.tc_model.specs.TreeSize.{tree_size, trees_size, labelled_size}
use Rattle.tc_json.proofs.writing.+write.Given as goal

abbrev pub decreases-value_of : goal.decreases-value_of
decreases-value_of l = 2 * tree_size (tree_of l.doc.now)

abbrev pub decreases-array_of : goal.decreases-array_of
decreases-array_of l = 2 * trees_size l.items.now + 1

abbrev pub decreases-object_of : goal.decreases-object_of
decreases-object_of l = 2 * labelled_size l.members.now + 1

abbrev pub invariant-array_of-loop-doc : goal.invariant-array_of-loop-doc
invariant-array_of-loop-doc l = map view l.values.items ≡ map data_of (map tree_of (take l.doc-index l.docs))

abbrev pub invariant-object_of-loop-member : goal.invariant-object_of-loop-member
invariant-object_of-loop-member l =
    members_view l.values.entries ≡ members_data (members_of (map member_of (take l.member-index l.member-items)))
