use Rattle.std.proofs.Common.{◌≡◌, is_some, drop}
use Rattle.serde_json.specs.View.{items_view, members_view}
use Rattle.tc_model.specs.Json.{items_meant, members_meant}
use Rattle.tc_json.proofs.wholeness.+whole.Given as goal

abbrev pub invariant-are_items_whole-loop-item : goal.invariant-are_items_whole-loop-item
invariant-are_items_whole-loop-item l =
    is_some (items_meant (items_view l.item-items)) ≡ is_some (items_meant (items_view (drop l.item-index l.item-items)))

abbrev pub invariant-are_members_whole-loop-name : goal.invariant-are_members_whole-loop-name
invariant-are_members_whole-loop-name l =
    is_some (members_meant (members_view l.members.entries)) ≡ is_some (members_meant (members_view l._name-iterator))
