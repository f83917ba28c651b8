use Rattle.std.proofs.Common.{◌≡◌, ◌≤◌, ◌↔◌, ◌++◌, map, drop, option_map, string_bytes}
use Rattle.std.specs.Map.{keys_of}
use Rattle.serde_json.specs.Data as json
use Rattle.serde_json.specs.View.{items_view, members_view}
use Rattle.tc_model.specs.Tree.{item}
use Rattle.tc_model.specs.Json.{items_meant, members_meant}
use Rattle.tc_value.specs.Meaning.{tree_of, member_of}
use Rattle.tc_json.proofs.Before.{before, with_member}
use Rattle.tc_json.proofs.reading.+convert.Given as goal

abbrev pub invariant-convert_items-loop-item : goal.invariant-convert_items-loop-item
invariant-convert_items-loop-item l = record {
  meant : items_meant (items_view l.item-items) ≡ option_map (before item (map tree_of l.docs.items)) (items_meant (items_view (drop l.item-index l.item-items)));
  deep : (json.items_depth (items_view l.item-items) ≤ l.room) ↔ (json.items_depth (items_view (drop l.item-index l.item-items)) ≤ l.room);
}

abbrev pub invariant-convert_members-loop-name : goal.invariant-convert_members-loop-name
invariant-convert_members-loop-name l = record {
  meant : members_meant (members_view l.members.entries) ≡ option_map (before with_member (map member_of l.listed.items)) (members_meant (members_view l.name-iterator));
  named : map (λ m. m.0) (map member_of l.listed.items) ++ map string_bytes (keys_of l.name-iterator) ≡ map string_bytes (keys_of l.members.entries);
  deep : (json.members_depth (members_view l.members.entries) ≤ l.room) ↔ (json.members_depth (members_view l.name-iterator) ≤ l.room);
}
