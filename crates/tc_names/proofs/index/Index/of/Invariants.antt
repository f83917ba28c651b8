use Rattle.std.proofs.Common.{◌≡◌, ◌≤◌, ◌<◌, length, take, vec_len, vec_capacity}
use Rattle.tc_names.specs.Linking.{IsIndex}
use Rattle.tc_names.proofs.index.Index.of.Given as goal

abbrev pub invariant-loop-id : goal.invariant-loop-id
invariant-loop-id l = record {
  index : IsIndex l.index.heads.items l.index.links.items (take l.id l.texts);
  places : 0 < length l.index.heads.items;
  many : length l.index.links.items ≡ l.id;
  len : vec_len l.index.links ≡ l.id;
  room : l.count ≤ vec_capacity l.index.links;
}
