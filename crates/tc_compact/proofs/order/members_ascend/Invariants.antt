use Rattle.std.proofs.Common.{◌≡◌, None, map, drop, option_map}
use Rattle.tc_compact.specs.Meant.{ascend_behind}
use Rattle.tc_compact.proofs.order.members_ascend.Given as goal

abbrev pub invariant-loop-member : goal.invariant-loop-member
invariant-loop-member l = ascend_behind (option_map (λ n. n.now) l.last) (map (λ m. m.name) (drop l.member-index l.members)) ≡ ascend_behind None (map (λ m. m.name) l.members)
