use Rattle.std.proofs.Common.{◌≡◌, ◌↔◌, map, drop}
use Rattle.std.specs.Arc.{arc_value}
use Rattle.std.specs.List.{AllByRecursion}
use Rattle.tc_merge.proofs.mergeable.are_of.Given as goal

abbrev pub invariant-loop-component : goal.invariant-loop-component
invariant-loop-component g l =
    AllByRecursion (λ c. (c.index.head.number ≡ l.head.number) × (c.index.head.count ≡ l.head.count)) (map arc_value (drop l.component-index l.run))
    ↔ AllByRecursion (λ c. (c.index.head.number ≡ l.head.number) × (c.index.head.count ≡ l.head.count)) (map arc_value l.run)
