use Rattle.std.proofs.Common.{◌≡◌, List, length, map}
use Rattle.std.specs.Arc.{arc_value}
use Rattle.std.specs.Vec.Iter.{into_iter_items, into_iter_len}
use Rattle.tc_store.specs.Disk.{Disk}
use Rattle.tc_store.specs.StoreCalls.{RemovesSome}
use Rattle.tc_component.specs.Loading.{ComponentState}
use Rattle.tc_merge.specs.Faults.{IsWatched}
use Rattle.tc_recover.specs.Removing.{removes_all}
use Rattle.tc_open.proofs.merging.remove_replaced.Given as goal

abbrev pub invariant-loop-component : goal.invariant-loop-component
invariant-loop-component g l = record {
  exact : removes_all (map (λ (m : ComponentState g.row.S-Frozen.Denot). g.S.Frozen.Frozen.name m.file) (map arc_value (into_iter_items l.component-iterator))) (g.S.Store.history l.kit.store)
      ≡ removes_all (map (λ (m : ComponentState g.row.S-Frozen.Denot). g.S.Frozen.Frozen.name m.file) (map arc_value l.fn.components.items)) (g.S.Store.history l.fn.kit.store);
  some : (new : List Disk) → RemovesSome (map (λ (m : ComponentState g.row.S-Frozen.Denot). g.S.Frozen.Frozen.name m.file) (map arc_value (into_iter_items l.component-iterator))) (g.S.Store.history l.kit.store) new
      → RemovesSome (map (λ (m : ComponentState g.row.S-Frozen.Denot). g.S.Frozen.Frozen.name m.file) (map arc_value l.fn.components.items)) (g.S.Store.history l.fn.kit.store) new;
  left : into_iter_len l.component-iterator ≡ length (into_iter_items l.component-iterator);
  same : l.kit ≡ record l.fn.kit { store = l.kit.store; main = l.kit.main };
  watched : IsWatched ⊥ (g.S.Watch.Watch.counts l.fn.kit.main) (g.S.Watch.Watch.counts l.kit.main);
}
