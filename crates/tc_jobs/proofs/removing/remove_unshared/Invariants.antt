use Rattle.std.proofs.Common.{◌≡◌, ◌≤◌, List, length}
use Rattle.std.specs.Arc.{arc_value}
use Rattle.std.specs.List.{Contains}
use Rattle.std.specs.Prelude.{All, map}
use Rattle.std.specs.Vec.Iter.{into_iter_items, into_iter_len}
use Rattle.tc_store.specs.Disk.{Disk}
use Rattle.tc_store.specs.StoreCalls.{RemovesSome}
use Rattle.tc_jobs.proofs.Removals.{names_of}
use Rattle.tc_jobs.proofs.removing.remove_unshared.Given as goal

abbrev pub invariant-loop-component : goal.invariant-loop-component
invariant-loop-component g l = record {
  removed : (new : List Disk) → RemovesSome (names_of arc_value g.S.Frozen.Frozen.name (into_iter_items l.component-iterator)) (g.S.Store.history l.store) new
      → RemovesSome (names_of arc_value g.S.Frozen.Frozen.name (into_iter_items l.initial.component-iterator)) (g.S.Store.history l.initial.store) new;
  rest : All (Contains (map arc_value (into_iter_items l.initial.component-iterator))) (map arc_value (into_iter_items l.component-iterator));
  shared : All (Contains (map arc_value (into_iter_items l.initial.component-iterator))) (map arc_value l.shared.items);
  left : into_iter_len l.component-iterator ≡ length (into_iter_items l.component-iterator);
  faults : (g.S.Watch.Watch.counts l.initial.watch).faults ≤ (g.S.Watch.Watch.counts l.watch).faults;
  reads : (g.S.Watch.Watch.counts l.watch).reads ≡ (g.S.Watch.Watch.counts l.initial.watch).reads;
}
