use Rattle.std.proofs.Common.{◌+◌, ◌≡◌, ◌≤◌, ◌++◌, List, map, false}
use Rattle.std.specs.Prelude.{All}
use Rattle.tc_store.specs.Gate.{IsClosed}
use Rattle.tc_store.specs.Moments.{LeavesOnly}
use Rattle.tc_component.specs.Building.{HasRows}
use Rattle.tc_component.specs.Spelling.{Row}
use Rattle.tc_merge.specs.Faults.{IsJudged}
use Rattle.tc_merge.specs.Inputs.{left_of, IsNextOf, IsUpTo}
use Rattle.tc_merge.specs.Merging.{AreTold, live_rows}
use Rattle.tc_merge.proofs.merging.merge.Given as goal

abbrev pub invariant-loop-next : goal.invariant-loop-next
invariant-loop-next g l =
    let h = g.S.Device.Device.history in
    let content = g.S.Frozen.Frozen.content in
    record {
      next : IsNextOf l.inputs l.next;
      up : (rows : List Row) → AreTold (λ file. content file) (map (λ i. i.component) l.fn.inputs) → HasRows (h l.fn.builder.device) l.fn.builder rows
          → IsUpTo (λ file. content file) l.from l.fn.inputs l.inputs (λ done. HasRows (h l.builder.device) l.builder (rows ++ done));
      judged : AreTold (λ file. content file) (map (λ i. i.component) l.fn.inputs) → IsUpTo (λ file. content file) l.from l.fn.inputs l.inputs (λ done. All (IsJudged (λ file. content file) (map (λ i. i.component) l.fn.inputs)) done);
      more : (rows : List Row) → HasRows (h l.fn.builder.device) l.fn.builder rows → (all : List Row) × HasRows (h l.builder.device) l.builder all;
      same : map (λ i. i.component) l.inputs ≡ map (λ i. i.component) l.fn.inputs;
      head : l.builder.head ≡ l.fn.builder.head;
      going_on : l.builder.failed ≡ false;
      name : g.S.Device.Device.name l.builder.device ≡ g.S.Device.Device.name l.fn.builder.device;
      moments : LeavesOnly IsClosed (h l.fn.builder.device) (h l.builder.device);
      reads : IsUpTo (λ file. content file) l.from l.fn.inputs l.inputs (λ done. (g.S.Watch.Watch.counts l.watch).reads ≤ (g.S.Watch.Watch.counts l.fn.watch).reads + live_rows done);
      faults : (g.S.Watch.Watch.counts l.fn.watch).faults ≤ (g.S.Watch.Watch.counts l.watch).faults;
    }

abbrev pub decreases-loop-next : goal.decreases-loop-next
decreases-loop-next g l = left_of l.inputs
