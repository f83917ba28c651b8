use Rattle.std.proofs.Common.{◌≡◌, ◌≤◌, ◌++◌, List, length, false}
use Rattle.std.specs.Prelude.{All}
use Rattle.tc_model.specs.Dictionary.{IsDictionary}
use Rattle.tc_store.specs.Gate.{IsClosed}
use Rattle.tc_store.specs.Moments.{LeavesOnly}
use Rattle.tc_component.specs.Building.{HasRows}
use Rattle.tc_component.specs.Spelling.{Row}
use Rattle.tc_memory.specs.DocumentTables.{IsTableOf}
use Rattle.tc_memory.specs.Table.{IsLawfulEntry}
use Rattle.tc_lsm_model.specs.Tables.{Table, shapes_held}
use Rattle.tc_flush.specs.Progress.{IsUpTo}
use Rattle.tc_flush.specs.Recounting.{names_with}
use Rattle.tc_component.specs.Rows.{rows_of}
use Rattle.tc_flush.proofs.writing.put_entries.Given as goal

abbrev pub invariant-loop-entry : goal.invariant-loop-entry
invariant-loop-entry g l =
    let h = g.D.Device.history in
    record {
      up : (t : Table) → IsTableOf t l.sealed
          → IsUpTo (λ ws. (rows : List Row) → HasRows (h l.fn.builder.device) l.fn.builder rows → HasRows (h l.builder.device) l.builder (rows ++ rows_of (names_with l.fn.names (shapes_held t)) ws)) t l.fn.names l.fn.schema l.entries l.names l.schema;
      final : (t : Table) → IsTableOf t l.sealed → IsDictionary (names_with l.fn.names (shapes_held t));
      lawful : All IsLawfulEntry l.entries;
      head : l.builder.head ≡ l.fn.builder.head;
      going_on : l.builder.failed ≡ false;
      name : g.D.Device.name l.builder.device ≡ g.D.Device.name l.fn.builder.device;
      moments : LeavesOnly IsClosed (h l.fn.builder.device) (h l.builder.device);
      faults : (g.D.Watch.Watch.counts l.fn.watch).faults ≤ (g.D.Watch.Watch.counts l.watch).faults;
      reads : (g.D.Watch.Watch.counts l.watch).reads ≡ (g.D.Watch.Watch.counts l.fn.watch).reads;
    }

abbrev pub decreases-loop-entry : goal.decreases-loop-entry
decreases-loop-entry g l = length l.entries
