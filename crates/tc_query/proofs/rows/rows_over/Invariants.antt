use Rattle.std.proofs.Common.{◌≡◌, ◌≤◌, ◌+◌, ◌-◌, ◌^◌, map, length}
use Rattle.std.specs.Prelude.{option_map}
use Rattle.tc_command.specs.Commands.{ask_of}
use Rattle.tc_command.specs.Rows.{row_of}
use Rattle.tc_request_model.specs.Rows.{rows_over}
use Rattle.tc_request_model.specs.Rendered.{row_text}
use Rattle.tc_plain_model.specs.Writes.{Pairs}
use Rattle.tc_query.proofs.HeldBelow.{HoldBelow}
use Rattle.tc_query.specs.Rows.{below}
use Rattle.tc_query.specs.Shown.{shown}
use Rattle.tc_query.specs.Stored.{Holds}
use Rattle.tc_query.specs.Walking.{least_left, IsWalk}
use Rattle.tc_query.specs.Readers.{AreReaders}
use Rattle.tc_query.specs.Windows.{AreRead}
use Rattle.tc_query.proofs.rows.rows_over.Given as goal

-- all keys up to the last one are done
abbrev pub invariant-loop-key : goal.invariant-loop-key
invariant-loop-key g l =
    let low = least_left l.last in
    let sealed = option_map (λ t. t.now) l.sealed in
    let counts = g.F.Watch.Watch.counts in
    record {
      walk : IsWalk low l.list sealed l.active l.walk;
      rows : (pairs : Pairs) → Holds (λ file. g.F.Frozen.content file) l.list sealed l.active pairs → map row_of l.rows.items ≡ map row_text (rows_over (ask_of l.ask) (below low pairs));
      held : HoldBelow (λ file. g.F.Frozen.content file) low l.list sealed l.active (ask_of l.ask) (map row_of l.rows.items);
      reads : (counts l.watch).reads ≤ (counts l.fn.watch).reads + length (below low (shown l.list sealed l.active));
      readers : AreReaders (λ file. g.F.Frozen.content file) (ask_of l.ask).path l.list l.readers.items;
      read : AreRead low l.list l.readers.items (counts l.fn.watch).reads (counts l.watch).reads;
      faults : (counts l.fn.watch).faults ≤ (counts l.watch).faults;
    }

abbrev pub decreases-loop-key : goal.decreases-loop-key
decreases-loop-key g l = 2 ^ 64 - least_left l.last
