use Rattle.std.proofs.Common.{◌≡◌, [], length}
use Rattle.std.specs.Prelude.{All}
use Rattle.std.specs.List.{AllByRecursion}
use Rattle.std.specs.Vec.Iter.{into_iter_items, into_iter_len}
use Rattle.tc_log.specs.Writes.{IsWrite}
use Rattle.tc_check.specs.Counting.{writes_in}
use Rattle.tc_check.proofs.NamedLogs.{MakesAs}
use Rattle.tc_check.proofs.naming.table_of.Given as goal

abbrev pub invariant-loop-log : goal.invariant-loop-log
invariant-loop-log l = record {
  many : into_iter_len l.log-iterator ≡ length (into_iter_items l.log-iterator);
  lawful : All (AllByRecursion IsWrite) (into_iter_items l.log-iterator);
  left : MakesAs (writes_in l.fn.logs.items) (writes_in (into_iter_items l.log-iterator)) [] l.table;
}
