use Rattle.std.proofs.Common.{◌≡◌, length}
use Rattle.std.specs.List.{AllByRecursion}
use Rattle.std.specs.Vec.Iter.{into_iter_items, into_iter_len}
use Rattle.tc_log.specs.Writes.{IsWrite}
use Rattle.tc_check.proofs.NamedLogs.{MakesAs}
use Rattle.tc_check.proofs.naming.put_log.Given as goal

abbrev pub invariant-loop-write : goal.invariant-loop-write
invariant-loop-write l = record {
  many : into_iter_len l.write-iterator ≡ length (into_iter_items l.write-iterator);
  lawful : AllByRecursion IsWrite (into_iter_items l.write-iterator);
  left : MakesAs l.fn.log (into_iter_items l.write-iterator) l.fn.table l.table;
}
