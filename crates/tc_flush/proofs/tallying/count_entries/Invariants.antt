use Rattle.std.proofs.Common.{length}
use Rattle.std.specs.Prelude.{All}
use Rattle.tc_memory.specs.DocumentTables.{IsTableOf}
use Rattle.tc_memory.specs.Table.{IsLawfulEntry}
use Rattle.tc_lsm_model.specs.Tables.{Table}
use Rattle.tc_flush.specs.Progress.{IsUpTo}
use Rattle.tc_flush.proofs.tallying.count_entries.Given as goal

-- nothing is pushed
abbrev pub invariant-loop-entry : goal.invariant-loop-entry
invariant-loop-entry l = record {
  up : (t : Table) → IsTableOf t l.sealed → IsUpTo (λ ws. Unit {0}) t l.fn.names l.fn.schema l.entries l.names l.schema;
  lawful : All IsLawfulEntry l.entries;
}

abbrev pub decreases-loop-entry : goal.decreases-loop-entry
decreases-loop-entry l = length l.entries
