use Rattle.std.proofs.Common.{◌≡◌, length}
use Rattle.std.specs.Prelude.{All}
use Rattle.tc_memory.specs.DocumentTables.{IsTableOf}
use Rattle.tc_memory.specs.Table.{IsLawfulEntry}
use Rattle.tc_lsm_model.specs.Tables.{Table, shapes_held}
use Rattle.tc_flush.specs.Recounting.{names_with}
use Rattle.tc_flush.proofs.learning.names_fit.Given as goal

-- the names that are left, learned from here on, are all names learned
abbrev pub invariant-loop-entry : goal.invariant-loop-entry
invariant-loop-entry l = record {
  lawful : All IsLawfulEntry l.entries;
  up : (t : Table) → IsTableOf t l.sealed → (rest : Table) × IsTableOf rest l.entries × (names_with l.names (shapes_held t) ≡ names_with l.known (shapes_held rest));
}

abbrev pub decreases-loop-entry : goal.decreases-loop-entry
decreases-loop-entry l = length l.entries
