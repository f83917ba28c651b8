use Rattle.std.proofs.Common.{◌≡◌, ◌+◌, ◌-◌, ◌<◌, ◌^◌, ℕ, length}
use Rattle.std.specs.Prelude.{All, min}
use Rattle.tc_memory.specs.DocumentTables.{IsTableOf}
use Rattle.tc_memory.specs.Table.{IsLawfulEntry}
use Rattle.tc_lsm_model.specs.Tables.{Table}
use Rattle.tc_flush.specs.Counting.{names_held}
use Rattle.tc_flush.proofs.counting.member_count.Given as goal

-- what the members of the entries that are left come to, is what is missing
abbrev pub invariant-loop-entry : goal.invariant-loop-entry
invariant-loop-entry l = record {
  fits : l.members < 2 ^ 64;
  lawful : All IsLawfulEntry l.entries;
  rest : (m : ℕ) → ((t : Table) → IsTableOf t l.entries → length (names_held t) ≡ m) → (t : Table) → IsTableOf t l.sealed → min (length (names_held t)) (2 ^ 64 - 1) ≡ min (l.members + m) (2 ^ 64 - 1);
}

abbrev pub decreases-loop-entry : goal.decreases-loop-entry
decreases-loop-entry l = length l.entries
