use Rattle.std.proofs.Common.{◌≡◌, ◌≤◌, length}
use Rattle.tc_command.specs.Commands.{ask_of}
use Rattle.tc_query.proofs.WindowReads.{AreFirstReaders}
use Rattle.tc_query.proofs.rows.readers_of.Given as goal

abbrev pub invariant-loop-at : goal.invariant-loop-at
invariant-loop-at g l = record {
  within : l.at ≤ length l.list;
  many : length l.readers.items ≡ l.at;
  first : AreFirstReaders (λ file. g.F.Frozen.content file) (ask_of l.ask).path l.list l.readers.items;
}
