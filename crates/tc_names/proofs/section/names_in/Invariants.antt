use Rattle.std.proofs.Common.{◌≡◌, ◌-◌, [], length}
use Rattle.tc_bytes.specs.Reading.{elements_at}
use Rattle.tc_names.specs.Section.{name_at, is_new}
use Rattle.tc_names.proofs.section.names_in.Given as goal

abbrev pub invariant-loop-number : goal.invariant-loop-number
invariant-loop-number l = record {
  reads : elements_at is_new name_at (l.count - l.number) l.names l.rest ≡ elements_at is_new name_at l.count [] l.bytes;
  known : length l.names ≡ l.number;
}
