use Rattle.std.proofs.Common.{◌≡◌, ◌≤◌, ◌<◌, ◌-◌, length, take}
use Rattle.std.specs.Str.Parse.{digits_value, AllDigits}
use Rattle.tc_doc_reader.proofs.integers.plain.Given as goal

abbrev pub invariant-digits : goal.invariant-digits
invariant-digits l =
    (l.at ≤ length l.bytes) × AllDigits 10 (take l.at l.bytes) × (digits_value 10 (take l.at l.bytes) ≡ l.number) × (l.number < 1000000000000000000)

abbrev pub decreases-digits : goal.decreases-digits
decreases-digits l = length l.bytes - l.at
