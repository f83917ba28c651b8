use Rattle.std.proofs.Common.{◌≡◌, ◌-◌, [], length}
use Rattle.tc_log.specs.Reading.{frames_judged}
use Rattle.tc_log.proofs.frame.frames_in.Given as goal

abbrev pub invariant-loop : goal.invariant-loop
invariant-loop l = record {
  reads : frames_judged (length l.bytes - l.counter) l.fn.end l.writes.items l.rest ≡ frames_judged (length l.bytes) l.fn.end [] l.bytes;
}
