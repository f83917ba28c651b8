use Rattle.std.proofs.Common.{◌≡◌, ◌+◌, take}
use Rattle.tc_component.specs.Spelling.{lengths_of}
use Rattle.tc_component.specs.Spans.{AreSpans}
use Rattle.tc_component.proofs.directory.Directory.spans.Given as goal

abbrev pub invariant-loop-step : goal.invariant-loop-step
invariant-loop-step l = record {
  start : l.start ≡ lengths_of (take (l.at + l.step) l.self);
  spans : AreSpans l.self l.at (take l.step l.room);
}
