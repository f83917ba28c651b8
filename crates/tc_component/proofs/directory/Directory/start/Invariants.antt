use Rattle.std.proofs.Common.{◌≡◌, take}
use Rattle.tc_component.specs.Spelling.{lengths_of}
use Rattle.tc_component.proofs.directory.Directory.start.Given as goal

abbrev pub invariant-loop-passed : goal.invariant-loop-passed
invariant-loop-passed l = l.start ≡ lengths_of (take l.passed l.self)
