use Rattle.std.proofs.Common.{◌≡◌, length, take}
use Rattle.tc_log.specs.Spelling.{body_bytes}
use Rattle.tc_log.proofs.reserving.body_len.Given as goal

abbrev pub invariant-loop-write : goal.invariant-loop-write
invariant-loop-write l = l.len ≡ length (body_bytes (take l.write-index l.writes))
