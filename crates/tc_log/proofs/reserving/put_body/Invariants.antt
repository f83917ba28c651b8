use Rattle.std.proofs.Common.{◌≡◌, ◌++◌, take}
use Rattle.tc_log.specs.Spelling.{body_bytes}
use Rattle.tc_log.proofs.reserving.put_body.Given as goal

abbrev pub invariant-loop-write : goal.invariant-loop-write
invariant-loop-write l = l.out.items ≡ l.fn.out.items ++ body_bytes (take l.write-index l.writes)
