use Rattle.std.proofs.Common.{◌≡◌, ◌++◌, drop}
use Rattle.tc_record.proofs.columns.put_bytes.Given as goal

-- what was put, with the bytes that are left, is all
abbrev pub invariant-loop-byte : goal.invariant-loop-byte
invariant-loop-byte l = l.out.items ++ drop l.byte-index l.bytes ≡ l.fn.out.items ++ l.bytes
