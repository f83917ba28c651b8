use Rattle.std.proofs.Common.{◌≡◌, ◌≤◌, ◌-◌, length, take}
use Rattle.tc_infer.proofs.guessing.are_same.Given as goal

-- the bytes that were passed are the same
abbrev pub invariant-bytes : goal.invariant-bytes
invariant-bytes l = (l.at ≤ length l.bytes) × (length l.bytes ≡ length l.others) × (take l.at l.bytes ≡ take l.at l.others)

abbrev pub decreases-bytes : goal.decreases-bytes
decreases-bytes l = length l.bytes - l.at
