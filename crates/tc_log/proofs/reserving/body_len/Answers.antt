use Rattle.std.proofs.Common.{arith}
use Rattle.tc_log.proofs.Kept.{entry_within}
use Rattle.tc_log.proofs.reserving.body_len.Goals as goal

pub entry_len-len-requires : goal.entry_len-len-requires
entry_len-len-requires c =
    let within = entry_within c.args.writes.now c.loop-write.write-index c.write-item.result c.loop-write-test.true c.write-item.is in
    let short = c.requires in
    omega arith

pub overflow_add-len : goal.overflow_add-len
overflow_add-len c =
    let within = entry_within c.args.writes.now c.loop-write.write-index c.write-item.result c.loop-write-test.true c.write-item.is in
    let short = c.requires in
    let len = c.entry_len-len.ensures in
    let so_far = c.loop-write.invariant in
    omega arith
