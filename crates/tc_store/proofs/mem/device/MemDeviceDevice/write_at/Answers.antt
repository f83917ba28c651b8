use Rattle.std.proofs.Common.{length}
use Rattle.tc_store.proofs.Memory.DeviceRecord.{written-push, fails-push}
use Rattle.tc_store.proofs.mem.device.MemDeviceDevice.write_at.Goals as goal

pub returns-then-fails-clause-failed : goal.returns-then-fails-clause-failed
returns-then-fails-clause-failed c is =
    fails-push _ c.args.at (length c.args.bytes.now) c.args.self.now.calls.items _ _ c.in_ok-reserve.ensures.items c.push_in_room.ensures.items

pub returns-clause-written : goal.returns-clause-written
returns-clause-written c =
    written-push _ c.args.at c.args.bytes.now c.in_ok-copy.copy c.args.self.now.calls.items _ _ c.in_ok-copy.ensures.items c.in_ok-reserve.ensures.items c.push_in_room-2.ensures.items
