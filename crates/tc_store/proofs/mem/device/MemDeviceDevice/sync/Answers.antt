use Rattle.tc_store.specs.declared.mem.device.DeviceCall.TheVariants.{Synced}
use Rattle.tc_store.proofs.Memory.DeviceRecord.{files_after-push}
use Rattle.tc_store.proofs.mem.device.MemDeviceDevice.sync.Goals as goal

pub returns-clause-synced : goal.returns-clause-synced
returns-clause-synced c =
    files_after-push _ c.args.self.now.calls.items _ _ Synced c.in_ok-reserve.ensures.items c.push_in_room.ensures.items
