use Rattle.tc_store.specs.Memory.Device.{device_files}
use Rattle.part_rows.proofs.ToldFiles.{synced_settled}
use Rattle.part_rows.proofs.making.settled_file.Goals as goal

pub returns-in-Ok : goal.returns-in-Ok
returns-in-Ok c = record { settled = synced_settled (device_files c.write_at.new.self) _ c.in-Ok.ensures.synced }
