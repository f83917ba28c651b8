-- What a partition begins with over a store in memory.
use Rattle.std.specs.Prelude.{◌≡◌, ◌<◌, ◌≤◌, ◌^◌, List, length, false}
use Rattle.tc_store.specs.declared.file_name.FileName.TheVariants.{Log}
use Rattle.tc_store.specs.declared.mem.device.MemDevice.{MemDevice}
use Rattle.tc_store.specs.declared.mem.frozen.MemFrozen.{MemFrozen}
use Rattle.tc_store.specs.Memory.Device.{device_name, device_size}
use Rattle.tc_store.specs.Memory.Frozen.{frozen_content, frozen_name}
use Rattle.tc_component.specs.Loading.{ComponentState}
use Rattle.tc_jobs.specs.Lists.{IsListOf}
use Rattle.tc_log.specs.Appending.{LogState}
use Rattle.tc_log.specs.Layout.{empty_size}
use Rattle.tc_part.specs.Openings.{newest_in}
use Rattle.tc_part.specs.Ready.{AreNamed}
use Rattle.tc_part_model.specs.Newest.{next_by}

-- a log without a frame, behind components of partition 0 of 1
pub record IsLaid (log : LogState MemDevice) (list : List (ComponentState MemFrozen)) : Type 0 where
  pub sound : log.failed ≡ false
  pub empty : device_size log.device ≡ empty_size
  pub follows : device_name log.device ≡ Log (next_by (newest_in frozen_content list))
  pub last : next_by (newest_in frozen_content list) < 2 ^ 63
  pub few : length list ≤ 8
  pub listed : IsListOf 0 1 list
  pub named : AreNamed frozen_name list
