-- What a device in memory shows.
use Rattle.std.specs.Prelude.{ℕ, List, length, reverse, option_map}
use Rattle.tc_store.specs.declared.file_name.FileName.{FileName}
use Rattle.tc_store.specs.declared.mem.device.MemDevice.{MemDevice}
use Rattle.tc_store.specs.Memory.DeviceCalls.{files_after}
use Rattle.tc_store.specs.DiskFile.{DiskFile}

-- its member `name`
abbrev pub device_name : MemDevice → FileName
device_name device = device.name

-- its member `size`
abbrev pub device_size : MemDevice → ℕ
device_size device = length device.content.items

-- its member `history`
abbrev pub device_files : MemDevice → List DiskFile
device_files device = files_after (option_map (λ bytes. bytes.value.items) device.before) (reverse device.calls.items)
