-- What a file that is being written shows.
use Rattle.std.specs.Prelude.{ℕ, Bool, List, []}
use Rattle.tc_files.specs.declared.device.FileDevice.{FileDevice}
use Rattle.tc_store.specs.declared.file_name.FileName.{FileName}
use Rattle.tc_store.specs.DiskFile.{DiskFile}

-- its member `name`
abbrev pub device_name : FileDevice → FileName
device_name device = device.name

-- its member `size`
abbrev pub device_size : FileDevice → ℕ
device_size device = device.len

-- its member `history`: it tells nothing
abbrev pub device_files : FileDevice → List DiskFile
device_files device = []

-- a sync of it failed
abbrev pub has_failed : FileDevice → Bool
has_failed device = device.has_failed
