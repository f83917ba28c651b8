-- The record of a device in memory, the newest call first, and the files that it gives.
use Rattle.std.specs.Prelude.{ℕ, List, [], ◌∷◌, Option}
use Rattle.tc_store.specs.declared.mem.device.DeviceCall.{DeviceCall}
use Rattle.tc_store.specs.declared.mem.device.DeviceCall.TheVariants.{Written, Tried, Synced}
use Rattle.tc_store.specs.DiskFile.{DiskFile, empty_file, written, synced_file}

-- the file after a call
abbrev pub after_device_call : DeviceCall → DiskFile → DiskFile
after_device_call (Written at bytes) f = written at bytes.items f
after_device_call (Tried at count) f = record f { tried = (at, count) ∷ f.tried }
after_device_call Synced f = synced_file f

-- the file after these calls
abbrev pub file_after : Option (List ℕ) → List DeviceCall → DiskFile
file_after before [] = empty_file before
file_after before (call ∷ earlier) = after_device_call call (file_after before earlier)

-- the file after each of the calls before the newest
abbrev pub earlier_files : Option (List ℕ) → List DeviceCall → List DiskFile
earlier_files before [] = []
earlier_files before (call ∷ earlier) = file_after before earlier ∷ earlier_files before earlier

-- the file after these calls, and after each of the earlier ones
abbrev pub files_after : Option (List ℕ) → List DeviceCall → List DiskFile
files_after before calls = file_after before calls ∷ earlier_files before calls
