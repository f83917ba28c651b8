-- What a stop leaves of the files of a store in memory.
use Rattle.std.specs.Prelude.{◌≡◌, ◌≢◌, ◌≤◌, ◌<◌, ◌⊎◌, ℕ, ◌+◌, max, Bool, true, false, List, [], ◌∷◌, length, map, slice_index, Option, None, Some, AllPairs, Contains}
use Rattle.tc_store.specs.declared.file_name.FileName.{FileName}
use Rattle.tc_store.specs.declared.mem.device.DeviceCall.{DeviceCall}
use Rattle.tc_store.specs.declared.mem.device.DeviceCall.TheVariants.{Written, Tried, Synced}
use Rattle.tc_store.specs.declared.mem.entry.MemFile.{MemFile}
use Rattle.tc_store.specs.Memory.DeviceCalls.{after_device_call}
use Rattle.tc_store.specs.Disk.{Disk, Entry, none, home, Picture, bytes_at, IsPictureOf, MayLeaveAt}
use Rattle.tc_store.specs.DiskFile.{DiskFile, settled_file}
use Rattle.tc_store.specs.Images.{Image}

-- a file after these calls, of which the oldest comes first
abbrev pub file_from : DiskFile → List DeviceCall → DiskFile
file_from f [] = f
file_from f (call ∷ calls) = file_from (after_device_call call f) calls

abbrev pub is_sync : DeviceCall → Bool
is_sync (Written at bytes) = false
is_sync (Tried at count) = false
is_sync Synced = true

-- bytes changed in a range and past the old end alone
pub record Lays (at count : ℕ) (old new : List ℕ) : Type 0 where
  pub kept : (position : ℕ) → position < length old → (position < at) ⊎ (at + count ≤ position) → slice_index new position ≡ slice_index old position
  pub no_shorter : length old ≤ length new
  pub no_longer : length new ≤ max (length old) (at + count)

-- a file that was never synced, where a removed one held this
pub record IsUnsynced (removed : Option (List ℕ)) (f : DiskFile) : Type 0 where
  pub synced : f.synced ≡ None
  pub before : f.before ≡ removed

-- nothing is left
abbrev pub IsAbsent : Image → Type 0
IsAbsent image = image ≡ None

-- the names and the bytes of these files
abbrev pub picture_of : List MemFile → Picture
picture_of files = map (λ file. (file.name, file.bytes)) files

-- the entry of a file that a stop left
abbrev pub left_entry : Image → Entry
left_entry None = none None
left_entry (Some bytes) = home (settled_file bytes)

-- the disk that a stop left
abbrev pub left_disk : Picture → Disk
left_disk picture name = left_entry (bytes_at picture name)

-- A stop of this disk may leave these moments, of which there is one, with nothing pending. A file that is out is lost.
pub record IsLeftBy (disk : Disk) (moments : List Disk) : Type 0 where
  pub picture : Picture
  pub lawful : IsPictureOf (λ name. IsAbsent) disk picture
  pub rests : moments ≡ left_disk picture ∷ []

-- for each decided name the picture has what a stop may leave, and nothing else is in it
pub record IsPictureSoFar (decided : List FileName) (disk : Disk) (picture : Picture) : Type 0 where
  pub once : AllPairs (λ a b. a.0 ≢ b.0) picture
  pub among : (name : FileName) → (bytes_at picture name ≡ None) ⊎ Contains decided name
  pub each : (name : FileName) → Contains decided name → MayLeaveAt IsAbsent (disk name) (bytes_at picture name)
