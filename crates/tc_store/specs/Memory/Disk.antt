-- What a store in memory has under each name, now and at each earlier moment.
use Rattle.std.specs.Prelude.{◌≡◌, ◌<◌, ℕ, ◌+◌, true, false, length, slice_index_or, List, [], ◌∷◌, None, Some, option_map, reverse, if◌then◌else◌}
use Rattle.tc_store.specs.declared.file_name.FileName.{FileName}
use Rattle.tc_store.specs.declared.mem.entry.MemFile.{MemFile}
use Rattle.tc_store.specs.declared.mem.entry.Slot.{Slot}
use Rattle.tc_store.specs.declared.mem.entry.Held.{Held}
use Rattle.tc_store.specs.declared.mem.entry.Held.TheVariants.{Gone, Home, Still, Out}
use Rattle.tc_store.specs.declared.mem.entry.Act.{Act}
use Rattle.tc_store.specs.declared.mem.entry.Act.TheVariants.{Taken, Made, Returned, Removed}
use Rattle.tc_store.specs.declared.mem.entry.Change.{Change}
use Rattle.tc_store.specs.Memory.DeviceCalls.{file_after}
use Rattle.tc_store.specs.DiskFile.{settled_file}
use Rattle.tc_store.specs.Disk.{Disk, Entry, none, home, still, out, put, same_name}

-- the entry that a held file is
abbrev pub entry_of : Held → Entry
entry_of (Gone bytes) = none (Some bytes.value.items)
entry_of (Home device) = home (file_after (option_map (λ bytes. bytes.value.items) device.before) (reverse device.calls.items))
entry_of (Still bytes) = still bytes.value.items
entry_of Out = out

-- the entry of a name among the files that were never taken
abbrev pub file_entry : List MemFile → FileName → Entry
file_entry [] name = none None
file_entry (file ∷ files) name = if same_name file.name name then home (settled_file file.bytes) else file_entry files name

-- the entry of a name among the slots, or else this one
abbrev pub slot_entry : List Slot → Entry → FileName → Entry
slot_entry [] other name = other
slot_entry (slot ∷ slots) other name = if same_name slot.name name then entry_of slot.held else slot_entry slots other name

-- what there is under each name
abbrev pub disk_of : List MemFile → List Slot → Disk
disk_of files slots name = slot_entry slots (file_entry files name) name

-- the entry before an act, by the one after it
abbrev pub entry_before : Act → Entry → Entry
entry_before Taken (none before) = none before
entry_before Taken (home f) = home f
entry_before Taken (still bytes) = home (settled_file bytes)
entry_before Taken out = out
entry_before (Made before) entry = none (option_map (λ bytes. bytes.value.items) before)
entry_before Returned entry = out
entry_before Removed (none None) = none None
entry_before Removed (none (Some bytes)) = still bytes
entry_before Removed (home f) = home f
entry_before Removed (still bytes) = still bytes
entry_before Removed out = out

-- the disk before a change
abbrev pub disk_before : Change → Disk → Disk
disk_before change disk = put change.name (entry_before change.act (disk change.name)) disk

-- the disk before each of these changes, of which the newest comes first
abbrev pub earlier_disks : Disk → List Change → List Disk
earlier_disks disk [] = []
earlier_disks disk (change ∷ earlier) = disk_before change disk ∷ earlier_disks (disk_before change disk) earlier

-- the disk now and before each of these changes
abbrev pub disks_of : Disk → List Change → List Disk
disks_of disk changes = disk ∷ earlier_disks disk changes

-- how many changes a held file may still make without asking for memory
abbrev pub owed_of : Held → ℕ
owed_of (Gone bytes) = 0
owed_of (Home device) = 0
owed_of (Still bytes) = 1
owed_of Out = 2

abbrev pub owed_by : List Slot → ℕ
owed_by [] = 0
owed_by (slot ∷ slots) = owed_of slot.held + owed_by slots

-- the first slot of a name stands here
pub record IsFirstSlot (slots : List Slot) (name : FileName) (i : ℕ) : Type 0 where
  pub within : i < length slots
  pub same : (d : Slot) → same_name (slice_index_or slots i d).name name ≡ true
  pub first : (k : ℕ) (d : Slot) → k < i → same_name (slice_index_or slots k d).name name ≡ false

-- the first file of a name stands here
pub record IsFirstFile (files : List MemFile) (name : FileName) (i : ℕ) : Type 0 where
  pub within : i < length files
  pub same : (d : MemFile) → same_name (slice_index_or files i d).name name ≡ true
  pub first : (k : ℕ) (d : MemFile) → k < i → same_name (slice_index_or files k d).name name ≡ false

-- the slot with something else held
abbrev pub with_held : Slot → Held → Slot
with_held slot held = record slot { held = held }

-- From the old slots to the new ones a name gets another entry.
pub record PutsEntry (name : FileName) (entry : Entry) (old new : List Slot) : Type 0 where
  pub puts : (files : List MemFile) → disk_of files new ≡ put name entry (disk_of files old)
