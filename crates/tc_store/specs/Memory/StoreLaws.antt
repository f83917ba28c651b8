-- Why a store in memory keeps the law of a store.
use Rattle.std.proofs.Common.{List, [], ◌∷◌, reverse, inl, inr}
use Rattle.std.specs.Prelude.{option_map}
use Rattle.std.proofs.lemmas.Bool.{cases_Bool}
use Rattle.tc_store.specs.declared.file_name.FileName.{FileName}
use Rattle.tc_store.specs.declared.mem.entry.Held.{Held}
use Rattle.tc_store.specs.declared.mem.entry.Held.TheVariants.{Gone, Home, Still, Out}
use Rattle.tc_store.specs.declared.mem.entry.MemFile.{MemFile}
use Rattle.tc_store.specs.declared.mem.entry.Slot.{Slot}
use Rattle.tc_store.specs.Memory.DeviceLaws.{settled_may_stay, may_stay_after}
use Rattle.tc_store.specs.Disk.{Entry, ContentMayStay, same_name}
use Rattle.tc_store.specs.Memory.Disk.{entry_of, file_entry, slot_entry, disk_of}

held_may_stay : (held : Held) → ContentMayStay (entry_of held)
held_may_stay (Gone bytes) = tt
held_may_stay (Home device) = may_stay_after (option_map (λ bytes. bytes.value.items) device.before) (reverse device.calls.items)
held_may_stay (Still bytes) = tt
held_may_stay Out = tt

file_may_stay : (files : List MemFile) (name : FileName) → ContentMayStay (file_entry files name)
file_may_stay [] name = tt
file_may_stay (file ∷ files) name = elim (cases_Bool (same_name file.name name)) [
  | inl this ↦ rw this (settled_may_stay file.bytes)
  | inr other ↦ rw other (file_may_stay files name)
]

slot_may_stay : (slots : List Slot) (entry : Entry) (name : FileName) → ContentMayStay entry → ContentMayStay (slot_entry slots entry name)
slot_may_stay [] entry name stays = stays
slot_may_stay (slot ∷ slots) entry name stays = elim (cases_Bool (same_name slot.name name)) [
  | inl this ↦ rw this (held_may_stay slot.held)
  | inr other ↦ rw other (slot_may_stay slots entry name stays)
]

pub disk_may_stay : (files : List MemFile) (slots : List Slot) (name : FileName) → ContentMayStay (disk_of files slots name)
disk_may_stay files slots name = slot_may_stay slots (file_entry files name) name (file_may_stay files name)
