-- The names that a store in memory lists.
use Rattle.std.proofs.Common.{◌≡◌, ◌<◌, ℕ, zero, suc, List, [], ◌∷◌, length, refl, sym, subst, arith, inl, inr}
use Rattle.std.specs.Prelude.{◌⊎◌, Contains, None, slice_index_or}
use Rattle.std.proofs.lemmas.Bool.{cases_Bool}
use Rattle.tc_store.specs.declared.file_name.FileName.{FileName}
use Rattle.tc_store.specs.declared.mem.entry.Held.TheVariants.{Out}
use Rattle.tc_store.specs.declared.mem.entry.MemFile.{MemFile}
use Rattle.tc_store.specs.declared.mem.entry.Slot.{Slot}
use Rattle.tc_store.specs.Disk.{Disk, Entry, none, IsThere, ListsNames, same_name}
use Rattle.tc_store.specs.Memory.Disk.{file_entry, slot_entry, disk_of}
use Rattle.tc_store.specs.Memory.Names.{ListsSome}
use Rattle.tc_store.proofs.NameLemmas.{same_name-is}

-- a name has a slot, or else the other entry
pub slot_named : (slots : List Slot) (other : Entry) (name : FileName)
    → ((k : ℕ) × (k < length slots) × ((d : Slot) → (slice_index_or slots k d).name ≡ name)) ⊎ (slot_entry slots other name ≡ other)
slot_named [] other name = inr refl
slot_named (slot ∷ slots) other name = elim (cases_Bool (same_name slot.name name)) [
  | inl this ↦ inl (zero, omega arith, λ d. same_name-is slot.name name this)
  | inr off ↦ elim (slot_named slots other name) [
    | inl (k, within, named) ↦ inl (suc k, omega arith, named)
    | inr it ↦ inr (rw off it)
  ]
]

-- a name has a file, or else none
pub file_named : (files : List MemFile) (name : FileName)
    → ((k : ℕ) × (k < length files) × ((d : MemFile) → (slice_index_or files k d).name ≡ name)) ⊎ (file_entry files name ≡ none None)
file_named [] name = inr refl
file_named (file ∷ files) name = elim (cases_Bool (same_name file.name name)) [
  | inl this ↦ inl (zero, omega arith, λ d. same_name-is file.name name this)
  | inr off ↦ elim (file_named files name) [
    | inl (k, within, named) ↦ inl (suc k, omega arith, named)
    | inr it ↦ inr (rw off it)
  ]
]

-- a name that is there has a slot, or else another entry that is there
slot_or : (slots : List Slot) (other : Entry) (name : FileName) → IsThere (slot_entry slots other name)
    → ((k : ℕ) × (k < length slots) × ((d : Slot) → (slice_index_or slots k d).name ≡ name)) ⊎ IsThere other
slot_or slots other name there = elim (slot_named slots other name) [
  | inl found ↦ inl found
  | inr is ↦ inr (subst IsThere is there)
]

-- a name that is there has a file
file_in : (files : List MemFile) (name : FileName) → IsThere (file_entry files name)
    → (k : ℕ) × (k < length files) × ((d : MemFile) → (slice_index_or files k d).name ≡ name)
file_in files name there = elim (file_named files name) [
  | inl found ↦ found
  | inr is ↦ absurd (subst IsThere is there)
]

-- each name of a slot or a file that is there is listed, so each name that is there is
pub all_listed : (names : List FileName) (files : List MemFile) (slots : List Slot)
    → ((k : ℕ) (d : Slot) → k < length slots → IsThere (disk_of files slots (slice_index_or slots k d).name) → Contains names (slice_index_or slots k d).name)
    → ((k : ℕ) (d : MemFile) → k < length files → IsThere (disk_of files slots (slice_index_or files k d).name) → Contains names (slice_index_or files k d).name)
    → (name : FileName) → IsThere (disk_of files slots name) → Contains names name
all_listed names files slots of_slots of_files name there = elim (slot_or slots (file_entry files name) name there) [
  | inl (k, within, named) ↦
      let d : Slot = record { name = name; held = Out } in
      subst (Contains names) (named d) (of_slots k d within (subst (λ (n : FileName). IsThere (disk_of files slots n)) (sym (named d)) there))
  | inr is ↦
      let (k, within, named) = file_in files name is in
      let d : MemFile = record { name = name; bytes = [] } in
      subst (Contains names) (named d) (of_files k d within (subst (λ (n : FileName). IsThere (disk_of files slots n)) (sym (named d)) there))
]

pub lists_names : (names : List FileName) (disk : Disk) → ListsSome names disk → ((name : FileName) → IsThere (disk name) → Contains names name) → ListsNames names disk
lists_names names disk some all = record { once = some.once; exact = λ name. (some.there name, all name) }
