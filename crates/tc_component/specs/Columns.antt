-- A directory in memory, as the bytes that spell it and a column of marks, and what is found in it.
use Rattle.std.specs.Prelude.{◌≡◌, ◌≢◌, ◌<◌, ◌≤◌, ◌+◌, ◌*◌, ℕ, zero, suc, List, [], ◌∷◌, length, take, drop, get_or, slice_get, Some, None}
use Rattle.std.specs.Int.{w32, w64, from_be_bytes}
use Rattle.std.specs.List.{AllByRecursion}
use Rattle.tc_component.specs.declared.found.DirEntry.{DirEntry}
use Rattle.tc_component.specs.declared.found.Found.{Found}
use Rattle.tc_component.specs.declared.found.Found.TheVariants.{Absent, Gone, At}
use Rattle.tc_component.specs.declared.head.Sizes.{Sizes}
use Rattle.tc_component.specs.declared.slot.Slot.{Slot}
use Rattle.tc_component.specs.Found.{DirectoryFound}
use Rattle.tc_component.specs.Layout.{number_end, slot_size, mark_step}
use Rattle.tc_component.specs.Reading.{directory_read}
use Rattle.tc_component.specs.Spelling.{slot, lengths_of, IsSlot, Ascend}

-- the slot that the first bytes are
abbrev pub front_slot : List ℕ → Slot
front_slot bytes = slot (from_be_bytes w64 bytes) (from_be_bytes w32 (drop 8 bytes))

-- so many slots, one behind the other
abbrev pub slots_in : ℕ → List ℕ → List Slot
slots_in zero bytes = []
slots_in (suc n) bytes = front_slot bytes ∷ slots_in n (drop slot_size bytes)

-- before the first slot, and before each that so many more precede, a mark tells how many bytes the records before it have
pub record AreMarks (marks : List ℕ) (slots : List Slot) : Type 0 where
  pub more : length slots < length marks * mark_step
  pub most : length marks * mark_step ≤ length slots + mark_step
  pub each : (i : ℕ) → i * mark_step ≤ length slots → get_or marks i 0 ≡ lengths_of (take (i * mark_step) slots)

-- all of the bytes are a directory of these sizes, and these are its marks
pub record IsMarked (sizes : Sizes) (bytes marks : List ℕ) : Type 0 where
  pub slots : List Slot
  pub read : directory_read sizes.entries sizes.records [] bytes ≡ Some slots
  pub found : DirectoryFound sizes.entries sizes.records bytes slots
  pub marks_are : AreMarks marks slots

-- so many slots of a directory that a component may have, in so many bytes, and the marks
pub record AreHeld (count : ℕ) (bytes marks : List ℕ) (slots : List Slot) : Type 0 where
  pub sized : length bytes ≡ count * slot_size
  pub each : AllByRecursion IsSlot slots
  pub ascend : Ascend slots
  pub short : lengths_of slots < number_end
  pub marks_are : AreMarks marks slots

-- what is found of a key: no slot has it, or one without a record, or the one at a place
abbrev pub IsFound : List Slot → ℕ → Found → Type 0
IsFound slots key Absent = (at : ℕ) (s : Slot) → slice_get slots at ≡ Some s → s.key ≢ key
IsFound slots key Gone = (at : ℕ) × (slice_get slots at ≡ Some (slot key 0))
IsFound slots key (At place) = (bytes : ℕ) × (slice_get slots place.at ≡ Some (slot key bytes)) × (0 < bytes)

-- an entry of the directory: its key, and its place where it is not gone
pub record IsEntry (slots : List Slot) (at : ℕ) (e : DirEntry) : Type 0 where
  pub bytes : ℕ
  pub here : slice_get slots at ≡ Some (slot e.key bytes)
  pub gone : bytes ≡ 0 → e.place ≡ None
  pub live : 0 < bytes → e.place ≡ Some (record { at = at })
