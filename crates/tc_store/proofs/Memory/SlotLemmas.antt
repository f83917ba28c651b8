-- What the slots of a store in memory are after one of them was written.
use Rattle.std.proofs.Common.{inl, inr, ◌≡◌, ◌<◌, ℕ, ◌+◌, List, [], ◌∷◌, length, true, false, ◌∙◌, sym, ap, refl, set, subst}
use Rattle.std.specs.Prelude.{All, slice_index_or}
use Rattle.std.proofs.lemmas.Bool.{cases_Bool}
use Rattle.std.proofs.lemmas.List.{get_or_default, get_or-set_same, set-set}
use Rattle.tc_store.specs.declared.file_name.FileName.{FileName}
use Rattle.tc_store.specs.declared.mem.entry.Held.{Held}
use Rattle.tc_store.specs.declared.mem.entry.Held.TheVariants.{Gone, Home, Still, Out}
use Rattle.tc_store.specs.declared.mem.entry.MemFile.{MemFile}
use Rattle.tc_store.specs.declared.mem.entry.Slot.{Slot}
use Rattle.tc_store.specs.Disk.{Entry, none, content_of, is_out, is_still, same_name}
use Rattle.tc_store.specs.Memory.Disk.{entry_of, file_entry, disk_of, owed_of, owed_by, with_held, IsFirstSlot, PutsEntry}
use Rattle.tc_store.proofs.NameLemmas.{same_name-is}
use Rattle.tc_store.proofs.Memory.DiskLemmas.{slot_entry-none, slot_entry-first, disk_of-set, owed_by-set}

-- the disk after the first slot of a name was written
pub puts_entry : (slots new : List Slot) (name : FileName) (at : ℕ) (held : Held) → IsFirstSlot slots name at
    → ((d : Slot) → new ≡ set slots at (with_held (slice_index_or slots at d) held)) → PutsEntry name (entry_of held) slots new
puts_entry slots new name at held first wrote =
    let d : Slot = record { name = name; held = held } in
    let slot' : Slot = with_held (slice_index_or slots at d) held in
    record { puts = λ files. ap (disk_of files) (wrote d) ∙ disk_of-set files slots name at slot' first (same_name-is slot'.name name (first.same d)) }

-- and what is owed
pub owes : (slots new : List Slot) (name : FileName) (at : ℕ) (held was : Held) → IsFirstSlot slots name at
    → ((d : Slot) → new ≡ set slots at (with_held (slice_index_or slots at d) held)) → ((d : Slot) → was ≡ (slice_index_or slots at d).held)
    → owed_by new + owed_of was ≡ owed_by slots + owed_of held
owes slots new name at held was first wrote is =
    let d : Slot = record { name = name; held = held } in
    let slot' : Slot = with_held (slice_index_or slots at d) held in
    ap (λ (out : ℕ). out + owed_of was) (ap owed_by (wrote d)) ∙ ap (λ (gone : Held). owed_by (set slots at slot') + owed_of gone) (is d) ∙ owed_by-set slots at slot' d first.within

-- the entry of a name is that of its first slot
pub entry_at : (files : List MemFile) (slots : List Slot) (name : FileName) (at : ℕ) (was : Held) → IsFirstSlot slots name at
    → ((d : Slot) → was ≡ (slice_index_or slots at d).held) → disk_of files slots name ≡ entry_of was
entry_at files slots name at was first is =
    let d : Slot = record { name = name; held = was } in
    slot_entry-first slots (file_entry files name) name at d first ∙ sym (ap entry_of (is d))

-- a file that was never taken is neither out nor still
file_not_out : (files : List MemFile) (name : FileName) → is_out (file_entry files name) ≡ false
file_not_out [] name = refl
file_not_out (file ∷ files) name = elim (cases_Bool (same_name file.name name)) [
  | inl this ↦ rw this
  | inr other ↦ rw other (file_not_out files name)
]

file_not_still : (files : List MemFile) (name : FileName) → is_still (file_entry files name) ≡ false
file_not_still [] name = refl
file_not_still (file ∷ files) name = elim (cases_Bool (same_name file.name name)) [
  | inl this ↦ rw this
  | inr other ↦ rw other (file_not_still files name)
]

pub no_slot_out : (files : List MemFile) (slots : List Slot) (name : FileName) → All (λ slot. same_name slot.name name ≡ false) slots → is_out (disk_of files slots name) ≡ false
no_slot_out files slots name free = ap is_out (slot_entry-none slots (file_entry files name) name free) ∙ file_not_out files name

pub no_slot_still : (files : List MemFile) (slots : List Slot) (name : FileName) → All (λ slot. same_name slot.name name ≡ false) slots → is_still (disk_of files slots name) ≡ false
no_slot_still files slots name free = ap is_still (slot_entry-none slots (file_entry files name) name free) ∙ file_not_still files name

-- what a read of a slot says, at any default
pub read_held : (slots : List Slot) (at : ℕ) (slot : Slot) → at < length slots → slot ≡ slice_index_or slots at slot
    → (d : Slot) → slot.held ≡ (slice_index_or slots at d).held
read_held slots at slot within is d = ap (λ (read : Slot). read.held) (is ∙ get_or_default slots at slot d within)

-- what is held of a file that is out or still owes two changes or one
owed_out : (held : Held) → is_out (entry_of held) ≡ true → owed_of held ≡ 2
owed_out (Gone bytes) test = absurd (cc)
owed_out (Home device) test = absurd (cc)
owed_out (Still bytes) test = absurd (cc)
owed_out Out test = refl

owed_still : (held : Held) → is_still (entry_of held) ≡ true → owed_of held ≡ 1
owed_still (Gone bytes) test = absurd (cc)
owed_still (Home device) test = absurd (cc)
owed_still (Still bytes) test = refl
owed_still Out test = absurd (cc)

pub owes_out : (slots new : List Slot) (name : FileName) (at : ℕ) (held was : Held) → IsFirstSlot slots name at
    → ((d : Slot) → new ≡ set slots at (with_held (slice_index_or slots at d) held)) → ((d : Slot) → was ≡ (slice_index_or slots at d).held)
    → is_out (entry_of was) ≡ true → owed_by new + 2 ≡ owed_by slots + owed_of held
owes_out slots new name at held was first wrote is test =
    ap (λ (two : ℕ). owed_by new + two) (sym (owed_out was test)) ∙ owes slots new name at held was first wrote is

pub owes_still : (slots new : List Slot) (name : FileName) (at : ℕ) (held was : Held) → IsFirstSlot slots name at
    → ((d : Slot) → new ≡ set slots at (with_held (slice_index_or slots at d) held)) → ((d : Slot) → was ≡ (slice_index_or slots at d).held)
    → is_still (entry_of was) ≡ true → owed_by new + 1 ≡ owed_by slots + owed_of held
owes_still slots new name at held was first wrote is test =
    ap (λ (one : ℕ). owed_by new + one) (sym (owed_still was test)) ∙ owes slots new name at held was first wrote is

-- a slot that was written twice
pub written_twice : (slots once new : List Slot) (at : ℕ) (first second : Held) → at < length slots
    → ((d : Slot) → once ≡ set slots at (with_held (slice_index_or slots at d) first))
    → ((d : Slot) → new ≡ set once at (with_held (slice_index_or once at d) second))
    → (d : Slot) → new ≡ set slots at (with_held (slice_index_or slots at d) second)
written_twice slots once new at first second within one two d =
    let there : slice_index_or once at d ≡ with_held (slice_index_or slots at d) first =
    ap (λ (all : List Slot). slice_index_or all at d) (one d) ∙ get_or-set_same slots at (with_held (slice_index_or slots at d) first) d within in
    two d ∙ ap (λ (slot : Slot). set once at (with_held slot second)) there
    ∙ ap (λ (all : List Slot). set all at (with_held (slice_index_or slots at d) second)) (one d)
    ∙ set-set slots at (with_held (slice_index_or slots at d) first) (with_held (slice_index_or slots at d) second)

-- the entry that the removed file of a still one leaves
pub removed_entry : (files : List MemFile) (slots new : List Slot) (name : FileName) (was gone : Held) → disk_of files slots name ≡ entry_of was
    → entry_of gone ≡ none (content_of (entry_of was)) → PutsEntry name (entry_of gone) slots new → PutsEntry name (none (content_of (disk_of files slots name))) slots new
removed_entry files slots new name was gone entry leaves puts =
    subst (λ (left : Entry). PutsEntry name left slots new) (leaves ∙ ap (λ (there : Entry). none (content_of there)) (sym entry)) puts
