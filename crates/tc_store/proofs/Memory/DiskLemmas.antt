-- What a change of a slot, and its record, make of the disk of a store in memory and of its moments.
use Rattle.std.proofs.Common.{◌≡◌, ◌<◌, ℕ, zero, suc, ◌+◌, List, [], ◌∷◌, ◌++◌, length, reverse, true, false, ◌∙◌, sym, ap, refl, arith, inl, inr, set}
use Rattle.std.specs.Prelude.{All, if◌then◌else◌, slice_index_or}
use Rattle.std.proofs.Math.Path.{fun_ext}
use Rattle.std.proofs.lemmas.Bool.{cases_Bool}
use Rattle.std.proofs.lemmas.List.{reverse-append}
use Rattle.std.proofs.lemmas.List.Elements.{All-head, All-tail}
use Rattle.tc_store.specs.declared.file_name.FileName.{FileName}
use Rattle.tc_store.specs.declared.mem.entry.MemFile.{MemFile}
use Rattle.tc_store.specs.declared.mem.entry.Slot.{Slot}
use Rattle.tc_store.specs.declared.mem.entry.Change.{Change}
use Rattle.tc_store.specs.Disk.{Disk, Entry, put, same_name}
use Rattle.tc_store.specs.Memory.Disk.{entry_of, file_entry, slot_entry, disk_of, entry_before, disk_before, disks_of, owed_of, owed_by, IsFirstSlot}
use Rattle.tc_store.proofs.NameLemmas.{same_name-is, put_there, put_back}

-- a test of two names, by the second one's own name
pub other_than : (a b n : FileName) → same_name a b ≡ false → same_name a n ≡ true → same_name b n ≡ false
other_than a b n apart same = elim (cases_Bool (same_name b n)) [
  | inl too ↦ absurd (let is : same_name a b ≡ true = ap (same_name a) (same_name-is b n too) ∙ same in let clash : true ≡ false = sym is ∙ apart in cc)
  | inr other ↦ other
]

-- a name that no slot has
pub slot_entry-none : (slots : List Slot) (other : Entry) (name : FileName) → All (λ slot. same_name slot.name name ≡ false) slots → slot_entry slots other name ≡ other
slot_entry-none [] other name free = refl
slot_entry-none (slot ∷ slots) other name free =
    let head : same_name slot.name name ≡ false = All-head (λ slot. same_name slot.name name ≡ false) slot slots free in
    rw head (slot_entry-none slots other name (All-tail (λ slot. same_name slot.name name ≡ false) slot slots free))

first_tail : (slot : Slot) (slots : List Slot) (name : FileName) (i : ℕ) → IsFirstSlot (slot ∷ slots) name (suc i) → IsFirstSlot slots name i
first_tail slot slots name i is = record {
  within = omega (arith, is.within);
  same = λ d. is.same d;
  first = λ k d before. is.first (suc k) d (omega arith);
}

-- the entry of the slot that is first
pub slot_entry-first : (slots : List Slot) (other : Entry) (name : FileName) (i : ℕ) (d : Slot) → IsFirstSlot slots name i
    → slot_entry slots other name ≡ entry_of (slice_index_or slots i d).held
slot_entry-first [] other name i d is = absurd (omega (arith, is.within))
slot_entry-first (slot ∷ slots) other name zero d is = rw (is.same d)
slot_entry-first (slot ∷ slots) other name (suc i) d is =
    rw (is.first zero d (omega arith)) (slot_entry-first slots other name i d (first_tail slot slots name i is))

-- the entries after the slot that is first for a name was written
pub slot_entry-set : (slots : List Slot) (other : Entry) (name : FileName) (i : ℕ) (slot' : Slot) (n : FileName) → IsFirstSlot slots name i → slot'.name ≡ name
    → slot_entry (set slots i slot') other n ≡ (if same_name name n then entry_of slot'.held else slot_entry slots other n)
slot_entry-set [] other name i slot' n is named = absurd (omega (arith, is.within))
slot_entry-set (slot ∷ slots) other name zero slot' n is named =
    let same : slot.name ≡ name = same_name-is slot.name name (is.same slot) in
    elim (cases_Bool (same_name name n)) [
      | inl this ↦ rw (named, this)
      | inr off ↦ rw (named, off, same, off)
    ]
slot_entry-set (slot ∷ slots) other name (suc i) slot' n is named =
    let apart : same_name slot.name name ≡ false = is.first zero slot (omega arith) in
    elim (cases_Bool (same_name slot.name n)) [
      | inl this ↦ rw (this, other_than slot.name name n apart this)
      | inr off ↦ rw (off, slot_entry-set slots other name i slot' n (first_tail slot slots name i is) named)
    ]

-- the entries after a slot was added for a name that had free
pub slot_entry-push : (slots : List Slot) (other : Entry) (slot' : Slot) (n : FileName) → All (λ slot. same_name slot.name slot'.name ≡ false) slots
    → slot_entry (slots ++ slot' ∷ []) other n ≡ (if same_name slot'.name n then entry_of slot'.held else slot_entry slots other n)
slot_entry-push [] other slot' n free = refl
slot_entry-push (slot ∷ slots) other slot' n free =
    let apart : same_name slot.name slot'.name ≡ false = All-head (λ slot. same_name slot.name slot'.name ≡ false) slot slots free in
    elim (cases_Bool (same_name slot.name n)) [
      | inl this ↦ rw (this, other_than slot.name slot'.name n apart this)
      | inr off ↦ rw (off, slot_entry-push slots other slot' n (All-tail (λ slot. same_name slot.name slot'.name ≡ false) slot slots free))
    ]

-- the disk after a slot was written
pub disk_of-set : (files : List MemFile) (slots : List Slot) (name : FileName) (i : ℕ) (slot' : Slot) → IsFirstSlot slots name i → slot'.name ≡ name
    → disk_of files (set slots i slot') ≡ put name (entry_of slot'.held) (disk_of files slots)
disk_of-set files slots name i slot' is named = fun_ext λ n. slot_entry-set slots (file_entry files n) name i slot' n is named

-- the disk after a slot was added
pub disk_of-push : (files : List MemFile) (slots : List Slot) (slot' : Slot) → All (λ slot. same_name slot.name slot'.name ≡ false) slots
    → disk_of files (slots ++ slot' ∷ []) ≡ put slot'.name (entry_of slot'.held) (disk_of files slots)
disk_of-push files slots slot' free = fun_ext λ n. slot_entry-push slots (file_entry files n) slot' n free

-- One more change in the record, of which the entry before can be told by the entry after.
pub disks_of-push : (disk new : Disk) (past roomy longer : List Change) (change : Change) (entry : Entry) → roomy ≡ past → longer ≡ roomy ++ change ∷ []
    → new ≡ put change.name entry disk → entry_before change.act entry ≡ disk change.name
    → disks_of new (reverse longer) ≡ put change.name entry disk ∷ disks_of disk (reverse past)
disks_of-push disk new past roomy longer change entry same pushed is before =
    let last : reverse longer ≡ change ∷ reverse past = ap reverse (pushed ∙ ap (λ (first : List Change). first ++ change ∷ []) same) ∙ reverse-append past (change ∷ []) in
    let earlier : disk_before change (put change.name entry disk) ≡ disk =
    ap (λ (there : Entry). put change.name (entry_before change.act there) (put change.name entry disk)) (put_there change.name entry disk)
    ∙ ap (λ (was : Entry). put change.name was (put change.name entry disk)) before
    ∙ put_back change.name entry disk in
    rw (last, is) (ap (λ (was : Disk). put change.name entry disk ∷ disks_of was (reverse past)) earlier)

-- what is owed after a slot was written
pub owed_by-set : (slots : List Slot) (i : ℕ) (slot' d : Slot) → i < length slots
    → owed_by (set slots i slot') + owed_of (slice_index_or slots i d).held ≡ owed_by slots + owed_of slot'.held
owed_by-set [] i slot' d within = absurd (omega arith)
owed_by-set (slot ∷ slots) zero slot' d within = omega arith
owed_by-set (slot ∷ slots) (suc i) slot' d within = omega (arith, owed_by-set slots i slot' d (omega arith))

-- and after one was added
pub owed_by-push : (slots : List Slot) (slot' : Slot) → owed_by (slots ++ slot' ∷ []) ≡ owed_by slots + owed_of slot'.held
owed_by-push [] slot' = omega arith
owed_by-push (slot ∷ slots) slot' = omega (arith, owed_by-push slots slot')
