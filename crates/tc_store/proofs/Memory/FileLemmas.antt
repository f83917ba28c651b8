-- The files of a store in memory that were never taken, and how they are taken and made.
use Rattle.std.proofs.Common.{◌≡◌, ℕ, zero, suc, ◌+◌, List, [], ◌∷◌, ◌++◌, false, ◌∙◌, sym, ap, subst, refl, arith, inl, inr, set}
use Rattle.std.specs.Prelude.{All, Result, Ok, Err, IfOk, None, slice_index_or}
use Rattle.std.specs.List.{remove}
use Rattle.std.proofs.Math.Path.{fun_ext}
use Rattle.std.proofs.lemmas.Bool.{cases_Bool}
use Rattle.std.proofs.lemmas.List.Elements.{All-head, All-tail}
use Rattle.tc_store.specs.declared.file_name.FileName.{FileName}
use Rattle.tc_store.specs.declared.mem.entry.Held.{Held}
use Rattle.tc_store.specs.declared.mem.entry.Held.TheVariants.{Gone, Home, Still, Out}
use Rattle.tc_store.specs.declared.mem.entry.MemFile.{MemFile}
use Rattle.tc_store.specs.declared.mem.entry.Slot.{Slot}
use Rattle.tc_store.specs.Disk.{Entry, none, home, put, same_name, IsThere, IsSettledHome}
use Rattle.tc_store.specs.DiskFile.{settled_file}
use Rattle.tc_store.specs.Memory.Disk.{entry_of, file_entry, slot_entry, disk_of, owed_of, owed_by, with_held, IsFirstSlot, IsFirstFile, PutsEntry}
use Rattle.tc_store.proofs.NameLemmas.{same_name-is}
use Rattle.tc_store.proofs.Memory.DiskLemmas.{slot_entry-none, slot_entry-first, slot_entry-push, disk_of-push, owed_by-push}
use Rattle.tc_store.proofs.Memory.SlotLemmas.{owes}

pub puts_same : (name : FileName) (entry other : Entry) (slots new : List Slot) → entry ≡ other → PutsEntry name entry slots new → PutsEntry name other slots new
puts_same name entry other slots new same puts = subst (λ (e : Entry). PutsEntry name e slots new) same puts

owed_settled : (held : Held) → IsSettledHome (entry_of held) → owed_of held ≡ 0
owed_settled (Gone bytes) is = absurd is
owed_settled (Home device) is = refl
owed_settled (Still bytes) is = absurd is
owed_settled Out is = absurd is

owed_absent : (held : Held) → (IsThere (entry_of held) → ⊥) → owed_of held ≡ 0
owed_absent (Gone bytes) is = refl
owed_absent (Home device) is = absurd (is tt)
owed_absent (Still bytes) is = absurd (is tt)
owed_absent Out is = absurd (is tt)

owes_more : (slots new : List Slot) (name : FileName) (at : ℕ) (held was : Held) → IsFirstSlot slots name at
    → ((d : Slot) → new ≡ set slots at (with_held (slice_index_or slots at d) held)) → ((d : Slot) → was ≡ (slice_index_or slots at d).held)
    → owed_of was ≡ 0 → owed_by new ≡ owed_by slots + owed_of held
owes_more slots new name at held was first wrote is nothing = omega (arith, owes slots new name at held was first wrote is, nothing)

pub owes_taken : (slots new : List Slot) (name : FileName) (at : ℕ) (held was : Held) → IsFirstSlot slots name at
    → ((d : Slot) → new ≡ set slots at (with_held (slice_index_or slots at d) held)) → ((d : Slot) → was ≡ (slice_index_or slots at d).held)
    → ((d : Slot) → IsSettledHome (entry_of (slice_index_or slots at d).held)) → owed_by new ≡ owed_by slots + owed_of held
owes_taken slots new name at held was first wrote is settled =
    let d : Slot = record { name = name; held = held } in
    owes_more slots new name at held was first wrote is (owed_settled was (subst (λ (h : Held). IsSettledHome (entry_of h)) (sym (is d)) (settled d)))

pub owes_made : (slots new : List Slot) (name : FileName) (at : ℕ) (held was : Held) → IsFirstSlot slots name at
    → ((d : Slot) → new ≡ set slots at (with_held (slice_index_or slots at d) held)) → ((d : Slot) → was ≡ (slice_index_or slots at d).held)
    → ((at : ℕ) (d : Slot) → IsFirstSlot slots name at → IsThere (entry_of (slice_index_or slots at d).held) → ⊥) → owed_by new ≡ owed_by slots + owed_of held
owes_made slots new name at held was first wrote is absent =
    let d : Slot = record { name = name; held = held } in
    owes_more slots new name at held was first wrote is (owed_absent was (subst (λ (h : Held). IsThere (entry_of h) → ⊥) (sym (is d)) (absent at d first)))

-- a slot that was added
pub puts_new : (slots new : List Slot) (slot' : Slot) → All (λ slot. same_name slot.name slot'.name ≡ false) slots → new ≡ slots ++ slot' ∷ []
    → PutsEntry slot'.name (entry_of slot'.held) slots new
puts_new slots new slot' free pushed = record { puts = λ files. ap (disk_of files) pushed ∙ disk_of-push files slots slot' free }

pub owes_new : (slots new : List Slot) (slot' : Slot) → new ≡ slots ++ slot' ∷ [] → owed_by new ≡ owed_by slots + owed_of slot'.held
owes_new slots new slot' pushed = ap owed_by pushed ∙ owed_by-push slots slot'

-- a name that no file has
pub file_entry-none : (files : List MemFile) (name : FileName) → All (λ file. same_name file.name name ≡ false) files → file_entry files name ≡ none None
file_entry-none [] name free = refl
file_entry-none (file ∷ files) name free =
    let head : same_name file.name name ≡ false = All-head (λ file. same_name file.name name ≡ false) file files free in
    rw head (file_entry-none files name (All-tail (λ file. same_name file.name name ≡ false) file files free))

-- the entry of a name that is not there
file_entry-absent : (files : List MemFile) (name : FileName) → (IsThere (file_entry files name) → ⊥) → file_entry files name ≡ none None
file_entry-absent [] name absent = refl
file_entry-absent (file ∷ files) name absent = elim (cases_Bool (same_name file.name name)) [
  | inl this ↦ absurd (absent (rw this tt))
  | inr other ↦ rw other (file_entry-absent files name (rw other at absent))
]

pub absent_entry : (files : List MemFile) (slots : List Slot) (name : FileName) → All (λ slot. same_name slot.name name ≡ false) slots
    → (IsThere (disk_of files slots name) → ⊥) → disk_of files slots name ≡ none None
absent_entry files slots name free absent =
    let is : disk_of files slots name ≡ file_entry files name = slot_entry-none slots (file_entry files name) name free in
    is ∙ file_entry-absent files name (subst (λ (entry : Entry). IsThere entry → ⊥) is absent)

first_file_tail : (file : MemFile) (files : List MemFile) (name : FileName) (i : ℕ) → IsFirstFile (file ∷ files) name (suc i) → IsFirstFile files name i
first_file_tail file files name i is = record {
  within = omega (arith, is.within);
  same = λ d. is.same d;
  first = λ k d before. is.first (suc k) d (omega arith);
}

-- the entry of a file
pub file_entry-first : (files : List MemFile) (name : FileName) (i : ℕ) (d : MemFile) → IsFirstFile files name i
    → file_entry files name ≡ home (settled_file (slice_index_or files i d).bytes)
file_entry-first [] name i d is = absurd (omega (arith, is.within))
file_entry-first (file ∷ files) name zero d is = rw (is.same d)
file_entry-first (file ∷ files) name (suc i) d is =
    rw (is.first zero d (omega arith)) (file_entry-first files name i d (first_file_tail file files name i is))

-- the entries of other names after a file left
file_entry-remove : (files : List MemFile) (name : FileName) (i : ℕ) (n : FileName) → IsFirstFile files name i → same_name name n ≡ false
    → file_entry (remove files i) n ≡ file_entry files n
file_entry-remove [] name i n is other = absurd (omega (arith, is.within))
file_entry-remove (file ∷ files) name zero n is other =
    let named : file.name ≡ name = same_name-is file.name name (is.same file) in
    let apart : same_name file.name n ≡ false = ap (λ (m : FileName). same_name m n) named ∙ other in
    rw apart
file_entry-remove (file ∷ files) name (suc i) n is other = elim (cases_Bool (same_name file.name n)) [
  | inl this ↦ rw this
  | inr off ↦ rw off (file_entry-remove files name i n (first_file_tail file files name i is) other)
]

-- a file that was never taken leaves, and a slot comes in its place
pub take_file_puts : (files left : List MemFile) (slots new : List Slot) (slot' : Slot) (at : ℕ) (entry : Entry) → IsFirstFile files slot'.name at
    → All (λ slot. same_name slot.name slot'.name ≡ false) slots → left ≡ remove files at → new ≡ slots ++ slot' ∷ [] → entry_of slot'.held ≡ entry
    → disk_of left new ≡ put slot'.name entry (disk_of files slots)
take_file_puts files left slots new slot' at entry first free gone pushed is = rw (gone, pushed, ← is) (fun_ext λ n.
    slot_entry-push slots (file_entry (remove files at) n) slot' n free ∙ elim (cases_Bool (same_name slot'.name n)) [
      | inl this ↦ rw this
      | inr other ↦ rw other (ap (λ (rest : Entry). slot_entry slots rest n) (file_entry-remove files slot'.name at n first other))
    ])

-- the slot and the file of a settled name are settled
pub settled_slot : (files : List MemFile) (slots : List Slot) (name : FileName) (at : ℕ) → IsFirstSlot slots name at → IsSettledHome (disk_of files slots name)
    → (d : Slot) → IsSettledHome (entry_of (slice_index_or slots at d).held)
settled_slot files slots name at first settled d = subst IsSettledHome (slot_entry-first slots (file_entry files name) name at d first) settled

pub absent_slot : (files : List MemFile) (slots : List Slot) (name : FileName) → (IsThere (disk_of files slots name) → ⊥)
    → (at : ℕ) (d : Slot) → IsFirstSlot slots name at → IsThere (entry_of (slice_index_or slots at d).held) → ⊥
absent_slot files slots name absent at d first there = absent (subst IsThere (sym (slot_entry-first slots (file_entry files name) name at d first)) there)

pub no_slot : (files : List MemFile) (slots : List Slot) (name : FileName) → All (λ slot. same_name slot.name name ≡ false) slots → disk_of files slots name ≡ file_entry files name
no_slot files slots name free = slot_entry-none slots (file_entry files name) name free

pub at_slot : (files : List MemFile) (slots : List Slot) (name : FileName) (at : ℕ) (bytes : List ℕ) → IsFirstSlot slots name at
    → ((d : Slot) → entry_of (slice_index_or slots at d).held ≡ home (settled_file bytes)) → disk_of files slots name ≡ home (settled_file bytes)
at_slot files slots name at bytes first was =
    let d : Slot = record { name = name; held = Out } in slot_entry-first slots (file_entry files name) name at d first ∙ was d

-- what follows from the value of an `Ok`
pub map_ok : {T E : Type 0} (P Q : T → Type 0) (r : Result T E) → ((x : T) → P x → Q x) → IfOk r P → IfOk r Q
map_ok P Q (Ok x) give p = give x p
map_ok P Q (Err e) give p = tt

-- a file that was never taken is there
pub there_by : (files : List MemFile) (slots : List Slot) (name : FileName) (at : ℕ) → All (λ slot. same_name slot.name name ≡ false) slots → IsFirstFile files name at
    → IsThere (disk_of files slots name)
there_by files slots name at free first =
    let d : MemFile = record { name = name; bytes = [] } in
    rw (no_slot files slots name free, file_entry-first files name at d first) tt
