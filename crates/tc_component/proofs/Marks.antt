-- The laws of directories in memory: the slots that bytes are, the marks before them, and the loop that reads both.
use Rattle.std.proofs.Common.{◌≡◌, ◌∙◌, ◌<◌, ◌≤◌, ◌+◌, ◌-◌, ◌*◌, ◌&&◌, nat_le, ℕ, zero, suc, Bool, true, false, if◌then◌else◌, List, [], ◌∷◌, ◌++◌, Option, None, Some, length, take, drop, get_or, slice_get, refl, sym, ap, subst, arith, length-append}
use Rattle.std.specs.Int.{w32, w64, from_be_bytes}
use Rattle.std.specs.List.{AllByRecursion}
use Rattle.std.proofs.lemmas.Bool.Decides.{nat_tests}
use Rattle.std.proofs.lemmas.List.{drop-drop, nil_from_length}
use Rattle.std.proofs.lemmas.Nat.{from_be_bytes-to_be_bytes_4, from_be_bytes-to_be_bytes_8}
use Rattle.tc_bytes.specs.Codec.{IsBytes}
use Rattle.tc_bytes.specs.Reading.{◌>>=◌, elements_at, ended}
use Rattle.tc_bytes.proofs.Lists.{elements_none, elements_refused, elements_more}
use Rattle.tc_component.specs.declared.head.Sizes.{Sizes}
use Rattle.tc_component.specs.declared.slot.Slot.{Slot}
use Rattle.tc_component.specs.Columns.{front_slot, slots_in, AreMarks, IsMarked, AreHeld}
use Rattle.tc_component.specs.Layout.{number_end, mark_step}
use Rattle.tc_component.specs.Spelling.{slot_bytes, directory, lengths_of, IsSlot}
use Rattle.tc_component.specs.Reading.{slot_at, next_key, follows, is_total, directory_read}
use Rattle.tc_component.proofs.Directories.{next_pushed, lengths_pushed, both_tests, directory_found}
use Rattle.tc_component.proofs.Written.{directory_length}

-- ---- the slots that bytes are

front_spelled : (s : Slot) (rest : List ℕ) → IsSlot s → front_slot (slot_bytes s ++ rest) ≡ s
front_spelled s rest is =
    let key : from_be_bytes w64 (slot_bytes s ++ rest) ≡ s.key = from_be_bytes-to_be_bytes_8 s.key (let below = is.key in omega arith) in
    let bytes : from_be_bytes w32 (drop 8 (slot_bytes s ++ rest)) ≡ s.length = from_be_bytes-to_be_bytes_4 s.length is.fits in
    rw (key, bytes) refl

-- the bytes of a directory are its slots
pub slots_spelled : (slots : List Slot) → AllByRecursion IsSlot slots → slots_in (length slots) (directory slots) ≡ slots
slots_spelled [] each = refl
slots_spelled (s ∷ slots) each =
    ap (λ (t : Slot). t ∷ slots_in (length slots) (directory slots)) (front_spelled s (directory slots) each.0) ∙ ap (λ (more : List Slot). s ∷ more) (slots_spelled slots each.1)

pub slots_length : (n : ℕ) (bytes : List ℕ) → length (slots_in n bytes) ≡ n
slots_length zero bytes = refl
slots_length (suc n) bytes = ap suc (slots_length n (drop 12 bytes))

pub slot_here : (n i : ℕ) (bytes : List ℕ) → i < n → slice_get (slots_in n bytes) i ≡ Some (front_slot (drop (i * 12) bytes))
slot_here zero i bytes within = absurd (omega (arith, within))
slot_here (suc n) zero bytes within = refl
slot_here (suc n) (suc i) bytes within =
    let next : 12 + i * 12 ≡ suc i * 12 = omega arith in
    slot_here n i (drop 12 bytes) (omega (arith, within)) ∙ ap (λ (rest : List ℕ). Some (front_slot rest)) (drop-drop (i * 12) 12 bytes ∙ ap (λ (k : ℕ). drop k bytes) next)

-- ---- marks

pub first_mark : AreMarks (0 ∷ []) []
first_mark = record { more = omega arith; most = omega arith; each = first }
  where
    first : (i : ℕ) → i * mark_step ≤ 0 → get_or (0 ∷ []) i 0 ≡ lengths_of (take (i * mark_step) [])
    first zero within = refl
    first (suc i) within = absurd (omega (arith, within))

-- ---- reading

-- what stands after so many slots were read
pub record SlotsRead (count records index low end : ℕ) (bytes rest marks : List ℕ) : Type 0 where
  pub slots : List Slot
  pub count_is : length slots ≡ index
  pub low_is : low ≡ next_key slots
  pub end_is : end ≡ lengths_of slots
  pub within : end ≤ records
  pub marks_are : AreMarks marks slots
  pub same : directory_read count records [] bytes ≡ directory_read (count - index) records slots rest

pub none_read : (count records : ℕ) (bytes : List ℕ) → SlotsRead count records 0 0 0 bytes bytes (0 ∷ [])
none_read count records bytes =
    let all : count - 0 ≡ count = omega arith in
    record { slots = []; count_is = refl; low_is = refl; end_is = refl; within = omega arith; marks_are = first_mark; same = rw all refl }

one_more_slot : (slots : List Slot) (s : Slot) → length (slots ++ s ∷ []) ≡ length slots + 1
one_more_slot slots s = length-append slots (s ∷ [])

tested : (records low end : ℕ) (slots : List Slot) (s : Slot) (b : Bool) → low ≡ next_key slots → end ≡ lengths_of slots → (nat_le low s.key && nat_le (end + s.length) records) ≡ b → follows records slots s ≡ b
tested records low end slots s b low_is end_is test = rw (← low_is, ← end_is) test

pub one_read : (count records index low end : ℕ) (bytes rest marks : List ℕ) (s : Slot) (behind next : List ℕ) → (is : SlotsRead count records index low end bytes rest marks) → index < count
    → slot_at rest ≡ Some (s, behind) → (nat_le low s.key && nat_le (end + s.length) records) ≡ true → AreMarks next (is.slots ++ s ∷ [])
    → SlotsRead count records (index + 1) (s.key + 1) (end + s.length) bytes behind next
one_read count records index low end bytes rest marks s behind next is more read test marks_are =
    let left : count - index - 1 ≡ count - (index + 1) = omega arith in
    let step : elements_at (follows records) slot_at (count - index) is.slots rest ≡ elements_at (follows records) slot_at (count - (index + 1)) (is.slots ++ s ∷ []) behind =
    subst (λ (n : ℕ). elements_at (follows records) slot_at (count - index) is.slots rest ≡ elements_at (follows records) slot_at n (is.slots ++ s ∷ []) behind) left
    (elements_more (follows records) slot_at (count - index) is.slots rest s behind (omega arith) read (tested records low end is.slots s true is.low_is is.end_is test)) in
    record {
      slots = is.slots ++ s ∷ [];
      count_is = omega (arith, one_more_slot is.slots s, is.count_is);
      low_is = sym (next_pushed is.slots s);
      end_is = omega (arith, is.end_is, lengths_pushed is.slots s);
      within = (both_tests low s.key (end + s.length) records test).1;
      marks_are = marks_are;
      same = is.same ∙ ap (λ (o : Option (List Slot × List ℕ)). o >>= ended >>= λ read. if is_total records read then Some read else None) step;
    }

-- where no slot stands, or one that may not follow, there is no directory
pub no_slot : (count records index low end : ℕ) (bytes rest marks : List ℕ) → SlotsRead count records index low end bytes rest marks → index < count → slot_at rest ≡ None → directory_read count records [] bytes ≡ None
no_slot count records index low end bytes rest marks is more none =
    is.same ∙ ap (λ (o : Option (List Slot × List ℕ)). o >>= ended >>= λ read. if is_total records read then Some read else None)
    (elements_none (follows records) slot_at (count - index) is.slots rest (omega arith) none)

pub slot_refused : (count records index low end : ℕ) (bytes rest marks : List ℕ) (s : Slot) (behind : List ℕ) → SlotsRead count records index low end bytes rest marks → index < count
    → slot_at rest ≡ Some (s, behind) → (nat_le low s.key && nat_le (end + s.length) records) ≡ false → directory_read count records [] bytes ≡ None
slot_refused count records index low end bytes rest marks s behind is more read test =
    is.same ∙ ap (λ (o : Option (List Slot × List ℕ)). o >>= ended >>= λ read. if is_total records read then Some read else None)
    (elements_refused (follows records) slot_at (count - index) is.slots rest s behind (omega arith) read (tested records low end is.slots s false is.low_is is.end_is test))

-- after the last slot
at_end : (records : ℕ) (slots : List Slot) (n : ℕ) (rest : List ℕ) → n ≡ 0 → directory_read n records slots rest ≡ directory_read 0 records slots rest
at_end records slots n rest none = ap (λ (m : ℕ). directory_read m records slots rest) none

pub all_read : (sizes : Sizes) (index low end : ℕ) (bytes rest marks : List ℕ) → SlotsRead sizes.entries sizes.records index low end bytes rest marks → sizes.entries ≤ index → length rest ≡ 0 → end ≡ sizes.records → IsBytes bytes
    → IsMarked sizes bytes marks
all_read sizes index low end bytes rest marks is done none all each =
    let total : is_total sizes.records is.slots ≡ true = let e = is.end_is in grind (arith, nat_tests) in
    let read : directory_read sizes.entries sizes.records [] bytes ≡ Some is.slots =
    is.same ∙ at_end sizes.records is.slots (sizes.entries - index) rest (omega arith) ∙ ap (directory_read 0 sizes.records is.slots) (nil_from_length rest none) ∙ rw total refl in
    record { slots = is.slots; read = read; found = directory_found sizes.entries sizes.records bytes is.slots each read; marks_are = is.marks_are }

-- ---- a directory that was read

-- the slots that the bytes of a directory are, and what is known of them
pub read_slots : (sizes : Sizes) (bytes marks : List ℕ) → (is : IsMarked sizes bytes marks) → slots_in sizes.entries bytes ≡ is.slots
read_slots sizes bytes marks is =
    ap (λ (n : ℕ). slots_in n bytes) (sym is.found.count_is) ∙ ap (slots_in (length is.slots)) is.found.spelled ∙ slots_spelled is.slots is.found.each

pub marked_held : (sizes : Sizes) (bytes marks : List ℕ) → sizes.records < number_end → IsMarked sizes bytes marks → AreHeld sizes.entries bytes marks (slots_in sizes.entries bytes)
marked_held sizes bytes marks short is =
    subst (AreHeld sizes.entries bytes marks) (sym (read_slots sizes bytes marks is)) (record {
      sized = ap length is.found.spelled ∙ directory_length is.slots ∙ ap (λ (n : ℕ). n * 12) is.found.count_is;
      each = is.found.each;
      ascend = is.found.ascend;
      short = omega (arith, is.found.sum, short);
      marks_are = is.marks_are;
    })
