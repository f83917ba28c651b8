-- What stands at a place of a directory, and what is found in it.
use Rattle.std.proofs.Common.{◌≡◌, ◌≢◌, ◌<◌, ◌≤◌, ◌+◌, ◌-◌, ℕ, zero, suc, List, [], ◌∷◌, Some, length, map, take, get_or, slice_get, refl, ap, arith, inl, inr}
use Rattle.std.specs.List.{AllByRecursion}
use Rattle.std.proofs.lemmas.Bool.{cases_lt}
use Rattle.std.proofs.lemmas.Map.Keys.{non_decreasing_from_sorted}
use Rattle.std.proofs.lemmas.List.{length-map}
use Rattle.std.proofs.lemmas.List.Sums.{sum_by-append}
use Rattle.tc_component.specs.declared.slot.Slot.{Slot}
use Rattle.tc_component.specs.Spelling.{lengths_of, IsSlot, Ascend}

pub one_more : (s : Slot) (slots : List Slot) → lengths_of (s ∷ slots) ≡ s.length + lengths_of slots
one_more s slots = let one : lengths_of (s ∷ []) ≡ 0 + s.length = refl in omega (arith, one, sum_by-append (λ (t : Slot). t.length) (s ∷ []) slots)

-- the slot at a place
pub record There (slots : List Slot) (i : ℕ) : Type 0 where
  pub slot : Slot
  pub here : slice_get slots i ≡ Some slot
  pub length : lengths_of (take (suc i) slots) ≡ lengths_of (take i slots) + slot.length
  pub is : IsSlot slot

pub there : (slots : List Slot) (i : ℕ) → AllByRecursion IsSlot slots → i < length slots → There slots i
there [] i each within = absurd (omega (arith, within))
there (s ∷ slots) zero each within = record { slot = s; here = refl; length = refl; is = each.0 }
there (s ∷ slots) (suc i) each within =
    let rest = there slots i each.1 (omega (arith, within)) in
    record {
      slot = rest.slot;
      here = rest.here;
      length = omega (arith, rest.length, one_more s (take (suc i) slots), one_more s (take i slots));
      is = rest.is;
    }

-- the key of the slot at a place
pub key_there : (slots : List Slot) (i : ℕ) (s : Slot) → slice_get slots i ≡ Some s → (i < length slots) × (get_or (map (λ (t : Slot). t.key) slots) i 0 ≡ s.key)
key_there [] i s at = absurd (cc)
key_there (t ∷ slots) zero s at = let same : t ≡ s = cc in (omega arith, ap (λ (u : Slot). u.key) same)
key_there (t ∷ slots) (suc i) s at = let rest = key_there slots i s at in (omega (arith, rest.0), rest.1)

-- where all keys before a place are less than a key, and all others greater, no slot has it
pub none_there : (slots : List Slot) (key i : ℕ) → ((k : ℕ) → k < i → get_or (map (λ (t : Slot). t.key) slots) k 0 < key)
    → ((k : ℕ) → i ≤ k → k < length slots → key < get_or (map (λ (t : Slot). t.key) slots) k 0)
    → (at : ℕ) (s : Slot) → slice_get slots at ≡ Some s → s.key ≢ key
none_there slots key i less greater at s here same =
    let found = key_there slots at s here in
    elim (cases_lt at i) [
      | inl before ↦ absurd (omega (arith, less at before, found.1, same))
      | inr behind ↦ absurd (omega (arith, greater at behind found.0, found.1, same))
    ]

-- a record ends no later than all of them
pub within_all : (slots : List Slot) (i : ℕ) (s : Slot) → slice_get slots i ≡ Some s → lengths_of (take i slots) + s.length ≤ lengths_of slots
within_all [] i s at = absurd (cc)
within_all (t ∷ slots) zero s at = let same : t ≡ s = cc in omega (arith, one_more t slots, ap (λ (u : Slot). u.length) same)
within_all (t ∷ slots) (suc i) s at = omega (arith, one_more t (take i slots), one_more t slots, within_all slots i s at)

-- keys ascend, so that none is less than the first
pub above_first : (slots : List Slot) (key at : ℕ) (first s : Slot) → Ascend slots → slice_get slots 0 ≡ Some first → key < first.key → slice_get slots at ≡ Some s → s.key ≢ key
above_first slots key at first s sorted here less found same =
    let keys = map (λ (t : Slot). t.key) slots in
    let one = key_there slots 0 first here in
    let other = key_there slots at s found in
    omega (arith, less, same, one.1, other.1, non_decreasing_from_sorted keys sorted 0 at 0 (omega arith) (omega (arith, other.0, length-map slots (λ (t : Slot). t.key))))

-- nor greater than the last
pub below_last : (slots : List Slot) (key at : ℕ) (last s : Slot) → Ascend slots → slice_get slots (length slots - 1) ≡ Some last → last.key < key → slice_get slots at ≡ Some s → s.key ≢ key
below_last slots key at last s sorted here greater found same =
    let keys = map (λ (t : Slot). t.key) slots in
    let one = key_there slots (length slots - 1) last here in
    let other = key_there slots at s found in
    omega (arith, greater, same, one.1, other.1, non_decreasing_from_sorted keys sorted at (length slots - 1) 0 (omega (arith, other.0)) (omega (arith, one.0, length-map slots (λ (t : Slot). t.key))))
