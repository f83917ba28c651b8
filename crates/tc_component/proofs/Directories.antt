-- The laws of directories: each is read from its spelling alone.
use Rattle.std.proofs.Common.{◌≡◌, ◌∙◌, ◌<◌, ◌≤◌, ◌+◌, ◌⊎◌, ℕ, Bool, true, false, if◌then◌else◌, List, [], ◌∷◌, ◌++◌, Option, None, Some, IsTrue, Less, nat_le, ◌&&◌, length, map, refl, sym, ap, subst, arith, inl, inr, rules}
use Rattle.std.specs.List.{AllByRecursion}
use Rattle.std.specs.List.Sorted.{IsStrictlySortedBy}
use Rattle.std.specs.Ordering.{nat_cmp}
use Rattle.std.specs.Cmp.{nat_cmp_is}
use Rattle.std.proofs.lemmas.Bool.Decides.{nat_tests}
use Rattle.std.proofs.lemmas.List.Sums.{sum_by-append, sum_by_push}
use Rattle.std.proofs.lemmas.Map.Keys.{below_from_sorted}
use Rattle.tc_bytes.specs.Codec.{IsBytes, IsCodec, MayFollow}
use Rattle.tc_bytes.specs.Reading.{◌>>=◌, elements_at, whole}
use Rattle.tc_bytes.proofs.Codecs.{then_parts, restated_codec, mapped_codec, passing_codec, pair_codec}
use Rattle.tc_bytes.proofs.Fields.{number_codec_32, number_codec_64}
use Rattle.tc_bytes.proofs.Lists.{elements_codec}
use Rattle.tc_bytes.proofs.Whole.{whole_found, whole_again}
use Rattle.tc_component.specs.Found.{DirectoryFound}
use Rattle.tc_component.specs.declared.slot.Slot.{Slot}
use Rattle.tc_component.specs.Layout.{number_end, least_record}
use Rattle.tc_component.specs.Spelling.{slot, slot_bytes, directory, lengths_of, IsSlot, Ascend}
use Rattle.tc_component.specs.Reading.{is_key, is_length, slot_at, next_key, follows, is_total, directory_read}

-- ---- slots

key_is : (key : ℕ) → is_key key ≡ true → key < number_end
key_is key is = grind (arith, nat_tests)

key_test : (key : ℕ) → key < number_end → is_key key ≡ true
key_test key below = grind (arith, nat_tests)

length_is : (n : ℕ) → is_length n ≡ true → (n ≡ 0) ⊎ (least_record ≤ n)
length_is n is = grind (arith, nat_tests)

length_test : (n : ℕ) → (n ≡ 0) ⊎ (least_record ≤ n) → is_length n ≡ true
length_test n (inl none) = grind (arith, nat_tests)
length_test n (inr some) = grind (arith, nat_tests)

slot_codec : IsCodec slot_at slot_bytes IsSlot
slot_codec = restated_codec
    (λ s fits. record { key = key_is s.key fits.0.0.1; fits = fits.0.1.0; length = length_is s.length fits.0.1.1 })
    (λ s is. ((((let key = is.key in omega arith), key_test s.key is.key), (is.fits, length_test s.length is.length)), refl))
    (mapped_codec (λ x. slot x.0 x.1) (λ s. (s.key, s.length)) (λ x fits. refl) (pair_codec (passing_codec is_key number_codec_64) (λ key fits. passing_codec is_length number_codec_32)))

-- ---- order

-- keys ascend strictly from this one on
AscendFrom : ℕ → List Slot → Type 0
AscendFrom low [] = Unit {0}
AscendFrom low (s ∷ slots) = (low ≤ s.key) × AscendFrom (s.key + 1) slots

pub next_pushed : (before : List Slot) (s : Slot) → next_key (before ++ s ∷ []) ≡ s.key + 1
next_pushed [] s = refl
next_pushed (t ∷ []) s = refl
next_pushed (t ∷ u ∷ before) s = next_pushed (u ∷ before) s

pub lengths_pushed : (before : List Slot) (s : Slot) → lengths_of (before ++ s ∷ []) ≡ lengths_of before + s.length
lengths_pushed before s = sum_by_push (λ (t : Slot). t.length) before s

is_true : (b : Bool) → IsTrue b → b ≡ true
is_true true h = refl
is_true false h = absurd (search (rules, h))

pub both_tests : (low key total count : ℕ) → (nat_le low key && nat_le total count) ≡ true → (low ≤ key) × (total ≤ count)
both_tests low key total count is = grind (arith, nat_tests)

tests_both : (low key total count : ℕ) → low ≤ key → total ≤ count → (nat_le low key && nat_le total count) ≡ true
tests_both low key total count one two = grind (arith, nat_tests)

ascend_from : (records : ℕ) (before slots : List Slot) → MayFollow (follows records) before slots → AscendFrom (next_key before) slots
unfolding AscendFrom
ascend_from records before [] each = tt
ascend_from records before (s ∷ slots) each =
    let here = both_tests (next_key before) s.key (lengths_of before + s.length) records (is_true _ each.0) in
    (here.0, subst (λ (low : ℕ). AscendFrom low slots) (next_pushed before s) (ascend_from records (before ++ s ∷ []) slots each.1))

may_follow : (records : ℕ) (before slots : List Slot) → AscendFrom (next_key before) slots → lengths_of before + lengths_of slots ≤ records → MayFollow (follows records) before slots
unfolding AscendFrom
may_follow records before [] each within = tt
may_follow records before (s ∷ slots) each within =
    let all : lengths_of (s ∷ slots) ≡ lengths_of (s ∷ []) + lengths_of slots = sum_by-append (λ (t : Slot). t.length) (s ∷ []) slots in
    let test : follows records before s ≡ true = tests_both (next_key before) s.key (lengths_of before + s.length) records each.0 (omega (arith, all, within)) in
    (search (rules, test), may_follow records (before ++ s ∷ []) slots (subst (λ (low : ℕ). AscendFrom low slots) (sym (next_pushed before s)) each.1) (omega (arith, all, within, lengths_pushed before s)))

all_above : (key low : ℕ) (slots : List Slot) → key < low → AscendFrom low slots → AllByRecursion (λ y. nat_cmp key y ≡ Less) (map (λ (s : Slot). s.key) slots)
unfolding AscendFrom
all_above key low [] below each = tt
all_above key low (s ∷ slots) below each =
    let first : key < s.key = omega (arith, below, each.0) in
    (sym (nat_cmp_is key s.key Less first), all_above key (s.key + 1) slots (omega (arith, first)) each.1)

ascend : (low : ℕ) (slots : List Slot) → AscendFrom low slots → Ascend slots
unfolding AscendFrom IsStrictlySortedBy
ascend low [] each = tt
ascend low (s ∷ slots) each = (all_above s.key (s.key + 1) slots (omega arith) each.1, ascend (s.key + 1) slots each.1)

-- the first key is no lower
StartsFrom : ℕ → List Slot → Type 0
StartsFrom low [] = Unit {0}
StartsFrom low (s ∷ slots) = low ≤ s.key

ascends_from : (low : ℕ) (slots : List Slot) → StartsFrom low slots → Ascend slots → AscendFrom low slots
unfolding AscendFrom StartsFrom IsStrictlySortedBy
ascends_from low [] starts sorted = tt
ascends_from low (s ∷ slots) starts sorted = (starts, ascends_from (s.key + 1) slots (next slots sorted) sorted.1)
  where
    next : (slots : List Slot) → Ascend (s ∷ slots) → StartsFrom (s.key + 1) slots
    next [] sorted = tt
    next (t ∷ slots) sorted = let below = below_from_sorted (map (λ (u : Slot). u.key) (s ∷ t ∷ slots)) 0 1 0 sorted (omega arith) (omega arith) in omega (arith, below)

-- ---- whole directories

total_parts : (records : ℕ) (read slots : List Slot) → (if is_total records read then Some read else None) ≡ Some slots → (read ≡ slots) × (lengths_of read ≡ records)
total_parts records read slots gives = grind (arith, nat_tests)

total_again : (records : ℕ) (slots : List Slot) → lengths_of slots ≡ records → (if is_total records slots then Some slots else None) ≡ Some slots
total_again records slots sum = grind (arith, nat_tests)

pub directory_found : (count records : ℕ) (bytes : List ℕ) (slots : List Slot) → IsBytes bytes → directory_read count records [] bytes ≡ Some slots → DirectoryFound count records bytes slots
directory_found count records bytes slots each gives =
    let parts = then_parts (whole (elements_at (follows records) slot_at count []) bytes) _ slots gives in
    let total = total_parts records parts.0 slots parts.2 in
    let here = whole_found (elements_codec (follows records) count slot_codec) bytes parts.0 each parts.1 in
    subst (DirectoryFound count records bytes) total.0
    (record { spelled = here.0; count_is = here.1.0; each = here.1.1; ascend = ascend 0 parts.0 (ascend_from records [] parts.0 here.1.2); sum = total.1 })

pub directory_again : (records : ℕ) (slots : List Slot) → AllByRecursion IsSlot slots → Ascend slots → lengths_of slots ≡ records → directory_read (length slots) records [] (directory slots) ≡ Some slots
unfolding StartsFrom
directory_again records slots each sorted sum =
    let order = may_follow records [] slots (ascends_from 0 slots (starts slots) sorted) (omega (arith, sum)) in
    ap (λ (o : Option (List Slot)). o >>= λ read. if is_total records read then Some read else None) (whole_again (elements_codec (follows records) (length slots) slot_codec) slots (refl, each, order))
    ∙ total_again records slots sum
  where
    starts : (slots : List Slot) → StartsFrom 0 slots
    starts [] = tt
    starts (s ∷ slots) = omega arith
