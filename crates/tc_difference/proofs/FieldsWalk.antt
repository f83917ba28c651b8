-- The walk over two lists of fields at once, by ascending number.
use Rattle.std.proofs.Common.{◌≡◌, ◌≢◌, ◌⊎◌, inl, inr, ℕ, ◌+◌, ◌<◌, ◌≤◌, ◌==◌, Bool, true, false, List, Option, Some, length, min, if◌then◌else◌, refl, sym, ◌∙◌, subst, arith}
use Rattle.std.proofs.lemmas.Bool.{cases_lt, false≢true}
use Rattle.std.proofs.lemmas.Bool.Decides.{Decides-eqb, nat_tests}
use Rattle.std.proofs.lemmas.Option.{same_Some}
use Rattle.tc_model.specs.Document.{Name}
use Rattle.tc_schema_model.specs.Counted.{Counted, nothing, Fields, no_fields, a_field, field_at, AreFieldsCanonical}
use Rattle.tc_schema_model.proofs.FieldLaws.{fields_ordered, nothing_below}
use Rattle.tc_difference.specs.declared.met.Candidate.{Candidate}
use Rattle.tc_difference.specs.Comparing.{IsLeastBelow}
use Rattle.tc_difference.specs.Fronts.{front_of, lesser, place_in_front, after_front}
use Rattle.tc_difference.proofs.LeastField.{up_to}
use Rattle.tc_difference.proofs.PlaceSizes.{places_below, field_places}

-- ---- one list, where no number is below this one

-- the field of this number is in front, if it is there
pub in_front : (limit n : ℕ) (fs : Fields) → AreFieldsCanonical limit n fs → field_at n fs ≡ place_in_front n fs
in_front limit n no_fields canonical = refl
in_front limit n (a_field m d fs) canonical = first n m d fs canonical.0
  where
    first : (n m : ℕ) (d : Counted) (fs : Fields) → n ≤ m → field_at n (a_field m d fs) ≡ place_in_front n (a_field m d fs)
    first n m d fs le = grind (arith, nat_tests)

-- after it the numbers are greater
after_canonical : (limit n : ℕ) (fs : Fields) → AreFieldsCanonical limit n fs → AreFieldsCanonical limit (n + 1) (after_front n fs)
after_canonical limit n no_fields canonical = tt
after_canonical limit n (a_field m d fs) canonical = by (m == n) (Decides-eqb m n)
  where
    by : (same : Bool) → (same ≡ true → m ≡ n) × (m ≡ n → same ≡ true) → AreFieldsCanonical limit (n + 1) (if same then fs else a_field m d fs)
    by true decides = subst (λ k. AreFieldsCanonical limit (k + 1) fs) (decides.0 refl) canonical.4
    by false decides =
        let apart : m ≢ n = λ same. false≢true (decides.1 same) in
        (omega (arith, canonical.0, apart), canonical.1, canonical.2, canonical.3, canonical.4)

-- and nothing else was taken
after_left : (n k : ℕ) (fs : Fields) → n < k → field_at k (after_front n fs) ≡ field_at k fs
after_left n k no_fields less = refl
after_left n k (a_field m d fs) less = first n k m d fs less
  where
    first : (n k m : ℕ) (d : Counted) (fs : Fields) → n < k → field_at k (after_front n (a_field m d fs)) ≡ field_at k (a_field m d fs)
    first n k m d fs less = grind (arith, nat_tests)

-- one if the field of this number is in front
abbrev if_in_front : ℕ → Fields → ℕ
if_in_front n no_fields = 0
if_in_front n (a_field m d fs) = if m == n then 1 else 0

front_places : (n : ℕ) (fs : Fields) → places_below (place_in_front n fs) + field_places (after_front n fs) + if_in_front n fs ≡ field_places fs
front_places n no_fields = refl
front_places n (a_field m d fs) = by (m == n)
  where
    by : (same : Bool) → places_below (if same then d else nothing) + field_places (if same then fs else a_field m d fs) + (if same then 1 else 0) ≡ 1 + places_below d + field_places fs
    by true = omega arith
    by false = omega arith

-- ---- both lists

-- the next number is that of a field, and none is below it
pub record IsNext (limit low : ℕ) (fs gs : Fields) (n : ℕ) : Type 0 where
  pub from : low ≤ n
  pub within : n < limit
  pub kept : AreFieldsCanonical limit n fs
  pub counted : AreFieldsCanonical limit n gs
  pub there : 1 ≤ if_in_front n fs + if_in_front n gs

one_there : (n : ℕ) (d : Counted) (fs : Fields) → if_in_front n (a_field n d fs) ≡ 1
one_there n d fs = grind (arith, nat_tests)

next_number : (limit low : ℕ) (fs gs : Fields) (n : ℕ) → AreFieldsCanonical limit low fs → AreFieldsCanonical limit low gs → lesser (front_of fs) (front_of gs) ≡ Some n → IsNext limit low fs gs n
next_number limit low no_fields no_fields n one other next = cc next
next_number limit low no_fields (a_field m e gs) n one other next =
    subst (IsNext limit low no_fields (a_field m e gs)) (same_Some m n next) (record { from = other.0; within = other.1; kept = tt; counted = (omega arith, other.1, other.2, other.3, other.4); there = omega (arith, one_there m e gs) })
next_number limit low (a_field m d fs) no_fields n one other next =
    subst (IsNext limit low (a_field m d fs) no_fields) (same_Some m n next) (record { from = one.0; within = one.1; kept = (omega arith, one.1, one.2, one.3, one.4); counted = tt; there = omega (arith, one_there m d fs) })
next_number limit low (a_field m d fs) (a_field k e gs) n one other next = by (cases_lt m k)
  where
    least : min m k ≡ n
    least = same_Some (min m k) n next

    by : (m < k) ⊎ (k ≤ m) → IsNext limit low (a_field m d fs) (a_field k e gs) n
    by (inl less) =
        let is : m ≡ n = omega (arith, least, less) in
        subst (IsNext limit low (a_field m d fs) (a_field k e gs)) is
        (record { from = one.0; within = one.1; kept = (omega arith, one.1, one.2, one.3, one.4); counted = (omega (arith, less), other.1, other.2, other.3, other.4); there = omega (arith, one_there m d fs) })
    by (inr le) =
        let is : k ≡ n = omega (arith, least, le) in
        subst (IsNext limit low (a_field m d fs) (a_field k e gs)) is
        (record { from = other.0; within = other.1; kept = (le, one.1, one.2, one.3, one.4); counted = (omega arith, other.1, other.2, other.3, other.4); there = omega (arith, one_there k e gs) })

-- ---- the walk

-- What is left of both lists, and the least of what was passed.
pub record Walked (names : List Name) (fs gs ones others : Fields) (least : Option Candidate) : Type 0 where
  pub low : ℕ
  pub within : low ≤ length names
  pub kept : AreFieldsCanonical (length names) low ones
  pub counted : AreFieldsCanonical (length names) low others
  pub kept_left : (n : ℕ) → low ≤ n → field_at n ones ≡ field_at n fs
  pub counted_left : (n : ℕ) → low ≤ n → field_at n others ≡ field_at n gs
  pub places : field_places ones + field_places others ≤ field_places fs + field_places gs
  pub is_least : IsLeastBelow names low fs gs least

module _ (names : List Name) (fs gs ones others : Fields) (least : Option Candidate) (w : Walked names fs gs ones others least) where
  pub is_next : (n : ℕ) → lesser (front_of ones) (front_of others) ≡ Some n → IsNext (length names) w.low ones others n
  is_next n next = next_number (length names) w.low ones others n w.kept w.counted next

  -- fewer are left
  pub fewer_left : (n : ℕ) → lesser (front_of ones) (front_of others) ≡ Some n → field_places (after_front n ones) + field_places (after_front n others) < field_places ones + field_places others
  fewer_left n next = omega (arith, front_places n ones, front_places n others, (is_next n next).there)

  -- one number further, where the places in front are compared, and what comes after them is left
  pub further : (n : ℕ) (next : Option Candidate) (d e : Counted) (ones' others' : Fields) → lesser (front_of ones) (front_of others) ≡ Some n
      → d ≡ place_in_front n ones → e ≡ place_in_front n others → ones' ≡ after_front n ones → others' ≡ after_front n others
      → ((hs js : Fields) → field_at n hs ≡ d → field_at n js ≡ e → IsLeastBelow names n hs js least → IsLeastBelow names (n + 1) hs js next) → Walked names fs gs ones' others' next
  further n next d e ones' others' is one other left left' step =
      let limit = length names in
      let it = is_next n is in
      subst (λ hs. Walked names fs gs hs others' next) (sym left) (subst (λ hs. Walked names fs gs (after_front n ones) hs next) (sym left') (record {
        low = n + 1;
        within = omega (arith, it.within);
        kept = after_canonical limit n ones it.kept;
        counted = after_canonical limit n others it.counted;
        kept_left = λ k from. after_left n k ones (omega (arith, from)) ∙ w.kept_left k (omega (arith, from, it.from));
        counted_left = λ k from. after_left n k others (omega (arith, from)) ∙ w.counted_left k (omega (arith, from, it.from));
        places = omega (arith, fewer_left n is, w.places);
        is_least =
            step fs gs (sym (w.kept_left n it.from) ∙ in_front limit n ones it.kept ∙ sym one) (sym (w.counted_left n it.from) ∙ in_front limit n others it.counted ∙ sym other)
            (up_to names fs gs w.low n least it.from (λ k from below.
            sym (w.kept_left k from) ∙ nothing_below n ones k (fields_ordered limit n ones it.kept) below ∙ sym (nothing_below n others k (fields_ordered limit n others it.counted) below) ∙ w.counted_left k from) w.is_least);
      }))
