-- A place is read from its bytes alone.
use Rattle.std.proofs.Common.{◌≡◌, ℕ, zero, suc, ◌<◌, ◌≤◌, ◌^◌, ◌==◌, nat_lt, Bool, true, false, List, [], ◌∷◌, ◌++◌, drop, Some, None, if◌then◌else◌, refl, sym, ap, ◌∙◌, subst, arith, append_assoc}
use Rattle.std.specs.Int.{w64, to_be_bytes}
use Rattle.std.proofs.lemmas.Bool.{false≢true}
use Rattle.std.proofs.lemmas.Bool.Decides.{Decides-eqb, Decides-ltb, nat_tests}
use Rattle.std.proofs.lemmas.Option.{same_Some}
use Rattle.tc_bytes.specs.Reading.{Reader, ◌>>=◌, byte_at, number_at}
use Rattle.tc_bytes.specs.Codec.{IsBytes, IsCodec}
use Rattle.tc_bytes.proofs.Codecs.{then_parts}
use Rattle.tc_bytes.proofs.Fields.{number_codec_64, byte_codec}
use Rattle.tc_schema_model.specs.Counted.{Counters, no_counters, total, Counted, counted, Below, Fields, documents_of}
use Rattle.tc_schema_model.specs.SchemaTree.{node_of}
use Rattle.tc_schema_model.specs.SchemaBytes.{node_bytes}
use Rattle.tc_schema.specs.Writing.{kinds_in, tagged, scalar_part, array_part, object_part, scalar_parts}
use Rattle.tc_schema.specs.Reading.{starts, kinds_at, union_at, place_at, PlaceParts, PlaceFits}
use Rattle.tc_schema.proofs.WritingLaws.{place_bytes}
use Rattle.tc_schema.proofs.ReadingLaws.{started, kinds_among, some_kind, From, kinds_found, kinds_again, skips_nulls, from_nulls, nulls_count}

module _ {P : Counted → Type 0} {read : Reader Counted} (codec : IsCodec read (λ d. node_bytes (node_of d)) P) (limit : ℕ) (few : limit < 2 ^ 32) where
  -- all kinds, one after the other
  kinds_bytes : (c : Counters) (b : Below) (fs : Fields) (rest : List ℕ) → from_nulls codec (counted c b fs) rest ≡ (scalar_parts c ++ (array_part c.arrays b ++ object_part c.objects fs)) ++ rest
  kinds_bytes c b fs rest = six (scalar_part 1 c.nulls) (scalar_part 2 c.booleans) (scalar_part 3 c.integers) (scalar_part 4 c.texts) (array_part c.arrays b) (object_part c.objects fs) rest
    where
      six : (p1 p2 p3 p4 p5 p6 rest : List ℕ) → p1 ++ (p2 ++ (p3 ++ (p4 ++ (p5 ++ (p6 ++ rest))))) ≡ ((p1 ++ (p2 ++ (p3 ++ p4))) ++ (p5 ++ p6)) ++ rest
      six p1 p2 p3 p4 p5 p6 rest = simp append_assoc

  one_place : (c : Counters) (b : Below) (fs : Fields) (rest : List ℕ) → kinds_in c ≡ 1 → from_nulls codec (counted c b fs) rest ≡ node_bytes (node_of (counted c b fs)) ++ rest
  one_place c b fs rest one = kinds_bytes c b fs rest ∙ ap (λ bytes. bytes ++ rest) (sym (place_bytes c b fs ∙ no_union (kinds_in c) one))
    where
      no_union : (k : ℕ) → k ≡ 1 → (if k == 1 then [] else tagged 8 (total c) ++ k ∷ []) ++ (scalar_parts c ++ (array_part c.arrays b ++ object_part c.objects fs)) ≡ scalar_parts c ++ (array_part c.arrays b ++ object_part c.objects fs)
      no_union k one = rw one refl

  union_place : (c : Counters) (b : Below) (fs : Fields) (rest : List ℕ) → 2 ≤ kinds_in c
      → 8 ∷ (to_be_bytes w64 (total c) ++ (kinds_in c ∷ from_nulls codec (counted c b fs) rest)) ≡ node_bytes (node_of (counted c b fs)) ++ rest
  union_place c b fs rest several =
      ap (λ bytes. 8 ∷ (to_be_bytes w64 (total c) ++ (kinds_in c ∷ bytes))) (kinds_bytes c b fs rest)
      ∙ joined (kinds_in c) several (scalar_parts c ++ (array_part c.arrays b ++ object_part c.objects fs)) ∙ ap (λ bytes. bytes ++ rest) (sym (place_bytes c b fs))
    where
      joined : (k : ℕ) → 2 ≤ k → (parts : List ℕ) → 8 ∷ (to_be_bytes w64 (total c) ++ (k ∷ (parts ++ rest))) ≡ ((if k == 1 then [] else tagged 8 (total c) ++ k ∷ []) ++ parts) ++ rest
      joined k several parts = let other : (k == 1) ≡ false = differs k several in rw other refl
        where
          differs : (k : ℕ) → 2 ≤ k → (k == 1) ≡ false
          differs k several = grind (arith, nat_tests)

  abbrev PartsOf : Counted → Type 0
  PartsOf (counted c b fs) = PlaceParts P limit c b fs

  -- what the kinds gave, with how many they are
  parts_from : (left : ℕ) (bytes : List ℕ) (d : Counted) (rest : List ℕ) → From codec (from_nulls codec) (nulls_count codec) (λ c d. d) limit left no_counters bytes (d, rest) → 0 < left → PartsOf d
  parts_from left bytes (counted c b fs) rest from some =
      record { some = counts c left (omega (arith, from.left_is)) some; small = from.small; no_items = from.items.0; no_members = from.members.0; below = from.items.1; fields = from.members.1 }
    where
      counts : (c : Counters) (left : ℕ) → left ≡ kinds_in c → 0 < left → 0 < total c
      counts c left is some = omega (arith, kinds_among c)

  abbrev Found : List ℕ → Counted × List ℕ → Type 0
  Found bytes q = (bytes ≡ node_bytes (node_of q.0) ++ q.1) × IsBytes q.1 × PartsOf q.0

  union_found : (bytes : List ℕ) (q : Counted × List ℕ) → IsBytes bytes → union_at read limit bytes ≡ Some q → Found (8 ∷ bytes) q
  union_found bytes q each gives =
      let number = then_parts (number_at w64 bytes) _ q gives in
      let front = number_codec_64.found bytes number.0.0 number.0.1 each number.1 in
      let many = then_parts (byte_at number.0.1) _ q number.2 in
      let next = byte_codec.found number.0.1 many.0.0 many.0.1 front.1 many.1 in
      let several = by_low many.0.0 many.0.1 number.0.0 (nat_lt many.0.0 2) (Decides-ltb many.0.0 2) many.2 in
      let kinds = then_parts (kinds_at read limit many.0.0 many.0.1) _ q several.1 in
      let sum = by_sum kinds.0 number.0.0 (documents_of kinds.0.0 == number.0.0) (Decides-eqb (documents_of kinds.0.0) number.0.0).0 kinds.2 in
      subst (Found (8 ∷ bytes)) sum.0
      (finish kinds.0.0 kinds.0.1 many.0.0 many.0.1 number.0.0 (front.0 ∙ ap (λ r. to_be_bytes w64 number.0.0 ++ r) next.0) several.0 sum.1 (kinds_found codec limit many.0.0 many.0.1 kinds.0 next.1 kinds.1))
    where
      by_low : (m : ℕ) (r : List ℕ) (n : ℕ) (low : Bool) → (low ≡ true → m < 2) × (m < 2 → low ≡ true)
          → (if low then None else (kinds_at read limit m r >>= λ d. if documents_of d.0 == n then Some d else None)) ≡ Some q
          → (2 ≤ m) × ((kinds_at read limit m r >>= λ d. if documents_of d.0 == n then Some d else None) ≡ Some q)
      by_low m r n true is gives = cc
      by_low m r n false is gives = (at_least (λ less. false≢true (is.1 less)), gives)
        where
          at_least : (m < 2 → ⊥) → 2 ≤ m
          at_least no_less = omega arith

      by_sum : (p : Counted × List ℕ) (n : ℕ) (same : Bool) → (same ≡ true → documents_of p.0 ≡ n) → (if same then Some p else None) ≡ Some q → (p ≡ q) × (documents_of p.0 ≡ n)
      by_sum p n true is gives = (same_Some _ _ gives, is refl)
      by_sum p n false is gives = cc

      finish : (d : Counted) (rest : List ℕ) (m : ℕ) (r : List ℕ) (n : ℕ) → bytes ≡ to_be_bytes w64 n ++ (m ∷ r) → 2 ≤ m → documents_of d ≡ n
          → From codec (from_nulls codec) (nulls_count codec) (λ c d. d) limit m no_counters r (d, rest) → Found (8 ∷ bytes) (d, rest)
      finish (counted c b fs) rest m r n front several sum from =
          let count : m ≡ kinds_in c = omega (arith, from.left_is) in (
            ap (λ x. 8 ∷ x) (front ∙ rw (sym sum, count, from.spelled) refl) ∙ union_place c b fs rest (omega (arith, count, several)),
            from.each,
            parts_from m r (counted c b fs) rest from (omega (arith, several)),
          )

  place_found : (bytes : List ℕ) (q : Counted × List ℕ) → IsBytes bytes → (if starts 8 1 bytes then union_at read limit (drop 1 bytes) else kinds_at read limit 1 bytes) ≡ Some q → Found bytes q
  place_found bytes (d, rest) each gives = by_test d (starts 8 1 bytes) (started 8 1 bytes) gives
    where
      by_test : (d : Counted) (test : Bool) → (test ≡ true → (bytes ≡ 8 ∷ drop 1 bytes) × (0 < 1)) → (if test then union_at read limit (drop 1 bytes) else kinds_at read limit 1 bytes) ≡ Some (d, rest) → Found bytes (d, rest)
      by_test d true is gives =
          let front = (is refl).0 in
          let here = union_found (drop 1 bytes) (d, rest) (λ i. subst IsBytes front each (suc i)) gives in
          (front ∙ here.0, here.1, here.2)
      by_test (counted c b fs) false is gives =
          let from = kinds_found codec limit 1 bytes (counted c b fs, rest) each gives in
          (from.spelled ∙ one_place c b fs rest (omega (arith, from.left_is)), from.each, parts_from 1 bytes (counted c b fs) rest from (omega arith))

  kinds_read : (c : Counters) (b : Below) (fs : Fields) (rest : List ℕ) → PlaceParts P limit c b fs → (left : ℕ) → left ≡ kinds_in c → kinds_at read limit left (from_nulls codec (counted c b fs) rest) ≡ Some (counted c b fs, rest)
  kinds_read c b fs rest parts left is =
      let count : left ≡ nulls_count codec c = omega (arith, is) in
      ap (λ n. kinds_at read limit n (from_nulls codec (counted c b fs) rest)) count
      ∙ kinds_again codec limit c b fs rest few parts.small parts.no_items parts.no_members parts.below parts.fields

  union_again : (c : Counters) (b : Below) (fs : Fields) (rest : List ℕ) → PlaceParts P limit c b fs → 2 ≤ kinds_in c
      → union_at read limit (to_be_bytes w64 (total c) ++ (kinds_in c ∷ from_nulls codec (counted c b fs) rest)) ≡ Some (counted c b fs, rest)
  union_again c b fs rest parts several =
      let low : nat_lt (kinds_in c) 2 ≡ false = not_low (kinds_in c) several in
      let sum : (total c == total c) ≡ true = same (total c) in
      step (total c) (kinds_in c) (from_nulls codec (counted c b fs) rest) (counted c b fs) (number_codec_64.again (total c) (kinds_in c ∷ from_nulls codec (counted c b fs) rest) parts.small) low (kinds_read c b fs rest parts (kinds_in c) refl) sum
    where
      not_low : (k : ℕ) → 2 ≤ k → nat_lt k 2 ≡ false
      not_low k several = grind (arith, nat_tests)

      same : (n : ℕ) → (n == n) ≡ true
      same n = grind (arith, nat_tests)

      step : (n k : ℕ) (r : List ℕ) (d : Counted) → number_at w64 (to_be_bytes w64 n ++ (k ∷ r)) ≡ Some (n, k ∷ r) → nat_lt k 2 ≡ false → kinds_at read limit k r ≡ Some (d, rest) → (documents_of d == n) ≡ true
          → union_at read limit (to_be_bytes w64 n ++ (k ∷ r)) ≡ Some (d, rest)
      step n k r d a b e f = rw (a, b, e, f) refl

  -- what a place is read as
  abbrev ReadsAs : List ℕ → Counted × List ℕ → Type 0
  ReadsAs bytes q = (if starts 8 1 bytes then union_at read limit (drop 1 bytes) else kinds_at read limit 1 bytes) ≡ Some q

  place_again : (d : Counted) (rest : List ℕ) → PartsOf d → ReadsAs (node_bytes (node_of d) ++ rest) (d, rest)
  place_again (counted c b fs) rest parts = by_kinds (kinds_in c == 1) (Decides-eqb (kinds_in c) 1)
    where
      by_kinds : (one : Bool) → (one ≡ true → kinds_in c ≡ 1) × (kinds_in c ≡ 1 → one ≡ true) → ReadsAs (node_bytes (node_of (counted c b fs)) ++ rest) (counted c b fs, rest)
      by_kinds true is =
          let bytes = from_nulls codec (counted c b fs) rest in
          let one = is.0 refl in
          let count : nulls_count codec c ≡ 1 = omega (arith, one) in
          let no_union : starts 8 1 bytes ≡ false = ap (λ n. starts 8 n bytes) (sym count)
          ∙ skips_nulls codec 8 (counted c b fs) rest (λ h. absurd (omega (arith, h))) (λ h. absurd (omega (arith, h))) (λ h. absurd (omega (arith, h))) (λ h. absurd (omega (arith, h))) (λ h. absurd (omega (arith, h))) (λ h. absurd (omega (arith, h))) in
          subst (λ x. ReadsAs x (counted c b fs, rest)) (one_place c b fs rest one) (rw no_union (kinds_read c b fs rest parts 1 (sym one)))
      by_kinds false is =
          let several : 2 ≤ kinds_in c = at_least (kinds_in c) (some_kind c parts.some) (λ one. false≢true (is.1 one)) in
          subst (λ x. ReadsAs x (counted c b fs, rest)) (union_place c b fs rest several) (union_again c b fs rest parts several)
        where
          at_least : (k : ℕ) → 0 < k → (k ≡ 1 → ⊥) → 2 ≤ k
          at_least k some other = omega arith

  -- its bytes are not those of the empty schema
  not_empty : (d : Counted) (rest : List ℕ) → PartsOf d → starts 0 1 (node_bytes (node_of d) ++ rest) ≡ false
  not_empty (counted c b fs) rest parts = by_kinds (kinds_in c == 1) (Decides-eqb (kinds_in c) 1)
    where
      by_kinds : (one : Bool) → (one ≡ true → kinds_in c ≡ 1) × (kinds_in c ≡ 1 → one ≡ true) → starts 0 1 (node_bytes (node_of (counted c b fs)) ++ rest) ≡ false
      by_kinds true is =
          let bytes = from_nulls codec (counted c b fs) rest in
          let one = is.0 refl in
          let count : nulls_count codec c ≡ 1 = omega (arith, one) in
          subst (λ x. starts 0 1 x ≡ false) (one_place c b fs rest one) (ap (λ n. starts 0 n bytes) (sym count)
          ∙ skips_nulls codec 0 (counted c b fs) rest (λ h. absurd (omega (arith, h))) (λ h. absurd (omega (arith, h))) (λ h. absurd (omega (arith, h))) (λ h. absurd (omega (arith, h))) (λ h. absurd (omega (arith, h))) (λ h. absurd (omega (arith, h))))
      by_kinds false is =
          let several : 2 ≤ kinds_in c = at_least (kinds_in c) (some_kind c parts.some) (λ one. false≢true (is.1 one)) in
          subst (λ x. starts 0 1 x ≡ false) (union_place c b fs rest several) refl
        where
          at_least : (k : ℕ) → 0 < k → (k ≡ 1 → ⊥) → 2 ≤ k
          at_least k some other = omega arith

-- with the places inside at one level less
parts_fit : (limit levels : ℕ) (few : limit < 2 ^ 32) (codec : IsCodec (place_at limit levels) (λ d. node_bytes (node_of d)) (PlaceFits limit levels)) (d : Counted) → PartsOf codec limit few d → PlaceFits limit (suc levels) d
parts_fit limit levels few codec (counted c b fs) parts = parts

fits_parts : (limit levels : ℕ) (few : limit < 2 ^ 32) (codec : IsCodec (place_at limit levels) (λ d. node_bytes (node_of d)) (PlaceFits limit levels)) (d : Counted) → PlaceFits limit (suc levels) d → PartsOf codec limit few d
fits_parts limit levels few codec (counted c b fs) fits = fits

-- places that nest no deeper than so many levels
pub place_codec : (limit levels : ℕ) → limit < 2 ^ 32 → IsCodec (place_at limit levels) (λ d. node_bytes (node_of d)) (PlaceFits limit levels)
place_codec limit zero few = record { found = λ bytes d rest each gives. absurd (no_place bytes d rest gives); again = λ d rest fits. absurd fits }
  where
    no_place : (bytes : List ℕ) (d : Counted) (rest : List ℕ) → place_at limit 0 bytes ≡ Some (d, rest) → ⊥
    no_place bytes d rest gives = cc
place_codec limit (suc levels) few =
    let codec = place_codec limit levels few in
    record {
      found = λ bytes d rest each gives. let here = place_found codec limit few bytes (d, rest) each gives in (here.0, here.1, parts_fit limit levels few codec d here.2);
      again = λ d rest fits. place_again codec limit few d rest (fits_parts limit levels few codec d fits);
    }

pub no_place_is_empty : (limit levels : ℕ) (d : Counted) (rest : List ℕ) → limit < 2 ^ 32 → PlaceFits limit levels d → starts 0 1 (node_bytes (node_of d) ++ rest) ≡ false
no_place_is_empty limit zero d rest few fits = absurd fits
no_place_is_empty limit (suc levels) d rest few fits = let codec = place_codec limit levels few in not_empty codec limit few d rest (fits_parts limit levels few codec d fits)
