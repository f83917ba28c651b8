-- What is read of a place is spelled so, and what is spelled so is read.
use Rattle.std.proofs.Common.{◌≡◌, ◌≢◌, ℕ, zero, suc, ◌+◌, ◌-◌, ◌<◌, ◌≤◌, ◌^◌, ◌==◌, ◌&&◌, nat_lt, Bool, true, false, List, [], ◌∷◌, ◌++◌, drop, Some, None, if◌then◌else◌, refl, sym, ap, ◌∙◌, subst, arith, append_assoc}
use Rattle.std.specs.Int.{w32, w64, to_be_bytes}
use Rattle.std.proofs.lemmas.Bool.{false≢true, le-ltb, lt-ltb}
use Rattle.std.proofs.lemmas.Bool.Decides.{Decides-eqb, Decides-ltb, nat_tests}
use Rattle.std.proofs.lemmas.Option.{same_Some, some_pair_parts}
use Rattle.tc_bytes.specs.Reading.{Reader, ◌>>=◌, byte_at, number_at}
use Rattle.tc_bytes.specs.Codec.{IsBytes, IsCodec}
use Rattle.tc_bytes.proofs.Codecs.{then_parts}
use Rattle.tc_bytes.proofs.Fields.{number_codec_32, number_codec_64, byte_codec}
use Rattle.tc_schema_model.specs.Counted.{Counters, no_counters, counters_of, below_of, total, Counted, counted, Below, no_item, an_item, Fields, no_fields, a_field}
use Rattle.tc_schema_model.specs.SchemaTree.{node_of, item_node_of, field_nodes_of}
use Rattle.tc_schema_model.specs.SchemaBytes.{node_bytes, item_bytes, fields_bytes, fields_count}
use Rattle.tc_schema.specs.Writing.{one_if_some, kinds_in, tagged, scalar_part, array_part, object_part}
use Rattle.tc_schema.specs.Reading.{starts, counter_at, scalar_at, item_at, array_at, fields_at, object_at, objects_at, arrays_at, texts_at, integers_at, booleans_at, kinds_at, BelowFits, FieldsFit}

-- ---- the tag in front

-- where a kind starts, its tag stands in front and a kind was to come
pub started : (tag left : ℕ) (bytes : List ℕ) → starts tag left bytes ≡ true → (bytes ≡ tag ∷ drop 1 bytes) × (0 < left)
started tag left [] is = absurd (false≢true is)
started tag left (b ∷ bytes) is = let parts = both left b tag is in (rw parts.1 refl, parts.0)
  where
    both : (left b tag : ℕ) → (nat_lt 0 left && b == tag) ≡ true → (0 < left) × (b ≡ tag)
    both left b tag is = grind (arith, nat_tests)

pub starts_here : (tag left : ℕ) (bytes : List ℕ) → starts tag (1 + left) (tag ∷ bytes) ≡ true
starts_here tag left bytes = here tag left
  where
    here : (tag left : ℕ) → (nat_lt 0 (1 + left) && tag == tag) ≡ true
    here tag left = grind (arith, nat_tests)

no_kind_left : (tag : ℕ) (bytes : List ℕ) → starts tag 0 bytes ≡ false
no_kind_left tag [] = refl
no_kind_left tag (b ∷ bytes) = refl

-- a kind of another tag does not start it
skips : (tag k n left : ℕ) (front more : List ℕ) → tag ≢ k → starts tag left more ≡ false → starts tag (one_if_some n + left) ((if n == 0 then [] else k ∷ front) ++ more) ≡ false
skips tag k n left front more other later = by_test (n == 0)
  where
    differs : (tag k m : ℕ) → tag ≢ k → (nat_lt 0 m && k == tag) ≡ false
    differs tag k m other = grind (arith, nat_tests)

    by_test : (none : Bool) → starts tag ((if none then 0 else 1) + left) ((if none then [] else k ∷ front) ++ more) ≡ false
    by_test true = let same : 0 + left ≡ left = omega arith in rw same later
    by_test false = differs tag k (1 + left) other

-- ---- counters and scalars

counter_found : (bytes : List ℕ) (q : ℕ × List ℕ) → IsBytes bytes → counter_at bytes ≡ Some q → (bytes ≡ to_be_bytes w64 q.0 ++ q.1) × IsBytes q.1 × (q.0 < 2 ^ 64) × (q.0 ≢ 0)
counter_found bytes q each gives =
    let parts = then_parts (number_at w64 bytes) _ q gives in
    let here = number_codec_64.found bytes parts.0.0 parts.0.1 each parts.1 in
    by_test parts.0 here.0 here.1 here.2 (parts.0.0 == 0) (Decides-eqb parts.0.0 0).1 parts.2
  where
    by_test : (p : ℕ × List ℕ) → bytes ≡ to_be_bytes w64 p.0 ++ p.1 → IsBytes p.1 → p.0 < 2 ^ 64 → (none : Bool) → (p.0 ≡ 0 → none ≡ true) → (if none then None else Some p) ≡ Some q
        → (bytes ≡ to_be_bytes w64 q.0 ++ q.1) × IsBytes q.1 × (q.0 < 2 ^ 64) × (q.0 ≢ 0)
    by_test p front rest small true is gives = cc
    by_test p front rest small false is gives =
        subst (λ q. (bytes ≡ to_be_bytes w64 q.0 ++ q.1) × IsBytes q.1 × (q.0 < 2 ^ 64) × (q.0 ≢ 0)) (same_Some _ _ gives) (front, rest, small, λ zero. false≢true (is zero))

counter_again : (n : ℕ) (rest : List ℕ) → n < 2 ^ 64 → n ≢ 0 → counter_at (to_be_bytes w64 n ++ rest) ≡ Some (n, rest)
counter_again n rest small some = ap (λ o. o >>= λ n. if n.0 == 0 then None else Some n) (number_codec_64.again n rest small) ∙ not_zero n rest some
  where
    not_zero : (n : ℕ) (rest : List ℕ) → n ≢ 0 → (let pair : ℕ × List ℕ = (n, rest) in if n == 0 then None else Some pair) ≡ Some (n, rest)
    not_zero n rest some = grind (arith, nat_tests)

scalar_found : (tag left : ℕ) (bytes : List ℕ) (n : ℕ) (rest : List ℕ) → IsBytes bytes → scalar_at tag left bytes ≡ Some (n, rest)
    → (bytes ≡ scalar_part tag n ++ rest) × IsBytes rest × (one_if_some n ≤ left)
scalar_found tag left bytes n rest each gives = by_test (starts tag left bytes) (started tag left bytes) gives
  where
    there : (tag n : ℕ) (rest : List ℕ) → n ≢ 0 → tag ∷ (to_be_bytes w64 n ++ rest) ≡ scalar_part tag n ++ rest
    there tag n rest some = by_test (n == 0) (Decides-eqb n 0).0
      where
        by_test : (none : Bool) → (none ≡ true → n ≡ 0) → tag ∷ (to_be_bytes w64 n ++ rest) ≡ (if none then [] else tagged tag n) ++ rest
        by_test true is = absurd (some (is refl))
        by_test false is = refl

    at_most_one : (n left : ℕ) → 0 < left → one_if_some n ≤ left
    at_most_one n left less = grind (arith, nat_tests)

    IsBytes-drop : (b : ℕ) (bytes : List ℕ) → IsBytes (b ∷ bytes) → IsBytes bytes
    IsBytes-drop b bytes each i = each (suc i)

    by_test : (test : Bool) → (test ≡ true → (bytes ≡ tag ∷ drop 1 bytes) × (0 < left)) → (if test then counter_at (drop 1 bytes) else Some (0, bytes)) ≡ Some (n, rest)
        → (bytes ≡ scalar_part tag n ++ rest) × IsBytes rest × (one_if_some n ≤ left)
    by_test true is gives =
        let front = is refl in
        let here = counter_found (drop 1 bytes) (n, rest) (IsBytes-drop tag (drop 1 bytes) (subst IsBytes front.0 each)) gives in
        (front.0 ∙ ap (λ r. tag ∷ r) here.0 ∙ there tag n rest here.3, here.1, at_most_one n left front.1)
    by_test false is gives =
        let same = some_pair_parts 0 n bytes rest gives in
        (subst (λ m. bytes ≡ scalar_part tag m ++ rest) same.0 same.1, subst IsBytes same.1 each, subst (λ m. one_if_some m ≤ left) same.0 (omega arith))

scalar_again : (tag n left : ℕ) (rest : List ℕ) → n < 2 ^ 64 → starts tag left rest ≡ false → scalar_at tag (one_if_some n + left) (scalar_part tag n ++ rest) ≡ Some (n, rest)
scalar_again tag n left rest small later = by_test (n == 0) (Decides-eqb n 0)
  where
    by_test : (none : Bool) → (none ≡ true → n ≡ 0) × (n ≡ 0 → none ≡ true) → scalar_at tag ((if none then 0 else 1) + left) ((if none then [] else tagged tag n) ++ rest) ≡ Some (n, rest)
    by_test true is =
        let same : 0 + left ≡ left = omega arith in
        rw (same, later) (ap (λ m. let pair : ℕ × List ℕ = (m, rest) in Some pair) (sym (is.0 refl)))
    by_test false is =
        rw (starts_here tag left (to_be_bytes w64 n ++ rest)) (counter_again n rest small (λ zero. false≢true (is.1 zero)))

-- ---- the items of arrays

module _ {P : Counted → Type 0} {read : Reader Counted} (codec : IsCodec read (λ d. node_bytes (node_of d)) P) where
  abbrev ItemFound : List ℕ → Below × List ℕ → Type 0
  ItemFound bytes q = (bytes ≡ item_bytes (item_node_of q.0) ++ q.1) × IsBytes q.1 × BelowFits P q.0

  item_found : (bytes : List ℕ) (q : Below × List ℕ) → IsBytes bytes → item_at read bytes ≡ Some q → ItemFound bytes q
  item_found bytes q each gives =
      let flag = then_parts (byte_at bytes) _ q gives in
      let front = byte_codec.found bytes flag.0.0 flag.0.1 each flag.1 in
      let inside = by_flag flag.0.0 flag.0.1 front.1 (flag.0.0 == 0) (flag.0.0 == 1) (Decides-eqb flag.0.0 0).0 (Decides-eqb flag.0.0 1).0 flag.2 in
      (front.0 ∙ inside.0, inside.1, inside.2)
    where
      by_flag : (f : ℕ) (r : List ℕ) → IsBytes r → (none one : Bool) → (none ≡ true → f ≡ 0) → (one ≡ true → f ≡ 1)
          → (if none then Some (no_item, r) else (if one then (read r >>= λ d. Some (an_item d.0, d.1)) else None)) ≡ Some q → ItemFound (f ∷ r) q
      by_flag f r each true one is_none is_one gives = subst (ItemFound (f ∷ r)) (same_Some _ _ gives) (rw (is_none refl) refl, each, tt)
      by_flag f r each false true is_none is_one gives =
          let parts = then_parts (read r) _ q gives in
          let here = codec.found r parts.0.0 parts.0.1 each parts.1 in
          subst (ItemFound (f ∷ r)) (same_Some _ _ parts.2) (rw (is_one refl) (ap (λ x. 1 ∷ x) here.0), here.1, here.2)
      by_flag f r each false false is_none is_one gives = cc

  item_again : (b : Below) (rest : List ℕ) → BelowFits P b → item_at read (item_bytes (item_node_of b) ++ rest) ≡ Some (b, rest)
  item_again no_item rest fits = refl
  item_again (an_item d) rest fits = ap (λ o. o >>= λ d. Some (an_item d.0, d.1)) (codec.again d rest fits)

  -- ---- fields

  abbrev FieldsFound : ℕ → ℕ → ℕ → List ℕ → Fields × List ℕ → Type 0
  FieldsFound limit left low bytes q = (bytes ≡ fields_bytes (field_nodes_of q.0) ++ q.1) × IsBytes q.1 × FieldsFit P limit low q.0 × (fields_count (field_nodes_of q.0) ≡ left)

  pub fields_found : (limit left low : ℕ) (bytes : List ℕ) (q : Fields × List ℕ) → IsBytes bytes → fields_at read limit left low bytes ≡ Some q → FieldsFound limit left low bytes q
  fields_found limit zero low bytes q each gives = subst (FieldsFound limit 0 low bytes) (same_Some _ _ gives) (refl, each, tt, refl)
  fields_found limit (suc left) low bytes q each gives =
      let number = then_parts (number_at w32 bytes) _ q gives in
      let n = number.0.0 in
      let front = number_codec_32.found bytes n number.0.1 each number.1 in
      by_tests n number.0.1 front.0 front.1 (nat_lt n low) (nat_lt n limit) (Decides-ltb n low) (Decides-ltb n limit) (λ c r e g. fields_found limit left (n + 1) r c e g) number.2
    where
      regroup : (a b c d : List ℕ) → a ++ (b ++ (c ++ d)) ≡ (a ++ (b ++ c)) ++ d
      regroup a b c d = simp append_assoc

      by_tests : (n : ℕ) (r : List ℕ) → bytes ≡ to_be_bytes w32 n ++ r → IsBytes r → (under inside : Bool) → (under ≡ true → n < low) × (n < low → under ≡ true) → (inside ≡ true → n < limit) × (n < limit → inside ≡ true)
          → ((c : Fields × List ℕ) (r : List ℕ) → IsBytes r → fields_at read limit left (n + 1) r ≡ Some c → FieldsFound limit left (n + 1) r c)
          → (if under then None else (if inside then (read r >>= λ d. fields_at read limit left (n + 1) d.1 >>= λ fs. Some (a_field n d.0 fs.0, fs.1)) else None)) ≡ Some q → FieldsFound limit (suc left) low bytes q
      by_tests n r front each true inside is_under is_inside later gives = cc
      by_tests n r front each false false is_under is_inside later gives = cc
      by_tests n r front each false true is_under is_inside later gives =
          let first = then_parts (read r) _ q gives in
          let here = codec.found r first.0.0 first.0.1 each first.1 in
          let second = then_parts (fields_at read limit left (n + 1) first.0.1) _ q first.2 in
          let rest = later second.0 first.0.1 here.1 second.1 in
          let least : low ≤ n = not_under n (λ less. false≢true (is_under.1 less)) in
          subst (FieldsFound limit (suc left) low bytes) (same_Some _ _ second.2) (
            front ∙ ap (λ x. to_be_bytes w32 n ++ x) (here.0 ∙ ap (λ x. node_bytes (node_of first.0.0) ++ x) rest.0) ∙ regroup (to_be_bytes w32 n) (node_bytes (node_of first.0.0)) (fields_bytes (field_nodes_of second.0.0)) second.0.1,
            rest.1,
            (least, is_inside.0 refl, here.2, rest.2),
            omega (arith, rest.3),
          )
        where
          not_under : (n : ℕ) → (n < low → ⊥) → low ≤ n
          not_under n no_less = omega arith

  fields_step : (limit left low n : ℕ) (bytes r r2 : List ℕ) (d : Counted) (fs : Fields) (rest : List ℕ) → number_at w32 bytes ≡ Some (n, r) → nat_lt n low ≡ false → nat_lt n limit ≡ true
      → read r ≡ Some (d, r2) → fields_at read limit left (n + 1) r2 ≡ Some (fs, rest) → fields_at read limit (suc left) low bytes ≡ Some (a_field n d fs, rest)
  fields_step limit left low n bytes r r2 d fs rest a b c e f = rw (a, b, c, e, f) refl

  pub fields_again : (limit low : ℕ) (fs : Fields) (rest : List ℕ) → limit ≤ 2 ^ 32 → FieldsFit P limit low fs → fields_at read limit (fields_count (field_nodes_of fs)) low (fields_bytes (field_nodes_of fs) ++ rest) ≡ Some (fs, rest)
  fields_again limit low no_fields rest few fits = refl
  fields_again limit low (a_field n d fs) rest few fits =
      let later = fields_bytes (field_nodes_of fs) ++ rest in
      let inside = node_bytes (node_of d) ++ later in
      let count = fields_count (field_nodes_of fs) in
      let one_more : 1 + count ≡ suc count = omega arith in
      ap (fields_at read limit (1 + count) low) (regroup (to_be_bytes w32 n) (node_bytes (node_of d)) (fields_bytes (field_nodes_of fs)) rest)
      ∙ ap (λ m. fields_at read limit m low (to_be_bytes w32 n ++ inside)) one_more
      ∙ fields_step limit count low n (to_be_bytes w32 n ++ inside) inside later d fs rest (number_codec_32.again n inside (omega (arith, few, fits.1))) (le-ltb n low fits.0) (lt-ltb n limit fits.1)
      (codec.again d later fits.2) (fields_again limit (n + 1) fs rest few fits.3)
    where
      regroup : (a b c d : List ℕ) → (a ++ (b ++ c)) ++ d ≡ a ++ (b ++ (c ++ d))
      regroup a b c d = simp append_assoc

  few_fit : (limit low : ℕ) (fs : Fields) → low ≤ limit → FieldsFit P limit low fs → fields_count (field_nodes_of fs) + low ≤ limit
  few_fit limit low no_fields least fits = omega arith
  few_fit limit low (a_field n d fs) least fits = omega (arith, fits.0, few_fit limit (n + 1) fs (omega (arith, fits.1)) fits.3)

  -- ---- arrays and objects

  abbrev ArrayFound : ℕ → List ℕ → (ℕ × Below) × List ℕ → Type 0
  ArrayFound left bytes q =
      (bytes ≡ array_part q.0.0 q.0.1 ++ q.1) × IsBytes q.1 × (one_if_some q.0.0 ≤ left) × (q.0.0 ≡ 0 → q.0.1 ≡ no_item) × BelowFits P q.0.1

  array_found : (left : ℕ) (bytes : List ℕ) (q : (ℕ × Below) × List ℕ) → IsBytes bytes → array_at read left bytes ≡ Some q → ArrayFound left bytes q
  array_found left bytes q each gives = by_test (starts 5 left bytes) (started 5 left bytes) gives
    where
      there : (n : ℕ) (b : Below) (rest : List ℕ) → n ≢ 0 → 5 ∷ (to_be_bytes w64 n ++ (item_bytes (item_node_of b) ++ rest)) ≡ array_part n b ++ rest
      there n b rest some = by_zero (n == 0) (Decides-eqb n 0).0
        where
          by_zero : (none : Bool) → (none ≡ true → n ≡ 0) → 5 ∷ (to_be_bytes w64 n ++ (item_bytes (item_node_of b) ++ rest)) ≡ (if none then [] else tagged 5 n ++ item_bytes (item_node_of b)) ++ rest
          by_zero true is = absurd (some (is refl))
          by_zero false is = refl

      at_most_one : (n left : ℕ) → 0 < left → one_if_some n ≤ left
      at_most_one n left less = grind (arith, nat_tests)

      by_test : (test : Bool) → (test ≡ true → (bytes ≡ 5 ∷ drop 1 bytes) × (0 < left))
          → (if test then (counter_at (drop 1 bytes) >>= λ n. item_at read n.1 >>= λ b. Some ((n.0, b.0), b.1)) else Some ((0, no_item), bytes)) ≡ Some q → ArrayFound left bytes q
      by_test true is gives =
          let front = is refl in
          let number = then_parts (counter_at (drop 1 bytes)) _ q gives in
          let here = counter_found (drop 1 bytes) number.0 (λ i. subst IsBytes front.0 each (suc i)) number.1 in
          let item = then_parts (item_at read number.0.1) _ q number.2 in
          let inside = item_found number.0.1 item.0 here.1 item.1 in
          subst (ArrayFound left bytes) (same_Some _ _ item.2) (
            front.0 ∙ ap (λ r. 5 ∷ r) (here.0 ∙ ap (λ r. to_be_bytes w64 number.0.0 ++ r) inside.0) ∙ there number.0.0 item.0.0 item.0.1 here.3,
            inside.1,
            at_most_one number.0.0 left front.1,
            λ zero. absurd (here.3 zero),
            inside.2,
          )
      by_test false is gives = subst (ArrayFound left bytes) (same_Some _ _ gives) (refl, each, omega arith, λ zero. refl, tt)

  array_again : (n left : ℕ) (b : Below) (rest : List ℕ) → n < 2 ^ 64 → (n ≡ 0 → b ≡ no_item) → BelowFits P b → starts 5 left rest ≡ false
      → array_at read (one_if_some n + left) (array_part n b ++ rest) ≡ Some ((n, b), rest)
  array_again n left b rest small empty fits later = by_test (n == 0) (Decides-eqb n 0)
    where
      by_test : (none : Bool) → (none ≡ true → n ≡ 0) × (n ≡ 0 → none ≡ true) → array_at read ((if none then 0 else 1) + left) ((if none then [] else tagged 5 n ++ item_bytes (item_node_of b)) ++ rest) ≡ Some ((n, b), rest)
      by_test true is =
          let same : 0 + left ≡ left = omega arith in
          rw (same, later, is.0 refl, empty (is.0 refl)) refl
      by_test false is =
          rw (starts_here 5 left (to_be_bytes w64 n ++ (item_bytes (item_node_of b) ++ rest)), counter_again n (item_bytes (item_node_of b) ++ rest) small (λ zero. false≢true (is.1 zero)), item_again b rest fits) refl

  abbrev ObjectFound : ℕ → ℕ → List ℕ → (ℕ × Fields) × List ℕ → Type 0
  ObjectFound limit left bytes q =
      (bytes ≡ object_part q.0.0 q.0.1 ++ q.1) × IsBytes q.1 × (one_if_some q.0.0 ≤ left) × (q.0.0 ≡ 0 → q.0.1 ≡ no_fields) × FieldsFit P limit 0 q.0.1

  object_found : (limit left : ℕ) (bytes : List ℕ) (q : (ℕ × Fields) × List ℕ) → IsBytes bytes → object_at read limit left bytes ≡ Some q → ObjectFound limit left bytes q
  object_found limit left bytes q each gives = by_test (starts 6 left bytes) (started 6 left bytes) gives
    where
      there : (n : ℕ) (fs : Fields) (rest : List ℕ) → n ≢ 0 → 6 ∷ (to_be_bytes w64 n ++ (to_be_bytes w32 (fields_count (field_nodes_of fs)) ++ (fields_bytes (field_nodes_of fs) ++ rest))) ≡ object_part n fs ++ rest
      there n fs rest some = by_zero (n == 0) (Decides-eqb n 0).0
        where
          by_zero : (none : Bool) → (none ≡ true → n ≡ 0) → 6 ∷ (to_be_bytes w64 n ++ (to_be_bytes w32 (fields_count (field_nodes_of fs)) ++ (fields_bytes (field_nodes_of fs) ++ rest)))
              ≡ (if none then [] else tagged 6 n ++ (to_be_bytes w32 (fields_count (field_nodes_of fs)) ++ fields_bytes (field_nodes_of fs))) ++ rest
          by_zero true is = absurd (some (is refl))
          by_zero false is = refl

      at_most_one : (n left : ℕ) → 0 < left → one_if_some n ≤ left
      at_most_one n left less = grind (arith, nat_tests)

      by_test : (test : Bool) → (test ≡ true → (bytes ≡ 6 ∷ drop 1 bytes) × (0 < left))
          → (if test then (counter_at (drop 1 bytes) >>= λ n. number_at w32 n.1 >>= λ many. fields_at read limit many.0 0 many.1 >>= λ fs. Some ((n.0, fs.0), fs.1)) else Some ((0, no_fields), bytes)) ≡ Some q → ObjectFound limit left bytes q
      by_test true is gives =
          let front = is refl in
          let number = then_parts (counter_at (drop 1 bytes)) _ q gives in
          let here = counter_found (drop 1 bytes) number.0 (λ i. subst IsBytes front.0 each (suc i)) number.1 in
          let many = then_parts (number_at w32 number.0.1) _ q number.2 in
          let count = number_codec_32.found number.0.1 many.0.0 many.0.1 here.1 many.1 in
          let fields = then_parts (fields_at read limit many.0.0 0 many.0.1) _ q many.2 in
          let inside = fields_found limit many.0.0 0 many.0.1 fields.0 count.1 fields.1 in
          let spelled = count.0 ∙ ap (λ r. to_be_bytes w32 many.0.0 ++ r) inside.0 ∙ ap (λ m. to_be_bytes w32 m ++ (fields_bytes (field_nodes_of fields.0.0) ++ fields.0.1)) (sym inside.3) in
          subst (ObjectFound limit left bytes) (same_Some _ _ fields.2) (
            front.0 ∙ ap (λ r. 6 ∷ r) (here.0 ∙ ap (λ r. to_be_bytes w64 number.0.0 ++ r) spelled) ∙ there number.0.0 fields.0.0 fields.0.1 here.3,
            inside.1,
            at_most_one number.0.0 left front.1,
            λ zero. absurd (here.3 zero),
            inside.2,
          )
      by_test false is gives = subst (ObjectFound limit left bytes) (same_Some _ _ gives) (refl, each, omega arith, λ zero. refl, tt)

  object_again : (limit n left : ℕ) (fs : Fields) (rest : List ℕ) → limit < 2 ^ 32 → n < 2 ^ 64 → (n ≡ 0 → fs ≡ no_fields) → FieldsFit P limit 0 fs → starts 6 left rest ≡ false
      → object_at read limit (one_if_some n + left) (object_part n fs ++ rest) ≡ Some ((n, fs), rest)
  object_again limit n left fs rest few small empty fits later = by_test (n == 0) (Decides-eqb n 0)
    where
      inside : (n : ℕ) (bytes r r2 : List ℕ) (count : ℕ) → counter_at bytes ≡ Some (n, r) → number_at w32 r ≡ Some (count, r2) → fields_at read limit count 0 r2 ≡ Some (fs, rest)
          → ◌>>=◌ {B = (ℕ × Fields) × List ℕ} (counter_at bytes) (λ n. number_at w32 n.1 >>= λ many. fields_at read limit many.0 0 many.1 >>= λ fs. Some ((n.0, fs.0), fs.1)) ≡ Some ((n, fs), rest)
      inside n bytes r r2 count a b c = rw (a, b, c) refl

      by_test : (none : Bool) → (none ≡ true → n ≡ 0) × (n ≡ 0 → none ≡ true)
          → object_at read limit ((if none then 0 else 1) + left) ((if none then [] else tagged 6 n ++ (to_be_bytes w32 (fields_count (field_nodes_of fs)) ++ fields_bytes (field_nodes_of fs))) ++ rest) ≡ Some ((n, fs), rest)
      by_test true is =
          let same : 0 + left ≡ left = omega arith in
          rw (same, later, is.0 refl, empty (is.0 refl)) refl
      by_test false is =
          let r2 = fields_bytes (field_nodes_of fs) ++ rest in
          let r = to_be_bytes w32 (fields_count (field_nodes_of fs)) ++ r2 in
          rw (starts_here 6 left (to_be_bytes w64 n ++ r))
          (inside n (to_be_bytes w64 n ++ r) r r2 (fields_count (field_nodes_of fs)) (counter_again n r small (λ zero. false≢true (is.1 zero)))
          (number_codec_32.again (fields_count (field_nodes_of fs)) r2 (let all = few_fit limit 0 fs (omega arith) fits in omega arith)) (fields_again limit 0 fs rest (omega arith) fits))

  -- ---- all kinds

  -- what stands from a kind on, before the rest, and how many kinds these are
  abbrev pub from_objects : Counted → List ℕ → List ℕ
  from_objects (counted c b fs) rest = object_part c.objects fs ++ rest

  abbrev pub from_arrays : Counted → List ℕ → List ℕ
  from_arrays (counted c b fs) rest = array_part c.arrays b ++ (object_part c.objects fs ++ rest)

  abbrev pub from_texts : Counted → List ℕ → List ℕ
  from_texts d rest = scalar_part 4 (counters_of d).texts ++ from_arrays d rest

  abbrev pub from_integers : Counted → List ℕ → List ℕ
  from_integers d rest = scalar_part 3 (counters_of d).integers ++ from_texts d rest

  abbrev pub from_booleans : Counted → List ℕ → List ℕ
  from_booleans d rest = scalar_part 2 (counters_of d).booleans ++ from_integers d rest

  abbrev pub from_nulls : Counted → List ℕ → List ℕ
  from_nulls d rest = scalar_part 1 (counters_of d).nulls ++ from_booleans d rest

  abbrev pub objects_count : Counters → ℕ
  objects_count c = one_if_some c.objects + 0

  abbrev pub arrays_count : Counters → ℕ
  arrays_count c = one_if_some c.arrays + objects_count c

  abbrev pub texts_count : Counters → ℕ
  texts_count c = one_if_some c.texts + arrays_count c

  abbrev pub integers_count : Counters → ℕ
  integers_count c = one_if_some c.integers + texts_count c

  abbrev pub booleans_count : Counters → ℕ
  booleans_count c = one_if_some c.booleans + integers_count c

  abbrev pub nulls_count : Counters → ℕ
  nulls_count c = one_if_some c.nulls + booleans_count c

  -- the counters before a kind from the first, and from the kind on from the second
  abbrev with_objects : Counters → Counters → Counters
  with_objects c d = record c { objects = d.objects }

  abbrev with_arrays : Counters → Counters → Counters
  with_arrays c d = record (with_objects c d) { arrays = d.arrays }

  abbrev with_texts : Counters → Counters → Counters
  with_texts c d = record (with_arrays c d) { texts = d.texts }

  abbrev with_integers : Counters → Counters → Counters
  with_integers c d = record (with_texts c d) { integers = d.integers }

  abbrev with_booleans : Counters → Counters → Counters
  with_booleans c d = record (with_integers c d) { booleans = d.booleans }

  abbrev pub ItemsHeld : Counted → Type 0
  ItemsHeld (counted c b fs) = (c.arrays ≡ 0 → b ≡ no_item) × BelowFits P b

  abbrev pub MembersHeld : ℕ → Counted → Type 0
  MembersHeld limit (counted c b fs) = (c.objects ≡ 0 → fs ≡ no_fields) × FieldsFit P limit 0 fs

  record FromObjects (limit left : ℕ) (c : Counters) (b : Below) (bytes : List ℕ) (q : Counted × List ℕ) : Type 0 where
    spelled : bytes ≡ from_objects q.0 q.1
    each : IsBytes q.1
    left_is : left ≡ one_if_some (counters_of q.0).objects
    before : counters_of q.0 ≡ record c { objects = (counters_of q.0).objects }
    below : below_of q.0 ≡ b
    small : total (counters_of q.0) < 2 ^ 64
    members : MembersHeld limit q.0

  objects_found : (limit left : ℕ) (c : Counters) (b : Below) (bytes : List ℕ) (q : Counted × List ℕ) → IsBytes bytes → objects_at read limit left c b bytes ≡ Some q → FromObjects limit left c b bytes q
  objects_found limit left c b bytes q each gives =
      let object = then_parts (object_at read limit left bytes) _ q gives in
      let here = object_found limit left bytes object.0 each object.1 in
      by_test object.0 here (left - one_if_some object.0.0.0 == 0 && nat_lt (total (record c { objects = object.0.0.0 })) (2 ^ 64)) (λ is. both left (one_if_some object.0.0.0) (total (record c { objects = object.0.0.0 })) (2 ^ 64) is here.2) object.2
    where
      both : (left one sum most : ℕ) → (left - one == 0 && nat_lt sum most) ≡ true → one ≤ left → (left ≡ one) × (sum < most)
      both left one sum most is le = grind (arith, nat_tests)

      by_test : (f : (ℕ × Fields) × List ℕ) → ObjectFound limit left bytes f → (test : Bool) → (test ≡ true → (left ≡ one_if_some f.0.0) × (total (record c { objects = f.0.0 }) < 2 ^ 64))
          → (if test then Some (counted (record c { objects = f.0.0 }) b f.0.1, f.1) else None) ≡ Some q → FromObjects limit left c b bytes q
      by_test f here true is gives =
          subst (FromObjects limit left c b bytes) (same_Some _ _ gives)
          record { spelled = here.0; each = here.1; left_is = (is refl).0; before = refl; below = refl; small = (is refl).1; members = (here.3, here.4) }
      by_test f here false is gives = cc

  -- the kinds from one on, as they are read
  pub record From (from : Counted → List ℕ → List ℕ) (count : Counters → ℕ) (with : Counters → Counters → Counters) (limit left : ℕ) (c : Counters) (bytes : List ℕ) (q : Counted × List ℕ) : Type 0 where
    pub spelled : bytes ≡ from q.0 q.1
    pub each : IsBytes q.1
    pub left_is : left ≡ count (counters_of q.0)
    pub before : counters_of q.0 ≡ with c (counters_of q.0)
    pub small : total (counters_of q.0) < 2 ^ 64
    pub items : ItemsHeld q.0
    pub members : MembersHeld limit q.0

  arrays_found : (limit left : ℕ) (c : Counters) (bytes : List ℕ) (q : Counted × List ℕ) → IsBytes bytes → arrays_at read limit left c bytes ≡ Some q → From from_arrays arrays_count with_arrays limit left c bytes q
  arrays_found limit left c bytes (d, rest) each gives =
      let array = then_parts (array_at read left bytes) _ (d, rest) gives in
      let here = array_found left bytes array.0 each array.1 in
      let later = objects_found limit (left - one_if_some array.0.0.0) (record c { arrays = array.0.0.0 }) array.0.0.1 array.0.1 (d, rest) here.1 array.2 in
      joined d array.0 here later
    where
      joined : (d : Counted) (e : (ℕ × Below) × List ℕ) → ArrayFound left bytes e → FromObjects limit (left - one_if_some e.0.0) (record c { arrays = e.0.0 }) e.0.1 e.1 (d, rest) → From from_arrays arrays_count with_arrays limit left c bytes (d, rest)
      joined (counted c' b' fs') e here later =
          let number : e.0.0 ≡ c'.arrays = sym (ap (λ x. x.arrays) later.before) in
          let place : e.0.1 ≡ b' = sym later.below in
          record {
            spelled = here.0 ∙ rw (number, place, later.spelled) refl;
            each = later.each;
            left_is = let count : one_if_some e.0.0 ≡ one_if_some c'.arrays = ap one_if_some number in omega (arith, later.left_is, here.2, count);
            before = later.before ∙ ap (λ n. let x : Counters = record c { arrays = n; objects = c'.objects } in x) number;
            small = later.small;
            items = (λ zero. sym place ∙ here.3 (number ∙ zero), subst (BelowFits P) place here.4);
            members = later.members;
          }

  -- a scalar kind, and the kinds after it
  scalar_stage : (tag limit : ℕ) (get : Counters → ℕ) (set : ℕ → Counters → Counters) (from : Counted → List ℕ → List ℕ) (count : Counters → ℕ) (later_with with : Counters → Counters → Counters)
      (next : ℕ → Counters → Reader Counted)
      → ((n : ℕ) (c d : Counters) → get (later_with (set n c) d) ≡ n) → ((c d : Counters) → later_with (set (get d) c) d ≡ with c d)
      → ((left : ℕ) (c : Counters) (bytes : List ℕ) (q : Counted × List ℕ) → IsBytes bytes → next left c bytes ≡ Some q → From from count later_with limit left c bytes q)
      → (left : ℕ) (c : Counters) (bytes : List ℕ) (q : Counted × List ℕ) → IsBytes bytes → (scalar_at tag left bytes >>= λ n. next (left - one_if_some n.0) (set n.0 c) n.1) ≡ Some q
      → From (λ d rest. scalar_part tag (get (counters_of d)) ++ from d rest) (λ c. one_if_some (get c) + count c) with limit left c bytes q
  scalar_stage tag limit get set from count later_with with next got kept found left c bytes q each gives =
      let first = then_parts (scalar_at tag left bytes) _ q gives in
      let here = scalar_found tag left bytes first.0.0 first.0.1 each first.1 in
      joined first.0 here (found (left - one_if_some first.0.0) (set first.0.0 c) first.0.1 q here.1 first.2)
    where
      joined : (n : ℕ × List ℕ) → (bytes ≡ scalar_part tag n.0 ++ n.1) × IsBytes n.1 × (one_if_some n.0 ≤ left) → From from count later_with limit (left - one_if_some n.0) (set n.0 c) n.1 q
          → From (λ d rest. scalar_part tag (get (counters_of d)) ++ from d rest) (λ c. one_if_some (get c) + count c) with limit left c bytes q
      joined n here later =
          let number : n.0 ≡ get (counters_of q.0) = sym (ap get later.before ∙ got n.0 c (counters_of q.0)) in
          record {
            spelled = here.0 ∙ ap (λ m. scalar_part tag m ++ n.1) number ∙ ap (λ r. scalar_part tag (get (counters_of q.0)) ++ r) later.spelled;
            each = later.each;
            left_is = let same : one_if_some n.0 ≡ one_if_some (get (counters_of q.0)) = ap one_if_some number in omega (arith, later.left_is, here.2, same);
            before = later.before ∙ ap (λ m. later_with (set m c) (counters_of q.0)) number ∙ kept c (counters_of q.0);
            small = later.small;
            items = later.items;
            members = later.members;
          }

  pub kinds_found : (limit left : ℕ) (bytes : List ℕ) (q : Counted × List ℕ) → IsBytes bytes → kinds_at read limit left bytes ≡ Some q → From from_nulls nulls_count (λ c d. d) limit left no_counters bytes q
  kinds_found limit left bytes q each gives =
      let texts = scalar_stage 4 limit (λ c. c.texts) (λ n c. record c { texts = n }) from_arrays arrays_count with_arrays with_texts (λ left c. arrays_at read limit left c) (λ n c d. refl) (λ c d. refl) (arrays_found limit) in
      let integers = scalar_stage 3 limit (λ c. c.integers) (λ n c. record c { integers = n }) from_texts texts_count with_texts with_integers (λ left c. texts_at read limit left c) (λ n c d. refl) (λ c d. refl) texts in
      let booleans = scalar_stage 2 limit (λ c. c.booleans) (λ n c. record c { booleans = n }) from_integers integers_count with_integers with_booleans (λ left c. integers_at read limit left c) (λ n c d. refl) (λ c d. refl) integers in
      scalar_stage 1 limit (λ c. c.nulls) (λ n c. record c { nulls = n }) from_booleans booleans_count with_booleans (λ c d. d) (λ left c. booleans_at read limit left c) (λ n c d. refl) (λ c d. refl) booleans left no_counters bytes q each gives

  -- ---- what is spelled is read

  objects_again : (limit : ℕ) (c : Counters) (b : Below) (n : ℕ) (fs : Fields) (rest : List ℕ) → limit < 2 ^ 32 → n < 2 ^ 64 → (n ≡ 0 → fs ≡ no_fields) → FieldsFit P limit 0 fs → total (record c { objects = n }) < 2 ^ 64
      → objects_at read limit (one_if_some n + 0) c b (object_part n fs ++ rest) ≡ Some (counted (record c { objects = n }) b fs, rest)
  objects_again limit c b n fs rest few small empty fits sum =
      let passes : (one_if_some n + 0 - one_if_some n == 0 && nat_lt (total (record c { objects = n })) (2 ^ 64)) ≡ true = holds (one_if_some n) (total (record c { objects = n })) (2 ^ 64) sum in
      rw (object_again limit n 0 fs rest few small empty fits (no_kind_left 6 rest), passes) refl
    where
      holds : (one sum most : ℕ) → sum < most → (one + 0 - one == 0 && nat_lt sum most) ≡ true
      holds one sum most less = grind (arith, nat_tests)

  arrays_again : (limit : ℕ) (c : Counters) (m n : ℕ) (b : Below) (fs : Fields) (rest : List ℕ) → limit < 2 ^ 32 → m < 2 ^ 64 → n < 2 ^ 64 → (m ≡ 0 → b ≡ no_item) → (n ≡ 0 → fs ≡ no_fields) → BelowFits P b → FieldsFit P limit 0 fs
      → total (record c { arrays = m; objects = n }) < 2 ^ 64
      → arrays_at read limit (one_if_some m + (one_if_some n + 0)) c (array_part m b ++ (object_part n fs ++ rest)) ≡ Some (counted (record c { arrays = m; objects = n }) b fs, rest)
  arrays_again limit c m n b fs rest few small_m small_n no_items no_members below fields sum =
      let left : one_if_some m + (one_if_some n + 0) - one_if_some m ≡ one_if_some n + 0 = omega arith in
      rw (array_again m (one_if_some n + 0) b (object_part n fs ++ rest) small_m no_items below (skips 5 6 n 0 _ rest (λ same. absurd (omega (arith, same))) (no_kind_left 5 rest)), left)
      (objects_again limit (record c { arrays = m }) b n fs rest few small_n no_members fields sum)

  scalar_stage_again : (tag n left : ℕ) (next : ℕ → ℕ → Reader Counted) (more : List ℕ) (q : Counted × List ℕ) → n < 2 ^ 64 → starts tag left more ≡ false → next left n more ≡ Some q
      → (scalar_at tag (one_if_some n + left) (scalar_part tag n ++ more) >>= λ d. next (one_if_some n + left - one_if_some d.0) d.0 d.1) ≡ Some q
  scalar_stage_again tag n left next more q small later reads =
      let same : one_if_some n + left - one_if_some n ≡ left = omega arith in
      rw (scalar_again tag n left more small later, same) reads

  -- no kind of another tag starts the kinds from one on
  skips_objects : (tag : ℕ) (d : Counted) (rest : List ℕ) → tag ≢ 6 → starts tag (objects_count (counters_of d)) (from_objects d rest) ≡ false
  skips_objects tag (counted c b fs) rest other = skips tag 6 c.objects 0 _ rest other (no_kind_left tag rest)

  skips_arrays : (tag : ℕ) (d : Counted) (rest : List ℕ) → tag ≢ 5 → tag ≢ 6 → starts tag (arrays_count (counters_of d)) (from_arrays d rest) ≡ false
  skips_arrays tag (counted c b fs) rest other last = skips tag 5 c.arrays (objects_count c) _ (object_part c.objects fs ++ rest) other (skips_objects tag (counted c b fs) rest last)

  skips_texts : (tag : ℕ) (d : Counted) (rest : List ℕ) → tag ≢ 4 → tag ≢ 5 → tag ≢ 6 → starts tag (texts_count (counters_of d)) (from_texts d rest) ≡ false
  skips_texts tag d rest a b c = skips tag 4 (counters_of d).texts (arrays_count (counters_of d)) _ (from_arrays d rest) a (skips_arrays tag d rest b c)

  skips_integers : (tag : ℕ) (d : Counted) (rest : List ℕ) → tag ≢ 3 → tag ≢ 4 → tag ≢ 5 → tag ≢ 6 → starts tag (integers_count (counters_of d)) (from_integers d rest) ≡ false
  skips_integers tag d rest z a b c = skips tag 3 (counters_of d).integers (texts_count (counters_of d)) _ (from_texts d rest) z (skips_texts tag d rest a b c)

  skips_booleans : (tag : ℕ) (d : Counted) (rest : List ℕ) → tag ≢ 2 → tag ≢ 3 → tag ≢ 4 → tag ≢ 5 → tag ≢ 6 → starts tag (booleans_count (counters_of d)) (from_booleans d rest) ≡ false
  skips_booleans tag d rest y z a b c = skips tag 2 (counters_of d).booleans (integers_count (counters_of d)) _ (from_integers d rest) y (skips_integers tag d rest z a b c)

  pub skips_nulls : (tag : ℕ) (d : Counted) (rest : List ℕ) → tag ≢ 1 → tag ≢ 2 → tag ≢ 3 → tag ≢ 4 → tag ≢ 5 → tag ≢ 6 → starts tag (nulls_count (counters_of d)) (from_nulls d rest) ≡ false
  skips_nulls tag d rest x y z a b c = skips tag 1 (counters_of d).nulls (booleans_count (counters_of d)) _ (from_booleans d rest) x (skips_booleans tag d rest y z a b c)

  pub kinds_again : (limit : ℕ) (c : Counters) (b : Below) (fs : Fields) (rest : List ℕ) → limit < 2 ^ 32 → total c < 2 ^ 64 → (c.arrays ≡ 0 → b ≡ no_item) → (c.objects ≡ 0 → fs ≡ no_fields) → BelowFits P b → FieldsFit P limit 0 fs
      → kinds_at read limit (nulls_count c) (from_nulls (counted c b fs) rest) ≡ Some (counted c b fs, rest)
  kinds_again limit c b fs rest few small no_items no_members below fields =
      let d = counted c b fs in
      let c1 : Counters = record no_counters { nulls = c.nulls } in
      let c2 : Counters = record c1 { booleans = c.booleans } in
      let c3 : Counters = record c2 { integers = c.integers } in
      let c4 : Counters = record c3 { texts = c.texts } in
      let arrays_read = arrays_again limit c4 c.arrays c.objects b fs rest few (omega arith) (omega arith) no_items no_members below fields small in
      let texts_read = scalar_stage_again 4 c.texts (arrays_count c) (λ left n bytes. arrays_at read limit left (record c3 { texts = n }) bytes) (from_arrays d rest) (d, rest) (omega arith)
      (skips_arrays 4 d rest (λ h. absurd (omega (arith, h))) (λ h. absurd (omega (arith, h)))) arrays_read in
      let integers_read = scalar_stage_again 3 c.integers (texts_count c) (λ left n bytes. texts_at read limit left (record c2 { integers = n }) bytes) (from_texts d rest) (d, rest) (omega arith)
      (skips_texts 3 d rest (λ h. absurd (omega (arith, h))) (λ h. absurd (omega (arith, h))) (λ h. absurd (omega (arith, h)))) texts_read in
      let booleans_read = scalar_stage_again 2 c.booleans (integers_count c) (λ left n bytes. integers_at read limit left (record c1 { booleans = n }) bytes) (from_integers d rest) (d, rest) (omega arith)
      (skips_integers 2 d rest (λ h. absurd (omega (arith, h))) (λ h. absurd (omega (arith, h))) (λ h. absurd (omega (arith, h))) (λ h. absurd (omega (arith, h)))) integers_read in
      scalar_stage_again 1 c.nulls (booleans_count c) (λ left n bytes. booleans_at read limit left (record no_counters { nulls = n }) bytes) (from_booleans d rest) (d, rest) (omega arith)
      (skips_booleans 1 d rest (λ h. absurd (omega (arith, h))) (λ h. absurd (omega (arith, h))) (λ h. absurd (omega (arith, h))) (λ h. absurd (omega (arith, h))) (λ h. absurd (omega (arith, h)))) booleans_read

-- ---- a place

pub kinds_among : (c : Counters) → kinds_in c ≤ total c
kinds_among c = omega (arith, some_of c.nulls, some_of c.booleans, some_of c.integers, some_of c.texts, some_of c.arrays, some_of c.objects)
  where
    some_of : (n : ℕ) → one_if_some n ≤ n
    some_of n = grind (arith, nat_tests)

-- where something is counted there is a kind
pub some_kind : (c : Counters) → 0 < total c → 0 < kinds_in c
some_kind c some = let some_there : kinds_in c ≢ 0 = no_kind in omega arith
  where
    none : (n : ℕ) → one_if_some n ≡ 0 → n ≡ 0
    none n same = grind (arith, nat_tests)

    no_kind : kinds_in c ≡ 0 → ⊥
    no_kind same =
        let a = none c.nulls (omega (arith, same)) in
        let b = none c.booleans (omega (arith, same)) in
        let d = none c.integers (omega (arith, same)) in
        let e = none c.texts (omega (arith, same)) in
        let f = none c.arrays (omega (arith, same)) in
        let g = none c.objects (omega (arith, same)) in omega (arith, a, b, d, e, f, g, some)
