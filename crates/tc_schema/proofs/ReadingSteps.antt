-- One step of reading after another.
use Rattle.std.proofs.Common.{◌≡◌, ◌≢◌, ℕ, zero, suc, ◌+◌, ◌-◌, ◌<◌, ◌≤◌, ◌==◌, nat_lt, Bool, true, false, List, [], ◌∷◌, ◌++◌, drop, Option, Some, None, option_map, ◌⊎◌, inl, inr, if◌then◌else◌, refl, ap, arith}
use Rattle.std.specs.Int.{w32}
use Rattle.std.proofs.lemmas.Bool.Decides.{Decides-ltb, nat_tests}
use Rattle.std.proofs.lemmas.Bool.{false≢true, le-ltb, lt-ltb}
use Rattle.tc_bytes.specs.Reading.{Reader, ◌>>=◌, number_at}
use Rattle.tc_schema_model.specs.Counted.{Counters, Counted, Below, Fields, no_fields, a_field}
use Rattle.tc_schema.specs.Places.{listed}
use Rattle.tc_schema.specs.Reading.{starts, array_at, object_at, fields_at, place_ended, arrays_at, union_at, kinds_at, place_at}
use Rattle.tc_schema.specs.Writing.{one_if_some}

-- a place, where a level is left
pub place_step : (limit levels : ℕ) (bytes : List ℕ) → levels ≢ 0
    → place_at limit levels bytes ≡ (if starts 8 1 bytes then union_at (place_at limit (levels - 1)) limit (drop 1 bytes) else kinds_at (place_at limit (levels - 1)) limit 1 bytes)
place_step limit zero bytes some = absurd (some refl)
place_step limit (suc levels) bytes some = let less : suc levels - 1 ≡ levels = omega arith in rw less refl

-- fields before further ones
abbrev pub before : List (ℕ × Counted) → Fields → Fields
before [] fs = fs
before (f ∷ fs) gs = a_field f.0 f.1 (before fs gs)

abbrev pub onto : List (ℕ × Counted) → Fields × List ℕ → Fields × List ℕ
onto done q = (before done q.0, q.1)

before_more : (done : List (ℕ × Counted)) (f : ℕ × Counted) (fs : Fields) → before (done ++ f ∷ []) fs ≡ before done (a_field f.0 f.1 fs)
before_more [] f fs = refl
before_more (g ∷ done) f fs = ap (a_field g.0 g.1) (before_more done f fs)

pub before_none : (done : List (ℕ × Counted)) → before done no_fields ≡ listed done
before_none [] = refl
before_none (f ∷ done) = ap (a_field f.0 f.1) (before_none done)

module _ (read : Reader Counted) (limit : ℕ) where
  -- no field where there is no number, where the number is out of order, or where there is no place
  pub no_number : (left low : ℕ) (bytes : List ℕ) → 0 < left → number_at w32 bytes ≡ None → fields_at read limit left low bytes ≡ None
  no_number zero low bytes some none = absurd (omega arith)
  no_number (suc left) low bytes some none = rw none refl

  pub number_refused : (left low : ℕ) (bytes : List ℕ) (n : ℕ) (r : List ℕ) → 0 < left → number_at w32 bytes ≡ Some (n, r) → (n < low) ⊎ (limit ≤ n) → fields_at read limit left low bytes ≡ None
  number_refused zero low bytes n r some number out = absurd (omega arith)
  number_refused (suc left) low bytes n r some number out = rw number (outside (nat_lt n low) (nat_lt n limit) (Decides-ltb n low) (Decides-ltb n limit) out)
    where
      outside : (under inside : Bool) → (under ≡ true → n < low) × (n < low → under ≡ true) → (inside ≡ true → n < limit) × (n < limit → inside ≡ true) → (n < low) ⊎ (limit ≤ n)
          → ◌≡◌ {A = Option (Fields × List ℕ)} (if under then None else (if inside then (read r >>= λ d. fields_at read limit left (n + 1) d.1 >>= λ fs. Some (a_field n d.0 fs.0, fs.1)) else None)) None
      outside true inside is_under is_inside out = refl
      outside false false is_under is_inside out = refl
      outside false true is_under is_inside (inl less) = absurd (false≢true (is_under.1 less))
      outside false true is_under is_inside (inr le) = absurd (let less = is_inside.0 refl in omega arith)

  pub no_place : (left low : ℕ) (bytes : List ℕ) (n : ℕ) (r : List ℕ) → 0 < left → number_at w32 bytes ≡ Some (n, r) → low ≤ n → n < limit → read r ≡ None → fields_at read limit left low bytes ≡ None
  no_place zero low bytes n r some number least below none = absurd (omega arith)
  no_place (suc left) low bytes n r some number least below none = rw (number, le-ltb n low least, lt-ltb n limit below, none) refl

  -- one field, and those after it
  pub next_field : (left low : ℕ) (bytes : List ℕ) (n : ℕ) (r : List ℕ) (d : Counted) (r2 : List ℕ) (done : List (ℕ × Counted)) → 0 < left → number_at w32 bytes ≡ Some (n, r) → low ≤ n → n < limit → read r ≡ Some (d, r2)
      → option_map (onto (done ++ (n, d) ∷ [])) (fields_at read limit (left - 1) (n + 1) r2) ≡ option_map (onto done) (fields_at read limit left low bytes)
  next_field zero low bytes n r d r2 done some number least below place = absurd (omega arith)
  next_field (suc left) low bytes n r d r2 done some number least below place =
      let less : suc left - 1 ≡ left = omega arith in
      rw (number, le-ltb n low least, lt-ltb n limit below, place, less) (joined (fields_at read limit left (n + 1) r2))
    where
      joined : (o : Option (Fields × List ℕ)) → option_map (onto (done ++ (n, d) ∷ [])) o ≡ option_map (onto done) (o >>= λ fs. Some (a_field n d fs.0, fs.1))
      joined None = refl
      joined (Some q) = ap (λ fs. let pair : Fields × List ℕ = (fs, q.1) in Some pair) (before_more done (n, d) q.0)

  -- nothing is left to read
  pub all_read : (left low : ℕ) (bytes : List ℕ) (done : List (ℕ × Counted)) → left ≡ 0 → option_map (onto done) (fields_at read limit left low bytes) ≡ Some (listed done, bytes)
  all_read left low bytes done none = rw none (ap (λ fs. let pair : Fields × List ℕ = (fs, bytes) in Some pair) (before_none done))

-- more kinds were to come than there are
pub kind_missing : (left n : ℕ) (c : Counters) (b : Below) (fs : Fields) (bytes : List ℕ) → left ≢ one_if_some n → one_if_some n ≤ left → place_ended left n c b fs bytes ≡ None
kind_missing left n c b fs bytes other le = rw (not_equal left (one_if_some n) other le) refl
  where
    not_equal : (l k : ℕ) → (l ≡ k → ⊥) → k ≤ l → (l - k == 0) ≡ false
    not_equal l k other le = grind (arith, nat_tests)

-- the kinds behind the scalar kinds: no array, no object, or both
module _ (read : Reader Counted) (limit left : ℕ) (c : Counters) (bytes : List ℕ) where
  pub no_array : array_at read left bytes ≡ None → arrays_at read limit left c bytes ≡ None
  no_array none = rw none refl

  pub no_object : (n : ℕ) (b : Below) (r : List ℕ) (l : ℕ) → l ≡ left - one_if_some n → array_at read left bytes ≡ Some ((n, b), r) → object_at read limit l r ≡ None
      → arrays_at read limit left c bytes ≡ None
  no_object n b r l is array none = rw (array, ← is, none) refl

  pub both_read : (n : ℕ) (b : Below) (r : List ℕ) (l : ℕ) (m : ℕ) (fs : Fields) (rest : List ℕ) → l ≡ left - one_if_some n → array_at read left bytes ≡ Some ((n, b), r)
      → object_at read limit l r ≡ Some ((m, fs), rest) → arrays_at read limit left c bytes ≡ place_ended l m (record c { arrays = n; objects = m }) b fs rest
  both_read n b r l m fs rest is array object = rw (array, ← is, object) refl
