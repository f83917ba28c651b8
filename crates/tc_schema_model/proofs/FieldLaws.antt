-- The fields of a place by their numbers: what is found after one is put in or taken out, and that they stay in order.
use Rattle.std.proofs.Common.{◌≡◌, ◌≢◌, ℕ, ◌+◌, ◌<◌, ◌≤◌, ◌==◌, if◌then◌else◌, refl, ◌∙◌, arith}
use Rattle.std.proofs.lemmas.Bool.Decides.{nat_tests}
use Rattle.tc_schema_model.specs.Counted.{Counted, counted, Below, no_item, an_item, Fields, no_fields, a_field, nothing, held, field_at, IsCanonical, IsBelowCanonical, AreFieldsCanonical, IsOrdered, IsBelowOrdered, AreFieldsOrdered}
use Rattle.tc_schema_model.specs.Added.{put_field, without_field}

pub field_at-put_field : (n : ℕ) (d : Counted) (fs : Fields) (m : ℕ) → field_at m (put_field n d fs) ≡ (if n == m then d else field_at m fs)
field_at-put_field n d no_fields m = none n d m
  where
    none : (n : ℕ) (d : Counted) (m : ℕ) → field_at m (a_field n d no_fields) ≡ (if n == m then d else nothing)
    none n d m = grind (arith, nat_tests)
field_at-put_field n d (a_field k e fs) m = more n d k e fs m (field_at-put_field n d fs m)
  where
    more : (n : ℕ) (d : Counted) (k : ℕ) (e : Counted) (fs : Fields) (m : ℕ) → field_at m (put_field n d fs) ≡ (if n == m then d else field_at m fs)
        → field_at m (put_field n d (a_field k e fs)) ≡ (if n == m then d else field_at m (a_field k e fs))
    more n d k e fs m later = grind (arith, nat_tests)

pub field_at-put_field_here : (n : ℕ) (d : Counted) (fs : Fields) → field_at n (put_field n d fs) ≡ d
field_at-put_field_here n d fs = field_at-put_field n d fs n ∙ here n d (field_at n fs)
  where
    here : (n : ℕ) (d e : Counted) → (if n == n then d else e) ≡ d
    here n d e = grind (arith, nat_tests)

pub field_at-put_field_elsewhere : (n : ℕ) (d : Counted) (fs : Fields) (m : ℕ) → n ≢ m → field_at m (put_field n d fs) ≡ field_at m fs
field_at-put_field_elsewhere n d fs m other = field_at-put_field n d fs m ∙ elsewhere n m d (field_at m fs) other
  where
    elsewhere : (n m : ℕ) (d e : Counted) → n ≢ m → (if n == m then d else e) ≡ e
    elsewhere n m d e other = grind (arith, nat_tests)

-- below the lowest number there is nothing
pub nothing_below : (low : ℕ) (fs : Fields) (m : ℕ) → AreFieldsOrdered low fs → m < low → field_at m fs ≡ nothing
nothing_below low no_fields m order below = refl
nothing_below low (a_field k e fs) m order below = first low k e fs m order.0 below
  where
    first : (low k : ℕ) (e : Counted) (fs : Fields) (m : ℕ) → low ≤ k → m < low → field_at m (a_field k e fs) ≡ nothing
    first low k e fs m least below = grind (arith, nat_tests)

pub field_at-without_field : (n low : ℕ) (fs : Fields) (m : ℕ) → AreFieldsOrdered low fs → field_at m (without_field n fs) ≡ (if n == m then nothing else field_at m fs)
field_at-without_field n low no_fields m order = none n m
  where
    none : (n m : ℕ) → nothing ≡ (if n == m then nothing else nothing)
    none n m = grind (arith, nat_tests)
field_at-without_field n low (a_field k e fs) m order = more n k e fs m (field_at-without_field n (k + 1) fs m order.2) (nothing_below (k + 1) fs m order.2)
  where
    more : (n k : ℕ) (e : Counted) (fs : Fields) (m : ℕ) → field_at m (without_field n fs) ≡ (if n == m then nothing else field_at m fs) → (m < k + 1 → field_at m fs ≡ nothing)
        → field_at m (without_field n (a_field k e fs)) ≡ (if n == m then nothing else field_at m (a_field k e fs))
    more n k e fs m later below = grind (arith, nat_tests)

-- ---- order

mutual
  pub ordered_from_canonical : (limit : ℕ) (d : Counted) → IsCanonical limit d → IsOrdered d
  ordered_from_canonical limit (counted c b fs) canonical = (below_ordered limit b canonical.2, fields_ordered limit 0 fs canonical.3)

  pub below_ordered : (limit : ℕ) (b : Below) → IsBelowCanonical limit b → IsBelowOrdered b
  below_ordered limit no_item canonical = tt
  below_ordered limit (an_item d) canonical = ordered_from_canonical limit d canonical.1

  pub fields_ordered : (limit low : ℕ) (fs : Fields) → AreFieldsCanonical limit low fs → AreFieldsOrdered low fs
  fields_ordered limit low no_fields canonical = tt
  fields_ordered limit low (a_field n d fs) canonical = (canonical.0, ordered_from_canonical limit d canonical.3, fields_ordered limit (n + 1) fs canonical.4)

pub field_ordered : (low n : ℕ) (fs : Fields) → AreFieldsOrdered low fs → IsOrdered (field_at n fs)
field_ordered low n no_fields order = (tt, tt)
field_ordered low n (a_field k e fs) order = choose n k e fs order.1 (field_ordered (k + 1) n fs order.2)
  where
    choose : (n k : ℕ) (e : Counted) (fs : Fields) → IsOrdered e → IsOrdered (field_at n fs) → IsOrdered (field_at n (a_field k e fs))
    choose n k e fs here later = grind (arith, nat_tests)

-- ---- canonical parts

pub held_canonical : (limit : ℕ) (b : Below) → IsBelowCanonical limit b → IsCanonical limit (held b)
held_canonical limit no_item canonical = (λ _. refl, λ _. refl, tt, tt)
held_canonical limit (an_item d) canonical = canonical.1

-- ---- a higher limit

mutual
  pub canonical_below : (limit more : ℕ) (d : Counted) → limit ≤ more → IsCanonical limit d → IsCanonical more d
  canonical_below limit more (counted c b fs) le canonical = (canonical.0, canonical.1, below_below limit more b le canonical.2, fields_below limit more 0 fs le canonical.3)

  below_below : (limit more : ℕ) (b : Below) → limit ≤ more → IsBelowCanonical limit b → IsBelowCanonical more b
  below_below limit more no_item le canonical = tt
  below_below limit more (an_item d) le canonical = (canonical.0, canonical_below limit more d le canonical.1)

  fields_below : (limit more low : ℕ) (fs : Fields) → limit ≤ more → AreFieldsCanonical limit low fs → AreFieldsCanonical more low fs
  fields_below limit more low no_fields le canonical = tt
  fields_below limit more low (a_field n d fs) le canonical =
      (canonical.0, omega (arith, canonical.1), canonical.2, canonical_below limit more d le canonical.3, fields_below limit more (n + 1) fs le canonical.4)
