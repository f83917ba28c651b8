-- That each document which ascending writes set is live behind them.
use Rattle.std.proofs.Common.{◌≡◌, ◌<◌, ◌≤◌, ◌+◌, ◌==◌, ℕ, Bool, true, false, if◌then◌else◌, List, [], ◌∷◌, None, Some, length, flat_map, option_to_list, refl, arith, length-append}
use Rattle.std.specs.Prelude.{nat_lt}
use Rattle.std.specs.Map.{keys_of}
use Rattle.std.specs.Ordering.{nat_cmp}
use Rattle.std.proofs.lemmas.Bool.{eqb-true}
use Rattle.std.proofs.lemmas.Bool.Decides.{nat_tests}
use Rattle.std.proofs.lemmas.Map.Keys.{sorted_tail, below_from_sorted}
use Rattle.tc_model.specs.Document.{Document}
use Rattle.tc_model.specs.Keyed.{Ascends, with_value, without_key}
use Rattle.tc_plain_model.specs.Writes.{Pairs, Write, after_write, after_writes}
use Rattle.tc_audit.specs.Walking.{documents_among}

-- how many pairs have a key below another
abbrev one_if : Bool → ℕ
one_if true = 1
one_if false = 0

abbrev under : ℕ → Pairs → ℕ
under k [] = 0
under k (p ∷ ps) = one_if (nat_lt p.0 k) + under k ps

-- one key is counted, or is not
counts_one : (n k : ℕ) → n < k → one_if (nat_lt n k) ≡ 1
counts_one n k less = let test : nat_lt n k ≡ true = grind (arith, nat_tests) in rw test refl

counts_none : (n k : ℕ) → k ≤ n → one_if (nat_lt n k) ≡ 0
counts_none n k least = let test : nat_lt n k ≡ false = grind (arith, nat_tests) in rw test refl

one_under : (k m : ℕ) (n : ℕ) → k ≤ m → one_if (nat_lt n k) ≤ one_if (nat_lt n m)
one_under k m n less = by_test (nat_lt n k) refl
  where
    by_test : (b : Bool) → nat_lt n k ≡ b → one_if b ≤ one_if (nat_lt n m)
    by_test true is = let low : n < k = grind (arith, nat_tests) in omega (arith, counts_one n m (omega (arith, less, low)))
    by_test false is = omega arith

more_under : (k m : ℕ) (ps : Pairs) → k ≤ m → under k ps ≤ under m ps
more_under k m [] less = omega arith
more_under k m (p ∷ ps) less = omega (arith, one_under k m p.0 less, more_under k m ps less)

all_under : (k : ℕ) (ps : Pairs) → under k ps ≤ length ps
all_under k [] = omega arith
all_under k (p ∷ ps) = let most = at_most_one (nat_lt p.0 k) in omega (arith, most, all_under k ps)
  where
    at_most_one : (b : Bool) → one_if b ≤ 1
    at_most_one true = omega arith
    at_most_one false = omega arith

under_with : (k m : ℕ) (d : Document) (ps : Pairs) → k < m → under k ps + 1 ≤ under m (with_value k d ps)
under_with k m d [] less = omega (arith, counts_one k m less)
under_with k m d (p ∷ ps) less = cases (nat_lt k p.0) refl (k == p.0) refl (under_with k m d ps less)
  where
    cases : (first : Bool) → nat_lt k p.0 ≡ first → (same : Bool) → (k == p.0) ≡ same → under k ps + 1 ≤ under m (with_value k d ps)
        → under k (p ∷ ps) + 1 ≤ under m (if first then (k, d) ∷ p ∷ ps else (if same then (p.0, d) ∷ ps else p ∷ with_value k d ps))
    cases true first same is rest =
        omega (arith, counts_one k m less, more_under k m (p ∷ ps) (omega (arith, less)))
    cases false first true is rest =
        let key : k ≡ p.0 = eqb-true k p.0 is in
        omega (arith, counts_one p.0 m (omega (arith, key, less)), counts_none p.0 k (omega (arith, key)), more_under k m ps (omega (arith, less)))
    cases false first false is rest = omega (arith, one_under k m p.0 (omega (arith, less)), rest)

under_without : (k m : ℕ) (ps : Pairs) → k < m → under k ps ≤ under m (without_key k ps)
under_without k m [] less = omega arith
under_without k m (p ∷ ps) less = cases (k == p.0) refl (under_without k m ps less)
  where
    cases : (same : Bool) → (k == p.0) ≡ same → under k ps ≤ under m (without_key k ps) → under k (p ∷ ps) ≤ under m (if same then ps else p ∷ without_key k ps)
    cases true is rest =
        omega (arith, counts_none p.0 k (omega (arith, eqb-true k p.0 is)), more_under k m ps (omega (arith, less)))
    cases false is rest = omega (arith, one_under k m p.0 (omega (arith, less)), rest)

under_write : (m : ℕ) (w : Write) (ps : Pairs) → w.0 < m → under w.0 ps + length (option_to_list w.1) ≤ under m (after_write ps w)
under_write m (key, None) ps less = omega (arith, under_without key m ps less)
under_write m (key, Some d) ps less = omega (arith, under_with key m d ps less)

-- the first key is no less
abbrev BeginsFrom : ℕ → List Write → Type 0
BeginsFrom k [] = Unit {0}
BeginsFrom k (w ∷ ws) = k ≤ w.0

next_from : (w : Write) (ws : List Write) → Ascends (w ∷ ws) → BeginsFrom (w.0 + 1) ws
next_from w [] up = tt
next_from w (v ∷ ws) up = omega (arith, below_from_sorted (keys_of (w ∷ v ∷ ws)) 0 1 0 up (omega arith) (omega arith))

under_writes : (k : ℕ) (ws : List Write) (ps : Pairs) → Ascends ws → BeginsFrom k ws → under k ps + documents_among ws ≤ length (after_writes ps ws)
under_writes k [] ps up from = omega (arith, all_under k ps)
under_writes k (w ∷ ws) ps up from =
    let rest = under_writes (w.0 + 1) ws (after_write ps w) (sorted_tail nat_cmp w.0 (keys_of ws) up) (next_from w ws up) in
    let own = under_write (w.0 + 1) w ps (omega arith) in
    let more : documents_among (w ∷ ws) ≡ length (option_to_list w.1) + documents_among ws = length-append (option_to_list w.1) (flat_map (λ (e : Write). option_to_list e.1) ws) in
    omega (arith, rest, own, more, more_under k w.0 ps from)

pub many_live : (ws : List Write) (ps : Pairs) → Ascends ws → documents_among ws ≤ length (after_writes ps ws)
many_live ws ps up = omega (arith, under_writes 0 ws ps up (from_start ws))
  where
    from_start : (ws : List Write) → BeginsFrom 0 ws
    from_start [] = tt
    from_start (w ∷ ws) = omega arith
