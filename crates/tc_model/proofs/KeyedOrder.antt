-- That lists of keys and values stay in order, and what holds of each entry stays so.
use Rattle.std.proofs.Common.{◌≡◌, ℕ, Bool, true, false, List, [], ◌∷◌, refl, ap, ◌∙◌, subst}
use Rattle.std.specs.Prelude.{nat_lt, ◌==◌, cond, if◌then◌else◌, All}
use Rattle.std.specs.declared.cmp.Ordering.TheVariants.{Less, Equal, Greater}
use Rattle.std.specs.Ordering.{nat_cmp, ordering_reverse}
use Rattle.std.specs.Cmp.{nat_cmp_total}
use Rattle.std.specs.List.{AllByRecursion}
use Rattle.std.specs.List.Sorted.{IsStrictlySortedBy}
use Rattle.std.specs.Map.{keys_of}
use Rattle.std.proofs.lemmas.Bool.{eqb-true}
use Rattle.std.proofs.lemmas.List.Elements.{All-nil, All-cons, All-head, All-tail}
use Rattle.std.proofs.lemmas.Map.Keys.{sorted_head, sorted_tail}
use Rattle.tc_model.specs.Keyed.{Keyed, with_value, without_key}

-- each of these keys is greater
abbrev pub AreAbove : ℕ → List ℕ → Type 0
AreAbove m ks = AllByRecursion (λ k. nat_cmp m k ≡ Less) ks

pub sorted_nil : IsStrictlySortedBy nat_cmp []
unfolding IsStrictlySortedBy
sorted_nil = tt

pub sorted_cons : (k : ℕ) (ks : List ℕ) → AreAbove k ks → IsStrictlySortedBy nat_cmp ks → IsStrictlySortedBy nat_cmp (k ∷ ks)
unfolding IsStrictlySortedBy
sorted_cons k ks above sorted = (above, sorted)

pub above_less : (n m : ℕ) (ks : List ℕ) → nat_cmp n m ≡ Less → AreAbove m ks → AreAbove n ks
above_less n m [] less above = tt
above_less n m (k ∷ ks) less above = (nat_cmp_total.trans n m k less above.0, above_less n m ks less above.1)

pub less_by : (n m : ℕ) → nat_lt n m ≡ true → nat_cmp n m ≡ Less
less_by n m l = ap (λ b. cond b Less (cond (n == m) Equal Greater)) l

greater_by : (n m : ℕ) → nat_lt n m ≡ false → (n == m) ≡ false → nat_cmp m n ≡ Less
greater_by n m not_less apart =
    nat_cmp_total.antisymm m n ∙ ap (λ b. ordering_reverse (cond b Less (cond (n == m) Equal Greater))) not_less ∙ ap (λ b. ordering_reverse (cond b Equal Greater)) apart

-- ---- a value put in

above_step : {V : Type 0} (less same : Bool) (m n : ℕ) (v : V) (e : ℕ × V) (es more : Keyed V) → nat_cmp m n ≡ Less → AreAbove m (keys_of (e ∷ es)) → AreAbove m (keys_of more)
    → AreAbove m (keys_of (if less then (n, v) ∷ e ∷ es else (if same then (e.0, v) ∷ es else e ∷ more)))
above_step true same m n v e es more less above h = (less, above)
above_step false true m n v e es more less above h = above
above_step false false m n v e es more less above h = (above.0, h)

above-with_value : {V : Type 0} (m n : ℕ) (v : V) (es : Keyed V) → nat_cmp m n ≡ Less → AreAbove m (keys_of es) → AreAbove m (keys_of (with_value n v es))
above-with_value m n v [] less above = (less, tt)
above-with_value m n v (e ∷ es) less above =
    above_step (nat_lt n e.0) (n == e.0) m n v e es (with_value n v es) less above (above-with_value m n v es less above.1)

sorted_step : {V : Type 0} (less same : Bool) (n : ℕ) (v : V) (e : ℕ × V) (es more : Keyed V) → (less ≡ true → nat_cmp n e.0 ≡ Less) → IsStrictlySortedBy nat_cmp (keys_of (e ∷ es))
    → (less ≡ false → same ≡ false → AreAbove e.0 (keys_of more)) → IsStrictlySortedBy nat_cmp (keys_of more)
    → IsStrictlySortedBy nat_cmp (keys_of (if less then (n, v) ∷ e ∷ es else (if same then (e.0, v) ∷ es else e ∷ more)))
sorted_step true same n v e es more before sorted after h =
    sorted_cons n (e.0 ∷ keys_of es) (before refl, above_less n e.0 (keys_of es) (before refl) (sorted_head nat_cmp e.0 (keys_of es) sorted)) sorted
sorted_step false true n v e es more before sorted after h = sorted
sorted_step false false n v e es more before sorted after h = sorted_cons e.0 (keys_of more) (after refl refl) h

pub sorted-with_value : {V : Type 0} (n : ℕ) (v : V) (es : Keyed V) → IsStrictlySortedBy nat_cmp (keys_of es) → IsStrictlySortedBy nat_cmp (keys_of (with_value n v es))
sorted-with_value n v [] sorted = sorted_cons n [] tt sorted_nil
sorted-with_value n v (e ∷ es) sorted =
    sorted_step (nat_lt n e.0) (n == e.0) n v e es (with_value n v es) (less_by n e.0) sorted
    (λ not_less apart. above-with_value e.0 n v es (greater_by n e.0 not_less apart) (sorted_head nat_cmp e.0 (keys_of es) sorted))
    (sorted-with_value n v es (sorted_tail nat_cmp e.0 (keys_of es) sorted))

all_step : {V : Type 0} (P : ℕ × V → Type 0) (less same : Bool) (n : ℕ) (v : V) (e : ℕ × V) (es more : Keyed V) → (same ≡ true → n ≡ e.0) → P (n, v) → All P (e ∷ es) → All P more
    → All P (if less then (n, v) ∷ e ∷ es else (if same then (e.0, v) ∷ es else e ∷ more))
all_step P true same n v e es more at new all h = All-cons P (n, v) (e ∷ es) new all
all_step P false true n v e es more at new all h = All-cons P (e.0, v) es (subst (λ k. P (k, v)) (at refl) new) (All-tail P e es all)
all_step P false false n v e es more at new all h = All-cons P e more (All-head P e es all) h

pub All-with_value : {V : Type 0} (P : ℕ × V → Type 0) (n : ℕ) (v : V) (es : Keyed V) → P (n, v) → All P es → All P (with_value n v es)
All-with_value P n v [] new all = All-cons P (n, v) [] new (All-nil P)
All-with_value P n v (e ∷ es) new all =
    all_step P (nat_lt n e.0) (n == e.0) n v e es (with_value n v es) (eqb-true n e.0) new all (All-with_value P n v es new (All-tail P e es all))

-- ---- a key taken out

above_left : {V : Type 0} (same : Bool) (m : ℕ) (e : ℕ × V) (es more : Keyed V) → AreAbove m (keys_of (e ∷ es)) → AreAbove m (keys_of more) → AreAbove m (keys_of (if same then es else e ∷ more))
above_left true m e es more above h = above.1
above_left false m e es more above h = (above.0, h)

above-without_key : {V : Type 0} (m n : ℕ) (es : Keyed V) → AreAbove m (keys_of es) → AreAbove m (keys_of (without_key n es))
above-without_key m n [] above = tt
above-without_key m n (e ∷ es) above = above_left (n == e.0) m e es (without_key n es) above (above-without_key m n es above.1)

sorted_left : {V : Type 0} (same : Bool) (e : ℕ × V) (es more : Keyed V) → IsStrictlySortedBy nat_cmp (keys_of es) → AreAbove e.0 (keys_of more) → IsStrictlySortedBy nat_cmp (keys_of more)
    → IsStrictlySortedBy nat_cmp (keys_of (if same then es else e ∷ more))
sorted_left true e es more sorted above h = sorted
sorted_left false e es more sorted above h = sorted_cons e.0 (keys_of more) above h

pub sorted-without_key : {V : Type 0} (n : ℕ) (es : Keyed V) → IsStrictlySortedBy nat_cmp (keys_of es) → IsStrictlySortedBy nat_cmp (keys_of (without_key n es))
sorted-without_key n [] sorted = sorted
sorted-without_key n (e ∷ es) sorted =
    let tail = sorted_tail nat_cmp e.0 (keys_of es) sorted in
    sorted_left (n == e.0) e es (without_key n es) tail (above-without_key e.0 n es (sorted_head nat_cmp e.0 (keys_of es) sorted)) (sorted-without_key n es tail)

all_left : {V : Type 0} (P : ℕ × V → Type 0) (same : Bool) (e : ℕ × V) (es more : Keyed V) → All P (e ∷ es) → All P more → All P (if same then es else e ∷ more)
all_left P true e es more all h = All-tail P e es all
all_left P false e es more all h = All-cons P e more (All-head P e es all) h

pub All-without_key : {V : Type 0} (P : ℕ × V → Type 0) (n : ℕ) (es : Keyed V) → All P es → All P (without_key n es)
All-without_key P n [] all = all
All-without_key P n (e ∷ es) all = all_left P (n == e.0) e es (without_key n es) all (All-without_key P n es (All-tail P e es all))
