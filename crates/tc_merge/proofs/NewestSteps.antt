-- One step of a merge: the newest entries begin with the one of the least key that is ahead, from the last list that has it.
use Rattle.std.proofs.Common.{◌≡◌, ◌<◌, ℕ, zero, suc, Bool, true, false, List, [], ◌∷◌, refl, sym, ◌∙◌, Some, None, Less, map, slice_get, arith}
use Rattle.std.specs.Prelude.{◌==◌, if◌then◌else◌, All}
use Rattle.std.specs.Ordering.{nat_cmp}
use Rattle.std.specs.Map.{keys_of}
use Rattle.std.proofs.lemmas.Bool.{eqb-true}
use Rattle.std.proofs.lemmas.List.Elements.{All-nil, All-cons, All-head, All-tail}
use Rattle.std.proofs.lemmas.Map.Keys.{sorted_head, sorted_tail}
use Rattle.std.proofs.lemmas.Option.{same_Some}
use Rattle.tc_model.specs.Keyed.{Keyed, Ascends, value_of}
use Rattle.tc_model.proofs.KeyedOrder.{AreAbove, sorted_cons, above_less}
use Rattle.tc_model.proofs.KeyedLookups.{value_of-above}
use Rattle.tc_model.proofs.KeyedEquality.{same_keyed, value_of-here}
use Rattle.tc_merge.specs.Newest.{newest}
use Rattle.tc_merge.proofs.NewestValues.{Ascends-newest, newest_value, value_of-newest, All-newest}

-- the entries behind a key, where it stands first
abbrev pub behind : {V : Type 0} → ℕ → Keyed V → Keyed V
behind k [] = []
behind k (e ∷ es) = if k == e.0 then es else e ∷ es

-- no entry, or one of a greater key, stands first; and also the same key may
abbrev pub Passed : {V : Type 0} → ℕ → Keyed V → Type 0
Passed k [] = Unit {0}
Passed k (e ∷ es) = nat_cmp k e.0 ≡ Less

pub record Starts {V : Type 0} (k : ℕ) (l : Keyed V) : Type 0 where
  pub ascends : Ascends l
  pub from : Passed k (behind k l)

-- ---- one list

behind-ascends : {V : Type 0} (k : ℕ) (l : Keyed V) → Ascends l → Ascends (behind k l)
behind-ascends k [] up = up
behind-ascends k (e ∷ es) up = step (k == e.0)
  where
    step : (b : Bool) → Ascends (if b then es else e ∷ es)
    step true = sorted_tail nat_cmp e.0 (keys_of es) up
    step false = up

passed_above : {V : Type 0} (k : ℕ) (l : Keyed V) → Ascends l → Passed k l → AreAbove k (keys_of l)
passed_above k [] up passed = tt
passed_above k (e ∷ es) up passed = (passed, above_less k e.0 (keys_of es) passed (sorted_head nat_cmp e.0 (keys_of es) up))

behind-other : {V : Type 0} (j k : ℕ) (l : Keyed V) → (j == k) ≡ false → value_of j (behind k l) ≡ value_of j l
behind-other j k [] other = refl
behind-other {V} j k (e ∷ es) other = step (k == e.0) (λ same. rw (sym (eqb-true k e.0 same)) other)
  where
    step : (b : Bool) → (b ≡ true → (j == e.0) ≡ false) → value_of j (if b then es else e ∷ es) ≡ (if j == e.0 then Some e.1 else value_of j es)
    step true apart = rw (apart refl) refl
    step false apart = refl

-- ---- all lists

-- the list at a place has the key first, and newer ones have passed it
pub record IsWinner {V : Type 0} (ls : List (Keyed V)) (at k : ℕ) (v : V) : Type 0 where
  pub rest : Keyed V
  pub here : slice_get ls at ≡ Some ((k, v) ∷ rest)
  pub newer : (i : ℕ) (l : Keyed V) → at < i → slice_get ls i ≡ Some l → Passed k l

none_newer : {V : Type 0} (k : ℕ) (ls : List (Keyed V)) → All Ascends ls → ((i : ℕ) (l : Keyed V) → slice_get ls i ≡ Some l → Passed k l) → newest_value k ls ≡ None
none_newer k [] up passed = refl
none_newer k (l ∷ ls) up passed =
    rw (none_newer k ls (All-tail Ascends l ls up) (λ i m here. passed (suc i) m here)) (value_of-above k l (passed_above k l (All-head Ascends l ls up) (passed 0 l refl)))

winner_value : {V : Type 0} (ls : List (Keyed V)) (at k : ℕ) (v : V) → All Ascends ls → IsWinner ls at k v → newest_value k ls ≡ Some v
winner_value [] at k v up wins = absurd (cc)
winner_value (l ∷ ls) zero k v up wins =
    let first : l ≡ (k, v) ∷ wins.rest = same_Some l ((k, v) ∷ wins.rest) wins.here in
    rw (none_newer k ls (All-tail Ascends l ls up) (λ i m here. wins.newer (suc i) m (omega arith) here), first) (value_of-here k v wins.rest)
winner_value (l ∷ ls) (suc at) k v up wins =
    rw (winner_value ls at k v (All-tail Ascends l ls up) (record { rest = wins.rest; here = wins.here; newer = λ i m further here. wins.newer (suc i) m (omega (arith, further)) here })) refl

others_stay : {V : Type 0} (j k : ℕ) (ls : List (Keyed V)) → (j == k) ≡ false → newest_value j (map (behind k) ls) ≡ newest_value j ls
others_stay j k [] other = refl
others_stay j k (l ∷ ls) other = rw (others_stay j k ls other, behind-other j k l other) refl

all_ascend : {V : Type 0} (k : ℕ) (ls : List (Keyed V)) → All (Starts k) ls → All Ascends ls
all_ascend k [] all = All-nil Ascends
all_ascend k (l ∷ ls) all = All-cons Ascends l ls (All-head (Starts k) l ls all).ascends (all_ascend k ls (All-tail (Starts k) l ls all))

all_behind : {V : Type 0} (k : ℕ) (ls : List (Keyed V)) → All (Starts k) ls → All Ascends (map (behind k) ls)
all_behind k [] all = All-nil Ascends
all_behind k (l ∷ ls) all = All-cons Ascends (behind k l) (map (behind k) ls) (behind-ascends k l (All-head (Starts k) l ls all).ascends) (all_behind k ls (All-tail (Starts k) l ls all))

all_above : {V : Type 0} (m : ℕ) (l : Keyed V) → AreAbove m (keys_of l) → All (λ e. nat_cmp m e.0 ≡ Less) l
all_above m [] above = All-nil (λ e. nat_cmp m e.0 ≡ Less)
all_above m (e ∷ es) above = All-cons (λ x. nat_cmp m x.0 ≡ Less) e es above.0 (all_above m es above.1)

above_all : {V : Type 0} (m : ℕ) (l : Keyed V) → All (λ e. nat_cmp m e.0 ≡ Less) l → AreAbove m (keys_of l)
above_all m [] above = tt
above_all m (e ∷ es) above = (All-head (λ x. nat_cmp m x.0 ≡ Less) e es above, above_all m es (All-tail (λ x. nat_cmp m x.0 ≡ Less) e es above))

each_above : {V : Type 0} (k : ℕ) (ls : List (Keyed V)) → All (Starts k) ls → All (All (λ e. nat_cmp k e.0 ≡ Less)) (map (behind k) ls)
each_above k [] all = All-nil (All (λ e. nat_cmp k e.0 ≡ Less))
each_above k (l ∷ ls) all =
    let first = All-head (Starts k) l ls all in
    All-cons (All (λ e. nat_cmp k e.0 ≡ Less)) (behind k l) (map (behind k) ls)
    (all_above k (behind k l) (passed_above k (behind k l) (behind-ascends k l first.ascends) first.from))
    (each_above k ls (All-tail (Starts k) l ls all))

pub newest_step : {V : Type 0} (ls : List (Keyed V)) (at k : ℕ) (v : V) → All (Starts k) ls → IsWinner ls at k v → newest ls ≡ (k, v) ∷ newest (map (behind k) ls)
newest_step {V} ls at k v all wins =
    same_keyed (newest ls) ((k, v) ∷ newest (map (behind k) ls)) (Ascends-newest ls)
    (sorted_cons k (keys_of (newest (map (behind k) ls))) (above_all k (newest (map (behind k) ls)) (All-newest (λ e. nat_cmp k e.0 ≡ Less) (map (behind k) ls) (each_above k ls all))) (Ascends-newest (map (behind k) ls)))
    (λ j. value_of-newest j ls (all_ascend k ls all) ∙ step j (j == k) refl)
  where
    step : (j : ℕ) (b : Bool) → (j == k) ≡ b → newest_value j ls ≡ (if b then Some v else value_of j (newest (map (behind k) ls)))
    step j true same = rw (eqb-true j k same) (winner_value ls at k v (all_ascend k ls all) wins)
    step j false other = sym (others_stay j k ls other) ∙ sym (value_of-newest j (map (behind k) ls) (all_behind k ls all))
