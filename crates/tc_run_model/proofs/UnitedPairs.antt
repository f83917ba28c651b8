-- Values by key put together.
use Rattle.std.proofs.Common.{◌≡◌, ◌∙◌, ap, sym, refl, ℕ, ◌<◌, false, [], ◌∷◌, arith}
use Rattle.std.specs.Prelude.{nat_lt, ◌==◌, fold, All}
use Rattle.std.specs.declared.cmp.Ordering.TheVariants.{Less}
use Rattle.std.specs.Ordering.{nat_cmp}
use Rattle.std.specs.Cmp.{ranked}
use Rattle.std.specs.Map.{keys_of}
use Rattle.std.proofs.lemmas.Bool.{lt-ltb}
use Rattle.std.proofs.lemmas.Bool.Decides.{nat_tests}
use Rattle.std.proofs.lemmas.List.Elements.{All-nil, All-cons, All-head, All-tail}
use Rattle.std.proofs.lemmas.Map.Keys.{sorted_head, sorted_tail}
use Rattle.tc_model.specs.Keyed.{Keyed, Ascends, with_value}
use Rattle.tc_model.proofs.KeyedOrder.{sorted-with_value, AreAbove}

-- ---- keys behind another

-- each key is greater than this one
abbrev pub AreBehind : {V : Type 0} → ℕ → Keyed V → Type 0
AreBehind at xs = All (λ e. at < e.0) xs

pub apart_back : (a b : ℕ) → a < b → (b == a) ≡ false
apart_back a b less = grind (arith, nat_tests, less)

not_less : (a b : ℕ) → a < b → nat_lt b a ≡ false
not_less a b less = grind (arith, nat_tests, less)

pub with_value-front : {V : Type 0} (at : ℕ) (v : V) (all : Keyed V) → AreBehind at all → with_value at v all ≡ (at, v) ∷ all
with_value-front at v [] behind = refl
with_value-front at v (e ∷ es) behind = rw (lt-ltb at e.0 (All-head (λ e. at < e.0) e es behind)) refl

pub with_value-behind : {V : Type 0} (at n : ℕ) (first v : V) (all : Keyed V) → at < n → with_value n v ((at, first) ∷ all) ≡ (at, first) ∷ with_value n v all
with_value-behind at n first v all less = rw (not_less at n less, apart_back at n less) refl

above_behind : {V : Type 0} (n : ℕ) (es : Keyed V) → AreAbove n (keys_of es) → AreBehind n es
above_behind n [] above = All-nil (λ e. n < e.0)
above_behind n (e ∷ es) above = All-cons (λ e. n < e.0) e es (ranked n e.0 Less (sym above.0)) (above_behind n es above.1)

-- what stands behind the first one is greater
pub behind_first : {V : Type 0} (e : ℕ × V) (es : Keyed V) → Ascends (e ∷ es) → AreBehind e.0 es
behind_first e es ascends = above_behind e.0 es (sorted_head nat_cmp e.0 (keys_of es) ascends)

pub rest_ascends : {V : Type 0} (e : ℕ × V) (es : Keyed V) → Ascends (e ∷ es) → Ascends es
rest_ascends e es ascends = sorted_tail nat_cmp e.0 (keys_of es) ascends

-- ---- values put in, in ascending key

abbrev pub with_all : {V : Type 0} → Keyed V → Keyed V → Keyed V
with_all all more = fold (λ xs p. with_value p.0 p.1 xs) all more

pub Ascends-with_all : {V : Type 0} (all more : Keyed V) → Ascends all → Ascends (with_all all more)
Ascends-with_all all [] ascends = ascends
Ascends-with_all all (e ∷ more) ascends = Ascends-with_all (with_value e.0 e.1 all) more (sorted-with_value e.0 e.1 all ascends)

with_all-behind : {V : Type 0} (n : ℕ) (first : V) (all more : Keyed V) → AreBehind n more → with_all ((n, first) ∷ all) more ≡ (n, first) ∷ with_all all more
with_all-behind n first all [] behind = refl
with_all-behind n first all (e ∷ more) behind =
    ap (λ xs. with_all xs more) (with_value-behind n e.0 first e.1 all (All-head (λ e. n < e.0) e more behind))
    ∙ with_all-behind n first (with_value e.0 e.1 all) more (All-tail (λ e. n < e.0) e more behind)

pub with_all-ascending : {V : Type 0} (es : Keyed V) → Ascends es → with_all [] es ≡ es
with_all-ascending [] ascends = refl
with_all-ascending (e ∷ es) ascends =
    with_all-behind e.0 e.1 [] es (behind_first e es ascends) ∙ ap (λ more. e ∷ more) (with_all-ascending es (rest_ascends e es ascends))
