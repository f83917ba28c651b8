-- What the newest entries have of a key: what the last of the lists that have the key has.
use Rattle.std.proofs.Common.{◌≡◌, ℕ, Bool, true, false, List, [], ◌∷◌, ◌++◌, refl, sym, ap, ◌∙◌, Option, Some, None}
use Rattle.std.specs.Prelude.{◌==◌, if◌then◌else◌, fold, flat_map, All}
use Rattle.std.specs.Option.{option_or}
use Rattle.std.specs.Ordering.{nat_cmp}
use Rattle.std.specs.Map.{keys_of}
use Rattle.std.proofs.lemmas.Bool.{eqb-true}
use Rattle.std.proofs.lemmas.List.Elements.{All-nil, All-cons, All-head, All-tail}
use Rattle.std.proofs.lemmas.Map.Keys.{sorted_head, sorted_tail}
use Rattle.tc_model.specs.Keyed.{Keyed, Ascends, value_of, with_value}
use Rattle.tc_model.proofs.KeyedOrder.{sorted_nil, sorted-with_value, All-with_value}
use Rattle.tc_model.proofs.KeyedLookups.{value_of-with_value, value_of-above}
use Rattle.tc_merge.specs.Newest.{newest}

-- entries put in one after the other
abbrev pub put_all : {V : Type 0} → Keyed V → Keyed V → Keyed V
put_all es ws = fold (λ entries e. with_value e.0 e.1 entries) es ws

Ascends-put_all : {V : Type 0} (es ws : Keyed V) → Ascends es → Ascends (put_all es ws)
Ascends-put_all es [] up = up
Ascends-put_all es (w ∷ ws) up = Ascends-put_all (with_value w.0 w.1 es) ws (sorted-with_value w.0 w.1 es up)

pub Ascends-newest : {V : Type 0} (ls : List (Keyed V)) → Ascends (newest ls)
Ascends-newest ls = Ascends-put_all [] (flat_map (λ l. l) ls) sorted_nil

-- the last value of a key
abbrev last_value : {V : Type 0} → ℕ → Keyed V → Option V
last_value k [] = None
last_value k (w ∷ ws) = option_or (last_value k ws) (if k == w.0 then Some w.1 else None)

value_of-put_all : {V : Type 0} (k : ℕ) (es ws : Keyed V) → value_of k (put_all es ws) ≡ option_or (last_value k ws) (value_of k es)
value_of-put_all k es [] = refl
value_of-put_all {V} k es (w ∷ ws) =
    value_of-put_all k (with_value w.0 w.1 es) ws
    ∙ step (k == w.0) (last_value k ws) (value_of k (with_value w.0 w.1 es)) (value_of-with_value k w.0 w.1 es)
  where
    step : (b : Bool) (last now : Option V) → now ≡ (if b then Some w.1 else value_of k es) → option_or last now ≡ option_or (option_or last (if b then Some w.1 else None)) (value_of k es)
    step true None now is = is
    step true (Some x) now is = refl
    step false None now is = is
    step false (Some x) now is = refl

or_assoc : {V : Type 0} (a b c : Option V) → option_or a (option_or b c) ≡ option_or (option_or a b) c
or_assoc None b c = refl
or_assoc (Some x) b c = refl

or_nothing : {V : Type 0} (a : Option V) → option_or a None ≡ a
or_nothing None = refl
or_nothing (Some x) = refl

last_value-append : {V : Type 0} (k : ℕ) (xs ys : Keyed V) → last_value k (xs ++ ys) ≡ option_or (last_value k ys) (last_value k xs)
last_value-append k [] ys = sym (or_nothing (last_value k ys))
last_value-append k (x ∷ xs) ys =
    ap (λ last. option_or last (if k == x.0 then Some x.1 else None)) (last_value-append k xs ys)
    ∙ sym (or_assoc (last_value k ys) (last_value k xs) (if k == x.0 then Some x.1 else None))

last_value-ascending : {V : Type 0} (k : ℕ) (es : Keyed V) → Ascends es → last_value k es ≡ value_of k es
last_value-ascending k [] up = refl
last_value-ascending {V} k (e ∷ es) up =
    ap (λ last. option_or last (if k == e.0 then Some e.1 else None)) (last_value-ascending k es (sorted_tail nat_cmp e.0 (keys_of es) up))
    ∙ step (k == e.0) (value_of k es) (λ here. rw (eqb-true k e.0 here) (value_of-above e.0 es (sorted_head nat_cmp e.0 (keys_of es) up)))
  where
    step : (b : Bool) (rest : Option V) → (b ≡ true → rest ≡ None) → option_or rest (if b then Some e.1 else None) ≡ (if b then Some e.1 else rest)
    step true rest none = rw (none refl) refl
    step false rest none = or_nothing rest

-- of a key the value in the last of the lists that have it
abbrev pub newest_value : {V : Type 0} → ℕ → List (Keyed V) → Option V
newest_value k [] = None
newest_value k (l ∷ ls) = option_or (newest_value k ls) (value_of k l)

last-newest_value : {V : Type 0} (k : ℕ) (ls : List (Keyed V)) → All Ascends ls → last_value k (flat_map (λ l. l) ls) ≡ newest_value k ls
last-newest_value k [] up = refl
last-newest_value k (l ∷ ls) up =
    last_value-append k l (flat_map (λ l. l) ls)
    ∙ ap (λ newer. option_or newer (last_value k l)) (last-newest_value k ls (All-tail Ascends l ls up))
    ∙ ap (option_or (newest_value k ls)) (last_value-ascending k l (All-head Ascends l ls up))

pub value_of-newest : {V : Type 0} (k : ℕ) (ls : List (Keyed V)) → All Ascends ls → value_of k (newest ls) ≡ newest_value k ls
value_of-newest k ls up = value_of-put_all k [] (flat_map (λ l. l) ls) ∙ or_nothing (last_value k (flat_map (λ l. l) ls)) ∙ last-newest_value k ls up

-- ---- what holds of each entry holds of the newest

pub All-put_all : {V : Type 0} (P : ℕ × V → Type 0) (es ws : Keyed V) → All P es → All P ws → All P (put_all es ws)
All-put_all P es [] old new = old
All-put_all P es (w ∷ ws) old new = All-put_all P (with_value w.0 w.1 es) ws (All-with_value P w.0 w.1 es (All-head P w ws new) old) (All-tail P w ws new)

All-append : {V : Type 0} (P : V → Type 0) (xs ys : List V) → All P xs → All P ys → All P (xs ++ ys)
All-append P [] ys some more = more
All-append P (x ∷ xs) ys some more = All-cons P x (xs ++ ys) (All-head P x xs some) (All-append P xs ys (All-tail P x xs some) more)

All-flat : {V : Type 0} (P : ℕ × V → Type 0) (ls : List (Keyed V)) → All (All P) ls → All P (flat_map (λ l. l) ls)
All-flat P [] each = All-nil P
All-flat P (l ∷ ls) each = All-append P l (flat_map (λ l. l) ls) (All-head (All P) l ls each) (All-flat P ls (All-tail (All P) l ls each))

pub All-newest : {V : Type 0} (P : ℕ × V → Type 0) (ls : List (Keyed V)) → All (All P) ls → All P (newest ls)
All-newest P ls each = All-put_all P [] (flat_map (λ l. l) ls) (All-nil P) (All-flat P ls each)
