-- The newest write of each key, found from the newest write to the oldest.
use Rattle.std.proofs.Common.{◌≡◌, ◌<◌, ◌+◌, ◌-◌, ℕ, Bool, true, false, List, [], ◌∷◌, ◌++◌, Option, Some, None, length, get_or, take, drop, refl, sym, ap, ◌∙◌, subst, arith}
use Rattle.std.specs.Prelude.{◌==◌, if◌then◌else◌, fold, flat_map, is_some, slice_get, All}
use Rattle.std.specs.Option.{option_or}
use Rattle.std.proofs.lemmas.Bool.{eqb-true}
use Rattle.std.proofs.lemmas.List.{take-append-drop}
use Rattle.std.proofs.lemmas.List.Concat.{flat_map-append, flat_map-cons}
use Rattle.std.proofs.lemmas.Option.{get_or_from_slice_get, slice_get_within}
use Rattle.tc_log.specs.declared.write.Write.{Write}
use Rattle.tc_log.specs.declared.write.Write.TheVariants.{Upsert, Delete}
use Rattle.tc_log.specs.Writes.{key_of, write_of}
use Rattle.tc_machine.proofs.Options.{All-front, All-back}
use Rattle.tc_memory.specs.Table.{Kept, Table, gone, live, shape_kept, upserted, deleted}
use Rattle.tc_model.proofs.KeyedEquality.{same_keyed}
use Rattle.tc_model.proofs.KeyedLookups.{value_of-with_value}
use Rattle.tc_model.proofs.KeyedOrder.{sorted_nil, sorted-with_value}
use Rattle.tc_model.specs.Keyed.{Ascends, value_of, with_value, without_key}
use Rattle.tc_value.proofs.Sizes.{from_place}
use Rattle.tc_shown.specs.Newest.{any_shape, left_by, with_write, newest_of}

-- ---- writes over a table

Ascends-with_writes : (t : Table) (ws : List Write) → Ascends t → Ascends (fold with_write t ws)
Ascends-with_writes t [] up = up
Ascends-with_writes t (w ∷ ws) up = Ascends-with_writes (with_write t w) ws (sorted-with_value (key_of w) (left_by w) t up)

Ascends-newest_of : (ws : List Write) → Ascends (newest_of ws)
Ascends-newest_of ws = let none : Ascends {V = Kept} [] = sorted_nil in Ascends-with_writes [] ws none

-- what the newest of them leaves of a key, or else what was there
found_over : (k : ℕ) (t : Table) (ws : List Write) → value_of k (fold with_write t ws) ≡ option_or (value_of k (newest_of ws)) (value_of k t)
found_over k t [] = refl
found_over k t (w ∷ ws) =
    found_over k (with_write t w) ws
    ∙ step (value_of k (newest_of ws)) (k == key_of w) (value_of k (with_write t w)) (value_of-with_value k (key_of w) (left_by w) t)
    ∙ ap (λ o. option_or o (value_of k t)) (sym (found_over k (with_write [] w) ws))
  where
    step : (newest : Option Kept) (b : Bool) (now : Option Kept) → now ≡ (if b then Some (left_by w) else value_of k t)
        → option_or newest now ≡ option_or (option_or newest (if b then Some (left_by w) else None)) (value_of k t)
    step (Some s) b now is = refl
    step None true now is = is
    step None false now is = is

-- ---- one write below others

found_below : (k : ℕ) (w : Write) (ws : List Write) → value_of k (newest_of (w ∷ ws)) ≡ option_or (value_of k (newest_of ws)) (if k == key_of w then Some (left_by w) else None)
found_below k w ws = found_over k (with_write [] w) ws

some_there : (o : Option Kept) → is_some o ≡ true → o ≡ None → ⊥
some_there None is none = cc
some_there (Some s) is none = cc

-- where a later write is to its key, it leaves nothing
pub newest_stays : (w : Write) (ws : List Write) → is_some (value_of (key_of w) (newest_of ws)) ≡ true → newest_of ws ≡ newest_of (w ∷ ws)
newest_stays w ws there =
    same_keyed (newest_of ws) (newest_of (w ∷ ws)) (Ascends-newest_of ws) (Ascends-newest_of (w ∷ ws))
    (λ k. step k (value_of k (newest_of ws)) refl (k == key_of w) (eqb-true k (key_of w)) ∙ sym (found_below k w ws))
  where
    step : (k : ℕ) (newest : Option Kept) → value_of k (newest_of ws) ≡ newest → (b : Bool) → (b ≡ true → k ≡ key_of w) → newest ≡ option_or newest (if b then Some (left_by w) else None)
    step k (Some s) is b same = refl
    step k None is false same = refl
    step k None is true same = absurd (some_there (value_of (key_of w) (newest_of ws)) there (ap (λ n. value_of n (newest_of ws)) (sym (same refl)) ∙ is))

-- and where none is, it is the newest
pub newest_more : (w : Write) (ws : List Write) → value_of (key_of w) (newest_of ws) ≡ None → with_write (newest_of ws) w ≡ newest_of (w ∷ ws)
newest_more w ws none =
    same_keyed (with_write (newest_of ws) w) (newest_of (w ∷ ws)) (sorted-with_value (key_of w) (left_by w) (newest_of ws) (Ascends-newest_of ws)) (Ascends-newest_of (w ∷ ws))
    (λ k. value_of-with_value k (key_of w) (left_by w) (newest_of ws)
    ∙ step k (value_of k (newest_of ws)) refl (k == key_of w) (eqb-true k (key_of w))
    ∙ sym (found_below k w ws))
  where
    or_none : (o : Option Kept) → o ≡ option_or o None
    or_none None = refl
    or_none (Some s) = refl

    step : (k : ℕ) (newest : Option Kept) → value_of k (newest_of ws) ≡ newest → (b : Bool) → (b ≡ true → k ≡ key_of w)
        → (if b then Some (left_by w) else newest) ≡ option_or newest (if b then Some (left_by w) else None)
    step k newest is false same = or_none newest
    step k newest is true same = ap (λ o. option_or o (Some (left_by w))) (sym none ∙ ap (λ n. value_of n (newest_of ws)) (sym (same refl)) ∙ is)

-- ---- the calls of the table

none_here : (o : Option Kept) → false ≡ is_some o → o ≡ None
none_here None is = refl
none_here (Some s) is = cc

upsert_here : (key : ℕ) (bytes : List ℕ) (t : Table) → value_of key t ≡ None → upserted key bytes None t ≡ with_write t (Upsert key bytes)
upsert_here key bytes t none = ap (λ (o : Option Kept). with_value key (record { held = live bytes; below = shape_kept None o }) t) none

delete_here : (key : ℕ) (t : Table) → value_of key t ≡ None → deleted key (Some any_shape) t ≡ with_write t (Delete key)
delete_here key t none =
    ap (λ (o : Option Kept). if is_some (shape_kept (Some any_shape) o) then with_value key (record { held = gone; below = shape_kept (Some any_shape) o }) t else without_key key t) none

-- a write that is put where the newer ones have nothing of its key lies below them
put_here : (w : Write) (t new : Table) → value_of (key_of w) t ≡ None → new ≡ with_write t w → (newer : List Write) → t ≡ newest_of newer → new ≡ newest_of (w ∷ newer)
put_here w t new none is newer same = is ∙ ap (λ (o : Table). with_write o w) same ∙ newest_more w newer (subst (λ (o : Table). value_of (key_of w) o ≡ None) same none)

-- a write by its key, and by its record if it has one
key_there : (key : ℕ) (held : Option (List ℕ)) → key_of (write_of (key, held)) ≡ key
key_there key (Some bytes) = refl
key_there key None = refl

pub stays_below : (key : ℕ) (held : Option (List ℕ)) (t : Table) → true ≡ is_some (value_of key t) → (newer : List Write) → t ≡ newest_of newer → t ≡ newest_of (write_of (key, held) ∷ newer)
stays_below key held t there newer same =
    same ∙ newest_stays (write_of (key, held)) newer (ap (λ o. is_some (value_of (key_of (write_of (key, held))) o)) (sym same) ∙ ap (λ k. is_some (value_of k t)) (key_there key held) ∙ sym there)

pub upsert_below : (key : ℕ) (held : Option (List ℕ)) (bytes copied : List ℕ) (t new : Table) → held ≡ Some bytes → copied ≡ bytes → false ≡ is_some (value_of key t) → new ≡ upserted key copied None t
    → (newer : List Write) → t ≡ newest_of newer → new ≡ newest_of (write_of (key, held) ∷ newer)
upsert_below key held bytes copied t new is same free made newer here =
    let none = none_here (value_of key t) free in
    put_here (Upsert key bytes) t new none (made ∙ ap (λ b. upserted key b None t) same ∙ upsert_here key bytes t none) newer here
    ∙ ap (λ o. newest_of (write_of (key, o) ∷ newer)) (sym is)

pub delete_below : (key : ℕ) (held : Option (List ℕ)) (t new : Table) → held ≡ None → false ≡ is_some (value_of key t) → new ≡ deleted key (Some any_shape) t
    → (newer : List Write) → t ≡ newest_of newer → new ≡ newest_of (write_of (key, held) ∷ newer)
delete_below key held t new is free made newer here =
    let none = none_here (value_of key t) free in
    put_here (Delete key) t new none (made ∙ delete_here key t none) newer here
    ∙ ap (λ o. newest_of (write_of (key, o) ∷ newer)) (sym is)

-- ---- a list from its end to its front

-- the element that a loop stands at, and those behind it that it stood at before
pub from_get : {A : Type 0} (xs : List A) (i : ℕ) (x : A) → 0 < i → slice_get xs (i - 1) ≡ Some x → drop (i - 1) xs ≡ x ∷ drop i xs
from_get xs i x some is =
    let behind : i - 1 + 1 ≡ i = omega (arith, some) in
    from_place xs (i - 1) x (slice_get_within xs (i - 1) x is) (sym (get_or_from_slice_get xs (i - 1) x x is)) ∙ ap (λ n. x ∷ drop n xs) behind

-- ---- lists of lists

-- what holds of all elements of lists holds of those of one of them
pub all_of_one : {X Y : Type 0} (P : Y → Type 0) (f : X → List Y) (xs : List X) (i : ℕ) (x : X) → i < length xs → x ≡ get_or xs i x → All P (flat_map f xs) → All P (f x)
all_of_one P f xs i x inside here all =
    let rest = drop (i + 1) xs in
    let parts : xs ≡ take i xs ++ x ∷ rest = sym (take-append-drop i xs) ∙ ap (λ behind. take i xs ++ behind) (from_place xs i x inside here) in
    let flat : flat_map f xs ≡ flat_map f (take i xs) ++ (f x ++ flat_map f rest) =
    ap (flat_map f) parts ∙ flat_map-append f (take i xs) (x ∷ rest) ∙ ap (λ behind. flat_map f (take i xs) ++ behind) (flat_map-cons f x rest) in
    All-front P (f x) (flat_map f rest) (All-back P (flat_map f (take i xs)) (f x ++ flat_map f rest) (subst (λ ys. All P ys) flat all))
