-- The rows of a directory, from a place on.
use Rattle.std.proofs.Common.{◌≡◌, ◌+◌, ℕ, zero, suc, Bool, true, false, List, [], ◌∷◌, ◌++◌, refl, sym, ap, ◌∙◌, subst, Some, None, map, take, drop, slice_get, arith, filter}
use Rattle.std.specs.Prelude.{◌==◌, if◌then◌else◌, is_some}
use Rattle.std.specs.Ordering.{nat_cmp}
use Rattle.std.specs.Map.{keys_of}
use Rattle.std.specs.List.Sorted.{IsStrictlySortedBy}
use Rattle.std.proofs.lemmas.List.{drop-drop}
use Rattle.std.proofs.lemmas.List.Sums.{sum_by-cons}
use Rattle.std.proofs.lemmas.Map.Keys.{sorted_tail}
use Rattle.std.proofs.lemmas.Option.{same_Some}
use Rattle.tc_model.specs.Keyed.{Keyed, Ascends}
use Rattle.tc_component.specs.declared.slot.Slot.{Slot}
use Rattle.tc_component.specs.Spelling.{Row, Ascend, lengths_of}
use Rattle.tc_merge.specs.Merging.{held_in, rows_in, kept}

keys_of-rows_in : (version : ℕ) (slots : List Slot) (bytes : List ℕ) → keys_of (rows_in version slots bytes) ≡ map (λ s. s.key) slots
keys_of-rows_in version [] bytes = refl
keys_of-rows_in version (s ∷ slots) bytes = ap (λ keys. s.key ∷ keys) (keys_of-rows_in version slots (drop s.length bytes))

pub Ascends-rows_in : (version : ℕ) (slots : List Slot) (bytes : List ℕ) → Ascend slots → Ascends (rows_in version slots bytes)
Ascends-rows_in version slots bytes up = subst (IsStrictlySortedBy nat_cmp) (sym (keys_of-rows_in version slots bytes)) up

pub Ascends-drop : {V : Type 0} (n : ℕ) (es : Keyed V) → Ascends es → Ascends (drop n es)
Ascends-drop zero es up = up
Ascends-drop (suc n) [] up = up
Ascends-drop (suc n) (e ∷ es) up = Ascends-drop n es (sorted_tail nat_cmp e.0 (keys_of es) up)

-- the row at a place, and those behind it
pub rows_there : (version : ℕ) (slots : List Slot) (bytes : List ℕ) (at : ℕ) (s : Slot) → slice_get slots at ≡ Some s
    → drop at (rows_in version slots bytes) ≡ (s.key, held_in version s.length (drop (lengths_of (take at slots)) bytes)) ∷ drop (at + 1) (rows_in version slots bytes)
rows_there version [] bytes at s here = absurd (cc)
rows_there version (t ∷ slots) bytes zero s here = ap (λ (u : Slot). (u.key, held_in version u.length bytes) ∷ rows_in version slots (drop t.length bytes)) (same_Some t s here)
rows_there version (t ∷ slots) bytes (suc at) s here =
    let further : suc (at + 1) ≡ suc at + 1 = omega arith in
    rows_there version slots (drop t.length bytes) at s here
    ∙ ap (λ rest. (s.key, held_in version s.length rest) ∷ drop (at + 1) (rows_in version slots (drop t.length bytes))) (drop-drop (lengths_of (take at slots)) t.length bytes)
    ∙ ap (λ n. (s.key, held_in version s.length (drop n bytes)) ∷ drop (at + 1) (rows_in version slots (drop t.length bytes))) (sym (sum_by-cons (λ (u : Slot). u.length) t (take at slots)))
    ∙ ap (λ n. (s.key, held_in version s.length (drop (lengths_of (t ∷ take at slots)) bytes)) ∷ drop n (rows_in version (t ∷ slots) bytes)) further

pub no_rows : (version : ℕ) (slots : List Slot) (bytes : List ℕ) (at : ℕ) → slice_get slots at ≡ None → drop at (rows_in version slots bytes) ≡ []
no_rows version [] bytes zero none = refl
no_rows version [] bytes (suc at) none = refl
no_rows version (s ∷ slots) bytes zero none = absurd (cc)
no_rows version (s ∷ slots) bytes (suc at) none = no_rows version slots (drop s.length bytes) at none

-- what is kept of a row, and of those behind it
pub kept-first : (from : ℕ) (row : Row) (rows : List Row) → kept from (row ∷ rows) ≡ kept from (row ∷ []) ++ kept from rows
kept-first from row rows = cases (from == 1) (is_some row.1)
  where
    cases : (b c : Bool) → (if b then (if c then row ∷ filter (λ r. is_some r.1) rows else filter (λ r. is_some r.1) rows) else row ∷ rows)
        ≡ (if b then (if c then row ∷ [] else []) else row ∷ []) ++ (if b then filter (λ r. is_some r.1) rows else rows)
    cases true true = refl
    cases true false = refl
    cases false c = refl
