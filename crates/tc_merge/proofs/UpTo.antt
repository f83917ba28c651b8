-- How far a merge is.
use Rattle.std.proofs.Common.{◌≡◌, ◌∙◌, ◌<◌, ◌≤◌, ◌+◌, ℕ, zero, suc, Bool, true, false, List, [], ◌∷◌, ◌++◌, Option, None, Some, length, map, drop, slice_get, refl, sym, ap, subst, arith, append_assoc, append-nil, eq-eqb, filter}
use Rattle.std.specs.Prelude.{◌==◌, if◌then◌else◌, is_some, option_map}
use Rattle.std.proofs.lemmas.List.{length-drop}
use Rattle.std.proofs.lemmas.List.Sums.{sum_by-cons}
use Rattle.std.proofs.lemmas.Option.{same_Some}
use Rattle.tc_component.specs.declared.slot.Slot.{Slot}
use Rattle.tc_component.specs.Loading.{ComponentState}
use Rattle.tc_component.specs.Spelling.{Row}
use Rattle.tc_merge.specs.Newest.{newest}
use Rattle.tc_merge.specs.Merging.{kept, rows_told}
use Rattle.tc_merge.specs.Inputs.{InputState, key_ahead, rows_left, is_ahead, passed, starts, left_of, IsNextOf, IsUpTo}
use Rattle.tc_merge.proofs.InputSteps.{none_ahead}

module _ {F : Type 0} (content : F → Option (List ℕ)) (from : ℕ) where
  pub begins : (inputs : List (InputState F)) (P : List Row → Type 0) → P [] → IsUpTo content from inputs inputs P
  begins inputs P p = record { done = []; pushed = p; whole = refl }

  pub goes_on : (first mid last : List (InputState F)) (P Q : List Row → Type 0) (R : List Row → List Row → Type 0) → IsUpTo content from first mid P
      → ((done : List Row) → P done → IsUpTo content from mid last (R done)) → ((done more : List Row) → R done more → Q (done ++ more)) → IsUpTo content from first last Q
  goes_on first mid last P Q R up more put =
      let behind = more up.done up.pushed in
      record {
        done = up.done ++ behind.done;
        pushed = put up.done behind.done behind.pushed;
        whole = up.whole ∙ ap (λ rows. up.done ++ rows) behind.whole ∙ sym (append_assoc up.done behind.done (kept from (newest (map (rows_left content) last))));
      }

  pub adds_to : (mid last : List (InputState F)) (K : Type 0) (P : List Row → Type 0) → K → IsUpTo content from mid last P → IsUpTo content from mid last (λ more. K × P more)
  adds_to mid last K P k up = record { done = up.done; pushed = (k, up.pushed); whole = up.whole }

  nothing_left : (inputs : List (InputState F)) → IsNextOf inputs None → newest (map (rows_left content) inputs) ≡ []
  nothing_left [] none = refl
  nothing_left (i ∷ inputs) none =
      ap (λ l. newest (l ∷ map (rows_left content) inputs)) (none_ahead content i (none 0 i refl)) ∙ nothing_left inputs (λ n j here. none (suc n) j here)

  kept-none : kept from [] ≡ []
  kept-none = cases (from == 1)
    where
      cases : (b : Bool) → ◌≡◌ {A = List Row} (if b then filter (λ row. is_some row.1) [] else []) []
      cases true = refl
      cases false = refl

  pub ends : (first last : List (InputState F)) (P : List Row → Type 0) → IsUpTo content from first last P → IsNextOf last None → P (kept from (newest (map (rows_left content) first)))
  ends first last P up none =
      subst P (sym (up.whole ∙ ap (λ rows. up.done ++ kept from rows) (nothing_left last none) ∙ ap (λ rows. up.done ++ rows) kept-none ∙ append-nil up.done)) up.pushed

-- ---- the components stay

pub passed_component : {F : Type 0} (key : ℕ) (i : InputState F) → (passed key i).component ≡ i.component
passed_component {F} key i = cases (is_ahead key (key_ahead i))
  where
    cases : (b : Bool) → ◌≡◌ {A = ComponentState F} ((if b then (record { component = i.component; at = i.at + 1 }) else i).component) i.component
    cases true = refl
    cases false = refl

pub passed_components : {F : Type 0} (key : ℕ) (inputs : List (InputState F)) → map (λ i. i.component) (map (passed key) inputs) ≡ map (λ i. i.component) inputs
passed_components key [] = refl
passed_components key (i ∷ inputs) = ap (λ c. c ∷ map (λ j. j.component) (map (passed key) inputs)) (passed_component key i) ∙ ap (λ cs. i.component ∷ cs) (passed_components key inputs)

-- ---- fewer are left

pub some_slot : (slots : List Slot) (at key : ℕ) → option_map (λ s. s.key) (slice_get slots at) ≡ Some key → at < length slots
some_slot [] at key is = absurd (cc)
some_slot (s ∷ slots) zero key is = omega arith
some_slot (s ∷ slots) (suc at) key is = let rest = some_slot slots at key is in omega (arith, rest)

-- an input with a key ahead has an entry left
pub entry_left : {F : Type 0} (i : InputState F) (key : ℕ) → key_ahead i ≡ Some key → i.at < length i.component.index.slots
entry_left i key is = some_slot i.component.index.slots i.at key is

abbrev left : {F : Type 0} → InputState F → ℕ
left i = length (drop i.at i.component.index.slots)

no_more : {F : Type 0} (key : ℕ) (i : InputState F) → left (passed key i) ≤ left i
no_more {F} key i = cases (is_ahead key (key_ahead i))
  where
    cases : (b : Bool) → left (if b then record { component = i.component; at = i.at + 1 } else i) ≤ left i
    cases true = omega (arith, length-drop (i.at + 1) i.component.index.slots, length-drop i.at i.component.index.slots)
    cases false = omega arith

one_less : {F : Type 0} (key : ℕ) (i : InputState F) → key_ahead i ≡ Some key → left (passed key i) < left i
one_less {F} key i is = cases (is_ahead key (key_ahead i)) (ap (is_ahead key) is ∙ eq-eqb key key refl)
  where
    cases : (b : Bool) → b ≡ true → left (if b then record { component = i.component; at = i.at + 1 } else i) < left i
    cases true yes_ = omega (arith, entry_left i key is, length-drop (i.at + 1) i.component.index.slots, length-drop i.at i.component.index.slots)
    cases false no_ = absurd (cc)

left_first : {F : Type 0} (i : InputState F) (inputs : List (InputState F)) → left_of (i ∷ inputs) ≡ left i + left_of inputs
left_first {F} i inputs = sum_by-cons (λ (j : InputState F). length (drop j.at j.component.index.slots)) i inputs

none_more : {F : Type 0} (key : ℕ) (inputs : List (InputState F)) → left_of (map (passed key) inputs) ≤ left_of inputs
none_more key [] = omega arith
none_more key (i ∷ inputs) = omega (arith, no_more key i, none_more key inputs, left_first i inputs, left_first (passed key i) (map (passed key) inputs))

pub fewer : {F : Type 0} (key : ℕ) (inputs : List (InputState F)) (n : ℕ) (i : InputState F) → slice_get inputs n ≡ Some i → key_ahead i ≡ Some key → left_of (map (passed key) inputs) < left_of inputs
fewer key [] n i here is = absurd (cc)
fewer {F} key (j ∷ inputs) zero i here is =
    let first : key_ahead j ≡ Some key = subst (λ (k : InputState F). key_ahead k ≡ Some key) (sym (same_Some j i here)) is in
    omega (arith, one_less key j first, none_more key inputs, left_first j inputs, left_first (passed key j) (map (passed key) inputs))
fewer key (j ∷ inputs) (suc n) i here is = omega (arith, no_more key j, fewer key inputs n i here is, left_first j inputs, left_first (passed key j) (map (passed key) inputs))

-- ---- before a merge nothing is behind

pub started : {F : Type 0} (content : F → Option (List ℕ)) (run : List (ComponentState F)) → map (rows_left content) (map starts run) ≡ map (rows_told content) run
started content [] = refl
started content (c ∷ run) = ap (λ rows. rows_told content c ∷ rows) (started content run)

pub started_components : {F : Type 0} (run : List (ComponentState F)) → map (λ i. i.component) (map starts run) ≡ run
started_components [] = refl
started_components (c ∷ run) = ap (λ rest. c ∷ rest) (started_components run)
