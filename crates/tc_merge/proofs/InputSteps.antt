-- One step of a merge, by the entries that are ahead.
use Rattle.std.proofs.Common.{◌≡◌, ◌≢◌, ◌≤◌, ◌+◌, ℕ, zero, suc, Bool, true, false, List, [], ◌∷◌, refl, sym, ap, ◌∙◌, subst, Option, Some, None, Less, Equal, map, take, drop, slice_get, arith, inl, inr, eq-eqb}
use Rattle.std.specs.Prelude.{◌==◌, if◌then◌else◌, All, unwrap_or, option_map}
use Rattle.std.specs.Cmp.{nat_cmp_is}
use Rattle.std.specs.Ordering.{nat_cmp}
use Rattle.std.specs.Map.{keys_of}
use Rattle.std.proofs.lemmas.Bool.{eqb-true, lt-ltb, cases_lt, true≢false}
use Rattle.std.proofs.lemmas.List.Elements.{All-nil, All-cons, All-head, All-tail}
use Rattle.std.proofs.lemmas.Map.Keys.{sorted_head}
use Rattle.std.proofs.lemmas.Option.{same_Some}
use Rattle.tc_model.specs.Keyed.{Keyed, Ascends}
use Rattle.tc_model.proofs.KeyedOrder.{less_by}
use Rattle.tc_component.specs.declared.slot.Slot.{Slot}
use Rattle.tc_component.specs.Layout.{records_place}
use Rattle.tc_component.specs.Loading.{ComponentState}
use Rattle.tc_component.specs.Spelling.{Row, IsIndex, lengths_of}
use Rattle.tc_merge.specs.declared.input.Next.{Next}
use Rattle.tc_merge.specs.Newest.{newest}
use Rattle.tc_merge.specs.Merging.{held_in, rows_told, kept}
use Rattle.tc_merge.specs.Inputs.{InputState, key_ahead, rows_left, is_ahead, passed, IsNext, IsUpTo}
use Rattle.tc_merge.proofs.NewestSteps.{behind, Passed, Starts, IsWinner, newest_step}
use Rattle.tc_merge.proofs.RowsAhead.{Ascends-rows_in, Ascends-drop, rows_there, no_rows, kept-first}

-- ---- keys and rows that are ahead

-- the slot that is ahead
pub record Ahead {F : Type 0} (content : F → Option (List ℕ)) (i : InputState F) (key : ℕ) : Type 0 where
  pub held : Option (List ℕ)
  pub rest : List Row
  pub rows : rows_left content i ≡ (key, held) ∷ rest
  pub further : rows_left content (record { component = i.component; at = i.at + 1 }) ≡ rest

pub ahead : {F : Type 0} (content : F → Option (List ℕ)) (i : InputState F) (key : ℕ) → key_ahead i ≡ Some key → Ahead content i key
ahead {F} content i key is = step (slice_get i.component.index.slots i.at) refl is
  where
    step : (o : Option Slot) → slice_get i.component.index.slots i.at ≡ o → option_map (λ s. s.key) o ≡ Some key → Ahead content i key
    step None here same = absurd (cc)
    step (Some s) here same = record {
      held = held_in i.component.index.version s.length (drop (lengths_of (take i.at i.component.index.slots)) (drop records_place (unwrap_or (content i.component.file) [])));
      rest = drop (i.at + 1) (rows_told content i.component);
      rows = subst (λ k. rows_left content i ≡ (k, held_in i.component.index.version s.length (drop (lengths_of (take i.at i.component.index.slots)) (drop records_place (unwrap_or (content i.component.file) [])))) ∷ drop (i.at + 1) (rows_told content i.component)) (same_Some s.key key same)
          (rows_there i.component.index.version i.component.index.slots (drop records_place (unwrap_or (content i.component.file) [])) i.at s here);
      further = refl;
    }

no_slot : (o : Option Slot) → option_map (λ s. s.key) o ≡ None → o ≡ None
no_slot None is = refl
no_slot (Some s) is = cc

pub none_ahead : {F : Type 0} (content : F → Option (List ℕ)) (i : InputState F) → key_ahead i ≡ None → rows_left content i ≡ []
none_ahead content i is = no_rows i.component.index.version i.component.index.slots (drop records_place (unwrap_or (content i.component.file) [])) i.at (no_slot (slice_get i.component.index.slots i.at) is)

rows_passed : {F : Type 0} (content : F → Option (List ℕ)) (key : ℕ) (i : InputState F) → rows_left content (passed key i) ≡ behind key (rows_left content i)
rows_passed {F} content key i = step (key_ahead i) refl
  where
    first : (k : ℕ) → Ahead content i k → (b : Bool) → rows_left content (if b then record { component = i.component; at = i.at + 1 } else i) ≡ (if b then drop (i.at + 1) (rows_told content i.component) else rows_left content i)
    first k a true = refl
    first k a false = refl

    step : (o : Option ℕ) → key_ahead i ≡ o → rows_left content (passed key i) ≡ behind key (rows_left content i)
    step None none = ap (λ o. rows_left content (if is_ahead key o then record { component = i.component; at = i.at + 1 } else i)) none ∙ none_ahead content i none ∙ sym (ap (behind key) (none_ahead content i none))
    step (Some k) some =
        let a = ahead content i k some in
        ap (λ o. rows_left content (if is_ahead key o then record { component = i.component; at = i.at + 1 } else i)) some
        ∙ first k a (key == k)
        ∙ sym (ap (behind key) a.rows ∙ cases (key == k) a)
      where
        cases : (b : Bool) → (a : Ahead content i k) → (if b then a.rest else (k, a.held) ∷ a.rest) ≡ (if b then drop (i.at + 1) (rows_told content i.component) else rows_left content i)
        cases true a = sym a.further
        cases false a = sym a.rows

all_passed : {F : Type 0} (content : F → Option (List ℕ)) (key : ℕ) (inputs : List (InputState F)) → map (rows_left content) (map (passed key) inputs) ≡ map (behind key) (map (rows_left content) inputs)
all_passed content key [] = refl
all_passed content key (i ∷ inputs) = ap (λ l. l ∷ map (rows_left content) (map (passed key) inputs)) (rows_passed content key i) ∙ ap (λ ls. behind key (rows_left content i) ∷ ls) (all_passed content key inputs)

-- ---- where the least key stands

less_than : (k n : ℕ) → k ≤ n → (k == n) ≡ false → nat_cmp k n ≡ Less
less_than k n at_most other = elim (cases_lt k n) [
  | inl less ↦ less_by k n (lt-ltb k n less)
  | inr more ↦ absurd (not_same (omega (arith, at_most, more)) other)
]
  where
    not_same : k ≡ n → (k == n) ≡ false → ⊥
    not_same same other = true≢false (sym (eq-eqb k n same) ∙ other)

starts_at : {V : Type 0} (key n : ℕ) (v : V) (es : Keyed V) → Ascends ((n, v) ∷ es) → key ≤ n → Starts key ((n, v) ∷ es)
starts_at {V} key n v es up at_most = record { ascends = up; from = cases (key == n) refl }
  where
    first : (k : ℕ) (es : Keyed V) → Ascends ((n, v) ∷ es) → k ≡ n → Passed k es
    first k [] up same = tt
    first k (e ∷ es) up same = subst (λ m. nat_cmp m e.0 ≡ Less) (sym same) (sorted_head nat_cmp n (keys_of (e ∷ es)) up).0

    cases : (b : Bool) → (key == n) ≡ b → Passed key (if b then es else (n, v) ∷ es)
    cases true same = first key es up (eqb-true key n same)
    cases false other = less_than key n at_most other

-- the directory of an input ascends
abbrev IsLawful : {F : Type 0} → ComponentState F → Type 0
IsLawful c = IsIndex c.index

ascends_left : {F : Type 0} (content : F → Option (List ℕ)) (i : InputState F) → IsIndex i.component.index → Ascends (rows_left content i)
ascends_left content i is = Ascends-drop i.at (rows_told content i.component) (Ascends-rows_in i.component.index.version i.component.index.slots (drop records_place (unwrap_or (content i.component.file) [])) is.ascend)

starts_one : {F : Type 0} (content : F → Option (List ℕ)) (key : ℕ) (i : InputState F) → IsIndex i.component.index → ((k : ℕ) → key_ahead i ≡ Some k → key ≤ k) → Starts key (rows_left content i)
starts_one content key i is least = step (key_ahead i) refl
  where
    step : (o : Option ℕ) → key_ahead i ≡ o → Starts key (rows_left content i)
    step None none = record { ascends = ascends_left content i is; from = subst (λ l. Passed key (behind key l)) (sym (none_ahead content i none)) tt }
    step (Some k) some =
        let a = ahead content i k some in
        subst (Starts key) (sym a.rows) (starts_at key k a.held a.rest (subst Ascends a.rows (ascends_left content i is)) (least k some))

all_start : {F : Type 0} (content : F → Option (List ℕ)) (key : ℕ) (inputs : List (InputState F)) → All (λ c. IsIndex c.index) (map (λ i. i.component) inputs)
    → ((n k : ℕ) (i : InputState F) → slice_get inputs n ≡ Some i → key_ahead i ≡ Some k → key ≤ k) → All (Starts key) (map (rows_left content) inputs)
all_start content key [] all least = All-nil (Starts key)
all_start {F} content key (i ∷ inputs) all least =
    All-cons (Starts key) (rows_left content i) (map (rows_left content) inputs)
    (starts_one content key i (All-head (λ (c : ComponentState F). IsIndex c.index) i.component (map (λ j. j.component) inputs) all) (λ k is. least 0 k i refl is))
    (all_start content key inputs (All-tail (λ (c : ComponentState F). IsIndex c.index) i.component (map (λ j. j.component) inputs) all) (λ n k j here is. least (suc n) k j here is))

-- an input that was passed does not have the key ahead again
passed_once : {F : Type 0} (key : ℕ) (i : InputState F) → IsIndex i.component.index → key_ahead i ≡ Some key → is_ahead key (key_ahead (record { component = i.component; at = i.at + 1 })) ≡ false
passed_once {F} key i is some = step (key_ahead further) refl
  where
    content : F → Option (List ℕ)
    content file = None

    further : InputState F
    further = record { component = i.component; at = i.at + 1 }

    apart : (k : ℕ) → nat_cmp key k ≡ Less → (b : Bool) → (key == k) ≡ b → b ≡ false
    apart k less true same = let equal = nat_cmp_is key k Equal (eqb-true key k same) in absurd (cc)
    apart k less false other = refl

    step : (o : Option ℕ) → key_ahead further ≡ o → is_ahead key o ≡ false
    step None none = refl
    step (Some k) more =
        let a = ahead content i key some in
        let b = ahead content further k more in
        let up : Ascends ((key, a.held) ∷ (k, b.held) ∷ b.rest) = subst Ascends (a.rows ∙ ap (λ rows. (key, a.held) ∷ rows) (sym a.further ∙ b.rows)) (ascends_left content i is) in
        apart k (sorted_head nat_cmp key (keys_of ((k, b.held) ∷ b.rest)) up).0 (key == k) refl

pub passed_again : {F : Type 0} (key : ℕ) (i : InputState F) → IsIndex i.component.index → key_ahead i ≡ Some key → passed key (passed key i) ≡ passed key i
passed_again {F} key i is some = ap (passed key) one ∙ ap (λ b. if b then record { component = i.component; at = i.at + 1 + 1 } else record { component = i.component; at = i.at + 1 }) (passed_once key i is some) ∙ sym one
  where
    one : passed key i ≡ record { component = i.component; at = i.at + 1 }
    one = ap (λ b. if b then record { component = i.component; at = i.at + 1 } else i) (ap (is_ahead key) some ∙ eq-eqb key key refl)

-- ---- the step

pub slice_get-map : {X Y : Type 0} (f : X → Y) (xs : List X) (n : ℕ) (x : X) → slice_get xs n ≡ Some x → slice_get (map f xs) n ≡ Some (f x)
slice_get-map f [] n x here = absurd (cc)
slice_get-map f (y ∷ xs) zero x here = ap (λ z. Some (f z)) (same_Some y x here)
slice_get-map f (y ∷ xs) (suc n) x here = slice_get-map f xs n x here

-- the first of what is left from a place on stands there
pub first_there : {X : Type 0} (xs : List X) (n : ℕ) (x : X) (rest : List X) → drop n xs ≡ x ∷ rest → slice_get xs n ≡ Some x
first_there [] zero x rest is = absurd (cc)
first_there [] (suc n) x rest is = absurd (cc)
first_there (y ∷ xs) zero x rest is = cc
first_there (y ∷ xs) (suc n) x rest is = first_there xs n x rest is

-- what is mapped there
record Mapped {X Y : Type 0} (f : X → Y) (xs : List X) (n : ℕ) (y : Y) : Type 0 where
  from : X
  here : slice_get xs n ≡ Some from
  is : f from ≡ y

mapped : {X Y : Type 0} (f : X → Y) (xs : List X) (n : ℕ) (y : Y) → slice_get (map f xs) n ≡ Some y → Mapped f xs n y
mapped f [] n y here = absurd (cc)
mapped f (x ∷ xs) zero y here = record { from = x; here = refl; is = same_Some (f x) y here }
mapped f (x ∷ xs) (suc n) y here = let m = mapped f xs n y here in record { from = m.from; here = m.here; is = m.is }

module _ {F : Type 0} (content : F → Option (List ℕ)) (inputs : List (InputState F)) (next : Next) (is : IsNext inputs next) (lawful : All (λ c. IsIndex c.index) (map (λ i. i.component) inputs)) where
  passed_one : (i : InputState F) → key_ahead i ≢ Some next.key → ((k : ℕ) → key_ahead i ≡ Some k → next.key ≤ k) → Passed next.key (rows_left content i)
  passed_one i other least = step (key_ahead i) refl
    where
      step : (o : Option ℕ) → key_ahead i ≡ o → Passed next.key (rows_left content i)
      step None none = subst (Passed next.key) (sym (none_ahead content i none)) tt
      step (Some k) some =
          let a = ahead content i k some in
          subst (Passed next.key) (sym a.rows) (cases (next.key == k) refl)
        where
          cases : (b : Bool) → (next.key == k) ≡ b → nat_cmp next.key k ≡ Less
          cases true same = absurd (other (some ∙ ap Some (sym (eqb-true next.key k same))))
          cases false apart = less_than next.key k (least k some) apart

  wins : (a : Ahead content is.input next.key) → IsWinner (map (rows_left content) inputs) next.input next.key a.held
  wins a = record {
    rest = a.rest;
    here = slice_get-map (rows_left content) inputs next.input is.input is.here ∙ ap Some a.rows;
    newer = λ n l further here.
        let m = mapped (rows_left content) inputs n l here in
        subst (Passed next.key) m.is (passed_one m.from (is.newest n m.from further m.here) (λ k there. is.least n k m.from m.here there));
  }

  -- what is left begins with the row that is ahead, and goes on with what is left then
  pub row_ahead : Row
  row_ahead = (next.key, (ahead content is.input next.key is.ahead).held)

  pub next_row : rows_left content is.input ≡ row_ahead ∷ (ahead content is.input next.key is.ahead).rest
  unfolding row_ahead
  next_row = (ahead content is.input next.key is.ahead).rows

  pub merged_step : newest (map (rows_left content) inputs) ≡ row_ahead ∷ newest (map (rows_left content) (map (passed next.key) inputs))
  unfolding row_ahead
  merged_step =
      let a = ahead content is.input next.key is.ahead in
      newest_step (map (rows_left content) inputs) next.input next.key a.held (all_start content next.key inputs lawful is.least) (wins a)
      ∙ ap (λ ls. (next.key, a.held) ∷ newest ls) (sym (all_passed content next.key inputs))

  pub up_to : (from : ℕ) (Pushed : List Row → Type 0) → Pushed (kept from (row_ahead ∷ [])) → IsUpTo content from inputs (map (passed next.key) inputs) Pushed
  up_to from Pushed pushed = record {
    done = kept from (row_ahead ∷ []);
    pushed = pushed;
    whole = ap (kept from) merged_step ∙ kept-first from row_ahead (newest (map (rows_left content) (map (passed next.key) inputs)));
  }
