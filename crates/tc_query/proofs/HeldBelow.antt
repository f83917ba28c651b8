-- Documents that keys may have, gathered key by key.
use Rattle.std.proofs.Common.{◌≡◌, ◌<◌, ◌≤◌, ◌+◌, ℕ, false, List, [], ◌∷◌, ◌++◌, Option, Some, None, map, append-nil, refl, sym, ap, ◌∙◌, subst, arith, inl, inr}
use Rattle.std.specs.Prelude.{◌==◌, if◌then◌else◌}
use Rattle.std.specs.List.{AllByRecursion}
use Rattle.std.specs.Map.{keys_of}
use Rattle.std.specs.Ordering.{nat_cmp}
use Rattle.std.proofs.lemmas.Bool.{cases_lt, lt-ltb}
use Rattle.std.proofs.lemmas.Bool.Decides.{nat_tests}
use Rattle.std.proofs.lemmas.Grind.{flat_map-append}
use Rattle.std.proofs.lemmas.List.{map-append}
use Rattle.std.proofs.lemmas.Map.Keys.{sorted_head, sorted_tail}
use Rattle.tc_component.specs.Loading.{ComponentState}
use Rattle.tc_memory.specs.Table.{Table}
use Rattle.tc_model.proofs.KeyedEquality.{value_of-here}
use Rattle.tc_model.proofs.KeyedOrder.{AreAbove, sorted_nil, sorted_cons, less_by}
use Rattle.tc_model.specs.Document.{Document}
use Rattle.tc_model.specs.Keyed.{Keyed, Ascends, value_of}
use Rattle.tc_request_model.specs.Request.{Ask}
use Rattle.tc_request_model.specs.Paths.{reached}
use Rattle.tc_request_model.specs.Rows.{row_of, rows_over}
use Rattle.tc_request_model.specs.Rendered.{RowText, row_text}
use Rattle.tc_plain_model.specs.Writes.{Pairs}
use Rattle.tc_query.proofs.AheadKeys.{all_lesser, all_push}
use Rattle.tc_query.proofs.BelowKeys.{value_of-behind}
use Rattle.tc_query.specs.Rows.{rows_with, texts_with}
use Rattle.tc_query.specs.Shown.{held_newest, MayHave, MayHold}
use Rattle.tc_query.specs.Walking.{IsNext, HasNoneIn}

-- ---- one entry more, of a greater key

none_behind : {V : Type 0} (k low : ℕ) (es : Keyed V) → AllByRecursion (λ e. e.0 < low) es → low ≤ k → value_of k es ≡ None
none_behind k low [] lesser from = refl
none_behind k low (e ∷ es) lesser from = value_of-behind k e es (omega (arith, lesser.0, from)) ∙ none_behind k low es lesser.1 from

value_of-pushed : {V : Type 0} (key low : ℕ) (v : V) (es : Keyed V) → AllByRecursion (λ e. e.0 < low) es → low ≤ key → value_of key (es ++ (key, v) ∷ []) ≡ Some v
value_of-pushed key low v [] lesser from = value_of-here key v []
value_of-pushed key low v (e ∷ es) lesser from = value_of-behind key e (es ++ (key, v) ∷ []) (omega (arith, lesser.0, from)) ∙ value_of-pushed key low v es lesser.1 from

value_of-before : {V : Type 0} (k key : ℕ) (v : V) (es : Keyed V) → k < key → value_of k (es ++ (key, v) ∷ []) ≡ value_of k es
value_of-before k key v [] less = let apart : (k == key) ≡ false = grind (arith, nat_tests) in rw apart refl
value_of-before k key v (e ∷ es) less = ap (λ o. if k == e.0 then Some e.1 else o) (value_of-before k key v es less)

above_pushed : {V : Type 0} (n key : ℕ) (v : V) (es : Keyed V) → n < key → AreAbove n (keys_of es) → AreAbove n (keys_of (es ++ (key, v) ∷ []))
above_pushed n key v [] less above = (less_by n key (lt-ltb n key less), tt)
above_pushed n key v (e ∷ es) less above = (above.0, above_pushed n key v es less above.1)

Ascends-pushed : {V : Type 0} (key low : ℕ) (v : V) (es : Keyed V) → Ascends es → AllByRecursion (λ e. e.0 < low) es → low ≤ key → Ascends (es ++ (key, v) ∷ [])
Ascends-pushed key low v [] up lesser from = sorted_cons key [] tt sorted_nil
Ascends-pushed key low v (e ∷ es) up lesser from =
    sorted_cons e.0 (keys_of (es ++ (key, v) ∷ [])) (above_pushed e.0 key v es (omega (arith, lesser.0, from)) (sorted_head nat_cmp e.0 (keys_of es) up))
    (Ascends-pushed key low v es (sorted_tail nat_cmp e.0 (keys_of es) up) lesser.1 from)

-- ---- keys up to one

-- documents of the keys below one, where each has one that it may have, and their rows
pub record HoldBelow {F : Type 0} (told : F → Option (List ℕ)) (low : ℕ) (cs : List (ComponentState F)) (sealed : Option Table) (active : Table) (ask : Ask) (rows : List RowText) : Type 0 where
  pub pairs : Pairs
  pub ascend : Ascends pairs
  pub lesser : AllByRecursion (λ e. e.0 < low) pairs
  pub each : (k : ℕ) → k < low → MayHave told (held_newest k sealed active) cs k (value_of k pairs)
  pub rows_are : rows ≡ map row_text (rows_over ask pairs)

module _ {F : Type 0} (told : F → Option (List ℕ)) (cs : List (ComponentState F)) (sealed : Option Table) (active : Table) where
  -- a key that no source has has no document
  none_held : (k : ℕ) → HasNoneIn cs sealed active k → MayHave told (held_newest k sealed active) cs k None
  none_held k none = subst (λ held. MayHave told held cs k None) (sym none.1) (inl none.0)

  pub below_none : (ask : Ask) → HoldBelow told 0 cs sealed active ask []
  below_none ask = record { pairs = []; ascend = sorted_nil; lesser = tt; each = λ k less. absurd (omega (arith, less)); rows_are = refl }

  -- a key before the next one has none, where those below have theirs
  before_next : (low key : ℕ) (pairs : Pairs) → ((k : ℕ) → k < low → MayHave told (held_newest k sealed active) cs k (value_of k pairs)) → AllByRecursion (λ e. e.0 < low) pairs → IsNext low (Some key) (HasNoneIn cs sealed active)
      → (k : ℕ) → k < key → MayHave told (held_newest k sealed active) cs k (value_of k pairs)
  before_next low key pairs each lesser next k less = elim (cases_lt k low) [
    | inl below ↦ each k below
    | inr from ↦ subst (MayHave told (held_newest k sealed active) cs k) (sym (none_behind k low pairs lesser from)) (none_held k (next.1 k from less))
  ]

  -- up to this key, by cases of each key below the one behind it
  up_to : (key : ℕ) (P : ℕ → Type 0) → ((k : ℕ) → k < key → P k) → P key → (k : ℕ) → k < key + 1 → P k
  up_to key P before here k less = elim (cases_lt k key) [
    | inl below ↦ before k below
    | inr from ↦ subst P (omega (arith, less, from)) here
  ]

  pub below_next : (ask : Ask) (low key : ℕ) (before : List RowText) (document : Option Document) (row after : List RowText) → IsNext low (Some key) (HasNoneIn cs sealed active) → HoldBelow told low cs sealed active ask before
      → MayHave told (held_newest key sealed active) cs key document → row ≡ texts_with ask key document → after ≡ before ++ row → HoldBelow told (key + 1) cs sealed active ask after
  below_next ask low key before None row after next b may one pushed = record {
    pairs = b.pairs;
    ascend = b.ascend;
    lesser = let least = next.0 in all_lesser low (key + 1) b.pairs (omega (arith, least)) b.lesser;
    each = up_to key (λ k. MayHave told (held_newest k sealed active) cs k (value_of k b.pairs)) (before_next low key b.pairs b.each b.lesser next)
        (subst (MayHave told (held_newest key sealed active) cs key) (sym (none_behind key low b.pairs b.lesser next.0)) may);
    rows_are = pushed ∙ ap (λ rows. before ++ rows) one ∙ append-nil before ∙ b.rows_are;
  }
  below_next ask low key before (Some d) row after next b may one pushed =
      let pairs = b.pairs ++ (key, d) ∷ [] in
      record {
        pairs = pairs;
        ascend = Ascends-pushed key low d b.pairs b.ascend b.lesser next.0;
        lesser = let least = next.0 in all_push (key + 1) b.pairs (key, d) (all_lesser low (key + 1) b.pairs (omega (arith, least)) b.lesser) (omega arith);
        each = up_to key (λ k. MayHave told (held_newest k sealed active) cs k (value_of k pairs))
            (λ k less. subst (MayHave told (held_newest k sealed active) cs k) (sym (value_of-before k key d b.pairs less)) (before_next low key b.pairs b.each b.lesser next k less))
            (subst (MayHave told (held_newest key sealed active) cs key) (sym (value_of-pushed key low d b.pairs b.lesser next.0)) may);
        rows_are = pushed ∙ ap (λ rows. before ++ rows) one ∙ ap (λ rows. rows ++ texts_with ask key (Some d)) b.rows_are
            ∙ sym (map-append row_text (rows_over ask b.pairs) (rows_with ask key (Some d)))
            ∙ ap (map row_text) (sym (flat_map-append (λ p. row_of ask.equal_to p.0 (reached ask.path p.1)) b.pairs ((key, d) ∷ [])));
      }

  -- where none is next
  pub below_all : (ask : Ask) (low : ℕ) (rows : List RowText) → IsNext low None (HasNoneIn cs sealed active) → HoldBelow told low cs sealed active ask rows → (pairs : Pairs) × MayHold told cs sealed active pairs × (rows ≡ map row_text (rows_over ask pairs))
  below_all ask low rows next b = (b.pairs, record { ascend = b.ascend; each = each }, b.rows_are)
    where
      each : (k : ℕ) → MayHave told (held_newest k sealed active) cs k (value_of k b.pairs)
      each k = elim (cases_lt k low) [
        | inl below ↦ b.each k below
        | inr from ↦ subst (MayHave told (held_newest k sealed active) cs k) (sym (none_behind k low b.pairs b.lesser from)) (none_held k (next.1 k from tt))
      ]
