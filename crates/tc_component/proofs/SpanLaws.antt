-- Entries that are looked up one behind the other, each with where its record lies.
use Rattle.std.proofs.Common.{◌≡◌, ◌<◌, ◌+◌, ◌⊎◌, ◌∙◌, ℕ, zero, suc, List, [], ◌∷◌, ◌++◌, Some, length, take, slice_get, set, sym, ap, subst, arith, inl, inr}
use Rattle.std.specs.List.{AllByRecursion}
use Rattle.std.proofs.lemmas.List.{take_more_set, length-take-le}
use Rattle.std.proofs.lemmas.Option.{same_Some, slice_get_within}
use Rattle.tc_component.specs.declared.found.Span.{Span}
use Rattle.tc_component.specs.declared.slot.Slot.{Slot}
use Rattle.tc_component.specs.Layout.{number_end, records_place}
use Rattle.tc_component.specs.Spans.{IsSpan, AreSpans}
use Rattle.tc_component.specs.Spelling.{lengths_of, IsSlot}
use Rattle.tc_component.proofs.Lookups.{there, within_all}

abbrev span : ℕ → ℕ → ℕ → Span
span key begin count = record { key = key; begin = begin; count = count }

-- what the slot at a position tells, where the records before it have so many bytes
pub record Told (slots : List Slot) (i start : ℕ) (s : Slot) : Type 0 where
  pub next : start + s.length ≡ lengths_of (take (suc i) slots)
  pub short : start + s.length < number_end
  pub is : IsSpan slots i (span s.key (records_place + start) s.length)

pub told : (slots : List Slot) (i start : ℕ) (s : Slot) → AllByRecursion IsSlot slots → lengths_of slots < number_end → slice_get slots i ≡ Some s → start ≡ lengths_of (take i slots) → Told slots i start s
told slots i start s each short here begun =
    let t = there slots i each (slice_get_within slots i s here) in
    let same : t.slot ≡ s = same_Some t.slot s (sym t.here ∙ here) in
    let bytes : t.slot.length ≡ s.length = ap (λ (u : Slot). u.length) same in
    let all = within_all slots i s here in
    record {
      next = omega (arith, begun, t.length, bytes);
      short = omega (arith, begun, all, short);
      is = record {
        here = here;
        key = omega (arith, t.is.key, ap (λ (u : Slot). u.key) same);
        begin = ap (λ n. records_place + n) begun;
        within = omega (arith, begun, all);
      };
    }

-- an element of a list with one more behind it is one of the list, or that one
one_of : {X : Type 0} → (xs : List X) (y : X) (n : ℕ) (x : X) → slice_get (xs ++ y ∷ []) n ≡ Some x → (slice_get xs n ≡ Some x) ⊎ ((n ≡ length xs) × (y ≡ x))
one_of [] y zero x is = inr (omega arith, cc)
one_of [] y (suc n) x is = absurd (cc)
one_of (z ∷ xs) y zero x is = inl is
one_of (z ∷ xs) y (suc n) x is = elim (one_of xs y n x is) [
  | inl old ↦ inl old
  | inr new ↦ inr (ap suc new.0, new.1)
]

-- the next entry, where there is room for it
pub one_more_span : (slots : List Slot) (at step : ℕ) (room : List Span) (s : Span) → step < length room → AreSpans slots at (take step room) → IsSpan slots (at + step) s
    → AreSpans slots at (take (step + 1) (set room step s))
one_more_span slots at step room s within before one n x here =
    elim (one_of (take step room) s n x (subst (λ (l : List Span). slice_get l n ≡ Some x) (take_more_set room step s within) here)) [
      | inl old ↦ before n x old
      | inr new ↦
          let last : n ≡ step = new.0 ∙ length-take-le step room (omega (arith, within)) in
          subst (λ k. IsSpan slots (at + k) x) (sym last) (subst (IsSpan slots (at + step)) new.1 one)
    ]
