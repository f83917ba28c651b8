-- Keys of which a source has nothing, by what a walk has before it.
use Rattle.std.proofs.Common.{◌≡◌, ◌<◌, ◌≤◌, ◌+◌, ℕ, zero, suc, List, [], ◌∷◌, ◌++◌, Option, Some, None, true, false, map, drop, length, append_assoc, refl, sym, ap, ◌∙◌, subst, arith, inl, inr}
use Rattle.std.specs.Prelude.{◌==◌, Bool, not, slice_get, option_map, unwrap_or, IfSome}
use Rattle.std.specs.List.{AllByRecursion}
use Rattle.std.specs.List.Sorted.{IsStrictlySortedBy}
use Rattle.std.specs.Map.{keys_of}
use Rattle.std.specs.Option.{option_eq}
use Rattle.std.specs.Ordering.{nat_cmp}
use Rattle.std.proofs.lemmas.Bool.{cases_lt}
use Rattle.std.proofs.lemmas.Bool.Decides.{nat_tests}
use Rattle.std.proofs.lemmas.Map.Keys.{sorted_tail}
use Rattle.std.proofs.lemmas.Option.{none-some, same_Some, slice_get-map, slice_get_past}
use Rattle.tc_component.specs.Columns.{IsFound}
use Rattle.tc_component.specs.Spelling.{Ascend}
use Rattle.tc_component.specs.declared.found.Found.TheVariants.{Absent}
use Rattle.tc_component.specs.declared.slot.Slot.{Slot}
use Rattle.tc_list.specs.Contents.{marks}
use Rattle.tc_list.proofs.KeyedPlaces.{value_of-at}
use Rattle.tc_model.specs.Keyed.{Keyed, Ascends, value_of}
use Rattle.tc_model.proofs.KeyedEquality.{value_of-below}
use Rattle.tc_query.specs.Walking.{first_key, IsAhead, IsFrom, IsBefore, IsNext}
use Rattle.tc_query.proofs.BelowKeys.{value_of-behind}

-- ---- what is ahead

pub starts_ahead : {V : Type 0} (es : Keyed V) → IsAhead 0 es es
starts_ahead es = record { behind = []; parts = refl; lesser = tt }

pub all_lesser : {V : Type 0} (low high : ℕ) (es : Keyed V) → low ≤ high → AllByRecursion (λ e. e.0 < low) es → AllByRecursion (λ e. e.0 < high) es
all_lesser low high [] order all = tt
all_lesser low high (e ∷ es) order all = (omega (arith, order, all.0), all_lesser low high es order all.1)

pub later_ahead : {V : Type 0} (low high : ℕ) (es ahead : Keyed V) → low ≤ high → IsAhead low es ahead → IsAhead high es ahead
later_ahead low high es ahead order a = record { behind = a.behind; parts = a.parts; lesser = all_lesser low high a.behind order a.lesser }

pub all_push : {V : Type 0} (low : ℕ) (es : Keyed V) (e : ℕ × V) → AllByRecursion (λ e. e.0 < low) es → e.0 < low → AllByRecursion (λ e. e.0 < low) (es ++ e ∷ [])
all_push low [] e all less = (less, tt)
all_push low (f ∷ es) e all less = (all.0, all_push low es e all.1 less)

pub pass_ahead : {V : Type 0} (low : ℕ) (es : Keyed V) (e : ℕ × V) (ahead : Keyed V) → IsAhead low es (e ∷ ahead) → e.0 < low → IsAhead low es ahead
pass_ahead low es e ahead a less = record { behind = a.behind ++ e ∷ []; parts = a.parts ∙ sym (append_assoc a.behind (e ∷ []) ahead); lesser = all_push low a.behind e a.lesser less }

-- ---- what is not there

none_first : {V : Type 0} (k : ℕ) (es : Keyed V) → Ascends es → IsBefore k (first_key es) → value_of k es ≡ None
none_first k [] up before = refl
none_first k (e ∷ es) up before = value_of-below k e.0 e.1 es before up

none_parted : {V : Type 0} (low k : ℕ) (behind ahead : Keyed V) → Ascends (behind ++ ahead) → AllByRecursion (λ e. e.0 < low) behind → low ≤ k → IsBefore k (first_key ahead) → value_of k (behind ++ ahead) ≡ None
none_parted low k [] ahead up lesser from before = none_first k ahead up before
none_parted low k (e ∷ behind) ahead up lesser from before =
    value_of-behind k e (behind ++ ahead) (omega (arith, lesser.0, from))
    ∙ none_parted low k behind ahead (sorted_tail nat_cmp e.0 (keys_of (behind ++ ahead)) up) lesser.1 from before

pub none_between : {V : Type 0} (low k : ℕ) (es ahead : Keyed V) → Ascends es → IsAhead low es ahead → low ≤ k → IsBefore k (first_key ahead) → value_of k es ≡ None
none_between low k es ahead up a from before = subst (λ xs. value_of k xs ≡ None) (sym a.parts) (none_parted low k a.behind ahead (subst Ascends a.parts up) a.lesser from before)

-- ---- directories

keys_mapped : {V : Type 0} (f : Slot → ℕ × V) → ((s : Slot) → (f s).0 ≡ s.key) → (slots : List Slot) → keys_of (map f slots) ≡ map (λ s. s.key) slots
keys_mapped f same [] = refl
keys_mapped f same (s ∷ slots) = ap (λ k. k ∷ keys_of (map f slots)) (same s) ∙ ap (λ ks. s.key ∷ ks) (keys_mapped f same slots)

pub Ascends-slots : {V : Type 0} (f : Slot → ℕ × V) → ((s : Slot) → (f s).0 ≡ s.key) → (slots : List Slot) → Ascend slots → Ascends (map f slots)
Ascends-slots f same slots up = subst (IsStrictlySortedBy nat_cmp) (sym (keys_mapped f same slots)) up

marks_up : (slots : List Slot) → Ascend slots → Ascends (marks slots)
marks_up slots up = Ascends-slots _ (λ s. refl) slots up

first_marked : (slots : List Slot) (at : ℕ) → first_key (drop at (marks slots)) ≡ option_map (λ s. s.key) (slice_get slots at)
first_marked [] zero = refl
first_marked [] (suc at) = refl
first_marked (s ∷ slots) zero = refl
first_marked (s ∷ slots) (suc at) = first_marked slots at

-- the first of the marks that are ahead, which is that of a slot
pub record FirstMark (slots : List Slot) (at key : ℕ) : Type 0 where
  pub entry : ℕ × Bool
  pub is : drop at (marks slots) ≡ entry ∷ drop (at + 1) (marks slots)
  pub key_is : entry.0 ≡ key

pub first_mark : (slots : List Slot) (at key : ℕ) (s : Slot) → slice_get slots at ≡ Some s → s.key ≡ key → FirstMark slots at key
first_mark [] at key s here is = absurd (cc)
first_mark (t ∷ slots) zero key s here is = record { entry = _; is = refl; key_is = ap (λ (x : Option ℕ). unwrap_or x key) (ap (option_map (λ u. u.key)) here) ∙ is }
first_mark (t ∷ slots) (suc at) key s here is =
    let rest = first_mark slots at key s here is in
    let further : suc at + 1 ≡ suc (at + 1) = omega arith in
    record { entry = rest.entry; is = rest.is ∙ ap (λ n. rest.entry ∷ drop n (marks (t ∷ slots))) (sym further); key_is = rest.key_is }

-- a key without a mark is not found
pub not_found : (slots : List Slot) (k : ℕ) → Ascend slots → value_of k (marks slots) ≡ None → IsFound slots k Absent
not_found slots k up none = λ at s here same.
    none-some _
    (sym none ∙ ap (λ n. value_of n (marks slots)) (sym same)
    ∙ value_of-at (marks slots) at _ (marks_up slots up) (slice_get-map _ slots at ∙ ap (option_map _) here))

pub next_slot : (slots : List Slot) (at low : ℕ) (next : Option ℕ) → Ascend slots → IsAhead low (marks slots) (drop at (marks slots)) → IfSome (option_map (λ s. s.key) (slice_get slots at)) (λ key. low ≤ key)
    → next ≡ option_map (λ s. s.key) (slice_get slots at) → IsNext low next (λ key. IsFound slots key Absent)
next_slot slots at low next up a from is = (
  subst (λ o. IfSome o (λ key. low ≤ key)) (sym is) from,
  λ k least before. not_found slots k up (none_between low k (marks slots) (drop at (marks slots)) (marks_up slots up) a least (subst (IsBefore k) (is ∙ sym (first_marked slots at)) before)),
)

-- ---- one key, by the first entry from it on

above : (key : ℕ) (o : Option ℕ) → IfSome o (λ first. key ≤ first) → (o ≡ Some key → ⊥) → IsBefore key o
above key None from apart = tt
above key (Some first) from apart = elim (cases_lt key first) [
  | inl less ↦ less
  | inr most ↦ let same : first ≡ key = omega (arith, from, most) in absurd (apart (ap Some same))
]

pub absent_at : (slots : List Slot) (at key : ℕ) → Ascend slots → IsAhead key (marks slots) (drop at (marks slots)) → IsFrom key slots at → (option_map (λ s. s.key) (slice_get slots at) ≡ Some key → ⊥) → IsFound slots key Absent
absent_at slots at key up ahead from apart =
    not_found slots key up (none_between key key (marks slots) (drop at (marks slots)) (marks_up slots up) ahead (omega arith) (subst (IsBefore key) (sym (first_marked slots at)) (above key (option_map (λ s. s.key) (slice_get slots at)) from apart)))

-- whether a key is that of an entry
pub other_first : (o : Option ℕ) (key : ℕ) → not (option_eq (λ a b. a == b) o (Some key)) ≡ true → o ≡ Some key → ⊥
other_first None key test same = cc
other_first (Some first) key test same = let is = same_Some first key same in grind (arith, nat_tests)

pub first_within : (slots : List Slot) (at key : ℕ) (o : Option ℕ) → o ≡ option_map (λ s. s.key) (slice_get slots at) → not (option_eq (λ a b. a == b) o (Some key)) ≡ false → at < length slots
first_within slots at key o is test = elim (cases_lt at (length slots)) [
  | inl less ↦ less
  | inr past ↦ let none : o ≡ None = is ∙ ap (option_map (λ s. s.key)) (slice_get_past slots at past) in absurd (nothing none)
]
  where
    nothing : o ≡ None → ⊥
    nothing none = let same : not (option_eq (λ a b. a == b) None (Some key)) ≡ false = subst (λ x. not (option_eq (λ a b. a == b) x (Some key)) ≡ false) none test in cc
