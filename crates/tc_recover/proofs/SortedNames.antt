-- The intervals of names that ascend, and that all their tilings end with one generation.
use Rattle.std.proofs.Common.{◌≡◌, ◌<◌, ◌≤◌, ◌⊎◌, ℕ, suc, Bool, cond, filter, List, [], ◌∷◌, refl, sym, subst, inl, inr, arith}
use Rattle.std.specs.Prelude.{All, Contains, true, false}
use Rattle.std.specs.List.{AllByRecursion}
use Rattle.std.specs.List.Sorted.{IsStrictlySortedBy}
use Rattle.std.specs.Ordering.{nat_cmp, ordering_then}
use Rattle.std.specs.declared.cmp.Ordering.{Ordering}
use Rattle.std.specs.declared.cmp.Ordering.TheVariants.{Less, Equal, Greater}
use Rattle.std.proofs.lemmas.Bool.{cases_lt}
use Rattle.std.proofs.lemmas.Grind.{common_steps}
use Rattle.std.proofs.lemmas.List.Elements.{All-cons}
use Rattle.std.proofs.lemmas.Map.Keys.{sorted_head, sorted_tail}
use Rattle.tc_store.specs.declared.file_name.FileName.{FileName}
use Rattle.tc_store.specs.declared.file_name.FileName.TheVariants.{Component, Log}
use Rattle.tc_store.specs.NameOrder.{name_cmp}
use Rattle.tc_recover.specs.declared.interval.Interval.{Interval}
use Rattle.tc_recover.specs.declared.taken.Taken.{Taken}
use Rattle.tc_recover.specs.Files.{names_in, IsLawfulName, AreLawful}
use Rattle.tc_recover.specs.Sorting.{intervals_of, open_names}
use Rattle.tc_recover.specs.Tilings.{Ascend, IsTiling, end_of}
use Rattle.tc_recover.proofs.Members.{member_cases, member_first, member_further, no_member}
use Rattle.tc_recover.proofs.NameOrders.{first_less}
use Rattle.tc_recover.proofs.Tiles.{stands_at}

all_behind : (name : FileName) (names : List FileName) → All IsLawfulName (name ∷ names) → All IsLawfulName names
all_behind name names all = λ k d low. all (suc k) d (omega (arith, low))

pub intervals_order : (names : List FileName) → All IsLawfulName names → All (λ i. i.from ≤ i.to) (intervals_of names)
intervals_order [] lawful = λ k d low. absurd (omega (arith, low))
intervals_order (Component from to ∷ names) lawful =
    All-cons (λ (i : Interval). i.from ≤ i.to) (record { from = from; to = to }) (intervals_of names) (lawful 0 (Component from to) (omega arith)).1 (intervals_order names (all_behind (Component from to) names lawful))
intervals_order (Log generation ∷ names) lawful = intervals_order names (all_behind (Log generation) names lawful)

pub named_member : (names : List FileName) (j : Interval) → Contains (intervals_of names) j → Contains names (Component j.from j.to)
named_member [] j member = absurd (no_member j member)
named_member (Component from to ∷ names) j member = elim (member_cases (record { from = from; to = to }) (intervals_of names) j member) [
  | inl same ↦ subst (λ (i : Interval). Contains (Component from to ∷ names) (Component i.from i.to)) same (member_first (Component from to) names)
  | inr further ↦ member_further (Component from to) names (Component j.from j.to) (named_member names j further)
]
named_member (Log generation ∷ names) j member = member_further (Log generation) names (Component j.from j.to) (named_member names j member)

greater_first : (o p : Ordering) → o ≡ Greater → ordering_then o p ≡ Less → ⊥
greater_first Less p is less = cc
greater_first Equal p is less = cc
greater_first Greater p is less = cc

equal_first : (o p : Ordering) → o ≡ Equal → ordering_then o p ≡ Less → p ≡ Less
equal_first Less p is less = absurd (cc)
equal_first Equal p is less = less
equal_first Greater p is less = absurd (cc)

up_to : (from to from' to' : ℕ) → ordering_then (nat_cmp from from') (nat_cmp to to') ≡ Less → (from < from') ⊎ ((from ≡ from') × (to ≤ to'))
up_to from to from' to' less = elim (cases_lt from from') [
  | inl below ↦ inl below
  | inr above ↦ elim (cases_lt from' from) [
    | inl over ↦ absurd (greater_first (nat_cmp from from') (nat_cmp to to') (grind (arith, common_steps)) less)
    | inr level ↦
        let same : from ≡ from' = omega (arith, above, level) in
        let second : nat_cmp to to' ≡ Less = equal_first (nat_cmp from from') (nat_cmp to to') (grind (arith, common_steps)) less in
        let below : to < to' = grind (arith, common_steps) in
        inr (same, omega (arith, below))
  ]
]

pub intervals_ascend : (names : List FileName) → IsStrictlySortedBy name_cmp names → Ascend (intervals_of names)
intervals_ascend [] sorted = tt
intervals_ascend (Component from to ∷ names) sorted = (
  λ j member. up_to from to j.from j.to (first_less (Component from to) names (Component j.from j.to) sorted (named_member names j member)),
  intervals_ascend names (sorted_tail name_cmp (Component from to) names sorted),
)
intervals_ascend (Log generation ∷ names) sorted = intervals_ascend names (sorted_tail name_cmp (Log generation) names sorted)

ends_at : (generation : ℕ) (ts : List Interval) → (end_of generation ts ≡ generation) ⊎ ((t : Interval) × Contains ts t × (t.to ≡ end_of generation ts))
ends_at generation [] = inl refl
ends_at generation (u ∷ us) = elim (ends_at u.to us) [
  | inl same ↦ inr (u, member_first u us, sym same)
  | inr found ↦ inr (found.0, member_further u us found.0 found.1, found.2)
]

end_within : (is ts us : List Interval) → IsTiling is ts → IsTiling is us → end_of 0 ts ≤ end_of 0 us
end_within is ts us p q = elim (ends_at 0 ts) [
  | inl nothing ↦ omega (arith, nothing)
  | inr last ↦
      let around = q.around last.0 (p.there last.0 last.1) in
      let place = stands_at 0 us around.0 q.tile around.1 in
      omega (arith, last.2, place.2, around.2.ends)
]

pub one_end : (is ts us : List Interval) → IsTiling is ts → IsTiling is us → end_of 0 ts ≡ end_of 0 us
one_end is ts us p q = let below = end_within is ts us p q in let above = end_within is us ts q p in omega (arith, below, above)

kept_below : {F W : Type 0} (P : FileName → Type 0) (ts : List (Taken F W)) → AllByRecursion P (names_in ts) → AllByRecursion P (open_names ts)
kept_below P [] all = tt
kept_below P (t ∷ ts) all = kept t.open all.0 (kept_below P ts all.1)
  where
    kept : (is_open : Bool) → P t.name → AllByRecursion P (open_names ts) → AllByRecursion P (names_in (cond is_open (t ∷ filter (λ u. u.open) ts) (filter (λ u. u.open) ts)))
    kept true first rest = (first, rest)
    kept false first rest = rest

-- the names of open files ascend, as all do, and are lawful
pub open_ascend : {F W : Type 0} (ts : List (Taken F W)) → IsStrictlySortedBy name_cmp (names_in ts) → IsStrictlySortedBy name_cmp (open_names ts)
unfolding IsStrictlySortedBy
open_ascend [] sorted = tt
open_ascend (t ∷ ts) sorted = kept t.open (kept_below (λ m. name_cmp t.name m ≡ Less) ts (sorted_head name_cmp t.name (names_in ts) sorted)) (open_ascend ts (sorted_tail name_cmp t.name (names_in ts) sorted))
  where
    kept : (is_open : Bool) → AllByRecursion (λ m. name_cmp t.name m ≡ Less) (open_names ts) → IsStrictlySortedBy name_cmp (open_names ts)
        → IsStrictlySortedBy name_cmp (names_in (cond is_open (t ∷ filter (λ u. u.open) ts) (filter (λ u. u.open) ts)))
    kept true below rest = (below, rest)
    kept false below rest = rest

pub open_lawful : {F W : Type 0} (ts : List (Taken F W)) → AreLawful ts → All IsLawfulName (open_names ts)
open_lawful [] lawful = λ k d low. absurd (omega (arith, low))
open_lawful (t ∷ ts) lawful = kept t.open refl (open_lawful ts (λ k d low. lawful (suc k) d (omega (arith, low))))
  where
    kept : (is_open : Bool) → t.open ≡ is_open → All IsLawfulName (open_names ts) → All IsLawfulName (names_in (cond is_open (t ∷ filter (λ u. u.open) ts) (filter (λ u. u.open) ts)))
    kept true is rest = All-cons IsLawfulName t.name (open_names ts) (lawful 0 t (omega arith) is) rest
    kept false is rest = rest
