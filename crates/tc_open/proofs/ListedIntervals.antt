-- Which generations the components have that are listed behind an opening, and how far they reach.
use Rattle.std.proofs.Common.{◌≡◌, ◌∙◌, ◌+◌, ◌<◌, ◌≤◌, ◌++◌, ℕ, zero, suc, List, [], ◌∷◌, length, map, append-nil, refl, sym, ap, arith, inl, inr, true, false}
use Rattle.std.specs.Prelude.{nat_lt}
use Rattle.std.proofs.lemmas.Bool.{cases_Bool}
use Rattle.std.proofs.lemmas.Bool.Decides.{nat_tests}
use Rattle.std.proofs.lemmas.List.{map-append}
use Rattle.tc_component.specs.Loading.{ComponentState, index_in}
use Rattle.tc_component.specs.Spelling.{Index}
use Rattle.tc_list.specs.Intervals.{last_after, last_of}
use Rattle.tc_recover.specs.declared.interval.Interval.{Interval}
use Rattle.tc_recover.specs.Loading.{interval_of}
use Rattle.tc_recover.specs.Opening.{Found, found_in}
use Rattle.tc_recover.specs.Tilings.{end_of}
use Rattle.tc_open.specs.Listed.{AreFlushed, end_by, flushed_as, intervals_in, listed_as, merged_as, most_listed}
use Rattle.tc_open.proofs.LogsCovered.{end_listed}

-- ---- where they end

end_joined : (g : ℕ) (is js : List Interval) → end_of g (is ++ js) ≡ end_of (end_of g is) js
end_joined g [] js = refl
end_joined g (i ∷ is) js = end_joined i.to is js

end_read : (g : ℕ) (is : List Index) → end_of g (intervals_in is) ≡ end_by g is
end_read g [] = refl
end_read g (i ∷ is) = end_read i.head.to is

pub ends_as : {F : Type 0} (g : ℕ) (list : List (ComponentState F)) → last_after g list ≡ end_by g (map index_in list)
ends_as g [] = refl
ends_as g (c ∷ list) = ends_as c.index.head.to list

-- ---- the logs become one

abbrev pub one_interval : ℕ → ℕ → List Interval
one_interval from to = record { from = from; to = to } ∷ []

pub flushed_some : (g n : ℕ) → 0 < n → flushed_as g n ≡ one_interval (g + 1) (g + n)
flushed_some g zero some = absurd (omega (arith, some))
flushed_some g (suc n) some = refl

end_flushed : (g n : ℕ) → end_of g (flushed_as g n) ≡ g + n
end_flushed g zero = omega arith
end_flushed g (suc n) = refl

pub none_flushed : {F : Type 0} (list : List (ComponentState F)) → AreFlushed (λ older. older ≡ list) (found_in list []) list
none_flushed list = record { older = list; newer = []; are = refl; is = sym (append-nil list); read = refl; flushed = refl }

-- more is known of the components that were read
pub flushed_so : {F : Type 0} (P Q : List (ComponentState F) → Type 0) (found : Found) (list : List (ComponentState F)) → ((older : List (ComponentState F)) → P older → Q older) → AreFlushed P found list → AreFlushed Q found list
flushed_so P Q found list so are = record { older = are.older; newer = are.newer; are = so are.older are.are; is = are.is; read = are.read; flushed = are.flushed }

intervals_read : {F : Type 0} (list : List (ComponentState F)) → map interval_of list ≡ intervals_in (map index_in list)
intervals_read [] = refl
intervals_read (c ∷ list) = ap (λ is. interval_of c ∷ is) (intervals_read list)

pub flushed_listed : {F : Type 0} {Are : List (ComponentState F) → Type 0} (found : Found) (list : List (ComponentState F)) → AreFlushed Are found list → map interval_of list ≡ intervals_in found.components ++ flushed_as (end_by 0 found.components) (length found.logs)
flushed_listed found list are =
    ap (map interval_of) are.is ∙ map-append interval_of are.older are.newer
    ∙ ap (λ is. is ++ map interval_of are.newer) (intervals_read are.older ∙ ap intervals_in (sym are.read))
    ∙ ap (λ is. intervals_in found.components ++ is) are.flushed

-- ---- all become one

few_test : (n : ℕ) → n ≤ most_listed → nat_lt most_listed n ≡ false
few_test n few = grind (arith, nat_tests)

many_test : (n : ℕ) → most_listed < n → nat_lt most_listed n ≡ true
many_test n many = grind (arith, nat_tests)

pub few_stay : (is : List Interval) → length is ≤ most_listed → is ≡ merged_as is
few_stay is few = rw (few_test (length is) few) refl

pub many_become_one : (is : List Interval) → most_listed < length is → merged_as is ≡ one_interval 1 (end_of 0 is)
many_become_one is many = rw (many_test (length is) many) refl

end_merged : (is : List Interval) → end_of 0 (merged_as is) ≡ end_of 0 is
end_merged is = elim (cases_Bool (nat_lt most_listed (length is))) [
  | inl many ↦ rw many refl
  | inr few ↦ rw few refl
]

pub ends_listed : {F : Type 0} (found : Found) (list : List (ComponentState F)) → map interval_of list ≡ listed_as found → last_of list ≡ end_by 0 found.components + length found.logs
ends_listed found list same =
    let last = end_by 0 found.components in
    let read = intervals_in found.components in
    let flushed = flushed_as last (length found.logs) in
    sym (end_listed list) ∙ ap (end_of 0) same ∙ end_merged (read ++ flushed) ∙ end_joined 0 read flushed ∙ ap (λ g. end_of g flushed) (end_read 0 found.components) ∙ end_flushed last (length found.logs)
