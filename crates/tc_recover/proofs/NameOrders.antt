-- The names of files are ordered totally; sorted, and each kept once, they ascend.
use Rattle.std.proofs.Common.{◌≡◌, ℕ, suc, List, [], ◌∷◌, refl, subst, sym, arith, inl, inr}
use Rattle.std.proofs.Math.Path.{fun_ext}
use Rattle.std.proofs.lemmas.Cmp.{nat_cmp_total, then_total, on_total, eq_by_cmp_equiv}
use Rattle.std.proofs.lemmas.List.Filters.{dedup_is}
use Rattle.std.proofs.lemmas.List.Kept.{IsStrictlySortedBy-dedup, Contains-dedup, Contains-from_dedup}
use Rattle.std.proofs.lemmas.List.Sorted.{Contains-permutation, IsPermutation-sym}
use Rattle.std.specs.Ordering.{nat_cmp, then_cmp, on, ordering_then, eq_by_cmp, is_eq, ordering_reverse}
use Rattle.std.specs.Prelude.{◌↔◌, ◌==◌, ◌&&◌, false}
use Rattle.std.proofs.lemmas.Grind.{common_steps}
use Rattle.std.proofs.lemmas.Bool.{cases_Bool}
use Rattle.std.proofs.lemmas.Map.Keys.{Less-from_sorted}
use Rattle.std.specs.declared.cmp.Ordering.{Ordering}
use Rattle.std.specs.declared.cmp.Ordering.TheVariants.{Less, Equal, Greater}
use Rattle.std.specs.Cmp.{IsTotalOrder, IsEquivalence}
use Rattle.std.specs.List.{Contains}
use Rattle.std.specs.List.Retain.{IsFiltered, DiffersFromLast}
use Rattle.std.specs.List.Sorted.{IsSorted, IsStrictlySortedBy, IsPermutation}
use Rattle.tc_store.specs.declared.file_name.FileName.{FileName}
use Rattle.tc_store.specs.declared.file_name.FileName.TheVariants.{Component, Log}
use Rattle.tc_store.specs.Disk.{Disk, IsThere, ListsNames, same_name}
use Rattle.tc_store.specs.Moments.{IfTold}
use Rattle.tc_store.specs.NameOrder.{name_cmp}
use Rattle.tc_store.specs.contracts.file_name.FileNameOrd.TheImpl.{ghosts as derived}
use Rattle.tc_store.specs.contracts.file_name.FileNamePartialEq.TheImpl.{eq-value as equality}
use Rattle.tc_store.proofs.NameLemmas.{same_name-is}

kind : FileName → ℕ
kind (Component from to) = 0
kind (Log generation) = 1

first : FileName → ℕ
first (Component from to) = from
first (Log generation) = generation

last : FileName → ℕ
last (Component from to) = to
last (Log generation) = 0

then_nothing : (o : Ordering) → ordering_then o Equal ≡ o
then_nothing Less = refl
then_nothing Equal = refl
then_nothing Greater = refl

by_keys : FileName → FileName → Ordering
by_keys = then_cmp (on kind nat_cmp) (then_cmp (on first nat_cmp) (on last nat_cmp))

same_order : (a b : FileName) → by_keys a b ≡ name_cmp a b
unfolding by_keys kind first last
same_order (Component from to) (Component from' to') = refl
same_order (Component from to) (Log generation) = refl
same_order (Log generation) (Component from to) = refl
same_order (Log generation) (Log generation') = then_nothing (nat_cmp generation generation')

pub name_total : IsTotalOrder name_cmp
unfolding by_keys
name_total = subst IsTotalOrder (fun_ext λ a. fun_ext λ b. same_order a b) (then_total (on_total kind nat_cmp_total) (then_total (on_total first nat_cmp_total) (on_total last nat_cmp_total)))

both_equal : (o p : Ordering) → is_eq (ordering_then o p) ≡ is_eq o && is_eq p
both_equal Less p = refl
both_equal Equal p = refl
both_equal Greater p = refl

equal_numbers : (a b : ℕ) → is_eq (nat_cmp a b) ≡ (a == b)
equal_numbers a b = grind (arith, common_steps)

-- names are one where the order does not tell them apart
same_by_order : (a b : FileName) → same_name a b ≡ eq_by_cmp name_cmp a b
same_by_order (Component from to) (Component from' to') = rw (both_equal (nat_cmp from from') (nat_cmp to to'), equal_numbers from from', equal_numbers to to') refl
same_by_order (Component from to) (Log generation) = refl
same_by_order (Log generation) (Component from to) = refl
same_by_order (Log generation) (Log generation') = rw (equal_numbers generation generation') refl

-- the derived order of names is this one
derived_order : (a b : FileName) → derived.cmp a b ≡ name_cmp a b
derived_order (Component from to) (Component from' to') = refl
derived_order (Component from to) (Log generation) = refl
derived_order (Log generation) (Component from to) = refl
derived_order (Log generation) (Log generation') = refl

derived_equality : (a b : FileName) → equality.it a b ≡ same_name a b
derived_equality (Component from to) (Component from' to') = refl
derived_equality (Component from to) (Log generation) = refl
derived_equality (Log generation) (Component from to) = refl
derived_equality (Log generation) (Log generation') = refl

equal_by_order : (a b : FileName) → equality.it a b ≡ eq_by_cmp name_cmp a b
equal_by_order a b = let first = derived_equality a b in let second = same_by_order a b in cc

is_equivalence : IsEquivalence equality.it
is_equivalence = subst IsEquivalence (fun_ext λ a. fun_ext λ b. sym (equal_by_order a b)) (eq_by_cmp_equiv name_total)

pub names_ascend : (xs ys : List FileName) → IsSorted derived.cmp xs → IsFiltered (DiffersFromLast equality.it) [] xs ys → IsStrictlySortedBy name_cmp ys
names_ascend xs ys sorted filtered =
    subst (IsStrictlySortedBy name_cmp) (sym (dedup_is equality.it xs ys filtered))
    (IsStrictlySortedBy-dedup name_total equal_by_order xs (subst (λ R. IsSorted R xs) (fun_ext λ a. fun_ext λ b. derived_order a b) sorted))

-- what is kept are the names that there were
pub names_kept : (ws xs ys : List FileName) (name : FileName) → IsPermutation ws xs → IsFiltered (DiffersFromLast equality.it) [] xs ys → Contains ws name → Contains ys name
names_kept ws xs ys name moved filtered member =
    subst (λ ns. Contains ns name) (sym (dedup_is equality.it xs ys filtered))
    (Contains-dedup is_equivalence (λ a b e. same_name-is a b (let first = derived_equality a b in cc)) xs name (Contains-permutation ws xs name moved member))

pub names_there : (ws xs ys : List FileName) (name : FileName) → IsPermutation ws xs → IsFiltered (DiffersFromLast equality.it) [] xs ys → Contains ys name → Contains ws name
names_there ws xs ys name moved filtered member =
    Contains-permutation xs ws name (IsPermutation-sym ws xs moved) (Contains-from_dedup equality.it xs name (subst (λ ns. Contains ns name) (dedup_is equality.it xs ys filtered) member))

pub all_listed : (disks : List Disk) (ws xs ys : List FileName) → IfTold disks (ListsNames ws) → IsPermutation ws xs → IsFiltered (DiffersFromLast equality.it) [] xs ys
    → IfTold disks (λ disk. (name : FileName) → Contains ys name ↔ IsThere (disk name))
all_listed [] ws xs ys lists moved filtered = tt
all_listed (disk ∷ past) ws xs ys lists moved filtered = λ name. (
  λ member. (lists.exact name).0 (names_there ws xs ys name moved filtered member),
  λ there. names_kept ws xs ys name moved filtered ((lists.exact name).1 there),
)

-- names that ascend are apart
less_apart : (a b : FileName) → name_cmp a b ≡ Less → same_name a b ≡ false
less_apart a b less = elim (cases_Bool (same_name a b)) [
  | inl same ↦ let one = subst (λ n. name_cmp a n ≡ Less) (sym (same_name-is a b same)) less in let back = name_total.antisymm a a in absurd (no_less (name_cmp a a) one back)
  | inr other ↦ other
]
  where
    no_less : (o : Ordering) → o ≡ Less → o ≡ ordering_reverse o → ⊥
    no_less Less less back = cc
    no_less Equal less back = cc
    no_less Greater less back = cc

pub first_less : (n : FileName) (names : List FileName) (m : FileName) → IsStrictlySortedBy name_cmp (n ∷ names) → Contains names m → name_cmp n m ≡ Less
first_less n names m sorted (k, low, is) = subst (λ x. name_cmp n x ≡ Less) is (Less-from_sorted name_cmp (n ∷ names) 0 (suc k) m sorted (omega arith) (omega (arith, low)))

pub first_apart : (n : FileName) (names : List FileName) (m : FileName) → IsStrictlySortedBy name_cmp (n ∷ names) → Contains names m → same_name n m ≡ false
first_apart n names m sorted member = less_apart n m (first_less n names m sorted member)
