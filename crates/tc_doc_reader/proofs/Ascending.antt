-- Members whose names ascend, one name after the other.
use Rattle.std.proofs.Common.{◌≡◌, ◌<◌, ◌≤◌, ◌+◌, ℕ, zero, suc, List, [], ◌∷◌, length, map, drop, get_or, Less, arith}
use Rattle.std.proofs.lemmas.Cmp.{nat_list_cmp_total}
use Rattle.std.specs.List.{AllByRecursion}
use Rattle.std.specs.List.Sorted.{IsStrictlySortedBy}
use Rattle.tc_model.specs.Document.{Name, Document, name_cmp, IsAscending}
use Rattle.tc_value.specs.Meaning.{member_of}
use Rattle.tc_value.specs.declared.document.Member.{Member}

-- the last of a list ascends
pub last_ascends : (ms : List (Name × Document)) (n : ℕ) → length ms ≤ n + 1 → IsAscending (drop n ms)
unfolding IsStrictlySortedBy
last_ascends [] zero enough = tt
last_ascends [] (suc n) enough = tt
last_ascends (m ∷ []) zero enough = (tt, tt)
last_ascends (m ∷ k ∷ ms) zero enough = absurd (omega (arith, enough))
last_ascends (m ∷ ms) (suc n) enough = last_ascends ms n (omega (arith, enough))

above_more : (k l : Name) (ms : List (Name × Document)) → name_cmp k l ≡ Less → AllByRecursion (λ n. name_cmp l n ≡ Less) (map (λ m. m.0) ms) → AllByRecursion (λ n. name_cmp k n ≡ Less) (map (λ m. m.0) ms)
above_more k l [] e h = tt
above_more k l (m ∷ ms) e h = (nat_list_cmp_total.trans k l m.0 e h.0, above_more k l ms e h.1)

-- a smaller name before those that ascend
pub one_more_ascends : (ms : List Member) (n : ℕ) (d e : Member) → suc n < length ms → name_cmp (get_or ms n d).name (get_or ms (suc n) e).name ≡ Less
    → IsAscending (drop (suc n) (map member_of ms)) → IsAscending (drop n (map member_of ms))
unfolding IsStrictlySortedBy
one_more_ascends [] n d e inside less h = absurd (omega arith)
one_more_ascends (m ∷ []) n d e inside less h = absurd (omega arith)
one_more_ascends (m ∷ k ∷ ms) zero d e inside less h = ((less, above_more m.name k.name (map member_of ms) less h.0), h)
one_more_ascends (m ∷ k ∷ ms) (suc n) d e inside less h = one_more_ascends (k ∷ ms) n d e (omega arith) less h
