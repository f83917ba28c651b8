-- What the values are where one of a key is replaced or taken out.
use Rattle.std.proofs.Common.{◌≡◌, ℕ, ◌<◌, Bool, true, false, List, [], ◌∷◌, ◌++◌, refl, ap, sym, arith}
use Rattle.std.specs.Prelude.{Some, None, ◌==◌, nat_lt, if◌then◌else◌}
use Rattle.std.specs.List.{AllByRecursion}
use Rattle.std.specs.Cmp.{ranked}
use Rattle.std.specs.Map.{keys_of}
use Rattle.std.specs.Ordering.{nat_cmp}
use Rattle.std.specs.declared.cmp.Ordering.TheVariants.{Less}
use Rattle.std.proofs.lemmas.Bool.Decides.{nat_tests}
use Rattle.std.proofs.lemmas.Option.{same_Some}
use Rattle.tc_model.specs.Keyed.{Keyed, value_of, with_value, without_key, values_in}

-- ---- one taken out

-- a value is one of the whole, and the rest are the others
pub record IsOneOf {V : Type 0} (d : V) (whole rest : List V) : Type 0 where
  pub before : List V
  pub behind : List V
  pub is_whole : whole ≡ before ++ d ∷ behind
  pub is_rest : rest ≡ before ++ behind

pub taken_out : {V : Type 0} (n : ℕ) (ps : Keyed V) (d : V) → value_of n ps ≡ Some d → IsOneOf d (values_in ps) (values_in (without_key n ps))
taken_out n [] d at = absurd (cc)
taken_out n (p ∷ ps) d at = cases (n == p.0) at (taken_out n ps d)
  where
    cases : (here : Bool) → (if here then Some p.1 else value_of n ps) ≡ Some d → (value_of n ps ≡ Some d → IsOneOf d (values_in ps) (values_in (without_key n ps)))
        → IsOneOf d (p.1 ∷ values_in ps) (values_in (if here then ps else p ∷ without_key n ps))
    cases true at more = record { before = []; behind = values_in ps; is_whole = ap (λ x. x ∷ values_in ps) (same_Some p.1 d at); is_rest = refl }
    cases false at more =
        let one = more at in
        record { before = p.1 ∷ one.before; behind = one.behind; is_whole = ap (λ xs. p.1 ∷ xs) one.is_whole; is_rest = ap (λ xs. p.1 ∷ xs) one.is_rest }

-- where a key has no value, none is taken out
pub none_taken_out : {V : Type 0} (n : ℕ) (ps : Keyed V) → value_of n ps ≡ None → without_key n ps ≡ ps
none_taken_out n [] none = refl
none_taken_out n (p ∷ ps) none = cases (n == p.0) none (none_taken_out n ps)
  where
    cases : (here : Bool) → (if here then Some p.1 else value_of n ps) ≡ None → (value_of n ps ≡ None → without_key n ps ≡ ps) → (if here then ps else p ∷ without_key n ps) ≡ p ∷ ps
    cases true none more = absurd (cc)
    cases false none more = ap (λ qs. p ∷ qs) (more none)

-- ---- one replaced

less : (k n : ℕ) → nat_cmp k n ≡ Less → k < n
less k n is = ranked k n Less (sym is)

-- a key below all others has no value
pub below_all : {V : Type 0} (n k : ℕ) (ps : Keyed V) → n < k → AllByRecursion (λ m. nat_cmp k m ≡ Less) (keys_of ps) → without_key n ps ≡ ps
below_all n k [] below all = refl
below_all n k (p ∷ ps) below all = cases (n == p.0) (apart n p.0 (omega (arith, below, less k p.0 all.0))) (below_all n k ps below all.1)
  where
    apart : (a b : ℕ) → a < b → (a == b) ≡ false
    apart a b h = grind (arith, nat_tests)

    cases : (here : Bool) → here ≡ false → without_key n ps ≡ ps → (if here then ps else p ∷ without_key n ps) ≡ p ∷ ps
    cases true h more = absurd (cc)
    cases false h more = ap (λ qs. p ∷ qs) more
