-- Names that are learned behind those that are known.
use Rattle.std.proofs.Common.{◌≡◌, ℕ, suc, ◌+◌, ◌≤◌, Bool, true, false, List, [], ◌∷◌, ◌++◌, length, bytes_eq, if◌then◌else◌, refl, ap, ◌∙◌, append_assoc, length-append, arith}
use Rattle.std.specs.Prelude.{Option, Some, None, is_some, option_map}
use Rattle.tc_model.specs.Document.{Name}
use Rattle.tc_model.specs.Dictionary.{number_of, learned, all_learned}
use Rattle.tc_model.proofs.LearnedNames.{length-all_learned-most}
use Rattle.tc_model.proofs.NameNumbers.{number_of-append}
use Rattle.tc_model.proofs.DictionaryGrowth.{learned-known, length-learned}

-- a name that is not known is looked for behind those that are
looked_for : (known fresh : List Name) (name : Name) → number_of known name ≡ None → is_some (number_of (known ++ fresh) name) ≡ is_some (number_of fresh name)
looked_for [] fresh name none = refl
looked_for (first ∷ known) fresh name none = cases (bytes_eq name first) (number_of known name) none (looked_for known fresh name)
  where
    some : (o : Option ℕ) → is_some (option_map suc o) ≡ is_some o
    some None = refl
    some (Some n) = refl

    cases : (same : Bool) (rest : Option ℕ) → (if same then Some 0 else option_map suc rest) ≡ None → (rest ≡ None → is_some (number_of (known ++ fresh) name) ≡ is_some (number_of fresh name))
        → is_some (if same then Some 0 else option_map suc (number_of (known ++ fresh) name)) ≡ is_some (number_of fresh name)
    cases true rest none more = absurd (cc)
    cases false None none more = some (number_of (known ++ fresh) name) ∙ more refl
    cases false (Some n) none more = absurd (cc)

-- where it is not known it is learned behind them
pub learned_behind : (known fresh : List Name) (name : Name) → number_of known name ≡ None → learned (known ++ fresh) name ≡ known ++ learned fresh name
learned_behind known fresh name none = cases (is_some (number_of (known ++ fresh) name)) (is_some (number_of fresh name)) (looked_for known fresh name none)
  where
    cases : (there here : Bool) → there ≡ here → (if there then known ++ fresh else (known ++ fresh) ++ name ∷ []) ≡ known ++ (if here then fresh else fresh ++ name ∷ [])
    cases true true h = refl
    cases true false h = absurd (cc)
    cases false true h = absurd (cc)
    cases false false h = append_assoc known fresh (name ∷ [])

-- and where it is known nothing is learned
pub nothing_learned : (known fresh : List Name) (name : Name) (n : ℕ) → number_of known name ≡ Some n → learned (known ++ fresh) name ≡ known ++ fresh
nothing_learned known fresh name n some = learned-known (known ++ fresh) name n (number_of-append known fresh name n some)

-- no more are learned than come
pub grown : (known old new xs : List Name) → known ++ new ≡ all_learned (known ++ old) xs → length new ≤ length old + length xs
grown known old new xs is = omega (arith, length-all_learned-most (known ++ old) xs, ap length is, length-append known new, length-append known old)

pub one_grown : (known old new : List Name) (name : Name) → known ++ new ≡ learned (known ++ old) name → length new ≤ length old + 1
one_grown known old new name is = omega (arith, length-learned (known ++ old) name, ap length is, length-append known new, length-append known old)
