-- Which kits a shelf in memory has, as they are given.
use Rattle.std.proofs.Common.{◌≡◌, ◌<◌, ℕ, zero, suc, List, [], ◌∷◌, ◌++◌, length, false, arith, inl, inr}
use Rattle.std.specs.Prelude.{◌≢◌, ◌==◌, None, slice_get}
use Rattle.std.specs.List.{list_any}
use Rattle.std.proofs.lemmas.Bool.{cases_Bool}
use Rattle.std.proofs.lemmas.Grind.{common_steps}
use Rattle.tc_store.specs.Memory.Shelf.{kit_at}

within_get : {K : Type 0} (kits : List K) (number : ℕ) → number < length kits → slice_get kits number ≢ None
within_get [] number within is = absurd (omega (arith, within))
within_get (kit ∷ kits) zero within is = cc
within_get (kit ∷ kits) (suc number) within is = within_get kits number (omega (arith, within)) is

-- a kit whose number is within, and was not given, is there
pub kit_at-there : {K : Type 0} (kits : List K) (given : List ℕ) (number : ℕ) → number < length kits
    → list_any (λ gone. gone == number) given ≡ false → kit_at kits given number ≢ None
kit_at-there kits given number within test is = within_get kits number within (rw test at is)

kit_at-push : {K : Type 0} (kits left : List K) (given : List ℕ) (number other : ℕ) → other ≢ number → slice_get left other ≡ slice_get kits other
    → kit_at left (given ++ number ∷ []) other ≡ kit_at kits given other
kit_at-push kits left [] number other apart same = let test : (number == other) ≡ false = grind (arith, common_steps) in rw test same
kit_at-push kits left (gone ∷ given) number other apart same = elim (cases_Bool (gone == other)) [
  | inl this ↦ rw this
  | inr off ↦ rw off (kit_at-push kits left given number other apart same)
]

-- the kits of other numbers stay
pub kit_at-other : {K : Type 0} (kits left : List K) (given after : List ℕ) (number other : ℕ) → after ≡ given ++ number ∷ [] → other ≢ number
    → slice_get left other ≡ slice_get kits other → kit_at left after other ≡ kit_at kits given other
kit_at-other kits left given after number other pushed apart same = rw pushed (kit_at-push kits left given number other apart same)
