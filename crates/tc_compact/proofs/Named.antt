-- The names that a dictionary gives numbers.
use Rattle.std.proofs.Common.{◌≡◌, ◌∙◌, ℕ, List, [], ◌∷◌, Some, is_some, unwrap_or, map, slice_get, bytes_eq, refl, sym, ap, subst}
use Rattle.std.proofs.lemmas.Option.{same_Some}
use Rattle.std.specs.List.{IsDistinct}
use Rattle.tc_bytes.proofs.Codecs.{then_parts}
use Rattle.tc_model.specs.Document.{Name}
use Rattle.tc_model.specs.Dictionary.{number_of, number as name_number}
use Rattle.tc_model.proofs.NameNumbers.{number_of-slice_get}
use Rattle.tc_model.specs.KnownNames.{HasEach}
use Rattle.tc_compact.specs.Slots.{names_of}
use Rattle.tc_compact.specs.Meant.{name_at}

-- names that were found
pub record NamesFound (names : List Name) (ks : List ℕ) (ns : List Name) : Type 0 where
  pub known : HasEach names ns
  pub numbers : map (name_number names) ns ≡ ks
  pub at : ns ≡ map (name_at names) ks

pub names_found : (names : List Name) (ks : List ℕ) (ns : List Name) → IsDistinct bytes_eq names → names_of names ks ≡ Some ns → NamesFound names ks ns
names_found names [] ns distinct gives =
    let none : [] ≡ ns = same_Some [] ns gives in
    subst (NamesFound names []) none (record { known = tt; numbers = refl; at = refl })
names_found names (k ∷ ks) ns distinct gives =
    let one = then_parts (slice_get names k) _ ns gives in
    let two = then_parts (names_of names ks) _ ns one.2 in
    let rest = names_found names ks two.0 distinct two.1 in
    let number : number_of names one.0 ≡ Some k = number_of-slice_get names one.0 k distinct one.1 in
    subst (NamesFound names (k ∷ ks)) (same_Some (one.0 ∷ two.0) ns two.2)
    (record {
      known = (ap is_some number, rest.known);
      numbers = ap (λ o. unwrap_or o 0 ∷ map (name_number names) two.0) number ∙ ap (λ more. k ∷ more) rest.numbers;
      at = ap (λ o. unwrap_or o [] ∷ two.0) (sym one.1) ∙ ap (λ more. name_at names k ∷ more) rest.at;
    })
