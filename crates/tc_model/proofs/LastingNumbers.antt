-- A name keeps its number in each dictionary that goes on.
use Rattle.std.proofs.Common.{◌≡◌, ◌∙◌, ℕ, List, [], ◌∷◌, Some, is_some, unwrap_or, map, refl, ap}
use Rattle.tc_model.specs.Document.{Name}
use Rattle.tc_model.specs.Dictionary.{number_of, Extends, all_learned, number}
use Rattle.tc_model.specs.KnownNames.{HasEach}
use Rattle.tc_model.proofs.NameNumbers.{numbered}
use Rattle.tc_model.proofs.DictionaryGrowth.{number_of-Extends}
use Rattle.tc_model.proofs.LearnedNames.{Extends-all_learned}

pub numbers-Extends : (newer older names : List Name) → Extends newer older → HasEach older names → HasEach newer names × (map (number newer) names ≡ map (number older) names)
numbers-Extends newer older [] extends has = (tt, refl)
numbers-Extends newer older (name ∷ names) extends has =
    let there : number_of newer name ≡ Some (number older name) = number_of-Extends newer older name (number older name) extends (numbered older name has.0) in
    let here : number newer name ≡ number older name = ap (λ o. unwrap_or o 0) there in
    let rest = numbers-Extends newer older names extends has.1 in
    ((ap is_some there, rest.0), ap (λ n. n ∷ map (number newer) names) here ∙ ap (λ ns. number older name ∷ ns) rest.1)

-- the number that a name got is its number at the end
pub number-all_learned : (names : List Name) (name : Name) (more : List Name) (n : ℕ) → number_of names name ≡ Some n → number (all_learned names more) name ≡ n
number-all_learned names name more n some = ap (λ o. unwrap_or o 0) (number_of-Extends (all_learned names more) names name n (Extends-all_learned names more) some)
