-- A dictionary is a list of distinct names. The number of a name is its place in the list, from 0 on.
use Rattle.std.specs.Prelude.{◌≡◌, ◌<◌, ◌^◌, ℕ, suc, List, [], ◌∷◌, ◌++◌, Option, None, Some, option_map, is_some, unwrap_or, bytes_eq, IsUtf8, length, if◌then◌else◌}
use Rattle.std.specs.List.{AllByRecursion, IsDistinct}
use Rattle.tc_model.specs.Document.{Name}

-- the number of a name, if it has one
abbrev pub number_of : List Name → Name → Option ℕ
number_of [] name = None
number_of (first ∷ names) name = if bytes_eq name first then Some 0 else option_map suc (number_of names name)

-- the number of a name that has one
abbrev pub number : List Name → Name → ℕ
number names name = unwrap_or (number_of names name) 0

-- the names after this one is learned: a new one stands at the end, and a known one changes nothing
abbrev pub learned : List Name → Name → List Name
learned names name = if is_some (number_of names name) then names else names ++ name ∷ []

-- the dictionary after names were learned one after the other
abbrev pub all_learned : List Name → List Name → List Name
all_learned known [] = known
all_learned known (name ∷ more) = all_learned (learned known name) more

-- the newer dictionary goes on where the older one ends
abbrev pub Extends : List Name → List Name → Type 0
Extends newer older = (more : List Name) × (newer ≡ older ++ more)

-- what may be a name: any text of fewer than 2^32 bytes, the empty text too
pub record IsName (name : Name) : Type 0 where
  pub text : IsUtf8 name
  pub short : length name < 2 ^ 32

-- what may be a dictionary: distinct names, fewer than 2^32 of them
pub record IsDictionary (names : List Name) : Type 0 where
  pub distinct : IsDistinct bytes_eq names
  pub each : AllByRecursion IsName names
  pub few : length names < 2 ^ 32
