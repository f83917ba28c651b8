-- An index over the names of a list, each of which has a place: the last name of each place, and behind each name the one before it.
use Rattle.std.specs.Prelude.{◌≡◌, ◌≢◌, ◌≤◌, ◌<◌, ◌/◌, ◌%◌, ◌^◌, ℕ, suc, List, Some, slice_get, length, map}
use Rattle.std.specs.Hash.FoldHasher.{initial, write, finish}

-- the place of a name among so many, by the high half of its hash
abbrev pub place_of : ℕ → List ℕ → ℕ
place_of count name = finish (write initial name) / 2 ^ 32 % count

-- of the first n names the last one that has the place, as its number and one, or 0 where none has it
pub record IsLast (places : List ℕ) (place last n : ℕ) : Type 0 where
  pub within : last ≤ n
  pub here : (i : ℕ) → last ≡ suc i → slice_get places i ≡ Some place
  pub after : (i : ℕ) → last ≤ i → i < n → slice_get places i ≢ Some place

-- each place knows its last name, and each name the one before it that has its place
pub record IsLinked (heads links places : List ℕ) : Type 0 where
  pub lasts : (place last : ℕ) → slice_get heads place ≡ Some last → IsLast places place last (length places)
  pub earlier : (i place last : ℕ) → slice_get places i ≡ Some place → slice_get links i ≡ Some last → IsLast places place last i
  pub count : length links ≡ length places
  pub some : 0 < length places → 0 < length heads

-- what finds the names
abbrev pub IsIndex : List ℕ → List ℕ → List (List ℕ) → Type 0
IsIndex heads links names = IsLinked heads links (map (place_of (length heads)) names)
