-- What the members of a record carry, from the front: names, or numbers that stand for names.
use Rattle.std.specs.Prelude.{ℕ, List, [], ◌∷◌, flat_map, Option, Some, slice_get}
use Rattle.tc_bytes.specs.Reading.{◌>>=◌}
use Rattle.tc_model.specs.Document.{Name, Scalar}
use Rattle.tc_record.specs.Preorder.{Token}
use Rattle.tc_record.specs.Record.{labels}
use Rattle.tc_record.specs.Walk.{Key, name, number}

abbrev pub key_names : Key → List Name
key_names (name n) = n ∷ []
key_names (number k) = []

abbrev pub names_in : List (Token Key Scalar) → List Name
names_in ts = flat_map key_names (labels ts)

abbrev pub key_numbers : Key → List ℕ
key_numbers (name n) = []
key_numbers (number k) = k ∷ []

abbrev pub numbers_in : List (Token Key Scalar) → List ℕ
numbers_in ts = flat_map key_numbers (labels ts)

-- the names of numbers, if the dictionary has them all
abbrev pub names_of : List Name → List ℕ → Option (List Name)
names_of names [] = Some []
names_of names (k ∷ ks) = slice_get names k >>= λ n. names_of names ks >>= λ ns. Some (n ∷ ns)
