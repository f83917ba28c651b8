-- The names of members, cut from the column where they stand one after the other.
use Rattle.std.specs.Prelude.{ℕ, List, [], ◌∷◌, Option, Some}
use Rattle.tc_bytes.specs.Reading.{◌>>=◌}
use Rattle.tc_model.specs.Document.{Name}
use Rattle.tc_record.specs.Walk.{utf8_at}

-- the names of these lengths, from the front of bytes, if each is UTF-8
abbrev pub names_cut : List ℕ → List ℕ → Option (List Name)
names_cut [] bytes = Some []
names_cut (n ∷ ns) bytes = utf8_at n bytes >>= λ t. names_cut ns t.1 >>= λ more. Some (t.0 ∷ more)
