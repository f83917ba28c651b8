-- How long the longest of some names is.
use Rattle.std.specs.Prelude.{ℕ, max, List, [], ◌∷◌, length}
use Rattle.tc_model.specs.Document.{Name}

-- the bytes of the longest name, and 0 where there is none
abbrev pub longest_of : List Name → ℕ
longest_of [] = 0
longest_of (name ∷ names) = max (length name) (longest_of names)
