-- The lines of an input.
use Rattle.std.specs.Prelude.{ℕ, List, [], ◌∷◌, ◌==◌, if◌then◌else◌}

-- the line feed
abbrev pub feed : ℕ
feed = 10

-- a byte before the first line
abbrev pub onto_first : ℕ → List (List ℕ) → List (List ℕ)
onto_first b [] = (b ∷ []) ∷ []
onto_first b (l ∷ ls) = (b ∷ l) ∷ ls

-- A line is the bytes before a line feed, or those after the last line feed, if there are any.
abbrev pub lines_of : List ℕ → List (List ℕ)
lines_of [] = []
lines_of (b ∷ bs) = if b == feed then [] ∷ lines_of bs else onto_first b (lines_of bs)

-- a byte before the first line, if there is one
abbrev pub onto_whole : ℕ → List (List ℕ) → List (List ℕ)
onto_whole b [] = []
onto_whole b (l ∷ ls) = (b ∷ l) ∷ ls

-- the lines whose line feed is there
abbrev pub whole_lines : List ℕ → List (List ℕ)
whole_lines [] = []
whole_lines (b ∷ bs) = if b == feed then [] ∷ whole_lines bs else onto_whole b (whole_lines bs)
