-- What the parts of a reader give, by what they hold.
use Rattle.std.specs.Prelude.{◌≡◌, ℕ, ◌≤◌, ◌<◌, ◌⊎◌, Bool, true, false, List, [], ◌++◌, length}
use Rattle.tc_lines.specs.Holding.{Holding}
use Rattle.tc_lines.specs.Answer.{Reading}
use Rattle.tc_lines.specs.declared.reader.Line.{Line}
use Rattle.tc_lines.specs.declared.reader.Line.TheVariants.{Whole, Oversized, End, Memory}

-- the reader that holds this
abbrev pub reading_of : ℕ → Bool → Holding → Reading
reading_of limit failed h = record { limit = limit; held = h.front ++ h.rest; taken = h.taken; failed = failed; ended = h.ended }

-- a line that has its line feed, of which some bytes may have been skipped as too many
abbrev pub GivesLine : Line → List ℕ → ℕ → Bool → Type 0
GivesLine (Whole given) line limit oversized = (given ≡ line) × (length line ≤ limit) × (oversized ≡ false)
GivesLine Oversized line limit oversized = (oversized ≡ true) ⊎ (limit < length line)
GivesLine Memory line limit oversized = Unit {0}
GivesLine _ line limit oversized = ⊥

-- all that is left at the end of the source
abbrev pub GivesLast : Line → List ℕ → Bool → Type 0
GivesLast (Whole given) line oversized = (given ≡ line) × (0 < length line) × (oversized ≡ false)
GivesLast Oversized line oversized = oversized ≡ true
GivesLast End line oversized = (line ≡ []) × (oversized ≡ false)
GivesLast _ line oversized = ⊥

-- the bytes so far were dropped, since they are too many for a line, or kept
abbrev pub MakesRoom : Bool → ℕ → Bool → Holding → Holding → Type 0
MakesRoom true limit oversized old new = (new ≡ record old { front = []; rest = [] }) × ((oversized ≡ true) ⊎ (limit < length (old.front ++ old.rest)))
MakesRoom false limit oversized old new = (new ≡ record old { front = old.front ++ old.rest; rest = [] }) × (length (old.front ++ old.rest) ≤ limit) × (oversized ≡ false)
