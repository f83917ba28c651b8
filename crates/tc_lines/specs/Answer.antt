-- A reader of lines, and what each of its answers says.
use Rattle.std.specs.Prelude.{◌≡◌, ℕ, ◌+◌, ◌≤◌, ◌<◌, ◌⊎◌, Bool, true, false, List, [], ◌∷◌, ◌++◌, length, Option}
use Rattle.std.specs.Io.KnownBytes.{Consumes, IsAtEnd}
use Rattle.tc_edge.specs.Moments.{Moment}
use Rattle.tc_model.specs.Lines.{lines_of, whole_lines}
use Rattle.tc_lines.specs.Needed.{HasReadNeeded}
use Rattle.tc_lines.specs.declared.intake.TheConstants.{MAX_TAKEN}
use Rattle.tc_lines.specs.declared.reader.Line.{Line}
use Rattle.tc_lines.specs.declared.reader.Line.TheVariants.{Whole, Oversized, End, ReadFault, Spent, Memory}

-- A reader: how long a line may be, the bytes that were read and belong to no line given out yet,
-- how many were read in all, whether it has failed, and whether the source told it of its end.
pub record Reading : Type 0 where
  pub limit : ℕ
  pub held : List ℕ
  pub taken : ℕ
  pub failed : Bool
  pub ended : Bool

-- The bytes are this line with its line feed, and then others, whatever comes after them.
pub record BeginsWithLine (bytes line behind : List ℕ) : Type 0 where
  pub lines : (rest : List ℕ) → lines_of (bytes ++ rest) ≡ line ∷ lines_of (behind ++ rest)
  pub whole : (rest : List ℕ) → whole_lines (bytes ++ rest) ≡ line ∷ whole_lines (behind ++ rest)

-- the bytes are this one line, without a line feed
pub record IsLastLine (bytes line : List ℕ) : Type 0 where
  pub lines : lines_of bytes ≡ line ∷ []
  pub whole : whole_lines bytes ≡ []

-- the source is at its end, of which it told in a read
pub record HasEnded (new : Reading) (left : Option (List ℕ)) : Type 0 where
  pub at_end : IsAtEnd left
  pub held : new.held ≡ []
  pub taken : new.taken < MAX_TAKEN
  pub ended : new.ended ≡ true

-- the next line of the bytes, which are those held before and those read now
abbrev pub IsNextLine : List ℕ → List ℕ → Reading → Option (List ℕ) → Type 0
IsNextLine bytes line new left = (BeginsWithLine bytes line new.held × (new.ended ≡ false)) ⊎ (IsLastLine bytes line × HasEnded new left)

-- what an answer says of the bytes
abbrev pub Answers : Line → List ℕ → Reading → Option (List ℕ) → Type 0
Answers (Whole line) bytes new left = IsNextLine bytes line new left × (length line ≤ new.limit)
Answers Oversized bytes new left = (line : List ℕ) × IsNextLine bytes line new left × (new.limit < length line)
Answers End bytes new left = (bytes ≡ []) × HasEnded new left
Answers ReadFault bytes new left = (whole_lines bytes ≡ []) × (new.taken < MAX_TAKEN)
Answers Spent bytes new left = (whole_lines bytes ≡ []) × (new.taken ≡ MAX_TAKEN)
Answers Memory bytes new left = Unit {0}

-- after these answers a reader has failed
abbrev pub is_failure : Line → Bool
is_failure (Whole line) = false
is_failure Oversized = false
is_failure End = false
is_failure ReadFault = true
is_failure Spent = true
is_failure Memory = true

-- The reader read some input, and this is its answer. Each read was needed.
pub record IsAnswered (answer : Line) (old new : Reading) (left left' accepted : Option (List ℕ)) (told told' : Option (List Moment)) : Type 0 where
  pub input : List ℕ
  pub consumed : Consumes left left' input
  pub counted : new.taken ≡ old.taken + length input
  pub says : Answers answer (old.held ++ input) new left'
  pub prompt : HasReadNeeded old.held accepted input told told'
