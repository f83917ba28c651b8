-- How far a run comes: which windows were answered, at which it ended, and what the sink accepted. What is said of the
-- disk is said of the same windows. The world in which a run begins is none where it is not known.
use Rattle.std.specs.Prelude.{◌≡◌, ◌⊎◌, ℕ, ◌+◌, ◌<◌, List, [], ◌∷◌, ◌++◌, length, flat_map, map, take, Option, option_map}
use Rattle.std.specs.Io.KnownBytes.{Appends, Consumes, IsAtEnd}
use Rattle.tc_request_model.specs.Request.{Request, request_of}
use Rattle.tc_request_model.specs.Reply.{Reply, reply_line}
use Rattle.tc_run_model.specs.Windows.{BeginsWith, Window, windows, closed_windows, unless_empty, lines_in}
use Rattle.tc_run_model.specs.World.{World, after_all}
use Rattle.tc_run_model.specs.Known.{MayReply}

-- how a run ends
pub data Ending : Type 0 where
  -- all lines were answered
  finished : Ending
  -- a read failed, or as many bytes were read as can be
  input_failed : Ending
  input_spent : Ending
  -- a write failed after so many bytes of a window's replies
  output_failed : ℕ → Ending
  -- memory, a disk, damage, or no generation left
  stopped : Ending
  -- a partition could not be opened
  unopened : Ending

-- the most bytes that are read
abbrev pub max_input : ℕ
max_input = 9223372036854775807

-- ---- windows that were answered

-- the requests that are answered for lines
abbrev pub requests_for : List (List ℕ) → List Request
requests_for lines = map request_of lines

-- the requests of windows
abbrev pub requests_in : List Window → List Request
requests_in ws = requests_for (lines_in ws)

-- the world behind windows
abbrev pub behind : World → List Window → World
behind first ws = after_all (requests_in ws) first

-- the same of a world that may not be known
abbrev pub known_behind : Option World → List Window → Option World
known_behind first ws = option_map (λ w. behind w ws) first

-- These windows closed: by the lines that came with their line feed, or by the end of the input too.
abbrev pub HaveClosed : ℕ → List ℕ → Option (List ℕ) → List Window → Type 0
HaveClosed most input left closed = (closed ≡ closed_windows most input) ⊎ (IsAtEnd left × (closed ≡ windows most input))

-- Windows were answered, and the run ended at the one behind them, which has no line where it ended at none. At the end
-- of the input these are all windows, and at a fault of the source or with its bytes spent all that had closed.
abbrev pub IsReached : Ending → ℕ → List ℕ → Option (List ℕ) → List Window → Window → Type 0
IsReached finished most input left answered last = IsAtEnd left × (answered ≡ windows most input) × (last ≡ [])
IsReached input_failed most input left answered last = (answered ≡ closed_windows most input) × (last ≡ [])
IsReached input_spent most input left answered last = (length input ≡ max_input) × (answered ≡ closed_windows most input) × (last ≡ [])
IsReached (output_failed n) most input left answered last =
    (closed : List Window) × HaveClosed most input left closed × BeginsWith closed (answered ++ last ∷ [])
IsReached stopped most input left answered last =
    (closed : List Window) × HaveClosed most input left closed × BeginsWith closed (answered ++ unless_empty last)
IsReached unopened most input left answered last = (input ≡ []) × (answered ≡ []) × (last ≡ [])

-- ---- what the sink accepted

-- what is written of replies
abbrev pub Shown : Type 0
Shown = List Reply → List ℕ

-- each reply is a line
abbrev pub each_line : Shown
each_line replies = flat_map reply_line replies

-- What is shown of the replies to the answered windows. Where a write failed, also the first bytes of the last window's,
-- and not all of them.
abbrev pub Took : Shown → Ending → Option World → List Window → Window → List Reply → Option (List ℕ) → Option (List ℕ) → Type 0
Took shown finished first answered last replies taken taken' = Appends taken taken' (shown replies)
Took shown input_failed first answered last replies taken taken' = Appends taken taken' (shown replies)
Took shown input_spent first answered last replies taken taken' = Appends taken taken' (shown replies)
Took shown (output_failed n) first answered last replies taken taken' =
    (more : List Reply) × MayReply (requests_for last) (known_behind first answered) more
    × (length (shown replies) + n < length (shown (replies ++ more)))
    × Appends taken taken' (take (length (shown replies) + n) (shown (replies ++ more)))
Took shown stopped first answered last replies taken taken' = Appends taken taken' (shown replies)
Took shown unopened first answered last replies taken taken' = Appends taken taken' (shown replies)

-- What is due by given input: the replies to the windows that have closed among it, to a sink that had taken `base`.
abbrev pub IsDue : Shown → Option World → ℕ → Option (List ℕ) → List ℕ → Option (List ℕ) → Type 0
IsDue shown first most base given accepted =
    (replies : List Reply) × MayReply (requests_in (closed_windows most given)) first replies × Appends base accepted (shown replies)

-- ---- a run

-- a run from a first world, over windows of at most so many lines, of whose replies so much is shown
pub record Ran (shown : Shown) (first : Option World) (most : ℕ) (ending : Ending) (left left' taken taken' : Option (List ℕ)) : Type 0 where
  pub input : List ℕ
  pub consumed : Consumes left left' input
  pub answered : List Window
  pub last : Window
  pub replies : List Reply
  pub given : MayReply (requests_in answered) first replies
  pub reached : IsReached ending most input left' answered last
  pub took : Took shown ending first answered last replies taken taken'

-- the worlds at which partitions may be left, each of them at either
abbrev pub worlds_left : Ending → World → List Window → Window → List World
worlds_left finished first answered last = behind first answered ∷ []
worlds_left input_failed first answered last = behind first answered ∷ []
worlds_left input_spent first answered last = behind first answered ∷ []
worlds_left (output_failed n) first answered last = behind first (answered ++ last ∷ []) ∷ []
worlds_left stopped first answered last = behind first answered ∷ behind first (answered ++ unless_empty last) ∷ []
worlds_left unopened first answered last = first ∷ []
