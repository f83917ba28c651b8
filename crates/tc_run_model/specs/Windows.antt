-- The windows of lines: lines that are answered together, and whose replies are written together.
use Rattle.std.specs.Prelude.{◌≡◌, ◌⊎◌, ℕ, List, [], ◌∷◌, ◌++◌, length, fold, sum_by, Bool, true, false, ◌||◌, nat_le, if◌then◌else◌}
use Rattle.tc_model.specs.Lines.{lines_of, whole_lines}
use Rattle.tc_request_model.specs.Request.{Request, upsert, delete, get, query, flush, schema, scan, collect, refused, request_of}
use Rattle.tc_model.specs.Limits.{max_line}

-- the first list goes on where the second ends
pub record BeginsWith {X : Type 0} (whole front : List X) : Type 0 where
  pub more : List X
  pub goes_on : whole ≡ front ++ more

abbrev pub Window : Type 0
Window = List (List ℕ)

-- windows that have closed, and the one that is open, which may have no line yet
pub record Windows : Type 0 where
  pub closed : List Window
  pub open_lines : Window

-- bytes of lines that close a window, at least
abbrev pub max_window : ℕ
max_window = 4194304

-- an oversized line counts as one of no bytes
abbrev pub line_size : List ℕ → ℕ
line_size line = if nat_le (length line) max_line then length line else 0

-- a command of the whole store is a window of its own
abbrev pub is_control : Request → Bool
is_control flush = true
is_control schema = true
is_control (scan ask) = true
is_control collect = true
is_control (upsert n d) = false
is_control (delete n) = false
is_control (get n) = false
is_control (query ask) = false
is_control (refused r) = false

-- a window closes at this many lines, or at this many bytes
abbrev pub is_full : ℕ → Window → Bool
is_full limit window = nat_le limit (length window) || nat_le max_window (sum_by line_size window)

-- a window, where it has a line
abbrev pub unless_empty : Window → List Window
unless_empty [] = []
unless_empty (line ∷ lines) = (line ∷ lines) ∷ []

-- the windows when the open one has got a line
abbrev pub with_open : ℕ → List Window → Window → Windows
with_open limit closed window =
    if is_full limit window
    then record { closed = closed ++ window ∷ []; open_lines = [] }
    else record { closed = closed; open_lines = window }

-- the windows when a further line has come
abbrev pub with_line : ℕ → Windows → List ℕ → Windows
with_line limit ws line =
    if is_control (request_of line)
    then record { closed = ws.closed ++ unless_empty ws.open_lines ++ (line ∷ []) ∷ []; open_lines = [] }
    else with_open limit ws.closed (ws.open_lines ++ line ∷ [])

-- the windows of lines, each of at most this many lines
abbrev pub windows_of : ℕ → List (List ℕ) → Windows
windows_of limit lines = fold (with_line limit) (record { closed = []; open_lines = [] }) lines

-- the windows that closed among the lines whose line feed is in the bytes
abbrev pub closed_windows : ℕ → List ℕ → List Window
closed_windows limit bytes = (windows_of limit (whole_lines bytes)).closed

-- the windows of a whole input
abbrev pub windows : ℕ → List ℕ → List Window
windows limit input = let ws = windows_of limit (lines_of input) in ws.closed ++ unless_empty ws.open_lines

-- the lines of windows
abbrev pub lines_in : List Window → List (List ℕ)
lines_in [] = []
lines_in (window ∷ more) = window ++ lines_in more

-- ---- why windows close

-- a window of one line, which is a command of the whole store
pub record IsControlWindow (window : Window) : Type 0 where
  pub line : List ℕ
  pub alone : window ≡ line ∷ []
  pub control : is_control (request_of line) ≡ true

-- the next window is one
abbrev pub StandsBeforeControl : List Window → Type 0
StandsBeforeControl [] = ⊥
StandsBeforeControl (window ∷ more) = IsControlWindow window

-- why a window has closed, by those after it
abbrev pub HasReason : ℕ → Window → List Window → Type 0
HasReason limit window after = IsControlWindow window ⊎ ((is_full limit window ≡ true) ⊎ StandsBeforeControl after)

-- each window has one of the reasons
abbrev pub AreCut : ℕ → List Window → Type 0
AreCut limit [] = Unit {0}
AreCut limit (window ∷ more) = HasReason limit window more × AreCut limit more
