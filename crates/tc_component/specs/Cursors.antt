-- What a cursor holds of the records of a component.
use Rattle.std.specs.Prelude.{◌≡◌, ◌≤◌, ◌+◌, ◌-◌, ℕ, max, min, List, [], length, take, drop, Option, IfSome}
use Rattle.tc_component.specs.Fetching.{record_place, length_at}
use Rattle.tc_component.specs.Layout.{window_size, directory_place}
use Rattle.tc_component.specs.Spelling.{Index, sizes_in}

-- a cursor, as contracts see it: the bytes that it holds, and where they begin in the file
pub record CursorState : Type 0 where
  pub from : ℕ
  pub held : List ℕ

abbrev pub holds_nothing : CursorState
holds_nothing = record { from = 0; held = [] }

-- it holds the bytes of a file, if the file tells its content
abbrev pub HoldsPart : Option (List ℕ) → CursorState → Type 0
HoldsPart content cursor = IfSome content (λ bytes. cursor.held ≡ take (length cursor.held) (drop cursor.from bytes))

-- so many bytes of the file from a place on are among them
abbrev pub HasBytes : ℕ → ℕ → CursorState → Type 0
HasBytes place count cursor = (cursor.from ≤ place) × (place + count ≤ cursor.from + length cursor.held)

-- which of them these are
abbrev pub part_held : ℕ → ℕ → CursorState → List ℕ
part_held place count cursor = take count (drop (place - cursor.from) cursor.held)

-- They begin at a place, where so many are wanted, and end before another. They are no more than one window, or than those
-- that are wanted, and no less than one window, or than all up to that end.
pub record IsWindow (place count end : ℕ) (cursor : CursorState) : Type 0 where
  pub begins : cursor.from ≡ place
  pub within : cursor.from + length cursor.held ≤ end
  pub short : length cursor.held ≤ max window_size count
  pub full : min (end - place) window_size ≤ length cursor.held

-- the whole record of the entry at a position is among them
abbrev pub HasRecord : Index → ℕ → CursorState → Type 0
HasRecord c at cursor = HasBytes (record_place c.slots at) (length_at c.slots at) cursor

-- they begin at the record of the entry at a position, and end with the records or before
abbrev pub BeginsAtRecord : Index → ℕ → CursorState → Type 0
BeginsAtRecord c at cursor = IsWindow (record_place c.slots at) (length_at c.slots at) (directory_place (sizes_in c)) cursor

-- which of them are that record
abbrev pub record_held : Index → ℕ → CursorState → List ℕ
record_held c at cursor = part_held (record_place c.slots at) (length_at c.slots at) cursor
