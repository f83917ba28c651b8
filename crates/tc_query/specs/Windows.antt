-- How many reads the records of components take at most, where a read takes a window of them.
use Rattle.std.specs.Prelude.{◌≡◌, ◌<◌, ◌≤◌, ◌+◌, ◌*◌, ◌/◌, ◌⊎◌, ℕ, List, length, take, slice_get, Some, sum_by}
use Rattle.std.specs.List.{sum}
use Rattle.tc_component.specs.Cursors.{CursorState}
use Rattle.tc_component.specs.Layout.{records_place, window_size}
use Rattle.tc_component.specs.Loading.{ComponentState}
use Rattle.tc_component.specs.Spelling.{lengths_of}
use Rattle.tc_component.specs.declared.slot.Slot.{Slot}
use Rattle.tc_query.specs.declared.reader.Reader.{Reader}

-- ---- how many there are

-- how many bytes the records of all components have
abbrev pub record_bytes : {F : Type 0} → List (ComponentState F) → ℕ
record_bytes cs = sum_by (λ c. lengths_of c.index.slots) cs

-- A window begins where a record does, so that the record which it cuts off is read again. Of two reads of a component that
-- follow each other the second goes on beyond a window from where the first began: two for each window of bytes, and one.
abbrev pub most_windows : {F : Type 0} → List (ComponentState F) → ℕ
most_windows cs = 2 * record_bytes cs / window_size + length cs

-- ---- the reads of a query

-- So many reads were made of the records of entries that all have lesser keys. The last one began at a record, and read a
-- window, or all up to the end.
pub record IsReadTo (low : ℕ) (slots : List Slot) (cursor : CursorState) (reads : ℕ) : Type 0 where
  pub passed : ℕ
  pub lesser : (n : ℕ) (s : Slot) → n < passed → slice_get slots n ≡ Some s → s.key < low
  pub begin : ℕ
  pub from : cursor.from ≡ records_place + begin
  pub order : begin ≤ lengths_of (take passed slots)
  pub full : (window_size ≤ length cursor.held) ⊎ (lengths_of slots ≤ begin + length cursor.held)
  pub few : reads * window_size ≤ lengths_of (take passed slots) + (begin + window_size)

-- or none was made
abbrev pub IsRead : ℕ → List Slot → CursorState → ℕ → Type 0
IsRead low slots cursor reads = (reads ≡ 0) ⊎ IsReadTo low slots cursor reads

-- so of each component, with as many reads together as a count rose by
pub record AreRead {F : Type 0} (low : ℕ) (components : List (ComponentState F)) (readers : List Reader) (first now : ℕ) : Type 0 where
  pub reads : List ℕ
  pub many : length reads ≡ length components
  pub each : (n r : ℕ) (c : ComponentState F) (k : Reader) → slice_get components n ≡ Some c → slice_get readers n ≡ Some k → slice_get reads n ≡ Some r → IsRead low c.index.slots k.cursor r
  pub together : now ≤ first + sum reads
