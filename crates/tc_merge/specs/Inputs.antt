-- Components on their way into a merge, and which entry is the next.
use Rattle.std.specs.Prelude.{◌≡◌, ◌≢◌, ◌<◌, ◌≤◌, ◌+◌, ◌-◌, ◌^◌, ℕ, ◌==◌, Bool, false, if◌then◌else◌, List, ◌++◌, length, map, sum_by, take, drop, slice_get, Option, Some, None, option_map}
use Rattle.tc_component.specs.declared.found.Span.{Span}
use Rattle.tc_component.specs.Loading.{ComponentState}
use Rattle.tc_component.specs.Spans.{AreSpans}
use Rattle.tc_component.specs.Spelling.{Row, Index}
use Rattle.tc_merge.specs.Merging.{rows_told, kept}
use Rattle.tc_merge.specs.Newest.{newest}
use Rattle.tc_merge.specs.declared.input.Next.{Next}
use Rattle.tc_merge.specs.declared.least.Least.{Least}

-- a component, and how many of its entries are behind
pub record InputState (F : Type 0) : Type 0 where
  pub component : ComponentState F
  pub at : ℕ

-- none is behind
abbrev pub starts : {F : Type 0} → ComponentState F → InputState F
starts c = record { component = c; at = 0 }

-- the key of its next entry, if one is left
abbrev pub key_ahead : {F : Type 0} → InputState F → Option ℕ
key_ahead input = option_map (λ s. s.key) (slice_get input.component.index.slots input.at)

-- greater than each key
abbrev pub no_key : ℕ
no_key = 2 ^ 64 - 1

-- a key, or that none is left
abbrev pub key_in : ℕ → Option ℕ
key_in key = if key == no_key then None else Some key

-- how many entries are looked up at once
abbrev pub near_size : ℕ
near_size = 16

-- the entries that were looked up from a position on, of which so many are behind, and the key of the one behind these
pub record IsNear (c : Index) (base : ℕ) (near : List Span) (held step key : ℕ) : Type 0 where
  pub within : base + step ≤ length c.slots
  pub spans : AreSpans c.slots base (take held near)
  pub long : length near ≡ near_size
  pub room : held ≤ near_size
  pub some : base + step < length c.slots → step < held
  pub ahead : key_in key ≡ option_map (λ s. s.key) (slice_get c.slots (base + step))

-- the rows of a component from a position on, where its file tells
abbrev pub rows_from : {F : Type 0} → (F → Option (List ℕ)) → ComponentState F → ℕ → List Row
rows_from content c at = drop at (rows_told content c)

-- the rows that are left of an input
abbrev pub rows_left : {F : Type 0} → (F → Option (List ℕ)) → InputState F → List Row
rows_left content input = rows_from content input.component input.at

abbrev pub is_ahead : ℕ → Option ℕ → Bool
is_ahead key None = false
is_ahead key (Some ahead) = key == ahead

-- the input without its next entry, where that has a key
abbrev pub passed : {F : Type 0} → ℕ → InputState F → InputState F
passed key input = if is_ahead key (key_ahead input) then record { component = input.component; at = input.at + 1 } else input

-- the newest of the inputs that have the least key ahead
pub record IsNext {F : Type 0} (inputs : List (InputState F)) (next : Next) : Type 0 where
  pub input : InputState F
  pub here : slice_get inputs next.input ≡ Some input
  pub ahead : key_ahead input ≡ Some next.key
  pub least : (n key : ℕ) (i : InputState F) → slice_get inputs n ≡ Some i → key_ahead i ≡ Some key → next.key ≤ key
  pub newest : (n : ℕ) (i : InputState F) → next.input < n → slice_get inputs n ≡ Some i → key_ahead i ≢ Some next.key

-- or there is none, since no entry is left
abbrev pub IsNextOf : {F : Type 0} → List (InputState F) → Option Next → Type 0
IsNextOf {F} inputs None = (n : ℕ) (i : InputState F) → slice_get inputs n ≡ Some i → key_ahead i ≡ None
IsNextOf inputs (Some next) = IsNext inputs next

-- the next, as it is looked for
abbrev pub next_in : Least → Option Next
next_in least = if least.key == no_key then None else Some (record { input = least.input; key = least.key })

-- how many entries are left
abbrev pub left_of : {F : Type 0} → List (InputState F) → ℕ
left_of inputs = sum_by (λ i. length (drop i.at i.component.index.slots)) inputs

-- What is merged of the inputs since they were as before, and then what is left of them, is what was left of them before.
pub record IsUpTo {F : Type 0} (content : F → Option (List ℕ)) (from : ℕ) (before now : List (InputState F)) (Pushed : List Row → Type 0) : Type 0 where
  pub done : List Row
  pub pushed : Pushed done
  pub whole : kept from (newest (map (rows_left content) before)) ≡ done ++ kept from (newest (map (rows_left content) now))
