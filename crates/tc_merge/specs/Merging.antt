-- What a merge makes of neighbouring components, by what they have beside their records and by the bytes of these.
use Rattle.std.specs.Prelude.{◌≡◌, ◌≤◌, ◌+◌, ℕ, ◌==◌, if◌then◌else◌, List, [], ◌∷◌, length, map, filter, take, drop, All, Option, Some, None, is_some, unwrap_or, IsSome}
use Rattle.tc_model.specs.Document.{Name}
use Rattle.tc_model.specs.Dictionary.{Extends}
use Rattle.tc_schema_model.specs.Counted.{Counted, nothing}
use Rattle.tc_component.specs.declared.head.Head.{Head}
use Rattle.tc_component.specs.declared.slot.Slot.{Slot}
use Rattle.tc_component.specs.Layout.{records_place}
use Rattle.tc_component.specs.Loading.{ComponentState}
use Rattle.tc_component.specs.Spelling.{Row, file_bytes}
use Rattle.tc_compact.specs.Repacked.{repacked}
use Rattle.tc_record.specs.Record.{numbered_form}
use Rattle.tc_merge.specs.Newest.{newest}

-- ---- the rows of a component

-- a record of a file of a version, as it is written now
abbrev pub rewritten : ℕ → List ℕ → List ℕ
rewritten version bytes = if version == numbered_form then repacked bytes else bytes

-- so many bytes as they are written now, or that the entry is gone where they are none
abbrev pub held_in : ℕ → ℕ → List ℕ → Option (List ℕ)
held_in version count bytes = if count == 0 then None else Some (rewritten version (take count bytes))

-- the rows of a directory, whose records stand one behind the other in these bytes
abbrev pub rows_in : ℕ → List Slot → List ℕ → List Row
rows_in version [] bytes = []
rows_in version (s ∷ slots) bytes = (s.key, held_in version s.length bytes) ∷ rows_in version slots (drop s.length bytes)

-- the rows of a component whose file tells its content, as they are written now
abbrev pub rows_told : {F : Type 0} → (F → Option (List ℕ)) → ComponentState F → List Row
rows_told content c = rows_in c.index.version c.index.slots (drop records_place (unwrap_or (content c.file) []))

abbrev pub AreTold : {F : Type 0} → (F → Option (List ℕ)) → List (ComponentState F) → Type 0
AreTold content run = All (λ c. IsSome (content c.file)) run

-- ---- the rows of a merge

-- from generation 1 on nothing is older, so that what is gone need not be told
abbrev pub kept : ℕ → List Row → List Row
kept from rows = if from == 1 then filter (λ row. is_some row.1) rows else rows

-- of each key the row of the newest component that has one
abbrev pub merged_rows : {F : Type 0} → (F → Option (List ℕ)) → ℕ → List (ComponentState F) → List Row
merged_rows content from run = kept from (newest (map (rows_told content) run))

-- how many of the rows have a record
abbrev pub live_rows : List Row → ℕ
live_rows rows = length (filter (λ row. is_some row.1) rows)

-- ---- its names and its schema

-- those of the newest component, or else what stands before the run
abbrev pub newest_names : {F : Type 0} → List Name → List (ComponentState F) → List Name
newest_names names [] = names
newest_names names (c ∷ run) = newest_names c.index.names run

abbrev pub newest_schema : {F : Type 0} → Counted → List (ComponentState F) → Counted
newest_schema schema [] = schema
newest_schema schema (c ∷ run) = newest_schema c.index.schema run

-- the whole file, with the header that is handed in
abbrev pub merge_bytes : {F : Type 0} → (F → Option (List ℕ)) → Head → List (ComponentState F) → List ℕ
merge_bytes content head run = file_bytes head (merged_rows content head.from run) (newest_names [] run) (newest_schema nothing run)

-- ---- what can be merged

-- the intervals follow each other, from a generation on to another
abbrev pub Tile : {F : Type 0} → ℕ → ℕ → List (ComponentState F) → Type 0
Tile from to [] = from ≡ to + 1
Tile from to (c ∷ run) = (c.index.head.from ≡ from) × Tile (c.index.head.to + 1) to run

-- the names of each go on from those of the one before
abbrev pub GrowNames : {F : Type 0} → List Name → List (ComponentState F) → Type 0
GrowNames names [] = Unit {0}
GrowNames names (c ∷ run) = Extends c.index.names names × GrowNames c.index.names run

-- at least two components of the header's partition, whose intervals make up the header's
pub record IsRun {F : Type 0} (head : Head) (run : List (ComponentState F)) : Type 0 where
  pub several : 2 ≤ length run
  pub number : All (λ c. c.index.head.number ≡ head.number) run
  pub count : All (λ c. c.index.head.count ≡ head.count) run
  pub tile : Tile head.from head.to run
  pub names : GrowNames [] run
