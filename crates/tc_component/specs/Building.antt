-- What a component that is being written holds so far.
use Rattle.std.specs.Prelude.{◌≡◌, ℕ, ◌/◌, Bool, List, ◌∷◌, ◌++◌, length, replicate}
use Rattle.tc_store.specs.DiskFile.{DiskFile}
use Rattle.tc_store.specs.Moments.{IfTold}
use Rattle.tc_record.specs.Record.{NumberedTree, IsNumberedRecordIn}
use Rattle.tc_component.specs.declared.head.Head.{Head}
use Rattle.tc_component.specs.declared.head.Sizes.{Sizes}
use Rattle.tc_component.specs.Layout.{head_size, slot_size}
use Rattle.tc_component.specs.Spelling.{Row, written_version, records, slots_of, directory}

-- What stands in the file, and behind it the bytes that wait, are all these, if the file tells.
abbrev pub Spools : List DiskFile → List ℕ → List ℕ → Type 0
Spools moments waiting all = IfTold moments (λ f. f.content ++ waiting ≡ all)

-- behind a shut gate, with no header yet
abbrev pub unheaded : List ℕ → List ℕ
unheaded bytes = 0 ∷ (replicate head_size 0 ++ bytes)

-- a builder, as contracts see it: its device, its header, the bytes of its directory, the bytes that wait to be written,
-- and whether a call failed
pub record BuilderState (D : Type 0) : Type 0 where
  pub device : D
  pub head : Head
  pub directory : List ℕ
  pub waiting : List ℕ
  pub failed : Bool

-- these rows, and no others, were pushed: the directory is theirs, and so are the bytes that were written or wait
pub record HasRows {D : Type 0} (moments : List DiskFile) (b : BuilderState D) (rows : List Row) : Type 0 where
  pub slots : b.directory ≡ directory (slots_of rows)
  pub bytes : Spools moments b.waiting (unheaded (records rows))

-- bytes that are a record as it is written
abbrev pub IsWrittenRecord : List ℕ → Type 0
IsWrittenRecord bytes = (n : NumberedTree) × IsNumberedRecordIn written_version n bytes

-- the sizes of what was written: so many bytes of records, these of the directory, and those of both sections
abbrev pub sizes_written : ℕ → List ℕ → List ℕ → List ℕ → Sizes
sizes_written records slots named counted = record { records = records; entries = length slots / slot_size; names = length named; schema = length counted }
