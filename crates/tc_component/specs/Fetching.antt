-- What is read at the place of an entry.
use Rattle.std.specs.Prelude.{◌+◌, ℕ, List, take, drop, slice_get, option_map, unwrap_or}
use Rattle.std.specs.List.{AllByRecursion}
use Rattle.tc_record.specs.Record.{labels, NumberedTree, IsNumberedForm, IsNumberedRecordIn}
use Rattle.tc_record.specs.Borrowed.{IsBelow, numbered_tokens}
use Rattle.tc_component.specs.declared.found.Place.{Place}
use Rattle.tc_component.specs.declared.found.Found.TheVariants.{At}
use Rattle.tc_component.specs.declared.slot.Slot.{Slot}
use Rattle.tc_component.specs.Columns.{IsFound}
use Rattle.tc_component.specs.Layout.{records_place}
use Rattle.tc_component.specs.Spelling.{lengths_of}

-- the place of an entry that is not gone
abbrev pub IsPlace : List Slot → Place → Type 0
IsPlace slots place = (key : ℕ) × IsFound slots key (At place)

-- where the record of the entry at a position begins, how many bytes it has, and which these are in a file
abbrev pub record_place : List Slot → ℕ → ℕ
record_place slots at = records_place + lengths_of (take at slots)

abbrev pub length_at : List Slot → ℕ → ℕ
length_at slots at = unwrap_or (option_map (λ s. s.length) (slice_get slots at)) 0

abbrev pub record_at : List Slot → ℕ → List ℕ → List ℕ
record_at slots at bytes = take (length_at slots at) (drop (record_place slots at) bytes)

-- bytes that are a record of the form of a version, of which each number is below a limit
pub record IsRecordWithin (version limit : ℕ) (bytes : List ℕ) : Type 0 where
  pub told : IsNumberedForm version
  pub tree : NumberedTree
  pub is_record : IsNumberedRecordIn version tree bytes
  pub below : AllByRecursion (IsBelow limit) (labels (numbered_tokens tree))
