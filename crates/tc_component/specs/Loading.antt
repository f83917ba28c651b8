-- What is loaded of a component.
use Rattle.std.specs.Prelude.{◌≡◌, ◌≤◌, ℕ, List, Option, Ok, IfSome}
use Rattle.tc_bytes.specs.Counts.{Rose, next_count}
use Rattle.tc_store.specs.Counted.{Counts}
use Rattle.tc_component.specs.declared.head.Head.{Head}
use Rattle.tc_component.specs.declared.head.Sizes.{Sizes}
use Rattle.tc_component.specs.declared.reading.Parts.{Parts}
use Rattle.tc_component.specs.declared.loading.Loaded.{Loaded}
use Rattle.tc_component.specs.Reading.{file_judged}
use Rattle.tc_component.specs.Spelling.{name_of, Index}

abbrev pub same_pair : Head × Sizes → Head × Sizes
same_pair h = h

-- a version, a header, and what stands behind the records
abbrev pub parts_of : ℕ → Head → Parts → Index
parts_of version head parts = record { version = version; head = head; slots = parts.directory; names = parts.names; schema = parts.schema }

abbrev pub loaded_index : Loaded → Index
loaded_index loaded = parts_of loaded.version loaded.head loaded.parts

-- A call of two reads where it is done.
pub record IsCountedTwice (Failed Done : Type 0) (old new : Counts) : Type 0 where
  pub faults : old.faults ≤ new.faults
  pub cause : Failed → Rose old.faults new.faults
  pub done : Done → new.reads ≡ next_count (next_count old.reads)

-- a component, as contracts see it: its file, and what it has beside its records
pub record ComponentState (F : Type 0) : Type 0 where
  pub file : F
  pub index : Index

-- it has beside its records what its file is judged to have, if the file tells its content
abbrev pub IsAsJudged : {F : Type 0} → (F → Option (List ℕ)) → ComponentState F → Type 0
IsAsJudged content c = IfSome (content c.file) (λ whole. file_judged (name_of c.index.head) whole ≡ Ok c.index)

abbrev pub index_in : {F : Type 0} → ComponentState F → Index
index_in c = c.index

abbrev pub same_head : Head → Head
same_head head = head
