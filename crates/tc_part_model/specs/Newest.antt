-- What the newest component that was loaded has, if there is one: names, schema, documents and generations.
use Rattle.std.specs.Prelude.{◌+◌, ℕ, List, [], ◌∷◌, Option, Some, None}
use Rattle.tc_model.specs.Document.{Name}
use Rattle.tc_schema_model.specs.Counted.{Counted, nothing, documents_of}
use Rattle.tc_component.specs.Spelling.{Index}
use Rattle.tc_part_model.specs.PartState.{ToldComponent}

-- its index, or what stands before the components
abbrev pub newest_index : Option Index → List ToldComponent → Option Index
newest_index before [] = before
newest_index before (c ∷ cs) = newest_index (Some c.index) cs

abbrev pub names_by : Option Index → List Name
names_by None = []
names_by (Some i) = i.names

abbrev pub schema_by : Option Index → Counted
schema_by None = nothing
schema_by (Some i) = i.schema

-- how many documents are live
abbrev pub documents_by : Option Index → ℕ
documents_by o = documents_of (schema_by o)

-- the generation behind it
abbrev pub next_by : Option Index → ℕ
next_by None = 1
next_by (Some i) = i.head.to + 1
