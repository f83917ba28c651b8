-- The bytes of a place, part by part.
use Rattle.std.specs.Prelude.{ℕ, ◌+◌, ◌==◌, List, [], ◌∷◌, ◌++◌, if◌then◌else◌}
use Rattle.std.specs.Int.{w32, w64, to_be_bytes}
use Rattle.tc_model.specs.Document.{null_kind, boolean_kind, integer_kind, text_kind}
use Rattle.tc_model.specs.Kinds.{arrays, objects, scalar_tag, tag}
use Rattle.tc_schema_model.specs.Counted.{Counters, total, Counted, Below, Fields}
use Rattle.tc_schema_model.specs.SchemaTree.{union_tag, node_of, item_node_of, field_nodes_of}
use Rattle.tc_schema_model.specs.SchemaBytes.{node_bytes, item_bytes, fields_bytes, fields_count}

-- how many kinds are counted
abbrev pub one_if_some : ℕ → ℕ
one_if_some n = if n == 0 then 0 else 1

abbrev pub kinds_in : Counters → ℕ
kinds_in c = one_if_some c.nulls + one_if_some c.booleans + one_if_some c.integers + one_if_some c.texts + one_if_some c.arrays + one_if_some c.objects

-- a tag and a counter
abbrev pub tagged : ℕ → ℕ → List ℕ
tagged t n = t ∷ to_be_bytes w64 n

-- a kind with what it holds, where it is counted
abbrev pub scalar_part : ℕ → ℕ → List ℕ
scalar_part t n = if n == 0 then [] else tagged t n

abbrev pub array_part : ℕ → Below → List ℕ
array_part n b = if n == 0 then [] else tagged (tag arrays) n ++ item_bytes (item_node_of b)

abbrev pub object_part : ℕ → Fields → List ℕ
object_part n fs = if n == 0 then [] else tagged (tag objects) n ++ (to_be_bytes w32 (fields_count (field_nodes_of fs)) ++ fields_bytes (field_nodes_of fs))

-- what stands before the kinds of a union
abbrev pub union_part : Counters → List ℕ
union_part c = if kinds_in c == 1 then [] else tagged union_tag (total c) ++ kinds_in c ∷ []

abbrev pub scalar_parts : Counters → List ℕ
scalar_parts c = scalar_part (scalar_tag null_kind) c.nulls ++ (scalar_part (scalar_tag boolean_kind) c.booleans ++ (scalar_part (scalar_tag integer_kind) c.integers ++ scalar_part (scalar_tag text_kind) c.texts))

-- a field
abbrev pub field_part : ℕ × Counted → List ℕ
field_part f = to_be_bytes w32 f.0 ++ node_bytes (node_of f.1)
