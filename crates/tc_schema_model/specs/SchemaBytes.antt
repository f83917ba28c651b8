-- The bytes of a schema, and which schemas have bytes.
use Rattle.std.specs.Prelude.{ℕ, ◌+◌, List, [], ◌∷◌, ◌++◌, Some, None}
use Rattle.std.specs.Int.{w32, w64, to_be_bytes}
use Rattle.tc_model.specs.Kinds.{arrays, objects, scalar_tag, tag}
use Rattle.tc_schema_model.specs.Counted.{Counted, IsCanonical, CountsObjects, HasSmallCounters}
use Rattle.tc_schema_model.specs.Levels.{IsShallow}
use Rattle.tc_schema_model.specs.SchemaTree.{SchemaNode, scalar_node, array_node, object_node, union_node, ItemNode, no_item_node, an_item_node, FieldNodes, no_field_nodes, a_field_node, KindNodes, no_kind_nodes, a_kind_node, SchemaTree, union_tag, kinds_count}

abbrev pub fields_count : FieldNodes → ℕ
fields_count no_field_nodes = 0
fields_count (a_field_node n t fs) = 1 + fields_count fs

-- A node is its tag, its counter in eight bytes, and what it holds.
abbrev mutual
  pub node_bytes : SchemaNode → List ℕ
  node_bytes (scalar_node k n) = scalar_tag k ∷ to_be_bytes w64 n
  node_bytes (array_node n i) = tag arrays ∷ (to_be_bytes w64 n ++ item_bytes i)
  node_bytes (object_node n fs) = tag objects ∷ (to_be_bytes w64 n ++ (to_be_bytes w32 (fields_count fs) ++ fields_bytes fs))
  node_bytes (union_node n ks) = union_tag ∷ (to_be_bytes w64 n ++ (kinds_count ks ∷ kinds_bytes ks))

  -- whether there is an item node, and the node
  pub item_bytes : ItemNode → List ℕ
  item_bytes no_item_node = 0 ∷ []
  item_bytes (an_item_node t) = 1 ∷ node_bytes t

  -- per field its number in four bytes, and its node
  pub fields_bytes : FieldNodes → List ℕ
  fields_bytes no_field_nodes = []
  fields_bytes (a_field_node n t fs) = to_be_bytes w32 n ++ (node_bytes t ++ fields_bytes fs)

  pub kinds_bytes : KindNodes → List ℕ
  kinds_bytes no_kind_nodes = []
  kinds_bytes (a_kind_node t ks) = node_bytes t ++ kinds_bytes ks

abbrev pub schema_bytes : SchemaTree → List ℕ
schema_bytes None = 0 ∷ []
schema_bytes (Some t) = node_bytes t

-- the schemas that have bytes: in the one form with numbers below the limit, of documents, which are objects, with
-- counters of 64 bits, and no deeper than documents make them
pub record IsSchema (limit : ℕ) (d : Counted) : Type 0 where
  pub canonical : IsCanonical limit d
  pub of_objects : CountsObjects d
  pub small : HasSmallCounters d
  pub shallow : IsShallow d
