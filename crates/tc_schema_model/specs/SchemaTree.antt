-- The schema as a tree with unions, the tree that counters make, and when such a tree is in the one form.
use Rattle.std.specs.Prelude.{◌≡◌, ℕ, ◌+◌, ◌<◌, ◌≤◌, ◌==◌, Option, Some, None, if◌then◌else◌}
use Rattle.tc_model.specs.Document.{ScalarKind, null_kind, boolean_kind, integer_kind, text_kind}
use Rattle.tc_model.specs.Kinds.{arrays, objects, scalar_tag, tag}
use Rattle.tc_schema_model.specs.Counted.{Counters, Counted, counted, Below, no_item, an_item, Fields, no_fields, a_field, documents_of}

-- each node has its counter
mutual
  pub data SchemaNode : Type 0 where
    scalar_node : ScalarKind → ℕ → SchemaNode
    array_node : ℕ → ItemNode → SchemaNode
    object_node : ℕ → FieldNodes → SchemaNode
    union_node : ℕ → KindNodes → SchemaNode

  -- the node of the items, if there are any
  pub data ItemNode : Type 0 where
    no_item_node : ItemNode
    an_item_node : SchemaNode → ItemNode

  -- the nodes of the members, by the numbers of their names
  pub data FieldNodes : Type 0 where
    no_field_nodes : FieldNodes
    a_field_node : ℕ → SchemaNode → FieldNodes → FieldNodes

  -- the kinds of a union
  pub data KindNodes : Type 0 where
    no_kind_nodes : KindNodes
    a_kind_node : SchemaNode → KindNodes → KindNodes

-- a schema is empty or has a root
abbrev pub SchemaTree : Type 0
SchemaTree = Option SchemaNode

-- the tag of a union, beside those of the kinds
abbrev pub union_tag : ℕ
union_tag = 8

-- the counter and the tag of a node
abbrev pub node_counter : SchemaNode → ℕ
node_counter (scalar_node k n) = n
node_counter (array_node n i) = n
node_counter (object_node n fs) = n
node_counter (union_node n ks) = n

abbrev pub node_tag : SchemaNode → ℕ
node_tag (scalar_node k n) = scalar_tag k
node_tag (array_node n i) = tag arrays
node_tag (object_node n fs) = tag objects
node_tag (union_node n ks) = union_tag

-- the counters of the kinds together
abbrev pub kinds_total : KindNodes → ℕ
kinds_total no_kind_nodes = 0
kinds_total (a_kind_node t ks) = node_counter t + kinds_total ks

abbrev pub kinds_count : KindNodes → ℕ
kinds_count no_kind_nodes = 0
kinds_count (a_kind_node t ks) = 1 + kinds_count ks

-- ---- the tree that counters make

-- one more kind, where it was counted
abbrev pub with_kind : ℕ → (ℕ → SchemaNode) → KindNodes → KindNodes
with_kind n node rest = if n == 0 then rest else a_kind_node (node n) rest

-- one kind is itself, and several are a union
abbrev pub united : KindNodes → SchemaNode
united no_kind_nodes = union_node 0 no_kind_nodes
united (a_kind_node t no_kind_nodes) = t
united (a_kind_node t (a_kind_node u ks)) = union_node (kinds_total (a_kind_node t (a_kind_node u ks))) (a_kind_node t (a_kind_node u ks))

-- the kinds that are counted, by ascending tag
abbrev pub kind_nodes : Counters → ItemNode → FieldNodes → KindNodes
kind_nodes c i fs =
    with_kind c.nulls (scalar_node null_kind)
    (with_kind c.booleans (scalar_node boolean_kind)
    (with_kind c.integers (scalar_node integer_kind)
    (with_kind c.texts (scalar_node text_kind)
    (with_kind c.arrays (λ n. array_node n i)
    (with_kind c.objects (λ n. object_node n fs) no_kind_nodes)))))

abbrev mutual
  pub node_of : Counted → SchemaNode
  node_of (counted c b fs) = united (kind_nodes c (item_node_of b) (field_nodes_of fs))

  pub item_node_of : Below → ItemNode
  item_node_of no_item = no_item_node
  item_node_of (an_item d) = an_item_node (node_of d)

  pub field_nodes_of : Fields → FieldNodes
  field_nodes_of no_fields = no_field_nodes
  field_nodes_of (a_field n d fs) = a_field_node n (node_of d) (field_nodes_of fs)

-- the whole schema
abbrev pub schema_tree : Counted → SchemaTree
schema_tree d = if documents_of d == 0 then None else Some (node_of d)

-- ---- the one form

-- No counter is 0. A union has two or more kinds by ascending tag, none of them a union, and its counter is their sum.
-- Fields ascend by number, below the limit.
abbrev mutual
  pub IsCanonicalNode : ℕ → SchemaNode → Type 0
  IsCanonicalNode limit (scalar_node k n) = 0 < n
  IsCanonicalNode limit (array_node n i) = (0 < n) × IsCanonicalItem limit i
  IsCanonicalNode limit (object_node n fs) = (0 < n) × AreCanonicalFields limit 0 fs
  IsCanonicalNode limit (union_node n ks) = (2 ≤ kinds_count ks) × (n ≡ kinds_total ks) × AreCanonicalKinds limit 1 ks

  pub IsCanonicalItem : ℕ → ItemNode → Type 0
  IsCanonicalItem limit no_item_node = Unit {0}
  IsCanonicalItem limit (an_item_node t) = IsCanonicalNode limit t

  -- the first number is at least this low
  pub AreCanonicalFields : ℕ → ℕ → FieldNodes → Type 0
  AreCanonicalFields limit low no_field_nodes = Unit {0}
  AreCanonicalFields limit low (a_field_node n t fs) = (low ≤ n) × (n < limit) × IsCanonicalNode limit t × AreCanonicalFields limit (n + 1) fs

  -- the first tag is at least this low, and none is that of a union
  pub AreCanonicalKinds : ℕ → ℕ → KindNodes → Type 0
  AreCanonicalKinds limit low no_kind_nodes = Unit {0}
  AreCanonicalKinds limit low (a_kind_node t ks) = (low ≤ node_tag t) × (node_tag t < 7) × IsCanonicalNode limit t × AreCanonicalKinds limit (node_tag t + 1) ks

abbrev pub IsCanonicalTree : ℕ → SchemaTree → Type 0
IsCanonicalTree limit None = Unit {0}
IsCanonicalTree limit (Some t) = IsCanonicalNode limit t
