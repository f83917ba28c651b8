-- The schema text as a JSON value: from the tree, and from the documents themselves by recursion over their values.
use Rattle.std.specs.Prelude.{ℕ, zero, suc, ◌+◌, max, List, [], ◌∷◌, length, map, filter, flat_map, bytes_eq, codes, slice_get, unwrap_or, Some, None}
use Rattle.serde_json.specs.Data as json
use Rattle.tc_model.specs.Tree.{leaf, array, object, depth, listed_items, listed_members}
use Rattle.tc_model.specs.Document.{Name, Document, ShapeTree, ScalarKind, null_kind, boolean_kind, integer_kind, text_kind, document_shape}
use Rattle.tc_model.specs.Kinds.{Kind, scalar, arrays, objects, kind_of, is_kind}
use Rattle.tc_schema_model.specs.SchemaTree.{SchemaNode, scalar_node, array_node, object_node, union_node, ItemNode, no_item_node, an_item_node, FieldNodes, no_field_nodes, a_field_node, KindNodes, no_kind_nodes, a_kind_node, SchemaTree}

abbrev pub kind_text : ScalarKind → List ℕ
kind_text null_kind = codes "null"
kind_text boolean_kind = codes "boolean"
kind_text integer_kind = codes "integer"
kind_text text_kind = codes "text"

-- a member `count`, and a member `kind`, before further members
abbrev pub count_member : ℕ → json.Members → json.Members
count_member n more = json.member (codes "count") (json.number (json.unsigned n)) more

abbrev pub kind_member : List ℕ → json.Members → json.Members
kind_member kind more = json.member (codes "kind") (json.string kind) more

-- the four forms of a node
abbrev pub scalar_text : ScalarKind → ℕ → json.Data
scalar_text k n = json.object (count_member n (kind_member (kind_text k) json.no_members))

abbrev pub array_text : ℕ → json.Data → json.Data
array_text n items = json.object (count_member n (json.member (codes "items") items (kind_member (codes "array") json.no_members)))

abbrev pub object_text : ℕ → json.Members → json.Data
object_text n fields = json.object (count_member n (json.member (codes "fields") (json.object fields) (kind_member (codes "object") json.no_members)))

abbrev pub union_text : ℕ → json.Items → json.Data
union_text n kinds = json.object (count_member n (kind_member (codes "union") (json.member (codes "kinds") (json.array kinds) json.no_members)))

-- ---- from the tree

-- the name of a number
abbrev pub name_at : List Name → ℕ → Name
name_at names n = unwrap_or (slice_get names n) []

abbrev mutual
  pub node_text : List Name → SchemaNode → json.Data
  node_text names (scalar_node k n) = scalar_text k n
  node_text names (array_node n i) = array_text n (item_text names i)
  node_text names (object_node n fs) = object_text n (fields_text names fs)
  node_text names (union_node n ks) = union_text n (kinds_text names ks)

  pub item_text : List Name → ItemNode → json.Data
  item_text names no_item_node = json.null
  item_text names (an_item_node t) = node_text names t

  pub fields_text : List Name → FieldNodes → json.Members
  fields_text names no_field_nodes = json.no_members
  fields_text names (a_field_node n t fs) = json.put (name_at names n) (node_text names t) (fields_text names fs)

  pub kinds_text : List Name → KindNodes → json.Items
  kinds_text names no_kind_nodes = json.no_items
  kinds_text names (a_kind_node t ks) = json.item (node_text names t) (kinds_text names ks)

abbrev pub tree_text : List Name → SchemaTree → json.Data
tree_text names None = json.null
tree_text names (Some t) = node_text names t

-- ---- from the documents

-- the values of one kind
abbrev pub of_kind : Kind → List ShapeTree → List ShapeTree
of_kind t vs = filter (λ v. is_kind (kind_of v) t) vs

-- what a value holds: the items of an array, the members of an object
abbrev pub items_in : ShapeTree → List ShapeTree
items_in (leaf k) = []
items_in (array xs) = listed_items xs
items_in (object ms) = []

abbrev pub members_in : ShapeTree → List (Name × ShapeTree)
members_in (leaf k) = []
members_in (array xs) = []
members_in (object ms) = listed_members ms

-- the values of the members of a name
abbrev pub values_of : Name → List (Name × ShapeTree) → List ShapeTree
values_of name ms = map (λ m. m.1) (filter (λ m. bytes_eq m.0 name) ms)

-- one kind is itself, and several are a union of so many values
abbrev pub united_text : ℕ → json.Items → json.Data
united_text n json.no_items = json.null
united_text n (json.item d json.no_items) = d
united_text n (json.item d (json.item e ds)) = union_text n (json.item d (json.item e ds))

-- one more kind, where there are values of it
abbrev pub with_text : List ShapeTree → (List ShapeTree → json.Data) → json.Items → json.Items
with_text [] text rest = rest
with_text (v ∷ vs) text rest = json.item (text (v ∷ vs)) rest

-- per occurring name, in ascending order, the text of that name
abbrev pub by_name : (Name → json.Data) → List (Name × ShapeTree) → json.Members
by_name text [] = json.no_members
by_name text (m ∷ ms) = json.put m.0 (text m.0) (by_name text ms)

-- the text of a list of values that nest less deep than the first argument
abbrev pub values_text : ℕ → List ShapeTree → json.Data
values_text zero vs = json.null
values_text (suc level) vs =
    united_text (length vs)
    (with_text (of_kind (scalar null_kind) vs) (λ ws. scalar_text null_kind (length ws))
    (with_text (of_kind (scalar boolean_kind) vs) (λ ws. scalar_text boolean_kind (length ws))
    (with_text (of_kind (scalar integer_kind) vs) (λ ws. scalar_text integer_kind (length ws))
    (with_text (of_kind (scalar text_kind) vs) (λ ws. scalar_text text_kind (length ws))
    (with_text (of_kind arrays vs) (λ ws. array_text (length ws) (values_text level (flat_map items_in ws)))
    (with_text (of_kind objects vs) (λ ws. object_text (length ws) (by_name (λ name. values_text level (values_of name (flat_map members_in ws))) (flat_map members_in ws))) json.no_items))))))

-- how deep the deepest document nests
abbrev pub deepest : List Document → ℕ
deepest [] = 0
deepest (d ∷ docs) = max (depth d) (deepest docs)

-- the schema text of a list of documents
abbrev pub schema_text : List Document → json.Data
schema_text docs = values_text (deepest docs + 1) (map document_shape docs)
