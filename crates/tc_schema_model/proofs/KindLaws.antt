-- The kinds of a place as the nodes of a union: how many they are, and their sum.
use Rattle.std.proofs.Common.{◌≡◌, ℕ, ◌+◌, ◌==◌, Bool, true, false, if◌then◌else◌, refl, arith}
use Rattle.std.proofs.lemmas.Bool.Decides.{Decides-eqb}
use Rattle.tc_model.specs.Document.{null_kind, boolean_kind, integer_kind, text_kind}
use Rattle.tc_schema_model.specs.Counted.{Counters, total}
use Rattle.tc_schema_model.specs.SchemaTree.{SchemaNode, scalar_node, array_node, object_node, ItemNode, FieldNodes, KindNodes, no_kind_nodes, a_kind_node, node_counter, kinds_total, with_kind, kind_nodes}

pub total-with_kind : (n : ℕ) (node : ℕ → SchemaNode) (rest : KindNodes) → node_counter (node n) ≡ n → kinds_total (with_kind n node rest) ≡ n + kinds_total rest
total-with_kind n node rest same = by_test (n == 0) (Decides-eqb n 0)
  where
    by_test : (none : Bool) → (none ≡ true → n ≡ 0) × (n ≡ 0 → none ≡ true) → kinds_total (if none then rest else a_kind_node (node n) rest) ≡ n + kinds_total rest
    by_test true decides = let zero : n ≡ 0 = decides.0 refl in omega arith
    by_test false decides = omega (arith, same)

pub total-kind_nodes : (c : Counters) (i : ItemNode) (fs : FieldNodes) → kinds_total (kind_nodes c i fs) ≡ total c
total-kind_nodes c i fs =
    let objects = with_kind c.objects (λ n. object_node n fs) no_kind_nodes in
    let arrays = with_kind c.arrays (λ n. array_node n i) objects in
    let texts = with_kind c.texts (scalar_node text_kind) arrays in
    let integers = with_kind c.integers (scalar_node integer_kind) texts in
    let booleans = with_kind c.booleans (scalar_node boolean_kind) integers in
    omega (
      arith,
      total-with_kind c.nulls (scalar_node null_kind) booleans refl,
      total-with_kind c.booleans (scalar_node boolean_kind) integers refl,
      total-with_kind c.integers (scalar_node integer_kind) texts refl,
      total-with_kind c.texts (scalar_node text_kind) arrays refl,
      total-with_kind c.arrays (λ n. array_node n i) objects refl,
      total-with_kind c.objects (λ n. object_node n fs) no_kind_nodes refl,
    )
