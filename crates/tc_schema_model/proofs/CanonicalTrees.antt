-- What is counted in the one form makes a tree in the one form: no counter is 0, a union has two kinds or more, none of
-- them a union, by ascending tag, and its counter is their sum.
use Rattle.std.proofs.Common.{◌≡◌, ◌≢◌, ℕ, ◌+◌, ◌<◌, ◌≤◌, ◌==◌, Bool, true, false, Some, None, if◌then◌else◌, refl, arith}
use Rattle.std.proofs.lemmas.Bool.{false≢true}
use Rattle.std.proofs.lemmas.Bool.Decides.{Decides-eqb}
use Rattle.tc_model.specs.Document.{null_kind, boolean_kind, integer_kind, text_kind}
use Rattle.tc_schema_model.specs.Counted.{Counters, Counted, counted, Below, no_item, an_item, Fields, no_fields, a_field, documents_of, IsCanonical, IsBelowCanonical, AreFieldsCanonical}
use Rattle.tc_schema_model.specs.SchemaTree.{SchemaNode, scalar_node, array_node, object_node, ItemNode, FieldNodes, KindNodes, no_kind_nodes, a_kind_node, node_tag, kinds_total, with_kind, united, kind_nodes, node_of, item_node_of, field_nodes_of, schema_tree, IsCanonicalNode, IsCanonicalItem, AreCanonicalFields, AreCanonicalKinds, IsCanonicalTree}
use Rattle.tc_schema_model.proofs.KindLaws.{total-kind_nodes}

from_lower : (limit low lower : ℕ) (ks : KindNodes) → lower ≤ low → AreCanonicalKinds limit low ks → AreCanonicalKinds limit lower ks
from_lower limit low lower no_kind_nodes le are = tt
from_lower limit low lower (a_kind_node t ks) le are = (omega (arith, le, are.0), are.1, are.2, are.3)

one_kind : (limit tag n : ℕ) (node : ℕ → SchemaNode) (rest : KindNodes) → node_tag (node n) ≡ tag → tag < 7 → (0 < n → IsCanonicalNode limit (node n)) → AreCanonicalKinds limit (tag + 1) rest → AreCanonicalKinds limit tag (with_kind n node rest)
one_kind limit tag n node rest same below here behind = by_test (n == 0) (Decides-eqb n 0)
  where
    by_test : (none : Bool) → (none ≡ true → n ≡ 0) × (n ≡ 0 → none ≡ true) → AreCanonicalKinds limit tag (if none then rest else a_kind_node (node n) rest)
    by_test true decides = from_lower limit (tag + 1) tag rest (omega arith) behind
    by_test false decides =
        let some : n ≢ 0 = λ zero. false≢true (decides.1 zero) in
        (omega (arith, same), omega (arith, same, below), here (omega arith), rw same behind)

all_kinds : (limit : ℕ) (c : Counters) (i : ItemNode) (fs : FieldNodes) → IsCanonicalItem limit i → AreCanonicalFields limit 0 fs → AreCanonicalKinds limit 1 (kind_nodes c i fs)
all_kinds limit c i fs item fields =
    let from_objects = with_kind c.objects (λ n. object_node n fs) no_kind_nodes in
    let from_arrays = with_kind c.arrays (λ n. array_node n i) from_objects in
    let from_texts = with_kind c.texts (scalar_node text_kind) from_arrays in
    let from_integers = with_kind c.integers (scalar_node integer_kind) from_texts in
    let from_booleans = with_kind c.booleans (scalar_node boolean_kind) from_integers in
    let objects : AreCanonicalKinds limit 6 from_objects = one_kind limit 6 c.objects (λ n. object_node n fs) no_kind_nodes refl (omega arith) (λ some. (some, fields)) tt in
    let arrays : AreCanonicalKinds limit 5 from_arrays = one_kind limit 5 c.arrays (λ n. array_node n i) from_objects refl (omega arith) (λ some. (some, item)) objects in
    let texts : AreCanonicalKinds limit 4 from_texts = one_kind limit 4 c.texts (scalar_node text_kind) from_arrays refl (omega arith) (λ some. some) arrays in
    let integers : AreCanonicalKinds limit 3 from_integers = one_kind limit 3 c.integers (scalar_node integer_kind) from_texts refl (omega arith) (λ some. some) texts in
    let booleans : AreCanonicalKinds limit 2 from_booleans = one_kind limit 2 c.booleans (scalar_node boolean_kind) from_integers refl (omega arith) (λ some. some) integers in
    one_kind limit 1 c.nulls (scalar_node null_kind) from_booleans refl (omega arith) (λ some. some) booleans

one_node : (limit : ℕ) (ks : KindNodes) → AreCanonicalKinds limit 1 ks → 0 < kinds_total ks → IsCanonicalNode limit (united ks)
one_node limit no_kind_nodes are some = absurd (omega (arith, some))
one_node limit (a_kind_node t no_kind_nodes) are some = are.2
one_node limit (a_kind_node t (a_kind_node u ks)) are some = (omega arith, refl, are)

mutual
  pub canonical_node : (limit : ℕ) (d : Counted) → IsCanonical limit d → 0 < documents_of d → IsCanonicalNode limit (node_of d)
  canonical_node limit (counted c b fs) canonical some =
      let ks = kind_nodes c (item_node_of b) (field_nodes_of fs) in
      one_node limit ks (all_kinds limit c (item_node_of b) (field_nodes_of fs) (canonical_item limit b canonical.2) (canonical_fields limit 0 fs canonical.3)) (omega (arith, total-kind_nodes c (item_node_of b) (field_nodes_of fs), some))

  canonical_item : (limit : ℕ) (b : Below) → IsBelowCanonical limit b → IsCanonicalItem limit (item_node_of b)
  canonical_item limit no_item canonical = tt
  canonical_item limit (an_item d) canonical = canonical_node limit d canonical.1 canonical.0

  canonical_fields : (limit low : ℕ) (fs : Fields) → AreFieldsCanonical limit low fs → AreCanonicalFields limit low (field_nodes_of fs)
  canonical_fields limit low no_fields canonical = tt
  canonical_fields limit low (a_field n d fs) canonical = (canonical.0, canonical.1, canonical_node limit d canonical.3 canonical.2, canonical_fields limit (n + 1) fs canonical.4)

-- the whole schema
pub canonical_tree : (limit : ℕ) (d : Counted) → IsCanonical limit d → IsCanonicalTree limit (schema_tree d)
canonical_tree limit d canonical = by_test (documents_of d == 0) (Decides-eqb (documents_of d) 0)
  where
    by_test : (none : Bool) → (none ≡ true → documents_of d ≡ 0) × (documents_of d ≡ 0 → none ≡ true) → IsCanonicalTree limit (if none then None else Some (node_of d))
    by_test true decides = tt
    by_test false decides = let some : documents_of d ≢ 0 = λ zero. false≢true (decides.1 zero) in canonical_node limit d canonical (omega arith)
