-- The bytes of a place are those of its parts.
use Rattle.std.proofs.Common.{◌≡◌, ◌≢◌, ℕ, ◌+◌, ◌<◌, ◌≤◌, ◌^◌, lit≤, ◌==◌, Bool, true, false, List, [], ◌∷◌, ◌++◌, length, map, if◌then◌else◌, refl, sym, ap, ◌∙◌, arith, append_assoc, append-nil}
use Rattle.std.proofs.lemmas.Bool.Decides.{nat_tests}
use Rattle.std.proofs.lemmas.List.{length-map}
use Rattle.std.specs.List.{AllByRecursion}
use Rattle.std.specs.Int.{w32, to_be_bytes}
use Rattle.tc_model.specs.Document.{null_kind, boolean_kind, integer_kind, text_kind}
use Rattle.tc_schema_model.specs.Counted.{Counters, total, Counted, counted, Below, Fields, no_fields, a_field, IsCanonical, AreFieldsCanonical}
use Rattle.tc_schema_model.specs.SchemaTree.{SchemaNode, scalar_node, array_node, object_node, ItemNode, FieldNodes, KindNodes, no_kind_nodes, a_kind_node, kinds_total, kinds_count, with_kind, united, kind_nodes, node_of, item_node_of, field_nodes_of}
use Rattle.tc_schema_model.specs.SchemaBytes.{node_bytes, kinds_bytes, fields_bytes, fields_count}
use Rattle.tc_schema_model.proofs.KindLaws.{total-kind_nodes}
use Rattle.tc_schema.specs.Places.{listed, place_counted, below_counted, field_counted, fields_counted, most_names}
use Rattle.tc_schema.specs.declared.place.Node.{Node}
use Rattle.tc_schema.specs.declared.place.Field.{Field}
use Rattle.tc_schema.specs.declared.place.Field.TheViews.{out-Node}
use Rattle.tc_schema.proofs.PlaceViews.{place_parts}
use Rattle.tc_schema.specs.Writing.{one_if_some, kinds_in, tagged, scalar_part, array_part, object_part, union_part, scalar_parts}

bytes-united : (ks : KindNodes) → node_bytes (united ks) ≡ (if kinds_count ks == 1 then [] else tagged 8 (kinds_total ks) ++ kinds_count ks ∷ []) ++ kinds_bytes ks
bytes-united no_kind_nodes = refl
bytes-united (a_kind_node t no_kind_nodes) = sym (append-nil (node_bytes t))
bytes-united (a_kind_node t (a_kind_node u ks)) =
    let several = a_kind_node t (a_kind_node u ks) in
    header (kinds_count ks) (tagged 8 (kinds_total several) ++ kinds_count several ∷ []) (kinds_bytes several)
  where
    header : (n : ℕ) (front rest : List ℕ) → front ++ rest ≡ (if 1 + (1 + n) == 1 then [] else front) ++ rest
    header n front rest = let several : (1 + (1 + n) == 1) ≡ false = grind (arith, nat_tests) in rw several refl

bytes-with_kind : (n : ℕ) (node : ℕ → SchemaNode) (rest : KindNodes) → kinds_bytes (with_kind n node rest) ≡ (if n == 0 then [] else node_bytes (node n)) ++ kinds_bytes rest
bytes-with_kind n node rest = by_test (n == 0)
  where
    by_test : (none : Bool) → kinds_bytes (if none then rest else a_kind_node (node n) rest) ≡ (if none then [] else node_bytes (node n)) ++ kinds_bytes rest
    by_test true = refl
    by_test false = refl

count-with_kind : (n : ℕ) (node : ℕ → SchemaNode) (rest : KindNodes) → kinds_count (with_kind n node rest) ≡ one_if_some n + kinds_count rest
count-with_kind n node rest = by_test (n == 0)
  where
    by_test : (none : Bool) → kinds_count (if none then rest else a_kind_node (node n) rest) ≡ (if none then 0 else 1) + kinds_count rest
    by_test true = omega arith
    by_test false = refl

pub count-kind_nodes : (c : Counters) (i : ItemNode) (fs : FieldNodes) → kinds_count (kind_nodes c i fs) ≡ kinds_in c
count-kind_nodes c i fs =
    let objects = with_kind c.objects (λ n. object_node n fs) no_kind_nodes in
    let arrays = with_kind c.arrays (λ n. array_node n i) objects in
    let texts = with_kind c.texts (scalar_node text_kind) arrays in
    let integers = with_kind c.integers (scalar_node integer_kind) texts in
    let booleans = with_kind c.booleans (scalar_node boolean_kind) integers in
    omega (
      arith,
      count-with_kind c.nulls (scalar_node null_kind) booleans,
      count-with_kind c.booleans (scalar_node boolean_kind) integers,
      count-with_kind c.integers (scalar_node integer_kind) texts,
      count-with_kind c.texts (scalar_node text_kind) arrays,
      count-with_kind c.arrays (λ n. array_node n i) objects,
      count-with_kind c.objects (λ n. object_node n fs) no_kind_nodes,
    )

bytes-kind_nodes : (c : Counters) (b : Below) (fs : Fields) → kinds_bytes (kind_nodes c (item_node_of b) (field_nodes_of fs)) ≡ scalar_parts c ++ (array_part c.arrays b ++ object_part c.objects fs)
bytes-kind_nodes c b fs =
    let objects = with_kind c.objects (λ n. object_node n (field_nodes_of fs)) no_kind_nodes in
    let arrays = with_kind c.arrays (λ n. array_node n (item_node_of b)) objects in
    let texts = with_kind c.texts (scalar_node text_kind) arrays in
    let integers = with_kind c.integers (scalar_node integer_kind) texts in
    let booleans = with_kind c.booleans (scalar_node boolean_kind) integers in
    six (scalar_part 1 c.nulls) (scalar_part 2 c.booleans) (scalar_part 3 c.integers) (scalar_part 4 c.texts) (array_part c.arrays b) (object_part c.objects fs)
    (bytes-with_kind c.nulls (scalar_node null_kind) booleans) (bytes-with_kind c.booleans (scalar_node boolean_kind) integers)
    (bytes-with_kind c.integers (scalar_node integer_kind) texts) (bytes-with_kind c.texts (scalar_node text_kind) arrays)
    (bytes-with_kind c.arrays (λ n. array_node n (item_node_of b)) objects) (bytes-with_kind c.objects (λ n. object_node n (field_nodes_of fs)) no_kind_nodes)
  where
    six : {all r2 r3 r4 r5 r6 : List ℕ} (p1 p2 p3 p4 p5 p6 : List ℕ) → all ≡ p1 ++ r2 → r2 ≡ p2 ++ r3 → r3 ≡ p3 ++ r4 → r4 ≡ p4 ++ r5 → r5 ≡ p5 ++ r6 → r6 ≡ p6 ++ []
        → all ≡ (p1 ++ (p2 ++ (p3 ++ p4))) ++ (p5 ++ p6)
    six p1 p2 p3 p4 p5 p6 a b c d e f = a ∙ rw (b, c, d, e, f) (simp (append_assoc, append-nil))

pub place_bytes : (c : Counters) (b : Below) (fs : Fields) → node_bytes (node_of (counted c b fs)) ≡ union_part c ++ (scalar_parts c ++ (array_part c.arrays b ++ object_part c.objects fs))
place_bytes c b fs =
    let ks = kind_nodes c (item_node_of b) (field_nodes_of fs) in
    bytes-united ks ∙ parts (kinds_count ks) (kinds_in c) (kinds_total ks) (total c) (kinds_bytes ks) (scalar_parts c ++ (array_part c.arrays b ++ object_part c.objects fs))
    (count-kind_nodes c (item_node_of b) (field_nodes_of fs)) (total-kind_nodes c (item_node_of b) (field_nodes_of fs)) (bytes-kind_nodes c b fs)
  where
    parts : (k l m n : ℕ) (xs ys : List ℕ) → k ≡ l → m ≡ n → xs ≡ ys → (if k == 1 then [] else tagged 8 m ++ k ∷ []) ++ xs ≡ (if l == 1 then [] else tagged 8 n ++ l ∷ []) ++ ys
    parts k l m n xs ys a b c = rw (a, b, c) refl

-- canonical fields are no more than the limit
pub few_fields : (limit low : ℕ) (fs : Fields) → low ≤ limit → AreFieldsCanonical limit low fs → fields_count (field_nodes_of fs) + low ≤ limit
few_fields limit low no_fields least canonical = omega arith
few_fields limit low (a_field n d fs) least canonical = let later = few_fields limit (n + 1) fs (omega (arith, canonical.1)) canonical.4 in omega (arith, canonical.0)

pub count-listed : (fs : List (ℕ × Counted)) → fields_count (field_nodes_of (listed fs)) ≡ length fs
count-listed [] = refl
count-listed (f ∷ fs) = omega (arith, count-listed fs)

-- fields of canonical places are fewer than 2^32
pub fields_fit : (fs : List Field) → AreFieldsCanonical most_names 0 (fields_counted fs) → length fs < 2 ^ 32
fields_fit fs canonical = omega (arith, few_fields most_names 0 (fields_counted fs) (lit≤ tt) canonical, count-listed (map field_counted fs), length-map fs field_counted)

pub all_canonical : (limit low : ℕ) (fs : List (ℕ × Counted)) → AreFieldsCanonical limit low (listed fs) → AllByRecursion (λ f. IsCanonical limit f.1) fs
all_canonical limit low [] canonical = tt
all_canonical limit low (f ∷ fs) canonical = (canonical.3, all_canonical limit (f.0 + 1) fs canonical.4)

-- the parts of a place, written one after the other
pub place_written : (place : Node) (out a b d : List ℕ) (arrays objects : ℕ) (fields : List Field)
    → a ≡ out ++ union_part (out-Node place).counts → b ≡ a ++ scalar_parts (out-Node place).counts → d ≡ b ++ array_part arrays (below_counted (out-Node place).item)
    → arrays ≡ (out-Node place).counts.arrays → objects ≡ (out-Node place).counts.objects → fields ≡ (out-Node place).fields.items
    → d ++ object_part objects (fields_counted fields) ≡ out ++ node_bytes (node_of (place_counted place))
place_written place out a b d arrays objects fields one two three n m fs =
    let p = out-Node place in
    let arrays_bytes = array_part p.counts.arrays (below_counted p.item) in
    let objects_bytes = object_part p.counts.objects (fields_counted p.fields.items) in
    let whole : (d ++ object_part objects (fields_counted fields)) ≡ (((out ++ union_part p.counts) ++ scalar_parts p.counts) ++ arrays_bytes) ++ objects_bytes = rw (three, two, one, n, m, fs) refl in
    whole ∙ joined out (union_part p.counts) (scalar_parts p.counts) arrays_bytes objects_bytes
    ∙ ap (λ bytes. out ++ bytes) (sym (place_bytes p.counts (below_counted p.item) (fields_counted p.fields.items)) ∙ ap (λ d. node_bytes (node_of d)) (sym (place_parts place)))
  where
    joined : (out a b d e : List ℕ) → (((out ++ a) ++ b) ++ d) ++ e ≡ out ++ (a ++ (b ++ (d ++ e)))
    joined out a b d e = simp append_assoc

-- fields, written one after the other behind their number
pub objects_written : (count tag : ℕ) (fields left : List Field) (out a b end : List ℕ) → count ≢ 0 → tag ≡ 6 → a ≡ out ++ tagged tag count → b ≡ a ++ to_be_bytes w32 (length fields) → left ≡ []
    → end ++ fields_bytes (field_nodes_of (fields_counted left)) ≡ b ++ fields_bytes (field_nodes_of (fields_counted fields)) → end ≡ out ++ object_part count (fields_counted fields)
objects_written count tag fields left out a b end some six one two none invariant =
    let number : length fields ≡ fields_count (field_nodes_of (fields_counted fields)) = omega (arith, count-listed (map field_counted fields), length-map fields field_counted) in
    let written : end ++ [] ≡ ((out ++ tagged 6 count) ++ to_be_bytes w32 (length fields)) ++ fields_bytes (field_nodes_of (fields_counted fields)) =
    ap (λ l. end ++ fields_bytes (field_nodes_of (fields_counted l))) (sym none) ∙ invariant ∙ rw (two, one, six) refl in
    sym (append-nil end) ∙ written ∙ ap (λ n. ((out ++ tagged 6 count) ++ to_be_bytes w32 n) ++ fields_bytes (field_nodes_of (fields_counted fields))) number
    ∙ joined out (tagged 6 count) _ _ ∙ ap (λ bytes. out ++ bytes) (here count some _)
  where
    joined : (out a b d : List ℕ) → ((out ++ a) ++ b) ++ d ≡ out ++ (a ++ (b ++ d))
    joined out a b d = simp append_assoc

    here : (count : ℕ) → count ≢ 0 → (bytes : List ℕ) → bytes ≡ (if count == 0 then [] else bytes)
    here count some bytes = grind (arith, nat_tests)
