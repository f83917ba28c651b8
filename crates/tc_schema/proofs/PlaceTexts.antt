-- The text of a place is that of its kinds, one behind the other.
use Rattle.std.proofs.Common.{◌≡◌, ◌≢◌, ℕ, ◌+◌, codes, arith, ◌==◌, Bool, true, false, List, [], ◌∷◌, ◌++◌, if◌then◌else◌, refl, sym, ap, ◌∙◌, append_assoc, append-nil}
use Rattle.std.proofs.lemmas.Bool.Decides.{nat_tests}
use Rattle.json.specs.Print.{quoted}
use Rattle.serde_json.proofs.OnLiterals.{serde_json_on_literals}
use Rattle.serde_json.specs.Data as json
use Rattle.serde_json.specs.Written.{compact_text, items_text, members_text, comma_if}
use Rattle.serde_json.specs.View.{items_of}
use Rattle.tc_model.specs.Document.{Name, null_kind, boolean_kind, integer_kind, text_kind}
use Rattle.tc_schema_model.specs.Counted.{Counters, total, counted, Below, Fields}
use Rattle.tc_schema_model.specs.SchemaTree.{SchemaNode, scalar_node, array_node, object_node, KindNodes, no_kind_nodes, a_kind_node, kinds_total, kinds_count, with_kind, united, kind_nodes, node_of, item_node_of, field_nodes_of}
use Rattle.tc_schema_model.specs.SchemaText.{node_text, kinds_text, array_text, object_text, union_text}
use Rattle.tc_schema_model.proofs.KindLaws.{total-kind_nodes}
use Rattle.tc_schema.specs.Places.{place_counted, below_counted, fields_counted}
use Rattle.tc_schema.specs.declared.place.Node.{Node}
use Rattle.tc_schema.specs.declared.place.Field.{Field}
use Rattle.tc_schema.specs.declared.place.Field.TheViews.{out-Node}
use Rattle.tc_schema.specs.Values.{named_text, named_values, array_values, object_values, all_scalar_values, values_text, is_later, number_text, count_front, union_mark, union_front, union_end}
use Rattle.tc_schema.specs.Writing.{kinds_in}
use Rattle.tc_schema.proofs.PlaceViews.{place_parts}
use Rattle.tc_schema.proofs.WritingLaws.{count-kind_nodes}

-- ---- texts one behind the other

still_later : (ds : List json.Data) → is_later true ds ≡ true
still_later [] = refl
still_later (d ∷ ds) = refl

pub text-append : (later : Bool) (ds es : List json.Data) → values_text later (ds ++ es) ≡ values_text later ds ++ values_text (is_later later ds) es
text-append later [] es = refl
text-append later (d ∷ ds) es =
    ap (λ s. comma_if later ++ (compact_text d ++ s)) (text-append true ds es ∙ ap (λ l. values_text true ds ++ values_text l es) (still_later ds))
    ∙ ap (λ s. comma_if later ++ s) (sym (append_assoc (compact_text d) (values_text true ds) (values_text true es))) ∙ sym (append_assoc (comma_if later) (compact_text d ++ values_text true ds) (values_text true es))

items_are : (later : Bool) (ds : List json.Data) → items_text later (items_of ds) ≡ values_text later ds ++ 93 ∷ []
items_are later [] = refl
items_are later (d ∷ ds) =
    ap (λ s. comma_if later ++ (compact_text d ++ s)) (items_are true ds)
    ∙ ap (λ s. comma_if later ++ s) (sym (append_assoc (compact_text d) (values_text true ds) (93 ∷ []))) ∙ sym (append_assoc (comma_if later) (compact_text d ++ values_text true ds) (93 ∷ []))

-- ---- the four forms, piece by piece

pub named_is : (kind : List ℕ) (n : ℕ) → compact_text (named_text kind n) ≡ codes "{\"count\":" ++ (number_text n ++ (codes ",\"kind\":" ++ (quoted kind ++ 125 ∷ [])))
unfolding serde_json_on_literals
named_is kind n = refl

pub array_is : (n : ℕ) (items : json.Data) → compact_text (array_text n items) ≡ codes "{\"count\":" ++ (number_text n ++ (codes ",\"items\":" ++ (compact_text items ++ codes ",\"kind\":\"array\"}")))
unfolding serde_json_on_literals
array_is n items = refl

pub object_is : (n : ℕ) (fields : json.Members) → compact_text (object_text n fields) ≡ codes "{\"count\":" ++ (number_text n ++ (codes ",\"fields\":{" ++ (members_text false fields ++ codes ",\"kind\":\"object\"}")))
unfolding serde_json_on_literals
object_is n fields = refl

union_is : (n : ℕ) (ds : List json.Data) → compact_text (union_text n (items_of ds)) ≡ (count_front false n ++ union_mark) ++ (values_text false ds ++ codes "]}")
unfolding serde_json_on_literals
union_is n ds =
    ap (λ s. codes "{\"count\":" ++ (number_text n ++ (union_mark ++ (s ++ 125 ∷ [])))) (items_are false ds)
    ∙ parts (codes "{\"count\":") (number_text n) union_mark (values_text false ds) (93 ∷ []) (125 ∷ [])
  where
    parts : (a b x y u v : List ℕ) → a ++ (b ++ (x ++ ((y ++ u) ++ v))) ≡ ((a ++ b) ++ x) ++ (y ++ (u ++ v))
    parts a b x y u v = simp append_assoc

-- where a kind is counted
counted_text : (n : ℕ) (ds : List json.Data) → n ≢ 0 → (if n == 0 then [] else ds) ≡ ds
counted_text n ds some = grind (arith, nat_tests)

-- the pieces of a kind that is counted, put after other text
pub kind_put : (later : Bool) (n : ℕ) (d : json.Data) (out a b e end middle inner close : List ℕ) → n ≢ 0 → compact_text d ≡ codes "{\"count\":" ++ (number_text n ++ (middle ++ (inner ++ close)))
    → a ≡ out ++ count_front later n → b ≡ a ++ middle → e ≡ b ++ inner → end ≡ e ++ close → end ≡ out ++ values_text later (if n == 0 then [] else d ∷ [])
kind_put later n d out a b e end middle inner close some is one two three four =
    let whole : end ≡ (((out ++ count_front later n) ++ middle) ++ inner) ++ close = rw (four, three, two, one) refl in
    whole ∙ parts out (comma_if later) (codes "{\"count\":") (number_text n) middle inner close ∙ ap (λ s. out ++ (comma_if later ++ (s ++ []))) (sym is) ∙ ap (λ ds. out ++ values_text later ds) (sym (counted_text n (d ∷ []) some))
  where
    parts : (o a b x y u v : List ℕ) → (((o ++ (a ++ (b ++ x))) ++ y) ++ u) ++ v ≡ o ++ (a ++ ((b ++ (x ++ (y ++ (u ++ v)))) ++ []))
    parts o a b x y u v = simp (append_assoc, append-nil)

-- what stands before several kinds
pub union_put : (c : Counters) (out a : List ℕ) (n kinds : ℕ) → kinds ≢ 1 → kinds ≡ kinds_in c → n ≡ total c → a ≡ out ++ count_front false n → a ++ union_mark ≡ out ++ union_front c
union_put c out a n kinds several k t one =
    let whole : a ++ union_mark ≡ (out ++ count_front false (total c)) ++ union_mark = rw (one, t) refl in
    whole ∙ append_assoc out (count_front false (total c)) union_mark ∙ ap (λ s. out ++ s) (here (kinds_in c) (λ one. several (k ∙ one)) (count_front false (total c) ++ union_mark))
  where
    here : (kinds : ℕ) → kinds ≢ 1 → (s : List ℕ) → s ≡ (if kinds == 1 then [] else s)
    here kinds several s = grind (arith, nat_tests)

-- the kinds that hold nothing, put one after the other
pub scalars_put : (d1 d2 d3 d4 : List json.Data) (out a b e end : List ℕ) (l1 l2 l3 : Bool) → a ≡ out ++ values_text false d1 → l1 ≡ is_later false d1 → b ≡ a ++ values_text l1 d2 → l2 ≡ is_later l1 d2
    → e ≡ b ++ values_text l2 d3 → l3 ≡ is_later l2 d3 → end ≡ e ++ values_text l3 d4 → end ≡ out ++ values_text false (d1 ++ (d2 ++ (d3 ++ d4)))
scalars_put d1 d2 d3 d4 out a b e end l1 l2 l3 one first two second three third four =
    let f = is_later false d1 in
    let g = is_later f d2 in
    let t1 = values_text false d1 in
    let t2 = values_text f d2 in
    let t3 = values_text g d3 in
    let t4 = values_text (is_later g d3) d4 in
    let whole : end ≡ (((out ++ t1) ++ t2) ++ t3) ++ t4 = rw (four, third, three, second, two, first, one) refl in
    whole ∙ append_assoc ((out ++ t1) ++ t2) t3 t4 ∙ append_assoc (out ++ t1) t2 (t3 ++ t4) ∙ append_assoc out t1 (t2 ++ (t3 ++ t4))
    ∙ ap (λ s. out ++ s) (sym (text-append false d1 (d2 ++ (d3 ++ d4)) ∙ ap (λ s. t1 ++ s) (text-append f d2 (d3 ++ d4) ∙ ap (λ s. t2 ++ s) (text-append g d3 d4))))

-- ---- the kinds of a place

-- the texts of the kinds as a list
abbrev listed_text : List Name → KindNodes → List json.Data
listed_text names no_kind_nodes = []
listed_text names (a_kind_node t ks) = node_text names t ∷ listed_text names ks

text-listed : (names : List Name) (ks : KindNodes) → kinds_text names ks ≡ items_of (listed_text names ks)
text-listed names no_kind_nodes = refl
text-listed names (a_kind_node t ks) = ap (json.item (node_text names t)) (text-listed names ks)

-- what stands around so many kinds
abbrev front_of : ℕ → ℕ → List ℕ
front_of kinds n = if kinds == 1 then [] else count_front false n ++ union_mark

abbrev end_of : ℕ → List ℕ
end_of kinds = if kinds == 1 then [] else codes "]}"

text-united : (names : List Name) (ks : KindNodes) → compact_text (node_text names (united ks)) ≡ front_of (kinds_count ks) (kinds_total ks) ++ (values_text false (listed_text names ks) ++ end_of (kinds_count ks))
text-united names no_kind_nodes = union_is 0 []
text-united names (a_kind_node t no_kind_nodes) = simp append-nil
text-united names (a_kind_node t (a_kind_node u ks)) =
    let several = a_kind_node t (a_kind_node u ks) in
    ap (λ ds. compact_text (union_text (kinds_total several) ds)) (text-listed names several) ∙ union_is (kinds_total several) (listed_text names several)
    ∙ around (kinds_count ks) (count_front false (kinds_total several) ++ union_mark) (values_text false (listed_text names several)) (codes "]}")
  where
    around : (n : ℕ) (front text end : List ℕ) → front ++ (text ++ end) ≡ (if 1 + (1 + n) == 1 then [] else front) ++ (text ++ (if 1 + (1 + n) == 1 then [] else end))
    around n front text end = let several : (1 + (1 + n) == 1) ≡ false = grind (arith, nat_tests) in rw several refl

text-with_kind : (names : List Name) (n : ℕ) (node : ℕ → SchemaNode) (rest : KindNodes) → listed_text names (with_kind n node rest) ≡ (if n == 0 then [] else node_text names (node n) ∷ []) ++ listed_text names rest
text-with_kind names n node rest = by_test (n == 0)
  where
    by_test : (none : Bool) → listed_text names (if none then rest else a_kind_node (node n) rest) ≡ (if none then [] else node_text names (node n) ∷ []) ++ listed_text names rest
    by_test true = refl
    by_test false = refl

text-kind_nodes : (names : List Name) (c : Counters) (b : Below) (fs : Fields)
    → listed_text names (kind_nodes c (item_node_of b) (field_nodes_of fs)) ≡ all_scalar_values c ++ (array_values names c.arrays b ++ object_values names c.objects fs)
text-kind_nodes names c b fs =
    let objects = with_kind c.objects (λ n. object_node n (field_nodes_of fs)) no_kind_nodes in
    let arrays = with_kind c.arrays (λ n. array_node n (item_node_of b)) objects in
    let texts = with_kind c.texts (scalar_node text_kind) arrays in
    let integers = with_kind c.integers (scalar_node integer_kind) texts in
    let booleans = with_kind c.booleans (scalar_node boolean_kind) integers in
    six (named_values (codes "null") c.nulls) (named_values (codes "boolean") c.booleans) (named_values (codes "integer") c.integers) (named_values (codes "text") c.texts) (array_values names c.arrays b) (object_values names c.objects fs)
    (text-with_kind names c.nulls (scalar_node null_kind) booleans) (text-with_kind names c.booleans (scalar_node boolean_kind) integers)
    (text-with_kind names c.integers (scalar_node integer_kind) texts) (text-with_kind names c.texts (scalar_node text_kind) arrays)
    (text-with_kind names c.arrays (λ n. array_node n (item_node_of b)) objects) (text-with_kind names c.objects (λ n. object_node n (field_nodes_of fs)) no_kind_nodes)
  where
    six : {all r2 r3 r4 r5 r6 : List json.Data} (p1 p2 p3 p4 p5 p6 : List json.Data) → all ≡ p1 ++ r2 → r2 ≡ p2 ++ r3 → r3 ≡ p3 ++ r4 → r4 ≡ p4 ++ r5 → r5 ≡ p5 ++ r6 → r6 ≡ p6 ++ []
        → all ≡ (p1 ++ (p2 ++ (p3 ++ p4))) ++ (p5 ++ p6)
    six p1 p2 p3 p4 p5 p6 a b c d e f = a ∙ rw (b, c, d, e, f) (simp (append_assoc, append-nil))

place_text : (names : List Name) (c : Counters) (b : Below) (fs : Fields)
    → compact_text (node_text names (node_of (counted c b fs))) ≡ union_front c ++ (values_text false (all_scalar_values c ++ (array_values names c.arrays b ++ object_values names c.objects fs)) ++ union_end c)
place_text names c b fs =
    let ks = kind_nodes c (item_node_of b) (field_nodes_of fs) in
    text-united names ks
    ∙ ap (λ k. front_of k (kinds_total ks) ++ (values_text false (listed_text names ks) ++ end_of k)) (count-kind_nodes c (item_node_of b) (field_nodes_of fs))
    ∙ ap (λ n. front_of (kinds_in c) n ++ (values_text false (listed_text names ks) ++ end_of (kinds_in c))) (total-kind_nodes c (item_node_of b) (field_nodes_of fs))
    ∙ ap (λ ds. front_of (kinds_in c) (total c) ++ (values_text false ds ++ end_of (kinds_in c))) (text-kind_nodes names c b fs)

-- the parts of a place, put one after the other
pub place_put : (names : List Name) (place : Node) (out a b d e : List ℕ) (second third : Bool) (arrays objects : ℕ) (fields : List Field)
    → a ≡ out ++ union_front (out-Node place).counts → b ≡ a ++ values_text false (all_scalar_values (out-Node place).counts) → second ≡ is_later false (all_scalar_values (out-Node place).counts)
    → d ≡ b ++ values_text second (array_values names arrays (below_counted (out-Node place).item)) → third ≡ is_later second (array_values names arrays (below_counted (out-Node place).item))
    → e ≡ d ++ values_text third (object_values names objects (fields_counted fields))
    → arrays ≡ (out-Node place).counts.arrays → objects ≡ (out-Node place).counts.objects → fields ≡ (out-Node place).fields.items
    → e ++ union_end (out-Node place).counts ≡ out ++ compact_text (node_text names (node_of (place_counted place)))
place_put names place out a b d e second third arrays objects fields one two later three further four n m fs =
    let p = out-Node place in
    let scalars_put = all_scalar_values p.counts in
    let arrays_put = array_values names p.counts.arrays (below_counted p.item) in
    let objects_put = object_values names p.counts.objects (fields_counted p.fields.items) in
    let two_kinds = is_later false scalars_put in
    let whole : e ≡ (((out ++ union_front p.counts) ++ values_text false scalars_put) ++ values_text two_kinds arrays_put) ++ values_text (is_later two_kinds arrays_put) objects_put = rw (four, further, three, later, two, one, n, m, fs) refl in
    ap (λ s. s ++ union_end p.counts) whole
    ∙ parts out (union_front p.counts) (values_text false scalars_put) (values_text two_kinds arrays_put) (values_text (is_later two_kinds arrays_put) objects_put) (union_end p.counts)
    ∙ ap (λ s. out ++ (union_front p.counts ++ (s ++ union_end p.counts))) (sym (text-append false scalars_put (arrays_put ++ objects_put) ∙ ap (λ s. values_text false scalars_put ++ s) (text-append two_kinds arrays_put objects_put)))
    ∙ ap (λ s. out ++ s) (sym (place_text names p.counts (below_counted p.item) (fields_counted p.fields.items)) ∙ ap (λ d. compact_text (node_text names (node_of d))) (sym (place_parts place)))
  where
    parts : (o u x y z v : List ℕ) → ((((o ++ u) ++ x) ++ y) ++ z) ++ v ≡ o ++ (u ++ ((x ++ (y ++ z)) ++ v))
    parts o u x y z v = simp append_assoc
