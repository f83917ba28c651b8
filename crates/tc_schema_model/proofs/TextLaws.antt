-- The text of the tree of a schema is the text of the documents that the schema stands for.
use Rattle.std.proofs.Common.{◌≡◌, ◌≢◌, ◌⊎◌, ℕ, zero, suc, ◌+◌, ◌<◌, ◌≤◌, ◌==◌, nat_lt, Bool, true, false, List, [], ◌∷◌, ◌++◌, Option, Some, None, length, map, filter, flat_map, bytes_eq, unwrap_or, if◌then◌else◌, refl, sym, ap, ◌∙◌, subst, arith, inl, inr}
use Rattle.std.proofs.lemmas.Bool.{false≢true}
use Rattle.std.proofs.lemmas.Bool.Decides.{Decides-eqb, nat_tests}
use Rattle.std.proofs.lemmas.Slice.Eq.{bytes_eq-Decides}
use Rattle.std.specs.List.{IsDistinct}
use Rattle.serde_json.specs.Data as json
use Rattle.tc_model.specs.Tree.{leaf, array, object, Items, no_items, item, Members, no_members, member, depth, items_depth, members_depth, listed_members, listed_items}
use Rattle.tc_model.specs.Document.{Name, Document, ShapeTree, ScalarKind, null_kind, boolean_kind, integer_kind, text_kind, document_shape}
use Rattle.tc_model.specs.Dictionary.{number_of}
use Rattle.tc_schema_model.specs.Occurrences.{field, each_item, Path, occurrences, items_occurrences, members_occurrences, count}
use Rattle.tc_model.specs.Kinds.{Kind, scalar, arrays, objects, kind_of, is_kind}
use Rattle.tc_schema_model.specs.Counted.{counter, Counted, counted, Below, no_item, an_item, Fields, no_fields, a_field, nothing, held, field_at, numbered_field, documents_of, shows, IsCanonical, IsBelowCanonical, AreFieldsCanonical}
use Rattle.tc_schema_model.specs.SchemaTree.{SchemaNode, scalar_node, array_node, object_node, KindNodes, no_kind_nodes, a_kind_node, kinds_total, with_kind, united, kind_nodes, node_of, item_node_of, field_nodes_of, schema_tree}
use Rattle.tc_schema_model.specs.SchemaText.{scalar_text, array_text, object_text, name_at, node_text, item_text, fields_text, kinds_text, tree_text, of_kind, items_in, members_in, values_of, united_text, with_text, by_name, values_text, deepest, schema_text}
use Rattle.tc_schema_model.specs.Stands.{StandsFor}
use Rattle.tc_schema_model.proofs.NumberLaws.{name_stands, number_of_name_at}
use Rattle.tc_schema_model.proofs.CountingLaws.{at_first, after_first}
use Rattle.tc_schema_model.proofs.KindLaws.{total-kind_nodes}
use Rattle.tc_schema_model.proofs.PutLaws.{by_names, IsAmong, same_names}
use Rattle.tc_schema_model.proofs.ShallowSchemas.{depth-document_shape}

-- ---- occurrences in a list of values

abbrev occurrences_in : List ShapeTree → Path → Kind → ℕ
occurrences_in [] path t = 0
occurrences_in (v ∷ vs) path t = occurrences v path t + occurrences_in vs path t

occurrences_in-append : (vs ws : List ShapeTree) (path : Path) (t : Kind) → occurrences_in (vs ++ ws) path t ≡ occurrences_in vs path t + occurrences_in ws path t
occurrences_in-append [] ws path t = omega arith
occurrences_in-append (v ∷ vs) ws path t = omega (arith, occurrences_in-append vs ws path t)

in_documents : (docs : List Document) (path : Path) (t : Kind) → count docs path t ≡ occurrences_in (map document_shape docs) path t
in_documents [] path t = refl
in_documents (d ∷ docs) path t = ap (λ n. occurrences (document_shape d) path t + n) (in_documents docs path t)

in_items : (xs : Items Name ScalarKind) (path : Path) (t : Kind) → items_occurrences xs path t ≡ occurrences_in (listed_items xs) path t
in_items no_items path t = refl
in_items (item v xs) path t = ap (λ n. occurrences v path t + n) (in_items xs path t)

in_members : (ms : Members Name ScalarKind) (name : Name) (path : Path) (t : Kind) → members_occurrences ms name path t ≡ occurrences_in (values_of name (listed_members ms)) path t
in_members no_members name path t = refl
in_members (member label v ms) name path t = by_test (bytes_eq label name) (in_members ms name path t)
  where
    by_test : (same : Bool) → members_occurrences ms name path t ≡ occurrences_in (values_of name (listed_members ms)) path t
        → (if same then occurrences v path t else 0) + members_occurrences ms name path t ≡ occurrences_in (map (λ m. m.1) (if same then (label, v) ∷ filter (λ m. bytes_eq m.0 name) (listed_members ms) else filter (λ m. bytes_eq m.0 name) (listed_members ms))) path t
    by_test true later = ap (λ n. occurrences v path t + n) later
    by_test false later = omega (arith, later)

-- ---- the values of one kind

how_many : (t : Kind) (vs : List ShapeTree) → occurrences_in vs [] t ≡ length (of_kind t vs)
how_many t [] = refl
how_many t (v ∷ vs) = by_test (is_kind (kind_of v) t) (how_many t vs)
  where
    by_test : (same : Bool) → occurrences_in vs [] t ≡ length (of_kind t vs) → (if same then 1 else 0) + occurrences_in vs [] t ≡ length (if same then v ∷ of_kind t vs else of_kind t vs)
    by_test true later = omega (arith, later)
    by_test false later = omega (arith, later)

one_kind : (k : Kind) → (if is_kind k (scalar null_kind) then 1 else 0) + (if is_kind k (scalar boolean_kind) then 1 else 0) + (if is_kind k (scalar integer_kind) then 1 else 0)
    + (if is_kind k (scalar text_kind) then 1 else 0) + (if is_kind k arrays then 1 else 0) + (if is_kind k objects then 1 else 0) ≡ 1
one_kind (scalar null_kind) = refl
one_kind (scalar boolean_kind) = refl
one_kind (scalar integer_kind) = refl
one_kind (scalar text_kind) = refl
one_kind arrays = refl
one_kind objects = refl

abbrev all_kinds : List ShapeTree → ℕ
all_kinds vs = occurrences_in vs [] (scalar null_kind) + occurrences_in vs [] (scalar boolean_kind) + occurrences_in vs [] (scalar integer_kind) + occurrences_in vs [] (scalar text_kind)
    + occurrences_in vs [] arrays + occurrences_in vs [] objects

each_has_a_kind : (vs : List ShapeTree) → all_kinds vs ≡ length vs
each_has_a_kind [] = refl
each_has_a_kind (v ∷ vs) = omega (arith, each_has_a_kind vs, one_kind (kind_of v))

-- ---- what values hold

items_of_kind : (vs : List ShapeTree) (path : Path) (t : Kind) → occurrences_in vs (each_item ∷ path) t ≡ occurrences_in (flat_map items_in (of_kind arrays vs)) path t
items_of_kind [] path t = refl
items_of_kind (leaf null_kind ∷ vs) path t = omega (arith, items_of_kind vs path t)
items_of_kind (leaf boolean_kind ∷ vs) path t = omega (arith, items_of_kind vs path t)
items_of_kind (leaf integer_kind ∷ vs) path t = omega (arith, items_of_kind vs path t)
items_of_kind (leaf text_kind ∷ vs) path t = omega (arith, items_of_kind vs path t)
items_of_kind (array xs ∷ vs) path t = omega (arith, items_of_kind vs path t, in_items xs path t, occurrences_in-append (listed_items xs) (flat_map items_in (of_kind arrays vs)) path t)
items_of_kind (object ms ∷ vs) path t = omega (arith, items_of_kind vs path t)

values_of-append : (name : Name) (ms ns : List (Name × ShapeTree)) → values_of name (ms ++ ns) ≡ values_of name ms ++ values_of name ns
values_of-append name [] ns = refl
values_of-append name (m ∷ ms) ns = by_test (bytes_eq m.0 name) (values_of-append name ms ns)
  where
    by_test : (same : Bool) → values_of name (ms ++ ns) ≡ values_of name ms ++ values_of name ns
        → map (λ m. m.1) (if same then m ∷ filter (λ m. bytes_eq m.0 name) (ms ++ ns) else filter (λ m. bytes_eq m.0 name) (ms ++ ns))
        ≡ map (λ m. m.1) (if same then m ∷ filter (λ m. bytes_eq m.0 name) ms else filter (λ m. bytes_eq m.0 name) ms) ++ values_of name ns
    by_test true later = ap (λ vs. m.1 ∷ vs) later
    by_test false later = later

members_of_kind : (vs : List ShapeTree) (name : Name) (path : Path) (t : Kind)
    → occurrences_in vs (field name ∷ path) t ≡ occurrences_in (values_of name (flat_map members_in (of_kind objects vs))) path t
members_of_kind [] name path t = refl
members_of_kind (leaf null_kind ∷ vs) name path t = omega (arith, members_of_kind vs name path t)
members_of_kind (leaf boolean_kind ∷ vs) name path t = omega (arith, members_of_kind vs name path t)
members_of_kind (leaf integer_kind ∷ vs) name path t = omega (arith, members_of_kind vs name path t)
members_of_kind (leaf text_kind ∷ vs) name path t = omega (arith, members_of_kind vs name path t)
members_of_kind (array xs ∷ vs) name path t = omega (arith, members_of_kind vs name path t)
members_of_kind (object ms ∷ vs) name path t =
    let rest = flat_map members_in (of_kind objects vs) in
    omega (
      arith,
      members_of_kind vs name path t,
      in_members ms name path t,
      ap (λ ws. occurrences_in ws path t) (values_of-append name (listed_members ms) rest),
      occurrences_in-append (values_of name (listed_members ms)) (values_of name rest) path t,
    )

-- ---- how deep values nest

abbrev AreShallow : ℕ → List ShapeTree → Type 0
AreShallow level [] = Unit {0}
AreShallow level (v ∷ vs) = (depth v < level) × AreShallow level vs

shallow_append : (level : ℕ) (vs ws : List ShapeTree) → AreShallow level vs → AreShallow level ws → AreShallow level (vs ++ ws)
shallow_append level [] ws here there = there
shallow_append level (v ∷ vs) ws here there = (here.0, shallow_append level vs ws here.1 there)

shallow_kind : (level : ℕ) (t : Kind) (vs : List ShapeTree) → AreShallow level vs → AreShallow level (of_kind t vs)
shallow_kind level t [] here = tt
shallow_kind level t (v ∷ vs) here = by_test (is_kind (kind_of v) t) (shallow_kind level t vs here.1)
  where
    by_test : (same : Bool) → AreShallow level (of_kind t vs) → AreShallow level (if same then v ∷ of_kind t vs else of_kind t vs)
    by_test true later = (here.0, later)
    by_test false later = later

shallow_items : (level : ℕ) (xs : Items Name ScalarKind) → items_depth xs < level → AreShallow level (listed_items xs)
shallow_items level no_items less = tt
shallow_items level (item v xs) less = (omega arith, shallow_items level xs (omega arith))

shallow_inside : (level : ℕ) (vs : List ShapeTree) → AreShallow (suc level) vs → AreShallow level (flat_map items_in vs)
shallow_inside level [] here = tt
shallow_inside level (leaf k ∷ vs) here = shallow_inside level vs here.1
shallow_inside level (array xs ∷ vs) here = shallow_append level (listed_items xs) (flat_map items_in vs) (shallow_items level xs (omega (arith, here.0))) (shallow_inside level vs here.1)
shallow_inside level (object ms ∷ vs) here = shallow_inside level vs here.1

abbrev AreMembersShallow : ℕ → List (Name × ShapeTree) → Type 0
AreMembersShallow level [] = Unit {0}
AreMembersShallow level (m ∷ ms) = (depth m.1 < level) × AreMembersShallow level ms

shallow_members_append : (level : ℕ) (ms ns : List (Name × ShapeTree)) → AreMembersShallow level ms → AreMembersShallow level ns → AreMembersShallow level (ms ++ ns)
shallow_members_append level [] ns here there = there
shallow_members_append level (m ∷ ms) ns here there = (here.0, shallow_members_append level ms ns here.1 there)

shallow_listed : (level : ℕ) (ms : Members Name ScalarKind) → members_depth ms < level → AreMembersShallow level (listed_members ms)
shallow_listed level no_members less = tt
shallow_listed level (member label v ms) less = (omega arith, shallow_listed level ms (omega arith))

shallow_members : (level : ℕ) (vs : List ShapeTree) → AreShallow (suc level) vs → AreMembersShallow level (flat_map members_in vs)
shallow_members level [] here = tt
shallow_members level (leaf k ∷ vs) here = shallow_members level vs here.1
shallow_members level (array xs ∷ vs) here = shallow_members level vs here.1
shallow_members level (object ms ∷ vs) here = shallow_members_append level (listed_members ms) (flat_map members_in vs) (shallow_listed level ms (omega (arith, here.0))) (shallow_members level vs here.1)

shallow_values : (level : ℕ) (name : Name) (ms : List (Name × ShapeTree)) → AreMembersShallow level ms → AreShallow level (values_of name ms)
shallow_values level name [] here = tt
shallow_values level name (m ∷ ms) here = by_test (bytes_eq m.0 name) (shallow_values level name ms here.1)
  where
    by_test : (same : Bool) → AreShallow level (values_of name ms) → AreShallow level (map (λ m. m.1) (if same then m ∷ filter (λ m. bytes_eq m.0 name) ms else filter (λ m. bytes_eq m.0 name) ms))
    by_test true later = (here.0, later)
    by_test false later = later

shallow_documents : (level : ℕ) (docs : List Document) → deepest docs < level → AreShallow level (map document_shape docs)
shallow_documents level [] less = tt
shallow_documents level (d ∷ docs) less = (omega (arith, depth-document_shape d), shallow_documents level docs (omega arith))

-- ---- the kinds of a place

-- no values have no text
text_of_none : (level : ℕ) → values_text level [] ≡ json.null
text_of_none zero = refl
text_of_none (suc level) = refl

-- one more kind, in the tree and in the text
kind_text_of : (names : List Name) (n : ℕ) (node : ℕ → SchemaNode) (rest : KindNodes) (ws : List ShapeTree) (text : List ShapeTree → json.Data) (texts : json.Items)
    → n ≡ length ws → kinds_text names rest ≡ texts → (0 < n → node_text names (node n) ≡ text ws) → kinds_text names (with_kind n node rest) ≡ with_text ws text texts
kind_text_of names n node rest [] text texts many later here =
    subst (λ m. kinds_text names (with_kind m node rest) ≡ texts) (sym many) later
kind_text_of names n node rest (w ∷ ws) text texts many later here =
    let some : (n == 0) ≡ false = not_zero n (length ws) many in
    by_test (n == 0) some
  where
    not_zero : (n k : ℕ) → n ≡ suc k → (n == 0) ≡ false
    not_zero n k is = grind (arith, nat_tests)

    by_test : (none : Bool) → none ≡ false → kinds_text names (if none then rest else a_kind_node (node n) rest) ≡ json.item (text (w ∷ ws)) texts
    by_test true is = absurd (false≢true (sym is))
    by_test false is = rw (here (omega arith), later) refl

union_text_of : (names : List Name) (ks : KindNodes) → 0 < kinds_total ks → node_text names (united ks) ≡ united_text (kinds_total ks) (kinds_text names ks)
union_text_of names no_kind_nodes some = absurd (omega arith)
union_text_of names (a_kind_node t no_kind_nodes) some = refl
union_text_of names (a_kind_node t (a_kind_node u ks)) some = refl

-- ---- what a place counts occurs

module _ (names : List Name) (distinct : IsDistinct bytes_eq names) where
  abbrev OccursIn : Counted → List ShapeTree → Type 0
  OccursIn d vs = (path : Path) (t : Kind) → shows names d path t ≡ occurrences_in vs path t

  as_many : (d : Counted) (vs : List ShapeTree) → OccursIn d vs → documents_of d ≡ length vs
  as_many d vs occurs =
      omega (arith, each_has_a_kind vs, occurs [] (scalar null_kind), occurs [] (scalar boolean_kind), occurs [] (scalar integer_kind), occurs [] (scalar text_kind), occurs [] arrays, occurs [] objects)

  none_occurs : (vs : List ShapeTree) → OccursIn nothing vs → vs ≡ []
  none_occurs [] occurs = refl
  none_occurs (v ∷ vs) occurs = absurd (omega (arith, as_many nothing (v ∷ vs) occurs))

  -- ---- members by their names

  abbrev name_list : List (Name × ShapeTree) → List Name
  name_list ms = map (λ m. m.0) ms

  abbrev field_names : Fields → List Name
  field_names no_fields = []
  field_names (a_field n d fs) = name_at names n ∷ field_names fs

  listed_by_names : (text : Name → json.Data) (ms : List (Name × ShapeTree)) → by_name text ms ≡ by_names text (name_list ms) json.no_members
  listed_by_names text [] = refl
  listed_by_names text (m ∷ ms) = ap (json.put m.0 (text m.0)) (listed_by_names text ms)

  has_values : (name : Name) (ms : List (Name × ShapeTree)) → 0 < length (values_of name ms) → IsAmong name (name_list ms)
  has_values name [] some = absurd (omega arith)
  has_values name (m ∷ ms) some = by_test (bytes_eq m.0 name) (bytes_eq-Decides m.0 name).0 (has_values name ms) some
    where
      by_test : (same : Bool) → (same ≡ true → m.0 ≡ name) → (0 < length (values_of name ms) → IsAmong name (name_list ms))
          → 0 < length (map (λ m. m.1) (if same then m ∷ filter (λ m. bytes_eq m.0 name) ms else filter (λ m. bytes_eq m.0 name) ms)) → (m.0 ≡ name) ⊎ IsAmong name (name_list ms)
      by_test true is later some = inl (is refl)
      by_test false is later some = inr (later some)

  values_there : (name : Name) (ms : List (Name × ShapeTree)) → IsAmong name (name_list ms) → 0 < length (values_of name ms)
  values_there name [] among = absurd among
  values_there name (m ∷ ms) (inl same) = by_test (bytes_eq m.0 name) ((bytes_eq-Decides m.0 name).1 same)
    where
      by_test : (test : Bool) → test ≡ true → 0 < length (map (λ m. m.1) (if test then m ∷ filter (λ m. bytes_eq m.0 name) ms else filter (λ m. bytes_eq m.0 name) ms))
      by_test true is = omega arith
      by_test false is = absurd (false≢true is)
  values_there name (m ∷ ms) (inr among) = by_test (bytes_eq m.0 name) (values_there name ms among)
    where
      by_test : (test : Bool) → 0 < length (values_of name ms) → 0 < length (map (λ m. m.1) (if test then m ∷ filter (λ m. bytes_eq m.0 name) ms else filter (λ m. bytes_eq m.0 name) ms))
      by_test true later = omega arith
      by_test false later = later

  -- what the fields from a number on show
  abbrev FieldsOccur : ℕ → Fields → List (Name × ShapeTree) → Type 0
  FieldsOccur low fs ms = (n : ℕ) → low ≤ n → n < length names → OccursIn (field_at n fs) (values_of (name_at names n) ms)

  occurs_first : (low n : ℕ) (d : Counted) (fs : Fields) (ms : List (Name × ShapeTree)) → low ≤ n → n < length names → FieldsOccur low (a_field n d fs) ms → OccursIn d (values_of (name_at names n) ms)
  occurs_first low n d fs ms least below occurs path t = ap (λ e. shows names e path t) (sym (at_first n d fs)) ∙ occurs n least below path t

  occurs_later : (low n : ℕ) (d : Counted) (fs : Fields) (ms : List (Name × ShapeTree)) → low ≤ n → FieldsOccur low (a_field n d fs) ms → FieldsOccur (n + 1) fs ms
  occurs_later low n d fs ms least occurs k le below path t = ap (λ e. shows names e path t) (sym (after_first k n d fs (omega arith))) ∙ occurs k (omega arith) below path t

  into_members : (low : ℕ) (fs : Fields) (ms : List (Name × ShapeTree)) → AreFieldsCanonical (length names) low fs → FieldsOccur low fs ms → (name : Name) → IsAmong name (field_names fs) → IsAmong name (name_list ms)
  into_members low no_fields ms canonical occurs name among = absurd among
  into_members low (a_field n d fs) ms canonical occurs name (inl same) =
      let many = as_many d (values_of (name_at names n) ms) (occurs_first low n d fs ms canonical.0 canonical.1 occurs) in
      subst (λ m. IsAmong m (name_list ms)) same (has_values (name_at names n) ms (omega (arith, canonical.2, many)))
  into_members low (a_field n d fs) ms canonical occurs name (inr among) = into_members (n + 1) fs ms canonical.4 (occurs_later low n d fs ms canonical.0 occurs) name among

  found_field : (n : ℕ) (fs : Fields) → 0 < documents_of (field_at n fs) → IsAmong (name_at names n) (field_names fs)
  found_field n no_fields some = absurd (omega arith)
  found_field n (a_field k e fs) some = by_test (nat_lt n k) (k == n) (Decides-eqb k n).0 (found_field n fs) some
    where
      by_test : (less same : Bool) → (same ≡ true → k ≡ n) → (0 < documents_of (field_at n fs) → IsAmong (name_at names n) (field_names fs))
          → 0 < documents_of (if less then nothing else (if same then e else field_at n fs)) → (name_at names k ≡ name_at names n) ⊎ IsAmong (name_at names n) (field_names fs)
      by_test true same is later some = absurd (omega arith)
      by_test false true is later some = inl (ap (name_at names) (is refl))
      by_test false false is later some = inr (later some)

  from_members : (fs : Fields) (ms : List (Name × ShapeTree)) → ((name : Name) → OccursIn (numbered_field (number_of names name) fs) (values_of name ms)) → (name : Name) → IsAmong name (name_list ms) → IsAmong name (field_names fs)
  from_members fs ms occurs name among =
      by_number (number_of names name) refl (omega (arith, values_there name ms among, as_many (numbered_field (number_of names name) fs) (values_of name ms) (occurs name)))
    where
      by_number : (o : Option ℕ) → number_of names name ≡ o → 0 < documents_of (numbered_field o fs) → IsAmong name (field_names fs)
      by_number None is some = absurd (omega arith)
      by_number (Some n) is some =
          let stands : name_at names n ≡ name = ap (λ o. unwrap_or o []) (name_stands names name n is).1 in
          subst (λ m. IsAmong m (field_names fs)) stands (found_field n fs some)

  -- ---- the text of a place

  abbrev HasText : ℕ → Type 0
  HasText level = (d : Counted) (vs : List ShapeTree) → IsCanonical (length names) d → 0 < documents_of d → AreShallow level vs → OccursIn d vs → node_text names (node_of d) ≡ values_text level vs

  text_of_items : (level : ℕ) → HasText level → (b : Below) (xs : List ShapeTree) → IsBelowCanonical (length names) b → AreShallow level xs → OccursIn (held b) xs → item_text names (item_node_of b) ≡ values_text level xs
  text_of_items level text no_item xs canonical shallow occurs = sym (ap (values_text level) (none_occurs xs occurs) ∙ text_of_none level)
  text_of_items level text (an_item d) xs canonical shallow occurs = text d xs canonical.1 canonical.0 shallow occurs

  text_of_fields : (level : ℕ) → HasText level → (low : ℕ) (fs : Fields) (ms : List (Name × ShapeTree)) → AreFieldsCanonical (length names) low fs → AreMembersShallow level ms → FieldsOccur low fs ms
      → fields_text names (field_nodes_of fs) ≡ by_names (λ name. values_text level (values_of name ms)) (field_names fs) json.no_members
  text_of_fields level text low no_fields ms canonical shallow occurs = refl
  text_of_fields level text low (a_field n d fs) ms canonical shallow occurs =
      let name = name_at names n in
      ap (λ x. json.put name x (fields_text names (field_nodes_of fs)))
      (text d (values_of name ms) canonical.3 canonical.2 (shallow_values level name ms shallow) (occurs_first low n d fs ms canonical.0 canonical.1 occurs))
      ∙ ap (json.put name (values_text level (values_of name ms))) (text_of_fields level text (n + 1) fs ms canonical.4 shallow (occurs_later low n d fs ms canonical.0 occurs))

  text_of_members : (level : ℕ) → HasText level → (fs : Fields) (ms : List (Name × ShapeTree)) → AreFieldsCanonical (length names) 0 fs → AreMembersShallow level ms
      → ((name : Name) → OccursIn (numbered_field (number_of names name) fs) (values_of name ms))
      → fields_text names (field_nodes_of fs) ≡ by_name (λ name. values_text level (values_of name ms)) ms
  text_of_members level text fs ms canonical shallow occurs =
      let by_numbers : FieldsOccur 0 fs ms = λ n least below path t.
      ap (λ o. shows names (numbered_field o fs) path t) (sym (number_of_name_at names n distinct below)) ∙ occurs (name_at names n) path t in
      let each = λ (name : Name). values_text level (values_of name ms) in
      text_of_fields level text 0 fs ms canonical shallow by_numbers
      ∙ same_names each (field_names fs) (name_list ms) json.no_members (into_members 0 fs ms canonical by_numbers) (from_members fs ms occurs)
      ∙ sym (listed_by_names each ms)

  no_level : (vs : List ShapeTree) → AreShallow 0 vs → length vs ≡ 0
  no_level [] shallow = refl
  no_level (v ∷ vs) shallow = absurd (omega (arith, shallow.0))

  text_of_place : (level : ℕ) → HasText level
  text_of_place zero d vs canonical some shallow occurs = absurd (omega (arith, no_level vs shallow, as_many d vs occurs))
  text_of_place (suc level) (counted c b fs) vs canonical some shallow occurs =
      let text = text_of_place level in
      let many : (t : Kind) → counter c t ≡ length (of_kind t vs) = λ t. occurs [] t ∙ how_many t vs in
      let i = item_node_of b in
      let ns = field_nodes_of fs in
      let ws = of_kind arrays vs in
      let os = of_kind objects vs in
      let ms = flat_map members_in os in
      let objects_part = kind_text_of names c.objects (λ n. object_node n ns) no_kind_nodes os (λ vs. object_text (length vs) (by_name (λ name. values_text level (values_of name (flat_map members_in vs))) (flat_map members_in vs))) json.no_items (many objects) refl
      (λ some. rw (many objects, text_of_members level text fs ms canonical.3 (shallow_members level os (shallow_kind (suc level) objects vs shallow)) (λ name path t. occurs (field name ∷ path) t ∙ members_of_kind vs name path t)) refl) in
      let arrays_part = kind_text_of names c.arrays (λ n. array_node n i) _ ws (λ vs. array_text (length vs) (values_text level (flat_map items_in vs))) _ (many arrays) objects_part
      (λ some. rw (many arrays, text_of_items level text b (flat_map items_in ws) canonical.2 (shallow_inside level ws (shallow_kind (suc level) arrays vs shallow)) (λ path t. occurs (each_item ∷ path) t ∙ items_of_kind vs path t)) refl) in
      let texts_part = kind_text_of names c.texts (scalar_node text_kind) _ (of_kind (scalar text_kind) vs) (λ vs. scalar_text text_kind (length vs)) _ (many (scalar text_kind)) arrays_part (λ some. ap (scalar_text text_kind) (many (scalar text_kind))) in
      let integers_part = kind_text_of names c.integers (scalar_node integer_kind) _ (of_kind (scalar integer_kind) vs) (λ vs. scalar_text integer_kind (length vs)) _ (many (scalar integer_kind)) texts_part (λ some. ap (scalar_text integer_kind) (many (scalar integer_kind))) in
      let booleans_part = kind_text_of names c.booleans (scalar_node boolean_kind) _ (of_kind (scalar boolean_kind) vs) (λ vs. scalar_text boolean_kind (length vs)) _ (many (scalar boolean_kind)) integers_part (λ some. ap (scalar_text boolean_kind) (many (scalar boolean_kind))) in
      let nulls_part = kind_text_of names c.nulls (scalar_node null_kind) _ (of_kind (scalar null_kind) vs) (λ vs. scalar_text null_kind (length vs)) _ (many (scalar null_kind)) booleans_part (λ some. ap (scalar_text null_kind) (many (scalar null_kind))) in
      let sum = total-kind_nodes c i ns in
      union_text_of names (kind_nodes c i ns) (omega (arith, sum, some))
      ∙ ap (λ n. united_text n (kinds_text names (kind_nodes c i ns))) (sum ∙ as_many (counted c b fs) vs occurs)
      ∙ ap (united_text (length vs)) nulls_part

-- the text of what stands for documents is theirs
pub text_of_documents : (names : List Name) (d : Counted) (docs : List Document) → StandsFor names d docs → tree_text names (schema_tree d) ≡ schema_text docs
text_of_documents names d docs stands = by_test (documents_of d == 0) (Decides-eqb (documents_of d) 0)
  where
    occurs : (path : Path) (t : Kind) → shows names d path t ≡ occurrences_in (map document_shape docs) path t
    occurs path t = stands.counts path t ∙ in_documents docs path t

    many : documents_of d ≡ length (map document_shape docs)
    many = as_many names stands.distinct d (map document_shape docs) occurs

    text_of_no_document : (docs : List Document) → length (map document_shape docs) ≡ 0 → json.null ≡ schema_text docs
    text_of_no_document [] none = refl
    text_of_no_document (x ∷ docs) none = absurd (omega arith)

    by_test : (none : Bool) → (none ≡ true → documents_of d ≡ 0) × (documents_of d ≡ 0 → none ≡ true) → tree_text names (if none then None else Some (node_of d)) ≡ schema_text docs
    by_test true decides = text_of_no_document docs (sym many ∙ decides.0 refl)
    by_test false decides =
        let some : documents_of d ≢ 0 = λ zero. false≢true (decides.1 zero) in
        text_of_place names stands.distinct (deepest docs + 1) d (map document_shape docs) stands.canonical (omega arith) (shallow_documents (deepest docs + 1) docs (omega arith)) occurs
