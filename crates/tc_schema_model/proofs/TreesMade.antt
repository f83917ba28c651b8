-- Every tree in the one form is the tree of what is counted in the one form.
use Rattle.std.proofs.Common.{◌≡◌, ◌≢◌, ℕ, ◌+◌, ◌<◌, ◌≤◌, ◌==◌, Bool, true, false, if◌then◌else◌, refl, sym, ap, ◌∙◌, subst, arith}
use Rattle.std.proofs.lemmas.Bool.{false≢true}
use Rattle.std.proofs.lemmas.Bool.Decides.{Decides-eqb}
use Rattle.tc_model.specs.Document.{ScalarKind, null_kind, boolean_kind, integer_kind, text_kind}
use Rattle.tc_model.specs.Kinds.{scalar_tag}
use Rattle.tc_schema_model.specs.Counted.{Counters, Counted, counted, Below, no_item, an_item, Fields, no_fields, a_field, documents_of, IsCanonical, IsBelowCanonical, AreFieldsCanonical}
use Rattle.tc_schema_model.specs.SchemaTree.{SchemaNode, scalar_node, array_node, object_node, union_node, ItemNode, no_item_node, an_item_node, FieldNodes, no_field_nodes, a_field_node, KindNodes, no_kind_nodes, a_kind_node, node_counter, node_tag, kinds_total, kinds_count, with_kind, united, kind_nodes, node_of, item_node_of, field_nodes_of, IsCanonicalNode, IsCanonicalItem, AreCanonicalFields, AreCanonicalKinds}
use Rattle.tc_schema_model.proofs.KindLaws.{total-kind_nodes}

record Made (limit : ℕ) (t : SchemaNode) : Type 0 where
  counts : Counted
  canonical : IsCanonical limit counts
  some : 0 < documents_of counts
  same : node_of counts ≡ t

record MadeItem (limit : ℕ) (i : ItemNode) : Type 0 where
  below : Below
  canonical : IsBelowCanonical limit below
  same : item_node_of below ≡ i

record MadeFields (limit low : ℕ) (fs : FieldNodes) : Type 0 where
  fields : Fields
  canonical : AreFieldsCanonical limit low fields
  same : field_nodes_of fields ≡ fs

-- what a node holds, and what each of several holds
abbrev MadeInside : ℕ → SchemaNode → Type 0
MadeInside limit (array_node n i) = MadeItem limit i
MadeInside limit (object_node n fs) = MadeFields limit 0 fs
MadeInside _ _ = Unit {0}

abbrev AreMade : ℕ → KindNodes → Type 0
AreMade limit no_kind_nodes = Unit {0}
AreMade limit (a_kind_node t ks) = MadeInside limit t × AreMade limit ks

-- ---- one kind, which is there or is not

here : (n : ℕ) (node : ℕ → SchemaNode) (rest : KindNodes) → 0 < n → with_kind n node rest ≡ a_kind_node (node n) rest
here n node rest some = by_test (n == 0) (Decides-eqb n 0).0
  where
    by_test : (none : Bool) → (none ≡ true → n ≡ 0) → (if none then rest else a_kind_node (node n) rest) ≡ a_kind_node (node n) rest
    by_test true is = absurd (omega (arith, is refl, some))
    by_test false is = refl

few_scalars : (k : ScalarKind) → scalar_tag k ≤ 4
few_scalars null_kind = omega arith
few_scalars boolean_kind = omega arith
few_scalars integer_kind = omega arith
few_scalars text_kind = omega arith

same_scalar : (j k : ScalarKind) → scalar_tag j ≡ scalar_tag k → j ≡ k
same_scalar null_kind null_kind e = refl
same_scalar null_kind boolean_kind e = absurd (omega (arith, e))
same_scalar null_kind integer_kind e = absurd (omega (arith, e))
same_scalar null_kind text_kind e = absurd (omega (arith, e))
same_scalar boolean_kind null_kind e = absurd (omega (arith, e))
same_scalar boolean_kind boolean_kind e = refl
same_scalar boolean_kind integer_kind e = absurd (omega (arith, e))
same_scalar boolean_kind text_kind e = absurd (omega (arith, e))
same_scalar integer_kind null_kind e = absurd (omega (arith, e))
same_scalar integer_kind boolean_kind e = absurd (omega (arith, e))
same_scalar integer_kind integer_kind e = refl
same_scalar integer_kind text_kind e = absurd (omega (arith, e))
same_scalar text_kind null_kind e = absurd (omega (arith, e))
same_scalar text_kind boolean_kind e = absurd (omega (arith, e))
same_scalar text_kind integer_kind e = absurd (omega (arith, e))
same_scalar text_kind text_kind e = refl

record ScalarStep (limit : ℕ) (k : ScalarKind) (ks : KindNodes) : Type 0 where
  n : ℕ
  rest : KindNodes
  same : with_kind n (scalar_node k) rest ≡ ks
  behind : AreCanonicalKinds limit (scalar_tag k + 1) rest
  made : AreMade limit rest

scalar_step : (limit : ℕ) (k : ScalarKind) (ks : KindNodes) → AreCanonicalKinds limit (scalar_tag k) ks → AreMade limit ks → ScalarStep limit k ks
scalar_step limit k no_kind_nodes are made = record { n = 0; rest = no_kind_nodes; same = refl; behind = tt; made = tt }
scalar_step limit k (a_kind_node t ks) are made = by_test (node_tag t == scalar_tag k) (Decides-eqb (node_tag t) (scalar_tag k))
  where
    at : (t : SchemaNode) → node_tag t ≡ scalar_tag k → IsCanonicalNode limit t → node_tag t < 7 → AreCanonicalKinds limit (node_tag t + 1) ks → ScalarStep limit k (a_kind_node t ks)
    at (scalar_node j n) tag canonical below behind =
        record { n = n; rest = ks; same = here n (scalar_node k) ks canonical ∙ ap (λ k. a_kind_node (scalar_node k n) ks) (sym (same_scalar j k tag)); behind = subst (λ m. AreCanonicalKinds limit (m + 1) ks) tag behind; made = made.1 }
    at (array_node n i) tag canonical below behind = absurd (omega (arith, tag, few_scalars k))
    at (object_node n fs) tag canonical below behind = absurd (omega (arith, tag, few_scalars k))
    at (union_node n us) tag canonical below behind = absurd (omega (arith, tag, few_scalars k))

    by_test : (first : Bool) → (first ≡ true → node_tag t ≡ scalar_tag k) × (node_tag t ≡ scalar_tag k → first ≡ true) → ScalarStep limit k (a_kind_node t ks)
    by_test true decides = at t (decides.0 refl) are.2 are.1 are.3
    by_test false decides =
        let other : node_tag t ≢ scalar_tag k = λ same. false≢true (decides.1 same) in
        record { n = 0; rest = a_kind_node t ks; same = refl; behind = (omega (arith, are.0), are.1, are.2, are.3); made = made }

record ArrayStep (limit : ℕ) (ks : KindNodes) : Type 0 where
  n : ℕ
  item : ItemNode
  inside : MadeItem limit item
  none : n ≡ 0 → item ≡ no_item_node
  rest : KindNodes
  same : with_kind n (λ n. array_node n item) rest ≡ ks
  behind : AreCanonicalKinds limit 6 rest
  made : AreMade limit rest

no_array : (limit : ℕ) (ks : KindNodes) → AreCanonicalKinds limit 6 ks → AreMade limit ks → ArrayStep limit ks
no_array limit ks behind made =
    record { n = 0; item = no_item_node; inside = record { below = no_item; canonical = tt; same = refl }; none = λ _. refl; rest = ks; same = refl; behind = behind; made = made }

array_step : (limit : ℕ) (ks : KindNodes) → AreCanonicalKinds limit 5 ks → AreMade limit ks → ArrayStep limit ks
array_step limit no_kind_nodes are made = no_array limit no_kind_nodes tt tt
array_step limit (a_kind_node (scalar_node k n) ks) are made = absurd (omega (arith, are.0, few_scalars k))
array_step limit (a_kind_node (array_node n i) ks) are made =
    record { n = n; item = i; inside = made.0; none = λ zero. absurd (omega (arith, zero, are.2.0)); rest = ks; same = here n (λ n. array_node n i) ks are.2.0; behind = are.3; made = made.1 }
array_step limit (a_kind_node (object_node n fs) ks) are made = no_array limit (a_kind_node (object_node n fs) ks) (omega arith, are.1, are.2, are.3) made
array_step limit (a_kind_node (union_node n us) ks) are made = absurd (omega (arith, are.1))

record ObjectStep (limit : ℕ) (ks : KindNodes) : Type 0 where
  n : ℕ
  fields : FieldNodes
  inside : MadeFields limit 0 fields
  none : n ≡ 0 → fields ≡ no_field_nodes
  same : with_kind n (λ n. object_node n fields) no_kind_nodes ≡ ks

object_step : (limit : ℕ) (ks : KindNodes) → AreCanonicalKinds limit 6 ks → AreMade limit ks → ObjectStep limit ks
object_step limit no_kind_nodes are made =
    record { n = 0; fields = no_field_nodes; inside = record { fields = no_fields; canonical = tt; same = refl }; none = λ _. refl; same = refl }
object_step limit (a_kind_node (scalar_node k n) ks) are made = absurd (omega (arith, are.0, few_scalars k))
object_step limit (a_kind_node (array_node n i) ks) are made = absurd (omega (arith, are.0))
object_step limit (a_kind_node (object_node n fs) no_kind_nodes) are made =
    record { n = n; fields = fs; inside = made.0; none = λ zero. absurd (omega (arith, zero, are.2.0)); same = here n (λ n. object_node n fs) no_kind_nodes are.2.0 }
object_step limit (a_kind_node (object_node n fs) (a_kind_node t ks)) are made = absurd (omega (arith, are.3.0, are.3.1))
object_step limit (a_kind_node (union_node n us) ks) are made = absurd (omega (arith, are.1))

-- ---- the kinds of a place

record MadeKinds (limit : ℕ) (ks : KindNodes) : Type 0 where
  counts : Counted
  canonical : IsCanonical limit counts
  same : node_of counts ≡ united ks
  many : documents_of counts ≡ kinds_total ks

no_item_made : (b : Below) → item_node_of b ≡ no_item_node → b ≡ no_item
no_item_made no_item e = refl
no_item_made (an_item d) e = absurd (cc)

no_fields_made : (fs : Fields) → field_nodes_of fs ≡ no_field_nodes → fs ≡ no_fields
no_fields_made no_fields e = refl
no_fields_made (a_field n d fs) e = absurd (cc)

made_kinds : (limit : ℕ) (ks : KindNodes) → AreCanonicalKinds limit 1 ks → AreMade limit ks → MadeKinds limit ks
made_kinds limit ks are made =
    let a = scalar_step limit null_kind ks are made in
    let b = scalar_step limit boolean_kind a.rest a.behind a.made in
    let c = scalar_step limit integer_kind b.rest b.behind b.made in
    let d = scalar_step limit text_kind c.rest c.behind c.made in
    let e = array_step limit d.rest d.behind d.made in
    let f = object_step limit e.rest e.behind e.made in
    let counters : Counters = record { nulls = a.n; booleans = b.n; integers = c.n; texts = d.n; arrays = e.n; objects = f.n } in
    let objects : with_kind f.n (λ n. object_node n (field_nodes_of f.inside.fields)) no_kind_nodes ≡ e.rest = ap (λ fs. with_kind f.n (λ n. object_node n fs) no_kind_nodes) f.inside.same ∙ f.same in
    let arrays : with_kind e.n (λ n. array_node n (item_node_of e.inside.below)) e.rest ≡ d.rest = ap (λ i. with_kind e.n (λ n. array_node n i) e.rest) e.inside.same ∙ e.same in
    let all : kind_nodes counters (item_node_of e.inside.below) (field_nodes_of f.inside.fields) ≡ ks = rw (objects, arrays, d.same, c.same, b.same, a.same) refl in
    record {
      counts = counted counters e.inside.below f.inside.fields;
      canonical = (λ none. no_item_made e.inside.below (e.inside.same ∙ e.none none), λ none. no_fields_made f.inside.fields (f.inside.same ∙ f.none none), e.inside.canonical, f.inside.canonical);
      same = ap united all;
      many = sym (total-kind_nodes counters (item_node_of e.inside.below) (field_nodes_of f.inside.fields)) ∙ ap kinds_total all;
    }

-- ---- one node

united_many : (ks : KindNodes) → 2 ≤ kinds_count ks → united ks ≡ union_node (kinds_total ks) ks
united_many no_kind_nodes many = absurd (omega (arith, many))
united_many (a_kind_node t no_kind_nodes) many = absurd (omega (arith, many))
united_many (a_kind_node t (a_kind_node u ks)) many = refl

counter_is_some : (limit : ℕ) (t : SchemaNode) → node_tag t < 7 → IsCanonicalNode limit t → 0 < node_counter t
counter_is_some limit (scalar_node k n) below canonical = canonical
counter_is_some limit (array_node n i) below canonical = canonical.0
counter_is_some limit (object_node n fs) below canonical = canonical.0
counter_is_some limit (union_node n ks) below canonical = absurd (omega (arith, below))

total_is_some : (limit low : ℕ) (ks : KindNodes) → 1 ≤ kinds_count ks → AreCanonicalKinds limit low ks → 0 < kinds_total ks
total_is_some limit low no_kind_nodes some are = absurd (omega (arith, some))
total_is_some limit low (a_kind_node t ks) some are = omega (arith, counter_is_some limit t are.1 are.2)

-- one kind alone
alone : (limit : ℕ) (t : SchemaNode) → 1 ≤ node_tag t → node_tag t < 7 → IsCanonicalNode limit t → MadeInside limit t → Made limit t
alone limit t low below canonical inside =
    let ks = made_kinds limit (a_kind_node t no_kind_nodes) (low, below, canonical, tt) (inside, tt) in
    record { counts = ks.counts; canonical = ks.canonical; some = omega (arith, ks.many, counter_is_some limit t below canonical); same = ks.same }

some_tag : (k : ScalarKind) → 1 ≤ scalar_tag k
some_tag null_kind = omega arith
some_tag boolean_kind = omega arith
some_tag integer_kind = omega arith
some_tag text_kind = omega arith

mutual
  made_node : (limit : ℕ) (t : SchemaNode) → IsCanonicalNode limit t → Made limit t
  made_node limit (scalar_node k n) canonical = alone limit (scalar_node k n) (some_tag k) (omega (arith, few_scalars k)) canonical tt
  made_node limit (array_node n i) canonical = alone limit (array_node n i) (omega arith) (omega arith) canonical (made_item limit i canonical.1)
  made_node limit (object_node n fs) canonical = alone limit (object_node n fs) (omega arith) (omega arith) canonical (made_fields limit 0 fs canonical.1)
  made_node limit (union_node n us) canonical =
      let ks = made_kinds limit us canonical.2 (all_made limit 1 us canonical.2) in
      record {
        counts = ks.counts;
        canonical = ks.canonical;
        some = omega (arith, ks.many, total_is_some limit 1 us (omega (arith, canonical.0)) canonical.2);
        same = ks.same ∙ united_many us canonical.0 ∙ ap (λ m. union_node m us) (sym canonical.1);
      }

  made_item : (limit : ℕ) (i : ItemNode) → IsCanonicalItem limit i → MadeItem limit i
  made_item limit no_item_node canonical = record { below = no_item; canonical = tt; same = refl }
  made_item limit (an_item_node t) canonical =
      let m = made_node limit t canonical in
      record { below = an_item m.counts; canonical = (m.some, m.canonical); same = ap an_item_node m.same }

  made_fields : (limit low : ℕ) (fs : FieldNodes) → AreCanonicalFields limit low fs → MadeFields limit low fs
  made_fields limit low no_field_nodes canonical = record { fields = no_fields; canonical = tt; same = refl }
  made_fields limit low (a_field_node n t fs) canonical =
      let m = made_node limit t canonical.2 in
      let rest = made_fields limit (n + 1) fs canonical.3 in
      record { fields = a_field n m.counts rest.fields; canonical = (canonical.0, canonical.1, m.some, m.canonical, rest.canonical); same = rw (m.same, rest.same) refl }

  all_made : (limit low : ℕ) (ks : KindNodes) → AreCanonicalKinds limit low ks → AreMade limit ks
  all_made limit low no_kind_nodes are = tt
  all_made limit low (a_kind_node t ks) are = (made_inside limit t are.2, all_made limit (node_tag t + 1) ks are.3)

  made_inside : (limit : ℕ) (t : SchemaNode) → IsCanonicalNode limit t → MadeInside limit t
  made_inside limit (scalar_node k n) canonical = tt
  made_inside limit (array_node n i) canonical = made_item limit i canonical.1
  made_inside limit (object_node n fs) canonical = made_fields limit 0 fs canonical.1
  made_inside limit (union_node n us) canonical = tt

pub tree_made : (limit : ℕ) (t : SchemaNode) → IsCanonicalNode limit t → (d : Counted) × IsCanonical limit d × (0 < documents_of d) × (node_of d ≡ t)
tree_made limit t canonical = let m = made_node limit t canonical in (m.counts, m.canonical, m.some, m.same)
