-- How many values stand at a path: in a shape no more than it has in all, and in few documents of bounded size no more
-- than a counter holds.
use Rattle.std.proofs.Common.{◌≡◌, ◌+◌, ◌*◌, ◌<◌, ◌≤◌, ◌^◌, Bool, true, false, All, List, [], ◌∷◌, length, bytes_eq, if◌then◌else◌, refl, arith}
use Rattle.std.specs.List.{AllByRecursion, IsDistinct}
use Rattle.std.proofs.lemmas.List.Elements.{recursion_from_All, All-weaker}
use Rattle.tc_model.specs.Tree.{leaf, array, object, Items, no_items, item, Members, no_members, member}
use Rattle.tc_model.specs.Document.{Name, Document, ShapeTree, ScalarKind, null_kind, boolean_kind, integer_kind, text_kind, scalar_kind, document_shape}
use Rattle.tc_schema_model.specs.Occurrences.{field, each_item, Path, occurrences, items_occurrences, members_occurrences}
use Rattle.tc_model.specs.Kinds.{Kind, scalar, arrays, objects}
use Rattle.tc_schema_model.specs.Counted.{Counted, nothing, total_at}
use Rattle.tc_schema_model.specs.Stands.{StandsFor}
use Rattle.tc_schema_model.proofs.CountingLaws.{shows_nothing}
use Rattle.tc_model.proofs.TreeSizes.{size-relabel}
use Rattle.tc_model.specs.TreeSize.{tree_size, items_size, members_size}
use Rattle.tc_schema_model.specs.Values.{of_all_kinds, values_at, values_in}

-- ---- in one shape

one_here : (s : ShapeTree) → values_at s [] ≡ 1
one_here (leaf null_kind) = refl
one_here (leaf boolean_kind) = refl
one_here (leaf integer_kind) = refl
one_here (leaf text_kind) = refl
one_here (array xs) = refl
one_here (object ms) = refl

one_at_least : (s : ShapeTree) → 1 ≤ tree_size s
one_at_least (leaf k) = omega arith
one_at_least (array xs) = omega arith
one_at_least (object ms) = omega arith

mutual
  pub values_at-size : (s : ShapeTree) (path : Path) → values_at s path ≤ tree_size s
  values_at-size s [] = omega (arith, one_here s, one_at_least s)
  values_at-size (leaf k) (step ∷ path) = omega arith
  values_at-size (array xs) (each_item ∷ path) = omega (arith, items-size xs path)
  values_at-size (array xs) (field name ∷ path) = omega arith
  values_at-size (object ms) (each_item ∷ path) = omega arith
  values_at-size (object ms) (field name ∷ path) = omega (arith, members-size ms name path)

  items-size : (xs : Items Name ScalarKind) (path : Path) → of_all_kinds (items_occurrences xs path) ≤ items_size xs
  items-size no_items path = omega arith
  items-size (item s xs) path = omega (arith, values_at-size s path, items-size xs path)

  members-size : (ms : Members Name ScalarKind) (name : Name) (path : Path) → of_all_kinds (members_occurrences ms name path) ≤ members_size ms
  members-size no_members name path = omega arith
  members-size (member label s ms) name path = cases (bytes_eq label name) (values_at-size s path) (members-size ms name path)
    where
      cases : (same : Bool) → values_at s path ≤ tree_size s → of_all_kinds (members_occurrences ms name path) ≤ members_size ms
          → of_all_kinds (λ t. (if same then occurrences s path t else 0) + members_occurrences ms name path t) ≤ tree_size s + members_size ms
      cases true first rest = omega (arith, first, rest)
      cases false first rest = omega (arith, rest)

pub document_values_at-size : (doc : Document) (path : Path) → values_at (document_shape doc) path ≤ tree_size doc
document_values_at-size doc path = omega (arith, values_at-size (document_shape doc) path, size-relabel (λ name. name) scalar_kind doc)

-- ---- in documents together

-- a schema that stands for documents has counted their values
pub total-stands : (names : List Name) (d : Counted) (docs : List Document) → StandsFor names d docs → (path : Path) → total_at names d path ≡ values_in docs path
total-stands names d docs stands path =
    let shown : (t : Kind) → _ = λ t. stands.counts path t in
    omega (arith, shown (scalar null_kind), shown (scalar boolean_kind), shown (scalar integer_kind), shown (scalar text_kind), shown arrays, shown objects)

values_in-few : (docs : List Document) (path : Path) → AllByRecursion (λ doc. values_at (document_shape doc) path < 2 ^ 32) docs → values_in docs path ≤ 4294967295 * length docs
values_in-few [] path all = omega arith
values_in-few (doc ∷ docs) path all = omega (arith, all.0, values_in-few docs path all.1)

-- no document is counted at first
pub nothing_stands : StandsFor [] nothing []
unfolding IsDistinct
nothing_stands = record { canonical = (λ _. refl, λ _. refl, tt, tt); distinct = tt; counts = λ path t. shows_nothing [] path t }

-- fewer than 2^32 documents, each with fewer than 2^32 values at a path, leave room there for one more
pub counters_fit : (names : List Name) (d : Counted) (docs : List Document) (s : ShapeTree) → StandsFor names d docs → length docs < 2 ^ 32 → (path : Path)
    → All (λ doc. values_at (document_shape doc) path < 2 ^ 32) docs → values_at s path < 2 ^ 32 → total_at names d path + values_at s path < 2 ^ 64
counters_fit names d docs s stands few path each here =
    omega (arith, total-stands names d docs stands path, values_in-few docs path (recursion_from_All _ docs each), few, here)

small_at : (docs : List Document) → All (λ doc. tree_size doc < 2 ^ 32) docs → (path : Path) → All (λ doc. values_at (document_shape doc) path < 2 ^ 32) docs
small_at docs each path = All-weaker _ _ small docs each
  where
    small : (doc : Document) → tree_size doc < 2 ^ 32 → values_at (document_shape doc) path < 2 ^ 32
    small doc few = omega (arith, few, document_values_at-size doc path)

-- the same at every path, where each has fewer than 2^32 values in all
pub counters_fit-sizes : (names : List Name) (d : Counted) (docs : List Document) (s : ShapeTree) → StandsFor names d docs → length docs < 2 ^ 32
    → All (λ doc. tree_size doc < 2 ^ 32) docs → tree_size s < 2 ^ 32 → (path : Path) → total_at names d path + values_at s path < 2 ^ 64
counters_fit-sizes names d docs s stands few each here path = counters_fit names d docs s stands few path (small_at docs each path) (omega (arith, here, values_at-size s path))
