-- A schema of documents has no more places one within another than the deepest of them has values.
use Rattle.std.proofs.Common.{◌≡◌, ℕ, ◌+◌, ◌-◌, ◌<◌, ◌≤◌, Bool, true, false, List, [], ◌∷◌, length, bytes_eq, if◌then◌else◌, refl, subst, arith}
use Rattle.std.specs.Prelude.{All}
use Rattle.std.specs.List.{IsDistinct, AllByRecursion}
use Rattle.std.proofs.lemmas.List.Elements.{recursion_from_All}
use Rattle.tc_model.specs.Document.{Name, Document, ShapeTree, ScalarKind, scalar_kind, document_shape}
use Rattle.tc_model.specs.Limits.{max_depth}
use Rattle.tc_model.specs.Tree.{Tree, leaf, array, object, Items, no_items, item, Members, no_members, member, depth, items_depth, members_depth, relabel, items_relabel, members_relabel}
use Rattle.tc_schema_model.specs.Counted.{Counted, counted, Below, no_item, an_item, Fields, no_fields, a_field, held, field_at, numbered_field, total_at, documents_of, IsCanonical, IsBelowCanonical, AreFieldsCanonical}
use Rattle.tc_schema_model.specs.Levels.{levels_of, levels_of_item, levels_of_fields, IsShallow}
use Rattle.tc_schema_model.specs.Occurrences.{Step, field, each_item, Path, occurrences, items_occurrences, members_occurrences}
use Rattle.tc_schema_model.specs.SchemaText.{name_at}
use Rattle.tc_schema_model.specs.Stands.{StandsFor}
use Rattle.tc_schema_model.specs.Values.{of_all_kinds, values_at, values_in}
use Rattle.tc_schema_model.proofs.CountingLaws.{at_first, after_first}
use Rattle.tc_schema_model.proofs.NumberLaws.{number_of_name_at}
use Rattle.tc_schema_model.proofs.ValueBounds.{total-stands}

-- ---- no value stands at a path that is longer than a shape is deep

mutual
  none_beyond : (s : ShapeTree) (path : Path) → depth s < length path → values_at s path ≡ 0
  none_beyond s [] beyond = absurd (omega (arith, beyond))
  none_beyond (leaf k) (step ∷ path) beyond = refl
  none_beyond (array xs) (each_item ∷ path) beyond = none_in_items xs path (omega (arith, beyond))
  none_beyond (array xs) (field name ∷ path) beyond = refl
  none_beyond (object ms) (each_item ∷ path) beyond = refl
  none_beyond (object ms) (field name ∷ path) beyond = none_in_members ms name path (omega (arith, beyond))

  none_in_items : (xs : Items Name ScalarKind) (path : Path) → items_depth xs < length path → of_all_kinds (items_occurrences xs path) ≡ 0
  none_in_items no_items path beyond = refl
  none_in_items (item s xs) path beyond = omega (arith, none_beyond s path (omega (arith, beyond)), none_in_items xs path (omega (arith, beyond)))

  none_in_members : (ms : Members Name ScalarKind) (name : Name) (path : Path) → members_depth ms < length path → of_all_kinds (members_occurrences ms name path) ≡ 0
  none_in_members no_members name path beyond = refl
  none_in_members (member label s ms) name path beyond =
      by_test (bytes_eq label name) (none_beyond s path (omega (arith, beyond))) (none_in_members ms name path (omega (arith, beyond)))
    where
      by_test : (same : Bool) → values_at s path ≡ 0 → of_all_kinds (members_occurrences ms name path) ≡ 0 → of_all_kinds (λ t. (if same then occurrences s path t else 0) + members_occurrences ms name path t) ≡ 0
      by_test true here later = omega (arith, here, later)
      by_test false here later = omega (arith, later)

-- a shape is as deep as its document
mutual
  depth-relabel : {L M S T : Type 0} (f : L → M) (g : S → T) (t : Tree L S) → depth (relabel f g t) ≡ depth t
  depth-relabel f g (leaf s) = refl
  depth-relabel f g (array xs) = omega (arith, items_depth-relabel f g xs)
  depth-relabel f g (object ms) = omega (arith, members_depth-relabel f g ms)

  items_depth-relabel : {L M S T : Type 0} (f : L → M) (g : S → T) (xs : Items L S) → items_depth (items_relabel f g xs) ≡ items_depth xs
  items_depth-relabel f g no_items = refl
  items_depth-relabel f g (item t xs) = omega (arith, depth-relabel f g t, items_depth-relabel f g xs)

  members_depth-relabel : {L M S T : Type 0} (f : L → M) (g : S → T) (ms : Members L S) → members_depth (members_relabel f g ms) ≡ members_depth ms
  members_depth-relabel f g no_members = refl
  members_depth-relabel f g (member l t ms) = omega (arith, depth-relabel f g t, members_depth-relabel f g ms)

pub depth-document_shape : (doc : Document) → depth (document_shape doc) ≡ depth doc
depth-document_shape doc = depth-relabel (λ name. name) scalar_kind doc

none_in_documents : (docs : List Document) (path : Path) → max_depth < length path → AllByRecursion (λ doc. depth doc ≤ max_depth) docs → values_in docs path ≡ 0
none_in_documents [] path beyond all = refl
none_in_documents (doc ∷ docs) path beyond all =
    omega (arith, none_beyond (document_shape doc) path (omega (arith, depth-document_shape doc, all.0, beyond)), none_in_documents docs path beyond all.1)

-- ---- places are as deep as the paths at which something is counted

-- a path into a place within is longer by a step
shorter : {P : Type 0} (limit : ℕ) (step : Step) (path : Path) → (P → length (step ∷ path) ≤ limit) → P → length path < limit
shorter limit step path none more = omega (arith, none more)

module _ (names : List Name) (distinct : IsDistinct bytes_eq names) where
  abbrev NoneBeyond : ℕ → Counted → Type 0
  NoneBeyond limit d = (path : Path) → 0 < total_at names d path → length path < limit

  -- from a place on all within is one level less
  one_less : (limit : ℕ) (d : Counted) → 0 < documents_of d → NoneBeyond limit d → (path : Path) → 0 < total_at names d path → length path ≤ limit - 1
  one_less limit d some none path more = omega (arith, none path more)

  mutual
    levels_from_paths : (limit : ℕ) (d : Counted) → IsCanonical (length names) d → ((path : Path) → 0 < total_at names d path → length path ≤ limit) → levels_of d ≤ limit + 1
    levels_from_paths limit (counted c b fs) canonical none =
        omega (
          arith,
          item_from_paths limit b canonical.2 (λ path. shorter limit each_item path (none (each_item ∷ path))),
          fields_from_paths limit 0 fs canonical.3 (λ n least below path.
              subst (λ o. 0 < total_at names (numbered_field o fs) path → length path < limit) (number_of_name_at names n distinct below)
              (shorter limit (field (name_at names n)) path (none (field (name_at names n) ∷ path)))),
        )

    item_from_paths : (limit : ℕ) (b : Below) → IsBelowCanonical (length names) b → NoneBeyond limit (held b) → levels_of_item b ≤ limit
    item_from_paths limit no_item canonical none = omega arith
    item_from_paths limit (an_item d) canonical none =
        omega (arith, none [] canonical.0, levels_from_paths (limit - 1) d canonical.1 (one_less limit d canonical.0 none))

    fields_from_paths : (limit low : ℕ) (fs : Fields) → AreFieldsCanonical (length names) low fs → ((n : ℕ) → low ≤ n → n < length names → NoneBeyond limit (field_at n fs)) → levels_of_fields fs ≤ limit
    fields_from_paths limit low no_fields canonical none = omega arith
    fields_from_paths limit low (a_field n d fs) canonical none =
        let here : NoneBeyond limit d = subst (NoneBeyond limit) (at_first n d fs) (none n canonical.0 canonical.1) in
        omega (
          arith,
          here [] canonical.2,
          levels_from_paths (limit - 1) d canonical.3 (one_less limit d canonical.2 here),
          fields_from_paths limit (n + 1) fs canonical.4 (λ k least below. subst (NoneBeyond limit) (after_first k n d fs (omega arith)) (none k (omega (arith, canonical.0)) below)),
        )

-- ---- schemas of documents

pub shallow_stands : (names : List Name) (d : Counted) (docs : List Document) → StandsFor names d docs → All (λ doc. depth doc ≤ max_depth) docs → IsShallow d
shallow_stands names d docs stands all =
    levels_from_paths names stands.distinct max_depth d stands.canonical (λ path more. within (length path) (λ beyond. beyond_none path more beyond))
  where
    within : (n : ℕ) → (max_depth < n → ⊥) → n ≤ max_depth
    within n not = omega arith

    beyond_none : (path : Path) → 0 < total_at names d path → max_depth < length path → ⊥
    beyond_none path more beyond =
        omega (arith, more, total-stands names d docs stands path, none_in_documents docs path beyond (recursion_from_All (λ doc. depth doc ≤ max_depth) docs all))
