-- What stands below an array stands nowhere without the array, and what stands below an object nowhere without it.
use Rattle.std.proofs.Common.{◌≡◌, ℕ, ◌+◌, Bool, true, false, List, [], ◌∷◌, ◌++◌, bytes_eq, if◌then◌else◌, refl, arith}
use Rattle.tc_model.specs.Tree.{leaf, array, object, Items, no_items, item, Members, no_members, member}
use Rattle.tc_model.specs.Document.{Name, Document, ShapeTree, ScalarKind, document_shape}
use Rattle.tc_schema_model.specs.Occurrences.{field, each_item, Path, occurrences, items_occurrences, members_occurrences, count}
use Rattle.tc_model.specs.Kinds.{Kind, arrays, objects}

-- numbers at paths that are 0 below each path without an array, and without an object
pub record Vanishes (f : Path → Kind → ℕ) : Type 0 where
  pub items : (path more : Path) (t : Kind) → f path arrays ≡ 0 → f (path ++ each_item ∷ more) t ≡ 0
  pub members : (path more : Path) (name : Name) (t : Kind) → f path objects ≡ 0 → f (path ++ field name ∷ more) t ≡ 0

-- two numbers, of which the first counts only where the names are one
both : {a b c d : ℕ} (same : Bool) → (a ≡ 0 → b ≡ 0) → (c ≡ 0 → d ≡ 0) → (if same then a else 0) + c ≡ 0 → (if same then b else 0) + d ≡ 0
both true first rest none = omega (arith, first (omega (arith, none)), rest (omega (arith, none)))
both false first rest none = omega (arith, rest (omega (arith, none)))

mutual
  below_arrays : (s : ShapeTree) (path more : Path) (t : Kind) → occurrences s path arrays ≡ 0 → occurrences s (path ++ each_item ∷ more) t ≡ 0
  below_arrays (leaf k) [] more t none = refl
  below_arrays (leaf k) (step ∷ path) more t none = refl
  below_arrays (array xs) [] more t none = absurd (omega (arith, none))
  below_arrays (array xs) (each_item ∷ path) more t none = below_arrays_of_items xs path more t none
  below_arrays (array xs) (field name ∷ path) more t none = refl
  below_arrays (object ms) [] more t none = refl
  below_arrays (object ms) (each_item ∷ path) more t none = refl
  below_arrays (object ms) (field name ∷ path) more t none = below_arrays_of_members ms name path more t none

  below_arrays_of_items : (xs : Items Name ScalarKind) (path more : Path) (t : Kind) → items_occurrences xs path arrays ≡ 0 → items_occurrences xs (path ++ each_item ∷ more) t ≡ 0
  below_arrays_of_items no_items path more t none = refl
  below_arrays_of_items (item s xs) path more t none =
      omega (arith, below_arrays s path more t (omega (arith, none)), below_arrays_of_items xs path more t (omega (arith, none)))

  below_arrays_of_members : (ms : Members Name ScalarKind) (name : Name) (path more : Path) (t : Kind) → members_occurrences ms name path arrays ≡ 0 → members_occurrences ms name (path ++ each_item ∷ more) t ≡ 0
  below_arrays_of_members no_members name path more t none = refl
  below_arrays_of_members (member label s ms) name path more t none =
      both (bytes_eq label name) (λ h. below_arrays s path more t h) (λ h. below_arrays_of_members ms name path more t h) none

mutual
  below_objects : (s : ShapeTree) (path more : Path) (label : Name) (t : Kind) → occurrences s path objects ≡ 0 → occurrences s (path ++ field label ∷ more) t ≡ 0
  below_objects (leaf k) [] more label t none = refl
  below_objects (leaf k) (step ∷ path) more label t none = refl
  below_objects (array xs) [] more label t none = refl
  below_objects (array xs) (each_item ∷ path) more label t none = below_objects_of_items xs path more label t none
  below_objects (array xs) (field name ∷ path) more label t none = refl
  below_objects (object ms) [] more label t none = absurd (omega (arith, none))
  below_objects (object ms) (each_item ∷ path) more label t none = refl
  below_objects (object ms) (field name ∷ path) more label t none = below_objects_of_members ms name path more label t none

  below_objects_of_items : (xs : Items Name ScalarKind) (path more : Path) (label : Name) (t : Kind) → items_occurrences xs path objects ≡ 0 → items_occurrences xs (path ++ field label ∷ more) t ≡ 0
  below_objects_of_items no_items path more label t none = refl
  below_objects_of_items (item s xs) path more label t none =
      omega (arith, below_objects s path more label t (omega (arith, none)), below_objects_of_items xs path more label t (omega (arith, none)))

  below_objects_of_members : (ms : Members Name ScalarKind) (name : Name) (path more : Path) (label : Name) (t : Kind) → members_occurrences ms name path objects ≡ 0 → members_occurrences ms name (path ++ field label ∷ more) t ≡ 0
  below_objects_of_members no_members name path more label t none = refl
  below_objects_of_members (member own s ms) name path more label t none =
      both (bytes_eq own name) (λ h. below_objects s path more label t h) (λ h. below_objects_of_members ms name path more label t h) none

pub items_vanish : (xs : Items Name ScalarKind) → Vanishes (items_occurrences xs)
items_vanish xs = record { items = below_arrays_of_items xs; members = λ path more name t none. below_objects_of_items xs path more name t none }

pub members_vanish : (ms : Members Name ScalarKind) (name : Name) → Vanishes (members_occurrences ms name)
members_vanish ms name = record { items = below_arrays_of_members ms name; members = λ path more label t none. below_objects_of_members ms name path more label t none }

-- in documents together
pub documents_vanish : (docs : List Document) → Vanishes (count docs)
documents_vanish docs = record { items = arrays_of docs; members = λ path more name t none. objects_of docs path more name t none }
  where
    arrays_of : (docs : List Document) (path more : Path) (t : Kind) → count docs path arrays ≡ 0 → count docs (path ++ each_item ∷ more) t ≡ 0
    arrays_of [] path more t none = refl
    arrays_of (d ∷ docs) path more t none =
        omega (arith, below_arrays (document_shape d) path more t (omega (arith, none)), arrays_of docs path more t (omega (arith, none)))

    objects_of : (docs : List Document) (path more : Path) (name : Name) (t : Kind) → count docs path objects ≡ 0 → count docs (path ++ field name ∷ more) t ≡ 0
    objects_of [] path more name t none = refl
    objects_of (d ∷ docs) path more name t none =
        omega (arith, below_objects (document_shape d) path more name t (omega (arith, none)), objects_of docs path more name t (omega (arith, none)))
