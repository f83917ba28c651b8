-- A schema that fits a shape by paths fits it place by place, and a schema of documents fits the shape of each of them.
use Rattle.std.proofs.Common.{◌≡◌, ℕ, ◌+◌, ◌-◌, ◌≤◌, true, List, [], ◌∷◌, ◌++◌, Option, Some, None, length, is_some, IsTrue, bytes_eq, if◌then◌else◌, refl, sym, ap, ◌∙◌, subst, arith}
use Rattle.std.specs.List.{IsDistinct}
use Rattle.std.proofs.lemmas.Slice.Eq.{bytes_eq-Decides}
use Rattle.tc_model.specs.Tree.{leaf, array, object, Items, no_items, item, Members, no_members, member}
use Rattle.tc_model.specs.Document.{Name, Document, ShapeTree, ScalarKind, null_kind, boolean_kind, integer_kind, text_kind, document_shape}
use Rattle.tc_model.specs.Dictionary.{number_of, number}
use Rattle.tc_schema_model.specs.Occurrences.{field, each_item, Path, occurrences, items_occurrences, members_occurrences, count}
use Rattle.tc_model.specs.Kinds.{Kind, scalar, arrays, objects, kind_of}
use Rattle.tc_schema_model.specs.Counted.{Counted, counted, Below, no_item, an_item, Fields, no_fields, a_field, counter, held, field_at, numbered_field, shows, IsCanonical, IsBelowCanonical, AreFieldsCanonical}
use Rattle.tc_schema_model.specs.Added.{removed, items_removed, members_removed, kept_item, kept_field}
use Rattle.tc_schema_model.specs.SchemaText.{name_at}
use Rattle.tc_schema_model.specs.Stands.{StandsFor}
use Rattle.tc_schema_model.specs.Fits.{Fits, ItemsFit, MembersFit, FitsByPath}
use Rattle.tc_schema_model.proofs.AddedLaws.{field_canonical}
use Rattle.tc_schema_model.proofs.CountingLaws.{shows_nothing, at_first}
use Rattle.tc_schema_model.proofs.FieldLaws.{held_canonical}
use Rattle.tc_model.proofs.NameNumbers.{numbered}
use Rattle.tc_schema_model.proofs.NumberLaws.{number_of_name_at}
use Rattle.tc_schema_model.proofs.RemovedLaws.{shows-removed, shows-items_removed, shows-members_removed, canonical-items_removed, canonical-members_removed}
use Rattle.tc_schema_model.proofs.Vanishing.{Vanishes, items_vanish, members_vanish, documents_vanish}

-- numbers that can be taken off others: none is too large, and where the last array goes nothing is left of the items,
-- and where the last object goes nothing of the members
record Covers (from taken : Path → Kind → ℕ) : Type 0 where
  enough : (path : Path) (t : Kind) → taken path t ≤ from path t
  items : (path more : Path) (t : Kind) → from path arrays - taken path arrays ≡ 0 → from (path ++ each_item ∷ more) t - taken (path ++ each_item ∷ more) t ≡ 0
  members : (path more : Path) (name : Name) (t : Kind) → from path objects - taken path objects ≡ 0 → from (path ++ field name ∷ more) t - taken (path ++ field name ∷ more) t ≡ 0

-- a first part can be taken off, and then the rest off what is left
covers_first : (from all first rest : Path → Kind → ℕ) → ((path : Path) (t : Kind) → all path t ≡ first path t + rest path t) → Vanishes rest → Covers from all → Covers from first
covers_first from all first rest parts vanish covers = record {
  enough = λ path t. omega (arith, covers.enough path t, parts path t);
  items = λ path more t none.
      omega (
        arith,
        covers.enough path arrays,
        parts path arrays,
        covers.enough (path ++ each_item ∷ more) t,
        parts (path ++ each_item ∷ more) t,
        none,
        covers.items path more t (omega (arith, covers.enough path arrays, parts path arrays, none)),
        vanish.items path more t (omega (arith, covers.enough path arrays, parts path arrays, none)),
      );
  members = λ path more name t none.
      omega (
        arith,
        covers.enough path objects,
        parts path objects,
        covers.enough (path ++ field name ∷ more) t,
        parts (path ++ field name ∷ more) t,
        none,
        covers.members path more name t (omega (arith, covers.enough path objects, parts path objects, none)),
        vanish.members path more name t (omega (arith, covers.enough path objects, parts path objects, none)),
      );
}

covers_rest : (from all first rest left : Path → Kind → ℕ) → ((path : Path) (t : Kind) → all path t ≡ first path t + rest path t) → ((path : Path) (t : Kind) → left path t + first path t ≡ from path t) → Covers from all → Covers left rest
covers_rest from all first rest left parts taken covers = record {
  enough = λ path t. omega (arith, covers.enough path t, parts path t, taken path t);
  items = λ path more t none.
      omega (
        arith,
        parts (path ++ each_item ∷ more) t,
        taken (path ++ each_item ∷ more) t,
        covers.enough (path ++ each_item ∷ more) t,
        covers.items path more t (omega (arith, covers.enough path arrays, parts path arrays, taken path arrays, none)),
      );
  members = λ path more name t none.
      omega (
        arith,
        parts (path ++ field name ∷ more) t,
        taken (path ++ field name ∷ more) t,
        covers.enough (path ++ field name ∷ more) t,
        covers.members path more name t (omega (arith, covers.enough path objects, parts path objects, taken path objects, none)),
      );
}

-- ---- what shows nothing is nothing

pub no_item_left : (names : List Name) (b : Below) → IsBelowCanonical (length names) b → ((path : Path) (t : Kind) → shows names (held b) path t ≡ 0) → b ≡ no_item
no_item_left names no_item canonical none = refl
no_item_left names (an_item (counted c b fs)) canonical none =
    absurd (omega (arith, canonical.0, none [] (scalar null_kind), none [] (scalar boolean_kind), none [] (scalar integer_kind), none [] (scalar text_kind), none [] arrays, none [] objects))

pub no_fields_left : (names : List Name) (fs : Fields) → IsDistinct bytes_eq names → AreFieldsCanonical (length names) 0 fs → ((name : Name) (path : Path) (t : Kind) → shows names (numbered_field (number_of names name) fs) path t ≡ 0) → fs ≡ no_fields
no_fields_left names no_fields distinct canonical none = refl
no_fields_left names (a_field n (counted c b gs) fs) distinct canonical none =
    let first : (t : Kind) → counter c t ≡ 0 = λ t.
    ap (λ d. shows names d [] t) (sym (at_first n (counted c b gs) fs))
    ∙ ap (λ o. shows names (numbered_field o (a_field n (counted c b gs) fs)) [] t) (sym (number_of_name_at names n distinct canonical.1))
    ∙ none (name_at names n) [] t in
    absurd (omega (arith, canonical.2, first (scalar null_kind), first (scalar boolean_kind), first (scalar integer_kind), first (scalar text_kind), first arrays, first objects))

-- ---- place by place

scalar_here : (k : ScalarKind) → occurrences (leaf k) [] (scalar k) ≡ 1
scalar_here null_kind = refl
scalar_here boolean_kind = refl
scalar_here integer_kind = refl
scalar_here text_kind = refl

pub kind_here : (s : ShapeTree) → occurrences s [] (kind_of s) ≡ 1
kind_here (leaf k) = scalar_here k
kind_here (array xs) = refl
kind_here (object ms) = refl

same_name : (name : Name) → bytes_eq name name ≡ true
same_name name = (bytes_eq-Decides name name).1 refl

-- of a member and those behind it, the values at the member's name
pub at_label : (label : Name) (s : ShapeTree) (ms : Members Name ScalarKind) (path : Path) (t : Kind) → members_occurrences (member label s ms) label path t ≡ occurrences s path t + members_occurrences ms label path t
at_label label s ms path t = ap (λ same. (if same then occurrences s path t else 0) + members_occurrences ms label path t) (same_name label)

-- a member whose values are there has a number
has_number : (names : List Name) (label : Name) (s : ShapeTree) (ms : Members Name ScalarKind) (fs : Fields)
    → ((name : Name) → Covers (shows names (numbered_field (number_of names name) fs)) (members_occurrences (member label s ms) name)) → IsTrue (is_some (number_of names label))
has_number names label s ms fs covers = cases (number_of names label) refl
  where
    cases : (o : Option ℕ) → number_of names label ≡ o → IsTrue (is_some o)
    cases (Some n) is = refl
    cases None is =
        let none : shows names (numbered_field (number_of names label) fs) [] (kind_of s) ≡ 0 = ap (λ o. shows names (numbered_field o fs) [] (kind_of s)) is ∙ shows_nothing names [] (kind_of s) in
        absurd (omega (arith, none, (covers label).enough [] (kind_of s), at_label label s ms [] (kind_of s), kind_here s))

module _ (names : List Name) (distinct : IsDistinct bytes_eq names) where
  mutual
    fits_place : (s : ShapeTree) (d : Counted) → IsCanonical (length names) d → Covers (shows names d) (occurrences s) → Fits names s d
    fits_place (leaf k) (counted c b fs) canonical covers = omega (arith, covers.enough [] (scalar k), scalar_here k)
    fits_place (array xs) (counted c b fs) canonical covers =
        let below : Covers (shows names (held b)) (items_occurrences xs) = record {
          enough = λ path t. covers.enough (each_item ∷ path) t;
          items = λ path more t none. covers.items (each_item ∷ path) more t none;
          members = λ path more name t none. covers.members (each_item ∷ path) more name t none;
        } in
        let fit : ItemsFit names xs b = items_fit xs b canonical.2 below in
        let left : IsBelowCanonical (length names) (items_removed names xs b) = canonical-items_removed names xs b fit canonical.2 in (
          covers.enough [] arrays,
          fit,
          λ last. no_item_left names (items_removed names xs b) left (λ path t.
              omega (arith, below.enough path t, covers.items [] path t (omega (arith, last)), shows-items_removed names xs b fit canonical.2 path t)),
        )
    fits_place (object ms) (counted c b fs) canonical covers =
        let below : (name : Name) → Covers (shows names (numbered_field (number_of names name) fs)) (members_occurrences ms name) = λ name. record {
          enough = λ path t. covers.enough (field name ∷ path) t;
          items = λ path more t none. covers.items (field name ∷ path) more t none;
          members = λ path more other t none. covers.members (field name ∷ path) more other t none;
        } in
        let fit : MembersFit names ms fs = members_fit ms fs canonical.3 below in
        let left : AreFieldsCanonical (length names) 0 (members_removed names ms fs) = canonical-members_removed names ms fs fit canonical.3 in (
          covers.enough [] objects,
          fit,
          λ last. no_fields_left names (members_removed names ms fs) distinct left (λ name path t.
              omega (arith, (below name).enough path t, covers.members [] path name t (omega (arith, last)), shows-members_removed names ms fs fit canonical.3 name path t)),
        )

    items_fit : (xs : Items Name ScalarKind) (b : Below) → IsBelowCanonical (length names) b → Covers (shows names (held b)) (items_occurrences xs) → ItemsFit names xs b
    items_fit no_items b canonical covers = tt
    items_fit (item s xs) b canonical covers =
        let first : Covers (shows names (held b)) (occurrences s) =
        covers_first (shows names (held b)) (items_occurrences (item s xs)) (occurrences s) (items_occurrences xs) (λ path t. refl) (items_vanish xs) covers in
        let fit : Fits names s (held b) = fits_place s (held b) (held_canonical (length names) b canonical) first in
        let left = kept_item (removed names s (held b)) in (
          fit,
          items_fit xs left (canonical-items_removed names (item s no_items) b (fit, tt) canonical)
              (covers_rest (shows names (held b)) (items_occurrences (item s xs)) (occurrences s) (items_occurrences xs) (shows names (held left)) (λ path t. refl)
              (λ path t. omega (arith, shows-items_removed names (item s no_items) b (fit, tt) canonical path t)) covers),
        )

    members_fit : (ms : Members Name ScalarKind) (fs : Fields) → AreFieldsCanonical (length names) 0 fs → ((name : Name) → Covers (shows names (numbered_field (number_of names name) fs)) (members_occurrences ms name)) → MembersFit names ms fs
    members_fit no_members fs canonical covers = tt
    members_fit (member label s ms) fs canonical covers =
        let known : IsTrue (is_some (number_of names label)) = has_number names label s ms fs covers in
        let n = number names label in
        let first : Covers (shows names (field_at n fs)) (occurrences s) =
        subst (λ o. Covers (shows names (numbered_field o fs)) (occurrences s)) (numbered names label known)
        (covers_first (shows names (numbered_field (number_of names label) fs)) (members_occurrences (member label s ms) label) (occurrences s) (members_occurrences ms label) (at_label label s ms) (members_vanish ms label) (covers label)) in
        let fit : Fits names s (field_at n fs) = fits_place s (field_at n fs) (field_canonical (length names) 0 n fs canonical) first in
        let left = kept_field n (removed names s (field_at n fs)) fs in
        let one : MembersFit names (member label s no_members) fs = (known, fit, tt) in (
          known,
          fit,
          members_fit ms left (canonical-members_removed names (member label s no_members) fs one canonical) (λ name.
              covers_rest (shows names (numbered_field (number_of names name) fs)) (members_occurrences (member label s ms) name) (members_occurrences (member label s no_members) name) (members_occurrences ms name)
              (shows names (numbered_field (number_of names name) left)) (λ path t. omega arith) (λ path t. shows-members_removed names (member label s no_members) fs one canonical name path t) (covers name)),
        )

  pub fits_by_place : (d : Counted) (s : ShapeTree) → FitsByPath names d s → Fits names s d
  fits_by_place d s fits = fits_place s d fits.canonical record { enough = fits.covers; items = fits.items; members = fits.members }

-- ---- documents

-- the values of a document, and those of the others
count_among : (before after : List Document) (doc : Document) (path : Path) (t : Kind) → count (before ++ doc ∷ after) path t ≡ occurrences (document_shape doc) path t + count (before ++ after) path t
count_among [] after doc path t = refl
count_among (d ∷ before) after doc path t = omega (arith, count_among before after doc path t)

pub document_fits : (names : List Name) (d : Counted) (before after : List Document) (doc : Document) → StandsFor names d (before ++ doc ∷ after) → FitsByPath names d (document_shape doc)
document_fits names d before after doc stands =
    let others = documents_vanish (before ++ after) in
    let parts : (path : Path) (t : Kind) → shows names d path t ≡ occurrences (document_shape doc) path t + count (before ++ after) path t = λ path t. stands.counts path t ∙ count_among before after doc path t in
    record {
      canonical = stands.canonical;
      covers = λ path t. omega (arith, parts path t);
      items = λ path more t none. omega (arith, parts (path ++ each_item ∷ more) t, others.items path more t (omega (arith, parts path arrays, none)));
      members = λ path more name t none. omega (arith, parts (path ++ field name ∷ more) t, others.members path more name t (omega (arith, parts path objects, none)));
    }

-- and it stands for the others once the document's shape is taken off
pub others_stand : (names : List Name) (d : Counted) (before after : List Document) (doc : Document) (s : ShapeTree) → document_shape doc ≡ s → IsCanonical (length names) (removed names s d) → Fits names s d → StandsFor names d (before ++ doc ∷ after)
    → StandsFor names (removed names s d) (before ++ after)
others_stand names d before after doc s is canonical fits stands = record {
  canonical = canonical;
  distinct = stands.distinct;
  counts = λ path t.
      omega (arith, shows-removed names s d fits stands.canonical path t, stands.counts path t, count_among before after doc path t, ap (λ shape. occurrences shape path t) is);
}
