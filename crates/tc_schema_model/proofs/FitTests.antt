-- The test of whether a shape can be taken off says what it is to say, by places and by paths.
use Rattle.std.proofs.Common.{◌≡◌, ◌⊎◌, ◌||◌, ℕ, ◌+◌, ◌<◌, ◌≤◌, true, nat_lt, List, [], ◌∷◌, ◌++◌, Option, Some, None, length, bytes_eq, refl, ap, ◌∙◌, inl, inr, arith}
use Rattle.std.specs.List.{IsDistinct}
use Rattle.std.proofs.lemmas.Bool.{and_parts, and_from, or_cases, or_left, or_right, ltb-true, lt-ltb, cases_lt, false≢true}
use Rattle.tc_model.specs.Tree.{leaf, array, object, Items, no_items, item, Members, no_members, member}
use Rattle.tc_model.specs.Document.{Name, ShapeTree, ScalarKind}
use Rattle.tc_model.specs.Dictionary.{number_of, number}
use Rattle.tc_model.specs.Kinds.{Kind, scalar, arrays, objects}
use Rattle.tc_schema_model.specs.Occurrences.{field, each_item, Path, occurrences}
use Rattle.tc_schema_model.specs.Counted.{Counted, counted, counter, Below, no_item, an_item, Fields, no_fields, a_field, held, field_at, numbered_field, shows, IsCanonical}
use Rattle.tc_schema_model.specs.Added.{removed, items_removed, members_removed, kept_item, kept_field}
use Rattle.tc_schema_model.specs.Fits.{Fits, ItemsFit, MembersFit, FitsByPath, is_no_item, is_no_fields, is_fit, are_items_fit, are_members_fit}
use Rattle.tc_schema_model.proofs.CountingLaws.{shows_nothing}
use Rattle.tc_schema_model.proofs.FieldLaws.{held_canonical}
use Rattle.tc_schema_model.proofs.FitLaws.{fits_by_place}
use Rattle.tc_schema_model.proofs.MoreNames.{numbered_canonical}
use Rattle.tc_schema_model.proofs.RemovedLaws.{shows-removed, canonical-removed}

no_item_is : (b : Below) → is_no_item b ≡ true → b ≡ no_item
no_item_is no_item is = refl
no_item_is (an_item d) is = absurd (false≢true is)

no_fields_is : (fs : Fields) → is_no_fields fs ≡ true → fs ≡ no_fields
no_fields_is no_fields is = refl
no_fields_is (a_field n d fs) is = absurd (false≢true is)

-- ---- place by place

last_items : (n : ℕ) (b : Below) → (nat_lt 1 n || is_no_item b) ≡ true → n ≡ 1 → b ≡ no_item
last_items n b test one = by_case (or_cases (nat_lt 1 n) (is_no_item b) test)
  where
    by_case : (nat_lt 1 n ≡ true) ⊎ (is_no_item b ≡ true) → b ≡ no_item
    by_case (inl more) = absurd (omega (arith, one, ltb-true 1 n more))
    by_case (inr none) = no_item_is b none

last_fields : (n : ℕ) (fs : Fields) → (nat_lt 1 n || is_no_fields fs) ≡ true → n ≡ 1 → fs ≡ no_fields
last_fields n fs test one = by_case (or_cases (nat_lt 1 n) (is_no_fields fs) test)
  where
    by_case : (nat_lt 1 n ≡ true) ⊎ (is_no_fields fs ≡ true) → fs ≡ no_fields
    by_case (inl more) = absurd (omega (arith, one, ltb-true 1 n more))
    by_case (inr none) = no_fields_is fs none

items_test : (n : ℕ) (b : Below) → 1 ≤ n → (n ≡ 1 → b ≡ no_item) → (nat_lt 1 n || is_no_item b) ≡ true
items_test n b some last = by_case (cases_lt 1 n)
  where
    by_case : (1 < n) ⊎ (n ≤ 1) → (nat_lt 1 n || is_no_item b) ≡ true
    by_case (inl more) = or_left _ _ (lt-ltb 1 n more)
    by_case (inr least) = or_right _ _ (ap is_no_item (last (omega (arith, some, least))))

fields_test : (n : ℕ) (fs : Fields) → 1 ≤ n → (n ≡ 1 → fs ≡ no_fields) → (nat_lt 1 n || is_no_fields fs) ≡ true
fields_test n fs some last = by_case (cases_lt 1 n)
  where
    by_case : (1 < n) ⊎ (n ≤ 1) → (nat_lt 1 n || is_no_fields fs) ≡ true
    by_case (inl more) = or_left _ _ (lt-ltb 1 n more)
    by_case (inr least) = or_right _ _ (ap is_no_fields (last (omega (arith, some, least))))

mutual
  pub fits_tested : (names : List Name) (s : ShapeTree) (d : Counted) → is_fit names s d ≡ true → Fits names s d
  fits_tested names (leaf k) (counted c b fs) test = omega (arith, ltb-true 0 (counter c (scalar k)) test)
  fits_tested names (array xs) (counted c b fs) test =
      let parts = and_parts _ _ test in
      let inner = and_parts _ _ parts.1 in
      (omega (arith, ltb-true 0 c.arrays parts.0), items_tested names xs b inner.0, last_items c.arrays (items_removed names xs b) inner.1)
  fits_tested names (object ms) (counted c b fs) test =
      let parts = and_parts _ _ test in
      let inner = and_parts _ _ parts.1 in
      (omega (arith, ltb-true 0 c.objects parts.0), members_tested names ms fs inner.0, last_fields c.objects (members_removed names ms fs) inner.1)

  pub items_tested : (names : List Name) (xs : Items Name ScalarKind) (b : Below) → are_items_fit names xs b ≡ true → ItemsFit names xs b
  items_tested names no_items b test = tt
  items_tested names (item s xs) b test =
      let parts = and_parts _ _ test in (fits_tested names s (held b) parts.0, items_tested names xs (kept_item (removed names s (held b))) parts.1)

  pub members_tested : (names : List Name) (ms : Members Name ScalarKind) (fs : Fields) → are_members_fit names ms fs ≡ true → MembersFit names ms fs
  members_tested names no_members fs test = tt
  members_tested names (member name s ms) fs test =
      let parts = and_parts _ _ test in
      let here = and_parts _ _ parts.0 in
      (here.0, fits_tested names s (field_at (number names name) fs) here.1, members_tested names ms (kept_field (number names name) (removed names s (field_at (number names name) fs)) fs) parts.1)

mutual
  tested_fits : (names : List Name) (s : ShapeTree) (d : Counted) → Fits names s d → is_fit names s d ≡ true
  tested_fits names (leaf k) (counted c b fs) fits = lt-ltb 0 (counter c (scalar k)) (omega (arith, fits))
  tested_fits names (array xs) (counted c b fs) fits =
      and_from _ _ (lt-ltb 0 c.arrays (omega (arith, fits.0))) (and_from _ _ (tested_items names xs b fits.1) (items_test c.arrays (items_removed names xs b) fits.0 fits.2))
  tested_fits names (object ms) (counted c b fs) fits =
      and_from _ _ (lt-ltb 0 c.objects (omega (arith, fits.0))) (and_from _ _ (tested_members names ms fs fits.1) (fields_test c.objects (members_removed names ms fs) fits.0 fits.2))

  tested_items : (names : List Name) (xs : Items Name ScalarKind) (b : Below) → ItemsFit names xs b → are_items_fit names xs b ≡ true
  tested_items names no_items b fits = refl
  tested_items names (item s xs) b fits = and_from _ _ (tested_fits names s (held b) fits.0) (tested_items names xs (kept_item (removed names s (held b))) fits.1)

  tested_members : (names : List Name) (ms : Members Name ScalarKind) (fs : Fields) → MembersFit names ms fs → are_members_fit names ms fs ≡ true
  tested_members names no_members fs fits = refl
  tested_members names (member name s ms) fs fits =
      and_from _ _ (and_from _ _ fits.0 (tested_fits names s (field_at (number names name) fs) fits.1)) (tested_members names ms (kept_field (number names name) (removed names s (field_at (number names name) fs)) fs) fits.2)

-- ---- by paths

-- where the one form shows no array nothing is shown of items, and where it shows no object nothing of members
no_items_shown : (limit : ℕ) (names : List Name) (d : Counted) → IsCanonical limit d → (path more : Path) (t : Kind) → shows names d path arrays ≡ 0 → shows names d (path ++ each_item ∷ more) t ≡ 0
no_items_shown limit names (counted c b fs) canonical [] more t none = ap (λ b. shows names (held b) more t) (canonical.0 none) ∙ shows_nothing names more t
no_items_shown limit names (counted c b fs) canonical (each_item ∷ path) more t none = no_items_shown limit names (held b) (held_canonical limit b canonical.2) path more t none
no_items_shown limit names (counted c b fs) canonical (field name ∷ path) more t none =
    no_items_shown limit names (numbered_field (number_of names name) fs) (numbered_canonical limit (number_of names name) fs canonical.3) path more t none

no_members_shown : (limit : ℕ) (names : List Name) (d : Counted) → IsCanonical limit d → (path more : Path) (label : Name) (t : Kind) → shows names d path objects ≡ 0 → shows names d (path ++ field label ∷ more) t ≡ 0
no_members_shown limit names (counted c b fs) canonical [] more label t none =
    ap (λ gs. shows names (numbered_field (number_of names label) gs) more t) (canonical.1 none) ∙ nothing_numbered (number_of names label)
  where
    nothing_numbered : (o : Option ℕ) → shows names (numbered_field o no_fields) more t ≡ 0
    nothing_numbered None = shows_nothing names more t
    nothing_numbered (Some n) = shows_nothing names more t
no_members_shown limit names (counted c b fs) canonical (each_item ∷ path) more label t none = no_members_shown limit names (held b) (held_canonical limit b canonical.2) path more label t none
no_members_shown limit names (counted c b fs) canonical (field name ∷ path) more label t none =
    no_members_shown limit names (numbered_field (number_of names name) fs) (numbered_canonical limit (number_of names name) fs canonical.3) path more label t none

by_path_from_place : (names : List Name) (d : Counted) (s : ShapeTree) → IsCanonical (length names) d → Fits names s d → FitsByPath names d s
by_path_from_place names d s canonical fits =
    let left : (path : Path) (t : Kind) → shows names (removed names s d) path t + occurrences s path t ≡ shows names d path t = λ path t. shows-removed names s d fits canonical path t in
    let kept : IsCanonical (length names) (removed names s d) = canonical-removed names s d fits canonical in
    record {
      canonical = canonical;
      covers = λ path t. omega (arith, left path t);
      items = λ path more t none. omega (arith, left (path ++ each_item ∷ more) t, no_items_shown (length names) names (removed names s d) kept path more t (omega (arith, none, left path arrays)));
      members = λ path more name t none. omega (arith, left (path ++ field name ∷ more) t, no_members_shown (length names) names (removed names s d) kept path more name t (omega (arith, none, left path objects)));
    }

-- the test holds exactly where the shape fits by paths
pub test_by_path : (names : List Name) (d : Counted) (s : ShapeTree) → IsCanonical (length names) d → is_fit names s d ≡ true → FitsByPath names d s
test_by_path names d s canonical test = by_path_from_place names d s canonical (fits_tested names s d test)

pub path_by_test : (names : List Name) → IsDistinct bytes_eq names → (d : Counted) (s : ShapeTree) → FitsByPath names d s → is_fit names s d ≡ true
path_by_test names distinct d s fits = tested_fits names s d (fits_by_place names distinct d s fits)
