-- With a shape more a schema is no deeper than both of them, and with a shape less no deeper than before.
use Rattle.std.proofs.Common.{ℕ, ◌+◌, ◌<◌, ◌≤◌, ◌==◌, max, nat_lt, Bool, true, false, List, if◌then◌else◌, arith}
use Rattle.tc_model.specs.Dictionary.{number}
use Rattle.tc_model.specs.Document.{Name, ShapeTree, ScalarKind, null_kind, boolean_kind, integer_kind, text_kind}
use Rattle.tc_model.specs.Limits.{max_depth}
use Rattle.tc_model.specs.Tree.{leaf, array, object, Items, no_items, item, Members, no_members, member, depth, items_depth, members_depth}
use Rattle.tc_schema_model.specs.Added.{put_field, without_field, kept_item, kept_field, added, items_added, members_added, removed, items_removed, members_removed}
use Rattle.tc_schema_model.specs.Counted.{Counted, counted, Below, no_item, an_item, Fields, no_fields, a_field, nothing, held, field_at, documents_of}
use Rattle.tc_schema_model.specs.Fits.{Fits, ItemsFit, MembersFit}
use Rattle.tc_schema_model.specs.Levels.{levels_of, levels_of_item, levels_of_fields, IsShallow}

-- ---- the places inside

levels-held : (b : Below) → levels_of (held b) ≤ max 1 (levels_of_item b)
levels-held no_item = omega arith
levels-held (an_item d) = omega arith

levels-field_at : (n : ℕ) (fs : Fields) → levels_of (field_at n fs) ≤ max 1 (levels_of_fields fs)
levels-field_at n no_fields = omega arith
levels-field_at n (a_field m d fs) = by_tests (nat_lt n m) (m == n) (levels-field_at n fs)
  where
    by_tests : (before here : Bool) → levels_of (field_at n fs) ≤ max 1 (levels_of_fields fs)
        → levels_of (if before then nothing else (if here then d else field_at n fs)) ≤ max 1 (levels_of_fields (a_field m d fs))
    by_tests true here later = omega arith
    by_tests false true later = omega arith
    by_tests false false later = omega (arith, later)

levels-put_field : (n : ℕ) (d : Counted) (fs : Fields) → levels_of_fields (put_field n d fs) ≤ max (levels_of d) (levels_of_fields fs)
levels-put_field n d no_fields = omega arith
levels-put_field n d (a_field m e fs) = by_tests (nat_lt n m) (m == n) (levels-put_field n d fs)
  where
    by_tests : (before here : Bool) → levels_of_fields (put_field n d fs) ≤ max (levels_of d) (levels_of_fields fs)
        → levels_of_fields (if before then a_field n d (a_field m e fs) else (if here then a_field n d fs else a_field m e (put_field n d fs))) ≤ max (levels_of d) (levels_of_fields (a_field m e fs))
    by_tests true here later = omega arith
    by_tests false true later = omega arith
    by_tests false false later = omega (arith, later)

levels-without_field : (n : ℕ) (fs : Fields) → levels_of_fields (without_field n fs) ≤ levels_of_fields fs
levels-without_field n no_fields = omega arith
levels-without_field n (a_field m e fs) = by_test (m == n) (levels-without_field n fs)
  where
    by_test : (here : Bool) → levels_of_fields (without_field n fs) ≤ levels_of_fields fs → levels_of_fields (if here then fs else a_field m e (without_field n fs)) ≤ levels_of_fields (a_field m e fs)
    by_test true later = omega arith
    by_test false later = omega (arith, later)

-- ---- a shape more

mutual
  levels-added : (names : List Name) (s : ShapeTree) (d : Counted) → levels_of (added names s d) ≤ max (levels_of d) (1 + depth s)
  levels-added names (leaf k) (counted c b fs) = omega arith
  levels-added names (array xs) (counted c b fs) = omega (arith, levels-items_added names xs b)
  levels-added names (object ms) (counted c b fs) = omega (arith, levels-members_added names ms fs)

  levels-items_added : (names : List Name) (xs : Items Name ScalarKind) (b : Below) → levels_of_item (items_added names xs b) ≤ max (levels_of_item b) (1 + items_depth xs)
  levels-items_added names no_items b = omega arith
  levels-items_added names (item s xs) b = omega (arith, levels-items_added names xs (an_item (added names s (held b))), levels-added names s (held b), levels-held b)

  levels-members_added : (names : List Name) (ms : Members Name ScalarKind) (fs : Fields) → levels_of_fields (members_added names ms fs) ≤ max (levels_of_fields fs) (1 + members_depth ms)
  levels-members_added names no_members fs = omega arith
  levels-members_added names (member name s ms) fs =
      let n = number names name in
      let d = added names s (field_at n fs) in
      omega (arith, levels-members_added names ms (put_field n d fs), levels-put_field n d fs, levels-added names s (field_at n fs), levels-field_at n fs)

pub shallow-added : (names : List Name) (s : ShapeTree) (d : Counted) → depth s ≤ max_depth → IsShallow d → IsShallow (added names s d)
shallow-added names s d deep shallow = omega (arith, levels-added names s d, deep, shallow)

-- ---- a shape less

-- a place that fits a shape counts something
fits-some : (names : List Name) (s : ShapeTree) (d : Counted) → Fits names s d → 0 < documents_of d
fits-some names (leaf null_kind) (counted c b fs) fits = omega (arith, fits)
fits-some names (leaf boolean_kind) (counted c b fs) fits = omega (arith, fits)
fits-some names (leaf integer_kind) (counted c b fs) fits = omega (arith, fits)
fits-some names (leaf text_kind) (counted c b fs) fits = omega (arith, fits)
fits-some names (array xs) (counted c b fs) fits = omega (arith, fits.0)
fits-some names (object ms) (counted c b fs) fits = omega (arith, fits.0)

-- and so it stands there
held-there : (b : Below) → 0 < documents_of (held b) → levels_of (held b) ≤ levels_of_item b
held-there no_item some = absurd (omega (arith, some))
held-there (an_item d) some = omega arith

field-there : (n : ℕ) (fs : Fields) → 0 < documents_of (field_at n fs) → levels_of (field_at n fs) ≤ levels_of_fields fs
field-there n no_fields some = absurd (omega (arith, some))
field-there n (a_field m d fs) some = by_tests (nat_lt n m) (m == n) (field-there n fs) some
  where
    by_tests : (before here : Bool) → (0 < documents_of (field_at n fs) → levels_of (field_at n fs) ≤ levels_of_fields fs) → let e : Counted = if before then nothing else (if here then d else field_at n fs) in 0 < documents_of e
        → levels_of e ≤ levels_of_fields (a_field m d fs)
    by_tests true here later some = absurd (omega (arith, some))
    by_tests false true later some = omega arith
    by_tests false false later some = omega (arith, later some)

levels-kept_item : (d : Counted) → levels_of_item (kept_item d) ≤ levels_of d
levels-kept_item d = by_test (documents_of d == 0)
  where
    by_test : (none : Bool) → levels_of_item (if none then no_item else an_item d) ≤ levels_of d
    by_test true = omega arith
    by_test false = omega arith

levels-kept_field : (n : ℕ) (d : Counted) (fs : Fields) → levels_of_fields (kept_field n d fs) ≤ max (levels_of d) (levels_of_fields fs)
levels-kept_field n d fs = by_test (documents_of d == 0)
  where
    by_test : (none : Bool) → levels_of_fields (if none then without_field n fs else put_field n d fs) ≤ max (levels_of d) (levels_of_fields fs)
    by_test true = omega (arith, levels-without_field n fs)
    by_test false = levels-put_field n d fs

mutual
  pub levels-removed : (names : List Name) (s : ShapeTree) (d : Counted) → Fits names s d → levels_of (removed names s d) ≤ levels_of d
  levels-removed names (leaf k) (counted c b fs) fits = omega arith
  levels-removed names (array xs) (counted c b fs) fits = omega (arith, levels-items_removed names xs b fits.1)
  levels-removed names (object ms) (counted c b fs) fits = omega (arith, levels-members_removed names ms fs fits.1)

  levels-items_removed : (names : List Name) (xs : Items Name ScalarKind) (b : Below) → ItemsFit names xs b → levels_of_item (items_removed names xs b) ≤ levels_of_item b
  levels-items_removed names no_items b fits = omega arith
  levels-items_removed names (item s xs) b fits =
      let left = removed names s (held b) in
      omega (arith, levels-items_removed names xs (kept_item left) fits.1, levels-kept_item left, levels-removed names s (held b) fits.0, held-there b (fits-some names s (held b) fits.0))

  levels-members_removed : (names : List Name) (ms : Members Name ScalarKind) (fs : Fields) → MembersFit names ms fs → levels_of_fields (members_removed names ms fs) ≤ levels_of_fields fs
  levels-members_removed names no_members fs fits = omega arith
  levels-members_removed names (member name s ms) fs fits =
      let n = number names name in
      let left = removed names s (field_at n fs) in
      omega (
        arith,
        levels-members_removed names ms (kept_field n left fs) fits.2,
        levels-kept_field n left fs,
        levels-removed names s (field_at n fs) fits.1,
        field-there n fs (fits-some names s (field_at n fs) fits.1),
      )
