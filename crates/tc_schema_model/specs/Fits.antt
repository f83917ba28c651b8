-- When a shape can be taken off what is counted: no counter is too small for it, and where it takes the last array (the
-- last object) nothing is left of the items (of the members).
use Rattle.std.specs.Prelude.{◌≡◌, ℕ, ◌≤◌, ◌-◌, ◌++◌, ◌∷◌, ◌&&◌, ◌||◌, Bool, true, false, nat_lt, List, length, is_some, IsTrue}
use Rattle.tc_model.specs.Tree.{leaf, array, object, Items, no_items, item, Members, no_members, member}
use Rattle.tc_model.specs.Document.{Name, ShapeTree, ScalarKind}
use Rattle.tc_model.specs.Dictionary.{number_of, number}
use Rattle.tc_schema_model.specs.Occurrences.{field, each_item, Path, occurrences}
use Rattle.tc_model.specs.Kinds.{Kind, scalar, arrays, objects}
use Rattle.tc_schema_model.specs.Counted.{Counted, counted, counter, Below, no_item, an_item, Fields, no_fields, a_field, held, field_at, shows, IsCanonical}
use Rattle.tc_schema_model.specs.Added.{removed, items_removed, members_removed, kept_item, kept_field}

-- place by place, each value after those before it were taken off
abbrev mutual
  pub Fits : List Name → ShapeTree → Counted → Type 0
  Fits names (leaf k) (counted c b fs) = 1 ≤ counter c (scalar k)
  Fits names (array xs) (counted c b fs) = (1 ≤ c.arrays) × ItemsFit names xs b × (c.arrays ≡ 1 → items_removed names xs b ≡ no_item)
  Fits names (object ms) (counted c b fs) = (1 ≤ c.objects) × MembersFit names ms fs × (c.objects ≡ 1 → members_removed names ms fs ≡ no_fields)

  pub ItemsFit : List Name → Items Name ScalarKind → Below → Type 0
  ItemsFit names no_items b = Unit {0}
  ItemsFit names (item s xs) b = Fits names s (held b) × ItemsFit names xs (kept_item (removed names s (held b)))

  pub MembersFit : List Name → Members Name ScalarKind → Fields → Type 0
  MembersFit names no_members fs = Unit {0}
  MembersFit names (member name s ms) fs =
      IsTrue (is_some (number_of names name)) × Fits names s (field_at (number names name) fs) × MembersFit names ms (kept_field (number names name) (removed names s (field_at (number names name) fs)) fs)

-- the same as a test
abbrev pub is_no_item : Below → Bool
is_no_item no_item = true
is_no_item (an_item d) = false

abbrev pub is_no_fields : Fields → Bool
is_no_fields no_fields = true
is_no_fields (a_field n d fs) = false

abbrev mutual
  pub is_fit : List Name → ShapeTree → Counted → Bool
  is_fit names (leaf k) (counted c b fs) = nat_lt 0 (counter c (scalar k))
  is_fit names (array xs) (counted c b fs) = nat_lt 0 c.arrays && (are_items_fit names xs b && (nat_lt 1 c.arrays || is_no_item (items_removed names xs b)))
  is_fit names (object ms) (counted c b fs) = nat_lt 0 c.objects && (are_members_fit names ms fs && (nat_lt 1 c.objects || is_no_fields (members_removed names ms fs)))

  pub are_items_fit : List Name → Items Name ScalarKind → Below → Bool
  are_items_fit names no_items b = true
  are_items_fit names (item s xs) b = is_fit names s (held b) && are_items_fit names xs (kept_item (removed names s (held b)))

  pub are_members_fit : List Name → Members Name ScalarKind → Fields → Bool
  are_members_fit names no_members fs = true
  are_members_fit names (member name s ms) fs = (is_some (number_of names name) && is_fit names s (field_at (number names name) fs)) && are_members_fit names ms (kept_field (number names name) (removed names s (field_at (number names name) fs)) fs)

-- what is left of a counter
abbrev pub remainder : List Name → Counted → ShapeTree → Path → Kind → ℕ
remainder names d s path t = shows names d path t - occurrences s path t

-- the same by paths
pub record FitsByPath (names : List Name) (d : Counted) (s : ShapeTree) : Type 0 where
  pub canonical : IsCanonical (length names) d
  pub covers : (path : Path) (t : Kind) → occurrences s path t ≤ shows names d path t
  pub items : (path more : Path) (t : Kind) → remainder names d s path arrays ≡ 0 → remainder names d s (path ++ each_item ∷ more) t ≡ 0
  pub members : (path more : Path) (name : Name) (t : Kind) → remainder names d s path objects ≡ 0 → remainder names d s (path ++ field name ∷ more) t ≡ 0
