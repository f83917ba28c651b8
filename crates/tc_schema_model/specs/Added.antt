-- One shape more, or less, in what is counted. Where a place counts nothing any more it leaves.
use Rattle.std.specs.Prelude.{ℕ, ◌+◌, ◌-◌, ◌==◌, nat_lt, List, is_some, IsTrue, if◌then◌else◌}
use Rattle.tc_model.specs.Tree.{leaf, array, object, Items, no_items, item, Members, no_members, member}
use Rattle.tc_model.specs.Document.{Name, ShapeTree, ScalarKind, null_kind, boolean_kind, integer_kind, text_kind}
use Rattle.tc_model.specs.Dictionary.{number_of, number}
use Rattle.tc_model.specs.Kinds.{Kind, scalar, arrays, objects}
use Rattle.tc_schema_model.specs.Counted.{Counters, Counted, counted, Below, no_item, an_item, Fields, no_fields, a_field, held, field_at, documents_of}

-- so many more of a kind, and so many less
abbrev pub raised : Kind → ℕ → Counters → Counters
raised (scalar null_kind) n c = record c { nulls = c.nulls + n }
raised (scalar boolean_kind) n c = record c { booleans = c.booleans + n }
raised (scalar integer_kind) n c = record c { integers = c.integers + n }
raised (scalar text_kind) n c = record c { texts = c.texts + n }
raised arrays n c = record c { arrays = c.arrays + n }
raised objects n c = record c { objects = c.objects + n }

abbrev pub lowered : Kind → ℕ → Counters → Counters
lowered (scalar null_kind) n c = record c { nulls = c.nulls - n }
lowered (scalar boolean_kind) n c = record c { booleans = c.booleans - n }
lowered (scalar integer_kind) n c = record c { integers = c.integers - n }
lowered (scalar text_kind) n c = record c { texts = c.texts - n }
lowered arrays n c = record c { arrays = c.arrays - n }
lowered objects n c = record c { objects = c.objects - n }

-- the fields with this place at a number, in their order
abbrev pub put_field : ℕ → Counted → Fields → Fields
put_field n d no_fields = a_field n d no_fields
put_field n d (a_field m e fs) = if nat_lt n m then a_field n d (a_field m e fs) else (if m == n then a_field n d fs else a_field m e (put_field n d fs))

-- one shape more
abbrev mutual
  pub added : List Name → ShapeTree → Counted → Counted
  added names (leaf k) (counted c b fs) = counted (raised (scalar k) 1 c) b fs
  added names (array xs) (counted c b fs) = counted (raised arrays 1 c) (items_added names xs b) fs
  added names (object ms) (counted c b fs) = counted (raised objects 1 c) b (members_added names ms fs)

  pub items_added : List Name → Items Name ScalarKind → Below → Below
  items_added names no_items b = b
  items_added names (item s xs) b = items_added names xs (an_item (added names s (held b)))

  pub members_added : List Name → Members Name ScalarKind → Fields → Fields
  members_added names no_members fs = fs
  members_added names (member name s ms) fs = members_added names ms (put_field (number names name) (added names s (field_at (number names name) fs)) fs)

-- the fields without the place of a number
abbrev pub without_field : ℕ → Fields → Fields
without_field n no_fields = no_fields
without_field n (a_field m d fs) = if m == n then fs else a_field m d (without_field n fs)

-- a place is kept where it counts something
abbrev pub kept_item : Counted → Below
kept_item d = if documents_of d == 0 then no_item else an_item d

abbrev pub kept_field : ℕ → Counted → Fields → Fields
kept_field n d fs = if documents_of d == 0 then without_field n fs else put_field n d fs

-- one shape less
abbrev mutual
  pub removed : List Name → ShapeTree → Counted → Counted
  removed names (leaf k) (counted c b fs) = counted (lowered (scalar k) 1 c) b fs
  removed names (array xs) (counted c b fs) = counted (lowered arrays 1 c) (items_removed names xs b) fs
  removed names (object ms) (counted c b fs) = counted (lowered objects 1 c) b (members_removed names ms fs)

  pub items_removed : List Name → Items Name ScalarKind → Below → Below
  items_removed names no_items b = b
  items_removed names (item s xs) b = items_removed names xs (kept_item (removed names s (held b)))

  pub members_removed : List Name → Members Name ScalarKind → Fields → Fields
  members_removed names no_members fs = fs
  members_removed names (member name s ms) fs = members_removed names ms (kept_field (number names name) (removed names s (field_at (number names name) fs)) fs)

-- each name of the shape has a number
abbrev mutual
  pub IsNamed : List Name → ShapeTree → Type 0
  IsNamed names (leaf k) = Unit {0}
  IsNamed names (array xs) = AreItemsNamed names xs
  IsNamed names (object ms) = AreMembersNamed names ms

  pub AreItemsNamed : List Name → Items Name ScalarKind → Type 0
  AreItemsNamed names no_items = Unit {0}
  AreItemsNamed names (item s xs) = IsNamed names s × AreItemsNamed names xs

  pub AreMembersNamed : List Name → Members Name ScalarKind → Type 0
  AreMembersNamed names no_members = Unit {0}
  AreMembersNamed names (member name s ms) = IsTrue (is_some (number_of names name)) × IsNamed names s × AreMembersNamed names ms

-- one member more, and one less
abbrev pub member_added : List Name → Name × ShapeTree → Fields → Fields
member_added names m fs = put_field (number names m.0) (added names m.1 (field_at (number names m.0) fs)) fs

abbrev pub member_removed : List Name → Name × ShapeTree → Fields → Fields
member_removed names m fs = kept_field (number names m.0) (removed names m.1 (field_at (number names m.0) fs)) fs
