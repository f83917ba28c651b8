-- When a schema has a counter already for each value of a shape.
use Rattle.std.specs.Prelude.{◌<◌, nat_lt, ◌&&◌, Bool, true, List}
use Rattle.tc_model.specs.Tree.{leaf, array, object, Items, no_items, item, Members, no_members, member}
use Rattle.tc_model.specs.Document.{Name, ShapeTree, ScalarKind}
use Rattle.tc_model.specs.Dictionary.{number_of}
use Rattle.tc_model.specs.Kinds.{Kind, scalar}
use Rattle.tc_schema_model.specs.Occurrences.{Path, occurrences}
use Rattle.tc_schema_model.specs.Counted.{Counted, counted, counter, Below, Fields, held, numbered_field, shows}

-- each kind that the shape has at a path was counted at that path before
abbrev pub HasCounters : List Name → Counted → ShapeTree → Type 0
HasCounters names d s = (path : Path) (t : Kind) → 0 < occurrences s path t → 0 < shows names d path t

-- the same as a test, place by place
abbrev mutual
  pub has_counters : List Name → ShapeTree → Counted → Bool
  has_counters names (leaf k) (counted c b fs) = nat_lt 0 (counter c (scalar k))
  has_counters names (array xs) (counted c b fs) = nat_lt 0 c.arrays && items_have_counters names xs b
  has_counters names (object ms) (counted c b fs) = nat_lt 0 c.objects && members_have_counters names ms fs

  pub items_have_counters : List Name → Items Name ScalarKind → Below → Bool
  items_have_counters names no_items b = true
  items_have_counters names (item s xs) b = has_counters names s (held b) && items_have_counters names xs b

  pub members_have_counters : List Name → Members Name ScalarKind → Fields → Bool
  members_have_counters names no_members fs = true
  members_have_counters names (member name s ms) fs = has_counters names s (numbered_field (number_of names name) fs) && members_have_counters names ms fs
