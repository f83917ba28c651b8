-- Where two counts of values by path and kind first show different numbers, in an order of paths step by step.
use Rattle.std.specs.Prelude.{◌≡◌, ◌≢◌, ℕ, List}
use Rattle.std.specs.declared.cmp.Ordering.{Ordering}
use Rattle.std.specs.declared.cmp.Ordering.TheVariants.{Less, Equal, Greater}
use Rattle.std.specs.Ordering.{nat_cmp, ordering_then}
use Rattle.std.specs.Cmp.Lexicographic.{slice_cmp}
use Rattle.tc_model.specs.Document.{Document, Name, name_cmp}
use Rattle.tc_model.specs.Kinds.{Kind, tag}
use Rattle.tc_schema_model.specs.Occurrences.{Step, field, each_item, Path, count}
use Rattle.tc_schema_model.specs.Counted.{Counted, shows}

-- the items come before the members, and these stand by their names' bytes
abbrev pub step_cmp : Step → Step → Ordering
step_cmp each_item each_item = Equal
step_cmp each_item (field n) = Less
step_cmp (field n) each_item = Greater
step_cmp (field n) (field m) = name_cmp n m

-- a path stands before those that go on from it
abbrev pub path_cmp : Path → Path → Ordering
path_cmp p q = slice_cmp step_cmp p q

-- at one path kinds stand by their numbers
abbrev pub place_cmp : Path → Kind → Path → Kind → Ordering
place_cmp p t q u = ordering_then (path_cmp p q) (nat_cmp (tag t) (tag u))

-- a place, and the two numbers there
pub record Difference : Type 0 where
  pub path : Path
  pub kind : Kind
  pub kept : ℕ
  pub counted : ℕ

-- both numbers are those that are shown there, they differ, and nothing differs before
pub record IsFirst (kept counted : Path → Kind → ℕ) (x : Difference) : Type 0 where
  pub kept_is : x.kept ≡ kept x.path x.kind
  pub counted_is : x.counted ≡ counted x.path x.kind
  pub differ : x.kept ≢ x.counted
  pub first : (q : Path) (u : Kind) → place_cmp q u x.path x.kind ≡ Less → kept q u ≡ counted q u

-- nothing differs
abbrev pub AreAlike : (Path → Kind → ℕ) → (Path → Kind → ℕ) → Type 0
AreAlike kept counted = (path : Path) (t : Kind) → kept path t ≡ counted path t

-- between two schemas of one dictionary
abbrev pub IsFirstBetween : List Name → Counted → Counted → Difference → Type 0
IsFirstBetween names d e x = IsFirst (shows names d) (shows names e) x

-- between a schema and what documents have
abbrev pub IsFirstDifference : List Name → Counted → List Document → Difference → Type 0
IsFirstDifference names d docs x = IsFirst (shows names d) (count docs) x
