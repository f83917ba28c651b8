-- What is said of the places while documents are counted.
use Rattle.std.specs.Prelude.{◌≡◌, ℕ, ◌≤◌, ◌++◌, [], ◌∷◌, List, None, Some}
use Rattle.tc_model.specs.Document.{Name, ShapeTree}
use Rattle.tc_model.specs.Tree.{items_of}
use Rattle.tc_model.specs.Dictionary.{number_of}
use Rattle.tc_model.specs.Kinds.{Kind}
use Rattle.tc_schema_model.specs.Occurrences.{field, Path, items_occurrences}
use Rattle.tc_schema_model.specs.Counted.{Counters, Counted, Fields, counter, field_at, shows}

-- the counters of values, by their kinds
abbrev pub CountKinds : Counters → List ShapeTree → Type 0
CountKinds c ss = (t : Kind) → counter c t ≡ items_occurrences (items_of ss) [] t

-- a place shows these numbers
abbrev pub Shows : List Name → Counted → (Path → Kind → ℕ) → Type 0
Shows names d numbers = (path : Path) (t : Kind) → shows names d path t ≡ numbers path t

-- the fields from a number on show the numbers of their names
abbrev pub FieldsShow : List Name → ℕ → Fields → (Name → Path → Kind → ℕ) → Type 0
FieldsShow names low fs numbers = (name : Name) (n : ℕ) → number_of names name ≡ Some n → low ≤ n → Shows names (field_at n fs) (numbers name)

-- nothing stands at a member whose name has no number
abbrev pub IsZeroUnnumbered : List Name → (Path → Kind → ℕ) → Type 0
IsZeroUnnumbered names numbers = (path more : Path) (name : Name) (t : Kind) → number_of names name ≡ None → numbers (path ++ field name ∷ more) t ≡ 0
