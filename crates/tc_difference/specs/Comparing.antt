-- What comparing two places tells, and the fields of two places up to a number.
use Rattle.std.specs.Prelude.{◌≡◌, ◌≢◌, ◌<◌, ℕ, List, ◌∷◌, Option, Some, None, Bool, true, map, reverse}
use Rattle.std.specs.Ordering.{is_lt}
use Rattle.tc_model.specs.Document.{Name, name_cmp}
use Rattle.tc_model.specs.Kinds.{Kind, tag}
use Rattle.tc_schema_model.specs.Occurrences.{Step, field, each_item}
use Rattle.tc_schema_model.specs.Counted.{Counters, counter, Counted, Fields, field_at, shows}
use Rattle.tc_schema_model.specs.SchemaText.{name_at}
use Rattle.tc_value.specs.Kinds.{kind_meant}
use Rattle.tc_value.specs.declared.names.Kind as code
use Rattle.tc_difference.specs.declared.met.Way.{Way}
use Rattle.tc_difference.specs.declared.met.Way.TheVariants.{Item, Field}
use Rattle.tc_difference.specs.declared.met.Met.{Met}
use Rattle.tc_difference.specs.declared.met.Candidate.{Candidate}
use Rattle.tc_difference.specs.Differences.{Difference, AreAlike, IsFirstBetween}

-- the step that a way is, and what was met, with its steps from the last one back
abbrev pub way_meant : List Name → Way → Step
way_meant names Item = each_item
way_meant names (Field n) = field (name_at names n)

abbrev pub met_meant : List Name → Met → Difference
met_meant names m = record { path = map (way_meant names) (reverse m.back.items); kind = kind_meant m.kind; kept = m.kept; counted = m.counted }

-- the same difference, from one step before
abbrev pub stepped : Step → Difference → Difference
stepped s x = record { path = s ∷ x.path; kind = x.kind; kept = x.kept; counted = x.counted }

-- the kind of the least number of which there are not as many
abbrev pub IsFirstKind : Counters → Counters → Option code.Kind → Type 0
IsFirstKind c d None = (t : Kind) → counter c t ≡ counter d t
IsFirstKind c d (Some k) = (counter c (kind_meant k) ≢ counter d (kind_meant k)) × ((t : Kind) → tag t < tag (kind_meant k) → counter c t ≡ counter d t)

-- both show the same at every path
abbrev pub ShowTheSame : List Name → Counted → Counted → Type 0
ShowTheSame names d e = AreAlike (shows names d) (shows names e)

-- what comparing two places tells
abbrev pub IsCompared : List Name → Counted → Counted → Option Met → Type 0
IsCompared names d e None = ShowTheSame names d e
IsCompared names d e (Some m) = IsFirstBetween names d e (met_meant names m)

-- one number's name stands before that of another
abbrev pub is_before : List Name → ℕ → ℕ → Bool
is_before names n m = is_lt (name_cmp (name_at names n) (name_at names m))

-- whether a field of this number would take the place of the candidate
abbrev pub is_wanted : List Name → ℕ → Option Candidate → Bool
is_wanted names n None = true
is_wanted names n (Some c) = is_before names n c.number

-- of the fields with numbers below this one, that of the least name of those that differ
abbrev pub IsLeastBelow : List Name → ℕ → Fields → Fields → Option Candidate → Type 0
IsLeastBelow names low fs gs None = (n : ℕ) → n < low → ShowTheSame names (field_at n fs) (field_at n gs)
IsLeastBelow names low fs gs (Some c) =
    (c.number < low)
    × IsFirstBetween names (field_at c.number fs) (field_at c.number gs) (met_meant names c.met)
    × ((n : ℕ) → n < low → is_before names n c.number ≡ true → ShowTheSame names (field_at n fs) (field_at n gs))
