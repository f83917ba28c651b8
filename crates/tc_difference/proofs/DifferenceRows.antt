-- The definitions, on a schema that shows one object more than the documents are.
use Rattle.std.proofs.Common.{◌≡◌, List, [], ◌∷◌, refl, codes, true}
use Rattle.std.specs.Str.{chars}
use Rattle.std.specs.declared.cmp.Ordering.TheVariants.{Less}
use Rattle.tc_model.specs.Tree.{leaf, object, member, no_members}
use Rattle.tc_model.specs.Document.{Document, Name, boolean, null_kind, boolean_kind, integer_kind, text_kind}
use Rattle.tc_model.specs.Kinds.{Kind, scalar, arrays, objects}
use Rattle.tc_schema_model.specs.Occurrences.{Path, count}
use Rattle.tc_schema_model.specs.Counted.{Counted, counted, no_counters, no_item, no_fields, a_field, shows}
use Rattle.tc_difference.specs.Differences.{IsFirstDifference, place_cmp}

abbrev a : Name
a = codes "a"

-- `{"a":true}`
abbrev docs : List Document
docs = object (member a (leaf (boolean true)) no_members) ∷ []

abbrev of_two_objects : Counted
of_two_objects = counted (record no_counters { objects = 2 }) no_item (a_field 0 (counted (record no_counters { booleans = 1 }) no_item no_fields) no_fields)

nothing_before : (q : Path) (u : Kind) → place_cmp q u [] objects ≡ Less → shows (a ∷ []) of_two_objects q u ≡ count docs q u
unfolding chars
nothing_before [] (scalar null_kind) h = refl
nothing_before [] (scalar boolean_kind) h = refl
nothing_before [] (scalar integer_kind) h = refl
nothing_before [] (scalar text_kind) h = refl
nothing_before [] arrays h = refl
nothing_before [] objects h = cc h
nothing_before (s ∷ q) u h = cc h

pub one_object_too_many : IsFirstDifference (a ∷ []) of_two_objects docs (record { path = []; kind = objects; kept = 2; counted = 1 })
unfolding chars
one_object_too_many = record { kept_is = refl; counted_is = refl; differ = λ h. cc h; first = nothing_before }
