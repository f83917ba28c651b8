-- What is counted with one document more, or less, leaves room.
use Rattle.std.proofs.Common.{◌≡◌, ◌∙◌, ◌<◌, ◌≤◌, ◌+◌, ◌^◌, ◌⊎◌, ℕ, Bool, true, false, List, [], ◌∷◌, Some, length, refl, arith, inl, inr}
use Rattle.std.proofs.lemmas.Bool.{both_ways, cases_lt}
use Rattle.tc_model.specs.Document.{Name, Document, ShapeTree, document_shape, null_kind, boolean_kind, integer_kind, text_kind}
use Rattle.tc_model.specs.Dictionary.{Extends, IsDictionary}
use Rattle.tc_model.specs.Keyed.{values_in as documents_in}
use Rattle.tc_model.specs.Kinds.{Kind, scalar, arrays, objects}
use Rattle.tc_model.specs.Tree.{leaf, array, object}
use Rattle.tc_model.specs.TreeSize.{tree_size}
use Rattle.tc_plain_model.specs.Writes.{Pairs}
use Rattle.tc_schema_model.specs.Counted.{Counted, documents_of, shows, total_at, IsCanonical}
use Rattle.tc_schema_model.specs.Occurrences.{Path, occurrences}
use Rattle.tc_schema_model.specs.Stands.{StandsFor}
use Rattle.tc_schema_model.specs.Values.{values_at, values_in}
use Rattle.tc_schema_model.proofs.MoreNames.{same_shown, canonical_newer}
use Rattle.tc_schema_model.proofs.ValueBounds.{document_values_at-size, total-stands}
use Rattle.tc_record.specs.Record.{record_of, IsRecordOf}
use Rattle.tc_audit.specs.Walking.{IsCounting, IsLessBy, IsMoreBy}

-- ---- one more

-- where a record has a byte for each value
module _ (fewer : (d : Document) (whole : List ℕ) → IsRecordOf d whole → tree_size d ≤ length whole) where
  pub total_more : (names : List Name) (before after : Counted) (d : Document) → IsRecordOf d (record_of d) → length (record_of d) < 2 ^ 30 → IsMoreBy (Some d) names before after
      → (path : Path) → total_at names after path ≤ total_at names before path + 2 ^ 30
  total_more names before after d whole short more path =
      let k : (t : Kind) → shows names after path t ≡ shows names before path t + occurrences (document_shape d) path t = λ t. omega (arith, more path t) in
      omega (arith, k (scalar null_kind), k (scalar boolean_kind), k (scalar integer_kind), k (scalar text_kind), k arrays, k objects, document_values_at-size d path, fewer d (record_of d) whole, short)

  pub counters_room : (names : List Name) (before : Counted) (d : Document) → IsRecordOf d (record_of d) → length (record_of d) < 2 ^ 30 → ((path : Path) → total_at names before path + 2 ^ 30 < 2 ^ 64)
      → (path : Path) → total_at names before path + values_at (document_shape d) path < 2 ^ 64
  counters_room names before d whole short room path = omega (arith, document_values_at-size d path, fewer d (record_of d) whole, short, room path)

pub more_by : (names : List Name) (before after : Counted) (d : Document) → ((path : Path) (t : Kind) → shows names after path t ≡ shows names before path t + occurrences (document_shape d) path t) → IsMoreBy (Some d) names before after
more_by names before after d shown path t = omega (arith, shown path t)

-- ---- one less

pub less_by : (names : List Name) (before after : Counted) (d : Document) → ((path : Path) (t : Kind) → shows names after path t + occurrences (document_shape d) path t ≡ shows names before path t) → IsLessBy (Some d) names before after
less_by names before after d shown path t = omega (arith, shown path t)

-- ---- names that go on, and how many documents there are

pub stands_newer : (newer older : List Name) (d : Counted) (docs : List Document) → Extends newer older → IsDictionary newer → StandsFor older d docs → StandsFor newer d docs
stands_newer newer older d docs extends dictionary stands = record {
  canonical = canonical_newer newer older d extends stands.canonical;
  distinct = dictionary.distinct;
  counts = λ path t. same_shown newer older d path t extends stands.canonical ∙ stands.counts path t;
}

one_at_root : (s : ShapeTree) → values_at s [] ≡ 1
one_at_root (leaf null_kind) = refl
one_at_root (leaf boolean_kind) = refl
one_at_root (leaf integer_kind) = refl
one_at_root (leaf text_kind) = refl
one_at_root (array xs) = refl
one_at_root (object ms) = refl

-- as many as there are pairs
pub pairs_counted : (names : List Name) (d : Counted) (ps : Pairs) → StandsFor names d (documents_in ps) → documents_of d ≡ length ps
pairs_counted names d ps stands = total-stands names d (documents_in ps) stands [] ∙ at_root ps
  where
    at_root : (ps : Pairs) → values_in (documents_in ps) [] ≡ length ps
    at_root [] = refl
    at_root (p ∷ ps) = omega (arith, one_at_root (document_shape p.1), at_root ps)

-- ---- entries by entries

pub counting_less : (names : List Name) (before after : Counted) (gained : ℕ) → IsCounting names before gained → IsCanonical (length names) after → ((path : Path) → total_at names after path ≤ total_at names before path) → IsCounting names after gained
counting_less names before after gained counting canonical less = record { canonical = canonical; room = λ few path. omega (arith, counting.room few path, less path) }

-- what a test of a bound leaves
pub below : (gained bound : ℕ) (full : Bool) → full ≡ false → (bound ≤ gained → full ≡ true) → gained < bound
below gained bound full not_full tests = cases (cases_lt gained bound)
  where
    cases : (gained < bound) ⊎ (bound ≤ gained) → gained < bound
    cases (inl less) = less
    cases (inr more) = absurd (both_ways full not_full (tests more))
