-- A schema of objects with one object more, or less, is one whose bytes are read again.
use Rattle.std.proofs.Common.{◌≡◌, ◌+◌, ◌≤◌, List, length, bytes_eq, arith}
use Rattle.std.specs.List.{IsDistinct}
use Rattle.tc_model.specs.Limits.{max_depth}
use Rattle.tc_model.specs.Tree.{leaf, array, object, depth}
use Rattle.tc_model.specs.Document.{Name, ShapeTree, null_kind, boolean_kind, integer_kind, text_kind}
use Rattle.tc_model.specs.Kinds.{Kind, kind_of, scalar, arrays, objects}
use Rattle.tc_schema_model.specs.Occurrences.{Path, occurrences}
use Rattle.tc_schema_model.specs.Counted.{Counted, counted, shows, total_at, CountsObjects, IsCanonical}
use Rattle.tc_schema_model.specs.Added.{added, removed}
use Rattle.tc_schema_model.specs.Fits.{Fits}
use Rattle.tc_schema_model.specs.Room.{DoesFit}
use Rattle.tc_schema_model.specs.Levels.{IsShallow}
use Rattle.tc_schema_model.specs.SchemaBytes.{IsSchema}
use Rattle.tc_schema_model.proofs.LevelLaws.{shallow-added, levels-removed}
use Rattle.tc_schema_model.proofs.RemovedLaws.{shows-removed, canonical-removed}
use Rattle.tc_schema_model.proofs.SmallCounters.{small_from_paths, small_at_paths}

objects-added : (names : List Name) (s : ShapeTree) (d : Counted) → kind_of s ≡ objects → CountsObjects d → CountsObjects (added names s d)
objects-added names (leaf k) d is each = absurd (cc)
objects-added names (array xs) d is each = absurd (cc)
objects-added names (object ms) (counted c b fs) is each = omega (arith, each)

objects-removed : (names : List Name) (s : ShapeTree) (d : Counted) → kind_of s ≡ objects → Fits names s d → CountsObjects d → CountsObjects (removed names s d)
objects-removed names (leaf k) d is fits each = absurd (cc)
objects-removed names (array xs) d is fits each = absurd (cc)
objects-removed names (object ms) (counted c b fs) is fits each = omega (arith, each, fits.0)

module _ (names : List Name) (distinct : IsDistinct bytes_eq names) (s : ShapeTree) (d : Counted) (is : kind_of s ≡ objects) where
  pub schema-added : IsCanonical (length names) (added names s d) → DoesFit names (added names s d) → depth s ≤ max_depth → CountsObjects d → IsShallow d → IsSchema (length names) (added names s d)
  schema-added canonical fits deep each shallow = record {
    canonical = canonical;
    of_objects = objects-added names s d is each;
    small = small_from_paths names distinct (added names s d) canonical fits;
    shallow = shallow-added names s d deep shallow;
  }

  -- no counter rose
  fewer : Fits names s d → IsCanonical (length names) d → (path : Path) → total_at names (removed names s d) path ≤ total_at names d path
  fewer fits canonical path =
      let less : (t : Kind) → shows names (removed names s d) path t + occurrences s path t ≡ shows names d path t = λ t. shows-removed names s d fits canonical path t in
      omega (arith, less (scalar null_kind), less (scalar boolean_kind), less (scalar integer_kind), less (scalar text_kind), less arrays, less objects)

  pub schema-removed : Fits names s d → IsSchema (length names) d → IsSchema (length names) (removed names s d)
  schema-removed fits schema =
      let left = canonical-removed names s d fits schema.canonical in
      record {
        canonical = left;
        of_objects = objects-removed names s d is fits schema.of_objects;
        small = small_from_paths names distinct (removed names s d) left (λ path. omega (arith, fewer fits schema.canonical path, small_at_paths names d schema.small path));
        shallow = omega (arith, levels-removed names s d fits, schema.shallow);
      }
