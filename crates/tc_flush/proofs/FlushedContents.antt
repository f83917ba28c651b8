-- What a flush makes over the newest schema and names of a list is the flush of the table behind the list.
use Rattle.std.proofs.Common.{◌≡◌, ◌+◌, ◌<◌, ◌^◌, ℕ, List, [], ◌∷◌, length, bytes_eq, refl, subst, arith, Option, Some, None}
use Rattle.std.specs.Prelude.{All, IfSome}
use Rattle.std.specs.List.Sorted.{IsStrictlySortedBy}
use Rattle.std.specs.Ordering.{nat_cmp}
use Rattle.std.specs.List.{IsDistinct}
use Rattle.std.proofs.lemmas.List.{length-map}
use Rattle.std.proofs.lemmas.List.Elements.{All-nil, All-cons, All-head, All-tail}
use Rattle.tc_model.specs.Dictionary.{Extends, IsDictionary}
use Rattle.tc_model.specs.Document.{Name, Document, ShapeTree, IsDocument, null_kind, boolean_kind, integer_kind, text_kind, document_shape}
use Rattle.tc_model.specs.Keyed.{Ascends, values_in}
use Rattle.tc_model.specs.Kinds.{Kind, scalar, arrays, objects}
use Rattle.tc_model.specs.Stored.{IsStorable}
use Rattle.tc_model.specs.Tree.{leaf, array, object}
use Rattle.tc_schema_model.specs.Counted.{Counted, shows, total_at, IsCanonical, CountsObjects}
use Rattle.tc_schema_model.specs.Levels.{IsShallow}
use Rattle.tc_schema_model.specs.Occurrences.{Path, count}
use Rattle.tc_schema_model.specs.SchemaBytes.{IsSchema}
use Rattle.tc_schema_model.specs.Stands.{StandsFor}
use Rattle.tc_schema_model.proofs.ShallowSchemas.{depth-document_shape}
use Rattle.tc_schema_model.proofs.SmallCounters.{small_from_paths}
use Rattle.tc_schema_model.proofs.ValueBounds.{total-stands}
use Rattle.tc_plain_model.specs.Store.{names_after}
use Rattle.tc_lsm_model.specs.Contents.{Partition, Content, IsNamedIn, IsEntry}
use Rattle.tc_lsm_model.specs.Flushes.{IsFlush}
use Rattle.tc_lsm_model.specs.Lists.{live, names_of, schema_of, last_of}
use Rattle.tc_lsm_model.specs.Tables.{Slot, Table, writes_of, over, shapes_held, shapes_below, occurring}
use Rattle.tc_memory.specs.DocumentTables.{IsStoredAt, kept_slot, kept_table}
use Rattle.tc_memory.specs.Table.{IsLawfulEntry}
use Rattle.tc_component.specs.declared.head.Head.{Head}
use Rattle.tc_flush.specs.Flushable.{CanFlush, values_of}
use Rattle.tc_flush.specs.Flushing.{flush_of, recounted}
use Rattle.tc_component.specs.Rows.{part_of}
use Rattle.tc_flush.specs.Recounting.{all_removed, names_with}
use Rattle.tc_flush.proofs.RecountedLaws.{canonical-all_removed, shows-all_removed, shallow-all_removed, canonical-all_added, shows-all_added, IsShallowShape, shallow-all_added}
use Rattle.tc_flush.proofs.TableDocuments.{keys_of-writes_of}
use Rattle.tc_flush.proofs.ValuesAtRoot.{IsObjectShape, values_of-root, values_in-root, objects-root}

-- ---- the table's documents are objects, which nest no deeper than they may

object_shape : (d : Document) → IsStorable d → IsObjectShape (document_shape d)
object_shape (leaf s) is = absurd (is.1)
object_shape (array xs) is = absurd (is.1)
object_shape (object ms) is = refl

shallow_shape : (d : Document) → IsStorable d → IsShallowShape (document_shape d)
shallow_shape d is = omega (arith, depth-document_shape d, is.0)

each_held : (P : ShapeTree → Type 0) → ((d : Document) → IsStorable d → P (document_shape d)) → (t : Table) → All IsStoredAt t → All P (shapes_held t)
each_held P each [] all = All-nil P
each_held P each (e ∷ t) all = step e.1.held (All-head IsStoredAt e t all) (each_held P each t (All-tail IsStoredAt e t all))
  where
    step : (o : Option Document) → IfSome o (λ d. IsDocument d × IsStorable d) → All P (shapes_held t) → All P (shapes_held ((e.0, record { held = o; below = e.1.below }) ∷ t))
    step None is rest = rest
    step (Some d) is rest = All-cons P (document_shape d) (shapes_held t) (each d is.1) rest

-- ---- the schema

module _ (names : List Name) (distinct : IsDistinct bytes_eq names) (schema : Counted) (t : Table) (can : CanFlush names schema t) where
  pub canonical-recounted : IsCanonical (length (names_with names (shapes_held t))) (recounted names schema t)
  canonical-recounted = canonical-all_added names (shapes_held t) (all_removed names (shapes_below t) schema) (canonical-all_removed names distinct (shapes_below t) schema can.fits)

  pub shows-recounted : (path : Path) (kind : Kind)
      → shows (names_with names (shapes_held t)) (recounted names schema t) path kind + occurring (shapes_below t) path kind ≡ shows names schema path kind + occurring (shapes_held t) path kind
  shows-recounted path kind =
      omega (
        arith,
        shows-all_added names (shapes_held t) (all_removed names (shapes_below t) schema) (canonical-all_removed names distinct (shapes_below t) schema can.fits) path kind,
        shows-all_removed names distinct (shapes_below t) schema can.fits path kind,
      )

  pub total-recounted : (path : Path)
      → total_at (names_with names (shapes_held t)) (recounted names schema t) path + values_of (shapes_below t) path ≡ total_at names schema path + values_of (shapes_held t) path
  total-recounted path =
      let one : (kind : Kind) → _ = λ kind. shows-recounted path kind in
      omega (arith, one (scalar null_kind), one (scalar boolean_kind), one (scalar integer_kind), one (scalar text_kind), one arrays, one objects)

  -- nothing but objects is counted at the root
  pub objects-recounted : All IsObjectShape (shapes_held t) → CountsObjects schema → CountsObjects (recounted names schema t)
  objects-recounted all objects_before =
      let one : (kind : Kind) → _ = λ kind. shows-recounted [] kind in
      omega (arith, one (scalar null_kind), one (scalar boolean_kind), one (scalar integer_kind), one (scalar text_kind), one arrays, one objects, values_of-root (shapes_held t), objects-root (shapes_held t) all, objects_before)

  pub shallow-recounted : All IsShallowShape (shapes_held t) → IsShallow schema → IsShallow (recounted names schema t)
  shallow-recounted all shallow = shallow-all_added names (shapes_held t) (all_removed names (shapes_below t) schema) all (shallow-all_removed names distinct (shapes_below t) schema can.fits shallow)

-- ---- the entries

abbrev InRange : ℕ × Slot → Type 0
InRange e = e.0 < 2 ^ 63

pub range_of : (t : Table) → All IsLawfulEntry (kept_table t) → All InRange t
range_of [] all = All-nil InRange
range_of (e ∷ t) all =
    All-cons InRange e t (All-head IsLawfulEntry (e.0, kept_slot e.1) (kept_table t) all).in_range (range_of t (All-tail IsLawfulEntry (e.0, kept_slot e.1) (kept_table t) all))

one_entry : (names : List Name) (key : ℕ) (held : Option Document) → key < 2 ^ 63 → IfSome held (λ d. IsDocument d × IsStorable d) → IfSome held (IsNamedIn names) → IsEntry names (key, held)
one_entry names key None range stored known = record { key = range; document = tt; storable = tt; named = tt }
one_entry names key (Some d) range stored known = record { key = range; document = stored.0; storable = stored.1; named = known }

entries_of : (names : List Name) (t : Table) → All InRange t → All IsStoredAt t → All (λ w. IfSome w.1 (IsNamedIn names)) (writes_of t) → All (IsEntry names) (writes_of t)
entries_of names [] range stored known = All-nil (IsEntry names)
entries_of names (e ∷ t) range stored known =
    All-cons (IsEntry names) (e.0, e.1.held) (writes_of t)
    (one_entry names e.0 e.1.held (All-head InRange e t range) (All-head IsStoredAt e t stored) (All-head (λ w. IfSome w.1 (IsNamedIn names)) (e.0, e.1.held) (writes_of t) known))
    (entries_of names t (All-tail InRange e t range) (All-tail IsStoredAt e t stored) (All-tail (λ w. IfSome w.1 (IsNamedIn names)) (e.0, e.1.held) (writes_of t) known))

-- ---- the flush

-- what is known of a table over a list that can be flushed
pub record IsFlushable (cs : List Content) (t : Table) : Type 0 where
  pub stands : StandsFor (names_of cs) (schema_of cs) (values_in (live cs))
  pub schema : IsSchema (length (names_of cs)) (schema_of cs)
  pub up : Ascends t
  pub range : All InRange t
  pub stored : All IsStoredAt t
  pub can : CanFlush (names_of cs) (schema_of cs) t
  pub distinct : IsDistinct bytes_eq (names_of cs)
  pub dictionary : IsDictionary (names_after (names_of cs) (writes_of t))
  pub same : names_with (names_of cs) (shapes_held t) ≡ names_after (names_of cs) (writes_of t)
  pub extends : Extends (names_after (names_of cs) (writes_of t)) (names_of cs)
  pub known : All (λ w. IfSome w.1 (IsNamedIn (names_after (names_of cs) (writes_of t)))) (writes_of t)
  pub counted : (path : Path) (kind : Kind) → count (values_in (over (live cs) t)) path kind + occurring (shapes_below t) path kind ≡ count (values_in (live cs)) path kind + occurring (shapes_held t) path kind

module _ (part : Partition) (cs : List Content) (t : Table) (is : IsFlushable cs t) where
  flushed_stands : StandsFor (names_after (names_of cs) (writes_of t)) (recounted (names_of cs) (schema_of cs) t) (values_in (over (live cs) t))
  flushed_stands = record {
    canonical = subst (λ names. IsCanonical (length names) (recounted (names_of cs) (schema_of cs) t)) is.same (canonical-recounted (names_of cs) is.distinct (schema_of cs) t is.can);
    distinct = is.dictionary.distinct;
    counts = λ path kind. subst (λ names. shows names (recounted (names_of cs) (schema_of cs) t) path kind ≡ count (values_in (over (live cs) t)) path kind) is.same
        (omega (arith, shows-recounted (names_of cs) is.distinct (schema_of cs) t is.can path kind, is.stands.counts path kind, is.counted path kind));
  }

  flushed_total : (path : Path) → total_at (names_after (names_of cs) (writes_of t)) (recounted (names_of cs) (schema_of cs) t) path + values_of (shapes_below t) path
      ≡ total_at (names_of cs) (schema_of cs) path + values_of (shapes_held t) path
  flushed_total path =
      subst (λ names. total_at names (recounted (names_of cs) (schema_of cs) t) path + values_of (shapes_below t) path ≡ total_at (names_of cs) (schema_of cs) path + values_of (shapes_held t) path)
      is.same (total-recounted (names_of cs) is.distinct (schema_of cs) t is.can path)

  flushed_schema : IsSchema (length (names_after (names_of cs) (writes_of t))) (recounted (names_of cs) (schema_of cs) t)
  flushed_schema = record {
    canonical = flushed_stands.canonical;
    of_objects = objects-recounted (names_of cs) is.distinct (schema_of cs) t is.can (each_held IsObjectShape object_shape t is.stored) is.schema.of_objects;
    small = small_from_paths (names_after (names_of cs) (writes_of t)) is.dictionary.distinct (recounted (names_of cs) (schema_of cs) t) flushed_stands.canonical (λ path. omega (arith, flushed_total path, is.can.counters path));
    shallow = shallow-recounted (names_of cs) is.distinct (schema_of cs) t is.can (each_held IsShallowShape shallow_shape t is.stored) is.schema.shallow;
  }

  flushed_room : length (over (live cs) t) < 2 ^ 32
  flushed_room =
      omega (
        arith,
        length-map (over (live cs) t) (λ p. p.1),
        values_in-root (values_in (over (live cs) t)),
        total-stands (names_after (names_of cs) (writes_of t)) (recounted (names_of cs) (schema_of cs) t) (values_in (over (live cs) t)) flushed_stands [],
        flushed_total [],
        values_of-root (shapes_held t),
        values_of-root (shapes_below t),
        is.can.documents,
      )

  pub flushed : (head : Head) (generations : ℕ) → part_of head ≡ part → head.from ≡ last_of cs + 1 → head.to ≡ last_of cs + generations → head.number < 2 ^ 32 → head.count < 2 ^ 32 → 0 < generations → head.to < 2 ^ 63
      → IsFlush part cs t generations (flush_of head (names_of cs) (schema_of cs) t)
  flushed head generations here from to number count some last = record {
    entries = refl;
    names = refl;
    to = to;
    goes_on = record {
      content = record {
        number = number;
        count = count;
        first = omega (arith, from);
        order = omega (arith, from, to, some);
        last = last;
        ascends = subst (IsStrictlySortedBy nat_cmp) (keys_of-writes_of t) is.up;
        entries = entries_of (names_after (names_of cs) (writes_of t)) t is.range is.stored is.known;
        dictionary = is.dictionary;
        schema = flushed_schema;
      };
      here = here;
      next = from;
      extends = is.extends;
      stands = flushed_stands;
      room = flushed_room;
    };
  }
