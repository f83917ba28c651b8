-- What the test of a table looks at, and that the table can then be flushed.
use Rattle.std.proofs.Common.{◌≡◌, ◌+◌, ◌*◌, ◌<◌, ◌≤◌, ◌^◌, ℕ, List, [], ◌∷◌, ◌++◌, length, length-append, bytes_eq, refl, sym, ap, ◌∙◌, subst, arith, Option, Some, None}
use Rattle.std.specs.List.{IsDistinct}
use Rattle.std.specs.Prelude.{◌↔◌, All, IfSome, flat_map, min}
use Rattle.std.proofs.lemmas.List.{length-map}
use Rattle.std.proofs.lemmas.List.Concat.{flat_map-append}
use Rattle.std.proofs.lemmas.List.Elements.{All-nil, All-cons, All-head, All-tail}
use Rattle.tc_model.specs.Dictionary.{all_learned}
use Rattle.tc_model.specs.Document.{Name, Document, ShapeTree, IsDocument, document_shape}
use Rattle.tc_model.specs.ShapeNames.{names_within}
use Rattle.tc_model.specs.Stored.{IsStorable}
use Rattle.tc_model.specs.TreeSize.{tree_size}
use Rattle.tc_model.proofs.LearnedNames.{length-all_learned-most}
use Rattle.tc_schema_model.specs.Counted.{Counted, nothing, IsCanonical, total_at}
use Rattle.tc_schema_model.specs.Occurrences.{Path}
use Rattle.tc_schema_model.proofs.ValueBounds.{document_values_at-size}
use Rattle.tc_record.specs.Record.{record_of, IsRecordOf}
use Rattle.tc_record.specs.Borrowed.{named_tokens}
use Rattle.tc_record.specs.Preorder.{tokens_of}
use Rattle.tc_record.specs.Record.{labels}
use Rattle.tc_record.specs.Walk.{name}
use Rattle.tc_record.proofs.Keyed.{preorder-relabel, labels-retoken}
use Rattle.tc_compact.specs.Slots.{names_in}
use Rattle.tc_compact.proofs.Compacts.{document_names}
use Rattle.tc_schema_model.proofs.CountingLaws.{total_nothing}
use Rattle.tc_schema_model.proofs.MoreNames.{same_total}
use Rattle.tc_flush.proofs.CountingSteps.{shapes_held-first, total-all_added}
use Rattle.tc_flush.proofs.DocumentNames.{Extends-names_with}
use Rattle.tc_lsm_model.specs.Tables as documents
use Rattle.tc_lsm_model.specs.Tables.{Slot, shapes_held, shapes_below}
use Rattle.tc_memory.specs.DocumentTables.{kept_held, kept_table, IsStoredAt, IsTableOf}
use Rattle.tc_memory.specs.Table.{Held, Table, gone, live}
use Rattle.tc_flush.specs.Counting.{held_record, records_kept, IsShort, names_held, IsCounted}
use Rattle.tc_flush.specs.Flushable.{CanCount, CanFlush, IsShortRecord, values_of}
use Rattle.tc_flush.specs.Recounting.{FitsEach, all_added, all_removed, names_with, shapes_kept}
use Rattle.tc_flush.proofs.FlushedBytes.{shapes_are, total-all_removed}
use Rattle.tc_flush.proofs.KeptEntries.{recorded}
use Rattle.tc_flush.proofs.ValuesAtRoot.{values_of-root}

-- ---- shapes

pub first_canonical : (names : List Name) (shapes : List ShapeTree) (d : Counted) → FitsEach names shapes d → IsCanonical (length names) d
first_canonical names [] d fits = fits
first_canonical names (s ∷ shapes) d fits = fits.0.canonical

-- ---- records

record_count : (h : Held) → length (held_record h) ≤ 1
record_count gone = omega arith
record_count (live bytes) = omega arith

pub records_fewer : (kept : Table) → length (records_kept kept) ≤ length kept
records_fewer [] = omega arith
records_fewer (e ∷ kept) = omega (arith, record_count e.1.held, records_fewer kept, length-append (held_record e.1.held) (records_kept kept))

pub short_first : (b : List ℕ) (bs : List (List ℕ)) → IsShort b → All IsShort (b ∷ bs) ↔ All IsShort bs
short_first b bs short = (All-tail IsShort b bs, All-cons IsShort b bs short)

-- those of a table of documents
pub count-records : (t : documents.Table) → length (records_kept (kept_table t)) ≡ length (shapes_held t)
count-records [] = refl
count-records (e ∷ t) = step e.1.held (count-records t)
  where
    step : (o : Option Document) → length (records_kept (kept_table t)) ≡ length (shapes_held t) → length (held_record (kept_held o) ++ records_kept (kept_table t)) ≡ length (shapes_held ((e.0, documents.slot o e.1.below) ∷ t))
    step None is = is
    step (Some d) is = omega (arith, is)

pub short-records : (t : documents.Table) → All IsShort (records_kept (kept_table t)) → All IsShortRecord t
short-records [] all = All-nil IsShortRecord
short-records (e ∷ t) all = step e.1.held all (λ rest. short-records t rest)
  where
    step : (o : Option Document) → All IsShort (held_record (kept_held o) ++ records_kept (kept_table t)) → (All IsShort (records_kept (kept_table t)) → All IsShortRecord t) → All IsShortRecord ((e.0, documents.slot o e.1.below) ∷ t)
    step None all rest = All-cons IsShortRecord (e.0, documents.slot None e.1.below) t tt (rest all)
    step (Some d) all rest =
        All-cons IsShortRecord (e.0, documents.slot (Some d) e.1.below) t (All-head IsShort (record_of d) (records_kept (kept_table t)) all) (rest (All-tail IsShort (record_of d) (records_kept (kept_table t)) all))

-- ---- values and names

-- a document has no more values than its record has bytes
abbrev pub FewValues : Type 0
FewValues = (d : Document) (whole : List ℕ) → IsRecordOf d whole → tree_size d ≤ length whole

pub few_values : FewValues → (t : documents.Table) → All IsStoredAt t → All IsShortRecord t → (path : Path) → values_of (shapes_held t) path ≤ length (shapes_held t) * 1073741824
few_values few [] stored short path = omega arith
few_values few (e ∷ t) stored short path =
    step e.1.held (All-head IsStoredAt e t stored) (All-head IsShortRecord e t short) (few_values few t (All-tail IsStoredAt e t stored) (All-tail IsShortRecord e t short) path)
  where
    step : (o : Option Document) → IfSome o (λ d. IsDocument d × IsStorable d) → IfSome o (λ d. length (record_of d) < 2 ^ 30) → values_of (shapes_held t) path ≤ length (shapes_held t) * 1073741824
        → values_of (shapes_held ((e.0, documents.slot o e.1.below) ∷ t)) path ≤ length (shapes_held ((e.0, documents.slot o e.1.below) ∷ t)) * 1073741824
    step None stored short rest = rest
    step (Some d) stored short rest =
        omega (arith, rest, short, document_values_at-size d path, few d (record_of d) (recorded d (record_of d) stored.0 stored.1 refl (omega (arith, short))))

few_names : (names : List Name) (shapes : List ShapeTree) → length (names_with names shapes) ≤ length names + length (flat_map names_within shapes)
few_names names [] = omega arith
few_names names (s ∷ shapes) =
    omega (arith, few_names (all_learned names (names_within s)) shapes, length-all_learned-most names (names_within s), length-append (names_within s) (flat_map names_within shapes))

pub length-names_held : (x : ℕ × Slot) (t : documents.Table) → length (names_held (x ∷ t)) ≡ length (names_held (x ∷ [])) + length (names_held t)
length-names_held x t =
    ap (λ ss. length (flat_map names_within ss)) (shapes_held-first x t)
    ∙ ap length (flat_map-append names_within (shapes_held (x ∷ [])) (shapes_held t))
    ∙ length-append (names_held (x ∷ [])) (names_held t)

-- the members that a record's header counts
pub members_count : (d : Document) → names_in (named_tokens d) ≡ names_within (document_shape d) → length (labels (named_tokens d)) ≡ length (names_within (document_shape d))
members_count d order =
    ap (λ ts. length (labels ts)) (preorder-relabel name d None) ∙ ap length (labels-retoken name (tokens_of d)) ∙ length-map (labels (tokens_of d)) name ∙ ap length (sym (document_names d) ∙ order)

-- ---- sums that stand still at their end

pub saturated : (a k m s : ℕ) → s ≡ min (a + k) 18446744073709551615 → min (a + (k + m)) 18446744073709551615 ≡ min (s + m) 18446744073709551615
saturated a k m s is = omega (arith, is)

-- few members have few names
pub few_members : (names : List Name) (t : documents.Table) (members sum : ℕ) → members ≡ min (length (names_held t)) 18446744073709551615 → sum ≡ min (members + length names) 18446744073709551615 → sum < 2 ^ 32 → length (names_with names (shapes_held t)) < 2 ^ 32
few_members names t members sum members_is sum_is below = omega (arith, few_names names (shapes_held t), members_is, sum_is, below)

-- ---- the whole

pub can_flush : (names : List Name) → IsDistinct bytes_eq names → (schema : Counted) (t : documents.Table) (kept : Table) → IsTableOf t kept → IsCounted names schema kept → CanFlush names schema t
can_flush names distinct schema t kept of counted =
    let room = counted.room in
    let shapes = shapes_are t kept of in
    let fits : FitsEach names (shapes_below t) schema = subst (λ ss. FitsEach names ss schema) shapes counted.fits in
    let left : all_removed names (shapes_kept kept) schema ≡ all_removed names (shapes_below t) schema = ap (λ ss. all_removed names ss schema) shapes in
    let total : (path : Path) → total_at names (all_removed names (shapes_kept kept) schema) path + values_of (shapes_below t) path ≡ total_at names schema path =
    λ path. ap (λ d. total_at names d path + values_of (shapes_below t) path) left ∙ total-all_removed names distinct (shapes_below t) schema fits path in
    record {
      fits = fits;
      documents = omega (arith, room.documents, ap (λ k. length (records_kept k)) of.is ∙ count-records t, total [], values_of-root (shapes_below t));
      known = room.names t of;
      counters = λ path. omega (arith, total path, room.counters t of path);
      short = short-records t (subst (λ k. All IsShort (records_kept k)) of.is room.short);
    }

-- ---- the values of few documents with short records

module _ (few : FewValues) (t : documents.Table) (kept : Table) (of : IsTableOf t kept) (short : All IsShort (records_kept kept)) (count : length (records_kept kept) < 2 ^ 32) where
  short_t : All IsShortRecord t
  short_t = short-records t (subst (λ k. All IsShort (records_kept k)) of.is short)

  pub values_few : (path : Path) → values_of (shapes_held t) path < 2 ^ 63
  values_few path = omega (arith, few_values few t of.stored short_t path, ap (λ k. length (records_kept k)) of.is ∙ count-records t, count)

  -- so that they can be counted apart
  pub can_apart : (names : List Name) → length (names_with names (shapes_held t)) < 2 ^ 32 → CanCount names nothing t
  can_apart names known = record {
    canonical = (λ _. refl, λ _. refl, tt, tt);
    known = known;
    counters = λ path. omega (arith, values_few path, total_nothing names path);
    short = short_t;
  }

-- a path has room for both where it has room for the documents counted apart
pub apart_decides : (names : List Name) (left apart : Counted) (known : List Name) (t : documents.Table) → IsCanonical (length names) left → known ≡ names_with names (shapes_held t) → apart ≡ all_added names (shapes_held t) nothing
    → (path : Path) → total_at known apart path + total_at known left path ≡ total_at names left path + values_of (shapes_held t) path
apart_decides names left apart known t canonical known_is apart_is path =
    ap (λ ns. total_at ns apart path + total_at ns left path) known_is
    ∙ ap (λ d. total_at (names_with names (shapes_held t)) d path + total_at (names_with names (shapes_held t)) left path) apart_is
    ∙ omega (
      arith,
      total-all_added names (shapes_held t) nothing (λ _. refl, λ _. refl, tt, tt) path,
      total_nothing names path,
      same_total (names_with names (shapes_held t)) names left path (Extends-names_with names (shapes_held t)) canonical,
    )
