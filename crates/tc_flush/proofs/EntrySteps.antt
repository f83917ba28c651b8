-- One entry counted and pushed.
use Rattle.std.proofs.Common.{◌≡◌, ◌+◌, ◌<◌, ◌^◌, ℕ, List, [], ◌∷◌, length, append-nil, sym, ap, ◌∙◌, subst, arith, Some, None, Option}
use Rattle.std.proofs.lemmas.List.Elements.{All-head}
use Rattle.tc_model.specs.Dictionary.{Extends, IsDictionary, all_learned}
use Rattle.tc_model.specs.Document.{Name, Document, ShapeTree, document_shape}
use Rattle.tc_model.specs.ShapeNames.{names_within}
use Rattle.tc_model.specs.Stored.{IsKeyless}
use Rattle.tc_schema_model.specs.Added.{added}
use Rattle.tc_schema_model.specs.Counted.{Counted, IsCanonical, total_at}
use Rattle.tc_schema_model.specs.Occurrences.{Path}
use Rattle.tc_schema_model.specs.Values.{values_at}
use Rattle.tc_record.specs.Record.{IsRecordOf}
use Rattle.tc_record.specs.StoredRecord.{IsStoredRecord}
use Rattle.tc_compact.specs.Compacted.{IsCompactedRecordOf}
use Rattle.tc_lsm_model.specs.Tables.{Table, slot, writes_of, shapes_held}
use Rattle.tc_memory.specs.Meaning.{IsLawfulHeld, held_of}
use Rattle.tc_memory.specs.Table.{Kept, IsLawfulKept, gone, live}
use Rattle.tc_memory.specs.declared.held.Held as held
use Rattle.tc_memory.specs.declared.held.Held.TheVariants as variant
use Rattle.tc_memory.specs.DocumentTables.{IsTableOf}
use Rattle.tc_flush.specs.Counting.{names_held}
use Rattle.tc_flush.specs.Flushable.{CanCount, IsShortRecord}
use Rattle.tc_flush.specs.Recounting.{names_with, all_added}
use Rattle.tc_component.specs.Rows.{rows_of}
use Rattle.tc_flush.proofs.KeptEntries.{OneDocument, IsLive, live_entry, gone_entry, IsTableOf-live, recorded}

-- what is lent of a lawful entry
pub lawful_held : (h : held.Held) (below : Option ShapeTree) → IsLawfulKept (held_of h) below → IsLawfulHeld h
lawful_held variant.Gone below lawful = tt
lawful_held (variant.Live bytes) below lawful = lawful

-- ---- an entry whose document is gone

gone_is : (e : ℕ × Kept) → e.1.held ≡ gone → (t : Table) → IsTableOf t (e ∷ []) → t ≡ (e.0, slot None e.1.below) ∷ []
gone_is e is t of = gone_entry e.0 e.1.below t (subst (λ h. IsTableOf t ((e.0, record { held = h; below = e.1.below }) ∷ [])) is of)

pub no_shapes : (e : ℕ × Kept) → e.1.held ≡ gone → (t : Table) → IsTableOf t (e ∷ []) → shapes_held t ≡ []
no_shapes e is t of = ap shapes_held (gone_is e is t of)

pub gone_row : (names : List Name) (e : ℕ × Kept) → e.1.held ≡ gone → (t : Table) → IsTableOf t (e ∷ []) → rows_of names (writes_of t) ≡ (e.0, None) ∷ []
gone_row names e is t of = ap (λ x. rows_of names (writes_of x)) (gone_is e is t of)

-- ---- an entry with a document

module _ (one : OneDocument) (e : ℕ × Kept) (bytes : List ℕ) (held : e.1.held ≡ live bytes) (stored : IsStoredRecord bytes) where
  kept : e ≡ (e.0, record { held = live bytes; below = e.1.below })
  kept = ap (λ h. (e.0, record { held = h; below = e.1.below })) held

  module _ (names : List Name) (schema : Counted) (can : (t : Table) → IsTableOf t (e ∷ []) → CanCount names schema t) where
    can_of : (d : Document) → IsRecordOf d bytes → CanCount names schema ((e.0, slot (Some d) e.1.below) ∷ [])
    can_of d is =
        can ((e.0, slot (Some d) e.1.below) ∷ [])
        (subst (λ x. IsTableOf ((e.0, slot (Some d) e.1.below) ∷ []) (x ∷ [])) (sym kept) (IsTableOf-live e.0 bytes e.1.below d is (subst IsKeyless (one stored.document d bytes stored.is_record is) stored.keyless)))

    pub canonical_of : IsCanonical (length names) schema
    canonical_of = (can_of stored.document stored.is_record).canonical

    pub short_of : length bytes < 2 ^ 30
    short_of =
        subst (λ b. length b < 2 ^ 30) (sym stored.is_record.spelled)
        (All-head IsShortRecord (e.0, slot (Some stored.document) e.1.below) [] (can_of stored.document stored.is_record).short)

    pub counters_of : (d : Document) → IsRecordOf d bytes → (path : Path) → total_at names schema path + values_at (document_shape d) path < 2 ^ 64
    counters_of d is path = omega (arith, (can_of d is).counters path)

    pub room_of : (d : Document) → IsRecordOf d bytes → length (all_learned names (names_within (document_shape d))) < 2 ^ 32
    room_of d is = (can_of d is).known

  -- the document of a table of this entry
  live_is : (t : Table) → IsTableOf t (e ∷ []) → IsLive e.0 bytes e.1.below t
  live_is t of = live_entry e.0 bytes e.1.below t (subst (λ x. IsTableOf t (x ∷ [])) kept of)

  record_is : (t : Table) (of : IsTableOf t (e ∷ [])) → IsRecordOf (live_is t of).document bytes
  record_is t of = let is = live_is t of in recorded is.document bytes is.stored.0 is.stored.1 is.spelled stored.is_record.short

  pub names_are : (names newer : List Name) → ((d : Document) → IsRecordOf d bytes → newer ≡ all_learned names (names_within (document_shape d))) → (t : Table) → IsTableOf t (e ∷ []) → newer ≡ names_with names (shapes_held t)
  names_are names newer learned t of = learned (live_is t of).document (record_is t of) ∙ ap (λ x. names_with names (shapes_held x)) (sym (live_is t of).is)

  pub schema_is : (names newer : List Name) (schema grown : Counted) → ((d : Document) → IsRecordOf d bytes → newer ≡ all_learned names (names_within (document_shape d))) → ((d : Document) → IsRecordOf d bytes → grown ≡ added newer (document_shape d) schema)
      → (t : Table) → IsTableOf t (e ∷ []) → grown ≡ all_added names (shapes_held t) schema
  schema_is names newer schema grown learned counted t of =
      counted (live_is t of).document (record_is t of)
      ∙ ap (λ ns. added ns (document_shape (live_is t of).document) schema) (learned (live_is t of).document (record_is t of))
      ∙ ap (λ x. all_added names (shapes_held x) schema) (sym (live_is t of).is)

  pub row_is : (names newer : List Name) (into : List ℕ) → ((d : Document) (whole bytes : List ℕ) (names newer : List Name) → IsRecordOf d whole → IsCompactedRecordOf names d bytes → IsDictionary newer → Extends newer names → IsCompactedRecordOf newer d bytes)
      → ((d : Document) → IsRecordOf d bytes → IsCompactedRecordOf names d into) → IsDictionary newer → Extends newer names → (t : Table) → IsTableOf t (e ∷ []) → rows_of newer (writes_of t) ≡ (e.0, Some into) ∷ []
  row_is names newer into stays compacts dictionary extends t of =
      let d = (live_is t of).document in
      let is : IsCompactedRecordOf newer d into = stays d bytes into names newer (record_is t of) (compacts d (record_is t of)) dictionary extends in
      ap (λ x. rows_of newer (writes_of x)) (live_is t of).is ∙ ap (λ b. (e.0, Some b) ∷ []) (sym is.numbered.spelled)

  pub members_are : (count : ℕ) → ((d : Document) → IsRecordOf d bytes → count ≡ length (names_within (document_shape d))) → (t : Table) → IsTableOf t (e ∷ []) → count ≡ length (names_held t)
  members_are count counts t of =
      let d = (live_is t of).document in
      counts d (record_is t of) ∙ ap length (sym (append-nil (names_within (document_shape d)))) ∙ ap (λ x. length (names_held x)) (sym (live_is t of).is)
