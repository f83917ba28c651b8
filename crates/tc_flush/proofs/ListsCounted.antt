-- A table behind a list passes the test, where its numbers keep the bounds.
use Rattle.std.proofs.Common.{◌≡◌, ◌*◌, ◌<◌, ◌≤◌, ◌^◌, List, [], ◌∷◌, ◌++◌, length, sym, ap, ◌∙◌, arith, Option, Some, None}
use Rattle.std.specs.Prelude.{All, IfSome}
use Rattle.std.proofs.lemmas.List.Elements.{All-nil, All-cons, All-head, All-tail}
use Rattle.tc_model.specs.Document.{Document}
use Rattle.tc_schema_model.specs.Occurrences.{Path}
use Rattle.tc_schema_model.specs.Values.{values_in}
use Rattle.tc_schema_model.proofs.ValueBounds.{document_values_at-size}
use Rattle.tc_record.specs.Record.{record_of}
use Rattle.tc_lsm_model.specs.Tables as documents
use Rattle.tc_memory.specs.DocumentTables.{kept_held, kept_table, IsTableOf}
use Rattle.tc_memory.specs.Table.{Table, IsLawfulEntry}
use Rattle.tc_flush.specs.Counting.{held_record, records_kept, IsShort, IsShortDocument}
use Rattle.tc_flush.specs.Flushable.{IsShortRecord}
use Rattle.tc_flush.proofs.CountedTables.{FewValues}
use Rattle.tc_flush.proofs.KeptEntries.{OneDocument, cut, none_left, one_table}

-- ---- documents with short records

pub few_in : FewValues → (docs : List Document) → All IsShortDocument docs → (path : Path) → values_in docs path ≤ length docs * 1073741824
few_in few [] all path = omega arith
few_in few (d ∷ docs) all path =
    let first = All-head IsShortDocument d docs all in
    omega (arith, few_in few docs (All-tail IsShortDocument d docs all) path, document_values_at-size d path, few d (record_of d) first.recorded, first.short)

pub records-short : (t : documents.Table) → All IsShortRecord t → All IsShort (records_kept (kept_table t))
records-short [] all = All-nil IsShort
records-short (e ∷ t) all = step e.1.held (All-head IsShortRecord e t all) (records-short t (All-tail IsShortRecord e t all))
  where
    step : (o : Option Document) → IfSome o (λ d. length (record_of d) < 2 ^ 30) → All IsShort (records_kept (kept_table t)) → All IsShort (held_record (kept_held o) ++ records_kept (kept_table t))
    step None short rest = rest
    step (Some d) short rest = All-cons IsShort (record_of d) (records_kept (kept_table t)) short rest

-- ---- a memory table keeps one table

pub same_table : OneDocument → (kept : Table) → All IsLawfulEntry kept → (x y : documents.Table) → IsTableOf x kept → IsTableOf y kept → x ≡ y
same_table one [] lawful x y of also = none_left x of ∙ sym (none_left y also)
same_table one (e ∷ kept) lawful x y of also =
    let first = cut x e kept of in
    let other = cut y e kept also in
    let here : first.first ∷ [] ≡ other.first ∷ [] = one_table one e (All-head IsLawfulEntry e kept lawful) (first.first ∷ []) (other.first ∷ []) first.first_of other.first_of in
    let rest : first.rest ≡ other.rest = same_table one kept (All-tail IsLawfulEntry e kept lawful) first.rest other.rest first.rest_of other.rest_of in
    first.is ∙ ap (λ t. t ++ first.rest) here ∙ ap (λ t. other.first ∷ t) rest ∙ sym other.is
