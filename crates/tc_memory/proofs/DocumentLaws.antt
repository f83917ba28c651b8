-- A write to a table of documents is the call of the memory table with the record.
use Rattle.std.proofs.Common.{◌≡◌, ℕ, [], ◌∷◌, refl, sym, ap, ◌∙◌, subst, Option, Some, None}
use Rattle.std.specs.Prelude.{if◌then◌else◌, option_map, is_some, All}
use Rattle.std.specs.List.Sorted.{IsStrictlySortedBy}
use Rattle.std.specs.Map.{keys_of}
use Rattle.std.specs.Ordering.{nat_cmp}
use Rattle.std.proofs.lemmas.List.Elements.{All-nil, All-cons, All-head, All-tail}
use Rattle.tc_model.specs.Document.{Document, IsDocument, ShapeTree}
use Rattle.tc_model.specs.Keyed.{Ascends, value_of, with_value, without_key}
use Rattle.tc_model.specs.Stored.{IsStorable}
use Rattle.tc_model.proofs.ReadValues.{value_of-read, map-with_value, map-without_key}
use Rattle.tc_model.proofs.KeyedOrder.{All-with_value, All-without_key}
use Rattle.tc_record.specs.Record.{record_of}
use Rattle.tc_lsm_model.specs.Tables as documents
use Rattle.tc_memory.specs.Table.{Held, gone, live, Table, IsTable, IsLawfulKept, IsLawfulEntry, shape_kept, below_at, upserted, deleted}
use Rattle.tc_memory.specs.DocumentTables.{kept_slot, kept_table, IsStoredAt, IsTableOf, OfDocuments}

-- ---- entry by entry

keys_of-kept_table : (t : documents.Table) → keys_of (kept_table t) ≡ keys_of t
keys_of-kept_table [] = refl
keys_of-kept_table (e ∷ t) = ap (λ ks. e.0 ∷ ks) (keys_of-kept_table t)

-- ---- the two calls

shape_kept-kept_slot : (handed : Option ShapeTree) (found : Option documents.Slot) → documents.shape_kept handed found ≡ shape_kept handed (option_map kept_slot found)
shape_kept-kept_slot handed None = refl
shape_kept-kept_slot handed (Some s) = refl

below_at-kept_table : (key : ℕ) (handed : Option ShapeTree) (t : documents.Table) → documents.shape_kept handed (value_of key t) ≡ below_at key handed (kept_table t)
below_at-kept_table key handed t = shape_kept-kept_slot handed (value_of key t) ∙ ap (shape_kept handed) (sym (value_of-read kept_slot key t))

kept-upserted : (below : ℕ → Option ShapeTree) (key : ℕ) (d : Document) (t : documents.Table) → kept_table (documents.table_with below t (key, Some d)) ≡ upserted key (record_of d) (below key) (kept_table t)
kept-upserted below key d t =
    map-with_value kept_slot key (documents.slot (Some d) (documents.shape_kept (below key) (value_of key t))) t
    ∙ ap (λ b. with_value key (record { held = live (record_of d); below = b }) (kept_table t)) (below_at-kept_table key (below key) t)

kept-gone_at : (key : ℕ) (o : Option ShapeTree) (t : documents.Table) → kept_table (documents.gone_at key o t) ≡ (if is_some o then with_value key (record { held = gone; below = o }) (kept_table t) else without_key key (kept_table t))
kept-gone_at key None t = map-without_key kept_slot key t
kept-gone_at key (Some shape) t = map-with_value kept_slot key (documents.slot None (Some shape)) t

kept-deleted : (below : ℕ → Option ShapeTree) (key : ℕ) (t : documents.Table) → kept_table (documents.table_with below t (key, None)) ≡ deleted key (below key) (kept_table t)
kept-deleted below key t =
    kept-gone_at key (documents.shape_kept (below key) (value_of key t)) t
    ∙ ap (λ b. if is_some b then with_value key (record { held = gone; below = b }) (kept_table t) else without_key key (kept_table t)) (below_at-kept_table key (below key) t)

-- ---- documents that may be stored

IsTableOf-nil : IsTableOf [] []
IsTableOf-nil = record { is = refl; stored = All-nil IsStoredAt }

stored-gone_at : (key : ℕ) (o : Option ShapeTree) (t : documents.Table) → All IsStoredAt t → All IsStoredAt (documents.gone_at key o t)
stored-gone_at key None t all = All-without_key IsStoredAt key t all
stored-gone_at key (Some shape) t all = All-with_value IsStoredAt key (documents.slot None (Some shape)) t tt all

pub IsTableOf-upserted : (below : ℕ → Option ShapeTree) (key : ℕ) (d : Document) (t : documents.Table) (kept : Table) → IsDocument d → IsStorable d → IsTableOf t kept
    → IsTableOf (documents.table_with below t (key, Some d)) (upserted key (record_of d) (below key) kept)
IsTableOf-upserted below key d t kept document storable of = record {
  is = ap (upserted key (record_of d) (below key)) of.is ∙ sym (kept-upserted below key d t);
  stored = All-with_value IsStoredAt key (documents.slot (Some d) (documents.shape_kept (below key) (value_of key t))) t (document, storable) of.stored;
}

pub IsTableOf-deleted : (below : ℕ → Option ShapeTree) (key : ℕ) (t : documents.Table) (kept : Table) → IsTableOf t kept → IsTableOf (documents.table_with below t (key, None)) (deleted key (below key) kept)
IsTableOf-deleted below key t kept of = record {
  is = ap (deleted key (below key)) of.is ∙ sym (kept-deleted below key t);
  stored = stored-gone_at key (documents.shape_kept (below key) (value_of key t)) t of.stored;
}

-- ---- each lawful table keeps documents

one_document : (held : Held) (below : Option ShapeTree) → IsLawfulKept held below → (key : ℕ) (kept : Table) → OfDocuments kept → OfDocuments ((key, record { held = held; below = below }) ∷ kept)
one_document gone below lawful key kept rest = record {
  table = (key, documents.slot None below) ∷ rest.table;
  of = record { is = ap (λ t. (key, record { held = gone; below = below }) ∷ t) rest.of.is; stored = All-cons IsStoredAt (key, documents.slot None below) rest.table tt rest.of.stored };
}
one_document (live bytes) below lawful key kept rest = record {
  table = (key, documents.slot (Some lawful.document) below) ∷ rest.table;
  of = record {
    is = ap (λ t. (key, record { held = live bytes; below = below }) ∷ t) rest.of.is
        ∙ ap (λ b. (key, record { held = live b; below = below }) ∷ kept_table rest.table) lawful.is_record.spelled;
    stored = All-cons IsStoredAt (key, documents.slot (Some lawful.document) below) rest.table (lawful.is_record.document, (lawful.is_record.shallow, lawful.keyless)) rest.of.stored;
  };
}

pub documents_of : (kept : Table) → All IsLawfulEntry kept → OfDocuments kept
documents_of [] all = record { table = []; of = IsTableOf-nil }
documents_of (e ∷ kept) all =
    one_document e.1.held e.1.below (All-head IsLawfulEntry e kept all).lawful e.0 kept (documents_of kept (All-tail IsLawfulEntry e kept all))

pub found_kept : (t : documents.Table) (kept : Table) (k : ℕ) → IsTableOf t kept → value_of k kept ≡ option_map kept_slot (value_of k t)
found_kept t kept k of = ap (value_of k) of.is ∙ value_of-read kept_slot k t

pub ascends_kept : (t : documents.Table) (kept : Table) → IsTableOf t kept → IsTable kept → Ascends t
ascends_kept t kept of table = subst (λ ks. IsStrictlySortedBy nat_cmp ks) (ap keys_of of.is ∙ keys_of-kept_table t) table.ascending
