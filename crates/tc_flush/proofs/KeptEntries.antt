-- The documents of kept entries, one by one.
use Rattle.std.proofs.Common.{◌≡◌, ◌<◌, ◌^◌, ℕ, List, [], ◌∷◌, length, refl, sym, ap, ◌∙◌, Option, Some, None}
use Rattle.std.specs.Prelude.{IfSome}
use Rattle.std.proofs.lemmas.List.Elements.{All-nil, All-cons, All-head, All-tail}
use Rattle.tc_model.specs.Document.{Document, ShapeTree, IsDocument}
use Rattle.tc_model.specs.Stored.{IsStorable, IsKeyless}
use Rattle.tc_model.proofs.StoredDocuments.{keyless_object}
use Rattle.tc_record.specs.Record.{record_of, IsRecordOf}
use Rattle.tc_lsm_model.specs.Tables as documents
use Rattle.tc_memory.specs.Table.{Held, Kept, Table, gone, live, IsLawfulKept, IsLawfulEntry}
use Rattle.tc_memory.specs.DocumentTables.{kept_held, kept_slot, kept_table, IsStoredAt, IsTableOf}

-- ---- a table of one entry

-- the document of a live entry
pub record IsLive (key : ℕ) (bytes : List ℕ) (below : Option ShapeTree) (t : documents.Table) : Type 0 where
  pub document : Document
  pub is : t ≡ (key, documents.slot (Some document) below) ∷ []
  pub spelled : bytes ≡ record_of document
  pub stored : IsDocument document × IsStorable document

-- kept entries, and the document's
first_kept : (x : ℕ × documents.Slot) (t : documents.Table) (e : ℕ × Kept) (kept : Table) → e ∷ kept ≡ kept_table (x ∷ t) → e ≡ (x.0, kept_slot x.1)
first_kept x t e kept is = cc

rest_kept : (x : ℕ × documents.Slot) (t : documents.Table) (e : ℕ × Kept) (kept : Table) → e ∷ kept ≡ kept_table (x ∷ t) → kept ≡ kept_table t
rest_kept x t e kept is = cc

-- a table cut behind its first entry
pub record IsCut (t : documents.Table) (e : ℕ × Kept) (kept : Table) : Type 0 where
  pub first : ℕ × documents.Slot
  pub rest : documents.Table
  pub is : t ≡ first ∷ rest
  pub first_of : IsTableOf (first ∷ []) (e ∷ [])
  pub rest_of : IsTableOf rest kept

pub cut : (t : documents.Table) (e : ℕ × Kept) (kept : Table) → IsTableOf t (e ∷ kept) → IsCut t e kept
cut [] e kept of = absurd (nothing of.is)
  where
    nothing : e ∷ kept ≡ kept_table [] → ⊥
    nothing is = cc
cut (x ∷ t) e kept of = record {
  first = x;
  rest = t;
  is = refl;
  first_of = record { is = ap (λ f. f ∷ []) (first_kept x t e kept of.is); stored = All-cons IsStoredAt x [] (All-head IsStoredAt x t of.stored) (All-nil IsStoredAt) };
  rest_of = record { is = rest_kept x t e kept of.is; stored = All-tail IsStoredAt x t of.stored };
}

pub none_left : (t : documents.Table) → IsTableOf t [] → t ≡ []
none_left [] of = refl
none_left (x ∷ t) of = absurd (something of.is)
  where
    something : [] ≡ kept_table (x ∷ t) → ⊥
    something is = cc

held_live : (held : Option Document) (bytes : List ℕ) → live bytes ≡ kept_held held → IfSome held (λ d. IsDocument d × IsStorable d) → (key : ℕ) (below : Option ShapeTree) → IsLive key bytes below ((key, documents.slot held below) ∷ [])
held_live None bytes is stored key below = absurd (cc)
held_live (Some d) bytes is stored key below = record { document = d; is = refl; spelled = cc; stored = stored }

held_gone : (held : Option Document) → gone ≡ kept_held held → held ≡ None
held_gone None is = refl
held_gone (Some d) is = absurd (cc)

pub live_entry : (key : ℕ) (bytes : List ℕ) (below : Option ShapeTree) (t : documents.Table) → IsTableOf t ((key, record { held = live bytes; below = below }) ∷ []) → IsLive key bytes below t
live_entry key bytes below [] of = absurd (nothing of.is)
  where
    nothing : (key, record { held = live bytes; below = below }) ∷ [] ≡ kept_table [] → ⊥
    nothing is = cc
live_entry key bytes below (x ∷ y ∷ t) of = absurd (more of.is)
  where
    more : (key, record { held = live bytes; below = below }) ∷ [] ≡ kept_table (x ∷ y ∷ t) → ⊥
    more is = cc
live_entry key bytes below ((k, s) ∷ []) of =
    let same : (key, record { held = live bytes; below = below }) ≡ (k, kept_slot s) = first_kept (k, s) [] (key, record { held = live bytes; below = below }) [] of.is in
    rw (ap (λ e. e.0) same, ap (λ e. e.1.below) same) (held_live s.held bytes (ap (λ e. e.1.held) same) (All-head IsStoredAt (k, s) [] of.stored) k s.below)

pub gone_entry : (key : ℕ) (below : Option ShapeTree) (t : documents.Table) → IsTableOf t ((key, record { held = gone; below = below }) ∷ []) → t ≡ (key, documents.slot None below) ∷ []
gone_entry key below [] of = absurd (nothing of.is)
  where
    nothing : (key, record { held = gone; below = below }) ∷ [] ≡ kept_table [] → ⊥
    nothing is = cc
gone_entry key below (x ∷ y ∷ t) of = absurd (more of.is)
  where
    more : (key, record { held = gone; below = below }) ∷ [] ≡ kept_table (x ∷ y ∷ t) → ⊥
    more is = cc
gone_entry key below ((k, s) ∷ []) of =
    let same : (key, record { held = gone; below = below }) ≡ (k, kept_slot s) = first_kept (k, s) [] (key, record { held = gone; below = below }) [] of.is in
    rw (ap (λ e. e.0) same, ap (λ e. e.1.below) same) (ap (λ h. (k, documents.slot h s.below) ∷ []) (held_gone s.held (ap (λ e. e.1.held) same)))

-- the table of one live entry

pub IsTableOf-live : (key : ℕ) (bytes : List ℕ) (below : Option ShapeTree) (d : Document) → IsRecordOf d bytes → IsKeyless d → IsTableOf ((key, documents.slot (Some d) below) ∷ []) ((key, record { held = live bytes; below = below }) ∷ [])
IsTableOf-live key bytes below d is keyless = record {
  is = ap (λ b. (key, record { held = live b; below = below }) ∷ []) is.spelled;
  stored = All-cons IsStoredAt (key, documents.slot (Some d) below) [] (is.document, (is.shallow, keyless)) (All-nil IsStoredAt);
}

pub recorded : (d : Document) (bytes : List ℕ) → IsDocument d → IsStorable d → bytes ≡ record_of d → length bytes < 2 ^ 32 → IsRecordOf d bytes
recorded d bytes document storable spelled short = record { document = document; is_object = keyless_object d storable.1; shallow = storable.0; spelled = spelled; short = short }

-- a lawful entry is that of one table
abbrev pub OneDocument : Type 0
OneDocument = (d e : Document) (bytes : List ℕ) → IsRecordOf d bytes → IsRecordOf e bytes → d ≡ e

one_held : OneDocument → (key : ℕ) (held : Held) (below : Option ShapeTree) → IsLawfulKept held below → (x y : documents.Table)
    → IsTableOf x ((key, record { held = held; below = below }) ∷ []) → IsTableOf y ((key, record { held = held; below = below }) ∷ []) → x ≡ y
one_held one key gone below lawful x y of also = gone_entry key below x of ∙ sym (gone_entry key below y also)
one_held one key (live bytes) below lawful x y of also =
    let first = live_entry key bytes below x of in
    let other = live_entry key bytes below y also in
    let short : length bytes < 2 ^ 32 = lawful.is_record.short in
    let same : first.document ≡ other.document =
    one first.document other.document bytes (recorded first.document bytes first.stored.0 first.stored.1 first.spelled short) (recorded other.document bytes other.stored.0 other.stored.1 other.spelled short) in
    first.is ∙ ap (λ d. (key, documents.slot (Some d) below) ∷ []) same ∙ sym other.is

pub one_table : OneDocument → (e : ℕ × Kept) → IsLawfulEntry e → (x y : documents.Table) → IsTableOf x (e ∷ []) → IsTableOf y (e ∷ []) → x ≡ y
one_table one e lawful x y of also = one_held one e.0 e.1.held e.1.below lawful.lawful x y of also
