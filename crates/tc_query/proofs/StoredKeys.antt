-- What is stored of one key, by what the tables hold of it and by what is live in the components.
use Rattle.std.proofs.Common.{◌≡◌, ℕ, List, Option, Some, None, refl, sym, ap, ◌∙◌, subst}
use Rattle.std.specs.Prelude.{option_map, IfSome}
use Rattle.std.specs.Option.{option_or}
use Rattle.std.proofs.lemmas.Option.{same_Some}
use Rattle.tc_component.specs.Loading.{ComponentState}
use Rattle.tc_lsm_model.proofs.ListLaws.{Ascends-live}
use Rattle.tc_lsm_model.proofs.TableLaws.{held_in_table, held_below}
use Rattle.tc_lsm_model.specs.Lists.{live}
use Rattle.tc_lsm_model.specs.Tables as documents
use Rattle.tc_memory.proofs.DocumentLaws.{found_kept, ascends_kept}
use Rattle.tc_memory.specs.DocumentTables.{kept_held, kept_slot, IsStoredAt, IsTableOf}
use Rattle.tc_memory.specs.Table as memory
use Rattle.tc_model.proofs.KeyedEquality.{of_found}
use Rattle.tc_model.proofs.StoredDocuments.{keyless_object}
use Rattle.tc_model.specs.Document.{Document, IsDocument}
use Rattle.tc_model.specs.Keyed.{Ascends, value_of}
use Rattle.tc_model.specs.Stored.{IsStorable}
use Rattle.tc_plain_model.proofs.WriteLookups.{Ascends-after_writes}
use Rattle.tc_plain_model.specs.Writes.{Pairs}
use Rattle.tc_query.proofs.ShownKeys.{no_active, no_sealed}
use Rattle.tc_query.specs.Shown.{held_in, held_sealed, held_newest}
use Rattle.tc_query.specs.Stored.{over_sealed, IsSealedOf, Holds}
use Rattle.tc_record.specs.Record.{record_of, IsRecordOf}
use Rattle.tc_record.specs.StoredRecord.{IsStoredRecord}

-- ---- one table

-- what a table that has the key holds of it, as a document or that it is gone
pub record Kept (pairs : Pairs) (key : ℕ) (held : memory.Held) : Type 0 where
  pub document : Option Document
  pub is : kept_held document ≡ held
  pub stored : value_of key pairs ≡ document
  pub storable : IfSome document (λ d. IsDocument d × IsStorable d)

table_held : (base : Pairs) (t : documents.Table) (kept : memory.Table) (key : ℕ) (held : memory.Held) → Ascends base → IsTableOf t kept → memory.IsTable kept → held_in key kept ≡ Some held → Kept (documents.over base t) key held
table_held base t kept key held up of table is = at (value_of key t) refl
  where
    same : held_in key kept ≡ option_map (λ k. k.held) (option_map kept_slot (value_of key t))
    same = ap (option_map (λ k. k.held)) (found_kept t kept key of)

    at : (o : Option documents.Slot) → value_of key t ≡ o → Kept (documents.over base t) key held
    at None none = let both : None ≡ Some held = sym (same ∙ ap (λ o. option_map (λ k. k.held) (option_map kept_slot o)) none) ∙ is in absurd (cc)
    at (Some s) there = record {
      document = s.held;
      is = same_Some (kept_held s.held) held (sym (same ∙ ap (λ o. option_map (λ k. k.held) (option_map kept_slot o)) there) ∙ is);
      stored = held_in_table base t key s up (ascends_kept t kept of table) there;
      storable = of_found IsStoredAt t key s of.stored there;
    }

table_none : (base : Pairs) (t : documents.Table) (kept : memory.Table) (key : ℕ) → Ascends base → IsTableOf t kept → memory.IsTable kept → held_in key kept ≡ None → value_of key (documents.over base t) ≡ value_of key base
table_none base t kept key up of table is = at (value_of key t) refl
  where
    at : (o : Option documents.Slot) → value_of key t ≡ o → value_of key (documents.over base t) ≡ value_of key base
    at None none = held_below base t key up (ascends_kept t kept of table) none
    at (Some s) there =
        let both : None ≡ Some (kept_held s.held) = sym is ∙ ap (option_map (λ k. k.held)) (found_kept t kept key of) ∙ ap (λ o. option_map (λ k. k.held) (option_map kept_slot o)) there in
        absurd (cc)

-- ---- the sealed table, if there is one

Ascends-sealed : (base : Pairs) (t : Option documents.Table) → Ascends base → Ascends (over_sealed base t)
Ascends-sealed base None up = up
Ascends-sealed base (Some t) up = Ascends-after_writes base (documents.writes_of t) up

sealed_held : (base : Pairs) (t : Option documents.Table) (kept : Option memory.Table) (key : ℕ) (held : memory.Held) → Ascends base → IsSealedOf t kept → IfSome kept memory.IsTable → held_sealed key kept ≡ Some held
    → Kept (over_sealed base t) key held
sealed_held base None None key held up of table is = absurd (cc)
sealed_held base None (Some kept) key held up of table is = absurd of
sealed_held base (Some t) None key held up of table is = absurd of
sealed_held base (Some t) (Some kept) key held up of table is = table_held base t kept key held up of table is

sealed_none : (base : Pairs) (t : Option documents.Table) (kept : Option memory.Table) (key : ℕ) → Ascends base → IsSealedOf t kept → IfSome kept memory.IsTable → held_sealed key kept ≡ None
    → value_of key (over_sealed base t) ≡ value_of key base
sealed_none base None None key up of table is = refl
sealed_none base None (Some kept) key up of table is = absurd of
sealed_none base (Some t) None key up of table is = absurd of
sealed_none base (Some t) (Some kept) key up of table is = table_none base t kept key up of table is

-- ---- all sources

kept_alike : (one other : Pairs) (key : ℕ) (held : memory.Held) → value_of key one ≡ value_of key other → Kept other key held → Kept one key held
kept_alike one other key held same k = record { document = k.document; is = k.is; stored = same ∙ k.stored; storable = k.storable }

-- the record that a table keeps is that of the document
pub record IsRecordAt (pairs : Pairs) (key : ℕ) (bytes : List ℕ) : Type 0 where
  pub document : Document
  pub stored : value_of key pairs ≡ Some document
  pub spells : IsRecordOf document bytes

kept_live : (pairs : Pairs) (key : ℕ) (bytes : List ℕ) → IsStoredRecord bytes → Kept pairs key (memory.live bytes) → IsRecordAt pairs key bytes
kept_live pairs key bytes lawful k = at k.document k.is k.stored k.storable
  where
    at : (o : Option Document) → kept_held o ≡ memory.live bytes → value_of key pairs ≡ o → IfSome o (λ d. IsDocument d × IsStorable d) → IsRecordAt pairs key bytes
    at None is stored storable = absurd (cc)
    at (Some d) is stored storable =
        let spelled : bytes ≡ record_of d = cc in
        record { document = d; stored = stored; spells = record { document = storable.0; is_object = keyless_object d storable.1.1; shallow = storable.1.0; spelled = spelled; short = lawful.is_record.short } }

kept_gone : (pairs : Pairs) (key : ℕ) → Kept pairs key memory.gone → value_of key pairs ≡ None
kept_gone pairs key k = k.stored ∙ at k.document k.is
  where
    at : (o : Option Document) → kept_held o ≡ memory.gone → o ≡ None
    at None is = refl
    at (Some d) is = cc

module _ {F : Type 0} (told : F → Option (List ℕ)) (cs : List (ComponentState F)) (sealed : Option memory.Table) (active : memory.Table) (pairs : Pairs) (h : Holds told cs sealed active pairs)
    (sealed_is : IfSome sealed memory.IsTable) (active_is : memory.IsTable active) (key : ℕ) where
  base_up : Ascends (live h.contents)
  base_up = Ascends-live h.contents

  below_up : Ascends (over_sealed (live h.contents) h.below)
  below_up = Ascends-sealed (live h.contents) h.below base_up

  same : value_of key pairs ≡ value_of key (documents.over (over_sealed (live h.contents) h.below) h.newest)
  same = ap (value_of key) h.stored

  held : (what : memory.Held) → held_newest key sealed active ≡ Some what → Kept pairs key what
  held what is = at (held_in key active) refl
    where
      at : (o : Option memory.Held) → held_in key active ≡ o → Kept pairs key what
      at (Some first) there =
          let newest : held_in key active ≡ Some what = there ∙ sym (ap (λ o. option_or o (held_sealed key sealed)) there) ∙ is in
          kept_alike pairs _ key what same (table_held (over_sealed (live h.contents) h.below) h.newest active key what below_up h.active_is active_is newest)
      at None none =
          let older : held_sealed key sealed ≡ Some what = sym (ap (λ o. option_or o (held_sealed key sealed)) none) ∙ is in
          kept_alike pairs _ key what (same ∙ table_none (over_sealed (live h.contents) h.below) h.newest active key below_up h.active_is active_is none)
          (sealed_held (live h.contents) h.below sealed key what base_up h.sealed_is sealed_is older)

  pub stored_live : (bytes : List ℕ) → held_newest key sealed active ≡ Some (memory.live bytes) → IsStoredRecord bytes → IsRecordAt pairs key bytes
  stored_live bytes is lawful = kept_live pairs key bytes lawful (held (memory.live bytes) is)

  pub stored_gone : held_newest key sealed active ≡ Some memory.gone → value_of key pairs ≡ None
  stored_gone is = kept_gone pairs key (held memory.gone is)

  pub stored_listed : held_newest key sealed active ≡ None → value_of key pairs ≡ value_of key (live h.contents)
  stored_listed none =
      same ∙ table_none (over_sealed (live h.contents) h.below) h.newest active key below_up h.active_is active_is (no_active key sealed active none)
      ∙ sealed_none (live h.contents) h.below sealed key base_up h.sealed_is sealed_is (no_sealed key sealed active none)

pub Ascends-stored : {F : Type 0} (told : F → Option (List ℕ)) (cs : List (ComponentState F)) (sealed : Option memory.Table) (active : memory.Table) (pairs : Pairs) → Holds told cs sealed active pairs → Ascends pairs
Ascends-stored told cs sealed active pairs h =
    subst Ascends (sym h.stored) (Ascends-after_writes (over_sealed (live h.contents) h.below) (documents.writes_of h.newest) (Ascends-sealed (live h.contents) h.below (Ascends-live h.contents)))
