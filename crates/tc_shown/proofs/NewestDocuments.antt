-- The table of the newest writes means what the writes leave.
use Rattle.std.proofs.Common.{◌≡◌, ℕ, Bool, true, false, List, [], ◌∷◌, Option, Some, None, refl, sym, ap, ◌∙◌}
use Rattle.std.specs.Prelude.{◌==◌, if◌then◌else◌, All, map, fold}
use Rattle.std.proofs.lemmas.List.Elements.{All-nil, All-head, All-tail}
use Rattle.tc_lsm_model.proofs.TableLaws.{held_in_table, held_below}
use Rattle.tc_lsm_model.specs.Tables as documents
use Rattle.tc_machine.specs.Logs.{kept_write}
use Rattle.tc_machine.specs.Writes.{IsStorableWrite}
use Rattle.tc_memory.specs.DocumentTables.{kept_slot, kept_table, IsStoredAt, IsTableOf}
use Rattle.tc_memory.specs.Table as memory
use Rattle.tc_model.proofs.KeyedEquality.{same_keyed}
use Rattle.tc_model.proofs.KeyedLookups.{value_of-with_value}
use Rattle.tc_model.proofs.KeyedOrder.{sorted_nil, sorted-with_value, All-with_value}
use Rattle.tc_model.proofs.ReadValues.{map-with_value}
use Rattle.tc_model.specs.Document.{Document}
use Rattle.tc_model.specs.Keyed.{Ascends, value_of, with_value}
use Rattle.tc_plain_model.proofs.WriteLookups.{Ascends-after_write, Ascends-after_writes, value_of-after_write}
use Rattle.tc_plain_model.specs.Writes.{Pairs, Write, after_write, after_writes}
use Rattle.tc_shown.specs.Newest.{any_shape, with_write, newest_of}

-- ---- the documents of the table

abbrev slot_of : Option Document → documents.Slot
slot_of (Some d) = documents.slot (Some d) None
slot_of None = documents.slot None (Some any_shape)

abbrev with_document : documents.Table → Write → documents.Table
with_document t w = with_value w.0 (slot_of w.1) t

abbrev documents_of : List Write → documents.Table
documents_of ws = fold with_document [] ws

kept_one : (t : documents.Table) (w : Write) → with_write (kept_table t) (kept_write w) ≡ kept_table (with_document t w)
kept_one t (key, Some d) = sym (map-with_value kept_slot key (slot_of (Some d)) t)
kept_one t (key, None) = sym (map-with_value kept_slot key (slot_of None) t)

kept_all : (t : documents.Table) (ws : List Write) → fold with_write (kept_table t) (map kept_write ws) ≡ kept_table (fold with_document t ws)
kept_all t [] = refl
kept_all t (w ∷ ws) = ap (λ kept. fold with_write kept (map kept_write ws)) (kept_one t w) ∙ kept_all (with_document t w) ws

stored_one : (w : Write) → IsStorableWrite w → IsStoredAt (w.0, slot_of w.1)
stored_one (key, Some d) is = (is.document, is.storable)
stored_one (key, None) is = tt

stored_all : (t : documents.Table) (ws : List Write) → All IsStoredAt t → All IsStorableWrite ws → All IsStoredAt (fold with_document t ws)
stored_all t [] all storable = all
stored_all t (w ∷ ws) all storable =
    stored_all (with_document t w) ws (All-with_value IsStoredAt w.0 (slot_of w.1) t (stored_one w (All-head IsStorableWrite w ws storable)) all) (All-tail IsStorableWrite w ws storable)

-- ---- what it shows

held_there : (o : Option Document) → (slot_of o).held ≡ o
held_there (Some d) = refl
held_there None = refl

-- what a key has with the table over what is stored, after a write
shown_one : (k : ℕ) (p : Pairs) (t : documents.Table) (w : Write) → Ascends p → Ascends t → value_of k (documents.over p (with_document t w)) ≡ value_of k (after_write (documents.over p t) w)
shown_one k p t w up table =
    step (k == w.0) (value_of k (with_document t w)) refl (value_of-with_value k w.0 (slot_of w.1) t)
    ∙ sym (value_of-after_write k (documents.over p t) w (Ascends-after_writes p (documents.writes_of t) up))
  where
    now : Ascends (with_document t w)
    now = sorted-with_value w.0 (slot_of w.1) t table

    same : (found : Option documents.Slot) → value_of k t ≡ found → value_of k (with_document t w) ≡ found → value_of k (documents.over p (with_document t w)) ≡ value_of k (documents.over p t)
    same (Some s) was is = held_in_table p (with_document t w) k s up now is ∙ sym (held_in_table p t k s up table was)
    same None was is = held_below p (with_document t w) k up now is ∙ sym (held_below p t k up table was)

    step : (b : Bool) (found : Option documents.Slot) → value_of k (with_document t w) ≡ found → found ≡ (if b then Some (slot_of w.1) else value_of k t)
        → value_of k (documents.over p (with_document t w)) ≡ (if b then w.1 else value_of k (documents.over p t))
    step true found is left = held_in_table p (with_document t w) k (slot_of w.1) up now (is ∙ left) ∙ held_there w.1
    step false found is left = same (value_of k t) refl (is ∙ left)

shown_all : (p : Pairs) (t : documents.Table) (ws : List Write) → Ascends p → Ascends t → documents.over p (fold with_document t ws) ≡ after_writes (documents.over p t) ws
shown_all p t [] up table = refl
shown_all p t (w ∷ ws) up table =
    shown_all p (with_document t w) ws up (sorted-with_value w.0 (slot_of w.1) t table)
    ∙ ap (λ q. after_writes q ws)
    (same_keyed (documents.over p (with_document t w)) (after_write (documents.over p t) w)
    (Ascends-after_writes p (documents.writes_of (with_document t w)) up)
    (Ascends-after_write (documents.over p t) w (Ascends-after_writes p (documents.writes_of t) up))
    (λ k. shown_one k p t w up table))

-- The table keeps documents that, over what is stored, show what the writes leave of it.
pub record Leaves (ws : List Write) (kept : memory.Table) : Type 0 where
  pub table : documents.Table
  pub of : IsTableOf table kept
  pub over : (pairs : Pairs) → Ascends pairs → documents.over pairs table ≡ after_writes pairs ws

pub newest_means : (ws : List Write) → All IsStorableWrite ws → Leaves ws (newest_of (map kept_write ws))
newest_means ws storable = record {
  table = documents_of ws;
  of = record { is = kept_all [] ws; stored = stored_all [] ws (All-nil IsStoredAt) storable };
  over = λ pairs up. let none : Ascends {V = documents.Slot} [] = sorted_nil in shown_all pairs [] ws up none;
}
