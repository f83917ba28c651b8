-- Writes that wait, and the frame that they are for.
use Rattle.std.proofs.Common.{◌≡◌, ◌∙◌, ◌<◌, ◌+◌, ◌^◌, ℕ, List, [], ◌∷◌, ◌++◌, Some, None, length, refl, sym, ap, subst, arith, length-append, append-nil}
use Rattle.std.specs.List.{AllByRecursion}
use Rattle.std.proofs.lemmas.List.{nil_from_length}
use Rattle.std.proofs.lemmas.List.Concat.{flat_map-append}
use Rattle.tc_record.specs.StoredRecord.{IsStoredRecord}
use Rattle.tc_log.specs.declared.write.Write.{Write}
use Rattle.tc_log.specs.declared.write.Write.TheVariants.{Upsert, Delete}
use Rattle.std.specs.Int.{w64, to_be_bytes}
use Rattle.tc_log.specs.Layout.{upsert_tag}
use Rattle.tc_log.specs.Spelling.{body_bytes, entry_bytes}
use Rattle.tc_log.specs.Writes.{IsWrite}
use Rattle.tc_plain_model.specs.Writes.{Write as PlainWrite}
use Rattle.tc_machine.specs.Logs.{kept_write}
use Rattle.tc_machine.specs.Writes.{IsStorableWrite}
use Rattle.tc_part_model.specs.PartState.{AreForFrame}
use Rattle.part_rows.specs.Waiting.{IsShortWrite, AreWaiting}

-- ---- one write

-- a write that a log takes is that of a document which may be stored
pub record IsOfDocument (write : Write) : Type 0 where
  pub plain : PlainWrite
  pub storable : IsStorableWrite plain
  pub is : write ≡ kept_write plain

upsert_document : (key : ℕ) (bytes : List ℕ) → key < 2 ^ 63 → length bytes < 2 ^ 30 → IsStoredRecord bytes → IsOfDocument (Upsert key bytes)
upsert_document key bytes low short stored = record {
  plain = (key, Some stored.document);
  storable = record {
    key = low;
    document = stored.is_record.document;
    storable = (stored.is_record.shallow, stored.keyless);
    short = subst (λ (bs : List ℕ). length bs < 2 ^ 30) stored.is_record.spelled short;
  };
  is = ap (Upsert key) stored.is_record.spelled;
}

pub of_document : (write : Write) → IsShortWrite write → IsOfDocument write
of_document (Upsert key bytes) is = upsert_document key bytes is.lawful.key (omega (arith, is.short, length-append (to_be_bytes w64 key) (upsert_tag ∷ bytes))) is.lawful.held
of_document (Delete key) is = record { plain = (key, None); storable = record { key = is.lawful.key; document = tt; storable = tt; short = tt }; is = refl }

-- ---- several

each_more : (P : Write → Type 0) (ws : List Write) (w : Write) → AllByRecursion P ws → P w → AllByRecursion P (ws ++ w ∷ [])
each_more P [] w each is = (is, tt)
each_more P (v ∷ ws) w each is = (each.0, each_more P ws w each.1 is)

-- one more
pub waiting_more : (ws : List Write) (w : Write) (n : ℕ) → AreWaiting ws n → IsShortWrite w → AreWaiting (ws ++ w ∷ []) (n + 1)
waiting_more ws w n are is =
    let longer : length (body_bytes (ws ++ w ∷ [])) ≡ length (body_bytes ws) + length (entry_bytes w) =
    ap length (flat_map-append entry_bytes ws (w ∷ [])) ∙ length-append (body_bytes ws) (entry_bytes w ++ []) ∙ ap (λ (bs : List ℕ). length (body_bytes ws) + length bs) (append-nil (entry_bytes w)) in
    record {
      each = each_more IsWrite ws w are.each is.lawful;
      few = omega (arith, are.few, length-append ws (w ∷ []));
      short = omega (arith, are.short, is.short, longer);
    }

-- also where one more could wait
pub waiting_less : (ws : List Write) (n : ℕ) → AreWaiting ws n → AreWaiting ws (n + 1)
waiting_less ws n are = record { each = are.each; few = omega (arith, are.few); short = omega (arith, are.short) }

pub none_waits : (ws : List Write) (n : ℕ) → ws ≡ [] → AreWaiting ws n
none_waits ws n none = subst (λ (ws : List Write). AreWaiting ws n) (sym none) (record { each = tt; few = omega arith; short = omega arith })

-- below the most, a frame takes them and one more
pub for_frame : (ws : List Write) (w : Write) (n : ℕ) → n < 1024 → AreWaiting ws n → IsShortWrite w → AreForFrame (ws ++ w ∷ [])
for_frame ws w n below are is =
    let more = waiting_more ws w n are is in
    record { few = omega (arith, below, more.few); each = more.each; short = omega (arith, below, more.short) }

-- nothing waits where nothing can
pub nothing_waits : (ws : List Write) (n : ℕ) → AreWaiting ws n → n ≡ 0 → ws ≡ []
nothing_waits ws n waits zero = nil_from_length ws (omega (arith, waits.few, zero))
