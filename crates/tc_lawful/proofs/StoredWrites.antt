-- Short records that a log keeps are those of writes that a partition makes.
use Rattle.std.proofs.Common.{◌≡◌, ◌∙◌, ℕ, List, [], ◌∷◌, map, None, Some, length, refl, sym, subst, ap, arith}
use Rattle.std.specs.Prelude.{All}
use Rattle.std.specs.List.{AllByRecursion}
use Rattle.std.proofs.lemmas.List.Elements.{All-append, All-cons, All-head, All-nil, All-tail}
use Rattle.tc_model.specs.Document.{Document}
use Rattle.tc_model.proofs.StoredDocuments.{keyless_object}
use Rattle.tc_record.specs.Record.{record_of}
use Rattle.tc_record.specs.StoredRecord.{IsStoredRecord}
use Rattle.tc_log.specs.declared.write.Write.{Write as LogWrite}
use Rattle.tc_log.specs.declared.write.Write.TheVariants.{Delete, Upsert}
use Rattle.tc_log.specs.Writes.{IsWrite}
use Rattle.tc_plain_model.specs.Writes.{Write}
use Rattle.tc_machine.specs.Logs.{all_writes, kept_write}
use Rattle.tc_machine.specs.Writes.{IsStorableWrite}
use Rattle.tc_machine.proofs.KeptWrites.{all_kept}
use Rattle.tc_machine.proofs.Options.{All-back, All-front}
use Rattle.tc_lawful.specs.Logs.{AreStored, IsShort}

-- ---- one write

-- a write that a log keeps of one that a partition makes
record IsKept (write : LogWrite) : Type 0 where
  stored : Write
  kept : write ≡ kept_write stored
  storable : IsStorableWrite stored

write_found : (write : LogWrite) → IsWrite write → IsShort write → IsKept write
write_found (Upsert key bytes) is short =
    let d = is.held.document in
    let record_is = is.held.is_record in
    let length_is : length (record_of d) ≡ length bytes = ap length (sym record_is.spelled) in
    record {
      stored = (key, Some d);
      kept = ap (Upsert key) record_is.spelled;
      storable = record { key = is.key; document = record_is.document; storable = (record_is.shallow, is.held.keyless); short = omega (arith, length_is, short) };
    }
write_found (Delete key) is short = record { stored = (key, None); kept = refl; storable = record { key = is.key; document = tt; storable = tt; short = tt } }

stored_record : (d : Document) (key : ℕ) → IsStorableWrite (key, Some d) → IsStoredRecord (record_of d)
stored_record d key is = record {
  document = d;
  is_record = record { document = is.document; is_object = keyless_object d is.storable.1; shallow = is.storable.0; spelled = refl; short = omega (arith, is.short) };
  keyless = is.storable.1;
}

write_kept : (w : Write) → IsStorableWrite w → IsWrite (kept_write w) × IsShort (kept_write w)
write_kept (key, Some d) is = (record { key = is.key; held = stored_record d key is }, is.short)
write_kept (key, None) is = (record { key = is.key; held = tt }, tt)

-- ---- the writes of one log

record AreKept (writes : List LogWrite) : Type 0 where
  stored : List Write
  kept : writes ≡ map kept_write stored
  storable : All IsStorableWrite stored

writes_found : (writes : List LogWrite) → AllByRecursion IsWrite writes → AllByRecursion IsShort writes → AreKept writes
writes_found [] are short = record { stored = []; kept = refl; storable = All-nil IsStorableWrite }
writes_found (write ∷ writes) are short =
    let first = write_found write are.0 short.0 in
    let rest = writes_found writes are.1 short.1 in
    record {
      stored = first.stored ∷ rest.stored;
      kept = ap (λ w. w ∷ writes) first.kept ∙ ap (λ ws. kept_write first.stored ∷ ws) rest.kept;
      storable = All-cons IsStorableWrite first.stored rest.stored first.storable rest.storable;
    }

writes_kept : (ws : List Write) → All IsStorableWrite ws → AllByRecursion IsWrite (map kept_write ws) × AllByRecursion IsShort (map kept_write ws)
writes_kept [] all = (tt, tt)
writes_kept (w ∷ ws) all =
    let first = write_kept w (All-head IsStorableWrite w ws all) in
    let rest = writes_kept ws (All-tail IsStorableWrite w ws all) in
    ((first.0, rest.0), (first.1, rest.1))

-- ---- all logs

pub stored_from : (read : List (List LogWrite)) → All (AllByRecursion IsWrite) read → All (AllByRecursion IsShort) read → AreStored read
stored_from [] are short = ([], refl, All-nil IsStorableWrite)
stored_from (writes ∷ read) are short =
    let first = writes_found writes (All-head (AllByRecursion IsWrite) writes read are) (All-head (AllByRecursion IsShort) writes read short) in
    let rest = stored_from read (All-tail (AllByRecursion IsWrite) writes read are) (All-tail (AllByRecursion IsShort) writes read short) in (
      first.stored ∷ rest.0,
      ap (λ ws. ws ∷ read) first.kept ∙ ap (λ logs. map kept_write first.stored ∷ logs) rest.1,
      All-append IsStorableWrite first.stored (all_writes rest.0) first.storable rest.2,
    )

kept_in : (logs : List (List Write)) → All IsStorableWrite (all_writes logs) → All (AllByRecursion IsWrite) (map (map kept_write) logs) × All (AllByRecursion IsShort) (map (map kept_write) logs)
kept_in [] all = (All-nil (AllByRecursion IsWrite), All-nil (AllByRecursion IsShort))
kept_in (ws ∷ logs) all =
    let first = writes_kept ws (All-front IsStorableWrite ws (all_writes logs) all) in
    let rest = kept_in logs (All-back IsStorableWrite ws (all_writes logs) all) in
    (All-cons (AllByRecursion IsWrite) (map kept_write ws) (map (map kept_write) logs) first.0 rest.0, All-cons (AllByRecursion IsShort) (map kept_write ws) (map (map kept_write) logs) first.1 rest.1)

pub writes_from : (read : List (List LogWrite)) → AreStored read → All (AllByRecursion IsWrite) read × All (AllByRecursion IsShort) read
writes_from read stored = subst (λ (logs : List (List LogWrite)). All (AllByRecursion IsWrite) logs × All (AllByRecursion IsShort) logs) (sym stored.1) (kept_in stored.0 stored.2)

pub stored_once : (logs others : List (List Write)) → All IsStorableWrite (all_writes logs) → All IsStorableWrite (all_writes others) → map (map kept_write) logs ≡ map (map kept_write) others → logs ≡ others
stored_once [] [] first second same = refl
stored_once [] (vs ∷ others) first second same = absurd (cc)
stored_once (ws ∷ logs) [] first second same = absurd (cc)
stored_once (ws ∷ logs) (vs ∷ others) first second same =
    let here : map kept_write ws ≡ map kept_write vs = cc in
    let further : map (map kept_write) logs ≡ map (map kept_write) others = cc in
    let one = all_kept ws vs (All-front IsStorableWrite ws (all_writes logs) first) (All-front IsStorableWrite vs (all_writes others) second) here in
    let rest = stored_once logs others (All-back IsStorableWrite ws (all_writes logs) first) (All-back IsStorableWrite vs (all_writes others) second) further in
    ap (λ l. l ∷ logs) one ∙ ap (λ ls. vs ∷ ls) rest
