use Rattle.std.proofs.Common.{◌≡◌, ◌<◌, ◌^◌, ◌++◌, length, sym, ap, ◌∙◌, subst}
use Rattle.tc_model.specs.Document.{Document}
use Rattle.tc_record.specs.Record.{IsRecordOf}
use Rattle.tc_compact.specs.Compacted.{compacted, IsCompactedRecordOf}
use Rattle.tc_component.specs.Building.{HasRows, IsWrittenRecord}
use Rattle.tc_memory.specs.Meaning.{IsLawfulHeld, entry_of, held_of}
use Rattle.tc_flush.specs.Recounting.{names_with, all_added}
use Rattle.tc_flush.proofs.EntrySteps.{no_shapes, gone_row, canonical_of, short_of, counters_of, room_of, names_are, schema_is, row_is}
use Rattle.tc_flush.proofs.Outcomes.{ok_always, ok_then}
use Rattle.tc_flush.proofs.entry.put_entry.Goals as goal

-- ---- an entry with a document

pub compact_counted-requires-clause-short : goal.compact_counted-requires-clause-short
compact_counted-requires-clause-short g c =
    let held = ap held_of c.in-Live.is in
    let stored = subst IsLawfulHeld c.in-Live.is c.requires.lawful in
    let e = entry_of c.args.entry in
    let bytes = c.in-Live.bytes.now in
    let same : c.known-of.result.bytes ≡ bytes = c.known-of.ensures.bytes ∙ c.as_slice.ensures.same in
    subst (λ b. length b < 2 ^ 30) (sym same) (short_of c.one_document.ensures e bytes held stored c.args.names.now c.args.schema.now c.requires.can)

pub compact_counted-requires-clause-canonical : goal.compact_counted-requires-clause-canonical
compact_counted-requires-clause-canonical g c =
    let held = ap held_of c.in-Live.is in
    let stored = subst IsLawfulHeld c.in-Live.is c.requires.lawful in
    let e = entry_of c.args.entry in
    let bytes = c.in-Live.bytes.now in
    let same : c.known-of.result.bytes ≡ bytes = c.known-of.ensures.bytes ∙ c.as_slice.ensures.same in
    canonical_of c.one_document.ensures e bytes held stored c.args.names.now c.args.schema.now c.requires.can

pub compact_counted-requires-clause-counters : goal.compact_counted-requires-clause-counters
compact_counted-requires-clause-counters g c =
    let held = ap held_of c.in-Live.is in
    let stored = subst IsLawfulHeld c.in-Live.is c.requires.lawful in
    let e = entry_of c.args.entry in
    let bytes = c.in-Live.bytes.now in
    let same : c.known-of.result.bytes ≡ bytes = c.known-of.ensures.bytes ∙ c.as_slice.ensures.same in
    λ d is path. counters_of c.one_document.ensures e bytes held stored c.args.names.now c.args.schema.now c.requires.can d (subst (IsRecordOf d) same is) path

pub compact_counted-requires-clause-room : goal.compact_counted-requires-clause-room
compact_counted-requires-clause-room g c =
    let held = ap held_of c.in-Live.is in
    let stored = subst IsLawfulHeld c.in-Live.is c.requires.lawful in
    let e = entry_of c.args.entry in
    let bytes = c.in-Live.bytes.now in
    let same : c.known-of.result.bytes ≡ bytes = c.known-of.ensures.bytes ∙ c.as_slice.ensures.same in
    λ d is. room_of c.one_document.ensures e bytes held stored c.args.names.now c.args.schema.now c.requires.can d (subst (IsRecordOf d) same is)

pub push-requires-in-Live-clause-written : goal.push-requires-in-Live-clause-written
push-requires-in-Live-clause-written g c κs within =
    let held = ap held_of c.in-Live.is in
    let stored = subst IsLawfulHeld c.in-Live.is c.requires.lawful in
    let e = entry_of c.args.entry in
    let bytes = c.in-Live.bytes.now in
    let same : c.known-of.result.bytes ≡ bytes = c.known-of.ensures.bytes ∙ c.as_slice.ensures.same in
    let made = c.in_ok-record-in-Live.ensures.compacted stored.document (subst (IsRecordOf stored.document) (sym same) stored.is_record) in
    subst IsWrittenRecord (sym c.as_slice-in-Live.ensures.same) (compacted c.compact_counted.new.names stored.document, made.numbered)

pub returns-in_ok-record-in-Live-clause-learned : goal.returns-in_ok-record-in-Live-clause-learned
returns-in_ok-record-in-Live-clause-learned g c =
    let held = ap held_of c.in-Live.is in
    let stored = subst IsLawfulHeld c.in-Live.is c.requires.lawful in
    let e = entry_of c.args.entry in
    let bytes = c.in-Live.bytes.now in
    let same : c.known-of.result.bytes ≡ bytes = c.known-of.ensures.bytes ∙ c.as_slice.ensures.same in
    ok_always c.push-in-Live.result _ (names_are c.one_document.ensures e bytes held stored c.args.names.now c.compact_counted.new.names (λ d is. c.in_ok-record-in-Live.ensures.learned d (subst (IsRecordOf d) (sym same) is)))

pub returns-in_ok-record-in-Live-clause-counted : goal.returns-in_ok-record-in-Live-clause-counted
returns-in_ok-record-in-Live-clause-counted g c =
    let held = ap held_of c.in-Live.is in
    let stored = subst IsLawfulHeld c.in-Live.is c.requires.lawful in
    let e = entry_of c.args.entry in
    let bytes = c.in-Live.bytes.now in
    let same : c.known-of.result.bytes ≡ bytes = c.known-of.ensures.bytes ∙ c.as_slice.ensures.same in
    ok_always c.push-in-Live.result _ (schema_is c.one_document.ensures e bytes held stored c.args.names.now c.compact_counted.new.names c.args.schema.now
    c.compact_counted.new.schema (λ d is. c.in_ok-record-in-Live.ensures.learned d (subst (IsRecordOf d) (sym same) is))
    (λ d is. c.in_ok-record-in-Live.ensures.counted d (subst (IsRecordOf d) (sym same) is)))

pub returns-in_ok-record-in-Live-clause-pushed : goal.returns-in_ok-record-in-Live-clause-pushed
returns-in_ok-record-in-Live-clause-pushed g c =
    let held = ap held_of c.in-Live.is in
    let stored = subst IsLawfulHeld c.in-Live.is c.requires.lawful in
    let e = entry_of c.args.entry in
    let bytes = c.in-Live.bytes.now in
    let same : c.known-of.result.bytes ≡ bytes = c.known-of.ensures.bytes ∙ c.as_slice.ensures.same in
    let compacts : (d : Document) → IsRecordOf d bytes → IsCompactedRecordOf c.compact_counted.new.names d c.as_slice-in-Live.result.now = λ d is. subst
    (IsCompactedRecordOf c.compact_counted.new.names d) (sym c.as_slice-in-Live.ensures.same)
    (c.in_ok-record-in-Live.ensures.compacted d (subst (IsRecordOf d) (sym same) is)) in
    ok_then c.push-in-Live.result _ _
    (λ pushed t newer rows of dictionary extends has.
    subst (λ rs. HasRows (g.D.Device.history c.push-in-Live.new.self.device) c.push-in-Live.new.self (rows ++ rs))
    (sym (row_is c.one_document.ensures e bytes held stored c.compact_counted.new.names newer c.as_slice-in-Live.result.now (c.round_trip.ensures.stays 2) compacts dictionary extends t of)) (pushed rows has))
    c.push-in-Live.ensures.pushed

-- ---- an entry whose document is gone

pub returns-in-Gone-clause-learned : goal.returns-in-Gone-clause-learned
returns-in-Gone-clause-learned g c =
    ok_always c.push.result _ (λ t of. ap (names_with c.args.names.now) (sym (no_shapes (entry_of c.args.entry) (ap held_of c.in-Gone.is) t of)))

pub returns-in-Gone-clause-counted : goal.returns-in-Gone-clause-counted
returns-in-Gone-clause-counted g c =
    ok_always c.push.result _ (λ t of. ap (λ shapes. all_added c.args.names.now shapes c.args.schema.now) (sym (no_shapes (entry_of c.args.entry) (ap held_of c.in-Gone.is) t of)))

pub returns-in-Gone-clause-pushed : goal.returns-in-Gone-clause-pushed
returns-in-Gone-clause-pushed g c =
    ok_then c.push.result _ _
    (λ pushed t newer rows of dictionary extends has.
    subst (λ rs. HasRows (g.D.Device.history c.push.new.self.device) c.push.new.self (rows ++ rs)) (sym (gone_row newer (entry_of c.args.entry) (ap held_of c.in-Gone.is) t of)) (pushed rows has))
    c.push.ensures.pushed
