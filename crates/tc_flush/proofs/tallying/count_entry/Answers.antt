use Rattle.std.proofs.Common.{ap, ◌∙◌, subst, sym}
use Rattle.tc_record.specs.Record.{IsRecordOf}
use Rattle.tc_memory.specs.Meaning.{IsLawfulHeld, entry_of, held_of}
use Rattle.tc_flush.specs.Recounting.{names_with, all_added}
use Rattle.tc_flush.proofs.EntrySteps.{no_shapes, canonical_of, counters_of, room_of, names_are, schema_is}
use Rattle.tc_flush.proofs.Outcomes.{ok_then, ok_both}
use Rattle.tc_flush.proofs.tallying.count_entry.Goals as goal

-- ---- an entry with a document

pub add_record-requires-clause-canonical : goal.add_record-requires-clause-canonical
add_record-requires-clause-canonical c =
    canonical_of c.one_document.ensures (entry_of c.args.entry) c.in-Live.bytes.now (ap held_of c.in-Live.is) (subst IsLawfulHeld c.in-Live.is c.requires.lawful) c.args.names.now c.args.schema.now c.requires.can

pub add_record-requires-clause-counters : goal.add_record-requires-clause-counters
add_record-requires-clause-counters c = λ d is path.
    counters_of c.one_document.ensures (entry_of c.args.entry) c.in-Live.bytes.now (ap held_of c.in-Live.is) (subst IsLawfulHeld c.in-Live.is c.requires.lawful) c.args.names.now c.args.schema.now c.requires.can d
    (subst (IsRecordOf d) (c.known.ensures.bytes ∙ c.as_slice.ensures.same) is) path

pub add_record-requires-clause-room : goal.add_record-requires-clause-room
add_record-requires-clause-room c = λ d is.
    room_of c.one_document.ensures (entry_of c.args.entry) c.in-Live.bytes.now (ap held_of c.in-Live.is) (subst IsLawfulHeld c.in-Live.is c.requires.lawful) c.args.names.now c.args.schema.now c.requires.can d
    (subst (IsRecordOf d) (c.known.ensures.bytes ∙ c.as_slice.ensures.same) is)

pub returns-in-Live-clause-learned : goal.returns-in-Live-clause-learned
returns-in-Live-clause-learned c =
    ok_then c.add_record.result _ _
    (λ learned.
    names_are c.one_document.ensures (entry_of c.args.entry) c.in-Live.bytes.now (ap held_of c.in-Live.is) (subst IsLawfulHeld c.in-Live.is c.requires.lawful) c.args.names.now c.add_record.new.names
    (λ d is. learned d (subst (IsRecordOf d) (sym (c.known.ensures.bytes ∙ c.as_slice.ensures.same)) is)))
    c.add_record.ensures.names

pub returns-in-Live-clause-counted : goal.returns-in-Live-clause-counted
returns-in-Live-clause-counted c =
    let same = sym (c.known.ensures.bytes ∙ c.as_slice.ensures.same) in
    ok_both c.add_record.result _ _ _
    (λ learned counted.
    schema_is c.one_document.ensures (entry_of c.args.entry) c.in-Live.bytes.now (ap held_of c.in-Live.is) (subst IsLawfulHeld c.in-Live.is c.requires.lawful) c.args.names.now c.add_record.new.names c.args.schema.now c.add_record.new.schema
    (λ d is. learned d (subst (IsRecordOf d) same is)) (λ d is. counted d (subst (IsRecordOf d) same is)))
    c.add_record.ensures.names c.add_record.ensures.added

-- ---- an entry whose document is gone

pub returns-in-Gone-clause-learned : goal.returns-in-Gone-clause-learned
returns-in-Gone-clause-learned c = λ t of. ap (names_with c.args.names.now) (sym (no_shapes (entry_of c.args.entry) (ap held_of c.in-Gone.is) t of))

pub returns-in-Gone-clause-counted : goal.returns-in-Gone-clause-counted
returns-in-Gone-clause-counted c = λ t of. ap (λ shapes. all_added c.args.names.now shapes c.args.schema.now) (sym (no_shapes (entry_of c.args.entry) (ap held_of c.in-Gone.is) t of))
