use Rattle.std.proofs.Common.{◌+◌, ◌∙◌, Some, None, map, option_map, refl, sym, ap, subst, arith}
use Rattle.std.proofs.lemmas.Result.{IfOk-weaker}
use Rattle.tc_command.specs.Commands.{ask_of}
use Rattle.tc_memory.specs.Meaning.{held_of, IsLawfulHeld}
use Rattle.tc_request_model.specs.Rendered.{row_text}
use Rattle.tc_query.proofs.RowSteps.{rows_with_one, rows_of_one, rows_of_none, rows_alike}
use Rattle.tc_query.proofs.StoredKeys.{stored_live, stored_gone, stored_listed}
use Rattle.tc_query.proofs.WindowReads.{later_reads, reads_few}
use Rattle.tc_query.specs.Shown.{MayHave}
use Rattle.tc_record.specs.Record.{IsRecordOf}
use Rattle.tc_record.specs.StoredRecord.{IsStoredRecord}
use Rattle.tc_query.proofs.looking.row_at.Goals as goal

pub returns-in_ok-row_held-in-Some-Live-clause-row : goal.returns-in_ok-row_held-in-Some-Live-clause-row
returns-in_ok-row_held-in-Some-Live-clause-row g c = λ pairs h.
    let held = c.in-Some-Live.ensures in
    let at = stored_live g.F.Frozen.content c.args.list.now _ c.args.active.now pairs h held.sealed held.active c.args.key c.in-Some-Live.bytes.now (sym held.held ∙ ap (λ what. Some (held_of what)) c.in-Some-Live.field-0-is)
    (subst IsLawfulHeld c.in-Some-Live.field-0-is held.lawful) in
    c.in_ok-row_held-in-Some-Live.ensures.row at.document (subst (IsRecordOf at.document) (sym c.as_slice.ensures.same) at.spells)
    ∙ ap (map row_text) (rows_of_one (ask_of c.args.ask.now) c.args.key pairs at.document at.stored)

pub returns-in_err-row_held-in-Some-Live-clause-windows : goal.returns-in_err-row_held-in-Some-Live-clause-windows
returns-in_err-row_held-in-Some-Live-clause-windows g c = λ low first order a. reads_few low c.args.list.now c.args.readers.now first (g.F.Watch.Watch.counts c.args.watch.now).reads c.requires.of.many a

pub returns-in_ok-row_held-in-Some-Live-clause-read : goal.returns-in_ok-row_held-in-Some-Live-clause-read
returns-in_ok-row_held-in-Some-Live-clause-read g c = λ low first order a. later_reads low (c.args.key + 1) c.args.list.now c.args.readers.now first (g.F.Watch.Watch.counts c.args.watch.now).reads (omega (arith, order)) a

pub returns-in_ok-row_held-in-Some-Live-clause-windows : goal.returns-in_ok-row_held-in-Some-Live-clause-windows
returns-in_ok-row_held-in-Some-Live-clause-windows g c = λ low first order a. reads_few low c.args.list.now c.args.readers.now first (g.F.Watch.Watch.counts c.args.watch.now).reads c.requires.of.many a

pub returns-in-Some-Gone-clause-read : goal.returns-in-Some-Gone-clause-read
returns-in-Some-Gone-clause-read g c = λ low first order a. later_reads low (c.args.key + 1) c.args.list.now c.args.readers.now first (g.F.Watch.Watch.counts c.args.watch.now).reads (omega (arith, order)) a

pub returns-in-Some-Gone-clause-windows : goal.returns-in-Some-Gone-clause-windows
returns-in-Some-Gone-clause-windows g c = λ low first order a. reads_few low c.args.list.now c.args.readers.now first (g.F.Watch.Watch.counts c.args.watch.now).reads c.requires.of.many a

pub returns-in-Some-Gone-clause-row : goal.returns-in-Some-Gone-clause-row
returns-in-Some-Gone-clause-row g c = λ pairs h.
    let held = c.newest_held.ensures in
    ap (map row_text) (rows_of_none (ask_of c.args.ask.now) c.args.key pairs
    (stored_gone g.F.Frozen.content c.args.list.now _ c.args.active.now pairs h held.sealed held.active c.args.key (sym held.held ∙ ap (option_map held_of) c.in-Some-Gone.is ∙ ap (λ what. Some (held_of what)) c.in-Some-Gone.field-0-is)))

pub returns-in-None-clause-row : goal.returns-in-None-clause-row
returns-in-None-clause-row g c = λ pairs h.
    let held = c.newest_held.ensures in
    let ask = ask_of c.args.ask.now in
    let same = stored_listed g.F.Frozen.content c.args.list.now _ c.args.active.now pairs h held.sealed held.active c.args.key (sym held.held ∙ ap (option_map held_of) c.in-None.is) in
    IfOk-weaker c.row_listed.result _ _ (λ row is. is ∙ sym (ap (map row_text) (rows_alike ask c.args.key pairs _ same))) (c.row_listed.ensures.row h.part h.contents h.list h.loaded)

pub returns-in_ok-row_held-in-Some-Live-clause-shown : goal.returns-in_ok-row_held-in-Some-Live-clause-shown
returns-in_ok-row_held-in-Some-Live-clause-shown g c =
    let held = c.in-Some-Live.ensures in
    let stored : IsStoredRecord c.in-Some-Live.bytes.now = subst IsLawfulHeld c.in-Some-Live.field-0-is held.lawful in
    let d = stored.document in (
      Some d,
      subst (λ h. MayHave g.F.Frozen.content h c.args.list.now c.args.key (Some d)) (ap (λ what. Some (held_of what)) (sym c.in-Some-Live.field-0-is) ∙ held.held) (d, stored.is_record, refl),
      c.in_ok-row_held-in-Some-Live.ensures.row d (subst (IsRecordOf d) (sym c.as_slice.ensures.same) stored.is_record) ∙ ap (map row_text) (rows_with_one (ask_of c.args.ask.now) c.args.key d),
    )

pub returns-in-Some-Gone-clause-shown : goal.returns-in-Some-Gone-clause-shown
returns-in-Some-Gone-clause-shown g c =
    let held = c.newest_held.ensures in
    let gone_is = sym held.held ∙ ap (option_map held_of) c.in-Some-Gone.is ∙ ap (λ what. Some (held_of what)) c.in-Some-Gone.field-0-is in
    (None, subst (λ h. MayHave g.F.Frozen.content h c.args.list.now c.args.key None) (sym gone_is) refl, refl)

pub returns-in-None-clause-shown : goal.returns-in-None-clause-shown
returns-in-None-clause-shown g c =
    let none = sym c.newest_held.ensures.held ∙ ap (option_map held_of) c.in-None.is in
    IfOk-weaker c.row_listed.result _ _ (λ row is. (is.0, subst (λ h. MayHave g.F.Frozen.content h c.args.list.now c.args.key is.0) (sym none) is.1, is.2)) c.row_listed.ensures.shown
