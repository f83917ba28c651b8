use Rattle.std.proofs.Common.{Err, inr, sym, subst}
use Rattle.std.proofs.lemmas.Result.{err_from_is_err_and}
use Rattle.tc_record.specs.Record.{IsNumberedRecordIn}
use Rattle.tc_compact.specs.Meant.{IsRecordUnder}
use Rattle.tc_audit.proofs.Outcomes.{wrong_out, wrong_then}
use Rattle.tc_audit.proofs.StoredLaws.{stored_at_under, stored_within, under_newer}
use Rattle.tc_audit.proofs.older.take_off_from.Goals as goal

pub take_record-requires-clause-record : goal.take_record-requires-clause-record
take_record-requires-clause-record g c =
    let version = c.args.component.now.index.version in
    let found = c.in_ok-bytes.ensures.found in
    inr (found.tree, (version, (found.told, subst (IsNumberedRecordIn version found.tree) (sym c.as_slice.ensures.same) found.is_record)))

pub returns-in_err-bytes-clause-harmless : goal.returns-in_err-bytes-clause-harmless
returns-in_err-bytes-clause-harmless g c =
    wrong_out c.from_residual.result c.in_err-bytes.field-0.0 _ (err_from_is_err_and c.from_residual.result c.from_residual.ensures.1)
    (wrong_then {X = Unit {0}} (Err c.in_err-bytes.field-0.0) _ _
    (λ w harmed d whole at fits. harmed whole at.tells (stored_within c.args.component.now.index.version c.args.component.now.index.names _ c.file_len-lawful.ensures.lawful.names at.stored))
    c.in_err-bytes.ensures.harmed)

pub returns-then-take_record-clause-taken : goal.returns-then-take_record-clause-taken
returns-then-take_record-clause-taken g c = λ d whole at.
    let names = c.args.component.now.index.names in
    let newer = c.args.recount.now.names in
    let under : IsRecordUnder names d c.in_ok-bytes.bytes = stored_at_under c.args.component.now.index.version names _ c.in_ok-bytes.bytes d c.file_len-lawful.ensures.lawful.names (sym (c.in_ok-bytes.ensures.read whole at.tells)) at.stored at.is in
    let again : IsRecordUnder newer d c.in_ok-bytes.bytes = under_newer c.round_trip.ensures.stays names newer d c.in_ok-bytes.bytes c.len-known.ensures.dictionary c.requires.newer under in
    c.take_record.ensures.taken c.if-take_record.true d (subst (IsRecordUnder newer d) (sym c.as_slice.ensures.same) again)

pub returns-clause-harmless : goal.returns-clause-harmless
returns-clause-harmless g c = λ d whole at fits.
    let names = c.args.component.now.index.names in
    let newer = c.args.recount.now.names in
    let under : IsRecordUnder names d c.in_ok-bytes.bytes = stored_at_under c.args.component.now.index.version names _ c.in_ok-bytes.bytes d c.file_len-lawful.ensures.lawful.names (sym (c.in_ok-bytes.ensures.read whole at.tells)) at.stored at.is in
    let again : IsRecordUnder newer d c.in_ok-bytes.bytes = under_newer c.round_trip.ensures.stays names newer d c.in_ok-bytes.bytes c.len-known.ensures.dictionary c.requires.newer under in
    c.take_record.ensures.other c.if-take_record.false d (subst (IsRecordUnder newer d) (sym c.as_slice.ensures.same) again) fits

pub returns-in_err-bytes-clause-place : goal.returns-in_err-bytes-clause-place
returns-in_err-bytes-clause-place g c =
    wrong_out c.from_residual.result c.in_err-bytes.field-0.0 _ (err_from_is_err_and c.from_residual.result c.from_residual.ensures.1) c.in_err-bytes.ensures.place
