use Rattle.std.proofs.Common.{◌∙◌, ap, subst, Some, is_some}
use Rattle.tc_model.specs.Keyed.{value_of}
use Rattle.tc_request_model.specs.Request.{upsert}
use Rattle.tc_value.specs.Meaning.{tree_of}
use Rattle.tc_log.specs.declared.write.Write.TheVariants.{Upsert}
use Rattle.tc_part_model.specs.Meaning.{plain_of}
use Rattle.tc_part_model.specs.PartState.{told}
use Rattle.tc_part_model.specs.PartView.{stored_with}
use Rattle.tc_part.specs.Stages.{HasStaged}
use Rattle.tc_work.specs.Replied.{reply_to_upsert}
use Rattle.tc_work.proofs.GrownFrames.{goes_in, grown}
use Rattle.tc_work.proofs.HandedFaults.{harmed, unspent, disk_below, no_memory}
use Rattle.tc_work.proofs.ReadCounts.{none_counted, one_lookup}
use Rattle.tc_work.proofs.StagedAnswers.{upsert_replied, upsert_staged, upsert_taken, one_more_live, only_staged, still_sound, staged_or_not}
use Rattle.tc_work.proofs.StorableAsks.{storable_upsert, short_record, record_upserted, upsert_for}
use Rattle.tc_request_model.specs.Rendered.{rendered}
use Rattle.tc_work.proofs.ReplyKinds.{kind_of_upsert}
use Rattle.tc_work.proofs.answering.upsert.Goals as goal

pub encode-requires-clause-short : goal.encode-requires-clause-short
encode-requires-clause-short g c = short_record c.args.key (tree_of c.args.doc.now) c.requires.asked

pub stage-requires-clause-lawful : goal.stage-requires-clause-lawful
stage-requires-clause-lawful g c κs within = (upsert_for c.args.key (tree_of c.args.doc.now) c.in_ok-bytes.bytes c.requires.asked c.encode.ensures.lawful c.in_ok-bytes.ensures.spelled).lawful

pub stage-requires-clause-frame : goal.stage-requires-clause-frame
stage-requires-clause-frame g c κs within =
    goes_in (upsert c.args.key (tree_of c.args.doc.now)) (Upsert c.args.key c.in_ok-bytes.bytes) c.args.part.now.staged
    (upsert_for c.args.key (tree_of c.args.doc.now) c.in_ok-bytes.bytes c.requires.asked c.encode.ensures.lawful c.in_ok-bytes.ensures.spelled) c.requires.frame

pub returns-in_err-bytes-clause-unspent : goal.returns-in_err-bytes-clause-unspent
returns-in_err-bytes-clause-unspent g c = no_memory c.from_residual.result _ c.from_residual.ensures.1 (λ same. absurd (cc))

pub returns-in_err-bytes-clause-counted : goal.returns-in_err-bytes-clause-counted
returns-in_err-bytes-clause-counted g c = none_counted 1 _ (g.S.Watch.Watch.counts c.args.part.now.main) (no_memory c.from_residual.result _ c.from_residual.ensures.1 (λ same. absurd (cc)))

pub returns-in_err-staged-clause-harmed : goal.returns-in_err-staged-clause-harmed
returns-in_err-staged-clause-harmed g c = harmed c.from_residual-in_err-staged.result c.in_err-staged.field-0.0 _ c.from_residual-in_err-staged.ensures.1 c.in_err-staged.ensures.harmed

pub returns-in_err-staged-clause-unspent : goal.returns-in_err-staged-clause-unspent
returns-in_err-staged-clause-unspent g c = unspent c.from_residual-in_err-staged.result c.in_err-staged.field-0.0 _ c.from_residual-in_err-staged.ensures.1 c.in_err-staged.ensures.harmed

pub returns-in_err-staged-clause-counted : goal.returns-in_err-staged-clause-counted
returns-in_err-staged-clause-counted g c =
    one_lookup _ _ _ _ _ (disk_below c.from_residual-in_err-staged.result c.stage.result c.in_err-staged.field-0.0 c.from_residual-in_err-staged.ensures.1 c.in_err-staged.was) c.stage.ensures.counted

pub returns-clause-staged : goal.returns-clause-staged
returns-clause-staged g c = λ p is.
    let old = told g.S.Store.history g.S.Device.Device.history g.S.Frozen.Frozen.content c.args.part.now in
    let new = told g.S.Store.history g.S.Device.Device.history g.S.Frozen.Frozen.content c.stage.new.self in
    let d = tree_of c.args.doc.now in
    let key = c.args.key in
    let limits = c.args.part.now.limits in
    let bytes = c.in_ok-bytes.bytes in
    let was = is_some (value_of key (stored_with p)) in
    let storable = storable_upsert key d c.requires.asked c.encode.ensures.lawful in
    let kept = ap (Upsert key) c.in_ok-bytes.ensures.spelled in
    let of = record_upserted key d bytes c.requires.asked c.encode.ensures.lawful c.in_ok-bytes.ensures.spelled in
    upsert_staged limits key d was old new p (c.staged_is_kept.ensures.plain old new p) (c.in_ok-staged.ensures.staged p (key, Some d) is storable kept)
    (upsert_taken limits key (plain_of old p) was bytes d c.args.part.now c.stage.new.self of
    (subst (λ answer. HasStaged answer (Upsert key bytes) c.args.part.now c.stage.new.self) (c.in_ok-staged.ensures.answered p (key, Some d) is storable kept) c.in_ok-staged.ensures.same))

pub returns-clause-reply : goal.returns-clause-reply
returns-clause-reply g c = λ p is are_told.
    let old = told g.S.Store.history g.S.Device.Device.history g.S.Frozen.Frozen.content c.args.part.now in
    let d = tree_of c.args.doc.now in
    let key = c.args.key in
    let limits = c.args.part.now.limits in
    let storable = storable_upsert key d c.requires.asked c.encode.ensures.lawful in
    let kept = ap (Upsert key) c.in_ok-bytes.ensures.spelled in
    c.upserted.ensures ∙ ap (λ staged. rendered (reply_to_upsert key staged)) (c.in_ok-staged.ensures.answered p (key, Some d) is storable kept)
    ∙ ap rendered (upsert_replied limits key d (plain_of old p) (is_some (value_of key (stored_with p))))

pub returns-clause-grown : goal.returns-clause-grown
returns-clause-grown g c =
    grown (upsert c.args.key (tree_of c.args.doc.now)) (Upsert c.args.key c.in_ok-bytes.bytes) c.args.part.now.staged c.stage.new.self.staged
    (upsert_for c.args.key (tree_of c.args.doc.now) c.in_ok-bytes.bytes c.requires.asked c.encode.ensures.lawful c.in_ok-bytes.ensures.spelled) c.requires.frame.each
    (staged_or_not c.in_ok-staged.staged (Upsert c.args.key c.in_ok-bytes.bytes) c.args.part.now c.stage.new.self c.in_ok-staged.ensures.same)

pub returns-clause-same : goal.returns-clause-same
returns-clause-same g c = only_staged c.in_ok-staged.staged (Upsert c.args.key c.in_ok-bytes.bytes) c.args.part.now c.stage.new.self c.in_ok-staged.ensures.same

pub returns-clause-sound : goal.returns-clause-sound
returns-clause-sound g c = still_sound c.in_ok-staged.staged (Upsert c.args.key c.in_ok-bytes.bytes) c.args.part.now c.stage.new.self c.in_ok-staged.ensures.same ∙ c.requires.sound

pub returns-clause-counted : goal.returns-clause-counted
returns-clause-counted g c = one_lookup _ _ _ _ _ (λ failed. absurd (cc)) c.stage.ensures.counted

pub returns-clause-kind : goal.returns-clause-kind
returns-clause-kind g c = (reply_to_upsert c.args.key c.in_ok-staged.staged, kind_of_upsert c.args.key (tree_of c.args.doc.now) c.in_ok-staged.staged, c.upserted.ensures)

pub returns-clause-live : goal.returns-clause-live
returns-clause-live g c = one_more_live c.in_ok-staged.staged (Upsert c.args.key c.in_ok-bytes.bytes) c.args.part.now c.stage.new.self c.in_ok-staged.ensures.same
