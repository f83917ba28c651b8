use Rattle.std.proofs.Common.{◌∙◌, None, ap, subst, refl, is_some}
use Rattle.tc_model.specs.Keyed.{value_of}
use Rattle.tc_request_model.specs.Request.{delete}
use Rattle.tc_log.specs.declared.write.Write.TheVariants.{Delete}
use Rattle.tc_part_model.specs.PartState.{told}
use Rattle.tc_part_model.specs.PartView.{stored_with}
use Rattle.tc_part.specs.Stages.{HasStaged}
use Rattle.tc_work.specs.Replied.{reply_to_delete}
use Rattle.tc_work.proofs.GrownFrames.{goes_in, grown}
use Rattle.tc_work.proofs.HandedFaults.{harmed, unspent, disk_below}
use Rattle.tc_work.proofs.ReadCounts.{one_lookup}
use Rattle.tc_work.proofs.StagedAnswers.{delete_staged, delete_taken, one_more_live, only_staged, still_sound, staged_or_not}
use Rattle.tc_work.proofs.StorableAsks.{storable_delete, delete_for}
use Rattle.tc_request_model.specs.Rendered.{rendered}
use Rattle.tc_work.proofs.ReplyKinds.{kind_of_delete}
use Rattle.tc_work.proofs.answering.delete.Goals as goal

pub stage-requires-clause-lawful : goal.stage-requires-clause-lawful
stage-requires-clause-lawful g c κs within = (delete_for c.args.key c.requires.asked).lawful

pub stage-requires-clause-frame : goal.stage-requires-clause-frame
stage-requires-clause-frame g c κs within = goes_in (delete c.args.key) (Delete c.args.key) c.args.part.now.staged (delete_for c.args.key c.requires.asked) c.requires.frame

pub returns-in_err-staged-clause-harmed : goal.returns-in_err-staged-clause-harmed
returns-in_err-staged-clause-harmed g c = harmed c.from_residual.result c.in_err-staged.field-0.0 _ c.from_residual.ensures.1 c.in_err-staged.ensures.harmed

pub returns-in_err-staged-clause-unspent : goal.returns-in_err-staged-clause-unspent
returns-in_err-staged-clause-unspent g c = unspent c.from_residual.result c.in_err-staged.field-0.0 _ c.from_residual.ensures.1 c.in_err-staged.ensures.harmed

pub returns-in_err-staged-clause-counted : goal.returns-in_err-staged-clause-counted
returns-in_err-staged-clause-counted g c =
    one_lookup _ _ _ _ _ (disk_below c.from_residual.result c.stage.result c.in_err-staged.field-0.0 c.from_residual.ensures.1 c.in_err-staged.was) c.stage.ensures.counted

pub returns-clause-staged : goal.returns-clause-staged
returns-clause-staged g c = λ p is.
    let old = told g.S.Store.history g.S.Device.Device.history g.S.Frozen.Frozen.content c.args.part.now in
    let new = told g.S.Store.history g.S.Device.Device.history g.S.Frozen.Frozen.content c.stage.new.self in
    let key = c.args.key in
    let was = is_some (value_of key (stored_with p)) in
    let storable = storable_delete key c.requires.asked in
    delete_staged c.args.part.now.limits key old new p (c.staged_is_kept.ensures.plain old new p) (c.in_ok-staged.ensures.staged p (key, None) is storable refl)
    (delete_taken was key c.args.part.now c.stage.new.self
    (subst (λ answer. HasStaged answer (Delete key) c.args.part.now c.stage.new.self) (c.in_ok-staged.ensures.answered p (key, None) is storable refl) c.in_ok-staged.ensures.same))

pub returns-clause-reply : goal.returns-clause-reply
returns-clause-reply g c = λ p is are_told.
    c.deleted.ensures ∙ ap (λ staged. rendered (reply_to_delete c.args.key staged)) (c.in_ok-staged.ensures.answered p (c.args.key, None) is (storable_delete c.args.key c.requires.asked) refl)

pub returns-clause-grown : goal.returns-clause-grown
returns-clause-grown g c =
    grown (delete c.args.key) (Delete c.args.key) c.args.part.now.staged c.stage.new.self.staged (delete_for c.args.key c.requires.asked) c.requires.frame.each
    (staged_or_not c.in_ok-staged.staged (Delete c.args.key) c.args.part.now c.stage.new.self c.in_ok-staged.ensures.same)

pub returns-clause-same : goal.returns-clause-same
returns-clause-same g c = only_staged c.in_ok-staged.staged (Delete c.args.key) c.args.part.now c.stage.new.self c.in_ok-staged.ensures.same

pub returns-clause-sound : goal.returns-clause-sound
returns-clause-sound g c = still_sound c.in_ok-staged.staged (Delete c.args.key) c.args.part.now c.stage.new.self c.in_ok-staged.ensures.same ∙ c.requires.sound

pub returns-clause-counted : goal.returns-clause-counted
returns-clause-counted g c = one_lookup _ _ _ _ _ (λ failed. absurd (cc)) c.stage.ensures.counted

pub returns-clause-kind : goal.returns-clause-kind
returns-clause-kind g c = (reply_to_delete c.args.key c.in_ok-staged.staged, kind_of_delete c.args.key c.in_ok-staged.staged, c.deleted.ensures)

pub returns-clause-live : goal.returns-clause-live
returns-clause-live g c = one_more_live c.in_ok-staged.staged (Delete c.args.key) c.args.part.now c.stage.new.self c.in_ok-staged.ensures.same
