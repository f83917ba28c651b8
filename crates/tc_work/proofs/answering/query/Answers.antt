use Rattle.std.proofs.Common.{◌≡◌, ap, subst, sym}
use Rattle.tc_request_model.specs.Request.{query}
use Rattle.tc_request_model.specs.Rows.{rows_over}
use Rattle.tc_part_model.specs.Meaning.{IsPart}
use Rattle.tc_part_model.specs.PartState.{PartState, told}
use Rattle.tc_command.specs.Commands.{ask_of}
use Rattle.tc_work.proofs.GrownFrames.{not_grown}
use Rattle.tc_work.proofs.HandedFaults.{harmed, unspent, disk_below}
use Rattle.tc_work.proofs.ReadCounts.{one_query}
use Rattle.tc_work.proofs.ReplyKinds.{kind_of_query}
use Rattle.tc_work.proofs.StagedAnswers.{stages_nothing, still_live}
use Rattle.tc_work.proofs.answering.query.Goals as goal

pub returns-in_err-rows-clause-harmed : goal.returns-in_err-rows-clause-harmed
returns-in_err-rows-clause-harmed g c = harmed c.from_residual.result c.in_err-rows.field-0.0 _ c.from_residual.ensures.1 c.in_err-rows.ensures.harmed

pub returns-in_err-rows-clause-unspent : goal.returns-in_err-rows-clause-unspent
returns-in_err-rows-clause-unspent g c = unspent c.from_residual.result c.in_err-rows.field-0.0 _ c.from_residual.ensures.1 c.in_err-rows.ensures.harmed

pub returns-in_err-rows-clause-counted : goal.returns-in_err-rows-clause-counted
returns-in_err-rows-clause-counted g c = one_query _ _ _ _ _ (disk_below c.from_residual.result c.rows.result c.in_err-rows.field-0.0 c.from_residual.ensures.1 c.in_err-rows.was) c.rows.ensures.watched c.rows.ensures.reads

pub returns-clause-staged : goal.returns-clause-staged
returns-clause-staged g c = λ p is.
    let old = told g.S.Store.history g.S.Device.Device.history g.S.Frozen.Frozen.content c.args.part.now in
    let new = told g.S.Store.history g.S.Device.Device.history g.S.Frozen.Frozen.content c.rows.new.self in
    let same : new ≡ old = ap (told g.S.Store.history g.S.Device.Device.history g.S.Frozen.Frozen.content) c.in_ok-rows.ensures.same in
    stages_nothing old new p (subst (λ t. IsPart t p) (sym same) is) (ap (λ t. t.taken) same)

pub returns-clause-grown : goal.returns-clause-grown
returns-clause-grown g c = not_grown (query (ask_of c.args.ask.now)) c.args.part.now.staged c.rows.new.self.staged c.requires.frame.each (ap (λ (s : PartState _ _ _ _). s.staged) c.in_ok-rows.ensures.same)

pub returns-clause-counted : goal.returns-clause-counted
returns-clause-counted g c = one_query _ _ _ _ _ (λ failed. absurd (cc)) c.rows.ensures.watched c.rows.ensures.reads

pub returns-clause-kind : goal.returns-clause-kind
returns-clause-kind g c =
    let shown = c.in_ok-rows.ensures.shown in
    kind_of_query (ask_of c.args.ask.now) c.in_ok-rows.rows (rows_over (ask_of c.args.ask.now) shown.0) shown.2

pub returns-clause-live : goal.returns-clause-live
returns-clause-live g c = still_live 0 c.args.part.now c.rows.new.self c.in_ok-rows.ensures.same
