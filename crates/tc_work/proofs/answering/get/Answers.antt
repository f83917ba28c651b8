use Rattle.std.proofs.Common.{◌≡◌, ap, subst, sym}
use Rattle.tc_request_model.specs.Request.{get}
use Rattle.tc_part_model.specs.Meaning.{IsPart}
use Rattle.tc_part_model.specs.PartState.{PartState, told}
use Rattle.tc_work.proofs.GrownFrames.{not_grown}
use Rattle.tc_work.proofs.HandedFaults.{harmed, unspent, disk_below}
use Rattle.tc_work.proofs.ReadCounts.{one_lookup}
use Rattle.tc_work.proofs.ReplyKinds.{kind_of_get}
use Rattle.tc_work.proofs.StagedAnswers.{stages_nothing, still_live}
use Rattle.tc_work.proofs.answering.get.Goals as goal

pub returns-in_err-text-clause-harmed : goal.returns-in_err-text-clause-harmed
returns-in_err-text-clause-harmed g c = harmed c.from_residual.result c.in_err-text.field-0.0 _ c.from_residual.ensures.1 c.in_err-text.ensures.harmed

pub returns-in_err-text-clause-unspent : goal.returns-in_err-text-clause-unspent
returns-in_err-text-clause-unspent g c = unspent c.from_residual.result c.in_err-text.field-0.0 _ c.from_residual.ensures.1 c.in_err-text.ensures.harmed

pub returns-in_err-text-clause-counted : goal.returns-in_err-text-clause-counted
returns-in_err-text-clause-counted g c = one_lookup _ _ _ _ _ (disk_below c.from_residual.result c.lookup.result c.in_err-text.field-0.0 c.from_residual.ensures.1 c.in_err-text.was) c.lookup.ensures.counted

pub returns-clause-staged : goal.returns-clause-staged
returns-clause-staged g c = λ p is.
    let old = told g.S.Store.history g.S.Device.Device.history g.S.Frozen.Frozen.content c.args.part.now in
    let new = told g.S.Store.history g.S.Device.Device.history g.S.Frozen.Frozen.content c.lookup.new.self in
    let same : new ≡ old = ap (told g.S.Store.history g.S.Device.Device.history g.S.Frozen.Frozen.content) c.in_ok-text.ensures.same in
    stages_nothing old new p (subst (λ t. IsPart t p) (sym same) is) (ap (λ t. t.taken) same)

pub returns-clause-grown : goal.returns-clause-grown
returns-clause-grown g c = not_grown (get c.args.key) c.args.part.now.staged c.lookup.new.self.staged c.requires.frame.each (ap (λ (s : PartState _ _ _ _). s.staged) c.in_ok-text.ensures.same)

pub returns-clause-counted : goal.returns-clause-counted
returns-clause-counted g c = one_lookup _ _ _ _ _ (λ failed. absurd (cc)) c.lookup.ensures.counted

pub returns-clause-kind : goal.returns-clause-kind
returns-clause-kind g c = kind_of_get c.args.key c.in_ok-text.text c.in_ok-text.ensures.document

pub returns-clause-live : goal.returns-clause-live
returns-clause-live g c = still_live 0 c.args.part.now c.lookup.new.self c.in_ok-text.ensures.same
