use Rattle.std.proofs.Common.{◌∙◌, Err, ap, sym, subst, refl}
use Rattle.std.proofs.lemmas.List.{nil_from_length}
use Rattle.std.proofs.lemmas.Result.{err_from_is_err_and}
use Rattle.tc_recover.specs.Files.{picture_in}
use Rattle.tc_recover.specs.Refusals.{asked, heads_refused, Refuses, IsHeadCause}
use Rattle.tc_recover.proofs.HeadSteps.{heads_begin, head_skipped, head_read, head_refuses, heads_counted, cause_of_all}
use Rattle.tc_recover.proofs.Members.{member_first}
use Rattle.std.specs.Prelude.{Contains, IfErr}
use Rattle.tc_recover.proofs.heads.judge_heads.Goals as goal

pub loop-file-init : goal.loop-file-init
loop-file-init g c = heads_begin _ (asked c.args.part) c.args.files.now (g.F.Watch.Watch.counts c.args.watch.now) c.requires.gates

pub loop-file-preserved : goal.loop-file-preserved
loop-file-preserved g c = head_skipped _ (asked c.args.part) c.args.files.now c.loop-file.rest.now c.in-Some.behind.now c.in-Some.file.now _ _ c.loop-file.invariant c.in-Some.ensures.cases.0 c.if-file.false

pub loop-file-preserved-in_ok-judge_head : goal.loop-file-preserved-in_ok-judge_head
loop-file-preserved-in_ok-judge_head g c =
    head_read _ (asked c.args.part) c.args.files.now c.loop-file.rest.now c.in-Some.behind.now c.in-Some.file.now _ _ _ c.loop-file.invariant c.in-Some.ensures.cases.0 c.if-file.true
    c.in_ok-judge_head.ensures.judged c.in_ok-judge_head.ensures.lawful c.in_ok-judge_head.ensures.counted.faults (c.in_ok-judge_head.ensures.counted.done refl)

pub returns-in_err-judge_head-clause-judged : goal.returns-in_err-judge_head-clause-judged
returns-in_err-judge_head-clause-judged g c = λ told.
    let p = err_from_is_err_and c.from_residual.result c.from_residual.ensures.1 in
    let content = g.F.Frozen.content in
    subst (λ r. Refuses r (heads_refused (asked c.args.part) (picture_in (λ file. content file) c.args.files.now))) (sym (p.1 ∙ ap Err p.2))
    (head_refuses (Unit {0}) (Unit {0}) _ (asked c.args.part) c.args.files.now c.loop-file.rest.now c.in-Some.behind.now c.in-Some.file.now _ _ c.in_err-judge_head.field-0.0 c.loop-file.invariant c.in-Some.ensures.cases.0 c.if-file.true
    c.in_err-judge_head.ensures.judged told)

pub returns-clause-counted : goal.returns-clause-counted
returns-clause-counted g c = record {
  faults = c.loop-file.invariant.faults;
  cause = λ failed. absurd (cc);
  done = λ is. heads_counted _ (asked c.args.part) c.args.files.now c.loop-file.rest.now _ _ c.loop-file.invariant (nil_from_length c.loop-file.rest.now c.in_default.ensures.cases);
}

pub returns-in_err-judge_head-clause-causes : goal.returns-in_err-judge_head-clause-causes
returns-in_err-judge_head-clause-causes g c =
    let p = err_from_is_err_and c.from_residual.result c.from_residual.ensures.1 in
    let size = g.F.Frozen.size in
    let file = c.in-Some.file.now in
    let member = subst (λ left. Contains left file) (sym c.in-Some.ensures.cases.0) (member_first file c.in-Some.behind.now) in
    subst (λ r. IfErr r (IsHeadCause (λ f. size f) (asked c.args.part) c.args.files.now)) (sym (p.1 ∙ ap Err p.2))
    (cause_of_all _ (asked c.args.part) c.args.files.now file c.in_err-judge_head.field-0.0 (c.loop-file.invariant.among file member) c.in_err-judge_head.ensures.causes)
