use Rattle.std.proofs.Common.{◌≡◌, ◌∙◌, true, false, Vec, Global, Err, List, [], ap, sym, subst, refl}
use Rattle.std.proofs.lemmas.List.{nil_from_length}
use Rattle.std.proofs.lemmas.Result.{err_from_is_err_and}
use Rattle.tc_log.specs.declared.write.Write.{Write}
use Rattle.tc_log.specs.declared.write.Writes.{Writes}
use Rattle.tc_recover.specs.Files.{picture_in}
use Rattle.tc_recover.specs.Loads.{logs_judged, Answers, IsLogCause}
use Rattle.std.specs.Prelude.{Contains, IfErr}
use Rattle.tc_recover.proofs.Members.{member_first}
use Rattle.tc_recover.proofs.LogSteps.{next_open, log_skipped, log_read, log_refused, counted_memory, logs_counted, logs_each, damage_of_all}
use Rattle.tc_recover.proofs.logs.read_logs.Goals as goal

pub read_log-requires-after_bounds : goal.read_log-requires-after_bounds
read_log-requires-after_bounds g c = λ _ _.
    next_open _ c.args.last c.args.files.now c.loop-file.rest.now c.in-Some.behind.now c.in-Some.file.now _ _ _ c.loop-file.invariant c.in-Some.ensures.cases.0 (subst (λ is. is ≡ true) c.is_log.ensures c.if-is_log.true)

pub loop-file-preserved : goal.loop-file-preserved
loop-file-preserved g c =
    log_skipped _ c.args.last c.args.files.now c.loop-file.rest.now c.in-Some.behind.now c.in-Some.file.now _ _ _ c.loop-file.invariant c.in-Some.ensures.cases.0 (subst (λ is. is ≡ false) c.is_log.ensures c.if-is_log.false)

pub loop-file-preserved-in_ok-push : goal.loop-file-preserved-in_ok-push
loop-file-preserved-in_ok-push g c =
    log_read _ c.args.last c.args.files.now c.loop-file.rest.now c.in-Some.behind.now c.in-Some.file.now c.loop-file.all.items c.push.new.self.items c.in_ok-writes.writes _ _ _ c.loop-file.invariant c.in-Some.ensures.cases.0
    (subst (λ is. is ≡ true) c.is_log.ensures c.if-is_log.true) c.in_ok-push.ensures.items c.in_ok-writes.ensures.judged c.in_ok-writes.ensures.lawful c.in_ok-writes.ensures.counted.faults (c.in_ok-writes.ensures.counted.done refl)

pub returns-in_err-writes-clause-judged : goal.returns-in_err-writes-clause-judged
returns-in_err-writes-clause-judged g c = λ told.
    let p = err_from_is_err_and c.from_residual.result c.from_residual.ensures.1 in
    let content = g.F.Frozen.content in
    let view : Vec Writes Global → List (List Write) = λ writes. writes.items in
    subst (λ r. Answers view r (logs_judged c.args.last [] (picture_in (λ file. content file) c.args.files.now))) (sym (p.1 ∙ ap Err p.2))
    (log_refused (Vec Writes Global) view _ c.args.last c.args.files.now c.loop-file.rest.now c.in-Some.behind.now c.in-Some.file.now _ _ _ c.in_err-writes.field-0.0 c.loop-file.invariant c.in-Some.ensures.cases.0
    (subst (λ is. is ≡ true) c.is_log.ensures c.if-is_log.true) c.in_err-writes.ensures.judged told)

pub returns-in_err-push-clause-counted : goal.returns-in_err-push-clause-counted
returns-in_err-push-clause-counted g c = counted_memory c.from_residual-in_err-push.result _ _ (g.F.Watch.Watch.counts c.loop-file.watch) _ c.from_residual-in_err-push.ensures.1 c.loop-file.invariant.faults c.in_ok-writes.ensures.counted.faults

pub returns-clause-counted : goal.returns-clause-counted
returns-clause-counted g c = record {
  faults = c.loop-file.invariant.faults;
  cause = λ failed. absurd (cc);
  done = λ done. logs_counted _ c.args.last c.args.files.now c.loop-file.rest.now _ _ _ c.loop-file.invariant (nil_from_length c.loop-file.rest.now c.in_default.ensures.cases);
}

pub returns-clause-each : goal.returns-clause-each
returns-clause-each g c = logs_each _ c.args.last c.args.files.now c.loop-file.rest.now _ _ _ c.loop-file.invariant (nil_from_length c.loop-file.rest.now c.in_default.ensures.cases)

pub returns-in_err-writes-clause-causes : goal.returns-in_err-writes-clause-causes
returns-in_err-writes-clause-causes g c =
    let p = err_from_is_err_and c.from_residual.result c.from_residual.ensures.1 in
    let size = g.F.Frozen.size in
    let file = c.in-Some.file.now in
    let member = subst (λ left. Contains left file) (sym c.in-Some.ensures.cases.0) (member_first file c.in-Some.behind.now) in
    subst (λ r. IfErr r (IsLogCause (λ f. size f) c.args.last c.args.files.now)) (sym (p.1 ∙ ap Err p.2))
    (damage_of_all _ c.args.last c.args.files.now file c.in_err-writes.field-0.0 (c.loop-file.invariant.among file member) (subst (λ is. is ≡ true) c.is_log.ensures c.if-is_log.true) c.in_err-writes.ensures.causes)
