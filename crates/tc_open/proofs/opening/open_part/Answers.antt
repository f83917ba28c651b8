use Rattle.std.proofs.Common.{◌+◌, ◌∙◌, ap, map}
use Rattle.std.proofs.lemmas.Result.{IfErr-weaker, IfOk-weaker}
use Rattle.tc_store.specs.declared.file_name.FileName.TheVariants.{Log as log_name}
use Rattle.tc_store.proofs.MomentLemmas.{told_map}
use Rattle.tc_list.specs.Intervals.{last_of}
use Rattle.tc_lsm_model.specs.Contents.{Partition}
use Rattle.tc_part_model.specs.PartState.{told, told_component}
use Rattle.tc_recover.specs.Loading.{interval_of}
use Rattle.tc_open.proofs.BegunParts.{begins, begun_over, gives_back}
use Rattle.tc_open.proofs.FlushedOpenings.{no_file_sound}
use Rattle.tc_open.proofs.Lawfully.{both_lawful}
use Rattle.tc_open.proofs.OpenedParts.{no_log_there, opened_as, rest_are, rest_lawful, rest_tidy, start_kept, start_moments, starts_log}
use Rattle.tc_open.proofs.RestedOpenings.{err_joined, err_tells, ok_joined, start_judged}
use Rattle.tc_open.proofs.opening.open_part.Goals as goal

pub start_part-requires-clause-free : goal.start_part-requires-clause-free
start_part-requires-clause-free g c κs within = let r = c.in-Ok.field-0 in no_log_there r.list (last_of r.list + 1) (g.S.Store.history r.kit.store) c.in-Ok.ensures.own

pub returns-in-Ok-clause-opened : goal.returns-in-Ok-clause-opened
returns-in-Ok-clause-opened g c =
    let content = g.S.Frozen.Frozen.content in
    let part : Partition = record { number = c.args.number; count = c.args.count } in
    let list = c.in-Ok.field-0.list in
    let mid = g.S.Store.history c.in-Ok.field-0.kit.store in
    let own = c.in-Ok.ensures.own in
    both_lawful part _ _ _ (g.S.Store.history c.args.kit.store) c.in-Ok.ensures.rests c.in-Ok.ensures.rests (λ cs logs rests same.
    let started = c.start_part.ensures.started rests.contents (rest_lawful content part cs logs list mid rests own) (rest_are content part cs logs list mid rests own) (rest_tidy content part cs logs list mid rests own) in
    IfOk-weaker c.start_part.result _ _ (λ p is. opened_as content part cs logs list mid rests own (told g.S.Store.history g.S.Device.Device.history content p) is.0 (ap (λ q. q.taken) is.1.0) (ap (λ q. map (told_component content) q.list) is.1.0) (log_name (last_of list + 1)) is.1.1)
    (ok_joined c.start_part.result _ _ started (ok_joined c.start_part.result _ _ c.start_part.ensures.begun c.start_part.ensures.made)))

pub returns-in-Ok-clause-moments : goal.returns-in-Ok-clause-moments
returns-in-Ok-clause-moments g c =
    let content = g.S.Frozen.Frozen.content in
    let part : Partition = record { number = c.args.number; count = c.args.count } in
    let list = c.in-Ok.field-0.list in
    let old = g.S.Store.history c.args.kit.store in
    let mid = g.S.Store.history c.in-Ok.field-0.kit.store in
    let own = c.in-Ok.ensures.own in
    both_lawful part _ _ _ old c.in-Ok.ensures.rests c.in-Ok.ensures.keeps (λ cs logs rests keeps.
    IfOk-weaker c.start_part.result _ _ (λ p since. start_moments content part cs logs list mid rests own old keeps (g.S.Store.history p.store) since)
    (c.start_part.ensures.moments rests.contents (rest_are content part cs logs list mid rests own) (rest_tidy content part cs logs list mid rests own)))

pub returns-in-Ok-clause-log_moments : goal.returns-in-Ok-clause-log_moments
returns-in-Ok-clause-log_moments g c =
    let content = g.S.Frozen.Frozen.content in
    let part : Partition = record { number = c.args.number; count = c.args.count } in
    let list = c.in-Ok.field-0.list in
    let mid = g.S.Store.history c.in-Ok.field-0.kit.store in
    let own = c.in-Ok.ensures.own in
    both_lawful part _ _ _ (g.S.Store.history c.args.kit.store) c.in-Ok.ensures.rests c.in-Ok.ensures.rests (λ cs logs rests same.
    IfOk-weaker c.start_part.result _ _ (λ p is. starts_log content part cs logs list mid rests own p.generation (g.S.Device.Device.history p.log.device) (ap (λ q. q.generation) is.1) is.0)
    (ok_joined c.start_part.result _ _ (c.start_part.ensures.log_moments rests.contents (rest_are content part cs logs list mid rests own) (rest_tidy content part cs logs list mid rests own)) c.start_part.ensures.begun))

pub returns-in-Ok-clause-kept : goal.returns-in-Ok-clause-kept
returns-in-Ok-clause-kept g c =
    let content = g.S.Frozen.Frozen.content in
    let part : Partition = record { number = c.args.number; count = c.args.count } in
    let list = c.in-Ok.field-0.list in
    let old = g.S.Store.history c.args.kit.store in
    let mid = g.S.Store.history c.in-Ok.field-0.kit.store in
    let own = c.in-Ok.ensures.own in
    both_lawful part _ _ _ old c.in-Ok.ensures.rests c.in-Ok.ensures.keeps (λ cs logs rests keeps.
    let are = rest_are content part cs logs list mid rests own in
    let tidy = rest_tidy content part cs logs list mid rests own in
    IfErr-weaker c.start_part.result _ _ (λ fault is. start_kept content part cs logs list mid rests own old keeps (g.S.Store.history fault.kit.store) is.0 is.1.0 is.1.1)
    (err_joined c.start_part.result _ _ (c.start_part.ensures.left_moments rests.contents are tidy) (err_joined c.start_part.result _ _ c.start_part.ensures.home (c.start_part.ensures.kept rests.contents are tidy))))

pub returns-in-Ok-clause-undamaged : goal.returns-in-Ok-clause-undamaged
returns-in-Ok-clause-undamaged g c =
    let part : Partition = record { number = c.args.number; count = c.args.count } in
    both_lawful part _ _ _ (g.S.Store.history c.args.kit.store) c.in-Ok.ensures.rests c.in-Ok.ensures.rests (λ cs logs rests same. IfErr-weaker c.start_part.result _ _ (λ fault is. no_file_sound fault.cause is) c.start_part.ensures.causes)

pub returns-in-Ok-clause-listed : goal.returns-in-Ok-clause-listed
returns-in-Ok-clause-listed g c =
    told_map _ _ (g.S.Store.history c.args.kit.store) (λ disk passes. IfOk-weaker c.start_part.result _ _ (λ p is. (passes.0, passes.1, ap (λ q. map interval_of q.list) is ∙ passes.2)) c.start_part.ensures.begun) c.in-Ok.ensures.judged

pub returns-in-Ok-clause-refused : goal.returns-in-Ok-clause-refused
returns-in-Ok-clause-refused g c =
    let part : Partition = record { number = c.args.number; count = c.args.count } in
    let list = c.in-Ok.field-0.list in
    told_map _ _ (g.S.Store.history c.args.kit.store) (λ disk passes. IfErr-weaker c.start_part.result _ _ (λ fault is. start_judged (λ file. g.S.Frozen.Frozen.content file) (λ file. g.S.Frozen.Frozen.name file) part list disk fault.cause passes is.0 is.1)
    (err_joined c.start_part.result _ _ c.start_part.ensures.causes (err_tells c.start_part.result _ _ c.start_part.ensures.spent.0))) c.in-Ok.ensures.judged

pub returns-in-Ok-clause-begun : goal.returns-in-Ok-clause-begun
returns-in-Ok-clause-begun g c =
    let part : Partition = record { number = c.args.number; count = c.args.count } in
    let was = c.in-Ok.ensures in
    let list = c.in-Ok.field-0.list in
    IfOk-weaker c.start_part.result _ _ (λ p is. begun_over g.S.Store.history g.S.Watch.Watch.counts g.S.Frozen.Frozen.content part c.args.kit c.in-Ok.field-0.kit was.kit was.watched c.args.limits list p is) c.start_part.ensures.begun

pub returns-in-Ok-clause-begins : goal.returns-in-Ok-clause-begins
returns-in-Ok-clause-begins g c =
    let content = g.S.Frozen.Frozen.content in
    let part : Partition = record { number = c.args.number; count = c.args.count } in
    let rested = c.in-Ok.field-0.kit in
    let list = c.in-Ok.field-0.list in
    let was = c.in-Ok.ensures in
    let start = c.start_part.ensures in
    let r = c.start_part.result in
    IfOk-weaker r _ _ (λ p is. begins g.S.Store.history g.S.Watch.Watch.counts content part c.args.kit rested was.kit was.watched g.S.Device.Device.history c.args.limits list p is.0 is.1.0 was.own was.components was.few (is.1.1.0 was.own) is.1.1.1.0 is.1.1.1.1)
    (ok_joined r _ _ start.begun (ok_joined r _ _ start.made (ok_joined r _ _ start.own (ok_joined r _ _ start.log_out start.counted))))

pub returns-in-Ok-clause-fails : goal.returns-in-Ok-clause-fails
returns-in-Ok-clause-fails g c =
    let content = g.S.Frozen.Frozen.content in
    let part : Partition = record { number = c.args.number; count = c.args.count } in
    let rested = c.in-Ok.field-0.kit in
    let was = c.in-Ok.ensures in
    let start = c.start_part.ensures in
    let r = c.start_part.result in
    let passed = told_map _ _ (g.S.Store.history c.args.kit.store) (λ disk passes. (passes.0, passes.1, tt)) was.judged in
    let home = told_map _ _ (g.S.Store.history rested.store) (λ disk own. own.is_in) was.own in
    IfErr-weaker r _ _ (λ fault is. gives_back g.S.Store.history g.S.Watch.Watch.counts content part c.args.kit rested was.kit was.watched g.S.Frozen.Frozen.size g.S.Frozen.Frozen.name fault.kit fault.cause passed is.0 (is.1.0 home) is.1.1.0 is.1.1.1)
    (err_joined r _ _ start.causes (err_joined r _ _ start.home (err_joined r _ _ start.given_back start.left_counted)))

pub returns-in-Err-clause-fails : goal.returns-in-Err-clause-fails
returns-in-Err-clause-fails g c = record {
  causes = c.in-Err.ensures.causes;
  layout = c.in-Err.ensures.layout;
  untouched = c.in-Err.ensures.untouched;
  home = c.in-Err.ensures.home;
  given_back = c.in-Err.ensures.given_back;
  failed = c.in-Err.ensures.failed;
}
