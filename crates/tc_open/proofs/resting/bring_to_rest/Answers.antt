use Rattle.std.proofs.Common.{[], ◌∙◌, ap, inr}
use Rattle.std.proofs.lemmas.Result.{IfErr-weaker, IfOk-weaker}
use Rattle.tc_store.proofs.MomentLemmas.{told_map}
use Rattle.tc_machine.specs.Pictures.{recovered}
use Rattle.tc_recover.specs.Refusals.{asked}
use Rattle.tc_open.specs.Listed.{merged_as}
use Rattle.tc_open.proofs.Lawfully.{both_lawful}
use Rattle.tc_open.proofs.ListedIntervals.{flushed_listed}
use Rattle.tc_open.proofs.RestedOpenings.{err_joined, keeps_as, merge_caused, merge_judged, opened_rests}
use Rattle.tc_open.proofs.resting.bring_to_rest.Goals as goal

pub returns-in-Ok-clause-rests : goal.returns-in-Ok-clause-rests
returns-in-Ok-clause-rests g c =
    let part = asked c.args.part in
    let list = c.in-Ok.rested.list in
    let mid = g.S.Store.history c.in-Ok.rested.kit.store in
    both_lawful part _ _ _ (g.S.Store.history c.args.kit.store) c.in-Ok.ensures.rests c.in-Ok.ensures.rests (λ cs logs rests same.
    IfOk-weaker c.merge_many.result _ _ (λ r now. opened_rests g.S.Frozen.Frozen.content part cs logs list r.list mid (g.S.Store.history r.kit.store) rests now) (c.merge_many.ensures.rests rests.contents rests.stands))

pub returns-in-Ok-clause-keeps : goal.returns-in-Ok-clause-keeps
returns-in-Ok-clause-keeps g c =
    let part = asked c.args.part in
    let old = g.S.Store.history c.args.kit.store in
    let mid = g.S.Store.history c.in-Ok.rested.kit.store in
    both_lawful part _ _ _ old c.in-Ok.ensures.rests c.in-Ok.ensures.keeps (λ cs logs rests before.
    IfOk-weaker c.merge_many.result _ _ (λ r after. keeps_as part (recovered rests.contents []) (recovered cs logs) old mid (g.S.Store.history r.kit.store) rests.same before after) (c.merge_many.ensures.keeps rests.contents rests.stands))

pub returns-in-Ok-clause-kept : goal.returns-in-Ok-clause-kept
returns-in-Ok-clause-kept g c =
    let part = asked c.args.part in
    let old = g.S.Store.history c.args.kit.store in
    let mid = g.S.Store.history c.in-Ok.rested.kit.store in
    both_lawful part _ _ _ old c.in-Ok.ensures.rests c.in-Ok.ensures.keeps (λ cs logs rests before.
    IfErr-weaker c.merge_many.result _ _ (λ fault after. keeps_as part (recovered rests.contents []) (recovered cs logs) old mid (g.S.Store.history fault.kit.store) rests.same before after) (c.merge_many.ensures.kept rests.contents rests.stands))

pub returns-in-Ok-clause-undamaged : goal.returns-in-Ok-clause-undamaged
returns-in-Ok-clause-undamaged g c =
    both_lawful (asked c.args.part) _ _ _ (g.S.Store.history c.args.kit.store) c.in-Ok.ensures.rests c.in-Ok.ensures.rests (λ cs logs rests same. c.merge_many.ensures.undamaged rests.contents rests.stands)

pub returns-in-Ok-clause-judged : goal.returns-in-Ok-clause-judged
returns-in-Ok-clause-judged g c =
    told_map _ _ (g.S.Store.history c.args.kit.store) (λ disk passes. IfOk-weaker c.merge_many.result _ _ (λ r merged. (passes.0, passes.1, merged ∙ ap merged_as (flushed_listed passes.0 c.in-Ok.rested.list passes.2))) c.merge_many.ensures.merged) c.in-Ok.ensures.judged

pub returns-in-Ok-clause-refused : goal.returns-in-Ok-clause-refused
returns-in-Ok-clause-refused g c =
    told_map _ _ (g.S.Store.history c.args.kit.store) (λ disk passes. IfErr-weaker c.merge_many.result _ _
    (λ fault is. merge_judged (λ file. g.S.Frozen.Frozen.content file) (λ file. g.S.Frozen.Frozen.name file) (asked c.args.part) c.in-Ok.rested.list disk fault.cause passes is.0 is.1)
    (err_joined c.merge_many.result _ _ c.merge_many.ensures.causes c.merge_many.ensures.damaged)) c.in-Ok.ensures.judged

pub returns-in-Ok-clause-causes : goal.returns-in-Ok-clause-causes
returns-in-Ok-clause-causes g c =
    IfErr-weaker c.merge_many.result _ _
    (λ fault is. merge_caused (λ file. g.S.Frozen.Frozen.content file) (λ file. g.S.Frozen.Frozen.name file) (asked c.args.part) c.in-Ok.rested.list _ (λ file. g.S.Frozen.Frozen.size file) fault.cause is.0 is.1)
    (err_joined c.merge_many.result _ _ c.merge_many.ensures.causes c.merge_many.ensures.damaged)

pub returns-in-Ok-clause-untouched : goal.returns-in-Ok-clause-untouched
returns-in-Ok-clause-untouched g c =
    let passed = told_map _ _ (g.S.Store.history c.args.kit.store) (λ disk passes. (passes.0, passes.1, tt)) c.in-Ok.ensures.judged in
    IfErr-weaker c.merge_many.result _ _ (λ fault given. inr passed) c.merge_many.ensures.given_back
