use Rattle.std.proofs.Common.{◌≡◌, inl, inr, subst, sym}
use Rattle.std.proofs.lemmas.Result.{IfErr-weaker, IfOk-weaker}
use Rattle.tc_store.proofs.MomentLemmas.{told_map}
use Rattle.tc_machine.specs.Pictures.{recovered}
use Rattle.tc_recover.specs.Opening.{found_in}
use Rattle.tc_recover.specs.Refusals.{asked}
use Rattle.tc_open.specs.Judged.{AreOfDisk}
use Rattle.tc_open.proofs.FlushedAbove.{damage_weaker, logs_so}
use Rattle.tc_open.proofs.ListedIntervals.{flushed_so}
use Rattle.tc_open.proofs.Lawfully.{both_lawful, both_told}
use Rattle.tc_open.proofs.OpenStates.{keeps_on}
use Rattle.tc_open.proofs.RestedOpenings.{err_joined, job_caused, job_judged}
use Rattle.tc_open.proofs.clearing.clear_logs.Goals as goal

pub returns-in-Ok-clause-rests : goal.returns-in-Ok-clause-rests
returns-in-Ok-clause-rests g c = both_lawful (asked c.args.part) _ _ _ (g.S.Store.history c.args.kit.store) c.in-Ok.ensures.stands c.in-Ok.ensures.stands (λ cs logs stands same. c.flush_above.ensures.rests cs logs stands)

pub returns-in-Ok-clause-keeps : goal.returns-in-Ok-clause-keeps
returns-in-Ok-clause-keeps g c =
    let part = asked c.args.part in
    let old = g.S.Store.history c.args.kit.store in
    let mid = g.S.Store.history c.in-Ok.tidied.kit.store in
    both_lawful part _ _ _ old c.in-Ok.ensures.stands c.in-Ok.ensures.keeps (λ cs logs stands before.
    IfOk-weaker c.flush_above.result _ _ (λ r after. keeps_on part (recovered cs logs).pairs old mid (g.S.Store.history r.kit.store) before after) (c.flush_above.ensures.keeps cs logs stands))

pub returns-in-Ok-clause-kept : goal.returns-in-Ok-clause-kept
returns-in-Ok-clause-kept g c =
    let part = asked c.args.part in
    let old = g.S.Store.history c.args.kit.store in
    let mid = g.S.Store.history c.in-Ok.tidied.kit.store in
    both_lawful part _ _ _ old c.in-Ok.ensures.stands c.in-Ok.ensures.keeps (λ cs logs stands before.
    IfErr-weaker c.flush_above.result _ _ (λ fault after. keeps_on part (recovered cs logs).pairs old mid (g.S.Store.history fault.kit.store) before after) (c.flush_above.ensures.kept cs logs stands))

pub returns-in-Ok-clause-judged : goal.returns-in-Ok-clause-judged
returns-in-Ok-clause-judged g c =
    let t = c.in-Ok.tidied in
    let content = g.S.Frozen.Frozen.content in
    both_told _ _ _ (g.S.Store.history c.args.kit.store) (λ disk judged read. IfOk-weaker c.flush_above.result _ _ (λ r flushed. (
      found_in t.list t.writes.items,
      judged,
      flushed_so (λ older. older ≡ t.list) (AreOfDisk (λ file. content file) disk) (found_in t.list t.writes.items) r.list (λ older same. subst (AreOfDisk (λ file. content file) disk) (sym same) read) flushed,
    )) c.flush_above.ensures.flushed) c.in-Ok.ensures.judged c.in-Ok.ensures.files

pub returns-in-Ok-clause-refused : goal.returns-in-Ok-clause-refused
returns-in-Ok-clause-refused g c =
    let t = c.in-Ok.tidied in
    let found = found_in t.list t.writes.items in
    let content = g.S.Frozen.Frozen.content in
    let name = g.S.Frozen.Frozen.name in
    both_told _ _ _ (g.S.Store.history c.args.kit.store) (λ disk judged read. IfErr-weaker c.flush_above.result _ _
    (λ fault is. job_judged (λ file. content file) (λ file. name file) (asked c.args.part) found disk fault.cause judged is.0
    (damage_weaker _ _ fault.cause (λ damage of. inl (logs_so (λ file. content file) (λ file. name file) (asked c.args.part) (λ list. list ≡ t.list) (AreOfDisk (λ file. content file) disk) found damage
    (λ list same. subst (AreOfDisk (λ file. content file) disk) (sym same) read) of)) is.1)) (err_joined c.flush_above.result _ _ c.flush_above.ensures.causes c.flush_above.ensures.damaged))
    c.in-Ok.ensures.judged c.in-Ok.ensures.files

pub returns-in-Ok-clause-causes : goal.returns-in-Ok-clause-causes
returns-in-Ok-clause-causes g c =
    let found = found_in c.in-Ok.tidied.list c.in-Ok.tidied.writes.items in
    IfErr-weaker c.flush_above.result _ _
    (λ fault is. job_caused (λ file. g.S.Frozen.Frozen.content file) (λ file. g.S.Frozen.Frozen.name file) (asked c.args.part) found _
    (λ file. g.S.Frozen.Frozen.size file) fault.cause is.0 (damage_weaker _ _ fault.cause (λ damage of. inl (logs_so (λ file. g.S.Frozen.Frozen.content file)
    (λ file. g.S.Frozen.Frozen.name file) (asked c.args.part) (λ list. list ≡ c.in-Ok.tidied.list) (λ list. Unit {0}) found damage (λ list same. tt) of)) is.1))
    (err_joined c.flush_above.result _ _ c.flush_above.ensures.causes c.flush_above.ensures.damaged)

pub returns-in-Ok-clause-undamaged : goal.returns-in-Ok-clause-undamaged
returns-in-Ok-clause-undamaged g c = both_lawful (asked c.args.part) _ _ _ (g.S.Store.history c.args.kit.store) c.in-Ok.ensures.stands c.in-Ok.ensures.stands (λ cs logs stands same. c.flush_above.ensures.undamaged cs logs stands)

pub returns-in-Ok-clause-untouched : goal.returns-in-Ok-clause-untouched
returns-in-Ok-clause-untouched g c =
    let t = c.in-Ok.tidied in
    let passed = told_map _ _ (g.S.Store.history c.args.kit.store) (λ disk judged. (found_in t.list t.writes.items, judged, tt)) c.in-Ok.ensures.judged in
    IfErr-weaker c.flush_above.result _ _ (λ fault given. inr passed) c.flush_above.ensures.given_back
