use Rattle.std.proofs.Common.{inr}
use Rattle.tc_recover.proofs.Taking.{one_file, taken_first}
use Rattle.tc_recover.proofs.gates.take_files.Goals as goal

pub returns-in_err-file-clause-partly : goal.returns-in_err-file-clause-partly
returns-in_err-file-clause-partly g c =
    taken_first c.from_residual.result _ c.args.names.now c.loop-name.rest.now c.in-Some.behind.now c.in-Some.name.now (g.S.Store.history c.args.store.now) (g.S.Store.history c.loop-name.store) (g.S.Store.history c.take_file.new.store) c.loop-name.files.items
    c.loop-name.invariant.taking c.in-Some.ensures.cases.0 c.in_err-file.ensures.failed

pub returns-in_err-push-clause-partly : goal.returns-in_err-push-clause-partly
returns-in_err-push-clause-partly g c =
    taken_first c.from_residual-in_err-push.result _ c.args.names.now c.loop-name.rest.now c.in-Some.behind.now c.in-Some.name.now (g.S.Store.history c.args.store.now) (g.S.Store.history c.loop-name.store) (g.S.Store.history c.take_file.new.store) c.loop-name.files.items
    c.loop-name.invariant.taking c.in-Some.ensures.cases.0 (inr c.in_ok-file.ensures.taken)

pub loop-name-preserved : goal.loop-name-preserved
loop-name-preserved g c =
    one_file _ _ _ c.args.names.now c.loop-name.rest.now c.in-Some.behind.now c.in-Some.name.now (g.S.Store.history c.args.store.now) (g.S.Store.history c.loop-name.store) (g.S.Store.history c.take_file.new.store)
    c.loop-name.files.items c.push.new.self.items c.in_ok-file.file (g.S.Watch.Watch.counts c.args.watch.now) (g.S.Watch.Watch.counts c.loop-name.watch) (g.S.Watch.Watch.counts c.take_file.new.watch)
    c.loop-name.invariant c.in-Some.ensures.cases.0 c.in_ok-file.ensures.taken c.in_ok-push.ensures.items c.in_ok-file.ensures.name c.in_ok-file.ensures.named c.in_ok-file.ensures.told c.in_ok-file.ensures.gate c.in_ok-file.ensures.bytes
    c.in_ok-file.ensures.faults.faults (c.in_ok-file.ensures.long.done tt)
