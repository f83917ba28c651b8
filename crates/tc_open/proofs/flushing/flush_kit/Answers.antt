use Rattle.tc_component.specs.Rows.{part_of}
use Rattle.tc_open.specs.FlushedLogs.{IsReplayDamage}
use Rattle.std.proofs.Common.{sym, subst}
use Rattle.tc_store.proofs.MomentLemmas.{told_map}
use Rattle.tc_open.specs.OpenCauses.{IfDamaged}
use Rattle.tc_open.proofs.FilesIn.{fault_in}
use Rattle.tc_open.proofs.FlushedOpenings.{job_damage, logged_keeps}
use Rattle.tc_open.proofs.flushing.flush_kit.Goals as goal

pub returns-in-Ok-clause-keeps : goal.returns-in-Ok-clause-keeps
returns-in-Ok-clause-keeps g c = λ cs ws is loaded same.
    logged_keeps (part_of c.args.head) cs ws (g.S.Store.history c.args.kit.store) (g.S.Store.history c.flush_logs-watch.new.store) (c.flush_logs-watch.ensures.moments cs ws is loaded same) (c.flush_logs-watch.ensures.kept cs ws is loaded same)

pub returns-in-Err-clause-kept : goal.returns-in-Err-clause-kept
returns-in-Err-clause-kept g c = λ cs ws is loaded same.
    logged_keeps (part_of c.args.head) cs ws (g.S.Store.history c.args.kit.store) (g.S.Store.history c.flush_logs-watch.new.store) (c.flush_logs-watch.ensures.moments cs ws is loaded same) (c.flush_logs-watch.ensures.kept cs ws is loaded same)

pub returns-in-Err-clause-damaged : goal.returns-in-Err-clause-damaged
returns-in-Err-clause-damaged g c =
    let harm = IsReplayDamage (λ file. g.S.Frozen.Frozen.content file) (λ file. g.S.Frozen.Frozen.name file) c.args.head c.args.writes.now c.args.list in
    subst (λ e. IfDamaged e harm) (sym c.from.ensures) (job_damage harm c.flush_logs-watch.result.outcome c.in-Err.fault c.in-Err.is c.flush_logs-watch.ensures.damaged)

pub returns-in-Err-clause-undamaged : goal.returns-in-Err-clause-undamaged
returns-in-Err-clause-undamaged g c = λ cs ws is loaded same.
    told_map _ _ (g.S.Store.history c.args.kit.store)
    (λ disk sound. subst (λ e. IfDamaged e (λ damage. ⊥)) (sym c.from.ensures) (job_damage (λ damage. ⊥) c.flush_logs-watch.result.outcome c.in-Err.fault c.in-Err.is sound))
    (c.flush_logs-watch.ensures.undamaged cs ws is loaded same)

pub returns-in-Err-clause-home : goal.returns-in-Err-clause-home
returns-in-Err-clause-home g c = λ are.
    fault_in _ c.args.head (g.S.Store.history c.args.kit.store) (g.S.Store.history c.flush_logs-watch.new.store) c.flush_logs-watch.result.outcome c.in-Err.fault c.in-Err.is c.flush_logs-watch.ensures.left are
