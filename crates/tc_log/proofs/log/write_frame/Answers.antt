use Rattle.std.proofs.Common.{◌-◌, sym, subst}
use Rattle.tc_store.specs.Moments.{IfTold}
use Rattle.tc_log.specs.Appending.{MeansWithOrWithout, Appends}
use Rattle.tc_log.proofs.Appended.{write_failed, not_synced, gate_failed, gate_written}
use Rattle.tc_log.proofs.log.write_frame.Goals as goal

pub returns-in_err-write_at-clause-moments : goal.returns-in_err-write_at-clause-moments
returns-in_err-write_at-clause-moments g c head writes more told =
    let old = g.D.Device.history c.args.device.now in
    let at = subst (λ n. IfTold old (Appends (MeansWithOrWithout head writes more) (n - 1) c.args.bytes.now)) (sym c.len-gate.ensures.exact) told in
    write_failed (MeansWithOrWithout head writes more) (c.len-gate.result - 1) c.args.bytes.now old (g.D.Device.history c.write_at.new.self) c.in_err-write_at.field-0.0
    (record { failed = c.in_err-write_at.ensures.failed; no_memory = c.in_err-write_at.ensures.no_memory }) at

pub returns-in_err-sync-clause-moments : goal.returns-in_err-sync-clause-moments
returns-in_err-sync-clause-moments g c head writes more told =
    let old = g.D.Device.history c.args.device.now in
    let at = subst (λ n. IfTold old (Appends (MeansWithOrWithout head writes more) (n - 1) c.args.bytes.now)) (sym c.len-gate.ensures.exact) told in
    not_synced (MeansWithOrWithout head writes more) (c.len-gate.result - 1) c.args.bytes.now old (g.D.Device.history c.write_at.new.self) (g.D.Device.history c.sync.new.self)
    c.in_ok-write_at.ensures.written c.in_err-sync.ensures.failed at

pub returns-in_err-write_at-2-clause-moments : goal.returns-in_err-write_at-2-clause-moments
returns-in_err-write_at-2-clause-moments g c head writes more told =
    let old = g.D.Device.history c.args.device.now in
    let at = subst (λ n. IfTold old (Appends (MeansWithOrWithout head writes more) (n - 1) c.args.bytes.now)) (sym c.len-gate.ensures.exact) told in
    gate_failed (MeansWithOrWithout head writes more) (c.len-gate.result - 1) c.args.bytes.now old (g.D.Device.history c.write_at.new.self) (g.D.Device.history c.sync.new.self) (g.D.Device.history c.write_at-2.new.self) c.in_err-write_at-2.field-0.0
    c.in_ok-write_at.ensures.written c.in_ok-sync.ensures.synced (record { failed = c.in_err-write_at-2.ensures.failed; no_memory = c.in_err-write_at-2.ensures.no_memory }) at

pub returns-clause-moments : goal.returns-clause-moments
returns-clause-moments g c head writes more told =
    let old = g.D.Device.history c.args.device.now in
    let at = subst (λ n. IfTold old (Appends (MeansWithOrWithout head writes more) (n - 1) c.args.bytes.now)) (sym c.len-gate.ensures.exact) told in
    gate_written (MeansWithOrWithout head writes more) (c.len-gate.result - 1) c.args.bytes.now old (g.D.Device.history c.write_at.new.self) (g.D.Device.history c.sync.new.self) (g.D.Device.history c.write_at-2.new.self) (g.D.Device.history c.sync-2.new.self) c.sync-2.result
    c.in_ok-write_at.ensures.written c.in_ok-sync.ensures.synced c.in_ok-write_at-2.ensures.written c.sync-2.ensures.synced c.sync-2.ensures.failed at
