use Rattle.std.proofs.Common.{◌∙◌, ap, sym, subst}
use Rattle.tc_keeper.specs.Standing.{partition_at}
use Rattle.tc_keeper.specs.WithJobs.{engine_with, no_jobs}
use Rattle.tc_part.specs.FilesOut.{HoldsDevices}
use Rattle.tc_part_model.specs.PartState.{told}
use Rattle.tc_work.specs.EngineState.{EngineState}
use Rattle.tc_work.specs.Moving.{eyes}
use Rattle.tc_work.specs.Settling.{MaySettle}
use Rattle.tc_keeper.specs.Faults.{faults_in}
use Rattle.tc_server.specs.Kits.{IsOpened}
use Rattle.tc_server.proofs.KitOpenings.{engine_opened, given_back, opening_found, pushed_back}
use Rattle.tc_server.proofs.opening.open_kit.Goals as goal

pub returns-in-Err-clause-back : goal.returns-in-Err-clause-back
returns-in-Err-clause-back g c =
    rw c.of_opening.ensures (given_back g.S.Store.history g.S.Watch.Watch.counts g.S.Frozen.Frozen.content g.S.Frozen.Frozen.name c.args.number c.args.options.now.partitions c.in-Err.field-0.cause c.args.kit c.in-Err.field-0.kit
    c.in-Err.ensures.lawful c.in-Err.ensures.undamaged c.in-Err.ensures.kept c.in-Err.ensures.refused c.in-Err.ensures.fails.untouched c.in-Err.ensures.fails.home c.in-Err.ensures.fails.given_back c.in-Err.ensures.fails.failed)

pub returns-in-Err-clause-found : goal.returns-in-Err-clause-found
returns-in-Err-clause-found g c =
    rw c.of_opening.ensures (opening_found g.row.S-Watch.Denot g.S.Frozen.Frozen.size g.S.Frozen.Frozen.content g.S.Frozen.Frozen.name c.args.number c.args.options.now.partitions c.in-Err.field-0.cause c.in-Err.ensures.fails.causes)

pub returns-in-Ok-push-clause-opened : goal.returns-in-Ok-push-clause-opened
returns-in-Ok-push-clause-opened g c = (
  engine_with c.new.result no_jobs,
  c.in-Ok-push.ensures.pushed,
  subst (λ engine. IsOpened (eyes g.S.Store.history g.S.Device.Device.history g.S.Frozen.Frozen.content g.S.Device.Device.name g.S.Frozen.Frozen.size
      g.S.Watch.Watch.counts) c.args.options.now (partition_at c.args.number c.args.options.now.partitions) (g.S.Store.history c.args.kit.store)
      (faults_in g.S.Watch.Watch.counts c.args.kit) (engine_with engine no_jobs)) (sym c.new.ensures.made)
      (engine_opened (eyes g.S.Store.history g.S.Device.Device.history g.S.Frozen.Frozen.content g.S.Device.Device.name g.S.Frozen.Frozen.size g.S.Watch.Watch.counts)
      c.args.options.now (partition_at c.args.number c.args.options.now.partitions) (g.S.Store.history c.args.kit.store) c.args.kit c.in-Ok.part c.policy_of.result
      (record { sound = ap (λ p. p.failed) c.in-Ok.ensures.begun; log = c.in-Ok.ensures.begins.log_out })
      (ap (λ p. p.staged) c.in-Ok.ensures.begun) (ap (λ p. p.limits) c.in-Ok.ensures.begun) (ap (λ p. p.memory) c.in-Ok.ensures.begun) c.policy_of.ensures c.in-Ok.ensures.opened c.in-Ok.ensures.judged c.in-Ok.ensures.begins.watched
      (ap (λ p. p.flusher) c.in-Ok.ensures.begun) (ap (λ p. p.merger) c.in-Ok.ensures.begun) (ap (λ p. p.reader) c.in-Ok.ensures.begun) (ap (λ p. p.sealed) c.in-Ok.ensures.begun) (ap (λ p. p.active) c.in-Ok.ensures.begun)
      (ap (λ p. partition_at p.number p.count) c.in-Ok.ensures.begun)),
)

pub returns-in-Err-push-clause-back : goal.returns-in-Err-push-clause-back
returns-in-Err-push-clause-back g c =
    pushed_back (eyes g.S.Store.history g.S.Device.Device.history g.S.Frozen.Frozen.content g.S.Device.Device.name g.S.Frozen.Frozen.size g.S.Watch.Watch.counts)
    g.S.Frozen.Frozen.name g.S.Device.Device.size c.args.options.now (partition_at c.args.number c.args.options.now.partitions) (g.S.Store.history c.args.kit.store)
    (faults_in g.S.Watch.Watch.counts c.args.kit) (engine_with c.in-Err-push.engine c.new-in-Err-push.result) c.close.result.outcome
    (g.S.Store.history c.close.result.kit.store) (faults_in g.S.Watch.Watch.counts c.close.result.kit)
    (subst (λ jobs. IsOpened (eyes g.S.Store.history g.S.Device.Device.history g.S.Frozen.Frozen.content g.S.Device.Device.name g.S.Frozen.Frozen.size
    g.S.Watch.Watch.counts) c.args.options.now (partition_at c.args.number c.args.options.now.partitions) (g.S.Store.history c.args.kit.store)
    (faults_in g.S.Watch.Watch.counts c.args.kit) (engine_with c.in-Err-push.engine jobs)) (sym c.new-in-Err-push.ensures)
    (subst (λ engine. IsOpened (eyes g.S.Store.history g.S.Device.Device.history g.S.Frozen.Frozen.content g.S.Device.Device.name g.S.Frozen.Frozen.size
    g.S.Watch.Watch.counts) c.args.options.now (partition_at c.args.number c.args.options.now.partitions) (g.S.Store.history c.args.kit.store)
    (faults_in g.S.Watch.Watch.counts c.args.kit) (engine_with engine no_jobs)) (sym (c.in-Err-push.ensures.back ∙ c.new.ensures.made))
    (engine_opened (eyes g.S.Store.history g.S.Device.Device.history g.S.Frozen.Frozen.content g.S.Device.Device.name g.S.Frozen.Frozen.size
    g.S.Watch.Watch.counts) c.args.options.now (partition_at c.args.number c.args.options.now.partitions) (g.S.Store.history c.args.kit.store) c.args.kit
    c.in-Ok.part c.policy_of.result
    (record { sound = ap (λ p. p.failed) c.in-Ok.ensures.begun; log = c.in-Ok.ensures.begins.log_out })
    (ap (λ p. p.staged) c.in-Ok.ensures.begun) (ap (λ p. p.limits) c.in-Ok.ensures.begun) (ap (λ p. p.memory) c.in-Ok.ensures.begun) c.policy_of.ensures c.in-Ok.ensures.opened c.in-Ok.ensures.judged c.in-Ok.ensures.begins.watched
    (ap (λ p. p.flusher) c.in-Ok.ensures.begun) (ap (λ p. p.merger) c.in-Ok.ensures.begun) (ap (λ p. p.reader) c.in-Ok.ensures.begun) (ap (λ p. p.sealed) c.in-Ok.ensures.begun) (ap (λ p. p.active) c.in-Ok.ensures.begun)
    (ap (λ p. partition_at p.number p.count) c.in-Ok.ensures.begun)))) c.close.ensures

pub push-requires-clause-ready : goal.push-requires-clause-ready
push-requires-clause-ready g c κs within = λ sound.
    subst (λ (engine : EngineState _ _ _ _). MaySettle (told g.S.Store.history g.S.Device.Device.history g.S.Frozen.Frozen.content engine.part)) (sym c.new.ensures.made) (record { own = c.in-Ok.ensures.begins.has_own; components = c.in-Ok.ensures.begins.components })

pub push-requires-clause-devices : goal.push-requires-clause-devices
push-requires-clause-devices g c κs within =
    subst (λ (engine : EngineState _ _ _ _). HoldsDevices (told g.S.Store.history g.S.Device.Device.history g.S.Frozen.Frozen.content engine.part)) (sym c.new.ensures.made) c.in-Ok.ensures.begins.devices
