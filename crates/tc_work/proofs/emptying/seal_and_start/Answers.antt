use Rattle.std.proofs.Common.{◌≡◌, ◌∙◌, is_some, ap, subst}
use Rattle.std.specs.Prelude.{IfErr}
use Rattle.tc_flush.proofs.Outcomes.{ok_then}
use Rattle.tc_jobs.specs.Faults.{AreFiles}
use Rattle.tc_jobs.specs.Lists.{file_names}
use Rattle.tc_part_model.specs.PartState.{PartState}
use Rattle.tc_work.specs.Faults.{IfDamaged}
use Rattle.tc_work.specs.Moving.{beside, eyes}
use Rattle.tc_work.proofs.HandedFaults.{undamaged_so}
use Rattle.tc_work.proofs.KeptJobs.{lists_then}
use Rattle.tc_work.proofs.MovingCalls.{may_over, over_then}
use Rattle.tc_work.proofs.SealedTables.{HasSealed, sealed, sealed_lists, unsealed}
use Rattle.tc_work.proofs.emptying.seal_and_start.Goals as goal

pub seal-requires-clause-sound : goal.seal-requires-clause-sound
seal-requires-clause-sound g c κs within = c.requires.may.sound

pub seal-requires-clause-own : goal.seal-requires-clause-own
seal-requires-clause-own g c κs within = c.requires.may.ready.own

-- ---- the table is not sealed

pub returns-in_err-seal-clause-moves : goal.returns-in_err-seal-clause-moves
returns-in_err-seal-clause-moves g c =
    unsealed (eyes g.S.Store.history g.S.Device.Device.history g.S.Frozen.Frozen.content g.S.Device.Device.name g.S.Frozen.Frozen.size g.S.Watch.Watch.counts)
    c.args.part.now c.seal.new.self c.args.jobs.now c.seal.result c.in_err-seal.ensures.left c.requires.none_out c.requires.may.jobs c.seal.ensures.untold
    c.from_residual.result c.in_err-seal.field-0.0 c.from_residual.ensures.1 c.in_err-seal.was c.seal.ensures.devices c.seal.ensures.counted c.in_err-seal.ensures.failed c.seal.ensures.moments c.in_err-seal.ensures.undamaged
    (λ spent. c.seal.ensures.spent.0 spent) c.seal.ensures.unspent

pub returns-in_err-seal-clause-damaged : goal.returns-in_err-seal-clause-damaged
returns-in_err-seal-clause-damaged g c = undamaged_so c.from_residual.result c.in_err-seal.field-0.0 _ c.from_residual.ensures.1 c.in_err-seal.ensures.undamaged

-- ---- it is, and its flush begins

pub start_flush-requires-clause-may : goal.start_flush-requires-clause-may
start_flush-requires-clause-may g c κs within =
    may_over (eyes g.S.Store.history g.S.Device.Device.history g.S.Frozen.Frozen.content g.S.Device.Device.name g.S.Frozen.Frozen.size g.S.Watch.Watch.counts) (beside c.args.part.now c.args.jobs.now) (beside c.seal.new.self c.args.jobs.now) (beside c.seal.new.self c.args.jobs.now)
    (sealed (eyes g.S.Store.history g.S.Device.Device.history g.S.Frozen.Frozen.content g.S.Device.Device.name g.S.Frozen.Frozen.size g.S.Watch.Watch.counts)
    c.args.part.now c.seal.new.self c.args.jobs.now c.seal.result has_sealed c.requires.may.sound c.requires.none_out c.requires.none_sealed c.requires.may.ready
    c.requires.may.jobs c.seal.ensures.counted)
  where
    has_sealed : HasSealed (eyes g.S.Store.history g.S.Device.Device.history g.S.Frozen.Frozen.content g.S.Device.Device.name g.S.Frozen.Frozen.size g.S.Watch.Watch.counts) c.args.part.now c.seal.new.self c.args.jobs.now c.seal.result
    has_sealed = record { seals = c.in_ok-seal.ensures.seals; tells = c.seal.ensures.tells; devices = c.seal.ensures.devices; moments = c.seal.ensures.moments }

pub start_flush-requires-clause-sealed : goal.start_flush-requires-clause-sealed
start_flush-requires-clause-sealed g c κs within = ap (λ (s : PartState _ _ _ _). is_some s.sealed) c.in_ok-seal.ensures.seals.same

pub start_flush-requires-clause-both : goal.start_flush-requires-clause-both
start_flush-requires-clause-both g c κs within = ap (λ (s : PartState _ _ _ _). is_some s.sealed_log) c.in_ok-seal.ensures.seals.same

pub start_flush-requires-clause-none_out : goal.start_flush-requires-clause-none_out
start_flush-requires-clause-none_out g c κs within = ap (λ (s : PartState _ _ _ _). s.flushing) c.in_ok-seal.ensures.seals.same ∙ c.requires.none_out

pub returns-clause-sealed : goal.returns-clause-sealed
returns-clause-sealed g c = ok_then c.start_flush.result _ _ (λ (begun : c.start_flush.new.part ≡ _). (
  ap (λ (s : PartState _ _ _ _). s.flushing) begun,
  ap (λ (s : PartState _ _ _ _). is_some s.sealed) begun ∙ ap (λ (s : PartState _ _ _ _). is_some s.sealed) c.in_ok-seal.ensures.seals.same,
  ap (λ (s : PartState _ _ _ _). s.sealed_log) begun ∙ ap (λ (s : PartState _ _ _ _). s.sealed_log) c.in_ok-seal.ensures.seals.same,
)) c.start_flush.ensures.begun

pub returns-clause-emptied : goal.returns-clause-emptied
returns-clause-emptied g c = ok_then c.start_flush.result _ _ (λ (begun : c.start_flush.new.part ≡ _). (
  ap (λ (s : PartState _ _ _ _). s.active) begun ∙ ap (λ (s : PartState _ _ _ _). s.active) c.in_ok-seal.ensures.seals.same,
  ap (λ (s : PartState _ _ _ _). g.S.Device.Device.size s.log.device) begun ∙ c.in_ok-seal.ensures.empty,
  ap (λ (s : PartState _ _ _ _). s.generation) begun ∙ ap (λ (s : PartState _ _ _ _). s.generation) c.in_ok-seal.ensures.seals.same,
)) c.start_flush.ensures.begun

pub returns-clause-list : goal.returns-clause-list
returns-clause-list g c = ok_then c.start_flush.result _ _ (λ (begun : c.start_flush.new.part ≡ _). ap (λ (s : PartState _ _ _ _). s.list) begun ∙ ap (λ (s : PartState _ _ _ _). s.list) c.in_ok-seal.ensures.seals.same) c.start_flush.ensures.begun

pub returns-clause-moves : goal.returns-clause-moves
returns-clause-moves g c =
    over_then (eyes g.S.Store.history g.S.Device.Device.history g.S.Frozen.Frozen.content g.S.Device.Device.name g.S.Frozen.Frozen.size g.S.Watch.Watch.counts)
    (beside c.args.part.now c.args.jobs.now) (beside c.seal.new.self c.args.jobs.now) (beside c.start_flush.new.part c.start_flush.new.jobs) c.start_flush.result
    (sealed (eyes g.S.Store.history g.S.Device.Device.history g.S.Frozen.Frozen.content g.S.Device.Device.name g.S.Frozen.Frozen.size g.S.Watch.Watch.counts)
    c.args.part.now c.seal.new.self c.args.jobs.now c.seal.result has_sealed c.requires.may.sound c.requires.none_out c.requires.none_sealed c.requires.may.ready
    c.requires.may.jobs c.seal.ensures.counted)
    (ap (λ (s : PartState _ _ _ _). s.sealed_log) c.in_ok-seal.ensures.seals.same) (ap (λ (s : PartState _ _ _ _). s.generation) c.in_ok-seal.ensures.seals.same) c.start_flush.ensures.moves
  where
    has_sealed : HasSealed (eyes g.S.Store.history g.S.Device.Device.history g.S.Frozen.Frozen.content g.S.Device.Device.name g.S.Frozen.Frozen.size g.S.Watch.Watch.counts) c.args.part.now c.seal.new.self c.args.jobs.now c.seal.result
    has_sealed = record { seals = c.in_ok-seal.ensures.seals; tells = c.seal.ensures.tells; devices = c.seal.ensures.devices; moments = c.seal.ensures.moments }

pub returns-clause-listed : goal.returns-clause-listed
returns-clause-listed g c = ok_then c.start_flush.result _ _ (λ lists policy picked.
    let one = sealed_lists (eyes g.S.Store.history g.S.Device.Device.history g.S.Frozen.Frozen.content g.S.Device.Device.name g.S.Frozen.Frozen.size
    g.S.Watch.Watch.counts) c.args.part.now c.seal.new.self c.args.jobs.now c.seal.result has_sealed c.requires.may.sound c.requires.none_out
    c.requires.none_sealed c.requires.may.ready c.requires.may.jobs policy picked in
    lists_then (eyes g.S.Store.history g.S.Device.Device.history g.S.Frozen.Frozen.content g.S.Device.Device.name g.S.Frozen.Frozen.size g.S.Watch.Watch.counts)
    (beside c.args.part.now c.args.jobs.now) (beside c.seal.new.self c.args.jobs.now) (beside c.start_flush.new.part c.start_flush.new.jobs) policy one
    (lists policy one.picked)) c.start_flush.ensures.listed
  where
    has_sealed : HasSealed (eyes g.S.Store.history g.S.Device.Device.history g.S.Frozen.Frozen.content g.S.Device.Device.name g.S.Frozen.Frozen.size g.S.Watch.Watch.counts) c.args.part.now c.seal.new.self c.args.jobs.now c.seal.result
    has_sealed = record { seals = c.in_ok-seal.ensures.seals; tells = c.seal.ensures.tells; devices = c.seal.ensures.devices; moments = c.seal.ensures.moments }

pub returns-clause-damaged : goal.returns-clause-damaged
returns-clause-damaged g c =
    subst (λ (xs : _). IfErr c.start_flush.result (λ fault. IfDamaged fault (AreFiles (file_names xs)))) (ap (λ (s : PartState _ _ _ _). s.list) c.in_ok-seal.ensures.seals.same) c.start_flush.ensures.damaged
