use Rattle.std.proofs.Common.{◌≡◌, ◌∙◌, refl, sym, ap, subst}
use Rattle.tc_part_model.specs.PartState.{PartState}
use Rattle.tc_work.specs.Moving.{beside, eyes, told_by}
use Rattle.tc_work.proofs.HandedFaults.{undamaged_so}
use Rattle.tc_work.proofs.MovingCalls.{moves_failed}
use Rattle.tc_work.proofs.StoredMoments.{store_moments}
use Rattle.tc_work.proofs.SweptFiles.{swept, swept_lists, swept_same, HasSwept}
use Rattle.tc_work.proofs.sweeping.sweep.Goals as goal

-- ---- a file did not go

pub returns-in_err-sweep-clause-same : goal.returns-in_err-sweep-clause-same
returns-in_err-sweep-clause-same g c = subst (λ (s : PartState _ _ _ _). s ≡ record c.args.part.now { store = s.store; main = s.main; failed = s.failed }) (sym c.in_err-sweep.ensures.left) refl

pub returns-in_err-sweep-clause-moves : goal.returns-in_err-sweep-clause-moves
returns-in_err-sweep-clause-moves g c = λ jobs may.
    let e = eyes g.S.Store.history g.S.Device.Device.history g.S.Frozen.Frozen.content g.S.Device.Device.name g.S.Frozen.Frozen.size g.S.Watch.Watch.counts in
    let t = told_by e (beside c.args.part.now jobs) in
    let r = c.from_residual.result in
    let fault = c.in_err-sweep.field-0.0 in
    let is = c.from_residual.ensures.1 in
    moves_failed e c.args.part.now c.sweep.new.self jobs r c.sweep.result fault is c.in_err-sweep.was may.jobs c.in_err-sweep.ensures.left c.sweep.ensures.untold c.sweep.ensures.devices c.sweep.ensures.counted
    c.in_err-sweep.ensures.failed
    (λ p of tells works. store_moments t p p (g.S.Store.history c.sweep.new.self.store) refl refl (c.sweep.ensures.moments p of))
    (undamaged_so r fault _ is c.in_err-sweep.ensures.undamaged) (λ p of tells. undamaged_so r fault _ is c.in_err-sweep.ensures.undamaged) c.sweep.ensures.unspent

-- ---- those that nothing shares are gone

pub returns-clause-same : goal.returns-clause-same
returns-clause-same g c = swept_same c.args.part.now c.sweep.new.self c.in_ok-sweep.ensures.same

pub returns-clause-moves : goal.returns-clause-moves
returns-clause-moves g c = λ jobs may.
    let e = eyes g.S.Store.history g.S.Device.Device.history g.S.Frozen.Frozen.content g.S.Device.Device.name g.S.Frozen.Frozen.size g.S.Watch.Watch.counts in
    let h : HasSwept e c.args.part.now c.sweep.new.self jobs = record {
      same = swept_same c.args.part.now c.sweep.new.self c.in_ok-sweep.ensures.same;
      sound = ap (λ (s : PartState _ _ _ _). s.failed) c.in_ok-sweep.ensures.same ∙ c.requires.sound;
      part = c.in_ok-sweep.ensures.part;
      own = c.sweep.ensures.own;
      untold = c.sweep.ensures.untold;
      devices = c.sweep.ensures.devices;
      log_out = c.sweep.ensures.log_out;
    } in
    swept e c.args.part.now c.sweep.new.self jobs _ h c.sweep.ensures.moments may c.sweep.ensures.counted

pub returns-clause-listed : goal.returns-clause-listed
returns-clause-listed g c = λ policy jobs picked.
    swept_lists (eyes g.S.Store.history g.S.Device.Device.history g.S.Frozen.Frozen.content g.S.Device.Device.name g.S.Frozen.Frozen.size g.S.Watch.Watch.counts) c.args.part.now c.sweep.new.self (swept_same c.args.part.now c.sweep.new.self c.in_ok-sweep.ensures.same) policy jobs picked
