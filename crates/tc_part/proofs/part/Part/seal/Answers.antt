use Rattle.std.proofs.Common.{rules, ◌≡◌, ◌∙◌, ◌+◌, false, [], inl, is_some, map, refl, sym, ap, subst, arith}
use Rattle.std.proofs.lemmas.Grind.{common_steps}
use Rattle.std.specs.Arc.{arc_value}
use Rattle.tc_store.specs.Disk.{IsThere, home}
use Rattle.tc_store.specs.Moments.{IfTold}
use Rattle.tc_store.specs.StoreCalls.{comes_home, fresh_file_at, makes}
use Rattle.tc_store.specs.declared.file_name.FileName.TheVariants.{Log}
use Rattle.tc_log.specs.declared.head.LogHead.{LogHead}
use Rattle.tc_log.specs.Appending.{created}
use Rattle.tc_log.specs.Spelling.{IsHead}
use Rattle.tc_part_model.specs.Calls.{HasCreated}
use Rattle.tc_part.specs.OwnFiles.{HasOwnFiles}
use Rattle.tc_part_model.specs.PartState.{IsTold, PartState, told, told_component}
use Rattle.tc_part_model.proofs.DeviceFiles.{comes_untold}
use Rattle.tc_part_model.proofs.ToldFiles.{unmade_untold}
use Rattle.tc_part.proofs.OwnNames.{next_log_is_free, sealed_own}
use Rattle.tc_part.proofs.Outcomes.{err_always}
use Rattle.tc_part.proofs.OwnOutcomes.{no_flush_out}
use Rattle.tc_part.proofs.Standing.{left_of}
use Rattle.tc_part.proofs.Creations.{created_tells, creates}
use Rattle.tc_part.proofs.DevicesOut.{Nobody, made_in, made_told, not_made_in, out_on, tells_on}
use Rattle.tc_part.proofs.JobDevices.{none_with, seal_out}
use Rattle.tc_part.proofs.LogOut.{next_log_out}
use Rattle.tc_part.proofs.part.Part.seal.Goals as goal

pub returns-then-self-eq-MAX_NUMBER-clause-failed : goal.returns-then-self-eq-MAX_NUMBER-clause-failed
returns-then-self-eq-MAX_NUMBER-clause-failed g c =
    let none = ap (λ s. s.sealed) c.self.view_is ∙ c.requires.none_sealed in
    let nothing = ap (λ s. s.staged) c.self.view_is ∙ c.requires.nothing_staged in
    rw (← c.self.view_is) λ p is. c.failed_seals_are_kept.ensures.not_made_as _ _ p is none nothing refl refl refl (inl refl)

pub returns-in_err-new-clause-failed : goal.returns-in_err-new-clause-failed
returns-in_err-new-clause-failed g c =
    let none = ap (λ s. s.sealed) c.self.view_is ∙ c.requires.none_sealed in
    let nothing = ap (λ s. s.staged) c.self.view_is ∙ c.requires.nothing_staged in
    rw (← c.self.view_is) (err_always c.from_residual.result _ (λ p is. c.failed_seals_are_kept.ensures.not_made_as _ _ p is none nothing refl refl refl (inl refl)))

pub fresh-requires : goal.fresh-requires
fresh-requires g c =
    subst (λ s. IfTold (g.S.Store.history s.store) (λ disk. IsThere (disk (Log (s.generation + 1))) → ⊥)) (sym c.self.view_is) (next_log_is_free (told g.S.Store.history g.S.Device.Device.history g.S.Frozen.Frozen.content c.args.self.now) c.requires.own)

pub returns-in_err-device-clause-failed : goal.returns-in_err-device-clause-failed
returns-in_err-device-clause-failed g c =
    let none = ap (λ s. s.sealed) c.self.view_is ∙ c.requires.none_sealed in
    let nothing = ap (λ s. s.staged) c.self.view_is ∙ c.requires.nothing_staged in
    rw (← c.self.view_is)
    (err_always c.from_residual-in_err-device.result _ (λ p is. c.failed_seals_are_kept.ensures.not_made_as _ _ p is none nothing refl refl refl c.in_err-device.ensures.failed))

pub returns-in-Ok-clause-seals : goal.returns-in-Ok-clause-seals
returns-in-Ok-clause-seals g c =
    let none = ap (λ s. s.sealed) c.self.view_is ∙ c.requires.none_sealed in
    let nothing = ap (λ s. s.staged) c.self.view_is ∙ c.requires.nothing_staged in
    let sound : c.self.inside.failed ≡ false = ap (λ s. s.failed) c.self.view_is ∙ c.requires.sound in
    let own = subst (λ s. HasOwnFiles (told g.S.Store.history g.S.Device.Device.history g.S.Frozen.Frozen.content s)) (sym c.self.view_is) c.requires.own in
    let t = told g.S.Store.history g.S.Device.Device.history g.S.Frozen.Frozen.content (left_of c.self.view_is) in
    let head : LogHead = record { number = c.self.inside.number; count = c.self.inside.count; generation = c.self.inside.generation + 1 } in
    let lawful : IsHead head = record { number = omega (arith, c.self.ranges); count = omega (arith, c.self.ranges); first = omega arith; last = grind (arith, common_steps) } in
    let name = Log (t.generation + 1) in
    let device = g.S.Device.Device.history c.in_ok-device.device in
    let log = g.S.Device.Device.history c.in-Ok.log.device in
    let log_creates = creates head device log c.in-Ok.ensures.moments (λ untold. c.in-Ok.ensures.created ∙ ap (created head) untold) in
    let made : HasCreated head device log = record { creates = log_creates; content = c.in-Ok.ensures.content } in
    let arc : arc_value c.in_ok-new.field-0 ≡ c.self.inside.active = search rules in
    let empty : c.replace-table.new.dest ≡ [] = search rules in
    let behind = c.put_behind.ensures in
    let disks = ap (λ (x : PartState _ _ _ _). g.S.Store.history x.store) behind ∙ c.in_ok-device.ensures.made in
    rw (← c.self.view_is) record {
      sealed = rw behind λ p is.
          (c.seals_are_kept.ensures.sealed _ _ p device is none nothing c.in_ok-device.ensures.file lawful made (rw (c.in_ok-device.ensures.made, arc, empty, sound) refl), c.seals_are_kept.ensures.stored _ p is none nothing);
      same = rw (behind, arc, empty, sound) refl;
      made = disks;
      own =
          sealed_own t (told g.S.Store.history g.S.Device.Device.history g.S.Frozen.Frozen.content (left_of behind))
          (no_flush_out arc_value c.self.inside.flusher c.self.inside.sealed (c.self.invariant.flush sound) none) disks
          (ap (λ (x : PartState _ _ _ _). x.generation) behind) (ap (λ (x : PartState _ _ _ _). map (told_component g.S.Frozen.Frozen.content) x.list) behind)
          (ap (λ (x : PartState _ _ _ _). x.flushing) behind) (ap (λ (x : PartState _ _ _ _). x.merging) behind) own;
      untold_log = rw behind λ untold. c.in-Ok.ensures.created ∙ ap (created head) (c.in_ok-device.ensures.file ∙ ap (fresh_file_at name) untold);
      log_out = rw (behind, c.in_ok-device.ensures.made) (next_log_out name log t.disks (created_tells name t.disks head device log c.in_ok-device.ensures.file log_creates));
      next_log = rw behind λ p is. c.seals_leave_store.ensures.next_log _ p device log is none nothing c.in_ok-device.ensures.file lawful log_creates;
    }

pub returns-in-Ok-clause-empty : goal.returns-in-Ok-clause-empty
returns-in-Ok-clause-empty g c = rw c.put_behind.ensures c.in-Ok.ensures.size

pub returns-in-Ok-clause-moments : goal.returns-in-Ok-clause-moments
returns-in-Ok-clause-moments g c =
    let none = ap (λ s. s.sealed) c.self.view_is ∙ c.requires.none_sealed in
    let nothing = ap (λ s. s.staged) c.self.view_is ∙ c.requires.nothing_staged in
    rw (← c.self.view_is, c.put_behind.ensures, c.in_ok-device.ensures.made) λ p is. c.seals_leave_store.ensures.store _ p is none nothing

pub returns-in-Err-clause-moments : goal.returns-in-Err-clause-moments
returns-in-Err-clause-moments g c =
    let none = ap (λ s. s.sealed) c.self.view_is ∙ c.requires.none_sealed in
    let nothing = ap (λ s. s.staged) c.self.view_is ∙ c.requires.nothing_staged in
    let head : LogHead = record { number = c.self.inside.number; count = c.self.inside.count; generation = c.self.inside.generation + 1 } in
    let lawful : IsHead head = record { number = omega (arith, c.self.ranges); count = omega (arith, c.self.ranges); first = omega arith; last = grind (arith, common_steps) } in
    let device = g.S.Device.Device.history c.in_ok-device.device in
    let broken = g.S.Device.Device.history c.in-Err.broken.device in
    let named = c.in-Err.ensures.broken_name ∙ c.in_ok-device.ensures.name in
    rw (← c.self.view_is, c.abandon.ensures.home, named, c.in_ok-device.ensures.made) λ p is.
    c.seals_leave_store.ensures.broken _ p device broken is none nothing c.in_ok-device.ensures.file lawful (creates head device broken c.in-Err.ensures.broken_moments c.in-Err.ensures.untold)

pub returns-in-Err-clause-failed : goal.returns-in-Err-clause-failed
returns-in-Err-clause-failed g c =
    let none = ap (λ s. s.sealed) c.self.view_is ∙ c.requires.none_sealed in
    let nothing = ap (λ s. s.staged) c.self.view_is ∙ c.requires.nothing_staged in
    let head : LogHead = record { number = c.self.inside.number; count = c.self.inside.count; generation = c.self.inside.generation + 1 } in
    let lawful : IsHead head = record { number = omega (arith, c.self.ranges); count = omega (arith, c.self.ranges); first = omega arith; last = grind (arith, common_steps) } in
    let device = g.S.Device.Device.history c.in_ok-device.device in
    let broken = g.S.Device.Device.history c.in-Err.broken.device in
    let named = c.in-Err.ensures.broken_name ∙ c.in_ok-device.ensures.name in
    rw (← c.self.view_is) λ p is.
    c.failed_seals_are_kept.ensures.broken_as _ _ p device broken is none nothing c.in_ok-device.ensures.file lawful (creates head device broken c.in-Err.ensures.broken_moments c.in-Err.ensures.untold) refl refl refl
    (rw (c.abandon.ensures.home, named, c.in_ok-device.ensures.made) refl)

-- ---- what is out

pub returns-then-self-eq-MAX_NUMBER-clause-devices : goal.returns-then-self-eq-MAX_NUMBER-clause-devices
returns-then-self-eq-MAX_NUMBER-clause-devices g c = rw (← c.self.view_is) λ only. only

pub returns-in_err-new-clause-devices : goal.returns-in_err-new-clause-devices
returns-in_err-new-clause-devices g c = rw (← c.self.view_is) λ only. only

pub returns-in_err-device-clause-devices : goal.returns-in_err-device-clause-devices
returns-in_err-device-clause-devices g c =
    let t = told g.S.Store.history g.S.Device.Device.history g.S.Frozen.Frozen.content (left_of c.self.view_is) in
    let new = g.S.Store.history c.fresh.new.self in
    rw (← c.self.view_is) (out_on t new (not_made_in (Log (t.generation + 1)) t.disks new c.in_err-device.ensures.failed))

pub returns-in-Ok-clause-devices : goal.returns-in-Ok-clause-devices
returns-in-Ok-clause-devices g c =
    let none = ap (λ s. s.sealed) c.self.view_is ∙ c.requires.none_sealed in
    let sound : c.self.inside.failed ≡ false = ap (λ s. s.failed) c.self.view_is ∙ c.requires.sound in
    let behind = c.put_behind.ensures in
    let disks = ap (λ (x : PartState _ _ _ _). g.S.Store.history x.store) behind ∙ c.in_ok-device.ensures.made in
    rw (← c.self.view_is)
    (seal_out (told g.S.Store.history g.S.Device.Device.history g.S.Frozen.Frozen.content (left_of c.self.view_is))
    (told g.S.Store.history g.S.Device.Device.history g.S.Frozen.Frozen.content (left_of behind))
    (no_flush_out arc_value c.self.inside.flusher c.self.inside.sealed (c.self.invariant.flush sound) none)
    (none_with arc_value (λ l. g.S.Device.Device.history l.device) c.self.inside.sealed_log c.self.inside.sealed (c.self.invariant.sealed_both sound) none) disks (ap (λ (x : PartState _ _ _ _). x.generation) behind)
    (ap (λ (x : PartState _ _ _ _). is_some ((told g.S.Store.history g.S.Device.Device.history g.S.Frozen.Frozen.content x).sealed_log)) behind) (ap (λ (x : PartState _ _ _ _). map (told_component g.S.Frozen.Frozen.content) x.list) behind) (ap (λ (x : PartState _ _ _ _). x.merging) behind))

pub returns-in-Err-clause-devices : goal.returns-in-Err-clause-devices
returns-in-Err-clause-devices g c =
    let t = told g.S.Store.history g.S.Device.Device.history g.S.Frozen.Frozen.content (left_of c.self.view_is) in
    let head : LogHead = record { number = c.self.inside.number; count = c.self.inside.count; generation = c.self.inside.generation + 1 } in
    let name = Log (t.generation + 1) in
    let device = g.S.Device.Device.history c.in_ok-device.device in
    let broken = g.S.Device.Device.history c.in-Err.broken.device in
    let named = c.in-Err.ensures.broken_name ∙ c.in_ok-device.ensures.name in
    let tells = created_tells name t.disks head device broken c.in_ok-device.ensures.file (creates head device broken c.in-Err.ensures.broken_moments c.in-Err.ensures.untold) in
    rw (← c.self.view_is, c.abandon.ensures.home, named, c.in_ok-device.ensures.made) (out_on t _ (made_in name broken t.disks tells))

-- ---- what tells

pub returns-then-self-eq-MAX_NUMBER-clause-tells : goal.returns-then-self-eq-MAX_NUMBER-clause-tells
returns-then-self-eq-MAX_NUMBER-clause-tells g c = rw (← c.self.view_is) λ tells. tells

pub returns-in_err-new-clause-tells : goal.returns-in_err-new-clause-tells
returns-in_err-new-clause-tells g c = rw (← c.self.view_is) λ tells. tells

pub returns-in_err-device-clause-tells : goal.returns-in_err-device-clause-tells
returns-in_err-device-clause-tells g c =
    let t = told g.S.Store.history g.S.Device.Device.history g.S.Frozen.Frozen.content (left_of c.self.view_is) in
    let new = g.S.Store.history c.fresh.new.self in
    rw (← c.self.view_is) (tells_on Nobody t new (not_made_in (Log (t.generation + 1)) t.disks new c.in_err-device.ensures.failed))

pub returns-in-Ok-clause-tells : goal.returns-in-Ok-clause-tells
returns-in-Ok-clause-tells g c =
    let t = told g.S.Store.history g.S.Device.Device.history g.S.Frozen.Frozen.content (left_of c.self.view_is) in
    let head : LogHead = record { number = c.self.inside.number; count = c.self.inside.count; generation = c.self.inside.generation + 1 } in
    let name = Log (t.generation + 1) in
    let device = g.S.Device.Device.history c.in_ok-device.device in
    let log = g.S.Device.Device.history c.in-Ok.log.device in
    let new_tells = created_tells name t.disks head device log c.in_ok-device.ensures.file (creates head device log c.in-Ok.ensures.moments (λ untold. c.in-Ok.ensures.created ∙ ap (created head) untold)) in
    rw (← c.self.view_is, c.put_behind.ensures, c.in_ok-device.ensures.made) λ tells. record { active = made_told name (IsTold log) t.disks new_tells; sealed = made_told name (IsTold t.log) t.disks tells.active }

pub returns-in-Err-clause-tells : goal.returns-in-Err-clause-tells
returns-in-Err-clause-tells g c =
    let t = told g.S.Store.history g.S.Device.Device.history g.S.Frozen.Frozen.content (left_of c.self.view_is) in
    let head : LogHead = record { number = c.self.inside.number; count = c.self.inside.count; generation = c.self.inside.generation + 1 } in
    let name = Log (t.generation + 1) in
    let device = g.S.Device.Device.history c.in_ok-device.device in
    let broken = g.S.Device.Device.history c.in-Err.broken.device in
    let named = c.in-Err.ensures.broken_name ∙ c.in_ok-device.ensures.name in
    let tells = created_tells name t.disks head device broken c.in_ok-device.ensures.file (creates head device broken c.in-Err.ensures.broken_moments c.in-Err.ensures.untold) in
    rw (← c.self.view_is, c.abandon.ensures.home, named, c.in_ok-device.ensures.made) (tells_on Nobody t _ (made_in name broken t.disks tells))

-- ---- where nothing is told

pub returns-then-self-eq-MAX_NUMBER-clause-untold : goal.returns-then-self-eq-MAX_NUMBER-clause-untold
returns-then-self-eq-MAX_NUMBER-clause-untold g c = rw (← c.self.view_is) λ untold. untold

pub returns-in_err-new-clause-untold : goal.returns-in_err-new-clause-untold
returns-in_err-new-clause-untold g c = rw (← c.self.view_is) λ untold. untold

pub returns-in_err-device-clause-untold : goal.returns-in_err-device-clause-untold
returns-in_err-device-clause-untold g c = rw (← c.self.view_is) (unmade_untold (Log (c.self.inside.generation + 1)) (g.S.Store.history c.self.inside.store) (g.S.Store.history c.fresh.new.self) c.in_err-device.ensures.failed)

pub returns-in-Ok-clause-untold : goal.returns-in-Ok-clause-untold
returns-in-Ok-clause-untold g c = rw (← c.self.view_is, c.put_behind.ensures, c.in_ok-device.ensures.made) (ap (makes (Log (c.self.inside.generation + 1))))

pub returns-in-Err-clause-untold : goal.returns-in-Err-clause-untold
returns-in-Err-clause-untold g c =
    let name = Log (c.self.inside.generation + 1) in
    let broken = g.S.Device.Device.history c.in-Err.broken.device in
    let named = c.in-Err.ensures.broken_name ∙ c.in_ok-device.ensures.name in
    rw (← c.self.view_is, c.abandon.ensures.home, named, c.in_ok-device.ensures.made) λ untold. ap (λ ds. comes_home name (λ f. home f) broken (makes name ds)) untold ∙ comes_untold name (λ f. home f) broken
