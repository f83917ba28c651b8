use Rattle.std.proofs.Common.{◌≡◌, ◌∙◌, [], None, true, refl, sym, ap, subst}
use Rattle.tc_part_model.specs.Leaving.{StoreMomentsLeaveStore}
use Rattle.tc_part_model.specs.Meaning.{HasFailedAs}
use Rattle.tc_part_model.specs.PartState.{PartState, told}
use Rattle.tc_part.specs.FilesOut.{LogIsOut, OnlyDevicesOut, TellsLogs}
use Rattle.tc_part.specs.OwnFiles.{HasOwnFiles}
use Rattle.tc_part.specs.Sweeps.{RemovesNoneOf}
use Rattle.tc_part.proofs.SweptFiles.{swept_devices, swept_log_out, swept_own, swept_tells, swept_untold, unlisted}
use Rattle.tc_part.proofs.part.Part.sweep.Goals as goal

pub returns-in-Ok-clause-part : goal.returns-in-Ok-clause-part
returns-in-Ok-clause-part g c = λ p is.
    let removes = c.remove_retired.ensures.removed in
    let new = c.remove_retired.new.self in
    c.unlisted_files_go.ensures.part (told g.S.Store.history g.S.Device.Device.history g.S.Frozen.Frozen.content c.args.self.now)
    (told g.S.Store.history g.S.Device.Device.history g.S.Frozen.Frozen.content new) p removes.names is
    (unlisted g.S.Store.history g.S.Device.Device.history g.S.Frozen.Frozen.content c.args.self.now new removes p is) removes.removed
    (ap (told g.S.Store.history g.S.Device.Device.history g.S.Frozen.Frozen.content) c.remove_retired.ensures.same)

pub returns-in-Ok-clause-moments : goal.returns-in-Ok-clause-moments
returns-in-Ok-clause-moments g c = λ p is.
    let removes = c.remove_retired.ensures.removed in
    let new = c.remove_retired.new.self in
    c.unlisted_files_go.ensures.moments (told g.S.Store.history g.S.Device.Device.history g.S.Frozen.Frozen.content c.args.self.now) p removes.names
    (g.S.Store.history new.store) is (unlisted g.S.Store.history g.S.Device.Device.history g.S.Frozen.Frozen.content c.args.self.now new removes
    p is) removes.removed

pub returns-in-Err-clause-moments : goal.returns-in-Err-clause-moments
returns-in-Err-clause-moments g c = λ p is.
    let removes = c.remove_retired.ensures.removed in
    let new = c.remove_retired.new.self in
    subst (λ (x : PartState _ _ _ _). StoreMomentsLeaveStore p p (told g.S.Store.history g.S.Device.Device.history g.S.Frozen.Frozen.content c.args.self.now) (g.S.Store.history x.store)) (sym c.self.view_is)
    (c.unlisted_files_go.ensures.moments (told g.S.Store.history g.S.Device.Device.history g.S.Frozen.Frozen.content c.args.self.now) p removes.names
    (g.S.Store.history new.store) is (unlisted g.S.Store.history g.S.Device.Device.history g.S.Frozen.Frozen.content c.args.self.now new removes p
    is) removes.removed)

pub returns-in-Err-clause-failed : goal.returns-in-Err-clause-failed
returns-in-Err-clause-failed g c = λ p is.
    let t = told g.S.Store.history g.S.Device.Device.history g.S.Frozen.Frozen.content c.args.self.now in
    let removes = c.remove_retired.ensures.removed in
    let new = c.remove_retired.new.self in
    let before = c.failed_parts_keep_files.ensures.fails t (record t { failed = true }) p is refl refl refl refl in
    subst (λ (x : PartState _ _ _ _). HasFailedAs (record (told g.S.Store.history g.S.Device.Device.history g.S.Frozen.Frozen.content x) { failed = true }) p None) (sym (c.self.view_is ∙ c.remove_retired.ensures.same))
    (c.unlisted_files_go.ensures.failed (record t { failed = true }) (record t { disks = g.S.Store.history new.store; failed = true }) p None removes.names before
    (unlisted g.S.Store.history g.S.Device.Device.history g.S.Frozen.Frozen.content c.args.self.now new removes p is) removes.removed refl refl refl)

pub returns-in-Err-clause-removed : goal.returns-in-Err-clause-removed
returns-in-Err-clause-removed g c = subst (λ (x : PartState _ _ _ _). RemovesNoneOf c.args.self.now.list (g.S.Store.history c.args.self.now.store) (g.S.Store.history x.store)) (sym c.self.view_is) c.remove_retired.ensures.removed

pub returns-in-Ok-clause-own : goal.returns-in-Ok-clause-own
returns-in-Ok-clause-own g c = swept_own g.S.Store.history g.S.Device.Device.history g.S.Frozen.Frozen.content c.args.self.now c.remove_retired.new.self c.remove_retired.ensures.removed c.remove_retired.ensures.same

pub returns-in-Err-clause-own : goal.returns-in-Err-clause-own
returns-in-Err-clause-own g c = λ is. subst (λ (x : PartState _ _ _ _). HasOwnFiles (told g.S.Store.history g.S.Device.Device.history g.S.Frozen.Frozen.content x))
    (sym c.self.view_is) (swept_own g.S.Store.history g.S.Device.Device.history g.S.Frozen.Frozen.content c.args.self.now c.remove_retired.new.self
    c.remove_retired.ensures.removed c.remove_retired.ensures.same is)

pub returns-in-Ok-clause-untold : goal.returns-in-Ok-clause-untold
returns-in-Ok-clause-untold g c = swept_untold g.S.Store.history g.S.Device.Device.history g.S.Frozen.Frozen.content c.args.self.now c.remove_retired.new.self c.remove_retired.ensures.removed

pub returns-in-Err-clause-untold : goal.returns-in-Err-clause-untold
returns-in-Err-clause-untold g c = λ is. subst (λ (x : PartState _ _ _ _). g.S.Store.history x.store ≡ []) (sym c.self.view_is) (swept_untold g.S.Store.history g.S.Device.Device.history g.S.Frozen.Frozen.content c.args.self.now c.remove_retired.new.self c.remove_retired.ensures.removed is)

pub returns-in-Ok-clause-tells : goal.returns-in-Ok-clause-tells
returns-in-Ok-clause-tells g c = swept_tells g.S.Store.history g.S.Device.Device.history g.S.Frozen.Frozen.content c.args.self.now c.remove_retired.new.self c.remove_retired.ensures.removed c.remove_retired.ensures.same

pub returns-in-Err-clause-tells : goal.returns-in-Err-clause-tells
returns-in-Err-clause-tells g c = λ is. subst (λ (x : PartState _ _ _ _). TellsLogs (told g.S.Store.history g.S.Device.Device.history g.S.Frozen.Frozen.content x))
    (sym c.self.view_is) (swept_tells g.S.Store.history g.S.Device.Device.history g.S.Frozen.Frozen.content c.args.self.now c.remove_retired.new.self
    c.remove_retired.ensures.removed c.remove_retired.ensures.same is)

pub returns-in-Ok-clause-devices : goal.returns-in-Ok-clause-devices
returns-in-Ok-clause-devices g c = swept_devices g.S.Store.history g.S.Device.Device.history g.S.Frozen.Frozen.content c.args.self.now c.remove_retired.new.self c.remove_retired.ensures.removed c.remove_retired.ensures.same

pub returns-in-Err-clause-devices : goal.returns-in-Err-clause-devices
returns-in-Err-clause-devices g c = λ is. subst (λ (x : PartState _ _ _ _). OnlyDevicesOut
    (told g.S.Store.history g.S.Device.Device.history g.S.Frozen.Frozen.content x)) (sym c.self.view_is)
    (swept_devices g.S.Store.history g.S.Device.Device.history g.S.Frozen.Frozen.content c.args.self.now c.remove_retired.new.self c.remove_retired.ensures.removed
    c.remove_retired.ensures.same is)

pub returns-in-Ok-clause-log_out : goal.returns-in-Ok-clause-log_out
returns-in-Ok-clause-log_out g c = swept_log_out g.S.Store.history g.S.Device.Device.history g.S.Frozen.Frozen.content c.args.self.now c.remove_retired.new.self c.remove_retired.ensures.removed c.remove_retired.ensures.same

pub returns-in-Err-clause-log_out : goal.returns-in-Err-clause-log_out
returns-in-Err-clause-log_out g c = λ is. subst (λ (x : PartState _ _ _ _). LogIsOut (told g.S.Store.history g.S.Device.Device.history g.S.Frozen.Frozen.content x))
    (sym c.self.view_is) (swept_log_out g.S.Store.history g.S.Device.Device.history g.S.Frozen.Frozen.content c.args.self.now c.remove_retired.new.self
    c.remove_retired.ensures.removed c.remove_retired.ensures.same is)
