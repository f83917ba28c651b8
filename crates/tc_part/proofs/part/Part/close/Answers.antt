use Rattle.std.proofs.Common.{◌≡◌, ◌∙◌, None, false, is_some, refl, sym, ap, subst}
use Rattle.tc_store.specs.declared.file_name.FileName.{FileName}
use Rattle.tc_store.specs.Disk.{is_out}
use Rattle.tc_store.specs.Moments.{IfTold}
use Rattle.tc_list.specs.Runs.{neighbours}
use Rattle.tc_machine.specs.State.{logs}
use Rattle.tc_part_model.specs.Calls.{RestsWith}
use Rattle.tc_part_model.specs.Leaving.{FailedMomentsLeaveStore, KeepsStore, OpensAs}
use Rattle.tc_part_model.specs.PartState.{told}
use Rattle.tc_part_model.specs.PartView.{state_of, store_of}
use Rattle.tc_part.specs.Closing.{logs_length}
use Rattle.tc_part.proofs.ClosedParts.{LogsRest, closed_opens, closed_runs, closed_keeps, closed_run_moments, closed_moments, named_logs, flusher_in, merger_in, some_then}
use Rattle.tc_part.proofs.DevicesOut.{closed_in}
use Rattle.tc_part.proofs.part.Part.close.Goals as goal

pub kit_of-requires-clause-flusher : goal.kit_of-requires-clause-flusher
kit_of-requires-clause-flusher g c = λ κs lives. flusher_in c.self.inside.flusher (ap (λ s. s.flushing) c.self.view_is ∙ c.requires.no_flush)

pub kit_of-requires-clause-merger : goal.kit_of-requires-clause-merger
kit_of-requires-clause-merger g c = λ κs lives. merger_in neighbours c.self.inside.merging c.self.inside.merger (ap (λ s. s.merging) c.self.view_is ∙ c.requires.no_merge) c.self.invariant.merge

pub returns-clause-home : goal.returns-clause-home
returns-clause-home g c =
    rw (← c.self.view_is)
    (ap g.S.Store.history c.kit_of.ensures.store ∙ c.bring_home.ensures.home
    ∙ named_logs g.S.Device.Device.name g.S.Device.Device.history c.self.inside.generation c.self.inside.log c.self.inside.sealed_log (g.S.Store.history c.self.inside.store) c.self.invariant.log_name c.self.invariant.sealed_name)

pub returns-clause-kept : goal.returns-clause-kept
returns-clause-kept g c = λ p is.
    subst (λ disks. IfTold disks (KeepsStore p.part (store_of p) None)) (sym (returns-clause-home g c)) (closed_runs (told g.S.Store.history g.S.Device.Device.history g.S.Frozen.Frozen.content c.args.self) p is)

pub returns-clause-failed : goal.returns-clause-failed
returns-clause-failed g c = λ p frame failed logs.
    subst (λ disks. IfTold disks (KeepsStore p.part (store_of p) frame)) (sym (returns-clause-home g c)) (closed_keeps (told g.S.Store.history g.S.Device.Device.history g.S.Frozen.Frozen.content c.args.self) p frame failed logs)

pub returns-clause-opens : goal.returns-clause-opens
returns-clause-opens g c = λ p is.
    let t = told g.S.Store.history g.S.Device.Device.history g.S.Frozen.Frozen.content c.args.self in
    let sound : c.self.inside.failed ≡ false = ap (λ s. s.failed) c.self.view_is ∙ is.sound in
    let rests : LogsRest g.S.Device.Device.size g.S.Device.Device.history c.args.self.log c.args.self.sealed_log =
    subst (λ s. LogsRest g.S.Device.Device.size g.S.Device.Device.history s.log s.sealed_log) c.self.view_is (record {
      active = c.bring_home.ensures.rests (c.self.invariant.log_sound sound);
      covered = some_then (λ l. l.failed ≡ false) (λ l. IfTold (g.S.Device.Device.history l.device) (RestsWith (g.S.Device.Device.size l.device))) c.self.inside.sealed_log (c.self.invariant.sealed_sound sound) c.bring_home.ensures.sealed_rests;
    }) in
    subst (λ disks. IfTold disks (OpensAs p.part p.list (logs (state_of p)) (logs_length g.S.Device.Device.size c.args.self.log c.args.self.sealed_log))) (sym (returns-clause-home g c))
    (closed_opens t p g.S.Device.Device.size g.S.Device.Device.history c.args.self.log c.args.self.sealed_log is c.requires.no_flush c.requires.no_merge refl refl rests)

pub returns-clause-moments : goal.returns-clause-moments
returns-clause-moments g c = λ p is.
    let t = told g.S.Store.history g.S.Device.Device.history g.S.Frozen.Frozen.content c.args.self in
    subst (λ disks. FailedMomentsLeaveStore p None t disks) (sym (returns-clause-home g c)) (closed_run_moments t p is)

pub returns-clause-failed_moments : goal.returns-clause-failed_moments
returns-clause-failed_moments g c = λ p frame failed logs.
    let t = told g.S.Store.history g.S.Device.Device.history g.S.Frozen.Frozen.content c.args.self in
    subst (λ disks. FailedMomentsLeaveStore p frame t disks) (sym (returns-clause-home g c)) (closed_moments t p frame failed logs)

pub returns-clause-brought_in : goal.returns-clause-brought_in
returns-clause-brought_in g c = λ tells only.
    subst (λ disks. IfTold disks (λ disk. (name : FileName) → is_out (disk name) ≡ false)) (sym (returns-clause-home g c)) (closed_in (told g.S.Store.history g.S.Device.Device.history g.S.Frozen.Frozen.content c.args.self) c.requires.no_flush c.requires.no_merge tells only)

pub kit_of-requires-clause-reader : goal.kit_of-requires-clause-reader
kit_of-requires-clause-reader g c = λ κs lives. ap (λ s. is_some s.reader) c.self.view_is ∙ c.requires.reader
