use Rattle.std.proofs.Common.{◌≡◌, ◌∙◌, ◌⊎◌, Some, None, true, is_some, map, option_map, refl, sym, ap, subst}
use Rattle.std.specs.Prelude.{Err, IfSome, Ok}
use Rattle.tc_store.specs.declared.file_name.FileName.TheVariants.{Log}
use Rattle.tc_store.specs.Disk.{home}
use Rattle.tc_store.specs.StoreCalls.{comes_home}
use Rattle.tc_list.specs.Runs.{in_run, neighbours}
use Rattle.tc_flush.proofs.Outcomes.{if_err}
use Rattle.tc_part_model.specs.Changes.{merged_part}
use Rattle.tc_part_model.specs.Leaving.{FailedMomentsLeaveStore, StoreMomentsLeaveStore}
use Rattle.tc_part_model.specs.Meaning.{IsPart}
use Rattle.tc_part.specs.FilesOut.{LogIsOut, OnlyDevicesOut}
use Rattle.tc_part.specs.OwnFiles.{HasOwnFiles}
use Rattle.tc_part_model.specs.PartState.{PartState, told}
use Rattle.tc_part_model.proofs.FailedParts.{merge_returns}
use Rattle.tc_part_model.proofs.HomeMoments.{merge_home_moments}
use Rattle.tc_part_model.proofs.MergedParts.{merge_keeps_store}
use Rattle.tc_part.specs.Closing.{HasFailedWhole}
use Rattle.tc_part.specs.Faults.{IfDamaged}
use Rattle.tc_part.specs.MergeEnds.{HasRemovedRun, HasReplaced, IsMergeDamage, IsMergeRemoving, IsMergeUnlisted, merged_name, positions, run_out}
use Rattle.tc_part.specs.Ready.{LiesIn}
use Rattle.tc_part.proofs.FlushedContents.{some_there, told_any}
use Rattle.tc_part.proofs.MergeOutcomes.{done, done_moments, ended_failed, ended_moments, fitting, left_failed, unmade_failed, unmade_moments}
use Rattle.tc_part.proofs.Handing.{still_some}
use Rattle.tc_part.proofs.Outcomes.{err_each, never_fails}
use Rattle.tc_part.proofs.OwnOutcomes.{merge_own}
use Rattle.tc_part.proofs.ReplacedRun.{positions_back}
use Rattle.tc_part.proofs.Standing.{both, left_of, told_in}
use Rattle.tc_part.proofs.DevicesOut.{StayOutBut, home_in}
use Rattle.tc_part.proofs.JobDevices.{merge_back_out, merge_ended_out, merge_listed_out}
use Rattle.tc_part.proofs.LogOut.{StaysOut, log_out_on, other_home, replaced_log}
use Rattle.tc_part.proofs.part.Part.finish_merge.Goals as goal

-- ---- listed

pub returns-then-self-clause-listed : goal.returns-then-self-clause-listed
returns-then-self-clause-listed g c = rw (← c.self.view_is) λ sound. both c.self.inside.failed c.if-self.true sound

pub returns-in-Ok-clause-listed : goal.returns-in-Ok-clause-listed
returns-in-Ok-clause-listed g c =
    let s = c.self.inside in
    let run = c.in-Some.run' in
    let device = g.S.Device.Device.history c.args.out.device in
    let merging : s.merging ≡ Some run = sym c.take-merging.ensures.value ∙ c.in-Some.is in
    let out = ap (option_map neighbours) merging in
    let lies : LiesIn s.list run = subst (λ o. IfSome o (LiesIn s.list)) merging c.self.invariant.run in
    let gone = ap (option_map neighbours) c.take-merging.ensures.after in
    let start = record (left_of c.self.view_is) { merger = Some c.args.out.watch; merging = option_map neighbours c.take-merging.new.self } in
    let here : run_out (left_of c.self.view_is) ≡ run = ap positions out ∙ positions_back run lies.0 in
    let ended = c.end_merge.new.self in
    rw (← c.self.view_is) λ sound. record {
      merged = λ p m is some made files.
          let before = subst (λ o. IsPart (record (told_in is) { merging = o }) p) out is in (
            done g.S.Store.history g.S.Device.Device.history g.S.Frozen.Frozen.content g.S.Frozen.Frozen.name start ended p m device run before some lies gone
                made files c.self.invariant.named c.in-Ok.ensures.listed c.in-Ok.ensures.same c.in-Ok.ensures.removed,
            merge_keeps_store _ p m is some,
          );
      listed = subst (λ r. HasReplaced g.S.Frozen.Frozen.content g.S.Frozen.Frozen.name device r (left_of c.self.view_is) ended.list) (sym here) c.in-Ok.ensures.listed;
      same = c.in-Ok.ensures.same ∙ ap (λ o. record start { store = ended.store; main = ended.main; list = ended.list; merging = o }) gone;
      removed = subst (λ r. HasRemovedRun g.S.Store.history g.S.Frozen.Frozen.name device r (left_of c.self.view_is) (g.S.Store.history ended.store)) (sym here) c.in-Ok.ensures.removed;
      own = λ own.
          merge_own g.S.Store.history g.S.Device.Device.history g.S.Frozen.Frozen.content g.S.Frozen.Frozen.name start ended device run c.in-Ok.ensures.same gone lies c.in-Ok.ensures.listed c.in-Ok.ensures.removed
          (subst (λ o. HasOwnFiles (record (told g.S.Store.history g.S.Device.Device.history g.S.Frozen.Frozen.content start) { merging = o })) out own);
      reads = c.in-Ok.ensures.reads;
    }

-- ---- given back

pub returns-then-self-clause-given_back : goal.returns-then-self-clause-given_back
returns-then-self-clause-given_back g c =
    let device = g.S.Device.Device.history c.args.out.device in
    let device_named = c.requires.name ∙ ap (λ s. merged_name (run_out s) s) (sym c.self.view_is) in
    let at_home : g.S.Store.history c.abandon.new.self ≡ comes_home (merged_name (run_out (left_of c.self.view_is)) (left_of c.self.view_is)) (λ f. home f) device (g.S.Store.history c.self.inside.store) =
    c.abandon.ensures.home ∙ ap (λ name. comes_home name (λ f. home f) device (g.S.Store.history c.self.inside.store)) device_named in
    let gone = ap (option_map neighbours) c.take-merging.ensures.after in
    rw (← c.self.view_is) λ failed. record {
      home = (refl, ap (λ o. record (left_of c.self.view_is) { store = c.abandon.new.self; merger = Some c.args.out.watch; merging = o }) gone, at_home);
      stays = λ p frame m was out named leaves.
          merge_returns _ _ p frame m _ was out leaves failed refl refl
          (at_home ∙ ap (λ name. comes_home name (λ f. home f) device (g.S.Store.history c.self.inside.store)) (sym named));
      stays_moments = λ p frame m was out named leaves.
          subst (λ disks. FailedMomentsLeaveStore p frame (told g.S.Store.history g.S.Device.Device.history g.S.Frozen.Frozen.content (left_of c.self.view_is)) disks)
          (sym (at_home ∙ ap (λ name. comes_home name (λ f. home f) device (g.S.Store.history c.self.inside.store)) (sym named)))
          (merge_home_moments _ p frame m _ was out leaves);
    }

pub returns-in-Ok-clause-given_back : goal.returns-in-Ok-clause-given_back
returns-in-Ok-clause-given_back g c = rw (← c.self.view_is) λ failed. both c.self.inside.failed failed c.if-self.false

pub returns-in-Err-clause-given_back : goal.returns-in-Err-clause-given_back
returns-in-Err-clause-given_back g c = rw (← c.self.view_is) λ failed. both c.self.inside.failed failed c.if-self.false

-- ---- the merge failed

pub returns-then-self-clause-unmade : goal.returns-then-self-clause-unmade
returns-then-self-clause-unmade g c = rw (← c.self.view_is) (err_each c.args.out.outcome _ (λ e. record {
  unmade = λ sound. both c.self.inside.failed c.if-self.true sound;
  unmade_failed = λ p m is some leaves. both c.self.inside.failed c.if-self.true is.sound;
  unmade_moments = λ p m is some leaves. both c.self.inside.failed c.if-self.true is.sound;
}))

pub returns-in-Ok-clause-unmade : goal.returns-in-Ok-clause-unmade
returns-in-Ok-clause-unmade g c = if_err c.args.out.outcome _ _ (λ e unmade. never_fails (Ok _) _ _ refl unmade.0) c.in-Ok.ensures.unmade

pub returns-in-Err-clause-unmade : goal.returns-in-Err-clause-unmade
returns-in-Err-clause-unmade g c =
    let s = c.self.inside in
    let run = c.in-Some.run' in
    let device = g.S.Device.Device.history c.args.out.device in
    let merging : s.merging ≡ Some run = sym c.take-merging.ensures.value ∙ c.in-Some.is in
    let out = ap (option_map neighbours) merging in
    let lies : LiesIn s.list run = subst (λ o. IfSome o (LiesIn s.list)) merging c.self.invariant.run in
    let gone = ap (option_map neighbours) c.take-merging.ensures.after in
    let start = record (left_of c.self.view_is) { merger = Some c.args.out.watch; merging = option_map neighbours c.take-merging.new.self } in
    let here : run_out (left_of c.self.view_is) ≡ run = ap positions out ∙ positions_back run lies.0 in
    rw (← c.self.view_is) (if_err c.args.out.outcome _ _ (λ e unmade. record {
      unmade = λ sound. (
        unmade.0,
        subst (λ (x : PartState _ _ _ _). record x { failed = true } ≡ record start { store = x.store; merging = None; failed = true }) (sym c.self-in-Some.view_is)
            (ap (λ (x : PartState _ _ _ _). record x { failed = true }) unmade.1
            ∙ ap (λ o. record start { store = c.end_merge.new.self.store; merging = o; failed = true }) gone),
        subst (λ (x : PartState _ _ _ _). g.S.Store.history x.store ≡ comes_home (merged_name (run_out (left_of c.self.view_is)) start) (λ f. home f) device (g.S.Store.history s.store)) (sym c.self-in-Some.view_is)
            (unmade.2 ∙ ap (λ r. comes_home (merged_name r start) (λ f. home f) device (g.S.Store.history s.store)) (sym here)),
      );
      unmade_failed = λ p m is some leaves.
          let before = subst (λ o. IsPart (record (told_in is) { merging = o }) p) out is in
          subst (λ (x : PartState _ _ _ _). HasFailedWhole (record (told g.S.Store.history g.S.Device.Device.history g.S.Frozen.Frozen.content x) { failed = true }) p) (sym c.self-in-Some.view_is)
          (unmade_failed g.S.Store.history g.S.Device.Device.history g.S.Frozen.Frozen.content g.S.Frozen.Frozen.name start c.end_merge.new.self p m device run before some lies gone leaves unmade.1 unmade.2);
      unmade_moments = λ p m is some leaves.
          let before = subst (λ o. IsPart (record (told_in is) { merging = o }) p) out is in
          subst (λ (x : PartState _ _ _ _). FailedMomentsLeaveStore p None (told_in is) (g.S.Store.history x.store)) (sym c.self-in-Some.view_is)
          (unmade_moments g.S.Store.history g.S.Device.Device.history g.S.Frozen.Frozen.content g.S.Frozen.Frozen.name start c.end_merge.new.self p m device run before some lies gone leaves unmade.2);
    }) c.in-Err.ensures.unmade)

-- ---- what is stored

pub returns-in-Ok-clause-moments : goal.returns-in-Ok-clause-moments
returns-in-Ok-clause-moments g c =
    let s = c.self.inside in
    let run = c.in-Some.run' in
    let device = g.S.Device.Device.history c.args.out.device in
    let merging : s.merging ≡ Some run = sym c.take-merging.ensures.value ∙ c.in-Some.is in
    let out = ap (option_map neighbours) merging in
    let lies : LiesIn s.list run = subst (λ o. IfSome o (LiesIn s.list)) merging c.self.invariant.run in
    let gone = ap (option_map neighbours) c.take-merging.ensures.after in
    let start = record (left_of c.self.view_is) { merger = Some c.args.out.watch; merging = option_map neighbours c.take-merging.new.self } in
    rw (← c.self.view_is) λ p m is some made files.
    let before = subst (λ o. IsPart (record (told_in is) { merging = o }) p) out is in
    done_moments g.S.Store.history g.S.Device.Device.history g.S.Frozen.Frozen.content g.S.Frozen.Frozen.name start c.end_merge.new.self p m device run before some lies gone made files c.self.invariant.named c.in-Ok.ensures.listed c.in-Ok.ensures.same c.in-Ok.ensures.removed

pub returns-in-Ok-clause-undamaged : goal.returns-in-Ok-clause-undamaged
returns-in-Ok-clause-undamaged g c = λ ok p m is out made. told_any _ (Unit {0}) tt

pub returns-in-Err-clause-moments : goal.returns-in-Err-clause-moments
returns-in-Err-clause-moments g c =
    let s = c.self.inside in
    let run = c.in-Some.run' in
    let device = g.S.Device.Device.history c.args.out.device in
    let merging : s.merging ≡ Some run = sym c.take-merging.ensures.value ∙ c.in-Some.is in
    let out = ap (option_map neighbours) merging in
    let lies : LiesIn s.list run = subst (λ o. IfSome o (LiesIn s.list)) merging c.self.invariant.run in
    let gone = ap (option_map neighbours) c.take-merging.ensures.after in
    let start = record (left_of c.self.view_is) { merger = Some c.args.out.watch; merging = option_map neighbours c.take-merging.new.self } in
    rw (← c.self.view_is) λ p m is some made files.
    let before = subst (λ o. IsPart (record (told_in is) { merging = o }) p) out is in
    subst (λ (x : PartState _ _ _ _). StoreMomentsLeaveStore p (merged_part p) (told_in is) (g.S.Store.history x.store)) (sym c.self-in-Some.view_is)
    (ended_moments g.S.Store.history g.S.Device.Device.history g.S.Frozen.Frozen.content g.S.Frozen.Frozen.name start c.end_merge.new.self p m device run before some lies gone made files c.self.invariant.named c.in-Err.ensures.left)

pub returns-in-Err-clause-left : goal.returns-in-Err-clause-left
returns-in-Err-clause-left g c =
    let s = c.self.inside in
    let run = c.in-Some.run' in
    let device = g.S.Device.Device.history c.args.out.device in
    let merging : s.merging ≡ Some run = sym c.take-merging.ensures.value ∙ c.in-Some.is in
    let out = ap (option_map neighbours) merging in
    let lies : LiesIn s.list run = subst (λ o. IfSome o (LiesIn s.list)) merging c.self.invariant.run in
    let gone = ap (option_map neighbours) c.take-merging.ensures.after in
    let start = record (left_of c.self.view_is) { merger = Some c.args.out.watch; merging = option_map neighbours c.take-merging.new.self } in
    let here : run_out (left_of c.self.view_is) ≡ run = ap positions out ∙ positions_back run lies.0 in
    let ended : PartState _ _ _ _ = record c.end_merge.new.self { failed = true } in
    let left = subst (λ o. IsMergeUnlisted g.S.Store.history device run (record start { merging = o }) ended ⊎ IsMergeRemoving g.S.Frozen.Frozen.content g.S.Frozen.Frozen.name g.S.Store.history device run (record start { merging = o }) ended) gone
    (left_failed g.S.Store.history g.S.Frozen.Frozen.content g.S.Frozen.Frozen.name start c.end_merge.new.self device run c.in-Err.ensures.left) in
    rw (← c.self.view_is) (
      refl,
      subst (λ (x : PartState _ _ _ _). IsMergeUnlisted g.S.Store.history device (run_out (left_of c.self.view_is)) (record start { merging = None })
          (record x { failed = true }) ⊎ IsMergeRemoving g.S.Frozen.Frozen.content g.S.Frozen.Frozen.name g.S.Store.history device (run_out (left_of c.self.view_is))
          (record start { merging = None }) (record x { failed = true })) (sym c.self-in-Some.view_is)
          (subst (λ r. IsMergeUnlisted g.S.Store.history device r (record start { merging = None }) ended ⊎ IsMergeRemoving g.S.Frozen.Frozen.content g.S.Frozen.Frozen.name g.S.Store.history device r (record start { merging = None }) ended) (sym here) left),
    )

pub returns-in-Err-clause-failed : goal.returns-in-Err-clause-failed
returns-in-Err-clause-failed g c =
    let s = c.self.inside in
    let run = c.in-Some.run' in
    let device = g.S.Device.Device.history c.args.out.device in
    let merging : s.merging ≡ Some run = sym c.take-merging.ensures.value ∙ c.in-Some.is in
    let out = ap (option_map neighbours) merging in
    let lies : LiesIn s.list run = subst (λ o. IfSome o (LiesIn s.list)) merging c.self.invariant.run in
    let gone = ap (option_map neighbours) c.take-merging.ensures.after in
    let start = record (left_of c.self.view_is) { merger = Some c.args.out.watch; merging = option_map neighbours c.take-merging.new.self } in
    rw (← c.self.view_is) λ p m is some made files.
    let before = subst (λ o. IsPart (record (told_in is) { merging = o }) p) out is in
    subst (λ (x : PartState _ _ _ _). HasFailedWhole (record (told g.S.Store.history g.S.Device.Device.history g.S.Frozen.Frozen.content x) { failed = true }) p
    ⊎ HasFailedWhole (record (told g.S.Store.history g.S.Device.Device.history g.S.Frozen.Frozen.content x) { failed = true }) (merged_part p))
    (sym c.self-in-Some.view_is)
    (ended_failed g.S.Store.history g.S.Device.Device.history g.S.Frozen.Frozen.content g.S.Frozen.Frozen.name start c.end_merge.new.self p m device run before some lies gone made files c.self.invariant.named c.in-Err.ensures.left)

pub returns-in-Err-clause-damaged : goal.returns-in-Err-clause-damaged
returns-in-Err-clause-damaged g c =
    let s = c.self.inside in
    let run = c.in-Some.run' in
    let device = g.S.Device.Device.history c.args.out.device in
    let merging : s.merging ≡ Some run = sym c.take-merging.ensures.value ∙ c.in-Some.is in
    let out = ap (option_map neighbours) merging in
    let lies : LiesIn s.list run = subst (λ o. IfSome o (LiesIn s.list)) merging c.self.invariant.run in
    let gone = ap (option_map neighbours) c.take-merging.ensures.after in
    let start = record (left_of c.self.view_is) { merger = Some c.args.out.watch; merging = option_map neighbours c.take-merging.new.self } in
    let here : run_out (left_of c.self.view_is) ≡ run = ap positions out ∙ positions_back run lies.0 in
    rw (← c.self.view_is) λ ok.
    subst (λ r. IfDamaged {X = Unit {0}} (Err c.in-Err.fault) (IsMergeDamage g.S.Frozen.Frozen.content g.S.Frozen.Frozen.name (g.S.Device.Device.size c.args.out.device) device r (left_of c.self.view_is))) (sym here) (c.in-Err.ensures.damaged ok)

pub returns-in-Err-clause-undamaged : goal.returns-in-Err-clause-undamaged
returns-in-Err-clause-undamaged g c =
    let s = c.self.inside in
    let run = c.in-Some.run' in
    let device = g.S.Device.Device.history c.args.out.device in
    let merging : s.merging ≡ Some run = sym c.take-merging.ensures.value ∙ c.in-Some.is in
    let out = ap (option_map neighbours) merging in
    let lies : LiesIn s.list run = subst (λ o. IfSome o (LiesIn s.list)) merging c.self.invariant.run in
    let gone = ap (option_map neighbours) c.take-merging.ensures.after in
    let start = record (left_of c.self.view_is) { merger = Some c.args.out.watch; merging = option_map neighbours c.take-merging.new.self } in
    rw (← c.self.view_is) λ ok p m is some made.
    let before = subst (λ o. IsPart (record (told_in is) { merging = o }) p) out is in
    fitting g.S.Store.history g.S.Device.Device.history g.S.Frozen.Frozen.content g.S.Frozen.Frozen.name start c.end_merge.new.self p m device run before some lies gone (IfDamaged {X = Unit {0}} (Err c.in-Err.fault) (λ damage. ⊥)) made (c.in-Err.ensures.sound ok)

-- ---- what is out

pub returns-then-self-clause-devices : goal.returns-then-self-clause-devices
returns-then-self-clause-devices g c =
    let s = c.self.inside in
    let start = record (left_of c.self.view_is) { merger = Some c.args.out.watch; merging = option_map neighbours c.take-merging.new.self } in
    let device = g.S.Device.Device.history c.args.out.device in
    let some = some_there s.merging (LiesIn s.list) (sym (still_some neighbours s.merging) ∙ ap (λ s. is_some s.merging) c.self.view_is ∙ c.requires.out) c.self.invariant.run in
    let out = ap (option_map neighbours) some.1 in
    let here : run_out (left_of c.self.view_is) ≡ some.0 = ap positions out ∙ positions_back some.0 some.2.0 in
    let device_named : g.S.Device.Device.name c.args.out.device ≡ merged_name some.0 start = c.requires.name ∙ ap (λ s. merged_name (run_out s) s) (sym c.self.view_is) ∙ ap (λ r. merged_name r start) here in
    let new = g.S.Store.history c.abandon.new.self in
    let at_home : new ≡ comes_home (merged_name some.0 start) (λ f. home f) device (g.S.Store.history s.store) = c.abandon.ensures.home ∙ ap (λ name. comes_home name (λ f. home f) device (g.S.Store.history s.store)) device_named in
    rw (← c.self.view_is) λ device_tells only.
    merge_back_out g.S.Store.history g.S.Device.Device.history g.S.Frozen.Frozen.content g.S.Frozen.Frozen.name start start some.0 device device_tells
    (subst (λ o. OnlyDevicesOut (record (told g.S.Store.history g.S.Device.Device.history g.S.Frozen.Frozen.content start) { merging = o })) out only) new ((told g.S.Store.history g.S.Device.Device.history g.S.Frozen.Frozen.content start).components)
    (subst (StayOutBut (λ n. n ≡ merged_name some.0 start) (g.S.Store.history s.store)) (sym at_home) (home_in (merged_name some.0 start) (λ f. home f) (λ f. refl) device (g.S.Store.history s.store) device_tells))

pub returns-in-Ok-clause-devices : goal.returns-in-Ok-clause-devices
returns-in-Ok-clause-devices g c =
    let s = c.self.inside in
    let run = c.in-Some.run' in
    let merging : s.merging ≡ Some run = sym c.take-merging.ensures.value ∙ c.in-Some.is in
    let out = ap (option_map neighbours) merging in
    let start = record (left_of c.self.view_is) { merger = Some c.args.out.watch; merging = option_map neighbours c.take-merging.new.self } in
    rw (← c.self.view_is) λ device_tells only.
    merge_listed_out g.S.Store.history g.S.Device.Device.history g.S.Frozen.Frozen.content g.S.Frozen.Frozen.name start c.end_merge.new.self run (g.S.Device.Device.history c.args.out.device) device_tells
    (subst (λ o. OnlyDevicesOut (record (told g.S.Store.history g.S.Device.Device.history g.S.Frozen.Frozen.content start) { merging = o })) out only) c.in-Ok.ensures.removed start.failed c.in-Ok.ensures.same

pub returns-in-Err-clause-devices : goal.returns-in-Err-clause-devices
returns-in-Err-clause-devices g c =
    let s = c.self.inside in
    let run = c.in-Some.run' in
    let merging : s.merging ≡ Some run = sym c.take-merging.ensures.value ∙ c.in-Some.is in
    let out = ap (option_map neighbours) merging in
    let start = record (left_of c.self.view_is) { merger = Some c.args.out.watch; merging = option_map neighbours c.take-merging.new.self } in
    rw (← c.self.view_is) λ device_tells only.
    subst (λ (x : PartState _ _ _ _). OnlyDevicesOut (told g.S.Store.history g.S.Device.Device.history g.S.Frozen.Frozen.content x)) (sym c.self-in-Some.view_is)
    (merge_ended_out g.S.Store.history g.S.Device.Device.history g.S.Frozen.Frozen.content g.S.Frozen.Frozen.name start c.end_merge.new.self run (g.S.Device.Device.history c.args.out.device) device_tells
    (subst (λ o. OnlyDevicesOut (record (told g.S.Store.history g.S.Device.Device.history g.S.Frozen.Frozen.content start) { merging = o })) out only) c.in-Err.ensures.left)

-- ---- the active log

pub returns-then-self-clause-log_out : goal.returns-then-self-clause-log_out
returns-then-self-clause-log_out g c =
    let t = told g.S.Store.history g.S.Device.Device.history g.S.Frozen.Frozen.content (left_of c.self.view_is) in
    let name = merged_name (run_out (left_of c.self.view_is)) (left_of c.self.view_is) in
    let device = g.S.Device.Device.history c.args.out.device in
    let device_named = c.requires.name ∙ ap (λ s. merged_name (run_out s) s) (sym c.self.view_is) in
    let new = g.S.Store.history c.abandon.new.self in
    let at_home : new ≡ comes_home name (λ f. home f) device t.disks = c.abandon.ensures.home ∙ ap (λ n. comes_home n (λ f. home f) device t.disks) device_named in
    rw (← c.self.view_is) (log_out_on t new (subst (StaysOut (Log t.generation) t.disks) (sym at_home) (other_home name (Log t.generation) (λ f. home f) device t.disks (λ same. absurd (cc)))))

pub returns-in-Ok-clause-log_out : goal.returns-in-Ok-clause-log_out
returns-in-Ok-clause-log_out g c =
    let s = c.self.inside in
    let t = told g.S.Store.history g.S.Device.Device.history g.S.Frozen.Frozen.content (left_of c.self.view_is) in
    let run = c.in-Some.run' in
    let new = g.S.Store.history c.end_merge.new.self.store in
    let stays : StaysOut (Log t.generation) t.disks new = replaced_log t.generation (merged_name run (left_of c.self.view_is)) (g.S.Device.Device.history c.args.out.device) (map (λ x. g.S.Frozen.Frozen.name x.file) (in_run run s.list)) t.disks new (λ same. absurd (cc)) c.in-Ok.ensures.removed in
    rw (← c.self.view_is) λ is. subst (λ (x : PartState _ _ _ _). LogIsOut (told g.S.Store.history g.S.Device.Device.history g.S.Frozen.Frozen.content x)) (sym c.in-Ok.ensures.same) (log_out_on t new stays is)
