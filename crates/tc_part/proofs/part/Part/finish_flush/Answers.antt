use Rattle.std.proofs.Common.{◌≡◌, ◌∙◌, ◌-◌, ◌⊎◌, true, false, [], Some, None, is_some, option_map, refl, sym, ap, subst}
use Rattle.std.specs.Prelude.{Err, Ok, not}
use Rattle.tc_model.specs.Dictionary.{Extends}
use Rattle.tc_merge.specs.Merging.{newest_names}
use Rattle.tc_part.specs.Faults.{IfDamaged}
use Rattle.std.specs.Arc.{arc_value}
use Rattle.tc_store.specs.Disk.{home}
use Rattle.tc_store.specs.StoreCalls.{comes_home}
use Rattle.tc_store.specs.declared.file_name.FileName.TheVariants.{Component, Log}
use Rattle.tc_store.proofs.MomentLemmas.{told_map}
use Rattle.tc_flush.proofs.Outcomes.{if_err}
use Rattle.tc_part_model.specs.Changes.{flushed_part}
use Rattle.tc_part_model.specs.Leaving.{FailedMomentsLeaveStore, StoreMomentsLeaveStore}
use Rattle.tc_part_model.specs.Meaning.{IsOfContent, IsPart}
use Rattle.tc_part.specs.FilesOut.{LogIsOut, OnlyDevicesOut}
use Rattle.tc_part.specs.OwnFiles.{HasOwnFiles}
use Rattle.tc_part_model.specs.PartState.{PartState, told, told_component}
use Rattle.tc_part_model.proofs.HomeMoments.{flush_home_moments}
use Rattle.tc_part.specs.Closing.{HasFailedWhole}
use Rattle.tc_part.specs.FlushEnds.{flushed_name}
use Rattle.tc_part.specs.MergeEnds.{merged_name, run_out}
use Rattle.tc_part.specs.Ready.{active_generation}
use Rattle.tc_part.proofs.FlushedContents.{flush_headed, log_there, made_so, none_out, of_made, some_there, told_any, told_listed}
use Rattle.tc_part.proofs.FlushOutcomes.{ended_failed, ended_moments, ended_named, listed_named, unmade_failed, unmade_moments}
use Rattle.tc_part.proofs.ListedContents.{all_indices}
use Rattle.tc_part.proofs.Handing.{still_some}
use Rattle.tc_part.proofs.Outcomes.{err_each, never_fails}
use Rattle.tc_part.proofs.OwnOutcomes.{flush_own}
use Rattle.tc_part.proofs.Standing.{both, left_of, table_in, told_in}
use Rattle.tc_part.proofs.DevicesOut.{StayOutBut, home_in}
use Rattle.tc_part.proofs.JobDevices.{flush_back_out, flush_ended_out, flush_listed_out}
use Rattle.tc_part.proofs.LogOut.{StaysOut, listed_log, log_out_on, other_home}
use Rattle.tc_part.proofs.part.Part.finish_flush.Goals as goal

-- ---- listed

pub returns-then-self-clause-listed : goal.returns-then-self-clause-listed
returns-then-self-clause-listed g c = rw (← c.self.view_is) λ sound. both c.self.inside.failed c.if-self.true sound

pub returns-in-Ok-clause-listed : goal.returns-in-Ok-clause-listed
returns-in-Ok-clause-listed g c =
    let s = c.self.inside in
    let device = g.S.Device.Device.history c.args.out.device in
    let start = record (left_of c.self.view_is) { flusher = Some c.args.out.watch; flushing = false } in
    let flushing : not (is_some s.flusher) ≡ true = ap (λ s. s.flushing) c.self.view_is ∙ c.requires.out in
    rw (← c.self.view_is) λ sound.
    let sealed = c.self.invariant.flush sound (none_out s.flusher flushing) in
    let there = some_there s.sealed_log _ (c.self.invariant.sealed_both sound ∙ sealed) c.in-Ok.ensures.uncovered in
    let listed = c.in-Ok.ensures.listed in
    record {
      flushed = λ p m is makes made.
          let some = ap (option_map (λ l. g.S.Device.Device.history l.device)) there.1 in
          let head = flush_headed _ p m is (still_some arc_value s.sealed ∙ sealed) makes in
          let of = of_made g.S.Frozen.Frozen.content g.S.Frozen.Frozen.name _ _ (g.S.Store.history s.store) m device listed.component listed.made made head (c.told_components_are_loaded.ensures.of_content listed.component m) in (
            told_map (λ disk. IsOfContent (told_component g.S.Frozen.Frozen.content listed.component) m) (λ disk. IsPart (told g.S.Store.history g.S.Device.Device.history g.S.Frozen.Frozen.content c.end_flush.new.self) (flushed_part m p)) (g.S.Store.history s.store)
                (λ disk is_of. c.flushes_are_listed.ensures.listed _ _ p m _ device _ is flushing some makes is_of made there.2.0
                (told_listed g.S.Store.history g.S.Device.Device.history g.S.Frozen.Frozen.content start c.end_flush.new.self listed.component _ c.in-Ok.ensures.same listed.listed there.2.1)) of,
            c.flushes_are_listed.ensures.stored _ p m _ is flushing some makes,
          );
      listed = listed;
      same = c.in-Ok.ensures.same;
      uncovered = c.in-Ok.ensures.uncovered;
      own = λ own.
          flush_own g.S.Store.history g.S.Device.Device.history g.S.Frozen.Frozen.content g.S.Frozen.Frozen.name start c.end_flush.new.self device
          _ c.in-Ok.ensures.same refl (c.self.invariant.behind sound ∙ ap (active_generation s.list) sealed) listed there.2.1
          (subst (λ b. HasOwnFiles (record (told g.S.Store.history g.S.Device.Device.history g.S.Frozen.Frozen.content start) { flushing = b })) flushing own);
      reads = c.in-Ok.ensures.reads;
    }

-- ---- given back

pub returns-then-self-clause-given_back : goal.returns-then-self-clause-given_back
returns-then-self-clause-given_back g c =
    let device = g.S.Device.Device.history c.args.out.device in
    let device_named = c.requires.name ∙ ap (λ s. Component (s.generation - 1) (s.generation - 1)) (sym c.self.view_is) in
    let at_home : g.S.Store.history c.abandon.new.self ≡ comes_home (flushed_name (left_of c.self.view_is)) (λ f. home f) device (g.S.Store.history c.self.inside.store) =
    c.abandon.ensures.home ∙ ap (λ name. comes_home name (λ f. home f) device (g.S.Store.history c.self.inside.store)) device_named in
    rw (← c.self.view_is) λ failed. record {
      home = (refl, refl, at_home);
      stays = λ p frame j was out named leaves.
          c.failed_parts_keep_files.ensures.flush _ _ p frame j _ was out leaves failed refl refl
          (at_home ∙ ap (λ name. comes_home name (λ f. home f) device (g.S.Store.history c.self.inside.store)) (sym named));
      stays_moments = λ p frame j was out named leaves.
          subst (λ disks. FailedMomentsLeaveStore p frame (told g.S.Store.history g.S.Device.Device.history g.S.Frozen.Frozen.content (left_of c.self.view_is)) disks)
          (sym (at_home ∙ ap (λ name. comes_home name (λ f. home f) device (g.S.Store.history c.self.inside.store)) (sym named)))
          (flush_home_moments _ p frame j _ was out leaves);
    }

pub returns-in-Ok-clause-given_back : goal.returns-in-Ok-clause-given_back
returns-in-Ok-clause-given_back g c = rw (← c.self.view_is) λ failed. both c.self.inside.failed failed c.if-self.false

pub returns-in-Err-clause-given_back : goal.returns-in-Err-clause-given_back
returns-in-Err-clause-given_back g c = rw (← c.self.view_is) λ failed. both c.self.inside.failed failed c.if-self.false

-- ---- the flush failed

pub returns-then-self-clause-unmade : goal.returns-then-self-clause-unmade
returns-then-self-clause-unmade g c = rw (← c.self.view_is) (err_each c.args.out.outcome _ (λ e. record {
  unmade = λ sound. both c.self.inside.failed c.if-self.true sound;
  unmade_failed = λ p is leaves. both c.self.inside.failed c.if-self.true is.sound;
  unmade_moments = λ p is leaves. both c.self.inside.failed c.if-self.true is.sound;
}))

pub returns-in-Ok-clause-unmade : goal.returns-in-Ok-clause-unmade
returns-in-Ok-clause-unmade g c = if_err c.args.out.outcome _ _ (λ e unmade. never_fails (Ok _) _ _ refl unmade.0) c.in-Ok.ensures.unmade

pub returns-in-Err-clause-unmade : goal.returns-in-Err-clause-unmade
returns-in-Err-clause-unmade g c =
    let s = c.self.inside in
    let device = g.S.Device.Device.history c.args.out.device in
    let flushing : not (is_some s.flusher) ≡ true = ap (λ s. s.flushing) c.self.view_is ∙ c.requires.out in
    let start = record (left_of c.self.view_is) { flusher = Some c.args.out.watch; flushing = false } in
    rw (← c.self.view_is) (if_err c.args.out.outcome _ _ (λ e unmade. record {
      unmade = λ sound. (
        unmade.0,
        subst (λ (x : PartState _ _ _ _). record x { failed = true } ≡ record start { store = x.store; failed = true }) (sym c.self-2.view_is) (ap (λ (x : PartState _ _ _ _). record x { failed = true }) unmade.1),
        subst (λ (x : PartState _ _ _ _). g.S.Store.history x.store ≡ comes_home (flushed_name start) (λ f. home f) device (g.S.Store.history s.store)) (sym c.self-2.view_is) unmade.2,
      );
      unmade_failed = λ p is leaves.
          let sealed = c.self.invariant.flush is.sound (none_out s.flusher flushing) in
          let there = log_there s.sealed_log (c.self.invariant.sealed_both is.sound ∙ sealed) in
          let out = subst (λ b. IsPart (record (told_in is) { flushing = b }) p) flushing is in
          subst (λ (x : PartState _ _ _ _). HasFailedWhole (record (told g.S.Store.history g.S.Device.Device.history g.S.Frozen.Frozen.content x) { failed = true }) p) (sym c.self-2.view_is)
          (unmade_failed g.S.Store.history g.S.Device.Device.history g.S.Frozen.Frozen.content start c.end_flush.new.self p device there.0 out there.1 leaves unmade.1 unmade.2);
      unmade_moments = λ p is leaves.
          let sealed = c.self.invariant.flush is.sound (none_out s.flusher flushing) in
          let there = log_there s.sealed_log (c.self.invariant.sealed_both is.sound ∙ sealed) in
          let out = subst (λ b. IsPart (record (told_in is) { flushing = b }) p) flushing is in
          subst (λ (x : PartState _ _ _ _). FailedMomentsLeaveStore p None (told_in is) (g.S.Store.history x.store)) (sym c.self-2.view_is)
          (unmade_moments g.S.Store.history g.S.Device.Device.history g.S.Frozen.Frozen.content start c.end_flush.new.self p device there.0 out there.1 leaves unmade.2);
    }) c.in-Err.ensures.unmade)

-- ---- what is stored

pub returns-then-self-clause-moments : goal.returns-then-self-clause-moments
returns-then-self-clause-moments g c = rw (← c.self.view_is) λ p m is makes made. both c.self.inside.failed c.if-self.true is.sound

pub returns-in-Ok-clause-moments : goal.returns-in-Ok-clause-moments
returns-in-Ok-clause-moments g c =
    let s = c.self.inside in
    let flushing : not (is_some s.flusher) ≡ true = ap (λ s. s.flushing) c.self.view_is ∙ c.requires.out in
    rw (← c.self.view_is) λ p m is makes made.
    let sealed = c.self.invariant.flush is.sound (none_out s.flusher flushing) in
    let there = some_there s.sealed_log _ (c.self.invariant.sealed_both is.sound ∙ sealed) c.in-Ok.ensures.uncovered in
    let some = ap (option_map (λ l. g.S.Device.Device.history l.device)) there.1 in
    subst (λ disks. StoreMomentsLeaveStore p (flushed_part m p) (told_in is) disks) (sym there.2.1) (c.flushes_are_listed.ensures.moments _ p m _ _ is flushing some makes made there.2.0)

pub returns-in-Err-clause-moments : goal.returns-in-Err-clause-moments
returns-in-Err-clause-moments g c =
    let s = c.self.inside in
    let flushing : not (is_some s.flusher) ≡ true = ap (λ s. s.flushing) c.self.view_is ∙ c.requires.out in
    rw (← c.self.view_is) λ p m is makes made.
    let sealed = c.self.invariant.flush is.sound (none_out s.flusher flushing) in
    let there = log_there s.sealed_log (c.self.invariant.sealed_both is.sound ∙ sealed) in
    let out = subst (λ b. IsPart (record (told_in is) { flushing = b }) p) flushing is in
    subst (λ (x : PartState _ _ _ _). StoreMomentsLeaveStore p (flushed_part m p) (told_in is) (g.S.Store.history x.store)) (sym c.self-2.view_is)
    (ended_moments g.S.Store.history g.S.Device.Device.history g.S.Frozen.Frozen.content g.S.Frozen.Frozen.name
    (record (left_of c.self.view_is) { flusher = Some c.args.out.watch; flushing = false }) c.end_flush.new.self p m (g.S.Device.Device.history c.args.out.device)
    there.0 out there.1 makes made c.in-Err.ensures.left)

pub returns-in-Err-clause-failed : goal.returns-in-Err-clause-failed
returns-in-Err-clause-failed g c =
    let s = c.self.inside in
    let flushing : not (is_some s.flusher) ≡ true = ap (λ s. s.flushing) c.self.view_is ∙ c.requires.out in
    rw (← c.self.view_is) λ p m is makes made.
    let sealed = c.self.invariant.flush is.sound (none_out s.flusher flushing) in
    let there = log_there s.sealed_log (c.self.invariant.sealed_both is.sound ∙ sealed) in
    let out = subst (λ b. IsPart (record (told_in is) { flushing = b }) p) flushing is in
    let head = flush_headed _ p m is (still_some arc_value s.sealed ∙ sealed) makes in
    subst (λ (x : PartState _ _ _ _). HasFailedWhole (record (told g.S.Store.history g.S.Device.Device.history g.S.Frozen.Frozen.content x) { failed = true }) p
    ⊎ HasFailedWhole (record (told g.S.Store.history g.S.Device.Device.history g.S.Frozen.Frozen.content x) { failed = true }) (flushed_part m p))
    (sym c.self-2.view_is)
    (ended_failed g.S.Store.history g.S.Device.Device.history g.S.Frozen.Frozen.content g.S.Frozen.Frozen.name
    (record (left_of c.self.view_is) { flusher = Some c.args.out.watch; flushing = false }) c.end_flush.new.self p m (g.S.Device.Device.history c.args.out.device)
    there.0 out there.1 makes made refl head
    (λ component. c.told_components_are_loaded.ensures.of_content component m) c.in-Err.ensures.left)

pub returns-then-self-clause-undamaged : goal.returns-then-self-clause-undamaged
returns-then-self-clause-undamaged g c = λ p m is makes made. told_any _ (Unit {0}) tt

pub returns-in-Ok-clause-undamaged : goal.returns-in-Ok-clause-undamaged
returns-in-Ok-clause-undamaged g c = λ p m is makes made. told_any _ (Unit {0}) tt

pub returns-in-Err-clause-undamaged : goal.returns-in-Err-clause-undamaged
returns-in-Err-clause-undamaged g c =
    let s = c.self.inside in
    let flushing : not (is_some s.flusher) ≡ true = ap (λ s. s.flushing) c.self.view_is ∙ c.requires.out in
    rw (← c.self.view_is) λ p m is makes made.
    let sealed = still_some arc_value s.sealed ∙ c.self.invariant.flush is.sound (none_out s.flusher flushing) in
    let table = table_in _ sealed in
    let names = c.inputs_are_newest.ensures.names s.list p.list (all_indices g.S.Frozen.Frozen.content s.list p.list is.view.components) in
    let extends = subst (λ names. Extends m.names names) (sym names) (c.sealed_tables_can_flush.ensures.extends _ p table.0 m is table.1 makes) in
    made_so _ (λ names. Extends names (newest_names [] s.list)) (g.S.Store.history s.store) (g.S.Device.Device.history c.args.out.device) m (IfDamaged {X = Unit {0}} (Err c.in-Err.fault) (λ damage. ⊥)) made (flush_headed _ p m is sealed makes) extends c.in-Err.ensures.sound

pub returns-in-Ok-clause-merge_named : goal.returns-in-Ok-clause-merge_named
returns-in-Ok-clause-merge_named g c =
    let s = c.self.inside in
    let start = record (left_of c.self.view_is) { flusher = Some c.args.out.watch; flushing = false } in
    let listed = c.in-Ok.ensures.listed in
    rw (← c.self.view_is) λ out.
    listed_named g.S.Store.history g.S.Device.Device.history g.S.Frozen.Frozen.content g.S.Frozen.Frozen.name start c.end_flush.new.self (g.S.Device.Device.history c.args.out.device) s.merging refl c.self.invariant.run out listed.component
    (c.in-Ok.ensures.same ∙ ap (λ failed. record start { store = c.end_flush.new.self.store; main = c.end_flush.new.self.main; list = c.end_flush.new.self.list; sealed = None; sealed_log = None; failed = failed }) (sym (ap (λ (x : PartState _ _ _ _). x.failed) c.in-Ok.ensures.same)))
    listed.listed

pub returns-in-Err-clause-merge_named : goal.returns-in-Err-clause-merge_named
returns-in-Err-clause-merge_named g c =
    let s = c.self.inside in
    let start = record (left_of c.self.view_is) { flusher = Some c.args.out.watch; flushing = false } in
    rw (← c.self.view_is) λ out.
    subst (λ (x : PartState _ _ _ _). merged_name (run_out x) x ≡ merged_name (run_out start) start) (sym c.self-2.view_is)
    (ended_named g.S.Store.history g.S.Device.Device.history g.S.Frozen.Frozen.content g.S.Frozen.Frozen.name start c.end_flush.new.self
    (g.S.Device.Device.history c.args.out.device) s.merging refl c.self.invariant.run out c.in-Err.ensures.left)

-- ---- what is out

pub returns-then-self-clause-devices : goal.returns-then-self-clause-devices
returns-then-self-clause-devices g c =
    let s = c.self.inside in
    let start = record (left_of c.self.view_is) { flusher = Some c.args.out.watch; flushing = false } in
    let device = g.S.Device.Device.history c.args.out.device in
    let flushing : not (is_some s.flusher) ≡ true = ap (λ s. s.flushing) c.self.view_is ∙ c.requires.out in
    let device_named = c.requires.name ∙ ap (λ s. Component (s.generation - 1) (s.generation - 1)) (sym c.self.view_is) in
    let new = g.S.Store.history c.abandon.new.self in
    let at_home : new ≡ comes_home (flushed_name start) (λ f. home f) device (g.S.Store.history s.store) = c.abandon.ensures.home ∙ ap (λ name. comes_home name (λ f. home f) device (g.S.Store.history s.store)) device_named in
    rw (← c.self.view_is) λ device_tells tells only.
    flush_back_out g.S.Store.history g.S.Device.Device.history g.S.Frozen.Frozen.content g.S.Frozen.Frozen.name start start device device_tells
    (subst (λ b. OnlyDevicesOut (record (told g.S.Store.history g.S.Device.Device.history g.S.Frozen.Frozen.content start) { flushing = b })) flushing only) new
    (subst (StayOutBut (λ n. n ≡ flushed_name start) (g.S.Store.history s.store)) (sym at_home) (home_in (flushed_name start) (λ f. home f) (λ f. refl) device (g.S.Store.history s.store) device_tells))

pub returns-in-Ok-clause-devices : goal.returns-in-Ok-clause-devices
returns-in-Ok-clause-devices g c =
    let s = c.self.inside in
    let start = record (left_of c.self.view_is) { flusher = Some c.args.out.watch; flushing = false } in
    let flushing : not (is_some s.flusher) ≡ true = ap (λ s. s.flushing) c.self.view_is ∙ c.requires.out in
    let sound = c.if-self.false in
    let sealed = c.self.invariant.flush sound (none_out s.flusher flushing) in
    let there = some_there s.sealed_log _ (c.self.invariant.sealed_both sound ∙ sealed) c.in-Ok.ensures.uncovered in
    rw (← c.self.view_is) λ device_tells tells only.
    flush_listed_out g.S.Store.history g.S.Device.Device.history g.S.Frozen.Frozen.content g.S.Frozen.Frozen.name start c.end_flush.new.self (g.S.Device.Device.history c.args.out.device) device_tells
    (subst (λ b. OnlyDevicesOut (record (told g.S.Store.history g.S.Device.Device.history g.S.Frozen.Frozen.content start) { flushing = b })) flushing only)
    s.merging refl c.self.invariant.run there.0 there.1 tells.sealed c.in-Ok.ensures.listed start.failed c.in-Ok.ensures.same there.2.1

pub returns-in-Err-clause-devices : goal.returns-in-Err-clause-devices
returns-in-Err-clause-devices g c =
    let s = c.self.inside in
    let start = record (left_of c.self.view_is) { flusher = Some c.args.out.watch; flushing = false } in
    let flushing : not (is_some s.flusher) ≡ true = ap (λ s. s.flushing) c.self.view_is ∙ c.requires.out in
    let sound = c.if-self.false in
    let sealed = c.self.invariant.flush sound (none_out s.flusher flushing) in
    let there = log_there s.sealed_log (c.self.invariant.sealed_both sound ∙ sealed) in
    rw (← c.self.view_is) λ device_tells tells only.
    subst (λ (x : PartState _ _ _ _). OnlyDevicesOut (told g.S.Store.history g.S.Device.Device.history g.S.Frozen.Frozen.content x)) (sym c.self-2.view_is)
    (flush_ended_out g.S.Store.history g.S.Device.Device.history g.S.Frozen.Frozen.content g.S.Frozen.Frozen.name start c.end_flush.new.self (g.S.Device.Device.history c.args.out.device) device_tells
    (subst (λ b. OnlyDevicesOut (record (told g.S.Store.history g.S.Device.Device.history g.S.Frozen.Frozen.content start) { flushing = b })) flushing only)
    s.merging refl c.self.invariant.run there.0 there.1 tells.sealed c.in-Err.ensures.left)

-- ---- the active log

pub returns-then-self-clause-log_out : goal.returns-then-self-clause-log_out
returns-then-self-clause-log_out g c =
    let t = told g.S.Store.history g.S.Device.Device.history g.S.Frozen.Frozen.content (left_of c.self.view_is) in
    let name = flushed_name (left_of c.self.view_is) in
    let device = g.S.Device.Device.history c.args.out.device in
    let device_named = c.requires.name ∙ ap (λ s. Component (s.generation - 1) (s.generation - 1)) (sym c.self.view_is) in
    let new = g.S.Store.history c.abandon.new.self in
    let at_home : new ≡ comes_home name (λ f. home f) device t.disks = c.abandon.ensures.home ∙ ap (λ n. comes_home n (λ f. home f) device t.disks) device_named in
    rw (← c.self.view_is) (log_out_on t new (subst (StaysOut (Log t.generation) t.disks) (sym at_home) (other_home name (Log t.generation) (λ f. home f) device t.disks (λ same. absurd (cc)))))

pub returns-in-Ok-clause-log_out : goal.returns-in-Ok-clause-log_out
returns-in-Ok-clause-log_out g c =
    let s = c.self.inside in
    let t = told g.S.Store.history g.S.Device.Device.history g.S.Frozen.Frozen.content (left_of c.self.view_is) in
    let device = g.S.Device.Device.history c.args.out.device in
    let flushing : not (is_some s.flusher) ≡ true = ap (λ s. s.flushing) c.self.view_is ∙ c.requires.out in
    let sound = c.if-self.false in
    let sealed = c.self.invariant.flush sound (none_out s.flusher flushing) in
    let there = some_there s.sealed_log _ (c.self.invariant.sealed_both sound ∙ sealed) c.in-Ok.ensures.uncovered in
    let new = g.S.Store.history c.end_flush.new.self.store in
    let stays : StaysOut (Log t.generation) t.disks new = subst (StaysOut (Log t.generation) t.disks) (sym there.2.1)
    (listed_log t.generation (flushed_name (left_of c.self.view_is)) device (g.S.Device.Device.history there.0.device) t.disks c.self.invariant.first (λ same. absurd (cc))) in
    rw (← c.self.view_is) λ is. subst (λ (x : PartState _ _ _ _). LogIsOut (told g.S.Store.history g.S.Device.Device.history g.S.Frozen.Frozen.content x)) (sym c.in-Ok.ensures.same) (log_out_on t new stays is)
