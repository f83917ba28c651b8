use Rattle.std.proofs.Common.{◌≡◌, ◌∙◌, [], Some, map, option_map, refl, sym, ap, subst}
use Rattle.tc_store.specs.declared.file_name.FileName.TheVariants.{Log}
use Rattle.tc_store.specs.StoreCalls.{FailsMaking, makes}
use Rattle.tc_list.specs.Runs.{neighbours}
use Rattle.tc_part_model.specs.Changes.{merging_part}
use Rattle.tc_part_model.specs.Leaving.{StoreMomentsLeaveStore}
use Rattle.tc_machine.specs.Components.{file_of}
use Rattle.tc_part_model.specs.PartState.{PartState, told, told_component}
use Rattle.tc_part_model.proofs.ToldFiles.{unmade_untold}
use Rattle.tc_part.proofs.OwnNames.{merge_begun_own, merge_is_free}
use Rattle.tc_part.specs.FilesOut.{LogIsOut, OnlyDevicesOut}
use Rattle.tc_part.specs.JobHeads.{merged_head}
use Rattle.tc_part.specs.MergeEnds.{merged_name, run_out}
use Rattle.tc_part.proofs.ReplacedRun.{positions_back}
use Rattle.tc_part.proofs.RunEnds.{ends, merge_within}
use Rattle.tc_part.proofs.Standing.{left_of}
use Rattle.tc_part.proofs.DevicesOut.{not_made_in, out_on}
use Rattle.tc_part.proofs.JobDevices.{merge_begun_out}
use Rattle.tc_part.proofs.LogOut.{StaysOut, log_out_on, other_made}
use Rattle.tc_part.proofs.part.Part.begin_merge.Goals as goal

pub merge_job-requires-clause-free : goal.merge_job-requires-clause-free
merge_job-requires-clause-free g c = λ κs lives.
    let s = c.args.self.now in
    merge_is_free g.S.Frozen.Frozen.content (told g.S.Store.history g.S.Device.Device.history g.S.Frozen.Frozen.content s) s.list refl c.args.run c.requires.run.0 c.requires.run.1 c.requires.none_out c.requires.own

pub returns-in-Ok-clause-begins : goal.returns-in-Ok-clause-begins
returns-in-Ok-clause-begins g c =
    let s = c.args.self.now in
    let run = c.args.run in
    let t = told g.S.Store.history g.S.Device.Device.history g.S.Frozen.Frozen.content s in
    let same = c.in-Ok.ensures.same in
    record {
      begun = λ p m is merge.
          let head = merged_head s.number s.count run s.list in
          let e = ends s.number s.count run s.list c.requires.run in
          let two = c.runs_can_merge.ensures.within t p s.list run head e.first e.last is refl c.requires.run.0 e.at_first e.at_last e.head in
          let named = c.runs_can_merge.ensures.named t p s.list run head e.first e.last is refl c.requires.run.0 e.at_first e.at_last e.head m merge in
          let made = c.in-Ok.ensures.made ∙ ap (λ name. makes name t.disks) (sym named) in (
            c.merges_begin.ensures.begun t _ p (neighbours run) m is two.0 two.1 merge c.requires.none_out
                (ap (told g.S.Store.history g.S.Device.Device.history g.S.Frozen.Frozen.content) same ∙ ap (λ disks. record t { disks = disks; merging = Some (neighbours run) }) made),
            c.merges_begin.ensures.stored p (neighbours run) m,
          );
      same = same;
      out = ap (λ (s : PartState _ _ _ _). run_out s) same ∙ positions_back run c.requires.run.0;
      components = c.in-Ok.ensures.components;
      head = c.in-Ok.ensures.head;
      watch = c.in-Ok.ensures.watch;
      name = c.in-Ok.ensures.name;
      file = c.in-Ok.ensures.file;
      made = c.in-Ok.ensures.made;
      own =
          merge_begun_own g.S.Frozen.Frozen.content t s.list refl run c.requires.run.0
          c.requires.run.1 (told g.S.Store.history g.S.Device.Device.history g.S.Frozen.Frozen.content (left_of same)) c.requires.none_out c.in-Ok.ensures.made
          (ap (λ (x : PartState _ _ _ _). x.generation) same) (ap (λ (x : PartState _ _ _ _). map (told_component g.S.Frozen.Frozen.content) x.list) same)
          (ap (λ (x : PartState _ _ _ _). x.flushing) same) (ap (λ (x : PartState _ _ _ _). x.merging) same) c.requires.own;
      log_out = λ is.
          let new = g.S.Store.history c.merge_job.new.self.store in
          let stays : StaysOut (Log t.generation) t.disks new = subst (StaysOut (Log t.generation) t.disks) (sym c.in-Ok.ensures.made) (other_made (merged_name run s) (Log t.generation) t.disks (λ same. absurd (cc))) in
          subst (λ (x : PartState _ _ _ _). LogIsOut (told g.S.Store.history g.S.Device.Device.history g.S.Frozen.Frozen.content x)) (sym same) (log_out_on t new stays is);
      loaded = λ p is files.
          let loaded = c.told_components_are_loaded.ensures.all_loaded s.list p.list is.view.components files in
          rw c.in-Ok.ensures.components (c.told_components_are_loaded.ensures.run run s.list p.list loaded);
    }

pub returns-in-Ok-clause-moments : goal.returns-in-Ok-clause-moments
returns-in-Ok-clause-moments g c = λ p m is merge.
    let s = c.args.self.now in
    let run = c.args.run in
    let t = told g.S.Store.history g.S.Device.Device.history g.S.Frozen.Frozen.content s in
    let head = merged_head s.number s.count run s.list in
    let e = ends s.number s.count run s.list c.requires.run in
    let two = c.runs_can_merge.ensures.within t p s.list run head e.first e.last is refl c.requires.run.0 e.at_first e.at_last e.head in
    let named = c.runs_can_merge.ensures.named t p s.list run head e.first e.last is refl c.requires.run.0 e.at_first e.at_last e.head m merge in
    let made = c.in-Ok.ensures.made ∙ ap (λ name. makes name t.disks) (sym named) in
    subst (λ disks. StoreMomentsLeaveStore p (merging_part (neighbours run) m p) t disks) (sym made)
    (c.moments_follow.ensures.behind t p (merging_part (neighbours run) m p) _ (c.merges_begin.ensures.moments t p (neighbours run) m is two.0 two.1 merge c.requires.none_out))

pub returns-in-Err-clause-moments : goal.returns-in-Err-clause-moments
returns-in-Err-clause-moments g c = λ p m is merge.
    let s = c.args.self.now in
    let run = c.args.run in
    let t = told g.S.Store.history g.S.Device.Device.history g.S.Frozen.Frozen.content s in
    let head = merged_head s.number s.count run s.list in
    let e = ends s.number s.count run s.list c.requires.run in
    let two = c.runs_can_merge.ensures.within t p s.list run head e.first e.last is refl c.requires.run.0 e.at_first e.at_last e.head in
    let named = c.runs_can_merge.ensures.named t p s.list run head e.first e.last is refl c.requires.run.0 e.at_first e.at_last e.head m merge in
    let unmade = subst (λ name. FailsMaking name t.disks (g.S.Store.history c.merge_job.new.self.store)) (sym named) c.in-Err.ensures.unmade in
    subst (λ (s : PartState _ _ _ _). StoreMomentsLeaveStore p (merging_part (neighbours run) m p) t (g.S.Store.history s.store)) (sym c.self.view_is)
    (c.moments_follow.ensures.before t p (merging_part (neighbours run) m p) _ (c.merges_begin.ensures.not_made_moments t p (neighbours run) m _ is two.0 two.1 merge c.requires.none_out unmade))

pub returns-in-Err-clause-failed : goal.returns-in-Err-clause-failed
returns-in-Err-clause-failed g c = λ p is.
    let s = c.args.self.now in
    let run = c.args.run in
    let t = told g.S.Store.history g.S.Device.Device.history g.S.Frozen.Frozen.content s in
    let head = merged_head s.number s.count run s.list in
    let e = ends s.number s.count run s.list c.requires.run in
    let two = c.runs_can_merge.ensures.within t p s.list run head e.first e.last is refl c.requires.run.0 e.at_first e.at_last e.head in
    let m = merge_within (neighbours run) p.list two in
    let named = c.runs_can_merge.ensures.named t p s.list run head e.first e.last is refl c.requires.run.0 e.at_first e.at_last e.head m.0 m.1 in
    let unmade = subst (λ name. FailsMaking name t.disks (g.S.Store.history c.merge_job.new.self.store)) (sym named) c.in-Err.ensures.unmade in
    c.merges_begin.ensures.not_made_as t _ p (neighbours run) m.0 is two.0 two.1 m.1 c.requires.none_out refl
    (ap (λ (s : PartState _ _ _ _). g.S.Device.Device.history s.log.device) (c.self.view_is ∙ c.in-Err.ensures.left))
    (ap (λ (s : PartState _ _ _ _). option_map (λ l. g.S.Device.Device.history l.device) s.sealed_log) (c.self.view_is ∙ c.in-Err.ensures.left))
    (subst (λ (s : PartState _ _ _ _). FailsMaking (file_of m.0) t.disks (g.S.Store.history s.store)) (sym c.self.view_is) unmade)

pub returns-in-Ok-clause-devices : goal.returns-in-Ok-clause-devices
returns-in-Ok-clause-devices g c =
    merge_begun_out g.S.Store.history g.S.Device.Device.history g.S.Frozen.Frozen.content g.S.Frozen.Frozen.name c.args.self.now c.merge_job.new.self c.args.run c.requires.run c.requires.none_out c.in-Ok.ensures.same c.in-Ok.ensures.made

pub returns-in-Err-clause-devices : goal.returns-in-Err-clause-devices
returns-in-Err-clause-devices g c = λ only.
    let s = c.args.self.now in
    let t = told g.S.Store.history g.S.Device.Device.history g.S.Frozen.Frozen.content s in
    let new = g.S.Store.history c.merge_job.new.self.store in
    subst (λ (x : PartState _ _ _ _). OnlyDevicesOut (told g.S.Store.history g.S.Device.Device.history g.S.Frozen.Frozen.content x)) (sym (c.self.view_is ∙ c.in-Err.ensures.left)) (out_on t new (not_made_in (merged_name c.args.run s) t.disks new c.in-Err.ensures.unmade) only)

-- ---- where nothing is told

pub returns-in-Ok-clause-untold : goal.returns-in-Ok-clause-untold
returns-in-Ok-clause-untold g c = λ untold. c.in-Ok.ensures.made ∙ ap (makes (merged_name c.args.run c.args.self.now)) untold

pub returns-in-Err-clause-untold : goal.returns-in-Err-clause-untold
returns-in-Err-clause-untold g c = λ untold.
    subst (λ (s : PartState _ _ _ _). g.S.Store.history s.store ≡ []) (sym (c.self.view_is ∙ c.in-Err.ensures.left))
    (unmade_untold (merged_name c.args.run c.args.self.now) (g.S.Store.history c.args.self.now.store) (g.S.Store.history c.merge_job.new.self.store) c.in-Err.ensures.unmade untold)
