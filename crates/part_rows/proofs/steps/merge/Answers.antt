use Rattle.std.proofs.Common.{◌≡◌, ◌∙◌, ◌<◌, ◌^◌, ℕ, refl, sym, ap, subst, length, false, Some, None}
use Rattle.std.specs.Prelude.{is_some}
use Rattle.tc_store.specs.DiskFile.{DiskFile, settled_file}
use Rattle.tc_store.specs.Memory.Device.{device_files}
use Rattle.tc_store.specs.Memory.Store.{store_disks}
use Rattle.tc_list.specs.declared.run.Run.{Run}
use Rattle.tc_list.specs.Runs.{neighbours}
use Rattle.tc_part.specs.MergeEnds.{merged_name, run_out}
use Rattle.part_rows.specs.Standing.{MemPart}
use Rattle.part_rows.proofs.JobEnds.{ends_in_err, merge_ended}
use Rattle.part_rows.proofs.Parts.{at_desk, ends_well, fails, fails_by, on_err, same_wait}
use Rattle.part_rows.proofs.ToldFiles.{all_told, files_told, settled_told}
use Rattle.part_rows.proofs.steps.merge.Goals as goal

pub begin_merge-requires-clause-own : goal.begin_merge-requires-clause-own
begin_merge-requires-clause-own c κs = let m = c.requires.desk.means c.requires.standing c.requires.sound in c.parts_own_files.ensures.part _ m.0 m.1

pub returns-in_err-job : goal.returns-in_err-job
returns-in_err-job c = fails c.args.part.now c.begin_merge.new.self c.args.waiting c.args.waiting c.args.stands c.requires.desk (fails_by c.args.part.now c.begin_merge.new.self _ refl refl refl refl c.in_err-job.ensures.left)

pub finish_merge-requires-clause-out : goal.finish_merge-requires-clause-out
finish_merge-requires-clause-out c κs = ap (λ (s : MemPart). is_some s.merging) c.in_ok-job.ensures.begins.same

pub finish_merge-requires-clause-name : goal.finish_merge-requires-clause-name
finish_merge-requires-clause-name c κs =
    c.run-out.ensures.name ∙ c.in_ok-job.ensures.begins.name ∙ sym (ap (λ (s : MemPart). merged_name c.args.run s) c.in_ok-job.ensures.begins.same) ∙ sym (ap (λ (r : Run). merged_name r c.begin_merge.new.self) c.in_ok-job.ensures.begins.out)

pub finish_merge-requires-clause-settled : goal.finish_merge-requires-clause-settled
finish_merge-requires-clause-settled c κs = λ well. settled_told (device_files c.run-out.result.device) _ (c.run-out.ensures.whole well (files_told c.in_ok-job.job.run))

pub returns : goal.returns
returns c =
    let old = c.args.part.now in
    let begun = c.begin_merge.new.self in
    let new = c.finish_merge.new.self in
    let m = c.requires.desk.means c.requires.standing c.requires.sound in
    let device = c.run-out.result.device in
    let same = c.in_ok-job.ensures.begins.same in
    let sound : begun.failed ≡ false = ap (λ (s : MemPart). s.failed) same ∙ c.requires.sound in
    let merged = c.run-out.ensures.merged _ (c.in_ok-job.ensures.begins.loaded m.0 m.1 (all_told old.list)) in
    let content = c.jobs_have_made.ensures.merge _ m.0 (neighbours c.args.run) merged.0 m.1 merged.1 in
    at_desk c.finish_merge.result old new c.args.waiting c.args.waiting c.args.stands c.requires.desk
    (ends_well c.finish_merge.result c.run-out.result.outcome _ _ _ _ sound c.finish_merge.ensures.unmade (λ cause failed. ends_in_err _ _ (failed.unmade sound).0) c.finish_merge.ensures.listed (λ well lists.
    let settled = c.run-out.ensures.whole well (files_told c.in_ok-job.job.run) ∙ ap settled_file (sym merged.3) in
    let short = subst (λ (n : ℕ). n < 2 ^ 63) (ap length device.replayed ∙ ap (λ (f : DiskFile). length f.content) settled) (c.run-out.ensures.size well) in
    let made = c.jobs_have_made.ensures.made merged.0 (store_disks begun.store) (device_files device) content merged.2 short tt settled in
    record {
      jobs = record {
        flushing = ap (λ (s : MemPart). s.flushing) lists.same ∙ ap (λ (s : MemPart). s.flushing) same;
        merging = ap (λ (s : MemPart). s.merging) lists.same ∙ sym c.requires.desk.no_merge;
        reader = ap (λ (s : MemPart). s.reader) lists.same ∙ ap (λ (s : MemPart). s.reader) same;
      };
      means = λ standing. (_, (lists.merged _ _ (c.in_ok-job.ensures.begins.begun m.0 merged.0 m.1 merged.1).0 refl made (all_told begun.list)).0);
      waits = same_wait old new _ c.args.waiting lists.same (ap (λ (s : MemPart). s.staged) same) (c.requires.desk.staged c.requires.sound);
    }))
    (on_err c.finish_merge.result _ _ c.finish_merge.ensures.left (λ left. record {
      jobs =
          let jobs = merge_ended (device_files device) (run_out begun) (record begun { merger = Some c.run-out.result.watch; merging = None }) new left.1 in
          record { flushing = jobs.flushing ∙ ap (λ (s : MemPart). s.flushing) same; merging = jobs.merging ∙ sym c.requires.desk.no_merge; reader = jobs.reader ∙ ap (λ (s : MemPart). s.reader) same };
      failed = left.0;
    }))
