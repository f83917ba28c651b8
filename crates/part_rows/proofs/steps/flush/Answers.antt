use Rattle.std.proofs.Common.{◌≡◌, ◌∙◌, ◌-◌, ◌<◌, ◌^◌, ℕ, refl, sym, ap, subst, length, false, Some}
use Rattle.tc_store.specs.DiskFile.{DiskFile, settled_file}
use Rattle.tc_store.specs.declared.file_name.FileName.TheVariants.{Component}
use Rattle.tc_store.specs.Memory.Device.{device_files}
use Rattle.tc_store.specs.Memory.Store.{store_disks}
use Rattle.part_rows.specs.Standing.{MemPart}
use Rattle.part_rows.proofs.JobEnds.{ends_in_err, flush_ended}
use Rattle.part_rows.proofs.Parts.{at_desk, ends_well, fails, fails_by, on_err, same_wait}
use Rattle.part_rows.proofs.ToldFiles.{all_told, settled_told}
use Rattle.part_rows.proofs.steps.flush.Goals as goal

pub begin_flush-requires-clause-own : goal.begin_flush-requires-clause-own
begin_flush-requires-clause-own c κs = let m = c.requires.desk.means c.requires.standing c.requires.sound in c.parts_own_files.ensures.part _ m.0 m.1

pub returns-in_err-job : goal.returns-in_err-job
returns-in_err-job c = fails c.args.part.now c.begin_flush.new.self c.args.waiting c.args.waiting c.args.stands c.requires.desk (fails_by c.args.part.now c.begin_flush.new.self _ refl refl refl refl c.in_err-job.ensures.left)

pub finish_flush-requires-clause-name : goal.finish_flush-requires-clause-name
finish_flush-requires-clause-name c κs = c.run-out.ensures.name ∙ c.in_ok-job.ensures.begins.name ∙ ap (λ (s : MemPart). Component (s.generation - 1) (s.generation - 1)) (sym c.in_ok-job.ensures.begins.same)

pub finish_flush-requires-clause-settled : goal.finish_flush-requires-clause-settled
finish_flush-requires-clause-settled c κs = λ well.
    let m = c.requires.desk.means c.requires.standing c.requires.sound in
    let behind = c.in_ok-job.ensures.begins.behind m.0 m.1 (all_told c.args.part.now.list) in
    settled_told (device_files c.run-out.result.device) _ (c.run-out.ensures.whole well behind.sealed.table behind.behind.of)

pub returns : goal.returns
returns c =
    let old = c.args.part.now in
    let begun = c.begin_flush.new.self in
    let new = c.finish_flush.new.self in
    let m = c.requires.desk.means c.requires.standing c.requires.sound in
    let job = c.in_ok-job.job in
    let device = c.run-out.result.device in
    let same = c.in_ok-job.ensures.begins.same in
    let sound : begun.failed ≡ false = ap (λ (s : MemPart). s.failed) same ∙ c.requires.sound in
    let behind = c.in_ok-job.ensures.begins.behind m.0 m.1 (all_told old.list) in
    let flushed = c.run-out.ensures.flushed m.0.list behind.sealed.table 1 behind.behind in
    let makes = c.sealed_tables_can_flush.ensures.makes m.0 job.head job.names job.schema job.kept flushed.0 behind flushed.1 in
    let content = c.jobs_have_made.ensures.flush _ m.0 job.kept flushed.0 m.1 (sym c.in_ok-job.ensures.begins.table) makes in
    at_desk c.finish_flush.result old new c.args.waiting c.args.waiting c.args.stands c.requires.desk
    (ends_well c.finish_flush.result c.run-out.result.outcome _ _ _ _ sound c.finish_flush.ensures.unmade (λ cause failed. ends_in_err _ _ (failed.unmade sound).0) c.finish_flush.ensures.listed (λ well lists.
    let settled = c.run-out.ensures.whole well behind.sealed.table behind.behind.of ∙ ap settled_file (sym flushed.3) in
    let short = subst (λ (n : ℕ). n < 2 ^ 63) (ap length device.replayed ∙ ap (λ (f : DiskFile). length f.content) settled) (c.run-out.ensures.size well) in
    let made = c.jobs_have_made.ensures.made flushed.0 (store_disks begun.store) (device_files device) content flushed.2 short tt settled in
    record {
      jobs = record {
        flushing = ap (λ (s : MemPart). s.flushing) lists.same ∙ sym c.requires.desk.no_flush;
        merging = ap (λ (s : MemPart). s.merging) lists.same ∙ ap (λ (s : MemPart). s.merging) same;
        reader = ap (λ (s : MemPart). s.reader) lists.same ∙ ap (λ (s : MemPart). s.reader) same;
      };
      means = λ standing. (_, (lists.flushed _ flushed.0 (c.in_ok-job.ensures.begins.begun m.0 m.1).0 makes made).0);
      waits = same_wait old new _ c.args.waiting lists.same (ap (λ (s : MemPart). s.staged) same) (c.requires.desk.staged c.requires.sound);
    }))
    (on_err c.finish_flush.result _ _ c.finish_flush.ensures.left (λ left. record {
      jobs =
          let jobs = flush_ended (device_files device) (record begun { flusher = Some c.run-out.result.watch; flushing = false }) new left.1 in
          record { flushing = jobs.flushing ∙ sym c.requires.desk.no_flush; merging = jobs.merging ∙ ap (λ (s : MemPart). s.merging) same; reader = jobs.reader ∙ ap (λ (s : MemPart). s.reader) same };
      failed = left.0;
    }))
