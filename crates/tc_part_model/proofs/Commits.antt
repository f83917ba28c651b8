-- A commit, over one disk and one file of each log: the frame is started, the device is called, and the frame is committed.
use Rattle.std.proofs.Common.{◌++◌, refl, sym, subst, inl, inr, Some, None, false, true}
use Rattle.std.specs.Prelude.{map}
use Rattle.tc_store.specs.declared.file_name.FileName.{FileName}
use Rattle.tc_store.specs.Disk.{Disk, MayLeaveAt}
use Rattle.tc_store.specs.DiskFile.{DiskFile, IsSettled}
use Rattle.tc_store.specs.Images.{Image, IsImageOf}
use Rattle.tc_store.specs.Moments.{LeavesAt}
use Rattle.tc_store.proofs.GateLemmas.{settled_leaves}
use Rattle.tc_log.specs.Spelling.{Means}
use Rattle.tc_machine.specs.Events.{device_called, frame_committed, frame_started}
use Rattle.tc_machine.specs.Kept.{IsKept}
use Rattle.tc_machine.specs.Logs.{IsLog, LeavesLog, kept_write, log_head}
use Rattle.tc_machine.specs.Steps.{LeavesWithOrWithout, nothing_held}
use Rattle.tc_machine.proofs.Beside.{picture_beside_recovers}
use Rattle.tc_machine.proofs.Events.{event_keeps}
use Rattle.tc_machine.proofs.RunSteps.{part_failed_keeps}
use Rattle.tc_part_model.specs.PartView.{PartView, state_with, generation_of, MayStart}
use Rattle.tc_part_model.specs.PartFiles.{AreKeptAt, JobsLeave, active_name, files_at, no_job}
use Rattle.tc_part_model.specs.Changes.{committed_part}
use Rattle.tc_part_model.specs.Leaving.{LeavesStore}
use Rattle.tc_part_model.proofs.DeviceFiles.{no_job_leaves, put_active, seen_active}

module _ (p : PartView) (disk : Disk) (f g : DiskFile) (k : AreKeptAt p false None disk f g) where
  log_leaves : LeavesAt (LeavesLog p.part (generation_of p) p.active.writes) f
  log_leaves image may = (k.kept no_job (no_job_leaves p)).files.active_log image (subst (λ e. MayLeaveAt (nothing_held (active_name p)) e image) (sym (seen_active p disk f g no_job k.log_out)) may)

  -- what the log means before the call
  pub means_now : IsImageOf f f.content → Means f.content (log_head p.part (generation_of p)) (map kept_write p.active.writes)
  means_now stays = log_leaves (Some f.content) (inl stays)

  without_frame : (image : Image) → LeavesLog p.part (generation_of p) p.active.writes image → LeavesWithOrWithout p.part (generation_of p) p.active.writes p.staged image
  without_frame None is = is
  without_frame (Some b) is = inl is

  with_frame : (image : Image) → LeavesLog p.part (generation_of p) (p.active.writes ++ p.staged) image → LeavesWithOrWithout p.part (generation_of p) p.active.writes p.staged image
  with_frame None is = is
  with_frame (Some b) is = inr is

  module _ (start : MayStart p) where
    -- after a call that leaves the log without the frame or with it
    called : (new : DiskFile) → LeavesAt (LeavesWithOrWithout p.part (generation_of p) p.active.writes p.staged) new → (job : FileName → DiskFile) → JobsLeave p job
        → IsKept p.part (state_with p false (Some p.staged) (files_at p disk new g job))
    called new leaves job leave =
        let started : IsKept p.part (state_with p false (Some p.staged) (files_at p disk f g job)) =
        event_keeps p.part (state_with p false None (files_at p disk f g job)) (frame_started p.staged) (k.kept job leave)
        (record { running = refl; none = refl; each = start.each; room = start.room; few = start.few }) in
        subst (λ fs. IsKept p.part (state_with p false (Some p.staged) fs)) (put_active p disk f new g job k.log_out)
        (event_keeps p.part (state_with p false (Some p.staged) (files_at p disk f g job)) (device_called (active_name p) new) started (record {
          old = f;
          home = seen_active p disk f g job k.log_out;
          may = inl (record { active = p.active; is_active = refl; frame = p.staged; is_frame = refl; named = refl; leaves = leaves });
        }))

    pub moment_leaves : (new : DiskFile) → LeavesAt (LeavesWithOrWithout p.part (generation_of p) p.active.writes p.staged) new → LeavesStore p (Some p.staged) no_job disk g new
    moment_leaves new leaves picture beside =
        picture_beside_recovers p.part (state_with p false (Some p.staged) (files_at p disk new g no_job)) picture (called new leaves no_job (no_job_leaves p)) beside

    -- the call failed
    pub failed_keeps : (new : DiskFile) → LeavesAt (LeavesWithOrWithout p.part (generation_of p) p.active.writes p.staged) new → AreKeptAt p true (Some p.staged) disk new g
    failed_keeps new leaves = record {
      log_out = k.log_out;
      sealed_out = k.sealed_out;
      devices = k.devices;
      kept = λ job leave. part_failed_keeps p.part (state_with p false (Some p.staged) (files_at p disk new g job)) (called new leaves job leave);
    }

    -- or nothing was called
    pub uncalled_keeps : AreKeptAt p true (Some p.staged) disk f g
    uncalled_keeps = failed_keeps f (λ image may. without_frame image (log_leaves image may))

    module _ (new : DiskFile) (settled : IsSettled new) (means : IsLog p.part (generation_of p) (p.active.writes ++ p.staged) new.content) where
      whole : LeavesAt (LeavesLog p.part (generation_of p) (p.active.writes ++ p.staged)) new
      whole = subst (λ x. LeavesAt (LeavesLog p.part (generation_of p) (p.active.writes ++ p.staged)) x) (sym settled) (settled_leaves new.content (LeavesLog p.part (generation_of p) (p.active.writes ++ p.staged)) means)

      pub commit_keeps : AreKeptAt (committed_part p) false None disk new g
      commit_keeps = record {
        log_out = k.log_out;
        sealed_out = k.sealed_out;
        devices = k.devices;
        kept = λ job leave.
            event_keeps p.part (state_with p false (Some p.staged) (files_at p disk new g job)) frame_committed (called new (λ image may. with_frame image (whole image may)) job leave)
            (record { active = p.active; is_active = refl; frame = p.staged; is_frame = refl; durable = (new, seen_active p disk new g job k.log_out, whole) });
      }
