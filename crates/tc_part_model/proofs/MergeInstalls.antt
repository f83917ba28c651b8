-- A merge is installed, over one disk and one file of each log: its component is listed in place of its run.
use Rattle.std.proofs.Common.{◌≡◌, ◌≢◌, ◌+◌, ℕ, List, length, refl, sym, ap, ◌∙◌, subst, arith, inl, inr, Option, Some, None, false, true}
use Rattle.std.proofs.Math.Path.{fun_ext}
use Rattle.std.proofs.lemmas.Bool.{false≢true}
use Rattle.tc_store.specs.declared.file_name.FileName.{FileName}
use Rattle.tc_store.specs.declared.file_name.FileName.TheVariants.{Component, Log}
use Rattle.tc_store.specs.Disk.{Disk, is_out, out, still}
use Rattle.tc_store.specs.DiskFile.{DiskFile}
use Rattle.tc_store.specs.Images.{Image}
use Rattle.tc_component.specs.Rows.{IsComponent}
use Rattle.tc_lsm_model.specs.Merges.{swapped}
use Rattle.tc_machine.specs.Components.{file_of}
use Rattle.tc_machine.specs.Events.{merge_installed, step}
use Rattle.tc_machine.specs.Kept.{IsKept, IsMemoryKept}
use Rattle.tc_machine.specs.State.{Flushing, Merging, Sealed, flush_name}
use Rattle.tc_machine.specs.Steps.{IsFlushed, IsShutOrHas}
use Rattle.tc_lsm_model.proofs.MergeLaws.{Replaces, swapped_replaces}
use Rattle.tc_machine.proofs.Events.{event_keeps}
use Rattle.tc_machine.proofs.InstallSteps.{IsFlush-same}
use Rattle.tc_machine.proofs.Rebasing.{rebased_is_kept}
use Rattle.tc_part_model.specs.Changes.{merged_part}
use Rattle.tc_part_model.specs.PartFiles.{AreKeptAt, FlushLeaves, IsDevice, device_at, files_at, seen_entry}
use Rattle.tc_part_model.specs.PartView.{PartView, generation_of, state_of, state_with}
use Rattle.tc_part_model.proofs.DeviceFiles.{job_empty, other_leaves, same_without, without_job}

-- a part whose merge is out
abbrev pub merged_soon : PartView → Merging → PartView
merged_soon p m = record p { merge = Some m }

module _ (p : PartView) (m : Merging) (memory : IsMemoryKept p.part (state_of (merged_soon p m))) where
  pub replaces : Replaces p.part p.list (swapped m.run m.target p.list) m.target
  replaces = swapped_replaces p.part m.run p.list m.target memory.list memory.merge.is_merge

  abbrev pub merged : PartView
  merged = merged_part (merged_soon p m)

  pub merged_active : generation_of merged ≡ generation_of (merged_soon p m)
  merged_active = omega (arith, replaces.last)

  -- what a flush makes behind the new list it makes behind the old one
  flushed_behind : (sealed : Option Sealed) (image : Image) → IsShutOrHas (IsFlushed p.part (swapped m.run m.target p.list) sealed) image → IsShutOrHas (IsFlushed p.part p.list sealed) image
  flushed_behind sealed None is = tt
  flushed_behind sealed (Some b) (inl shut) = inl shut
  flushed_behind None (Some b) (inr is) = absurd is
  flushed_behind (Some d) (Some b) (inr is) =
      inr (is.0, IsFlush-same p.part (swapped m.run m.target p.list) p.list d.table (length d.logs) is.0 (sym replaces.names) (sym replaces.last) (sym replaces.live) is.1, is.2)

  module _ (disk : Disk) (f g : DiskFile) (bytes : List ℕ) (k : AreKeptAt (merged_soon p m) false None disk f g) (there : disk (file_of m.target) ≡ still bytes) (whole : IsComponent m.target bytes) where
    abbrev files : (FileName → DiskFile) → Disk
    files job = files_at (merged_soon p m) disk f g job

    flush_leaves : (job : FileName → DiskFile) (o : Option Flushing) → FlushLeaves merged o job → FlushLeaves (merged_soon p m) o (without_job (file_of m.target) job)
    flush_leaves job None leaves = tt
    flush_leaves job (Some j) leaves = other_leaves (IsFlushed p.part p.list p.sealed) (file_of m.target) (flush_name j) job (λ image left. flushed_behind p.sealed image (leaves image left))

    installed : (job : FileName → DiskFile) → FlushLeaves merged p.flush job → IsKept p.part (state_with merged false None (files job))
    installed job leaves =
        let s = state_with (merged_soon p m) false None (files job) in
        rebased_is_kept p.part (step merge_installed s) (event_keeps p.part s merge_installed
        (subst (λ fs. IsKept p.part (state_with (merged_soon p m) false None fs)) (same_without (merged_soon p m) disk f g (file_of m.target) bytes there job)
        (k.kept (without_job (file_of m.target) job) (flush_leaves job p.flush leaves, job_empty (IsComponent m.target) (file_of m.target) job)))
        (record { merging = m; is_out = refl; still = (bytes, ap (seen_entry (device_at (merged_soon p m) f g job (file_of m.target))) there, whole) }))

    after_devices : (name : FileName) → file_of m.target ≢ name → IsDevice (merged_soon p m) name → IsDevice merged name
    after_devices (Log n) apart (inl active) = inl (active ∙ sym merged_active)
    after_devices (Log n) apart (inr sealed) = inr (sealed.0, sealed.1 ∙ ap (λ l. l + 1) (sym replaces.last))
    after_devices (Component from to) apart (inl job) = inl job
    after_devices (Component from to) apart (inr job) = absurd (apart (ap (λ n. Component n m.target.to) (sym job.0) ∙ ap (λ n. Component from n) (sym job.1)))

    not_out : (name : FileName) → is_out (disk name) ≡ true → file_of m.target ≢ name
    not_out name held same = absurd (false≢true (ap is_out (sym there) ∙ ap (λ n. is_out (disk n)) same ∙ held))

    after_files : (job : FileName → DiskFile) → files job ≡ files_at merged disk f g job
    after_files job = fun_ext λ n. rw replaces.last refl

    pub merged_keeps : AreKeptAt merged false None disk f g
    merged_keeps = record {
      log_out = subst (λ n. disk (Log n) ≡ out) (sym merged_active) k.log_out;
      sealed_out = λ some. subst (λ l. disk (Log (l + 1)) ≡ out) (sym replaces.last) (k.sealed_out some);
      devices = λ name held. after_devices name (not_out name held) (k.devices name held);
      kept = λ job leave. subst (λ fs. IsKept p.part (state_with merged false None fs)) (after_files job) (installed job leave.0);
    }
