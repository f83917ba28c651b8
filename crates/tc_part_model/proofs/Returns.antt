-- The device of a job comes home, over one disk and one file of each log: as it is, or frozen.
use Rattle.std.proofs.Common.{◌≡◌, ℕ, Bool, List, refl, sym, ap, ◌∙◌, subst, inl, inr, Option, Some, false, true}
use Rattle.std.proofs.lemmas.Bool.{false≢true}
use Rattle.tc_store.specs.declared.file_name.FileName.{FileName}
use Rattle.tc_store.specs.declared.file_name.FileName.TheVariants.{Component}
use Rattle.tc_store.specs.Disk.{Disk, Entry, home, is_out, out, put, still, taken}
use Rattle.tc_store.specs.DiskFile.{DiskFile, settled_file}
use Rattle.tc_store.specs.Moments.{LeavesAt}
use Rattle.tc_store.proofs.NameLemmas.{put_there}
use Rattle.tc_plain_model.specs.Writes.{Write}
use Rattle.tc_component.specs.Rows.{IsComponent}
use Rattle.tc_machine.specs.Components.{file_of}
use Rattle.tc_machine.specs.Events.{device_called, file_frozen}
use Rattle.tc_machine.specs.Kept.{IsKept}
use Rattle.tc_machine.specs.State.{Flushing, Merging, flush_name}
use Rattle.tc_machine.specs.Steps.{IsFlushed, IsShutOrHas, MayCall}
use Rattle.tc_machine.proofs.Events.{event_keeps}
use Rattle.tc_machine.proofs.FilesLeft.{at_name}
use Rattle.tc_machine.proofs.Moments.{put_twice}
use Rattle.tc_part_model.specs.PartFiles.{AreKeptAt, IsDevice, JobsLeave, device_at, files_at, seen_entry}
use Rattle.tc_part_model.specs.PartView.{PartView, state_with}
use Rattle.tc_part_model.proofs.DeviceFiles.{put_seen}

-- a call of a job's device
abbrev pub JobCalls : PartView → FileName → DiskFile → Type 0
JobCalls p name x = (failed : Bool) (frame : Option (List Write)) (files : Disk) → MayCall p.part (state_with p failed frame files) name x

pub flush_calls : (p : PartView) (j : Flushing) (x : DiskFile) → p.flush ≡ Some j → LeavesAt (IsShutOrHas (IsFlushed p.part p.list p.sealed)) x → JobCalls p (flush_name j) x
flush_calls p j x is leaves failed frame files = inr (inr (inl (record { flushing = j; is_out = is; named = refl; leaves = leaves })))

pub merge_calls : (p : PartView) (m : Merging) (x : DiskFile) → p.merge ≡ Some m → LeavesAt (IsShutOrHas (IsComponent m.target)) x → JobCalls p (file_of m.target) x
merge_calls p m x is leaves failed frame files = inr (inr (inr (record { merging = m; is_out = is; named = refl; leaves = leaves })))

module _ (p : PartView) (failed : Bool) (frame : Option (List Write)) (disk : Disk) (f g : DiskFile) (k : AreKeptAt p failed frame disk f g) (from to : ℕ) (is : disk (Component from to) ≡ out) where
  called : (x : DiskFile) → JobCalls p (Component from to) x → (job : FileName → DiskFile) → JobsLeave p job
      → IsKept p.part (state_with p failed frame (put (Component from to) (home x) (files_at p disk f g job)))
  called x calls job leave =
      event_keeps p.part (state_with p failed frame (files_at p disk f g job)) (device_called (Component from to) x) (k.kept job leave) (record {
        old = job (Component from to);
        home = ap (seen_entry (device_at p f g job (Component from to))) is;
        may = calls failed frame (files_at p disk f g job);
      })

  devices_of : (e : Entry) → is_out e ≡ false → (name : FileName) → is_out (put (Component from to) e disk name) ≡ true → IsDevice p name
  devices_of e at_home name held =
      at_name (Component from to) name e disk (λ d. is_out d ≡ true → IsDevice p name) (λ same out_now. absurd (false≢true (sym at_home ∙ out_now))) (λ apart out_now. k.devices name out_now) held

  -- as it is
  pub home_keeps : (x : DiskFile) → JobCalls p (Component from to) x → AreKeptAt p failed frame (put (Component from to) (home x) disk) f g
  home_keeps x calls = record {
    log_out = k.log_out;
    sealed_out = k.sealed_out;
    devices = devices_of (home x) refl;
    kept = λ job leave. subst (λ fs. IsKept p.part (state_with p failed frame fs)) (sym (put_seen p (Component from to) (home x) disk f g job)) (called x calls job leave);
  }

  -- frozen
  pub still_keeps : (bytes : List ℕ) → JobCalls p (Component from to) (settled_file bytes) → AreKeptAt p failed frame (put (Component from to) (still bytes) disk) f g
  still_keeps bytes calls = record {
    log_out = k.log_out;
    sealed_out = k.sealed_out;
    devices = devices_of (still bytes) refl;
    kept = λ job leave.
        let x = settled_file bytes in
        let files = files_at p disk f g job in
        subst (λ fs. IsKept p.part (state_with p failed frame fs))
        (ap (λ e. put (Component from to) (taken e) (put (Component from to) (home x) files)) (put_there (Component from to) (home x) files)
        ∙ put_twice (Component from to) (home x) (still bytes) files ∙ sym (put_seen p (Component from to) (still bytes) disk f g job))
        (event_keeps p.part (state_with p failed frame (put (Component from to) (home x) files)) (file_frozen (Component from to)) (called x calls job leave)
        (record { file = x; home = put_there (Component from to) (home x) files; settled = refl }));
  }
