-- The device of a job that was just made, and as the job leaves it: absent, closed, or what the job makes.
use Rattle.std.proofs.Common.{◌≡◌, ◌∙◌, ◌≤◌, ◌<◌, ◌+◌, ◌-◌, ℕ, List, [], ◌∷◌, ◌++◌, length, refl, sym, ap, subst, inl, inr, arith, Option, Some, None, false, is_some}
use Rattle.std.specs.Prelude.{◌^◌, All, option_map}
use Rattle.std.proofs.lemmas.List.Elements.{All-head}
use Rattle.tc_store.specs.declared.file_name.FileName.{FileName}
use Rattle.tc_store.specs.declared.file_name.FileName.TheVariants.{Component}
use Rattle.tc_store.specs.Disk.{Disk, IsThere, MayLeaveAt, none, removed_of}
use Rattle.tc_store.specs.DiskFile.{DiskFile, empty_file}
use Rattle.tc_store.specs.Gate.{IsShutOrWhole}
use Rattle.tc_store.specs.Images.{Image, MayLeave}
use Rattle.tc_store.specs.Moments.{IfTold, LeavesAt, LeavesOnly}
use Rattle.tc_store.specs.StoreCalls.{fresh_file_at}
use Rattle.tc_store.proofs.NameLemmas.{put_there}
use Rattle.tc_memory.specs.Table as memory
use Rattle.tc_component.specs.Rows.{IsComponent}
use Rattle.tc_lsm_model.specs.Contents.{Content}
use Rattle.tc_lsm_model.specs.Lists.{last_of}
use Rattle.tc_lsm_model.specs.Merges.{IsMerge, Run, in_run}
use Rattle.tc_machine.specs.Components.{file_of}
use Rattle.tc_machine.specs.Events.{flush_begun, made, merge_begun}
use Rattle.tc_machine.specs.State.{Flushing, Merging, Sealed, flush_name, flushing_of, sealed_logs}
use Rattle.tc_machine.specs.Steps.{IsFlushed, IsShutOrHas, nothing_held}
use Rattle.tc_machine.proofs.Events.{event_keeps}
use Rattle.tc_machine.proofs.FreeNames.{none_there}
use Rattle.tc_part.proofs.FreshFiles.{before_in}
use Rattle.tc_part_model.specs.Meaning.{IsPart}
use Rattle.tc_part_model.specs.PartFiles.{AreKeptAt, IfFiles, device_at, files_at, no_job, seen_entry}
use Rattle.tc_part_model.specs.PartState.{Told, IsTold}
use Rattle.tc_part_model.specs.PartView.{PartView, state_of, state_with}
use Rattle.tc_part_model.proofs.Beginnings.{flush_free, merge_free}
use Rattle.tc_part_model.proofs.BegunParts.{sealed_found}
use Rattle.tc_part_model.proofs.DeviceFiles.{no_job_leaves, some_sealed}

-- ---- a file that was just made, over one disk and one file of each log

module _ (p : PartView) (disk : Disk) (f g : DiskFile) (k : AreKeptAt p false None disk f g) where
  -- where its name was free, what may be left of it is what the state in which the job is out says
  left_of_made : (name : FileName) (image : Image) → (IsThere (disk name) → ⊥) → MayLeave (empty_file (removed_of (disk name))) image → MayLeaveAt (nothing_held name) (made (files_at p disk f g no_job name)) image
  left_of_made name image free left =
      let absent = none_there (disk name) free in
      subst (λ e. MayLeaveAt (nothing_held name) (made e) image) (sym (ap (seen_entry (device_at p f g no_job name)) absent.1))
      (subst (λ e. MayLeave (empty_file (removed_of e)) image) absent.1 left)

  seen_free : (name : FileName) → (IsThere (disk name) → ⊥) → (before : Option (List ℕ)) × (files_at p disk f g no_job name ≡ none before)
  seen_free name free =
      let absent = none_there (disk name) free in
      (absent.0, ap (seen_entry (device_at p f g no_job name)) absent.1)

  pub fresh_flush : (d : Sealed) → p.sealed ≡ Some d → p.flush ≡ None → LeavesAt (IsShutOrHas (IsFlushed p.part p.list p.sealed)) (empty_file (removed_of (disk (flush_name (flushing_of (state_of p))))))
  fresh_flush d sealed none_out image left =
      let name = flush_name (flushing_of (state_of p)) in
      let files = files_at p disk f g no_job in
      let free = flush_free p disk f g k d sealed none_out in
      let absent = seen_free name free in
      let begun = event_keeps p.part (state_with p false None files) flush_begun (k.kept no_job (no_job_leaves p)) (record { sealed = d; is_sealed = sealed; none_out = none_out; sound = refl; before = absent.0; absent = absent.1 }) in
      begun.files.flush_file image (subst (λ e. MayLeaveAt (nothing_held name) e image) (sym (put_there name (made (files name)) files)) (left_of_made name image free left))

  pub fresh_merge : (run : Run) (c : Content) → 2 ≤ run.length → run.first + run.length ≤ length p.list → IsMerge (in_run run p.list) c → p.merge ≡ None → LeavesAt (IsShutOrHas (IsComponent c)) (empty_file (removed_of (disk (file_of c))))
  fresh_merge run c two within is_merge none_out image left =
      let name = file_of c in
      let files = files_at p disk f g no_job in
      let free = merge_free p disk f g k run c two within is_merge none_out in
      let absent = seen_free name free in
      let begun = event_keeps p.part (state_with p false None files) (merge_begun run c) (k.kept no_job (no_job_leaves p)) (record { none_out = none_out; sound = refl; two = two; within = within; is_merge = is_merge; before = absent.0; absent = absent.1 }) in
      begun.files.merge_file image (subst (λ e. MayLeaveAt (nothing_held name) e image) (sym (put_there name (made (files name)) files)) (left_of_made name image free left))

-- ---- where it is told

-- what each disk of a part says of the file that is made under a name, the device of it tells
fresh_at : (t : Told) (p : PartView) (name : FileName) (P : DiskFile → Type 0) → IsPart t p → ((disk : Disk) (f g : DiskFile) → AreKeptAt p false None disk f g → P (empty_file (removed_of (disk name)))) → IfTold (fresh_file_at name t.disks) P
fresh_at t p name P is each = at t.disks t.log is.tells.active is.files.kept
  where
    at : (disks : List Disk) (log : List DiskFile) → IfTold disks (λ disk. IsTold log) → IfFiles disks log t.sealed_log (AreKeptAt p false None) → IfTold (fresh_file_at name disks) P
    at [] log tells kept = tt
    at (disk ∷ before) [] tells kept = absurd tells
    at (disk ∷ before) (f ∷ past) tells kept = let any = some_sealed t.sealed_log in each disk f any.0 (kept any.0 any.1)

pub fresh_flush_told : (t : Told) (p : PartView) (kept : memory.Table) → IsPart t p → t.sealed ≡ Some kept → t.flushing ≡ false
    → IfTold (fresh_file_at (Component (t.generation - 1) (t.generation - 1)) t.disks) (LeavesAt (IsShutOrHas (IsFlushed p.part p.list p.sealed)))
fresh_flush_told t p kept is sealed in_store =
    let found = sealed_found t p is kept sealed in
    let one : length (sealed_logs p.sealed) ≡ 1 = ap (λ o. length (sealed_logs o)) found.1 ∙ found.2 in
    let named : flush_name (flushing_of (state_of p)) ≡ Component (t.generation - 1) (t.generation - 1) =
    ap (λ n. Component n (last_of p.list + length (sealed_logs p.sealed))) (omega (arith, is.view.generation, one)) ∙ ap (λ n. Component (t.generation - 1) n) (omega (arith, is.view.generation, one)) in
    subst (λ name. IfTold (fresh_file_at name t.disks) (LeavesAt (IsShutOrHas (IsFlushed p.part p.list p.sealed)))) named
    (fresh_at t p (flush_name (flushing_of (state_of p))) (LeavesAt (IsShutOrHas (IsFlushed p.part p.list p.sealed))) is
    (λ disk f g k. fresh_flush p disk f g k found.0 found.1 (none_out p.flush (sym is.view.flushing ∙ in_store))))
  where
    none_out : (o : Option Flushing) → is_some o ≡ false → o ≡ None
    none_out None is = refl
    none_out (Some f) is = absurd (cc)

pub none_out : (o : Option Merging) → option_map (λ m. m.run) o ≡ None → o ≡ None
none_out None is = refl
none_out (Some m) is = absurd (cc)

pub fresh_merge_told : (t : Told) (p : PartView) (run : Run) (c : Content) → IsPart t p → 2 ≤ run.length → run.first + run.length ≤ length p.list → IsMerge (in_run run p.list) c → t.merging ≡ None
    → IfTold (fresh_file_at (file_of c) t.disks) (LeavesAt (IsShutOrHas (IsComponent c)))
fresh_merge_told t p run c is two within is_merge in_store =
    fresh_at t p (file_of c) (LeavesAt (IsShutOrHas (IsComponent c))) is (λ disk f g k. fresh_merge p disk f g k run c two within is_merge (none_out p.merge (sym is.view.merging ∙ in_store)))

-- ---- as the job leaves it

came_back : (name : FileName) (disks : List Disk) (P : List ℕ → Type 0) → IfTold (fresh_file_at name disks) (LeavesAt (IsShutOrHas P)) → (b : List ℕ) → before_in name disks ≡ Some b → IsShutOrHas P (Some b)
came_back name [] P leaves b is = absurd (cc)
came_back name (disk ∷ past) P leaves b is = leaves (Some b) (inr is)

-- A job whose device was just made, and that leaves nothing but what was before, a closed file, or the whole one, leaves what it
-- may leave, where the whole one is that.
pub ran_leaves : (name : FileName) (disks : List Disk) (P : List ℕ → Type 0) (whole : List ℕ) (new : List DiskFile) → IfTold (fresh_file_at name disks) (LeavesAt (IsShutOrHas P))
    → LeavesOnly (IsShutOrWhole (before_in name disks) whole) (fresh_file_at name disks) new → (length whole < 2 ^ 63 → P whole) → IfTold new (LeavesAt (IsShutOrHas P))
ran_leaves name disks P whole new fresh since has = subst (λ fs. IfTold fs (LeavesAt (IsShutOrHas P))) (sym since.goes_on) (at since.added since.each)
  where
    over : (image : Image) → IsShutOrWhole (before_in name disks) whole image → IsShutOrHas P image
    over None is = tt
    over (Some b) (inl shut) = inl shut
    over (Some b) (inr (inl was)) = came_back name disks P fresh b was
    over (Some b) (inr (inr is)) = inr (subst P (sym is.same) (has (subst (λ (bytes : List ℕ). length bytes < 2 ^ 63) is.same is.short)))

    at : (added : List DiskFile) → All (LeavesAt (IsShutOrWhole (before_in name disks) whole)) added → IfTold (added ++ fresh_file_at name disks) (LeavesAt (IsShutOrHas P))
    at [] each = fresh
    at (x ∷ xs) each = λ image left. over image (All-head (LeavesAt (IsShutOrWhole (before_in name disks) whole)) x xs each image left)
