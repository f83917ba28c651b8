-- Pictures while jobs run by themselves.
use Rattle.std.proofs.Common.{List, ℕ, ◌≡◌, refl, sym, subst, inl, inr, Option, Some, None}
use Rattle.tc_plain_model.specs.Writes.{after_writes}
use Rattle.tc_lsm_model.specs.Contents.{Partition}
use Rattle.tc_store.specs.Disk.{Disk, MayLeaveAt, Picture, bytes_at, home, put}
use Rattle.tc_store.specs.DiskFile.{DiskFile, empty_file, settled_file}
use Rattle.tc_store.specs.Images.{Image}
use Rattle.tc_store.specs.Moments.{LeavesAt}
use Rattle.tc_store.specs.declared.file_name.FileName.{FileName}
use Rattle.tc_store.proofs.GateLemmas.{settled_leaves}
use Rattle.tc_component.specs.Rows.{IsComponent}
use Rattle.tc_machine.specs.Beside.{IsNotFlush, IsNotMerge, IsPictureBeside, LeavesFlush, LeavesMerge}
use Rattle.tc_machine.specs.Components.{file_of}
use Rattle.tc_machine.specs.Kept.{IsKept}
use Rattle.tc_machine.specs.Pictures.{Recovers}
use Rattle.tc_machine.specs.Sound.{IsWithOrWithout}
use Rattle.tc_machine.specs.State.{Flushing, Merging, State, flush_name, history, next_generation}
use Rattle.tc_machine.specs.Steps.{IsFlushed, IsOfFlush, IsOfMerge, IsShutOrHas, nothing_held}
use Rattle.tc_machine.proofs.DeviceSteps.{flush_called, merge_called, settled_image}
use Rattle.tc_machine.proofs.FilesLeft.{at_name}
use Rattle.tc_machine.proofs.FilesMade.{empty_image}
use Rattle.tc_machine.proofs.PictureLaws.{picture_recovers}
use Rattle.tc_machine.proofs.RunSteps.{with_one_file}
use Rattle.tc_machine.proofs.Targets.{file_not_log}

-- a file of which a stop may leave this image, and little else
abbrev file_for : Image → DiskFile
file_for None = empty_file None
file_for (Some b) = settled_file b

leaves_image : (name : FileName) (image : Image) → MayLeaveAt (nothing_held name) (home (file_for image)) image
leaves_image name None = refl
leaves_image name (Some b) = settled_image b

leaves_shut : (P : List ℕ → Type 0) (image : Image) → IsShutOrHas P image → LeavesAt (IsShutOrHas P) (file_for image)
leaves_shut P None shut None left = tt
leaves_shut P None shut (Some b) (inl is) = inl (empty_image None b is)
leaves_shut P None shut (Some b) (inr before) = absurd (cc)
leaves_shut P (Some b) shut image left = settled_leaves b (IsShutOrHas P) shut image left

-- the state whose flush has left this
flush_left : (part : Partition) (s : State) (picture : Picture) (o : Option Flushing) → s.flush ≡ o → IsKept part s → LeavesFlush part s o picture
    → (files : Disk) × IsKept part (record s { files = files })
    × ((name : FileName) → (IsNotFlush o name → MayLeaveAt (nothing_held name) (s.files name) (bytes_at picture name)) → MayLeaveAt (nothing_held name) (files name) (bytes_at picture name))
flush_left part s picture None is k leaves = (s.files, k, λ name other. other tt)
flush_left part s picture (Some j) is k leaves =
    let image : Image = bytes_at picture (flush_name j) in
    let f : DiskFile = file_for (bytes_at picture (flush_name j)) in (
      put (flush_name j) (home f) s.files,
      with_one_file part s (flush_name j) (home f) k (flush_called part s f j k.memory.list is k.memory.flush k.memory.merge k.files
          (leaves_shut (IsFlushed part s.list s.sealed) image leaves)) (λ running sound there. inr (inl (subst (λ o. IsOfFlush o j.from j.to) (sym is) (refl, refl))))
          (λ running sound not_made. file_not_log j.from j.to (next_generation s)),
      λ name other. at_name (flush_name j) name (home f) s.files (λ e. MayLeaveAt (nothing_held name) e (bytes_at picture name))
          (λ same. subst (λ n. MayLeaveAt (nothing_held n) (home f) (bytes_at picture n)) same (leaves_image (flush_name j) image)) (λ apart. other (λ same. apart (sym same))),
    )

merge_left : (part : Partition) (s : State) (picture : Picture) (o : Option Merging) → s.merge ≡ o → IsKept part s → LeavesMerge o picture
    → (files : Disk) × IsKept part (record s { files = files })
    × ((name : FileName) → (IsNotMerge o name → MayLeaveAt (nothing_held name) (s.files name) (bytes_at picture name)) → MayLeaveAt (nothing_held name) (files name) (bytes_at picture name))
merge_left part s picture None is k leaves = (s.files, k, λ name other. other tt)
merge_left part s picture (Some m) is k leaves =
    let image : Image = bytes_at picture (file_of m.target) in
    let f : DiskFile = file_for (bytes_at picture (file_of m.target)) in (
      put (file_of m.target) (home f) s.files,
      with_one_file part s (file_of m.target) (home f) k (merge_called part s f m k.memory.list is k.memory.flush k.memory.merge k.files
          (leaves_shut (IsComponent m.target) image leaves)) (λ running sound there. inr
          (inr (subst (λ o. IsOfMerge o m.target.from m.target.to) (sym is) (refl, refl))))
          (λ running sound not_made. file_not_log m.target.from m.target.to (next_generation s)),
      λ name other. at_name (file_of m.target) name (home f) s.files (λ e. MayLeaveAt (nothing_held name) e (bytes_at picture name))
          (λ same. subst (λ n. MayLeaveAt (nothing_held n) (home f) (bytes_at picture n)) same (leaves_image (file_of m.target) image)) (λ apart. other (λ same. apart (sym same))),
    )

pub picture_beside_recovers : (part : Partition) (s : State) (picture : Picture) → IsKept part s → IsPictureBeside part s picture → Recovers part picture (IsWithOrWithout (after_writes s.base (history s)) s.frame)
picture_beside_recovers part s picture k beside =
    let one = flush_left part s picture s.flush refl k beside.flush in
    let two = merge_left part (record s { files = one.0 }) picture s.merge refl one.1 beside.merge in
    picture_recovers part (record s { files = two.0 }) two.1 picture (record {
      once = beside.once;
      each = λ name. two.2 name (λ no_merge. one.2 name (λ no_flush. beside.others name no_flush no_merge));
    })
