-- What a stop leaves of a store whose files the machine keeps, where all are at home and where one is out.
use Rattle.std.proofs.Common.{◌≡◌, ℕ, List, refl, subst, Some, None}
use Rattle.tc_plain_model.specs.Writes.{after_writes}
use Rattle.tc_lsm_model.specs.Contents.{Partition}
use Rattle.tc_store.specs.declared.file_name.FileName.{FileName}
use Rattle.tc_store.specs.Disk.{Disk, Entry, IsPictureOf, MayLeaveAt, Picture, bytes_at, home, none, out, put, still}
use Rattle.tc_store.specs.DiskFile.{DiskFile, empty_file, settled_file}
use Rattle.tc_store.specs.Images.{Image, MayLeave}
use Rattle.tc_store.specs.Moments.{LeavesAt}
use Rattle.tc_store.specs.Pictures.{HeldOut}
use Rattle.tc_store.proofs.GateLemmas.{settled_leaves}
use Rattle.tc_store.proofs.NameLemmas.{put_there}
use Rattle.tc_machine.specs.Kept.{IsKept}
use Rattle.tc_machine.specs.Pictures.{Recovers}
use Rattle.tc_machine.specs.Sound.{IsWithOrWithout}
use Rattle.tc_machine.specs.State.{State, history}
use Rattle.tc_machine.specs.Steps.{IsShutOrHas, nothing_held}
use Rattle.tc_machine.proofs.DeviceSteps.{settled_image}
use Rattle.tc_machine.proofs.FilesLeft.{at_name, put_other}
use Rattle.tc_machine.proofs.PictureLaws.{picture_recovers}
use Rattle.tc_part_model.proofs.DeviceFiles.{empty_leaves}
use Rattle.tc_open.specs.FirstLog.{Holds, held_under}
use Rattle.tc_open.specs.Resting.{IsStillOrGone}

-- of a file that nobody holds it is the same, whatever is said of those that are out
pub same_held : (h k : Image → Type 0) (e : Entry) (image : Image) → IsStillOrGone e → MayLeaveAt h e image → MayLeaveAt k e image
same_held h k (none before) None rests left = tt
same_held h k (none before) (Some b) rests left = left
same_held h k (still b) image rests left = left
same_held h k (home f) image rests left = absurd rests
same_held h k out image rests left = absurd rests

-- ---- all files at home

pub kept_holds : (part : Partition) (s : State) → IsKept part s → s.frame ≡ None → Holds part (after_writes s.base (history s)) nothing_held s.files
kept_holds part s kept no_frame picture left = subst (λ frame. Recovers part picture (IsWithOrWithout (after_writes s.base (history s)) frame)) no_frame (picture_recovers part s kept picture left)

-- ---- one file out

-- a file of which a stop leaves this image, and else only what is said
record IsFileOf (Q : List ℕ → Type 0) (image : Image) : Type 0 where
  file : DiskFile
  leaves : LeavesAt (IsShutOrHas Q) file
  may : MayLeave file image

file_of : (Q : List ℕ → Type 0) (image : Image) → IsShutOrHas Q image → IsFileOf Q image
file_of Q None has = record { file = empty_file None; leaves = empty_leaves Q; may = refl }
file_of Q (Some b) has = record { file = settled_file b; leaves = settled_leaves b (IsShutOrHas Q) has; may = settled_image b }

-- Whatever a stop leaves of a store with one file out it leaves of the store with some file at home, which may be that one.
pub record IsHeldAs (Q : List ℕ → Type 0) (name : FileName) (disk : Disk) (picture : Picture) : Type 0 where
  pub file : DiskFile
  pub leaves : LeavesAt (IsShutOrHas Q) file
  pub left : IsPictureOf nothing_held (put name (home file) disk) picture

pub held_home : (Q : List ℕ → Type 0) (name : FileName) (disk : Disk) (picture : Picture) → ((n : FileName) → IsStillOrGone (disk n)) → IsPictureOf (held_under name (IsShutOrHas Q)) (put name out disk) picture → IsHeldAs Q name disk picture
held_home Q name disk picture rests left = record {
  file = f.file;
  leaves = f.leaves;
  left = record {
    once = left.once;
    each = λ n. at_name name n (home f.file) disk (λ e. MayLeaveAt (nothing_held n) e (bytes_at picture n)) (λ same. subst (λ m. MayLeave f.file (bytes_at picture m)) same f.may)
        (λ apart. same_held (held_under name (IsShutOrHas Q) n) (nothing_held n) (disk n) (bytes_at picture n) (rests n)
        (subst (λ e. MayLeaveAt (held_under name (IsShutOrHas Q) n) e (bytes_at picture n)) (put_other name n out disk apart) (left.each n)));
  };
}
  where
    f : IsFileOf Q (bytes_at picture name)
    f = file_of Q (bytes_at picture name) (subst (λ e. MayLeaveAt (held_under name (IsShutOrHas Q) name) e (bytes_at picture name)) (put_there name out disk) (left.each name)).1

-- what is said of files that are out says nothing where none is
pub none_out : (held : HeldOut) (disk : Disk) (picture : Picture) → ((n : FileName) → IsStillOrGone (disk n)) → IsPictureOf held disk picture → IsPictureOf nothing_held disk picture
none_out held disk picture rests left = record { once = left.once; each = λ n. same_held (held n) (nothing_held n) (disk n) (bytes_at picture n) (rests n) (left.each n) }

-- where one file is at home, and none is out
pub home_out : (held : HeldOut) (name : FileName) (f : DiskFile) (disk : Disk) (picture : Picture) → ((n : FileName) → IsStillOrGone (disk n)) → IsPictureOf held (put name (home f) disk) picture → IsPictureOf nothing_held (put name (home f) disk) picture
home_out held name f disk picture rests left = record {
  once = left.once;
  each = λ n. at_name name n (home f) disk (λ e. MayLeaveAt (held n) e (bytes_at picture n) → MayLeaveAt (nothing_held n) e (bytes_at picture n)) (λ same may. may)
      (λ apart may. same_held (held n) (nothing_held n) (disk n) (bytes_at picture n) (rests n) may) (left.each n);
}
