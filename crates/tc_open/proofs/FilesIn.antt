-- No file is out behind a fault of an opening, where none was before.
use Rattle.std.proofs.Common.{◌≡◌, List, [], ◌∷◌, refl, sym, ap, subst, inl, inr, false}
use Rattle.std.specs.Prelude.{Result, Err, OnErr}
use Rattle.std.proofs.lemmas.Bool.{cases_Bool}
use Rattle.tc_store.specs.declared.file_name.FileName.{FileName}
use Rattle.tc_store.specs.Disk.{content_of, Disk, Entry, home, is_out, is_still, none, out, put, removed_of, taken}
use Rattle.tc_store.specs.DiskFile.{DiskFile, empty_file}
use Rattle.tc_store.specs.Gate.{IsShutOr, IsShutOrWhole}
use Rattle.tc_store.specs.Moments.{IfTold, LeavesAt}
use Rattle.tc_store.specs.StoreCalls.{FailsMaking, comes_home, fresh_file_at, frozen_entry, makes, removes, takes, RemovesSome}
use Rattle.tc_store.proofs.NameLemmas.{put_there}
use Rattle.tc_component.specs.declared.head.Head.{Head}
use Rattle.tc_component.specs.Spelling.{name_of}
use Rattle.tc_log.specs.declared.head.LogHead.{LogHead}
use Rattle.tc_log.specs.Spelling.{log_at_rest}
use Rattle.tc_machine.proofs.FilesLeft.{at_name}
use Rattle.tc_machine.proofs.FilesMade.{made_at}
use Rattle.tc_part_model.specs.Calls.{Creates}
use Rattle.tc_part_model.specs.PartState.{IsTold}
use Rattle.tc_part_model.proofs.DeviceFiles.{comes_untold}
use Rattle.tc_recover.specs.Files.{takes_all}
use Rattle.tc_open.specs.FlushedLogs.{IsFlushGivenUp}
use Rattle.tc_open.specs.BeingOpened.{AreIn}
use Rattle.tc_open.specs.FirstLog.{FailsCreating}
use Rattle.tc_open.proofs.FilesRead.{taken_in}
use Rattle.tc_open.proofs.ToldMoments.{tells_since}

-- ---- files that are taken, and that are removed

pub takes_in : (names : List FileName) (disks : List Disk) → IfTold disks AreIn → IfTold (takes_all names disks) AreIn
takes_in [] disks are = are
takes_in (m ∷ names) [] are = takes_in names [] tt
takes_in (m ∷ names) (disk ∷ past) are = takes_in names (takes m (disk ∷ past)) (λ n. at_name m n (taken (disk m)) disk (λ e. is_out e ≡ false) (λ same. taken_in (disk m) (are m)) (λ apart. are n))

removes_in : (m : FileName) (disks : List Disk) → IfTold disks AreIn → IfTold (removes m disks) AreIn
removes_in m [] are = tt
removes_in m (disk ∷ past) are = elim (cases_Bool (is_still (disk m))) [
  | inl found ↦ rw found (λ n. at_name m n (none (content_of (disk m))) disk (λ e. is_out e ≡ false) (λ same. refl) (λ apart. are n))
  | inr other ↦ rw other are
]

pub removes_some_in : (names : List FileName) (old new : List Disk) → RemovesSome names old new → IfTold old AreIn → IfTold new AreIn
removes_some_in [] old new same are = subst (λ ds. IfTold ds AreIn) (sym same) are
removes_some_in (m ∷ names) old new (inl further) are = removes_some_in names old new further are
removes_some_in (m ∷ names) old new (inr further) are = removes_some_in names (removes m old) new further (removes_in m old are)

-- ---- a file that was to be made

module _ (name : FileName) where
  put_in : (e : Entry) (disk : Disk) → is_out e ≡ false → ((n : FileName) → (name ≡ n → ⊥) → is_out (disk n) ≡ false) → AreIn (put name e disk)
  put_in e disk back others n = at_name name n e disk (λ x. is_out x ≡ false) (λ same. back) (λ apart. others n apart)

  made_in : (old new : List Disk) → FailsMaking name old new → IfTold old AreIn → IfTold new AreIn
  made_in old new (inl same) are = subst (λ ds. IfTold ds AreIn) (sym same) are
  made_in [] new (inr is) are = subst (λ ds. IfTold ds AreIn) (sym is) tt
  made_in (disk ∷ past) new (inr is) are = subst (λ ds. IfTold ds AreIn) (sym is) (put_in (home (empty_file (removed_of (disk name)))) disk refl (λ n apart. are n))

  -- its device comes home again
  home_in : (entry : DiskFile → Entry) → ((f : DiskFile) → is_out (entry f) ≡ false) → (old : List Disk) (device : List DiskFile) → IfTold old (λ disk. IsTold device) → IfTold old AreIn → IfTold (comes_home name entry device (makes name old)) AreIn
  home_in entry back [] device tells are = subst (λ ds. IfTold ds AreIn) (sym (comes_untold name entry device)) tt
  home_in entry back (disk ∷ past) [] tells are = absurd tells
  home_in entry back (disk ∷ past) (f ∷ more) tells are =
      rw (ap is_out (put_there name out disk)) (put_in (entry f) (put name out disk) (back f) (λ n apart. at_name name n out disk (λ e. is_out e ≡ false) (λ same. absurd (apart same)) (λ other. are n)))

pub given_up_in : (head : Head) (old new : List Disk) → IsFlushGivenUp head old new → IfTold old AreIn → IfTold new AreIn
given_up_in head old new (inl fails) are = made_in (name_of head) old new fails are
given_up_in head old new (inr given) are = elim given.2 [
  | inl is ↦ subst (λ ds. IfTold ds AreIn) (sym is) (home_in (name_of head) frozen_entry (λ f. refl) old given.0 given.1 are)
  | inr is ↦ subst (λ ds. IfTold ds AreIn) (sym is) (home_in (name_of head) (λ f. home f) (λ f. refl) old given.0 given.1 are)
]

-- so it is behind a call that says so of its fault
pub fault_in : {X E : Type 0} (Same : Type 0) (head : Head) (old new : List Disk) (r : Result X E) (fault : E) → r ≡ Err fault → OnErr r (Same × IsFlushGivenUp head old new) → IfTold old AreIn → IfTold new AreIn
fault_in {X = X} {E = E} Same head old new r fault is left are = given_up_in head old new (subst (λ (s : Result X E). OnErr s (Same × IsFlushGivenUp head old new)) is left).1 are

module _ (head : LogHead) (name : FileName) where
  broken_tells : (disks : List Disk) (broken : List DiskFile) → Creates head (fresh_file_at name disks) broken → IfTold disks (λ disk. IsTold broken)
  broken_tells [] broken creates = tt
  broken_tells (disk ∷ past) broken creates =
      let before = removed_of (disk name) in
      tells_since (LeavesAt (IsShutOrWhole before (log_at_rest head []))) (empty_file before) [] broken (creates.moments before (made_at name before (IsShutOr before) tt (λ b shut. inl shut) (λ b was. inr was)))

  pub failed_in : (old new : List Disk) → FailsCreating head name old new → IfTold old AreIn → IfTold new AreIn
  failed_in old new (inl fails) are = made_in name old new fails are
  failed_in old new (inr broken) are = subst (λ ds. IfTold ds AreIn) (sym broken.2) (home_in name (λ f. home f) (λ f. refl) old broken.0 (broken_tells old broken.0 broken.1) are)
