-- Files that change under one name alone, which no component of the list and no log needs.
use Rattle.std.proofs.Common.{◌≡◌, ◌≢◌, ◌<◌, ◌+◌, ℕ, true, List, sym, subst, arith, Some, length-append}
use Rattle.std.specs.Prelude.{All}
use Rattle.tc_lsm_model.specs.Contents.{Partition}
use Rattle.tc_lsm_model.specs.Lists.{last_of}
use Rattle.tc_store.specs.Disk.{Entry, MayLeaveAt, put}
use Rattle.tc_store.specs.Gate.{is_open_file}
use Rattle.tc_store.specs.Images.{Image}
use Rattle.tc_store.specs.declared.file_name.FileName.{FileName}
use Rattle.tc_store.specs.declared.file_name.FileName.TheVariants.{Log}
use Rattle.tc_component.specs.Rows.{IsComponent}
use Rattle.tc_machine.specs.Components.{IsStillComponent, LeavesComponent, file_of}
use Rattle.tc_machine.specs.Sound.{AreFilesSound, IsExplained, LeavesActive, LeavesOf}
use Rattle.tc_machine.specs.State.{Flushing, Merging, State, active_generation, active_logs, flush_name, next_generation, sealed_logs}
use Rattle.tc_machine.specs.Steps.{IsFlushed, IsShutOrHas, nothing_held}
use Rattle.tc_machine.proofs.FilesLeft.{LeavesLogs-put, LeavesOf-other, at_name, put_other}
use Rattle.tc_machine.proofs.Options.{All-both, if_some_map}
use Rattle.tc_machine.proofs.Targets.{active_below_next}

-- no component of the list and no log outside of it has this name
pub record IsUnneeded (s : State) (name : FileName) : Type 0 where
  pub listed : All (λ c. file_of c ≢ name) s.list
  pub logs : (g : ℕ) → last_of s.list < g → g < next_generation s → name ≢ Log g

-- the entry leaves nothing open under this name without a reason
pub record IsHarmless (part : Partition) (s : State) (name : FileName) (entry : Entry) : Type 0 where
  pub explained : (bytes : List ℕ) → MayLeaveAt (nothing_held name) entry (Some bytes) → is_open_file bytes ≡ true → IsExplained part s name bytes
  pub flush : (j : Flushing) → s.flush ≡ Some j → name ≡ flush_name j → (image : Image) → MayLeaveAt (nothing_held name) entry image → IsShutOrHas (IsFlushed part s.list s.sealed) image
  pub merge : (m : Merging) → s.merge ≡ Some m → name ≡ file_of m.target → (image : Image) → MayLeaveAt (nothing_held name) entry image → IsShutOrHas (IsComponent m.target) image

module _ (part : Partition) (s : State) (name : FileName) (entry : Entry) where
  device_after : (device : FileName) (P : List ℕ → Type 0) → LeavesOf s.files device (IsShutOrHas P)
      → (name ≡ device → (image : Image) → MayLeaveAt (nothing_held name) entry image → IsShutOrHas P image)
      → LeavesOf (put name entry s.files) device (IsShutOrHas P)
  device_after device P was here image left =
      at_name name device entry s.files (λ e. MayLeaveAt (nothing_held device) e image → IsShutOrHas P image)
      (λ same left. here same image (subst (λ n. MayLeaveAt (nothing_held n) entry image) (sym same) left)) (λ apart left. was image left) left

  explained_after : ((name : FileName) (bytes : List ℕ) → MayLeaveAt (nothing_held name) (s.files name) (Some bytes) → is_open_file bytes ≡ true → IsExplained part s name bytes)
      → ((bytes : List ℕ) → MayLeaveAt (nothing_held name) entry (Some bytes) → is_open_file bytes ≡ true → IsExplained part s name bytes)
      → (other : FileName) (bytes : List ℕ) → MayLeaveAt (nothing_held other) (put name entry s.files other) (Some bytes) → is_open_file bytes ≡ true → IsExplained part s other bytes
  explained_after was here other bytes left is_open =
      at_name name other entry s.files (λ e. MayLeaveAt (nothing_held other) e (Some bytes) → IsExplained part s other bytes)
      (λ same left. subst (λ n. IsExplained part s n bytes) same (here bytes (subst (λ n. MayLeaveAt (nothing_held n) entry (Some bytes)) (sym same) left) is_open))
      (λ apart left. was other bytes left is_open) left

  pub put_unneeded : AreFilesSound part s → IsUnneeded s name → IsHarmless part s name entry → AreFilesSound part (record s { files = put name entry s.files })
  put_unneeded k spare fine = record {
    listed = All-both (λ c. file_of c ≢ name) (λ c. LeavesOf s.files (file_of c) (LeavesComponent c)) (λ c. LeavesOf (put name entry s.files) (file_of c) (LeavesComponent c)) s.list
        (λ c apart leaves. LeavesOf-other name (file_of c) entry s.files (LeavesComponent c) (λ same. apart (sym same)) leaves) spare.listed k.listed;
    still = λ running. All-both (λ c. file_of c ≢ name) (λ c. IsStillComponent c (s.files (file_of c))) (λ c. IsStillComponent c (put name entry s.files (file_of c))) s.list
        (λ c apart is. subst (λ e. IsStillComponent c e) (sym (put_other name (file_of c) entry s.files (λ same. apart (sym same)))) is) spare.listed (k.still running);
    sealed_logs = LeavesLogs-put part name entry s.files (last_of s.list + 1) (sealed_logs s.sealed)
        (λ g from to. spare.logs g (omega arith) (omega (arith, length-append (sealed_logs s.sealed) (active_logs s.active)))) k.sealed_logs;
    active_log = if_some_map (λ d. LeavesOf s.files (Log (active_generation s)) (LeavesActive part (active_generation s) d.writes s.frame)) (λ d. LeavesOf (put name entry s.files) (Log (active_generation s)) (LeavesActive part (active_generation s) d.writes s.frame)) s.active
        (λ d is leaves. LeavesOf-other name (Log (active_generation s)) entry s.files (LeavesActive part (active_generation s) d.writes s.frame)
        (spare.logs (active_generation s) (omega arith) (omega (arith, active_below_next s d is))) leaves) k.active_log;
    others = explained_after k.others fine.explained;
    flush_file = if_some_map (λ j. LeavesOf s.files (flush_name j) (IsShutOrHas (IsFlushed part s.list s.sealed))) (λ j. LeavesOf (put name entry s.files) (flush_name j) (IsShutOrHas (IsFlushed part s.list s.sealed))) s.flush
        (λ j is was. device_after (flush_name j) (IsFlushed part s.list s.sealed) was (fine.flush j is)) k.flush_file;
    merge_file = if_some_map (λ m. LeavesOf s.files (file_of m.target) (IsShutOrHas (IsComponent m.target))) (λ m. LeavesOf (put name entry s.files) (file_of m.target) (IsShutOrHas (IsComponent m.target))) s.merge
        (λ m is was. device_after (file_of m.target) (IsComponent m.target) was (fine.merge m is)) k.merge_file;
  }
