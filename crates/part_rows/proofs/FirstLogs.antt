-- A part begins over a store in memory in which nothing is but its first log.
use Rattle.std.proofs.Common.{◌≡◌, ◌∙◌, ℕ, List, [], ◌∷◌, ap, sym, subst, arith, inl, inr, Some, None, false, true}
use Rattle.std.proofs.lemmas.Bool.{false≢true}
use Rattle.std.proofs.lemmas.List.Elements.{All-nil}
use Rattle.tc_store.specs.declared.file_name.FileName.{FileName}
use Rattle.tc_store.specs.declared.file_name.FileName.TheVariants.{Log}
use Rattle.tc_store.specs.Disk.{Disk, IsThere, MayLeaveAt, home, is_out, out, put}
use Rattle.tc_store.specs.DiskFile.{DiskFile, IsSettled, settled_file}
use Rattle.tc_store.specs.Moments.{IfTold}
use Rattle.tc_store.specs.StoreCalls.{makes, fresh_file_at}
use Rattle.tc_store.proofs.GateLemmas.{settled_leaves}
use Rattle.tc_store.proofs.NameLemmas.{put_there}
use Rattle.tc_log.specs.declared.head.LogHead.{LogHead}
use Rattle.tc_log.specs.Appending.{created}
use Rattle.tc_log.specs.Spelling.{log_at_rest, Means}
use Rattle.tc_lsm_model.specs.Contents.{Partition}
use Rattle.tc_machine.specs.Kept.{IsKept}
use Rattle.tc_machine.specs.Logs.{IsLog, LeavesLog}
use Rattle.tc_machine.specs.Sound.{IsExplained}
use Rattle.tc_machine.specs.Steps.{IsExpected, nothing_held}
use Rattle.tc_machine.proofs.FilesLeft.{LeavesOf-here, at_name, nothing_left}
use Rattle.tc_machine.proofs.MemorySteps.{same_memory}
use Rattle.tc_part_model.specs.PartState.{IsTold}
use Rattle.tc_part_model.specs.PartView.{no_files, state_of, state_with}
use Rattle.tc_part_model.specs.Starting.{IsOpened, IsOpenedAt, started_part}
use Rattle.tc_part_model.proofs.StartedParts.{started_memory}

-- partition 0 of 1, and the header of its first log
abbrev only_part : Partition
only_part = record { number = 0; count = 1 }

abbrev first_head : LogHead
first_head = record { number = 0; count = 1; generation = 1 }

module _ (bytes : List ℕ) (is_log : IsLog only_part 1 [] bytes) where
  -- the device of the log is out, and nothing else is there
  abbrev disk : Disk
  disk = put (Log 1) out no_files

  abbrev files : Disk
  files = put (Log 1) (home (settled_file bytes)) disk

  explained : (name : FileName) (b : List ℕ) → MayLeaveAt (nothing_held name) (files name) (Some b) → IsExplained only_part (state_with (started_part only_part []) false None files) name b
  explained name b = at_name (Log 1) name (home (settled_file bytes)) disk (λ e. MayLeaveAt (nothing_held name) e (Some b) → IsExplained only_part (state_with (started_part only_part []) false None files) name b)
      (λ same left. subst (λ n. IsExplained only_part (state_with (started_part only_part []) false None files) n b) same (inr (inl (omega arith, omega arith))))
      (λ apart. at_name (Log 1) name out no_files (λ e. MayLeaveAt (nothing_held name) e (Some b) → IsExplained only_part (state_with (started_part only_part []) false None files) name b) (λ same. absurd (apart same)) (λ other left. absurd (cc)))

  expected : (name : FileName) → IsThere (files name) → IsExpected (state_with (started_part only_part []) false None files) name
  expected name = at_name (Log 1) name (home (settled_file bytes)) disk (λ e. IsThere e → IsExpected (state_with (started_part only_part []) false None files) name)
      (λ same there. subst (λ n. IsExpected (state_with (started_part only_part []) false None files) n) same (inl (omega arith)))
      (λ apart. at_name (Log 1) name out no_files (λ e. IsThere e → IsExpected (state_with (started_part only_part []) false None files) name) (λ same. absurd (apart same)) (λ other there. absurd there))

  first_kept : IsKept only_part (state_with (started_part only_part []) false None files)
  first_kept = record {
    memory = same_memory only_part (state_of (started_part only_part [])) files false false (started_memory only_part [] tt);
    files = record {
      listed = All-nil _;
      still = λ some. All-nil _;
      sealed_logs = tt;
      active_log = LeavesOf-here (Log 1) (home (settled_file bytes)) disk (LeavesLog only_part 1 []) (settled_leaves bytes (LeavesLog only_part 1 []) is_log);
      others = λ name b left any. explained name b left;
      flush_file = tt;
      merge_file = tt;
    };
    expected = λ some sound. expected;
    next_log = λ some sound not_made. nothing_left (Log 2);
  }

  first_opened : IsOpenedAt only_part [] disk (settled_file bytes)
  first_opened = record {
    log_out = put_there (Log 1) out no_files;
    alone = λ name held. at_name (Log 1) name out no_files (λ e. is_out e ≡ true → name ≡ Log 1) (λ same any. sym same) (λ apart now. absurd (false≢true now)) held;
    kept = first_kept;
  }

opened_at : (log : List DiskFile) → IfTold log (λ f. f ≡ settled_file (log_at_rest first_head [])) → IfTold log (λ f. IsSettled f × Means f.content first_head [])
    → IfTold log (λ f. IsOpenedAt only_part [] (put (Log 1) out no_files) f)
opened_at [] content means = tt
opened_at (f ∷ past) content means =
    subst (λ (g : DiskFile). IsOpenedAt only_part [] (put (Log 1) out no_files) g) (sym content)
    (first_opened (log_at_rest first_head []) (subst (λ (g : DiskFile). Means g.content first_head []) content means.1))

-- a file that is made in an empty store, and becomes a log without a frame
pub first_opening : (before after : List Disk) (device log : List DiskFile) → before ≡ no_files ∷ [] → after ≡ makes (Log 1) before → device ≡ fresh_file_at (Log 1) before → log ≡ created first_head device
    → IfTold log (λ f. f ≡ settled_file (log_at_rest first_head [])) → IfTold log (λ f. IsSettled f × Means f.content first_head [])
    → IsOpened (record { part = only_part; disks = after; log = log; components = [] }) []
first_opening before after device log empty made file is_created content means =
    let told : IsTold log = subst IsTold (sym (is_created ∙ ap (created first_head) (file ∙ ap (fresh_file_at (Log 1)) empty))) tt in
    let disks_are : after ≡ put (Log 1) out no_files ∷ no_files ∷ [] = made ∙ ap (makes (Log 1)) empty in
    subst (λ (disks : List Disk). IsOpened (record { part = only_part; disks = disks; log = log; components = [] }) []) (sym disks_are)
    (record { components = tt; lawful = tt; tells = told; files = opened_at log content means })
