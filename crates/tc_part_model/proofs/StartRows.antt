-- A part begins over a store in which nothing is but its first log: what an opening hands in can be met.
use Rattle.std.proofs.Common.{◌≡◌, ℕ, List, [], ◌∷◌, sym, subst, arith, inl, inr, Some, None, false, true}
use Rattle.std.proofs.lemmas.Bool.{false≢true}
use Rattle.std.proofs.lemmas.List.Elements.{All-nil}
use Rattle.tc_store.specs.declared.file_name.FileName.{FileName}
use Rattle.tc_store.specs.declared.file_name.FileName.TheVariants.{Log}
use Rattle.tc_store.specs.Disk.{Disk, IsThere, MayLeaveAt, home, is_out, out, put}
use Rattle.tc_store.specs.DiskFile.{settled_file}
use Rattle.tc_store.proofs.GateLemmas.{settled_leaves}
use Rattle.tc_store.proofs.NameLemmas.{put_there}
use Rattle.tc_lsm_model.specs.Contents.{Partition}
use Rattle.tc_machine.specs.Kept.{IsKept}
use Rattle.tc_machine.specs.Logs.{IsLog, LeavesLog}
use Rattle.tc_machine.specs.Sound.{IsExplained}
use Rattle.tc_machine.specs.Steps.{IsExpected, nothing_held}
use Rattle.tc_machine.proofs.FilesLeft.{LeavesOf-here, at_name, nothing_left}
use Rattle.tc_machine.proofs.MemorySteps.{same_memory}
use Rattle.tc_part_model.specs.PartView.{no_files, state_of, state_with}
use Rattle.tc_part_model.specs.Starting.{IsOpened, IsOpenedAt, started_part}
use Rattle.tc_part_model.proofs.StartedParts.{started_memory}

module _ (part : Partition) (bytes : List ℕ) (is_log : IsLog part 1 [] bytes) where
  -- the device of the log is out, and nothing else is there
  abbrev disk : Disk
  disk = put (Log 1) out no_files

  abbrev files : Disk
  files = put (Log 1) (home (settled_file bytes)) disk

  explained : (name : FileName) (b : List ℕ) → MayLeaveAt (nothing_held name) (files name) (Some b) → IsExplained part (state_with (started_part part []) false None files) name b
  explained name b = at_name (Log 1) name (home (settled_file bytes)) disk (λ e. MayLeaveAt (nothing_held name) e (Some b) → IsExplained part (state_with (started_part part []) false None files) name b)
      (λ same left. subst (λ n. IsExplained part (state_with (started_part part []) false None files) n b) same (inr (inl (omega arith, omega arith))))
      (λ apart. at_name (Log 1) name out no_files (λ e. MayLeaveAt (nothing_held name) e (Some b) → IsExplained part (state_with (started_part part []) false None files) name b) (λ same. absurd (apart same)) (λ other left. absurd (cc)))

  expected : (name : FileName) → IsThere (files name) → IsExpected (state_with (started_part part []) false None files) name
  expected name = at_name (Log 1) name (home (settled_file bytes)) disk (λ e. IsThere e → IsExpected (state_with (started_part part []) false None files) name)
      (λ same there. subst (λ n. IsExpected (state_with (started_part part []) false None files) n) same (inl (omega arith)))
      (λ apart. at_name (Log 1) name out no_files (λ e. IsThere e → IsExpected (state_with (started_part part []) false None files) name) (λ same. absurd (apart same)) (λ other there. absurd there))

  first_kept : IsKept part (state_with (started_part part []) false None files)
  first_kept = record {
    memory = same_memory part (state_of (started_part part [])) files false false (started_memory part [] tt);
    files = record {
      listed = All-nil _;
      still = λ some. All-nil _;
      sealed_logs = tt;
      active_log = LeavesOf-here (Log 1) (home (settled_file bytes)) disk (LeavesLog part 1 []) (settled_leaves bytes (LeavesLog part 1 []) is_log);
      others = λ name b left any. explained name b left;
      flush_file = tt;
      merge_file = tt;
    };
    expected = λ some sound. expected;
    next_log = λ some sound not_made. nothing_left (Log 2);
  }

  first_opened : IsOpenedAt part [] disk (settled_file bytes)
  first_opened = record {
    log_out = put_there (Log 1) out no_files;
    alone = λ name held. at_name (Log 1) name out no_files (λ e. is_out e ≡ true → name ≡ Log 1) (λ same any. sym same) (λ apart now. absurd (false≢true now)) held;
    kept = first_kept;
  }

  opens : IsOpened (record { part = part; disks = disk ∷ []; log = settled_file bytes ∷ []; components = [] }) []
  opens = record { components = tt; lawful = tt; tells = tt; files = first_opened }
