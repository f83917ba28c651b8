-- A part of whose store files are removed that no listed component has.
use Rattle.std.proofs.Common.{◌≡◌, ◌⊎◌, List, sym, ap, subst, inl, Option, Some, None, false, true}
use Rattle.std.specs.Prelude.{All, map}
use Rattle.tc_store.specs.declared.file_name.FileName.{FileName}
use Rattle.tc_store.specs.Disk.{Disk}
use Rattle.tc_store.specs.StoreCalls.{RemovesSome}
use Rattle.tc_plain_model.specs.Writes.{Write}
use Rattle.tc_lsm_model.specs.Merges.{in_run}
use Rattle.tc_machine.specs.Components.{file_of}
use Rattle.tc_machine.specs.State.{Merging}
use Rattle.tc_part_model.specs.Calls.{IsUnlisted}
use Rattle.tc_part_model.specs.Changes.{merged_part}
use Rattle.tc_part_model.specs.Leaving.{LeavesStoreAt, StoreMomentsLeaveStore}
use Rattle.tc_part_model.specs.Meaning.{HasFailedAs, IsPart}
use Rattle.tc_part_model.specs.PartState.{Told}
use Rattle.tc_part_model.specs.PartView.{PartView}
use Rattle.tc_part_model.proofs.Beginnings.{kept_leaves}
use Rattle.tc_part_model.proofs.DeviceFiles.{logs_tell}
use Rattle.tc_part_model.proofs.Removals.{jobs_stay_out, removal_moments, removal_untold, some_removed}
use Rattle.tc_part_model.proofs.RunsUnlisted.{run_unlisted}

pub run_goes : (t : Told) (p : PartView) (m : Merging) → IsPart t p → p.merge ≡ Some m → All (IsUnlisted (merged_part p).list) (map file_of (in_run m.run p.list))
run_goes t p m is some =
    subst (λ q. IsPart t q → All (IsUnlisted (merged_part q).list) (map file_of (in_run m.run q.list))) (ap (λ o. record p { merge = o }) (sym some))
    (λ soon. run_unlisted p.part m.run p.list m.target soon.memory.list soon.memory.merge.apart) is

module _ (t : Told) (p : PartView) (names : List FileName) (unlisted : All (IsUnlisted p.list) names) where
  told_removed : (disks : List Disk) → IsPart t p → RemovesSome names t.disks disks → IsPart (record t { disks = disks }) p
  told_removed disks is removed = record {
    sound = is.sound;
    view = record {
      part = is.view.part;
      generation = is.view.generation;
      components = is.view.components;
      sealed = is.view.sealed;
      sealed_log = is.view.sealed_log;
      active = is.view.active;
      staged = is.view.staged;
      taken = is.view.taken;
      live = is.view.live;
      flushing = is.view.flushing;
      merging = is.view.merging;
    };
    memory = is.memory;
    staged = is.staged;
    room = is.room;
    tells = logs_tell t.disks disks t.log t.sealed_log (removal_untold names t.disks disks removed) is.tells;
    files = record {
      kept = some_removed p false None names unlisted t.disks disks t.log t.sealed_log removed is.files.kept;
      jobs = jobs_stay_out p.flush p.merge names t.disks disks removed is.files.jobs;
    };
  }

  pub removed_is_part : (u : Told) → IsPart t p → RemovesSome names t.disks u.disks → u ≡ record t { disks = u.disks } → IsPart u p
  removed_is_part u is removed same = subst (λ x. IsPart x p) (sym same) (told_removed u.disks is removed)

  pub removed_moments : (disks : List Disk) → IsPart t p → RemovesSome names t.disks disks → StoreMomentsLeaveStore p p t disks
  removed_moments disks is removed =
      removal_moments p false None (λ disk f g. LeavesStoreAt p None g f disk ⊎ LeavesStoreAt p None g f disk) (λ disk f g k. inl (kept_leaves p false disk f g k)) names unlisted t.disks disks t.log t.sealed_log removed is.files.kept

  pub failed_removed : (u : Told) (frame : Option (List Write)) → HasFailedAs t p frame → RemovesSome names t.disks u.disks → u.failed ≡ true → u.log ≡ t.log → u.sealed_log ≡ t.sealed_log → HasFailedAs u p frame
  failed_removed u frame has removed failed log sealed = record {
    failed = failed;
    tells = rw (log, sealed) (logs_tell t.disks u.disks t.log t.sealed_log (removal_untold names t.disks u.disks removed) has.tells);
    files = rw (log, sealed) (some_removed p true frame names unlisted t.disks u.disks t.log t.sealed_log removed has.files);
  }
