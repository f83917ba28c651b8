-- A part that has failed, in documents: what it keeps, and what becomes of the devices of its jobs.
use Rattle.std.proofs.Common.{◌≡◌, List, refl, true, false, Option, Some, None}
use Rattle.tc_store.specs.Disk.{home}
use Rattle.tc_store.specs.DiskFile.{DiskFile}
use Rattle.tc_store.specs.Moments.{IfTold, LeavesAt}
use Rattle.tc_store.specs.StoreCalls.{comes_home}
use Rattle.tc_store.proofs.MomentLemmas.{told_map}
use Rattle.tc_plain_model.specs.Writes.{Write}
use Rattle.tc_component.specs.Rows.{IsComponent}
use Rattle.tc_machine.specs.Components.{file_of}
use Rattle.tc_machine.specs.State.{Flushing, Merging, flush_name}
use Rattle.tc_machine.specs.Steps.{IsFlushed, IsShutOrHas}
use Rattle.tc_part_model.specs.Meaning.{HasFailed, HasFailedAs, IsPart}
use Rattle.tc_part_model.specs.PartFiles.{AreKeptAt}
use Rattle.tc_part_model.specs.PartState.{Told}
use Rattle.tc_part_model.specs.PartView.{PartView, store_of}
use Rattle.tc_part_model.proofs.Failures.{failing_keeps}
use Rattle.tc_part_model.proofs.Returns.{JobCalls, flush_calls, merge_calls}
use Rattle.tc_part_model.proofs.ToldFiles.{if_files_map}
use Rattle.tc_part_model.proofs.ToldReturns.{failed_returns}

pub fails_so : (t u : Told) (p : PartView) → IsPart t p → u.failed ≡ true → u.disks ≡ t.disks → u.log ≡ t.log → u.sealed_log ≡ t.sealed_log → HasFailedAs u p None
fails_so t u p is failed disks log sealed = record {
  failed = failed;
  tells = rw (disks, log, sealed) is.tells;
  files = rw (disks, log, sealed) (if_files_map (AreKeptAt p false None) (AreKeptAt p true None) t.disks t.log t.sealed_log (failing_keeps p) is.files.kept);
}

pub failed_stores : (t : Told) (p : PartView) (frame : Option (List Write)) → HasFailedAs t p frame → HasFailed t p.part (store_of p) frame
failed_stores t p frame has = record { failed = has.failed; view = p; here = refl; holds = refl; tells = has.tells; files = has.files }

pub flush_returns : (t u : Told) (p : PartView) (frame : Option (List Write)) (j : Flushing) (dev : List DiskFile) → HasFailedAs t p frame → p.flush ≡ Some j → IfTold dev (LeavesAt (IsShutOrHas (IsFlushed p.part p.list p.sealed)))
    → u.failed ≡ true → u.log ≡ t.log → u.sealed_log ≡ t.sealed_log → u.disks ≡ comes_home (flush_name j) (λ x. home x) dev t.disks → HasFailedAs u p frame
flush_returns t u p frame j dev has is leaves failed log sealed disks =
    failed_returns p true frame j.from j.to t u dev has refl (told_map (LeavesAt (IsShutOrHas (IsFlushed p.part p.list p.sealed))) (JobCalls p (flush_name j)) dev (λ x leaves. flush_calls p j x is leaves) leaves) failed log sealed disks

pub merge_returns : (t u : Told) (p : PartView) (frame : Option (List Write)) (m : Merging) (dev : List DiskFile) → HasFailedAs t p frame → p.merge ≡ Some m → IfTold dev (LeavesAt (IsShutOrHas (IsComponent m.target)))
    → u.failed ≡ true → u.log ≡ t.log → u.sealed_log ≡ t.sealed_log → u.disks ≡ comes_home (file_of m.target) (λ x. home x) dev t.disks → HasFailedAs u p frame
merge_returns t u p frame m dev has is leaves failed log sealed disks =
    failed_returns p true frame m.target.from m.target.to t u dev has refl (told_map (LeavesAt (IsShutOrHas (IsComponent m.target))) (JobCalls p (file_of m.target)) dev (λ x leaves. merge_calls p m x is leaves) leaves) failed log sealed disks
