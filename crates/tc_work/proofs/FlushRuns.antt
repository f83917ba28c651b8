-- What the job of a flush leaves of its device, once it has run for a part.
use Rattle.std.proofs.Common.{◌≡◌, ◌∙◌, ◌<◌, ℕ, List, [], ◌∷◌, Option, Some, None, length, refl, sym, ap, subst, arith}
use Rattle.std.specs.Prelude.{◌^◌, All, IfSome, IsOk, Result}
use Rattle.tc_store.specs.Counted.{Counts}
use Rattle.tc_store.specs.declared.fault.DeviceFault.{DeviceFault}
use Rattle.tc_store.specs.declared.file_name.FileName.{FileName}
use Rattle.tc_store.specs.Disk.{Disk}
use Rattle.tc_store.specs.DiskFile.{DiskFile, settled_file}
use Rattle.tc_store.specs.Gate.{IsShutOr, IsShutOrWhole}
use Rattle.tc_store.specs.Moments.{IfTold, LeavesAt, LeavesOnly}
use Rattle.tc_store.specs.StoreCalls.{fresh_file_at}
use Rattle.tc_store.proofs.MomentLemmas.{told_map}
use Rattle.tc_component.specs.Rows.{IsComponent, IsShortWrite, component_bytes}
use Rattle.tc_component.proofs.Versions.{written_component}
use Rattle.tc_flush.specs.Flushing.{flush_bytes}
use Rattle.tc_flush.specs.Jobs.{JobState}
use Rattle.tc_lsm_model.specs.Contents.{Content, IsContent, Partition}
use Rattle.tc_lsm_model.specs.Flushes.{IsFlush}
use Rattle.tc_machine.specs.State.{Sealed}
use Rattle.tc_machine.specs.Steps.{IsFlushed, IsShutOrHas}
use Rattle.tc_part_model.specs.Calls.{HasMade, MakesFlush}
use Rattle.tc_part_model.specs.PartState.{IsTold}
use Rattle.tc_part_model.specs.PartView.{PartView}
use Rattle.tc_part_model.proofs.SealedInputs.{makes_flush}
use Rattle.tc_part.proofs.FreshFiles.{before_in, fresh_shut, fresh_tells, since_tells}
use Rattle.tc_running.specs.Ran.{HasFlushed}
use Rattle.tc_work.specs.JobsOut.{FlushesFor, IsMadeIn}
use Rattle.tc_work.proofs.FreshDevices.{ran_leaves}
use Rattle.tc_work.proofs.Settled.{told_now}
use Rattle.tc_work.proofs.StoredMoments.{where_told}

-- ---- of any job

-- a file that is told is no longer than the device is
pub short_file : (size : ℕ) (device : List DiskFile) (bytes : List ℕ) → IsTold device → IfTold device (λ f. size ≡ length f.content) → IfTold device (λ f. f ≡ settled_file bytes) → size < 2 ^ 63 → length bytes < 2 ^ 63
short_file size [] bytes tells sized is short = absurd tells
short_file size (f ∷ past) bytes tells sized is short = omega (arith, sized, ap (λ (x : DiskFile). length x.content) is, short)

-- a content whose component is no longer than a file may be has that
pub has_component : (c : Content) → IsContent c → All IsShortWrite c.entries → length (component_bytes c) < 2 ^ 63 → IsComponent c (component_bytes c)
has_component c is short fits = written_component c (component_bytes c) is short refl fits

-- ---- of a flush

-- What it makes, and what it leaves of its device: all of that where it ends well, and else nothing, a closed file, or all.
pub record RanFlush (p : PartView) (disks : List Disk) (device : List DiskFile) (Ended : Type 0) : Type 0 where
  pub content : Content
  pub makes : MakesFlush p content
  pub made : Ended → HasMade content disks device
  pub leaves : IfTold device (LeavesAt (IsShutOrHas (IsFlushed p.part p.list p.sealed)))

flushed_has : (part : Partition) (cs : List Content) (o : Option Sealed) (d : Sealed) (c : Content) (bytes : List ℕ) → o ≡ Some d → IfSome o (λ x. IsFlush part cs x.table (length x.logs) c) → IsComponent c bytes → IsFlushed part cs o bytes
flushed_has part cs None d c bytes is makes has = absurd (cc)
flushed_has part cs (Some x) d c bytes is makes has = (c, makes, has)

-- a flush that has run, and that works for a part
module _ {D W : Type 0} (history : D → List DiskFile) (length_of : D → ℕ) (name_of : D → FileName) (counts : W → Counts) (p : PartView) (name : FileName)
    (disks : List Disk) (job : JobState D W) (works : FlushesFor history name_of p.part p.list p.sealed p.flush job) (own : IsMadeIn name disks (history job.device))
    (watch : W) (device : D)
    (outcome : Result (Unit {0}) DeviceFault) (ran : HasFlushed history length_of name_of counts job watch device outcome) where
  abbrev bytes : List ℕ
  bytes = flush_bytes job.head job.names job.schema works.table.table

  abbrev c : Content
  c = (ran.flushed p.list works.table.table 1 works.behind).0

  makes : MakesFlush p c
  makes = makes_flush p job.head job.names job.schema job.kept c (record { sealed = works.table; is_sealed = works.is_sealed; one_log = works.one_log; here = works.here; behind = works.behind }) (ran.flushed p.list works.table.table 1 works.behind).1

  is_content : IsContent c
  is_content = (ran.flushed p.list works.table.table 1 works.behind).1.goes_on.content

  records : All IsShortWrite c.entries
  records = (ran.flushed p.list works.table.table 1 works.behind).2

  spelled : component_bytes c ≡ bytes
  spelled = (ran.flushed p.list works.table.table 1 works.behind).3

  moments : LeavesOnly (IsShutOrWhole (before_in name own.was) bytes) (fresh_file_at name own.was) (history device)
  moments = subst (λ (fs : List DiskFile). LeavesOnly (IsShutOrWhole (before_in name own.was) bytes) fs (history device)) own.made
      (ran.moments (before_in name own.was) works.table.table works.behind.of (subst (λ (fs : List DiskFile). IfTold fs (LeavesAt (IsShutOr (before_in name own.was)))) (sym own.made) (fresh_shut name own.was)))

  -- whatever came of it
  pub flush_leaves : IfTold (history device) (LeavesAt (IsShutOrHas (IsFlushed p.part p.list p.sealed)))
  flush_leaves = ran_leaves name own.was (IsFlushed p.part p.list p.sealed) bytes (history device)
      (subst (λ (fs : List DiskFile). IfTold fs (LeavesAt (IsShutOrHas (IsFlushed p.part p.list p.sealed)))) own.made works.device) moments
      (λ short. flushed_has p.part p.list p.sealed works.table c bytes works.is_sealed makes (subst (IsComponent c) spelled (has_component c is_content records (subst (λ (bs : List ℕ). length bs < 2 ^ 63) (sym spelled) short))))

  -- over a store that tells its files
  pub ran_flush : IsTold disks → IfTold (history device) (λ f. length_of device ≡ length f.content) → RanFlush p disks (history device) (IsOk outcome)
  ran_flush tells sized = record {
    content = c;
    makes = makes;
    made = λ ended.
        let content = told_map (λ f. f ≡ settled_file bytes) (λ f. f ≡ settled_file (component_bytes c)) (history device) (λ f same. same ∙ ap settled_file (sym spelled)) (ran.whole ended works.table.table works.behind.of) in
        let fits = short_file (length_of device) (history device) (component_bytes c) new_tells sized content (ran.size ended) in
        record { whole = has_component c is_content records fits; tells = told_now disks (λ d. IsTold (history device)) (λ told d. new_tells); content = content };
    leaves = flush_leaves;
  }
    where
      new_tells : IsTold (history device)
      new_tells = since_tells (LeavesAt (IsShutOrWhole (before_in name own.was) bytes)) (fresh_file_at name own.was) (history device) moments (fresh_tells name own.was (where_told disks (IsTold own.was) tells own.told))
