-- The jobs that are out of a part go on to work for what becomes of it.
use Rattle.std.proofs.Common.{◌≡◌, ◌∙◌, ◌≤◌, ◌+◌, ℕ, List, [], ◌∷◌, ◌++◌, Option, Some, None, length, refl, sym, ap, subst, inl, inr}
use Rattle.std.specs.List.{AllZip}
use Rattle.tc_component.specs.Loaded.{IsLoadedOf}
use Rattle.tc_flush.specs.Jobs as flush
use Rattle.tc_lsm_model.specs.Contents.{Content, Partition}
use Rattle.tc_lsm_model.specs.Lists.{IsList}
use Rattle.tc_lsm_model.specs.Merges.{IsMerge, Run, in_run, swapped}
use Rattle.tc_lsm_model.specs.Tables.{KeepsShapes}
use Rattle.tc_lsm_model.proofs.MergeLaws.{Replaces, flush_stays, in_run-append, swapped_replaces}
use Rattle.tc_machine.specs.State.{Merging, Sealed}
use Rattle.tc_machine.specs.Steps.{IsFlushed, IsShutOrHas}
use Rattle.tc_merge.specs.Jobs as merge
use Rattle.tc_part_model.specs.PartState.{IsTold}
use Rattle.tc_part_model.specs.PartView.{PartView}
use Rattle.tc_part.proofs.FreshFiles.{before_in, fresh_shut, fresh_tells, since_tells}
use Rattle.tc_store.specs.declared.file_name.FileName.{FileName}
use Rattle.tc_store.specs.Disk.{Disk}
use Rattle.tc_store.specs.DiskFile.{DiskFile}
use Rattle.tc_store.specs.Gate.{IsShutOr}
use Rattle.tc_store.specs.Images.{Image}
use Rattle.tc_store.specs.Moments.{EachSince, IfTold, LeavesAt}
use Rattle.tc_store.proofs.MomentLemmas.{told_map}
use Rattle.tc_work.specs.JobsOut.{FlushesFor, IsMadeIn, MergesFor}
use Rattle.tc_work.proofs.Settled.{told_now}

-- ---- a merge is listed while a flush is out

module _ (part : Partition) (run : Run) (cs : List Content) (m : Content) (is_list : IsList part cs) (is_merge : IsMerge (in_run run cs) m) where
  same : Replaces part cs (swapped run m cs) m
  same = swapped_replaces part run cs m is_list is_merge

  flushed_stays : (sealed : Option Sealed) (bytes : List ℕ) → IsFlushed part cs sealed bytes → IsFlushed part (swapped run m cs) sealed bytes
  flushed_stays None bytes is = is
  flushed_stays (Some d) bytes (c, is, has) = (c, flush_stays part run cs m d.table (length d.logs) c is_list is_merge is, has)

  shut_stays : (sealed : Option Sealed) (image : Image) → IsShutOrHas (IsFlushed part cs sealed) image → IsShutOrHas (IsFlushed part (swapped run m cs) sealed) image
  shut_stays sealed None is = is
  shut_stays sealed (Some bytes) (inl shut) = inl shut
  shut_stays sealed (Some bytes) (inr is) = inr (flushed_stays sealed bytes is)

pub flush_goes_on : {D W : Type 0} (history : D → List DiskFile) (name_of : D → FileName) (p : PartView) (m : Merging) (job : flush.JobState D W) → IsList p.part p.list → IsMerge (in_run m.run p.list) m.target
    → FlushesFor history name_of p.part p.list p.sealed p.flush job → FlushesFor history name_of p.part (swapped m.run m.target p.list) p.sealed p.flush job
flush_goes_on history name_of p m job is_list is_merge works =
    let r = same p.part m.run p.list m.target is_list is_merge in
    let b = works.behind in
    record {
      flushing = works.flushing;
      is_out = works.is_out;
      name = works.name;
      table = works.table;
      is_sealed = works.is_sealed;
      one_log = works.one_log;
      here = works.here;
      behind = record {
        list = subst (λ part. IsList part (swapped m.run m.target p.list)) (sym works.here) r.list;
        of = b.of;
        keeps = subst (λ pairs. KeepsShapes pairs works.table.table) (sym r.live) b.keeps;
        newest_names = b.newest_names ∙ sym r.names;
        newest_schema = b.newest_schema ∙ sym r.schema;
        from = b.from ∙ ap (λ n. n + 1) (sym r.last);
        to = b.to ∙ ap (λ n. n + 1) (sym r.last);
        some = b.some;
        last = b.last;
      };
      device = told_map (LeavesAt (IsShutOrHas (IsFlushed p.part p.list p.sealed))) (LeavesAt (IsShutOrHas (IsFlushed p.part (swapped m.run m.target p.list) p.sealed))) (history job.device)
          (λ f leaves image left. shut_stays p.part m.run p.list m.target is_list is_merge p.sealed image (leaves image left)) works.device;
    }

-- ---- a flush is listed while a merge is out

pub merge_goes_on : {F D W : Type 0} (content : F → Option (List ℕ)) (history : D → List DiskFile) (name_of : D → FileName) (list : List Content) (o : Option Merging) (c : Content) (job : merge.JobState F D W) (works : MergesFor content history name_of list o job)
    → works.merging.run.first + works.merging.run.length ≤ length list → MergesFor content history name_of (list ++ c ∷ []) o job
merge_goes_on content history name_of list o c job works within =
    let run = works.merging.run in
    let same : in_run run (list ++ c ∷ []) ≡ in_run run list = in_run-append run list (c ∷ []) within in
    record {
      merging = works.merging;
      is_out = works.is_out;
      name = works.name;
      loaded = subst (λ cs. AllZip (IsLoadedOf content) job.run cs) (sym same) works.loaded;
      is_merge = subst (λ cs. IsMerge cs works.merging.target) (sym same) works.is_merge;
      is_content = works.is_content;
      device = works.device;
    }

-- ---- the device of a job

-- what holds where a store tells holds behind a call, where a store that tells nothing goes on so
pub told_still : (disks now : List Disk) (Q : Type 0) → (disks ≡ [] → now ≡ []) → IfTold disks (λ disk. Q) → IfTold now (λ disk. Q)
told_still disks now Q untold holds = at disks refl holds
  where
    at : (ds : List Disk) → disks ≡ ds → IfTold ds (λ disk. Q) → IfTold now (λ disk. Q)
    at [] is q = subst (λ xs. IfTold xs (λ disk. Q)) (sym (untold is)) tt
    at (disk ∷ past) is q = told_now now (λ d. Q) (λ tells d. q)

abbrev pub made_still : (name : FileName) (disks now : List Disk) (device : List DiskFile) → (disks ≡ [] → now ≡ []) → IsMadeIn name disks device → IsMadeIn name now device
made_still name disks now device untold own = record { was = own.was; made = own.made; told = told_still disks now (IsTold own.was) untold own.told }

-- where its job needs this to be told, it tells once the job has run
pub device_tells : (name : FileName) (disks : List Disk) (Needed : Type 0) (P : DiskFile → Type 0) (old new : List DiskFile) (own : IsMadeIn name disks old) → IfTold own.was (λ disk. Needed)
    → (Needed → IfTold old (LeavesAt (IsShutOr (before_in name own.was))) → EachSince P old new) → IfTold disks (λ disk. IsTold new)
device_tells name disks Needed P old new own needed moments = at disks own.told
  where
    tells : IsTold own.was → IsTold new
    tells was_told =
        let shut : IfTold old (LeavesAt (IsShutOr (before_in name own.was))) = subst (λ fs. IfTold fs (LeavesAt (IsShutOr (before_in name own.was)))) (sym own.made) (fresh_shut name own.was) in
        since_tells P old new (moments (given own.was was_told needed) shut) (subst (λ fs. IsTold fs) (sym own.made) (fresh_tells name own.was was_told))
      where
        given : (ds : List Disk) → IsTold ds → IfTold ds (λ disk. Needed) → Needed
        given [] told is = absurd told
        given (disk ∷ past) told is = is

    at : (ds : List Disk) → IfTold ds (λ disk. IsTold own.was) → IfTold ds (λ disk. IsTold new)
    at [] told = tt
    at (disk ∷ past) told = tells told
