-- A commit, for the moments that are told.
use Rattle.std.proofs.Common.{◌≡◌, ◌++◌, List, [], ◌∷◌, length, refl, sym, ap, ◌∙◌, subst, Option, Some, None, false, true}
use Rattle.std.specs.Prelude.{map}
use Rattle.tc_model.specs.KnownNames.{HasEach}
use Rattle.tc_store.specs.Disk.{Disk}
use Rattle.tc_store.specs.DiskFile.{DiskFile}
use Rattle.tc_store.specs.Moments.{IfTold, EachSince, LeavesAt}
use Rattle.tc_store.proofs.MomentLemmas.{EachSince-none}
use Rattle.tc_store.proofs.StopLaws.{since_weaker}
use Rattle.tc_log.specs.declared.head.LogHead.{LogHead}
use Rattle.tc_log.specs.declared.write.Write as log
use Rattle.tc_log.specs.Appending.{MeansWithOrWithout}
use Rattle.tc_log.specs.Spelling.{Means}
use Rattle.tc_plain_model.specs.Writes.{Pairs, Write}
use Rattle.tc_machine.specs.Logs.{kept_write, log_head}
use Rattle.tc_machine.proofs.Moments.{appending}
use Rattle.tc_part_model.specs.Calls.{Appends, HasAppended}
use Rattle.tc_part_model.specs.Changes.{committed_part}
use Rattle.tc_part_model.specs.Leaving.{LeavesStore, LogMomentsLeaveStore}
use Rattle.tc_part_model.specs.Meaning.{IsPart, HasFailedAs, plain_of}
use Rattle.tc_part_model.specs.PartFiles.{AreKeptAt, IfFiles, IsSealedFile, no_job}
use Rattle.tc_part_model.specs.PartState.{Told, IsTold}
use Rattle.tc_part_model.specs.PartView.{PartView, generation_of, stored_with, MayStart}
use Rattle.tc_part_model.proofs.Commits.{commit_keeps, failed_keeps, means_now, moment_leaves, uncalled_keeps}
use Rattle.tc_part_model.proofs.DeviceFiles.{some_sealed}
use Rattle.tc_part_model.proofs.ViewLaws.{kept-append, none_kept, commit_adds, commit_of_none, committed_memory, committed_names, nothing_starts}

abbrev kept_writes : List Write → List log.Write
kept_writes ws = map kept_write ws

abbrev head_of : PartView → LogHead
head_of p = log_head p.part (generation_of p)

abbrev Kept : PartView → List Disk → List DiskFile → Option (List DiskFile) → Type 0
Kept p disks log sealed = IfFiles disks log sealed (AreKeptAt p false None)

-- ---- the files

-- a log that tells goes on so
appended_tells : (p : PartView) (disks : List Disk) (old new : List DiskFile) (sealed : Option (List DiskFile)) → Kept p disks old sealed → Appends (kept_writes p.staged) old new
    → IfTold disks (λ disk. IsTold old) → IfTold disks (λ disk. IsTold new)
appended_tells p [] old new sealed kept appends tells = tt
appended_tells p (disk ∷ before) [] new sealed kept appends tells = absurd tells
appended_tells p (disk ∷ before) (f ∷ past) new sealed kept appends tells =
    let any = some_sealed sealed in
    let since = appends.moments (head_of p) (kept_writes p.active.writes) (means_now p disk f any.0 (kept any.0 any.1) appends.stays) in
    subst (λ l. IsTold l) (sym since.goes_on) (more since.added)
  where
    more : (added : List DiskFile) → IsTold (added ++ f ∷ past)
    more [] = tt
    more (x ∷ xs) = tt

committed_files : (p : PartView) (disks : List Disk) (old new : List DiskFile) (sealed : Option (List DiskFile)) → MayStart p → Kept p disks old sealed → IfTold disks (λ disk. IsTold old)
    → HasAppended (kept_writes p.staged) old new → Kept (committed_part p) disks new sealed
committed_files p [] old new sealed start kept tells has = tt
committed_files p (disk ∷ before) [] new sealed start kept tells has = absurd tells
committed_files p (disk ∷ before) (f ∷ past) [] sealed start kept tells has = tt
committed_files p (disk ∷ before) (f ∷ past) (x ∷ more) sealed start kept tells has = λ g is.
    let now = has.durable (head_of p) (kept_writes p.active.writes) (means_now p disk f g (kept g is) has.appends.stays) in
    commit_keeps p disk f g (kept g is) start x now.0 (subst (λ ws. Means x.content (head_of p) ws) (sym (kept-append p.active.writes p.staged)) now.1)

failed_files : (p : PartView) (disks : List Disk) (old new : List DiskFile) (sealed : Option (List DiskFile)) → MayStart p → Kept p disks old sealed → IfTold disks (λ disk. IsTold old)
    → Appends (kept_writes p.staged) old new → IfFiles disks new sealed (AreKeptAt p true (Some p.staged))
failed_files p [] old new sealed start kept tells appends = tt
failed_files p (disk ∷ before) [] new sealed start kept tells appends = absurd tells
failed_files p (disk ∷ before) (f ∷ past) [] sealed start kept tells appends = tt
failed_files p (disk ∷ before) (f ∷ past) (x ∷ more) sealed start kept tells appends = λ g is.
    failed_keeps p disk f g (kept g is) start x
    (appending p.part (generation_of p) p.active.writes p.staged x (appends.after (head_of p) (kept_writes p.active.writes) (means_now p disk f g (kept g is) appends.stays)))

uncalled_files : (p : PartView) (disks : List Disk) (log : List DiskFile) (sealed : Option (List DiskFile)) → MayStart p → Kept p disks log sealed → IfFiles disks log sealed (AreKeptAt p true (Some p.staged))
uncalled_files p [] log sealed start kept = tt
uncalled_files p (disk ∷ before) [] sealed start kept = tt
uncalled_files p (disk ∷ before) (f ∷ past) sealed start kept = λ g is. uncalled_keeps p disk f g (kept g is) start

-- ---- moments

moments_leave : (p : PartView) (disks : List Disk) (old new : List DiskFile) (sealed : Option (List DiskFile)) → MayStart p → Kept p disks old sealed → Appends (kept_writes p.staged) old new
    → IfTold disks λ disk. (g : DiskFile) → IsSealedFile sealed g → IfTold old λ f. EachSince (LeavesStore p (Some p.staged) no_job disk g) old new
moments_leave p [] old new sealed start kept appends = tt
moments_leave p (disk ∷ before) [] new sealed start kept appends = λ g is. tt
moments_leave p (disk ∷ before) (f ∷ past) new sealed start kept appends = λ g is.
    since_weaker (LeavesAt (MeansWithOrWithout (head_of p) (kept_writes p.active.writes) (kept_writes p.staged))) (LeavesStore p (Some p.staged) no_job disk g) (f ∷ past) new
    (λ x leaves. moment_leaves p disk f g (kept g is) start x (appending p.part (generation_of p) p.active.writes p.staged x leaves))
    (appends.moments (head_of p) (kept_writes p.active.writes) (means_now p disk f g (kept g is) appends.stays))

no_moments : (p : PartView) (disks : List Disk) (log : List DiskFile) (sealed : Option (List DiskFile))
    → IfTold disks λ disk. (g : DiskFile) → IsSealedFile sealed g → IfTold log λ f. EachSince (LeavesStore p (Some p.staged) no_job disk g) log log
no_moments p [] log sealed = tt
no_moments p (disk ∷ before) [] sealed = λ g is. tt
no_moments p (disk ∷ before) (f ∷ past) sealed = λ g is. EachSince-none (LeavesStore p (Some p.staged) no_job disk g) (f ∷ past) (f ∷ past) refl

-- ---- a part

module _ (t : Told) (p : PartView) (is : IsPart t p) where
  committed_told : (log : List DiskFile) → HasAppended (kept_writes p.staged) t.log log → IsPart (record t { staged = []; log = log }) (committed_part p)
  committed_told log has =
      let memory = committed_memory p is.memory is.staged in
      record {
        sound = is.sound;
        view = record {
          part = is.view.part;
          generation = is.view.generation;
          components = is.view.components;
          sealed = is.view.sealed;
          sealed_log = is.view.sealed_log;
          active = is.view.active;
          staged = refl;
          taken = subst (λ names. HasEach t.taken names) (sym (committed_names p is.memory)) is.view.taken;
          live = is.view.live ∙ ap (λ (pairs : Pairs). length pairs) (sym (commit_adds p));
          flushing = is.view.flushing;
          merging = is.view.merging;
        };
        memory = memory;
        staged = nothing_starts (committed_part p) refl memory;
        room = is.room;
        tells = record { active = appended_tells p t.disks t.log log t.sealed_log is.files.kept has.appends is.tells.active; sealed = is.tells.sealed };
        files = record { kept = committed_files p t.disks t.log log t.sealed_log is.staged is.files.kept is.tells.active has; jobs = is.files.jobs };
      }

  pub commit_is_part : (u : Told) → u ≡ record t { staged = []; log = u.log } → HasAppended t.staged t.log u.log → IsPart u (committed_part p)
  commit_is_part u same has =
      subst (λ x. IsPart x (committed_part p)) (sym same) (committed_told u.log (subst (λ ws. HasAppended ws t.log u.log) is.view.staged has))

  pub commit_moments : (log : List DiskFile) → Appends t.staged t.log log → LogMomentsLeaveStore p t log
  commit_moments log appends = moments_leave p t.disks t.log log t.sealed_log is.staged is.files.kept (subst (λ ws. Appends ws t.log log) is.view.staged appends)

  pub commit_no_moments : LogMomentsLeaveStore p t t.log
  commit_no_moments = no_moments p t.disks t.log t.sealed_log

  -- where the append failed
  pub commit_failed : (u : Told) → u.failed ≡ true → u.disks ≡ t.disks → u.sealed_log ≡ t.sealed_log → Appends t.staged t.log u.log → HasFailedAs u p (Some p.staged)
  commit_failed u failed disks sealed appends =
      let appends' = subst (λ ws. Appends ws t.log u.log) is.view.staged appends in
      record {
        failed = failed;
        tells = rw (disks, sealed) (record { active = appended_tells p t.disks t.log u.log t.sealed_log is.files.kept appends' is.tells.active; sealed = is.tells.sealed });
        files = rw (disks, sealed) (failed_files p t.disks t.log u.log t.sealed_log is.staged is.files.kept is.tells.active appends');
      }

  -- or where it was not called
  pub commit_not_begun : (u : Told) → u.failed ≡ true → u.disks ≡ t.disks → u.sealed_log ≡ t.sealed_log → u.log ≡ t.log → HasFailedAs u p (Some p.staged)
  commit_not_begun u failed disks sealed log = record {
    failed = failed;
    tells = rw (disks, sealed, log) is.tells;
    files = rw (disks, sealed, log) (uncalled_files p t.disks t.log t.sealed_log is.staged is.files.kept);
  }

  pub commit_nothing : t.staged ≡ [] → committed_part p ≡ p
  commit_nothing none = commit_of_none p (none_kept p.staged (sym none ∙ is.view.staged))

-- as a plain store it is the same
pub commit_plain : (t u : Told) (p : PartView) → u.taken ≡ t.taken → plain_of u (committed_part p) ≡ plain_of t p
commit_plain t u p same = ap (λ pairs. record { pairs = pairs; taken = u.taken }) (commit_adds p) ∙ ap (λ names. record { pairs = stored_with p; taken = names }) same
