-- A part of which a flush or a merge begins: done, at each moment, and where its file was not made.
use Rattle.std.proofs.Common.{◌≡◌, ◌≤◌, ◌+◌, ◌-◌, ◌⊎◌, ℕ, List, length, refl, sym, ap, ◌∙◌, subst, inl, arith, Option, Some, None, false, true, is_some}
use Rattle.std.specs.Prelude.{IfSome, IsSome, option_map}
use Rattle.tc_store.specs.declared.file_name.FileName.{FileName}
use Rattle.tc_store.specs.declared.file_name.FileName.TheVariants.{Component}
use Rattle.tc_store.specs.Disk.{Disk, IsThere, out, put}
use Rattle.tc_store.specs.DiskFile.{DiskFile}
use Rattle.tc_store.specs.StoreCalls.{FailsMaking, makes}
use Rattle.tc_store.proofs.MomentLemmas.{told-goes_on, told_map}
use Rattle.tc_store.proofs.NameLemmas.{put_there}
use Rattle.tc_memory.specs.Table as memory
use Rattle.tc_lsm_model.specs.Contents.{Content}
use Rattle.tc_lsm_model.specs.Lists.{last_of}
use Rattle.tc_lsm_model.specs.Merges.{IsMerge, Run, in_run}
use Rattle.tc_machine.specs.Components.{file_of}
use Rattle.tc_machine.specs.State.{Flushing, Merging, Sealed, flush_name, flushing_of, sealed_logs}
use Rattle.tc_machine.proofs.FilesLeft.{at_name}
use Rattle.tc_machine.proofs.MemorySteps.{flush_begun_memory, merge_begun_memory}
use Rattle.tc_machine.proofs.Options.{if_some_map}
use Rattle.tc_part_model.specs.Changes.{flushing_part, merging_part}
use Rattle.tc_part_model.specs.Leaving.{LeavesStoreAt, StoreMomentsLeaveStore}
use Rattle.tc_part_model.specs.Meaning.{HasFailedAs, IsPart, KeepsSealed}
use Rattle.tc_part_model.specs.PartFiles.{AreJobsOut, AreKeptAt}
use Rattle.tc_part_model.specs.PartState.{AreTold, Told}
use Rattle.tc_part_model.specs.PartView.{PartView, state_of}
use Rattle.tc_part_model.proofs.Beginnings.{flush_begins, flush_free, kept_leaves, merge_begins, merge_free, waste_keeps}
use Rattle.tc_part_model.proofs.DeviceFiles.{logs_tell}
use Rattle.tc_part_model.proofs.Failures.{failing_keeps}
use Rattle.tc_part_model.proofs.ToldFiles.{if_files_goes_on, if_files_unmade, moments_goes_on, moments_unmade, unmade_untold, wasted}

-- the sealed table that is told
told_sealed : (T : Type 0) (o : Option Sealed) (kept : memory.Table) → KeepsSealed T o (Some kept) → (d : Sealed) × (o ≡ Some d) × (length d.logs ≡ 1)
told_sealed T None kept keeps = absurd keeps
told_sealed T (Some d) kept keeps = (d, refl, keeps.0)

no_flush_out : (o : Option Flushing) → false ≡ is_some o → o ≡ None
no_flush_out None is = refl
no_flush_out (Some f) is = absurd (cc)

no_merge_out : (o : Option Merging) → None ≡ option_map (λ m. m.run) o → o ≡ None
no_merge_out None is = refl
no_merge_out (Some m) is = absurd (cc)

-- a merge stays out where another file comes to be out
merge_still : (name : FileName) (disk : Disk) (o : Option Merging) → IfSome o (λ m. disk (file_of m.target) ≡ out) → IfSome o (λ m. put name out disk (file_of m.target) ≡ out)
merge_still name disk o all = if_some_map (λ m. disk (file_of m.target) ≡ out) (λ m. put name out disk (file_of m.target) ≡ out) o
    (λ m is was. at_name name (file_of m.target) out disk (λ e. e ≡ out) (λ same. refl) (λ apart. was)) all

flush_still : (name : FileName) (disk : Disk) (o : Option Flushing) → IfSome o (λ j. disk (flush_name j) ≡ out) → IfSome o (λ j. put name out disk (flush_name j) ≡ out)
flush_still name disk o all = if_some_map (λ j. disk (flush_name j) ≡ out) (λ j. put name out disk (flush_name j) ≡ out) o
    (λ j is was. at_name name (flush_name j) out disk (λ e. e ≡ out) (λ same. refl) (λ apart. was)) all

module _ (t : Told) (p : PartView) (is : IsPart t p) where
  -- ---- a file that was to be made

  unmade : (from to : ℕ) → ((disk : Disk) (f g : DiskFile) → AreKeptAt p false None disk f g → IsThere (disk (Component from to)) → ⊥) → (u : Told) → u.failed ≡ true → u.log ≡ t.log → u.sealed_log ≡ t.sealed_log
      → FailsMaking (Component from to) t.disks u.disks → HasFailedAs u p None
  unmade from to free u failed log sealed fails = record {
    failed = failed;
    tells = rw (log, sealed) (logs_tell t.disks u.disks t.log t.sealed_log (unmade_untold (Component from to) t.disks u.disks fails) is.tells);
    files = rw (log, sealed) (if_files_unmade (Component from to) (AreKeptAt p false None) (AreKeptAt p true None) t.disks u.disks t.log t.sealed_log (failing_keeps p)
        (λ disk f g k. waste_keeps p disk f g k from to (free disk f g k)) is.files.kept fails);
  }

  unmade_moments : (from to : ℕ) → ((disk : Disk) (f g : DiskFile) → AreKeptAt p false None disk f g → IsThere (disk (Component from to)) → ⊥) → (disks : List Disk) → FailsMaking (Component from to) t.disks disks → StoreMomentsLeaveStore p p t disks
  unmade_moments from to free disks fails =
      moments_unmade (Component from to) (AreKeptAt p false None) (λ disk f g. LeavesStoreAt p None g f disk ⊎ LeavesStoreAt p None g f disk) t.disks disks t.log t.sealed_log
      (λ disk f g k. inl (kept_leaves p true (wasted (Component from to) disk) f g (waste_keeps p disk f g k from to (free disk f g k)))) is.files.kept fails

  -- ---- a flush

  pub sealed_found : (kept : memory.Table) → t.sealed ≡ Some kept → (d : Sealed) × (p.sealed ≡ Some d) × (length d.logs ≡ 1)
  sealed_found kept some = told_sealed (AreTold t.components) p.sealed kept (subst (λ o. KeepsSealed (AreTold t.components) p.sealed o) some is.view.sealed)

  module _ (kept : memory.Table) (some : t.sealed ≡ Some kept) (none : t.flushing ≡ false) where
    none_out : p.flush ≡ None
    none_out = no_flush_out p.flush (sym none ∙ is.view.flushing)

    one_log : length (sealed_logs p.sealed) ≡ 1
    one_log = ap (λ o. length (sealed_logs o)) (sealed_found kept some).1 ∙ (sealed_found kept some).2

    named : Component (t.generation - 1) (t.generation - 1) ≡ flush_name (flushing_of (state_of p))
    named = ap (λ n. Component n (t.generation - 1)) (omega (arith, is.view.generation, one_log)) ∙ ap (λ n. Component (last_of p.list + 1) n) (omega (arith, is.view.generation, one_log))

    flush_told : IsPart (record t { disks = makes (flush_name (flushing_of (state_of p))) t.disks; flushing = true }) (flushing_part p)
    flush_told =
        let name = flush_name (flushing_of (state_of p)) in
        record {
          sound = is.sound;
          view = record {
            part = is.view.part;
            generation = is.view.generation;
            components = is.view.components;
            sealed = is.view.sealed;
            sealed_log = is.view.sealed_log;
            active = is.view.active;
            staged = is.view.staged;
            taken = is.view.taken;
            live = is.view.live;
            flushing = refl;
            merging = is.view.merging;
          };
          memory = flush_begun_memory p.part (state_of p) is.memory (subst (λ o. IsSome o) (sym (sealed_found kept some).1) refl);
          staged = record { each = is.staged.each; room = is.staged.room; few = is.staged.few };
          room = is.room;
          tells = logs_tell t.disks (makes name t.disks) t.log t.sealed_log (λ untold. ap (makes name) untold) is.tells;
          files = record {
            kept = if_files_goes_on (put name out) (AreKeptAt p false None) (AreKeptAt (flushing_part p) false None) t.disks t.log t.sealed_log (λ disk f g k. flush_begins p disk f g k (sealed_found kept some).0 (sealed_found kept some).1 none_out) is.files.kept;
            jobs = told-goes_on (AreJobsOut (Some (flushing_of (state_of p))) p.merge) (put name out) t.disks
                (told_map (AreJobsOut p.flush p.merge) (λ disk. AreJobsOut (Some (flushing_of (state_of p))) p.merge (put name out disk)) t.disks
                (λ disk jobs. record { flush_out = put_there name out disk; merge_out = merge_still name disk p.merge jobs.merge_out }) is.files.jobs);
          };
        }

    pub flush_is_part : (u : Told) → u ≡ record t { disks = makes (Component (t.generation - 1) (t.generation - 1)) t.disks; flushing = true } → IsPart u (flushing_part p)
    flush_is_part u same = subst (λ x. IsPart x (flushing_part p)) (sym (same ∙ ap (λ n. record t { disks = makes n t.disks; flushing = true }) named)) flush_told

    pub flush_moments : StoreMomentsLeaveStore (flushing_part p) (flushing_part p) t (makes (Component (t.generation - 1) (t.generation - 1)) t.disks)
    flush_moments = subst (λ n. StoreMomentsLeaveStore (flushing_part p) (flushing_part p) t (makes n t.disks)) (sym named)
        (moments_goes_on (put (flush_name (flushing_of (state_of p))) out) (AreKeptAt p false None) (λ disk f g. LeavesStoreAt (flushing_part p) None g f disk ⊎ LeavesStoreAt (flushing_part p) None g f disk) t.disks t.log t.sealed_log
        (λ disk f g k. inl (kept_leaves (flushing_part p) false (put (flush_name (flushing_of (state_of p))) out disk) f g (flush_begins p disk f g k (sealed_found kept some).0 (sealed_found kept some).1 none_out))) is.files.kept)

    flush_free_at : (disk : Disk) (f g : DiskFile) → AreKeptAt p false None disk f g → IsThere (disk (Component (t.generation - 1) (t.generation - 1))) → ⊥
    flush_free_at disk f g k = subst (λ n. IsThere (disk n) → ⊥) (sym named) (flush_free p disk f g k (sealed_found kept some).0 (sealed_found kept some).1 none_out)

    pub flush_unmade : (u : Told) → u.failed ≡ true → u.log ≡ t.log → u.sealed_log ≡ t.sealed_log → FailsMaking (Component (t.generation - 1) (t.generation - 1)) t.disks u.disks → HasFailedAs u p None
    flush_unmade = unmade (t.generation - 1) (t.generation - 1) flush_free_at

    pub flush_unmade_moments : (disks : List Disk) → FailsMaking (Component (t.generation - 1) (t.generation - 1)) t.disks disks → StoreMomentsLeaveStore p p t disks
    flush_unmade_moments = unmade_moments (t.generation - 1) (t.generation - 1) flush_free_at

  -- ---- a merge

  module _ (run : Run) (c : Content) (two : 2 ≤ run.length) (within : run.first + run.length ≤ length p.list) (is_merge : IsMerge (in_run run p.list) c) (none : t.merging ≡ None) where
    none_merging : p.merge ≡ None
    none_merging = no_merge_out p.merge (sym none ∙ is.view.merging)

    merge_free_at : (disk : Disk) (f g : DiskFile) → AreKeptAt p false None disk f g → IsThere (disk (file_of c)) → ⊥
    merge_free_at disk f g k = merge_free p disk f g k run c two within is_merge none_merging

    merge_told : IsPart (record t { disks = makes (file_of c) t.disks; merging = Some run }) (merging_part run c p)
    merge_told = record {
      sound = is.sound;
      view = record {
        part = is.view.part;
        generation = is.view.generation;
        components = is.view.components;
        sealed = is.view.sealed;
        sealed_log = is.view.sealed_log;
        active = is.view.active;
        staged = is.view.staged;
        taken = is.view.taken;
        live = is.view.live;
        flushing = is.view.flushing;
        merging = refl;
      };
      memory = merge_begun_memory p.part (state_of p) run c is.memory two within is_merge;
      staged = record { each = is.staged.each; room = is.staged.room; few = is.staged.few };
      room = is.room;
      tells = logs_tell t.disks (makes (file_of c) t.disks) t.log t.sealed_log (λ untold. ap (makes (file_of c)) untold) is.tells;
      files = record {
        kept = if_files_goes_on (put (file_of c) out) (AreKeptAt p false None) (AreKeptAt (merging_part run c p) false None) t.disks t.log t.sealed_log (λ disk f g k. merge_begins p disk f g k run c two within is_merge none_merging) is.files.kept;
        jobs = told-goes_on (AreJobsOut p.flush (Some (record { run = run; target = c }))) (put (file_of c) out) t.disks
            (told_map (AreJobsOut p.flush p.merge) (λ disk. AreJobsOut p.flush (Some (record { run = run; target = c })) (put (file_of c) out disk)) t.disks
            (λ disk jobs. record { flush_out = flush_still (file_of c) disk p.flush jobs.flush_out; merge_out = put_there (file_of c) out disk }) is.files.jobs);
      };
    }

    pub merge_is_part : (u : Told) → u ≡ record t { disks = makes (file_of c) t.disks; merging = Some run } → IsPart u (merging_part run c p)
    merge_is_part u same = subst (λ x. IsPart x (merging_part run c p)) (sym same) merge_told

    pub merge_moments : StoreMomentsLeaveStore (merging_part run c p) (merging_part run c p) t (makes (file_of c) t.disks)
    merge_moments =
        moments_goes_on (put (file_of c) out) (AreKeptAt p false None) (λ disk f g. LeavesStoreAt (merging_part run c p) None g f disk ⊎ LeavesStoreAt (merging_part run c p) None g f disk) t.disks t.log t.sealed_log
        (λ disk f g k. inl (kept_leaves (merging_part run c p) false (put (file_of c) out disk) f g (merge_begins p disk f g k run c two within is_merge none_merging))) is.files.kept

    pub merge_unmade : (u : Told) → u.failed ≡ true → u.log ≡ t.log → u.sealed_log ≡ t.sealed_log → FailsMaking (file_of c) t.disks u.disks → HasFailedAs u p None
    merge_unmade = unmade c.from c.to merge_free_at

    pub merge_unmade_moments : (disks : List Disk) → FailsMaking (file_of c) t.disks disks → StoreMomentsLeaveStore p p t disks
    merge_unmade_moments = unmade_moments c.from c.to merge_free_at
