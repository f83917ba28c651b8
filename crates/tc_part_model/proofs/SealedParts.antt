-- A seal of a part: done, at each moment, and where it failed.
use Rattle.std.proofs.Common.{◌≡◌, ◌+◌, List, [], refl, sym, ap, ◌∙◌, subst, Option, Some, None, false, true, arith, append-nil}
use Rattle.std.proofs.lemmas.List.Elements.{All-nil}
use Rattle.tc_model.specs.KnownNames.{HasEach}
use Rattle.tc_store.specs.declared.file_name.FileName.TheVariants.{Log}
use Rattle.tc_store.specs.Disk.{Disk, home, out, put}
use Rattle.tc_store.specs.DiskFile.{DiskFile, settled_file}
use Rattle.tc_store.specs.Moments.{IfTold}
use Rattle.tc_store.specs.StoreCalls.{FailsMaking, comes_home, fresh_file_at, makes}
use Rattle.tc_store.proofs.MomentLemmas.{told-goes_on, told_map}
use Rattle.tc_log.specs.declared.head.LogHead.{LogHead}
use Rattle.tc_log.specs.Spelling.{IsHead, log_at_rest}
use Rattle.tc_memory.specs.DocumentTables.{IsStoredAt}
use Rattle.tc_plain_model.specs.Store.{names_after}
use Rattle.tc_lsm_model.specs.Lists.{names_of}
use Rattle.tc_lsm_model.specs.Tables.{writes_of}
use Rattle.tc_machine.specs.Kept.{IsMemoryKept}
use Rattle.tc_machine.specs.Logs.{log_head}
use Rattle.tc_machine.specs.Sound.{IsFlushOf}
use Rattle.tc_machine.specs.State.{Sealed}
use Rattle.tc_machine.proofs.MemorySteps.{no_flush, sealing_memory}
use Rattle.tc_machine.specs.Writes.{HasRoom}
use Rattle.tc_machine.proofs.Holding.{holds}
use Rattle.tc_part_model.specs.Calls.{Creates, HasCreated}
use Rattle.tc_part_model.specs.Changes.{sealed_part}
use Rattle.tc_part_model.specs.Leaving.{NextLogMoments, StoreMomentsLeaveStore}
use Rattle.tc_part_model.specs.Meaning.{KeepsSealed, IsPart, HasFailedAs}
use Rattle.tc_part_model.specs.PartFiles.{AreKeptAt, AreJobsOut, IfFiles}
use Rattle.tc_part_model.specs.PartState.{Told, AreTold, IsTold}
use Rattle.tc_part_model.specs.PartView.{PartView, state_of, generation_of, next_of, names_in, store_of}
use Rattle.tc_part_model.proofs.DeviceFiles.{comes_untold, logs_tell}
use Rattle.tc_part_model.proofs.Seals.{bare, next_name}
use Rattle.tc_part_model.proofs.ToldFiles.{unmade_untold}
use Rattle.tc_part_model.proofs.ToldSeals.{broken_failed, broken_moments, created_moments, created_tells, made_moments, sealed_told, unmade_failed, unmade_moments}
use Rattle.tc_part_model.proofs.ViewLaws.{none_kept, nothing_starts}

-- ---- what may seal is bare

none_sealed : (T : Type 0) (o : Option Sealed) → KeepsSealed T o None → o ≡ None
none_sealed T None keeps = refl
none_sealed T (Some d) keeps = absurd keeps

is_bare : (t : Told) (p : PartView) → IsPart t p → t.sealed ≡ None → t.staged ≡ [] → bare p ≡ p
is_bare t p is none nothing =
    let sealed = none_sealed (AreTold t.components) p.sealed (subst (λ o. KeepsSealed (AreTold t.components) p.sealed o) none is.view.sealed) in
    let flush = no_flush p.list p.flush (subst (λ d. IsFlushOf p.list d p.flush) sealed is.memory.flush) in
    ap (λ d. record p { sealed = d; flush = None; staged = [] }) (sym sealed)
    ∙ ap (λ x. record p { flush = x; staged = [] }) (sym flush)
    ∙ ap (λ ws. record p { staged = ws }) (sym (none_kept p.staged (sym nothing ∙ is.view.staged)))

next_is : (p : PartView) → next_of (bare p) ≡ generation_of (bare p) + 1
next_is p = omega arith

-- ---- memory

sealed_memory : (p : PartView) → IsMemoryKept p.part (state_of (bare p)) → IsMemoryKept p.part (state_of (sealed_part (bare p)))
sealed_memory p memory = sealing_memory p.part (state_of (bare p)) p.active memory

sealed_names : (p : PartView) → names_in (sealed_part (bare p)) ≡ names_in (bare p)
sealed_names p = ap (names_after (names_of p.list)) (sym (append-nil (writes_of p.active.table)))

module _ (t : Told) (p : PartView) (is : IsPart t (bare p)) where
  next : t.generation + 1 ≡ next_of (bare p)
  next = ap (λ n. n + 1) is.view.generation ∙ sym (next_is p)

  of_head : (P : LogHead → Type 0) → P (log_head t.part (t.generation + 1)) → P (log_head p.part (next_of (bare p)))
  of_head P h = subst (λ n. P (log_head p.part n)) next (subst (λ part. P (log_head part (t.generation + 1))) is.view.part h)

  module _ (device : List DiskFile) (fresh : device ≡ fresh_file_at (Log (t.generation + 1)) t.disks) where
    -- the creation, as one of the next log of the part
    creates_next : (new : List DiskFile) → Creates (log_head t.part (t.generation + 1)) device new → Creates (log_head p.part (next_of (bare p))) (fresh_file_at (next_name p) t.disks) new
    creates_next new creates =
        of_head (λ head. Creates head (fresh_file_at (next_name p) t.disks) new)
        (subst (λ d. Creates (log_head t.part (t.generation + 1)) d new) (fresh ∙ ap (λ n. fresh_file_at (Log n) t.disks) next) creates)

    bare_seals : (log : List DiskFile) → IsHead (log_head t.part (t.generation + 1)) → HasCreated (log_head t.part (t.generation + 1)) device log
        → IsPart (record t { disks = makes (Log (t.generation + 1)) t.disks; log = log; sealed_log = Some t.log; generation = t.generation + 1; sealed = Some t.active; active = [] }) (sealed_part (bare p))
    bare_seals log head has =
        let head' = of_head (λ h. IsHead h) head in
        let creates = creates_next log has.creates in
        let memory = sealed_memory p is.memory in
        record {
          sound = is.sound;
          view = record {
            part = is.view.part;
            generation = next;
            components = is.view.components;
            sealed = (refl, is.view.active);
            sealed_log = refl;
            active = record { stored = All-nil IsStoredAt; holds = refl; shapes = λ are_told. refl };
            staged = is.view.staged;
            taken = subst (λ names. HasEach t.taken names) (sym (sealed_names p)) is.view.taken;
            live = is.view.live;
            flushing = is.view.flushing;
            merging = is.view.merging;
          };
          memory = memory;
          staged = nothing_starts (sealed_part (bare p)) refl memory;
          room = subst (λ pairs. HasRoom pairs) (sym (holds is.memory)) is.memory.room;
          tells = record {
            active = subst (λ n. IfTold (makes (Log n) t.disks) (λ disk. IsTold log)) (sym next) (created_tells p head' t.disks log creates);
            sealed = subst (λ n. IfTold (makes (Log n) t.disks) (λ disk. IsTold t.log)) (sym next) (told-goes_on (λ disk. IsTold t.log) (put (next_name p) out) t.disks is.tells.active);
          };
          files = record {
            kept = subst (λ n. IfFiles (makes (Log n) t.disks) log (Some t.log) (AreKeptAt (sealed_part (bare p)) false None)) (sym next)
                (sealed_told p head' t.disks t.log log t.sealed_log is.tells.active is.files.kept head'.last (of_head (λ h. IfTold log (λ f. f ≡ settled_file (log_at_rest h []))) has.content));
            jobs = told-goes_on (AreJobsOut None p.merge) (put (Log (t.generation + 1)) out) t.disks
                (told_map (AreJobsOut None p.merge) (λ disk. AreJobsOut None p.merge (put (Log (t.generation + 1)) out disk)) t.disks (λ disk jobs. record { flush_out = tt; merge_out = jobs.merge_out }) is.files.jobs);
          };
        }

    bare_next_moments : (log : List DiskFile) → IsHead (log_head t.part (t.generation + 1)) → Creates (log_head t.part (t.generation + 1)) device log → NextLogMoments (bare p) log
    bare_next_moments log head creates = created_moments p (of_head (λ h. IsHead h) head) t.disks t.log log t.sealed_log is.tells.active is.files.kept (creates_next log creates)

    bare_broken_moments : (broken : List DiskFile) → IsHead (log_head t.part (t.generation + 1)) → Creates (log_head t.part (t.generation + 1)) device broken
        → StoreMomentsLeaveStore (bare p) (bare p) t (comes_home (Log (t.generation + 1)) (λ x. home x) broken (makes (Log (t.generation + 1)) t.disks))
    bare_broken_moments broken head creates =
        subst (λ n. StoreMomentsLeaveStore (bare p) (bare p) t (comes_home (Log n) (λ x. home x) broken (makes (Log n) t.disks))) (sym next)
        (broken_moments p (of_head (λ h. IsHead h) head) t.disks t.log broken t.sealed_log is.files.kept (creates_next broken creates))

    bare_broken : (u : Told) (broken : List DiskFile) → IsHead (log_head t.part (t.generation + 1)) → Creates (log_head t.part (t.generation + 1)) device broken → u.failed ≡ true → u.log ≡ t.log → u.sealed_log ≡ t.sealed_log
        → u.disks ≡ comes_home (Log (t.generation + 1)) (λ x. home x) broken (makes (Log (t.generation + 1)) t.disks) → HasFailedAs u (bare p) None
    bare_broken u broken head creates failed log sealed disks =
        let same : u.disks ≡ comes_home (next_name p) (λ x. home x) broken (makes (next_name p) t.disks) = disks ∙ ap (λ n. comes_home (Log n) (λ x. home x) broken (makes (Log n) t.disks)) next in
        record {
          failed = failed;
          tells = rw (same, log, sealed) (logs_tell t.disks (comes_home (next_name p) (λ x. home x) broken (makes (next_name p) t.disks)) t.log t.sealed_log
              (λ none. ap (λ ds. comes_home (next_name p) (λ x. home x) broken (makes (next_name p) ds)) none ∙ comes_untold (next_name p) (λ x. home x) broken) is.tells);
          files = rw (same, log, sealed) (broken_failed p (of_head (λ h. IsHead h) head) t.disks t.log broken t.sealed_log is.tells.active is.files.kept (creates_next broken creates));
        }

  bare_made_moments : StoreMomentsLeaveStore (bare p) (bare p) t (makes (Log (t.generation + 1)) t.disks)
  bare_made_moments = subst (λ n. StoreMomentsLeaveStore (bare p) (bare p) t (makes (Log n) t.disks)) (sym next) (made_moments p t.disks t.log t.sealed_log is.files.kept)

  bare_unmade_moments : (disks : List Disk) → FailsMaking (Log (t.generation + 1)) t.disks disks → StoreMomentsLeaveStore (bare p) (bare p) t disks
  bare_unmade_moments disks fails = unmade_moments p t.disks disks t.log t.sealed_log is.files.kept (subst (λ n. FailsMaking (Log n) t.disks disks) next fails)

  bare_unmade : (u : Told) → u.failed ≡ true → u.log ≡ t.log → u.sealed_log ≡ t.sealed_log → FailsMaking (Log (t.generation + 1)) t.disks u.disks → HasFailedAs u (bare p) None
  bare_unmade u failed log sealed fails =
      let fails' = subst (λ n. FailsMaking (Log n) t.disks u.disks) next fails in
      record {
        failed = failed;
        tells = rw (log, sealed) (logs_tell t.disks u.disks t.log t.sealed_log (unmade_untold (next_name p) t.disks u.disks fails') is.tells);
        files = rw (log, sealed) (unmade_failed p t.disks u.disks t.log t.sealed_log is.files.kept fails');
      }

-- ---- of any part that may seal

module _ (t : Told) (p : PartView) (is : IsPart t p) (none : t.sealed ≡ None) (nothing : t.staged ≡ []) where
  same : bare p ≡ p
  same = is_bare t p is none nothing

  is_bare_part : IsPart t (bare p)
  is_bare_part = subst (λ q. IsPart t q) (sym same) is

  pub seal_stored : store_of (sealed_part p) ≡ store_of p
  seal_stored = subst (λ q. store_of (sealed_part q) ≡ store_of q) same refl

  pub seal_made_moments : StoreMomentsLeaveStore p p t (makes (Log (t.generation + 1)) t.disks)
  seal_made_moments = subst (λ q. StoreMomentsLeaveStore q q t (makes (Log (t.generation + 1)) t.disks)) same (bare_made_moments t p is_bare_part)

  pub seal_unmade_moments : (disks : List Disk) → FailsMaking (Log (t.generation + 1)) t.disks disks → StoreMomentsLeaveStore p p t disks
  seal_unmade_moments disks fails = subst (λ q. StoreMomentsLeaveStore q q t disks) same (bare_unmade_moments t p is_bare_part disks fails)

  pub seal_unmade : (u : Told) → u.failed ≡ true → u.log ≡ t.log → u.sealed_log ≡ t.sealed_log → FailsMaking (Log (t.generation + 1)) t.disks u.disks → HasFailedAs u p None
  seal_unmade u failed log sealed fails = subst (λ q. HasFailedAs u q None) same (bare_unmade t p is_bare_part u failed log sealed fails)

  module _ (device : List DiskFile) (fresh : device ≡ fresh_file_at (Log (t.generation + 1)) t.disks) (head : IsHead (log_head t.part (t.generation + 1))) where
    pub seal_is_part : (u : Told) → HasCreated (log_head t.part (t.generation + 1)) device u.log
        → u ≡ record t { disks = makes (Log (t.generation + 1)) t.disks; log = u.log; sealed_log = Some t.log; generation = t.generation + 1; sealed = Some t.active; active = [] } → IsPart u (sealed_part p)
    seal_is_part u has is_u = subst (λ x. IsPart x (sealed_part p)) (sym is_u) (subst (λ q. IsPart (record t { disks = makes (Log (t.generation + 1)) t.disks; log = u.log; sealed_log = Some t.log; generation = t.generation + 1; sealed = Some t.active; active = [] }) (sealed_part q)) same
        (bare_seals t p is_bare_part device fresh u.log head has))

    pub seal_next_moments : (log : List DiskFile) → Creates (log_head t.part (t.generation + 1)) device log → NextLogMoments p log
    seal_next_moments log creates = subst (λ q. NextLogMoments q log) same (bare_next_moments t p is_bare_part device fresh log head creates)

    pub seal_broken_moments : (broken : List DiskFile) → Creates (log_head t.part (t.generation + 1)) device broken
        → StoreMomentsLeaveStore p p t (comes_home (Log (t.generation + 1)) (λ x. home x) broken (makes (Log (t.generation + 1)) t.disks))
    seal_broken_moments broken creates =
        subst (λ q. StoreMomentsLeaveStore q q t (comes_home (Log (t.generation + 1)) (λ x. home x) broken (makes (Log (t.generation + 1)) t.disks))) same
        (bare_broken_moments t p is_bare_part device fresh broken head creates)

    pub seal_broken : (u : Told) (broken : List DiskFile) → Creates (log_head t.part (t.generation + 1)) device broken → u.failed ≡ true → u.log ≡ t.log → u.sealed_log ≡ t.sealed_log
        → u.disks ≡ comes_home (Log (t.generation + 1)) (λ x. home x) broken (makes (Log (t.generation + 1)) t.disks) → HasFailedAs u p None
    seal_broken u broken creates failed log sealed disks =
        subst (λ q. HasFailedAs u q None) same (bare_broken t p is_bare_part device fresh u broken head creates failed log sealed disks)
