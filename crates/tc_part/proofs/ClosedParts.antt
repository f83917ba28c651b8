-- A part that is closed leaves what was stored in its store.
use Rattle.std.proofs.Common.{◌≡◌, ◌∙◌, ◌<◌, ◌+◌, ◌-◌, ℕ, true, false, List, Option, Some, None, length, is_some, option_map, refl, sym, ap, subst, arith}
use Rattle.std.specs.Prelude.{IfSome, IsSome, not}
use Rattle.std.proofs.lemmas.Option.{same_Some}
use Rattle.tc_store.specs.declared.file_name.FileName.{FileName}
use Rattle.tc_store.specs.declared.file_name.FileName.TheVariants.{Log}
use Rattle.tc_store.specs.Disk.{Disk, home}
use Rattle.tc_store.specs.DiskFile.{DiskFile}
use Rattle.tc_store.specs.Moments.{IfTold}
use Rattle.tc_store.specs.StoreCalls.{comes_home}
use Rattle.tc_log.specs.Appending.{LogState}
use Rattle.tc_memory.specs.Table as memory
use Rattle.tc_plain_model.specs.Writes.{Write}
use Rattle.tc_lsm_model.specs.Lists.{last_of}
use Rattle.tc_machine.specs.State.{Sealed, logs, sealed_logs}
use Rattle.tc_part_model.specs.Calls.{RestsWith}
use Rattle.tc_part_model.specs.Leaving.{FailedMomentsLeaveStore, KeepsStore, OpensAs}
use Rattle.tc_part_model.specs.Meaning.{IsPart, HasFailedAs, KeepsSealed}
use Rattle.tc_part_model.specs.PartFiles.{active_name, sealed_name}
use Rattle.tc_part_model.specs.PartState.{Told, AreTold}
use Rattle.tc_part_model.specs.PartView.{PartView, state_of, store_of}
use Rattle.tc_part_model.proofs.ClosedPictures.{close_both_open, close_opens}
use Rattle.tc_part_model.proofs.Closes.{close_stores, close_both_stores}
use Rattle.tc_part_model.proofs.FailedParts.{fails_so}
use Rattle.tc_part_model.proofs.HomeMoments.{close_moments, close_both_moments}
use Rattle.tc_part.specs.Closing.{brought_home, logs_length, HasFailedWhole, HasLogsOf}

-- ---- the logs of a part that runs

one_log : (are_told : Type 0) (sealed : Option Sealed) (kept : Option memory.Table) → KeepsSealed are_told sealed kept → IfSome sealed (λ d. length d.logs ≡ 1)
one_log are_told None kept keeps = tt
one_log are_told (Some d) None keeps = absurd keeps
one_log are_told (Some d) (Some kept) keeps = keeps.0

pub logs_of : (t : Told) (p : PartView) → IsPart t p → HasLogsOf t p
logs_of t p is = record { generation = is.view.generation; sealed_log = is.view.sealed_log; one = one_log (AreTold t.components) p.sealed t.sealed is.view.sealed }

-- another one has them too that has as many
pub logs_like : (t u : Told) (p : PartView) → HasLogsOf t p → u.generation ≡ t.generation → is_some u.sealed_log ≡ is_some t.sealed_log → HasLogsOf u p
logs_like t u p logs generation sealed_log = record { generation = generation ∙ logs.generation; sealed_log = sealed_log ∙ logs.sealed_log; one = logs.one }

-- ---- what the store keeps

-- one log is sealed
pub one_sealed : (p : PartView) → IsSome p.sealed → IfSome p.sealed (λ d. length d.logs ≡ 1) → length (sealed_logs p.sealed) ≡ 1
one_sealed p some one = at p.sealed some one
  where
    at : (o : Option Sealed) → IsSome o → IfSome o (λ d. length d.logs ≡ 1) → length (sealed_logs o) ≡ 1
    at None some one = absurd (cc)
    at (Some d) some one = one

some_of : {A : Type 0} (o : Option A) → true ≡ is_some o → IsSome o
some_of None is = absurd (cc)
some_of (Some a) is = refl

-- What is so once the device of the active log is at home, and that of the sealed log behind it, is so of a part that is closed.
closed_by : (t : Told) (p : PartView) (Q : List Disk → Type 0) → HasLogsOf t p → (t.sealed_log ≡ None → Q (comes_home (active_name p) (λ f. home f) t.log t.disks))
    → ((covered : List DiskFile) → t.sealed_log ≡ Some covered → IsSome p.sealed → 0 < length (sealed_logs p.sealed) → Q (comes_home (sealed_name p) (λ f. home f) covered (comes_home (active_name p) (λ f. home f) t.log t.disks)))
    → Q (brought_home (Log t.generation) t.log (option_map (λ moments. (Log (t.generation - 1), moments)) t.sealed_log) t.disks)
closed_by t p Q logs one both = at t.sealed_log refl
  where
    active : Log t.generation ≡ active_name p
    active = ap (λ g. Log g) logs.generation

    at : (o : Option (List DiskFile)) → t.sealed_log ≡ o → Q (brought_home (Log t.generation) t.log (option_map (λ moments. (Log (t.generation - 1), moments)) o) t.disks)
    at None is = subst (λ name. Q (comes_home name (λ f. home f) t.log t.disks)) (sym active) (one is)
    at (Some covered) is =
        let some : IsSome p.sealed = some_of p.sealed (sym (ap (λ o. is_some o) is) ∙ logs.sealed_log) in
        let only = one_sealed p some logs.one in
        let behind : t.generation - 1 ≡ last_of p.list + 1 = omega (arith, logs.generation, only) in
        subst (λ name. Q (comes_home name (λ f. home f) covered (comes_home (Log t.generation) (λ f. home f) t.log t.disks))) (sym (ap (λ g. Log g) behind))
        (subst (λ name. Q (comes_home (sealed_name p) (λ f. home f) covered (comes_home name (λ f. home f) t.log t.disks))) (sym active) (both covered is some (omega (arith, only))))

pub closed_keeps : (t : Told) (p : PartView) (frame : Option (List Write)) → HasFailedAs t p frame → HasLogsOf t p
    → IfTold (brought_home (Log t.generation) t.log (option_map (λ moments. (Log (t.generation - 1), moments)) t.sealed_log) t.disks) (KeepsStore p.part (store_of p) frame)
closed_keeps t p frame failed logs = closed_by t p (λ disks. IfTold disks (KeepsStore p.part (store_of p) frame)) logs (λ none. close_stores t p frame failed) (λ covered. close_both_stores t p frame covered failed)

pub closed_moments : (t : Told) (p : PartView) (frame : Option (List Write)) → HasFailedAs t p frame → HasLogsOf t p
    → FailedMomentsLeaveStore p frame t (brought_home (Log t.generation) t.log (option_map (λ moments. (Log (t.generation - 1), moments)) t.sealed_log) t.disks)
closed_moments t p frame failed logs = closed_by t p (FailedMomentsLeaveStore p frame t) logs (λ none. close_moments t p frame failed) (λ covered. close_both_moments t p frame covered failed)

-- a part that runs is one that fails, as far as its files go
fails_whole : (t : Told) (p : PartView) → IsPart t p → HasFailedWhole (record t { failed = true }) p
fails_whole t p is =
    (fails_so t (record t { failed = true }) p is refl refl refl refl, logs_like t (record t { failed = true }) p (logs_of t p is) refl refl)

pub closed_runs : (t : Told) (p : PartView) → IsPart t p
    → IfTold (brought_home (Log t.generation) t.log (option_map (λ moments. (Log (t.generation - 1), moments)) t.sealed_log) t.disks) (KeepsStore p.part (store_of p) None)
closed_runs t p is = let fails = fails_whole t p is in closed_keeps (record t { failed = true }) p None fails.0 fails.1

pub closed_run_moments : (t : Told) (p : PartView) → IsPart t p
    → FailedMomentsLeaveStore p None t (brought_home (Log t.generation) t.log (option_map (λ moments. (Log (t.generation - 1), moments)) t.sealed_log) t.disks)
closed_run_moments t p is = let fails = fails_whole t p is in closed_moments (record t { failed = true }) p None fails.0 fails.1

-- ---- as what the store opens

pub some_then : {A : Type 0} (P Q : A → Type 0) (o : Option A) → IfSome o P → IfSome o (λ a. P a → Q a) → IfSome o Q
some_then P Q None is goes = tt
some_then P Q (Some a) is goes = goes is

-- nothing is pending on both logs
pub record LogsRest {D : Type 0} (size : D → ℕ) (moments : D → List DiskFile) (log : LogState D) (sealed : Option (LogState D)) : Type 0 where
  pub active : IfTold (moments log.device) (RestsWith (size log.device))
  pub covered : IfSome sealed (λ l. IfTold (moments l.device) (RestsWith (size l.device)))

pub closed_opens : {D : Type 0} (t : Told) (p : PartView) (size : D → ℕ) (moments : D → List DiskFile) (log : LogState D) (sealed : Option (LogState D)) → IsPart t p → t.flushing ≡ false → t.merging ≡ None
    → t.log ≡ moments log.device → t.sealed_log ≡ option_map (λ l. moments l.device) sealed → LogsRest size moments log sealed
    → IfTold (brought_home (Log t.generation) t.log (option_map (λ x. (Log (t.generation - 1), x)) t.sealed_log) t.disks) (OpensAs p.part p.list (logs (state_of p)) (logs_length size log sealed))
closed_opens t p size moments log None is no_flush no_merge active covered rests =
    closed_by t p (λ disks. IfTold disks (OpensAs p.part p.list (logs (state_of p)) (size log.device))) (logs_of t p is)
    (λ none. close_opens t p (size log.device) is no_flush no_merge none (subst (λ l. IfTold l (RestsWith (size log.device))) (sym active) rests.active))
    (λ other some. absurd (cc))
closed_opens t p size moments log (Some l) is no_flush no_merge active covered rests =
    closed_by t p (λ disks. IfTold disks (OpensAs p.part p.list (logs (state_of p)) (size l.device + size log.device))) (logs_of t p is)
    (λ none. absurd (cc))
    (λ other some sealed behind. close_both_open t p (size log.device) (size l.device) other is no_flush no_merge some sealed (one_sealed p sealed (logs_of t p is).one)
    (subst (λ l. IfTold l (RestsWith (size log.device))) (sym active) rests.active)
    (subst (λ (o : List DiskFile). IfTold o (RestsWith (size l.device))) (same_Some (moments l.device) other (sym covered ∙ some)) rests.covered))

-- ---- the devices

-- devices come home by the names of their logs
pub named_logs : {D : Type 0} (name : D → FileName) (moments : D → List DiskFile) (generation : ℕ) (log : LogState D) (sealed : Option (LogState D)) (disks : List Disk) → name log.device ≡ Log generation
    → IfSome sealed (λ l. name l.device ≡ Log (generation - 1))
    → brought_home (name log.device) (moments log.device) (option_map (λ l. (name l.device, moments l.device)) sealed) disks
    ≡ brought_home (Log generation) (moments log.device) (option_map (λ x. (Log (generation - 1), x)) (option_map (λ l. moments l.device) sealed)) disks
named_logs name moments generation log None disks is sealed_is = ap (λ n. comes_home n (λ f. home f) (moments log.device) disks) is
named_logs name moments generation log (Some l) disks is sealed_is =
    ap (λ n. comes_home n (λ f. home f) (moments l.device) (comes_home (name log.device) (λ f. home f) (moments log.device) disks)) sealed_is
    ∙ ap (λ n. comes_home (Log (generation - 1)) (λ f. home f) (moments l.device) (comes_home n (λ f. home f) (moments log.device) disks)) is

-- ---- the watches

pub flusher_in : {W : Type 0} (o : Option W) → not (is_some o) ≡ false → is_some o ≡ true
flusher_in None is = absurd (cc)
flusher_in (Some w) is = refl

pub merger_in : {W R X : Type 0} (f : R → X) (run : Option R) (o : Option W) → option_map f run ≡ None → is_some run ≡ not (is_some o) → is_some o ≡ true
merger_in f None None none is = absurd (cc)
merger_in f None (Some w) none is = refl
merger_in f (Some r) o none is = absurd (cc)
