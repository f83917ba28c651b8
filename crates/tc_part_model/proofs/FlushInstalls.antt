-- A flush is installed, over one disk and one file of each log: its component is listed, and the sealed log goes.
use Rattle.std.proofs.Common.{◌≡◌, ◌≢◌, ◌+◌, ◌++◌, ℕ, Bool, List, [], ◌∷◌, refl, sym, ap, ◌∙◌, subst, arith, inl, inr, Option, Some, None, false, true, if◌then◌else◌}
use Rattle.std.proofs.Math.Path.{fun_ext}
use Rattle.std.proofs.lemmas.Bool.{cases_Bool, false≢true}
use Rattle.tc_store.specs.declared.file_name.FileName.{FileName}
use Rattle.tc_store.specs.declared.file_name.FileName.TheVariants.{Component, Log}
use Rattle.tc_store.specs.Disk.{Disk, Entry, content_of, home, is_out, none, out, put, same_name, still, taken}
use Rattle.tc_store.specs.DiskFile.{DiskFile, IsSettled}
use Rattle.tc_store.proofs.NameLemmas.{put_there, same_name-is}
use Rattle.tc_plain_model.specs.Writes.{Write}
use Rattle.tc_component.specs.Rows.{IsComponent}
use Rattle.tc_lsm_model.specs.Contents.{Content}
use Rattle.tc_lsm_model.specs.Flushes.{IsFlush}
use Rattle.tc_lsm_model.specs.Lists.{last_of}
use Rattle.tc_lsm_model.specs.Tables.{Table}
use Rattle.tc_lsm_model.proofs.FlushLaws.{last_of-push}
use Rattle.tc_machine.specs.Components.{file_of}
use Rattle.tc_machine.specs.Events.{file_frozen, file_removed, flush_installed, step}
use Rattle.tc_machine.specs.Kept.{IsKept}
use Rattle.tc_machine.specs.State.{Merging}
use Rattle.tc_machine.specs.Steps.{IsFlushed}
use Rattle.tc_machine.proofs.Events.{event_keeps}
use Rattle.tc_machine.proofs.FilesLeft.{at_name}
use Rattle.tc_machine.proofs.Rebasing.{rebased_is_kept}
use Rattle.tc_machine.proofs.Targets.{log_generation}
use Rattle.tc_machine.proofs.Moments.{put_twice}
use Rattle.tc_part_model.specs.Changes.{flushed_part}
use Rattle.tc_part_model.specs.PartFiles.{AreKeptAt, IsDevice, MergeLeaves, active_name, device_at, files_at, sealed_name, seen_entry}
use Rattle.tc_part_model.specs.PartView.{PartView, generation_of, state_with}
use Rattle.tc_part_model.proofs.DeviceFiles.{job_empty, not_same, other_leaves, same_without, sealed_device, without_job}

-- a part whose flush of one log is out
abbrev pub flushed_soon : PartView → Table → List Write → PartView
flushed_soon p table ws = record p {
  sealed = Some (record { table = table; logs = ws ∷ [] });
  flush = Some (record { from = last_of p.list + 1; to = last_of p.list + 1 });
}

-- the component that it makes
abbrev pub made_name : PartView → FileName
made_name p = Component (last_of p.list + 1) (last_of p.list + 1)

put_same : (name : FileName) (e : Entry) (files : Disk) → files name ≡ e → put name e files ≡ files
put_same name e files is = fun_ext λ n. elim (cases_Bool (same_name name n)) [
  | inl same ↦ rw same (sym is ∙ ap files (same_name-is name n same))
  | inr apart ↦ rw apart refl
]

module _ (p : PartView) (table : Table) (ws : List Write) (c : Content) (is_flush : IsFlush p.part p.list table 1 c) where
  abbrev pub after : PartView
  after = flushed_part c (flushed_soon p table ws)

  last_is : last_of (p.list ++ c ∷ []) ≡ last_of p.list + 1
  last_is = last_of-push p.list c ∙ is_flush.to

  file_is : file_of c ≡ made_name p
  file_is = ap (λ n. Component n c.to) is_flush.goes_on.next ∙ ap (λ n. Component (last_of p.list + 1) n) is_flush.to

  pub active_is : generation_of after ≡ generation_of (flushed_soon p table ws)
  active_is = omega (arith, last_is)

  module _ (disk : Disk) (f g : DiskFile) (bytes : List ℕ) (k : AreKeptAt (flushed_soon p table ws) false None disk f g) (there : disk (made_name p) ≡ still bytes) (whole : IsComponent c bytes) where
    abbrev files : (FileName → DiskFile) → Disk
    files job = files_at (flushed_soon p table ws) disk f g job

    -- ---- whatever the file of the flush had as a device

    merge_leaves : (job : FileName → DiskFile) (o : Option Merging) → MergeLeaves o job → MergeLeaves o (without_job (made_name p) job)
    merge_leaves job None leaves = tt
    merge_leaves job (Some m) leaves = other_leaves (IsComponent m.target) (made_name p) (file_of m.target) job leaves

    kept_soon : (job : FileName → DiskFile) → MergeLeaves p.merge job → IsKept p.part (state_with (flushed_soon p table ws) false None (files job))
    kept_soon job leaves =
        subst (λ fs. IsKept p.part (state_with (flushed_soon p table ws) false None fs)) (same_without (flushed_soon p table ws) disk f g (made_name p) bytes there job)
        (k.kept (without_job (made_name p) job) (job_empty (IsFlushed p.part p.list (flushed_soon p table ws).sealed) (made_name p) job, merge_leaves job p.merge leaves))

    -- ---- the component is listed

    installed : (job : FileName → DiskFile) → MergeLeaves p.merge job → IsKept p.part (state_with after false None (files job))
    installed job leaves =
        let s = state_with (flushed_soon p table ws) false None (files job) in
        rebased_is_kept p.part (step (flush_installed c) s) (event_keeps p.part s (flush_installed c) (kept_soon job leaves) (record {
          flushing = record { from = last_of p.list + 1; to = last_of p.list + 1 };
          is_out = refl;
          sealed = record { table = table; logs = ws ∷ [] };
          is_sealed = refl;
          is_flush = is_flush;
          still = (bytes, ap (files job) file_is ∙ ap (seen_entry (device_at (flushed_soon p table ws) f g job (made_name p))) there, whole);
        }))

    -- ---- the log that it covers

    later : generation_of (flushed_soon p table ws) ≢ last_of p.list + 1
    later same = absurd (no same)
      where
        no : generation_of (flushed_soon p table ws) ≡ last_of p.list + 1 → ⊥
        no same = omega (arith, same)

    covered_device : (job : FileName → DiskFile) → device_at (flushed_soon p table ws) f g job (sealed_name p) ≡ g
    covered_device job = sealed_device (flushed_soon p table ws) later f g job

    covered_out : disk (sealed_name p) ≡ out
    covered_out = k.sealed_out refl

    seen_covered : (job : FileName → DiskFile) → files job (sealed_name p) ≡ home g
    seen_covered job = ap (seen_entry (device_at (flushed_soon p table ws) f g job (sealed_name p))) covered_out ∙ ap (λ d. home d) (covered_device job)

    home_kept : (job : FileName → DiskFile) → MergeLeaves p.merge job → IsKept p.part (state_with after false None (put (sealed_name p) (home g) (files job)))
    home_kept job leaves = subst (λ fs. IsKept p.part (state_with after false None fs)) (sym (put_same (sealed_name p) (home g) (files job) (seen_covered job))) (installed job leaves)

    module _ (settled : IsSettled g) where
      still_kept : (job : FileName → DiskFile) → MergeLeaves p.merge job → IsKept p.part (state_with after false None (put (sealed_name p) (still g.content) (files job)))
      still_kept job leaves =
          subst (λ fs. IsKept p.part (state_with after false None fs)) (ap (λ e. put (sealed_name p) (taken e) (files job)) (seen_covered job))
          (event_keeps p.part (state_with after false None (files job)) (file_frozen (sealed_name p)) (installed job leaves) (record { file = g; home = seen_covered job; settled = settled }))

      none_kept : (job : FileName → DiskFile) → MergeLeaves p.merge job → IsKept p.part (state_with after false None (put (sealed_name p) (none (Some g.content)) (files job)))
      none_kept job leaves =
          let now = put (sealed_name p) (still g.content) (files job) in
          subst (λ fs. IsKept p.part (state_with after false None fs))
          (ap (λ e. put (sealed_name p) (none (content_of e)) now) (put_there (sealed_name p) (still g.content) (files job)) ∙ put_twice (sealed_name p) (still g.content) (none (Some g.content)) (files job))
          (event_keeps p.part (state_with after false None now) (file_removed (sealed_name p)) (still_kept job leaves)
          (record { bytes = g.content; still = put_there (sealed_name p) (still g.content) (files job); spare = inl (omega (arith, last_is)) }))

    -- ---- the part without it

    covered_apart : sealed_name p ≢ active_name (flushed_soon p table ws)
    covered_apart same = absurd (no (log_generation (last_of p.list + 1) (generation_of (flushed_soon p table ws)) same))
      where
        no : last_of p.list + 1 ≡ generation_of (flushed_soon p table ws) → ⊥
        no same = omega (arith, same)

    after_devices : (name : FileName) → sealed_name p ≢ name → made_name p ≢ name → IsDevice (flushed_soon p table ws) name → IsDevice after name
    after_devices (Log n) covered made (inl active) = inl (active ∙ sym active_is)
    after_devices (Log n) covered made (inr sealed) = absurd (covered (ap (λ m. Log m) (sym sealed.1)))
    after_devices (Component from to) covered made (inl job) = absurd (made (ap (λ m. Component m (last_of p.list + 1)) (sym job.0) ∙ ap (λ m. Component from m) (sym job.1)))
    after_devices (Component from to) covered made (inr job) = inr job

    not_out : (name : FileName) → is_out (disk name) ≡ true → made_name p ≢ name
    not_out name held same = absurd (false≢true (ap is_out (sym there) ∙ ap (λ n. is_out (disk n)) same ∙ held))

    after_files : (e : Entry) (other : DiskFile) (job : FileName → DiskFile) → ((h : DiskFile) → seen_entry h e ≡ e) → put (sealed_name p) e (files job) ≡ files_at after (put (sealed_name p) e disk) f other job
    after_files e other job seen = fun_ext λ n. elim (cases_Bool (same_name (sealed_name p) n)) [
      | inl same ↦ rw same (sym (seen (device_at after f other job n)))
      | inr apart ↦ rw (apart, not_same (sealed_name p) n apart, active_is, last_is) (either (same_name n (active_name (flushed_soon p table ws))) n)
    ]
      where
        either : (b : Bool) (n : FileName) → seen_entry (if b then f else job n) (disk n) ≡ seen_entry (if b then f else (if b then other else job n)) (disk n)
        either true n = refl
        either false n = refl

    after_keeps : (e : Entry) (other : DiskFile) → is_out e ≡ false → ((h : DiskFile) → seen_entry h e ≡ e) → ((job : FileName → DiskFile) → MergeLeaves p.merge job → IsKept p.part (state_with after false None (put (sealed_name p) e (files job))))
        → AreKeptAt after false None (put (sealed_name p) e disk) f other
    after_keeps e other at_home seen kept = record {
      log_out = subst (λ n. put (sealed_name p) e disk (Log n) ≡ out) (sym active_is) (at_name (sealed_name p) (active_name (flushed_soon p table ws)) e disk (λ d. d ≡ out) (λ same. absurd (covered_apart same)) (λ apart. k.log_out));
      sealed_out = λ some. absurd (false≢true some);
      devices = λ name held. at_name (sealed_name p) name e disk (λ d. is_out d ≡ true → IsDevice after name) (λ same out_now. absurd (false≢true (sym at_home ∙ out_now)))
          (λ apart out_now. after_devices name apart (not_out name out_now) (k.devices name out_now)) held;
      kept = λ job leave. subst (λ fs. IsKept p.part (state_with after false None fs)) (after_files e other job seen) (kept job leave.1);
    }

    -- the log is at home again, is frozen, or is gone
    pub home_after : (other : DiskFile) → AreKeptAt after false None (put (sealed_name p) (home g) disk) f other
    home_after other = after_keeps (home g) other refl (λ h. refl) home_kept

    pub still_after : IsSettled g → (other : DiskFile) → AreKeptAt after false None (put (sealed_name p) (still g.content) disk) f other
    still_after settled other = after_keeps (still g.content) other refl (λ h. refl) (still_kept settled)

    pub none_after : IsSettled g → (other : DiskFile) → AreKeptAt after false None (put (sealed_name p) (none (Some g.content)) disk) f other
    none_after settled other = after_keeps (none (Some g.content)) other refl (λ h. refl) (none_kept settled)
