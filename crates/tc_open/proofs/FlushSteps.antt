-- The flush of the logs of an opening, over one disk: begun, while its device is written, frozen and listed.
use Rattle.std.proofs.Common.{◌≡◌, ◌∙◌, ◌+◌, ◌≤◌, ◌++◌, ℕ, List, [], ◌∷◌, length, refl, sym, ap, subst, arith, inl, inr, false, Some, None}
use Rattle.std.proofs.lemmas.Bool.{cases_Bool}
use Rattle.tc_store.specs.declared.file_name.FileName.TheVariants.{Component}
use Rattle.tc_store.specs.Disk.{Disk, IsThere, MayLeaveAt, home, put, removed_of, still, taken}
use Rattle.tc_store.specs.DiskFile.{DiskFile, IsSettled, empty_file}
use Rattle.tc_store.specs.Gate.{IsShutOr, is_open_file}
use Rattle.tc_store.specs.Images.{Image}
use Rattle.tc_store.specs.Moments.{LeavesAt}
use Rattle.tc_store.proofs.NameLemmas.{put_there}
use Rattle.tc_plain_model.specs.Writes.{Write}
use Rattle.tc_component.specs.Rows.{IsComponent}
use Rattle.tc_lsm_model.specs.Contents.{Content, Partition}
use Rattle.tc_lsm_model.specs.Flushes.{IsFlush}
use Rattle.tc_lsm_model.specs.Lists.{Covers, last_of, live}
use Rattle.tc_lsm_model.specs.Tables.{table_over}
use Rattle.tc_lsm_model.proofs.Covering.{covered_within}
use Rattle.tc_lsm_model.proofs.FlushLaws.{flushed_live}
use Rattle.tc_lsm_model.proofs.ListLaws.{Ascends-live}
use Rattle.tc_lsm_model.proofs.TableLaws.{over-table_over}
use Rattle.tc_machine.specs.Components.{file_of}
use Rattle.tc_machine.specs.Events.{device_called, file_frozen, flush_begun, flush_installed, replayed, step}
use Rattle.tc_machine.specs.Kept.{IsKept, IsMemoryKept}
use Rattle.tc_machine.specs.Logs.{all_writes}
use Rattle.tc_machine.specs.Sound.{IsExplained}
use Rattle.tc_machine.specs.State.{Flushing, State}
use Rattle.tc_machine.specs.Steps.{IsFlushed, IsShutOrHas}
use Rattle.tc_machine.proofs.Events.{event_keeps}
use Rattle.tc_machine.proofs.FreeNames.{none_there}
use Rattle.tc_machine.proofs.MemorySteps.{flush_installed_memory, rebased_memory}
use Rattle.tc_machine.proofs.Moments.{put_twice}
use Rattle.tc_machine.proofs.Rebasing.{rebased_is_kept}
use Rattle.tc_part_model.specs.PartView.{no_files}
use Rattle.tc_open.specs.LogFlushes.{LeavesFlush, made_name}
use Rattle.tc_open.specs.BeingOpened.{opening_at, stored_by}

-- the generations of what the flush makes
abbrev pub flushing_logs : List Content → List (List Write) → Flushing
flushing_logs cs logs = record { from = last_of cs + 1; to = last_of cs + length logs }

-- the flush is out
abbrev pub flushing_at : List Content → List (List Write) → Disk → State
flushing_at cs logs disk = record (opening_at cs logs disk) { flush = Some (flushing_logs cs logs) }

module _ (part : Partition) (cs : List Content) (ws : List Write) (more : List (List Write)) where
  module _ (disk : Disk) (k : IsKept part (opening_at cs (ws ∷ more) disk)) (free : IsThere (disk (made_name cs (ws ∷ more))) → ⊥) where
    begun : IsKept part (flushing_at cs (ws ∷ more) (put (made_name cs (ws ∷ more)) (home (empty_file (removed_of (disk (made_name cs (ws ∷ more)))))) disk))
    begun =
        let none_is = none_there (disk (made_name cs (ws ∷ more))) free in
        event_keeps part (opening_at cs (ws ∷ more) disk) flush_begun k (record {
          sealed = record { table = table_over (live cs) (all_writes (ws ∷ more)); logs = ws ∷ more };
          is_sealed = refl;
          none_out = refl;
          sound = refl;
          before = none_is.0;
          absent = none_is.1;
        })

    -- whatever its device has by then
    pub called : (x : DiskFile) → LeavesFlush part cs (ws ∷ more) x → IsKept part (flushing_at cs (ws ∷ more) (put (made_name cs (ws ∷ more)) (home x) disk))
    called x leaves =
        let first = put (made_name cs (ws ∷ more)) (home (empty_file (removed_of (disk (made_name cs (ws ∷ more)))))) disk in
        subst (λ files. IsKept part (flushing_at cs (ws ∷ more) files)) (put_twice (made_name cs (ws ∷ more)) (home (empty_file (removed_of (disk (made_name cs (ws ∷ more)))))) (home x) disk)
        (event_keeps part (flushing_at cs (ws ∷ more) first) (device_called (made_name cs (ws ∷ more)) x) begun (record {
          old = empty_file (removed_of (disk (made_name cs (ws ∷ more))));
          home = put_there (made_name cs (ws ∷ more)) (home (empty_file (removed_of (disk (made_name cs (ws ∷ more)))))) disk;
          may = inr (inr (inl (record { flushing = flushing_logs cs (ws ∷ more); is_out = refl; named = refl; leaves = leaves })));
        }))

    -- its file never changes any more
    pub frozen : (x : DiskFile) → LeavesFlush part cs (ws ∷ more) x → IsSettled x → IsKept part (flushing_at cs (ws ∷ more) (put (made_name cs (ws ∷ more)) (still x.content) disk))
    frozen x leaves settled =
        let now = put (made_name cs (ws ∷ more)) (home x) disk in
        subst (λ files. IsKept part (flushing_at cs (ws ∷ more) files))
        (ap (λ e. put (made_name cs (ws ∷ more)) (taken e) now) (put_there (made_name cs (ws ∷ more)) (home x) disk) ∙ put_twice (made_name cs (ws ∷ more)) (home x) (still x.content) disk)
        (event_keeps part (flushing_at cs (ws ∷ more) now) (file_frozen (made_name cs (ws ∷ more))) (called x leaves) (record { file = x; home = put_there (made_name cs (ws ∷ more)) (home x) disk; settled = settled }))

    -- and its component is listed
    pub listed : (x : DiskFile) (c : Content) → LeavesFlush part cs (ws ∷ more) x → IsSettled x → IsFlush part cs (table_over (live cs) (all_writes (ws ∷ more))) (length (ws ∷ more)) c → IsComponent c x.content
        → IsKept part (opening_at (cs ++ c ∷ []) [] (put (made_name cs (ws ∷ more)) (still x.content) disk))
    listed x c leaves settled is_flush whole =
        let files = put (made_name cs (ws ∷ more)) (still x.content) disk in
        let s = flushing_at cs (ws ∷ more) files in
        rebased_is_kept part (step (flush_installed c) s) (event_keeps part s (flush_installed c) (frozen x leaves settled) (record {
          flushing = flushing_logs cs (ws ∷ more);
          is_out = refl;
          sealed = record { table = table_over (live cs) (all_writes (ws ∷ more)); logs = ws ∷ more };
          is_sealed = refl;
          is_flush = is_flush;
          still = (x.content, ap files (file_is c is_flush) ∙ put_there (made_name cs (ws ∷ more)) (still x.content) disk, whole);
        }))
      where
        file_is : (c : Content) → IsFlush part cs (table_over (live cs) (all_writes (ws ∷ more))) (length (ws ∷ more)) c → file_of c ≡ made_name cs (ws ∷ more)
        file_is c f = ap (λ n. Component n c.to) f.goes_on.next ∙ ap (λ n. Component (last_of cs + 1) n) f.to

    -- ---- a removed file of that name is closed

    not_covered : Covers cs (last_of cs + 1) (last_of cs + length (ws ∷ more)) → ⊥
    not_covered covered = omega (arith, (covered_within part 0 [] [] cs (last_of cs + 1) (last_of cs + length (ws ∷ more)) k.memory.list covered).1)

    unexplained : (b : List ℕ) → IsExplained part (opening_at cs (ws ∷ more) disk) (made_name cs (ws ∷ more)) b → ⊥
    unexplained b (inl covered) = not_covered covered.0
    unexplained b (inr (inl is)) = is.0
    unexplained b (inr (inr is)) = is

    shut : (b : List ℕ) → removed_of (disk (made_name cs (ws ∷ more))) ≡ Some b → is_open_file b ≡ false
    shut b was = elim (cases_Bool (is_open_file b)) [
      | inl is_open ↦
          let none_is = none_there (disk (made_name cs (ws ∷ more))) free in
          absurd (unexplained b (k.files.others (made_name cs (ws ∷ more)) b (subst (λ e. MayLeaveAt (λ image. ⊥) e (Some b)) (sym none_is.1) (sym (ap removed_of none_is.1) ∙ was)) is_open))
      | inr is_shut ↦ is_shut
    ]

    pub fresh_is_shut : LeavesAt (IsShutOr None) (empty_file (removed_of (disk (made_name cs (ws ∷ more)))))
    fresh_is_shut None left = tt
    fresh_is_shut (Some b) (inl image) = inl (nothing b image.no_longer)
      where
        nothing : (b : List ℕ) → length b ≤ 0 → is_open_file b ≡ false
        nothing [] short = refl
        nothing (x ∷ b) short = absurd (omega (arith, short))
    fresh_is_shut (Some b) (inr was) = inl (shut b was)

    pub fresh_leaves : LeavesFlush part cs (ws ∷ more) (empty_file (removed_of (disk (made_name cs (ws ∷ more)))))
    fresh_leaves image left = closed image (fresh_is_shut image left)
      where
        closed : (image : Image) → IsShutOr None image → IsShutOrHas (IsFlushed part cs (replayed cs (ws ∷ more))) image
        closed None is = tt
        closed (Some b) (inl is_shut) = inl is_shut
        closed (Some b) (inr was) = absurd (cc)

  -- ---- what is in memory, and what is stored

  pub listed_memory : (c : Content) → IsMemoryKept part (opening_at cs (ws ∷ more) no_files) → IsFlush part cs (table_over (live cs) (all_writes (ws ∷ more))) (length (ws ∷ more)) c → IsMemoryKept part (opening_at (cs ++ c ∷ []) [] no_files)
  listed_memory c memory is_flush =
      let s = opening_at cs (ws ∷ more) no_files in
      rebased_memory part (step (flush_installed c) s) (flush_installed_memory part s (record { table = table_over (live cs) (all_writes (ws ∷ more)); logs = ws ∷ more }) None c memory is_flush)

  pub listed_stored : (c : Content) → IsFlush part cs (table_over (live cs) (all_writes (ws ∷ more))) (length (ws ∷ more)) c → live (cs ++ c ∷ []) ≡ stored_by cs (ws ∷ more)
  listed_stored c is_flush = flushed_live part cs (table_over (live cs) (all_writes (ws ∷ more))) (length (ws ∷ more)) c is_flush ∙ over-table_over (live cs) (all_writes (ws ∷ more)) (Ascends-live cs)
