-- A part whose merge is listed: done, at each moment, and where its component is still and was not listed.
use Rattle.std.proofs.Common.{◌≡◌, ◌≢◌, ◌⊎◌, ◌++◌, ℕ, arith, List, [], ◌∷◌, length, refl, sym, ap, ◌∙◌, subst, inl, inr, Option, Some, None, false, true}
use Rattle.std.specs.Prelude.{IfSome}
use Rattle.std.specs.List.{AllZip}
use Rattle.tc_model.specs.KnownNames.{HasEach}
use Rattle.tc_store.specs.Disk.{Disk, out, put, still}
use Rattle.tc_store.specs.DiskFile.{DiskFile, settled_file}
use Rattle.tc_store.specs.Moments.{EachSince, IfTold, LeavesAt}
use Rattle.tc_store.specs.StoreCalls.{comes_home, frozen_entry}
use Rattle.tc_store.proofs.GateLemmas.{settled_leaves}
use Rattle.tc_store.proofs.MomentLemmas.{EachSince-none, EachSince-one, told_map}
use Rattle.tc_store.proofs.NameLemmas.{put_there}
use Rattle.tc_plain_model.specs.Store.{names_after}
use Rattle.tc_plain_model.specs.Writes.{Pairs, after_writes}
use Rattle.tc_component.specs.Rows.{IsComponent, component_bytes}
use Rattle.tc_lsm_model.specs.Tables.{over, writes_of}
use Rattle.tc_machine.specs.Components.{file_of}
use Rattle.tc_machine.specs.Events.{merge_installed, step}
use Rattle.tc_machine.specs.Kept.{IsMemoryKept}
use Rattle.tc_memory.specs.Table as memory
use Rattle.tc_machine.specs.State.{Flushing, Merging, Sealed, flush_name, history, sealed_table, table_after}
use Rattle.tc_machine.specs.Steps.{IsShutOrHas}
use Rattle.tc_machine.specs.Writes.{AreFew, HasRoom}
use Rattle.tc_machine.proofs.FilesLeft.{at_name}
use Rattle.tc_machine.proofs.Targets.{FlushTarget, MergeTarget, flush_target, merge_target}
use Rattle.tc_machine.proofs.MemorySteps.{merge_installed_memory, rebased_memory}
use Rattle.tc_part_model.specs.Calls.{HasMade}
use Rattle.tc_part_model.specs.Changes.{merged_part}
use Rattle.tc_part_model.specs.Leaving.{LeavesStoreAt, StoreMomentsLeaveStore}
use Rattle.tc_part_model.specs.PartFiles.{AreJobsOut, AreKeptAt, IfFiles}
use Rattle.tc_part_model.specs.Meaning.{HasFailedAs, IsOfContent, IsPart, KeepsSealed, KeepsTable}
use Rattle.tc_part_model.specs.PartState.{AreTold, IsTold, Told, ToldComponent}
use Rattle.tc_part_model.specs.PartView.{MayStart, PartView, below_of, names_in, state_of, store_of, table_of}
use Rattle.tc_part_model.proofs.Beginnings.{kept_leaves}
use Rattle.tc_part_model.proofs.DeviceFiles.{comes_untold, logs_tell}
use Rattle.tc_part_model.proofs.Failures.{failing_keeps}
use Rattle.tc_part_model.proofs.Returns.{merge_calls, still_keeps}
use Rattle.tc_part_model.proofs.ToldFiles.{MomentsSince}
use Rattle.tc_part_model.proofs.ToldReturns.{returned}
use Rattle.tc_part_model.proofs.MergeInstalls.{merged, merged_active, merged_keeps, merged_soon, replaces}

module _ (p : PartView) (m : Merging) (memory : IsMemoryKept p.part (state_of (merged_soon p m))) where
  below_is : below_of (merged p m memory) ≡ below_of (merged_soon p m)
  below_is = ap (λ pairs. over pairs (sealed_table p.sealed)) (replaces p m memory).live

  pub table_stays : table_of (merged p m memory) ≡ table_of (merged_soon p m)
  table_stays = ap (λ below. table_after below p.active.table p.staged) below_is

  pub names_stay : names_in (merged p m memory) ≡ names_in (merged_soon p m)
  names_stay = ap (λ ns. names_after (names_after ns (writes_of (sealed_table p.sealed))) (writes_of p.active.table ++ p.staged)) (replaces p m memory).names

  pub store_stays : store_of (merged p m memory) ≡ store_of (merged_soon p m)
  store_stays = ap (λ pairs. after_writes pairs (history (state_of p))) (replaces p m memory).live

  pub merged_memory : IsMemoryKept p.part (state_of (merged p m memory))
  merged_memory = rebased_memory p.part (step merge_installed (state_of (merged_soon p m))) (merge_installed_memory p.part (state_of (merged_soon p m)) m memory)

  pub merged_starts : MayStart (merged_soon p m) → MayStart (merged p m memory)
  merged_starts start = record {
    each = start.each;
    room = subst (λ below. HasRoom (after_writes (over below p.active.table) p.staged)) (sym below_is) start.room;
    few = subst (λ ns. AreFew ns) (sym names_stay) start.few;
  }

  -- ---- what is told

  module _ (bytes : List ℕ) (whole : IsComponent m.target bytes) where
    kept_after : (disk : Disk) (f g : DiskFile) → AreKeptAt (merged_soon p m) false None disk f g → disk (file_of m.target) ≡ out → AreKeptAt (merged_soon p m) false None (put (file_of m.target) (still bytes) disk) f g
    kept_after disk f g k held = still_keeps (merged_soon p m) false None disk f g k m.target.from m.target.to held bytes
        (merge_calls (merged_soon p m) m (settled_file bytes) refl (settled_leaves bytes (IsShutOrHas (IsComponent m.target)) (inr whole)))

    frozen_is : (disk : Disk) (past : List Disk) (x : DiskFile) (xs : List DiskFile) → disk (file_of m.target) ≡ out → x ≡ settled_file bytes
        → comes_home (file_of m.target) frozen_entry (x ∷ xs) (disk ∷ past) ≡ put (file_of m.target) (still bytes) disk ∷ disk ∷ past
    frozen_is disk past x xs held is = returned (file_of m.target) (frozen_entry x) disk past held ∙ ap (λ (y : DiskFile). put (file_of m.target) (still y.content) disk ∷ disk ∷ past) is

    merged_files : (disks : List Disk) (log dev : List DiskFile) (sealed : Option (List DiskFile)) → IfTold disks (λ disk. IsTold log) → IfTold disks (λ disk. IsTold dev) → IfFiles disks log sealed (AreKeptAt (merged_soon p m) false None)
        → IfTold disks (AreJobsOut p.flush (Some m)) → IfTold dev (λ x. x ≡ settled_file bytes) → IfFiles (comes_home (file_of m.target) frozen_entry dev disks) log sealed (AreKeptAt (merged p m memory) false None)
    merged_files [] log dev sealed a b kept jobs is = subst (λ ds. IfFiles ds log sealed (AreKeptAt (merged p m memory) false None)) (sym (comes_untold (file_of m.target) frozen_entry dev)) tt
    merged_files (disk ∷ past) [] dev sealed a b kept jobs is = absurd a
    merged_files (disk ∷ past) (f ∷ fs) [] sealed a b kept jobs is = absurd b
    merged_files (disk ∷ past) (f ∷ fs) (x ∷ xs) sealed a b kept jobs is =
        subst (λ ds. IfFiles ds (f ∷ fs) sealed (AreKeptAt (merged p m memory) false None)) (sym (frozen_is disk past x xs jobs.merge_out is))
        (λ g same. merged_keeps p m memory (put (file_of m.target) (still bytes) disk) f g bytes (kept_after disk f g (kept g same) jobs.merge_out) (put_there (file_of m.target) (still bytes) disk) whole)

    frozen_files : (disks : List Disk) (log dev : List DiskFile) (sealed : Option (List DiskFile)) → IfTold disks (λ disk. IsTold dev) → IfFiles disks log sealed (AreKeptAt (merged_soon p m) false None)
        → IfTold disks (AreJobsOut p.flush (Some m)) → IfTold dev (λ x. x ≡ settled_file bytes) → IfFiles (comes_home (file_of m.target) frozen_entry dev disks) log sealed (AreKeptAt (merged_soon p m) true None)
    frozen_files [] log dev sealed b kept jobs is = subst (λ ds. IfFiles ds log sealed (AreKeptAt (merged_soon p m) true None)) (sym (comes_untold (file_of m.target) frozen_entry dev)) tt
    frozen_files (disk ∷ past) log [] sealed b kept jobs is = absurd b
    frozen_files (disk ∷ past) log (x ∷ xs) sealed b kept jobs is =
        subst (λ ds. IfFiles ds log sealed (AreKeptAt (merged_soon p m) true None)) (sym (frozen_is disk past x xs jobs.merge_out is)) (at log kept)
      where
        at : (log : List DiskFile) → IfFiles (disk ∷ past) log sealed (AreKeptAt (merged_soon p m) false None) → IfFiles (put (file_of m.target) (still bytes) disk ∷ disk ∷ past) log sealed (AreKeptAt (merged_soon p m) true None)
        at [] kept = tt
        at (f ∷ fs) kept = λ g same. failing_keeps (merged_soon p m) (put (file_of m.target) (still bytes) disk) f g (kept_after disk f g (kept g same) jobs.merge_out)

    merged_jobs : (disks : List Disk) (dev : List DiskFile) → IfTold disks (λ disk. IsTold dev) → IfSome p.flush (λ j. file_of m.target ≢ flush_name j) → IfTold disks (AreJobsOut p.flush (Some m)) → IfTold dev (λ x. x ≡ settled_file bytes)
        → IfTold (comes_home (file_of m.target) frozen_entry dev disks) (AreJobsOut p.flush None)
    merged_jobs [] dev b apart jobs is = subst (λ ds. IfTold ds (AreJobsOut p.flush None)) (sym (comes_untold (file_of m.target) frozen_entry dev)) tt
    merged_jobs (disk ∷ past) [] b apart jobs is = absurd b
    merged_jobs (disk ∷ past) (x ∷ xs) b apart jobs is = subst (λ ds. IfTold ds (AreJobsOut p.flush None)) (sym (frozen_is disk past x xs jobs.merge_out is)) (record { flush_out = still_out p.flush apart jobs.flush_out; merge_out = tt })
      where
        still_out : (o : Option Flushing) → IfSome o (λ j. file_of m.target ≢ flush_name j) → IfSome o (λ j. disk (flush_name j) ≡ out) → IfSome o (λ j. put (file_of m.target) (still bytes) disk (flush_name j) ≡ out)
        still_out None apart held = tt
        still_out (Some j) apart held = at_name (file_of m.target) (flush_name j) (still bytes) disk (λ e. e ≡ out) (λ same. absurd (apart same)) (λ other. held)

    merged_moments : (disks : List Disk) (log dev : List DiskFile) (sealed : Option (List DiskFile)) → IfTold disks (λ disk. IsTold dev) → IfFiles disks log sealed (AreKeptAt (merged_soon p m) false None)
        → IfTold disks (AreJobsOut p.flush (Some m)) → IfTold dev (λ x. x ≡ settled_file bytes)
        → MomentsSince (λ disk f g. LeavesStoreAt (merged_soon p m) None g f disk ⊎ LeavesStoreAt (merged p m memory) None g f disk) disks log sealed (comes_home (file_of m.target) frozen_entry dev disks)
    merged_moments disks [] dev sealed b kept jobs is = tt
    merged_moments [] (f ∷ fs) dev sealed b kept jobs is = λ g same. EachSince-none _ [] (comes_home (file_of m.target) frozen_entry dev []) (comes_untold (file_of m.target) frozen_entry dev)
    merged_moments (disk ∷ past) (f ∷ fs) [] sealed b kept jobs is = absurd b
    merged_moments (disk ∷ past) (f ∷ fs) (x ∷ xs) sealed b kept jobs is = λ g same.
        subst (λ ds. EachSince (λ d. LeavesStoreAt (merged_soon p m) None g f d ⊎ LeavesStoreAt (merged p m memory) None g f d) (disk ∷ past) ds) (sym (frozen_is disk past x xs jobs.merge_out is))
        (EachSince-one (λ d. LeavesStoreAt (merged_soon p m) None g f d ⊎ LeavesStoreAt (merged p m memory) None g f d) (put (file_of m.target) (still bytes)) (disk ∷ past)
        (inl (kept_leaves (merged_soon p m) false (put (file_of m.target) (still bytes) disk) f g (kept_after disk f g (kept g same) jobs.merge_out))))

  flush_apart : IfSome p.flush (λ j. file_of m.target ≢ flush_name j)
  flush_apart = at p.flush refl
    where
      named : (j : Flushing) → file_of m.target ≡ flush_name j → m.target.to ≡ j.to
      named j same = cc

      from_of : (j : Flushing) → file_of m.target ≡ flush_name j → m.target.from ≡ j.from
      from_of j same = cc

      at : (o : Option Flushing) → p.flush ≡ o → IfSome o (λ j. file_of m.target ≢ flush_name j)
      at None is = tt
      at (Some j) is = λ same.
          let a : FlushTarget p.list p.sealed j = flush_target p.list p.sealed p.flush j is memory.flush in
          let b : MergeTarget p.list m = merge_target p.part p.list m memory.list memory.merge in
          absurd (omega (arith, named j same, from_of j same, a.from, a.order, b.to))

module _ (t : Told) (p : PartView) (m : Merging) (is : IsPart t (merged_soon p m)) (dev : List DiskFile) (made : HasMade m.target t.disks dev) where
  told_merged : (components : List ToldComponent) → AreTold t.components → AllZip IsOfContent components (merged p m is.memory).list
      → IsPart (record t { disks = comes_home (file_of m.target) frozen_entry dev t.disks; components = components; merging = None }) (merged p m is.memory)
  told_merged components are_told each =
      let untold : t.disks ≡ [] → comes_home (file_of m.target) frozen_entry dev t.disks ≡ [] = λ none. ap (comes_home (file_of m.target) frozen_entry dev) none ∙ comes_untold (file_of m.target) frozen_entry dev in
      record {
        sound = is.sound;
        view = record {
          part = is.view.part;
          generation = is.view.generation ∙ sym (merged_active p m is.memory);
          components = each;
          sealed = still_sealed p.sealed t.sealed is.view.sealed;
          sealed_log = is.view.sealed_log;
          active = subst (λ x. KeepsTable (AreTold components) x t.active) (sym (table_stays p m is.memory)) (record { stored = is.view.active.stored; holds = is.view.active.holds; shapes = λ any. is.view.active.shapes are_told });
          staged = is.view.staged;
          taken = subst (λ names. HasEach t.taken names) (sym (names_stay p m is.memory)) is.view.taken;
          live = is.view.live ∙ ap (λ (pairs : Pairs). length (after_writes pairs p.staged)) (sym (store_stays p m is.memory));
          flushing = is.view.flushing;
          merging = refl;
        };
        memory = merged_memory p m is.memory;
        staged = merged_starts p m is.memory is.staged;
        room = subst (λ pairs. HasRoom pairs) (sym (below_is p m is.memory)) is.room;
        tells = logs_tell t.disks (comes_home (file_of m.target) frozen_entry dev t.disks) t.log t.sealed_log untold is.tells;
        files = record {
          kept = merged_files p m is.memory (component_bytes m.target) made.whole t.disks t.log dev t.sealed_log is.tells.active made.tells is.files.kept is.files.jobs made.content;
          jobs = merged_jobs p m is.memory (component_bytes m.target) made.whole t.disks dev made.tells (flush_apart p m is.memory) is.files.jobs made.content;
        };
      }
    where
      still_sealed : (o : Option Sealed) (kept : Option memory.Table) → KeepsSealed (AreTold t.components) o kept → KeepsSealed (AreTold components) o kept
      still_sealed None None keeps = tt
      still_sealed None (Some k) keeps = keeps
      still_sealed (Some d) None keeps = keeps
      still_sealed (Some d) (Some k) keeps = (keeps.0, record { stored = keeps.1.stored; holds = keeps.1.holds; shapes = λ any. keeps.1.shapes are_told })

-- ---- of any part whose merge is out

pub merge_listed : (t u : Told) (p : PartView) (m : Merging) (dev : List DiskFile) → IsPart t p → p.merge ≡ Some m → HasMade m.target t.disks dev → AreTold t.components → AllZip IsOfContent u.components (merged_part p).list
    → u ≡ record t { disks = comes_home (file_of m.target) frozen_entry dev t.disks; components = u.components; merging = None } → IsPart u (merged_part p)
merge_listed t u p m dev is some made are_told each same =
    let eq : merged_soon p m ≡ p = ap (λ o. record p { merge = o }) (sym some) in
    subst (λ x. IsPart x (merged_part p)) (sym same)
    (subst (λ q. IsPart t q → AllZip IsOfContent u.components (merged_part q).list → IsPart (record t { disks = comes_home (file_of m.target) frozen_entry dev t.disks; components = u.components; merging = None }) (merged_part q)) eq
    (λ soon zip. told_merged t p m soon dev made u.components are_told zip) is each)

pub merge_keeps_store : (t : Told) (p : PartView) (m : Merging) → IsPart t p → p.merge ≡ Some m → store_of (merged_part p) ≡ store_of p
merge_keeps_store t p m is some =
    subst (λ q. IsPart t q → store_of (merged_part q) ≡ store_of q) (ap (λ o. record p { merge = o }) (sym some)) (λ soon. store_stays p m soon.memory) is

pub merge_listed_moments : (t : Told) (p : PartView) (m : Merging) (dev : List DiskFile) → IsPart t p → p.merge ≡ Some m → HasMade m.target t.disks dev → StoreMomentsLeaveStore p (merged_part p) t (comes_home (file_of m.target) frozen_entry dev t.disks)
merge_listed_moments t p m dev is some made =
    subst (λ q. IsPart t q → StoreMomentsLeaveStore q (merged_part q) t (comes_home (file_of m.target) frozen_entry dev t.disks)) (ap (λ o. record p { merge = o }) (sym some))
    (λ soon. merged_moments p m soon.memory (component_bytes m.target) made.whole t.disks t.log dev t.sealed_log made.tells soon.files.kept soon.files.jobs made.content) is

pub merge_not_listed : (t u : Told) (p : PartView) (m : Merging) (dev : List DiskFile) → IsPart t p → p.merge ≡ Some m → HasMade m.target t.disks dev → u.failed ≡ true → u.log ≡ t.log → u.sealed_log ≡ t.sealed_log
    → u.disks ≡ comes_home (file_of m.target) frozen_entry dev t.disks → HasFailedAs u p None
merge_not_listed t u p m dev is some made failed log sealed disks =
    subst (λ q. IsPart t q → HasFailedAs u q None) (ap (λ o. record p { merge = o }) (sym some))
    (λ soon. record {
      failed = failed;
      tells = rw (disks, log, sealed) (logs_tell t.disks (comes_home (file_of m.target) frozen_entry dev t.disks) t.log t.sealed_log (λ none. ap (comes_home (file_of m.target) frozen_entry dev) none ∙ comes_untold (file_of m.target) frozen_entry dev) soon.tells);
      files = rw (disks, log, sealed) (frozen_files p m soon.memory (component_bytes m.target) made.whole t.disks t.log dev t.sealed_log made.tells soon.files.kept soon.files.jobs made.content);
    }) is

pub merge_made_leaves : (m : Merging) (disks : List Disk) (dev : List DiskFile) → HasMade m.target disks dev → IfTold dev (LeavesAt (IsShutOrHas (IsComponent m.target)))
merge_made_leaves m disks dev made = told_map (λ x. x ≡ settled_file (component_bytes m.target)) (LeavesAt (IsShutOrHas (IsComponent m.target))) dev
    (λ x whole. subst (λ y. LeavesAt (IsShutOrHas (IsComponent m.target)) y) (sym whole) (settled_leaves (component_bytes m.target) (IsShutOrHas (IsComponent m.target)) (inr made.whole))) made.content
