-- A part whose flush is listed: done, at each moment, and where it failed.
use Rattle.std.proofs.Common.{◌≡◌, ◌≢◌, ◌+◌, ◌-◌, ◌++◌, ◌⊎◌, List, [], ◌∷◌, length, refl, sym, ap, ◌∙◌, subst, arith, inr, Option, Some, None, false, true, is_some}
use Rattle.std.specs.Prelude.{IfSome, IsSome}
use Rattle.std.specs.List.{AllZip}
use Rattle.tc_model.specs.KnownNames.{HasEach}
use Rattle.tc_store.specs.declared.file_name.FileName.TheVariants.{Component, Log}
use Rattle.tc_store.specs.Disk.{home, out}
use Rattle.tc_store.specs.DiskFile.{DiskFile, IsSettled, settled_file}
use Rattle.tc_store.specs.Moments.{IfTold, LeavesAt}
use Rattle.tc_store.specs.StoreCalls.{comes_home, frozen_entry, removes}
use Rattle.tc_store.proofs.GateLemmas.{settled_leaves}
use Rattle.tc_store.proofs.MomentLemmas.{told_map}
use Rattle.tc_memory.specs.Table as memory
use Rattle.tc_plain_model.specs.Writes.{Pairs, Write}
use Rattle.tc_component.specs.Rows.{component_bytes}
use Rattle.tc_lsm_model.specs.Contents.{Content}
use Rattle.tc_lsm_model.specs.Flushes.{IsFlush}
use Rattle.tc_lsm_model.specs.Lists.{last_of}
use Rattle.tc_lsm_model.specs.Tables.{Table}
use Rattle.tc_machine.specs.Components.{file_of}
use Rattle.tc_machine.specs.Kept.{MergeFits}
use Rattle.tc_machine.specs.Sound.{IsFlushOf}
use Rattle.tc_machine.specs.State.{Flushing, Merging, Sealed}
use Rattle.tc_machine.specs.Steps.{IsFlushed, IsShutOrHas}
use Rattle.tc_machine.specs.Writes.{HasRoom}
use Rattle.tc_machine.proofs.Options.{All-front, if_some_map}
use Rattle.tc_machine.proofs.Targets.{MergeTarget, merge_target}
use Rattle.tc_part_model.specs.Calls.{HasMade, MakesFlush}
use Rattle.tc_part_model.specs.Changes.{flushed_part}
use Rattle.tc_part_model.specs.Leaving.{LeavesStoreAt, StoreMomentsLeaveStore}
use Rattle.tc_part_model.specs.Meaning.{HasFailedAs, IsOfContent, IsPart, KeepsSealed, KeepsTable}
use Rattle.tc_part_model.specs.PartFiles.{AreJobsOut, AreKeptAt, IfFiles, sealed_name}
use Rattle.tc_part_model.specs.PartState.{AreTold, IsTold, Told, ToldComponent}
use Rattle.tc_part_model.specs.PartView.{PartView, store_of}
use Rattle.tc_part_model.proofs.DeviceFiles.{comes_untold, logs_tell, told_again}
use Rattle.tc_part_model.proofs.ToldFiles.{MomentsSince}
use Rattle.tc_part_model.proofs.FlushInstalls.{active_is, after, flushed_soon, made_name}
use Rattle.tc_part_model.proofs.FlushedViews.{below_stays, flushed_memory, flushed_starts, names_stay, store_stays, stored_stays, table_stays}
use Rattle.tc_part_model.proofs.ToldFlushes.{flush_moments_since, frozen, frozen_files, frozen_moments_since, home_files, home_moments_since, uncovered, uncovered_files, uncovered_jobs, uncovered_untold}

AllZip-last : {A B : Type 0} (R : A → B → Type 0) (xs : List A) (ys : List B) (x : A) (y : B) → AllZip R xs ys → R x y → AllZip R (xs ++ x ∷ []) (ys ++ y ∷ [])
AllZip-last R [] [] x y all last = (last, tt)
AllZip-last R [] (b ∷ ys) x y all last = absurd all
AllZip-last R (a ∷ xs) [] x y all last = absurd all
AllZip-last R (a ∷ xs) (b ∷ ys) x y all last = (all.0, AllZip-last R xs ys x y all.1 last)

-- ---- what may install a flush

one_log : (logs : List (List Write)) → length logs ≡ 1 → (ws : List Write) × (logs ≡ ws ∷ [])
one_log [] is = absurd (cc)
one_log (ws ∷ []) is = (ws, refl)
one_log (ws ∷ vs ∷ more) is = absurd (two is)
  where
    two : length (ws ∷ vs ∷ more) ≡ 1 → ⊥
    two is = omega (arith, is)

flush_is : (cs : List Content) (d : Sealed) (o : Option Flushing) → IsFlushOf cs (Some d) o → length d.logs ≡ 1 → true ≡ is_some o → o ≡ Some (record { from = last_of cs + 1; to = last_of cs + 1 })
flush_is cs d None fits one is = absurd (cc)
flush_is cs d (Some j) fits one is = ap (λ n. Some (record { from = n; to = j.to })) fits.from ∙ ap (λ n. Some (record { from = last_of cs + 1; to = n })) (fits.to ∙ ap (λ n. last_of cs + n) one)

pub record IsFlushedSoon (p : PartView) : Type 0 where
  pub table : Table
  pub ws : List Write
  pub is : flushed_soon p table ws ≡ p

pub is_flushed_soon : (t : Told) (p : PartView) → IsPart t p → t.flushing ≡ true → (covered : List DiskFile) → t.sealed_log ≡ Some covered → IsFlushedSoon p
is_flushed_soon t p is flushing covered some = given p.sealed t.sealed refl is.view.sealed (sym (ap (λ o. is_some o) some) ∙ is.view.sealed_log)
  where
    given : (o : Option Sealed) (kept : Option memory.Table) → p.sealed ≡ o → KeepsSealed (AreTold t.components) o kept → true ≡ is_some o → IsFlushedSoon p
    given None kept same keeps there = absurd (cc)
    given (Some d) None same keeps there = absurd keeps
    given (Some d) (Some k) same keeps there =
        let one = one_log d.logs keeps.0 in
        let out = flush_is p.list d p.flush (subst (λ o. IsFlushOf p.list o p.flush) same is.memory.flush) keeps.0 (sym flushing ∙ is.view.flushing) in
        record {
          table = d.table;
          ws = one.0;
          is = ap (λ x. record p { sealed = Some (record { table = d.table; logs = x }); flush = Some (record { from = last_of p.list + 1; to = last_of p.list + 1 }) }) (sym one.1)
              ∙ ap (λ x. record p { sealed = x; flush = Some (record { from = last_of p.list + 1; to = last_of p.list + 1 }) }) (sym same)
              ∙ ap (λ x. record p { flush = x }) (sym out);
        }

module _ (t : Told) (p : PartView) (table : Table) (ws : List Write) (is : IsPart t (flushed_soon p table ws)) (covered : List DiskFile) (some : t.sealed_log ≡ Some covered)
    (c : Content) (is_flush : IsFlush p.part p.list table 1 c) (dev : List DiskFile) (made : HasMade c t.disks dev) where
  -- ---- the names of both files

  last : t.generation - 1 ≡ last_of p.list + 1
  last = omega (arith, is.view.generation)

  frozen_is : comes_home (Component (t.generation - 1) (t.generation - 1)) frozen_entry dev t.disks ≡ frozen p table ws c is_flush (component_bytes c) made.whole dev t.disks
  frozen_is = ap (λ n. comes_home (Component n n) frozen_entry dev t.disks) last

  uncovered_is : removes (Log (t.generation - 1)) (comes_home (Log (t.generation - 1)) frozen_entry covered (comes_home (Component (t.generation - 1) (t.generation - 1)) frozen_entry dev t.disks))
      ≡ uncovered p table ws c is_flush (component_bytes c) made.whole dev covered t.disks
  uncovered_is = ap (λ n. removes (Log n) (comes_home (Log n) frozen_entry covered (comes_home (Component n n) frozen_entry dev t.disks))) last

  -- ---- what is told of the part

  kept : IfFiles t.disks t.log (Some covered) (AreKeptAt (flushed_soon p table ws) false None)
  kept = subst (λ o. IfFiles t.disks t.log o (AreKeptAt (flushed_soon p table ws) false None)) some is.files.kept

  covered_tells : IfTold t.disks (λ disk. IsTold covered)
  covered_tells = subst (λ o. IfTold t.disks (λ disk. IfSome o (λ moments. IsTold moments))) some is.tells.sealed

  merge_apart : IfSome p.merge (λ m. file_of m.target ≢ made_name p)
  merge_apart = if_some_map (MergeFits p.list) (λ m. file_of m.target ≢ made_name p) p.merge
      (λ m there fits same. beyond m (ends m same) (merge_target p.part p.list m is.memory.list fits)) is.memory.merge
    where
      ends : (m : Merging) → file_of m.target ≡ made_name p → m.target.to ≡ last_of p.list + 1
      ends m same = cc

      beyond : (m : Merging) → m.target.to ≡ last_of p.list + 1 → MergeTarget p.list m → ⊥
      beyond m is e = omega (arith, is, e.to)

  module _ (settled : IfTold covered IsSettled) (component : ToldComponent) (of : IsOfContent component c) where
    told_flushed : IsPart (record t { disks = uncovered p table ws c is_flush (component_bytes c) made.whole dev covered t.disks; sealed = None; sealed_log = None; components = t.components ++ component ∷ []; flushing = false }) (after p table ws c is_flush)
    told_flushed =
        let q = after p table ws c is_flush in
        let disks = uncovered p table ws c is_flush (component_bytes c) made.whole dev covered t.disks in
        let untold : t.disks ≡ [] → disks ≡ [] = λ none. ap (λ ds. uncovered p table ws c is_flush (component_bytes c) made.whole dev covered ds) none ∙ uncovered_untold p table ws c is_flush (component_bytes c) made.whole dev covered in
        record {
          sound = is.sound;
          view = record {
            part = is.view.part;
            generation = is.view.generation ∙ sym (active_is p table ws c is_flush);
            components = AllZip-last IsOfContent t.components p.list component c is.view.components of;
            sealed = tt;
            sealed_log = refl;
            active = subst (λ x. KeepsTable (AreTold (t.components ++ component ∷ [])) x t.active) (sym (table_stays p table ws c is_flush))
                (record { stored = is.view.active.stored; holds = is.view.active.holds; shapes = λ are_told. is.view.active.shapes (All-front (λ x. IsSome x.content) t.components (component ∷ []) are_told) });
            staged = is.view.staged;
            taken = subst (λ names. HasEach t.taken names) (sym (names_stay p table ws c is_flush)) is.view.taken;
            live = is.view.live ∙ ap (λ (pairs : Pairs). length pairs) (sym (stored_stays p table ws c is_flush is.memory));
            flushing = refl;
            merging = is.view.merging;
          };
          memory = flushed_memory p table ws c is_flush is.memory;
          staged = flushed_starts p table ws c is_flush is.memory is.staged;
          room = subst (λ pairs. HasRoom pairs) (sym (below_stays p table ws c is_flush)) is.room;
          tells = record { active = told_again (IsTold t.log) t.disks disks untold is.tells.active; sealed = told_again (Unit {0}) t.disks disks untold (told_map (λ disk. IsTold t.log) (λ disk. Unit {0}) t.disks (λ disk any. tt) is.tells.active) };
          files = record {
            kept = uncovered_files p table ws c is_flush (component_bytes c) made.whole t.disks t.log dev covered is.tells.active made.tells covered_tells kept is.files.jobs made.content settled;
            jobs = uncovered_jobs p table ws c is_flush (component_bytes c) made.whole t.disks t.log dev covered is.tells.active made.tells covered_tells p.merge merge_apart
                (told_map (AreJobsOut (flushed_soon p table ws).flush p.merge) (λ disk. IfSome p.merge (λ m. disk (file_of m.target) ≡ out)) t.disks (λ disk jobs. jobs.merge_out) is.files.jobs) kept is.files.jobs made.content;
          };
        }

  -- ---- where it failed

  -- the component is there, and is not listed
  told_frozen : (u : Told) → u.failed ≡ true → u.log ≡ t.log → u.sealed_log ≡ Some covered → u.disks ≡ frozen p table ws c is_flush (component_bytes c) made.whole dev t.disks → HasFailedAs u (flushed_soon p table ws) None
  told_frozen u failed log sealed disks = record {
    failed = failed;
    tells = rw (disks, log, sealed) (logs_tell t.disks (frozen p table ws c is_flush (component_bytes c) made.whole dev t.disks) t.log (Some covered)
        (λ none. ap (frozen p table ws c is_flush (component_bytes c) made.whole dev) none ∙ comes_untold (made_name p) frozen_entry dev) (record { active = is.tells.active; sealed = covered_tells }));
    files = rw (disks, log, sealed) (frozen_files p table ws c is_flush (component_bytes c) made.whole t.disks t.log dev covered is.tells.active made.tells covered_tells kept is.files.jobs made.content);
  }

  -- it is listed, and the log came home as it was
  told_home : (u : Told) → u.failed ≡ true → u.log ≡ t.log → u.sealed_log ≡ None → u.disks ≡ comes_home (sealed_name p) (λ x. home x) covered (frozen p table ws c is_flush (component_bytes c) made.whole dev t.disks)
      → HasFailedAs u (after p table ws c is_flush) None
  told_home u failed log sealed disks =
      let new = comes_home (sealed_name p) (λ x. home x) covered (frozen p table ws c is_flush (component_bytes c) made.whole dev t.disks) in
      let untold : t.disks ≡ [] → new ≡ [] = λ none. ap (λ ds. comes_home (sealed_name p) (λ x. home x) covered (frozen p table ws c is_flush (component_bytes c) made.whole dev ds)) none
      ∙ ap (comes_home (sealed_name p) (λ x. home x) covered) (comes_untold (made_name p) frozen_entry dev) ∙ comes_untold (sealed_name p) (λ x. home x) covered in
      record {
        failed = failed;
        tells = rw (disks, log, sealed) (record { active = told_again (IsTold t.log) t.disks new untold is.tells.active; sealed = told_again (Unit {0}) t.disks new untold (told_map (λ disk. IsTold t.log) (λ disk. Unit {0}) t.disks (λ disk any. tt) is.tells.active) });
        files = rw (disks, log, sealed) (home_files p table ws c is_flush (component_bytes c) made.whole t.disks t.log dev covered is.tells.active made.tells covered_tells kept is.files.jobs made.content);
      }

  told_moments : IfTold covered IsSettled → StoreMomentsLeaveStore (flushed_soon p table ws) (after p table ws c is_flush) t (uncovered p table ws c is_flush (component_bytes c) made.whole dev covered t.disks)
  told_moments settled =
      subst (λ o. MomentsSince (λ disk f g. LeavesStoreAt (flushed_soon p table ws) None g f disk ⊎ LeavesStoreAt (after p table ws c is_flush) None g f disk) t.disks t.log o (uncovered p table ws c is_flush (component_bytes c) made.whole dev covered t.disks)) (sym some)
      (flush_moments_since p table ws c is_flush (component_bytes c) made.whole t.disks t.log dev covered is.tells.active made.tells covered_tells kept is.files.jobs made.content settled)

  told_frozen_moments : StoreMomentsLeaveStore (flushed_soon p table ws) (flushed_soon p table ws) t (frozen p table ws c is_flush (component_bytes c) made.whole dev t.disks)
  told_frozen_moments =
      subst (λ o. MomentsSince (λ disk f g. LeavesStoreAt (flushed_soon p table ws) None g f disk ⊎ LeavesStoreAt (flushed_soon p table ws) None g f disk) t.disks t.log o (frozen p table ws c is_flush (component_bytes c) made.whole dev t.disks)) (sym some)
      (frozen_moments_since p table ws c is_flush (component_bytes c) made.whole t.disks t.log dev covered is.tells.active made.tells covered_tells kept is.files.jobs made.content)

  told_home_moments : StoreMomentsLeaveStore (flushed_soon p table ws) (after p table ws c is_flush) t (comes_home (sealed_name p) (λ x. home x) covered (frozen p table ws c is_flush (component_bytes c) made.whole dev t.disks))
  told_home_moments =
      subst (λ o. MomentsSince (λ disk f g. LeavesStoreAt (flushed_soon p table ws) None g f disk ⊎ LeavesStoreAt (after p table ws c is_flush) None g f disk) t.disks
      t.log o (comes_home (sealed_name p) (λ x. home x) covered (frozen p table ws c is_flush (component_bytes c) made.whole dev t.disks))) (sym some)
      (home_moments_since p table ws c is_flush (component_bytes c) made.whole t.disks t.log dev covered is.tells.active made.tells covered_tells kept is.files.jobs made.content)

  -- the device of the flush has what a flush makes
  told_made : IfTold dev (LeavesAt (IsShutOrHas (IsFlushed p.part p.list (flushed_soon p table ws).sealed)))
  told_made = told_map (λ x. x ≡ settled_file (component_bytes c)) (LeavesAt (IsShutOrHas (IsFlushed p.part p.list (flushed_soon p table ws).sealed))) dev
      (λ x whole. subst (λ y. LeavesAt (IsShutOrHas (IsFlushed p.part p.list (flushed_soon p table ws).sealed)) y) (sym whole)
      (settled_leaves (component_bytes c) (IsShutOrHas (IsFlushed p.part p.list (flushed_soon p table ws).sealed)) (inr (c, is_flush, made.whole)))) made.content

-- ---- of any part whose flush is out

-- a fact of the part as one whose flush is out
as_soon : (P : PartView → Type 0) (t : Told) (p : PartView) → IsPart t p → t.flushing ≡ true → (covered : List DiskFile) → t.sealed_log ≡ Some covered
    → ((table : Table) (ws : List Write) → IsPart t (flushed_soon p table ws) → flushed_soon p table ws ≡ p → P (flushed_soon p table ws)) → P p
as_soon P t p is flushing covered some go =
    let soon = is_flushed_soon t p is flushing covered some in
    subst P soon.is (go soon.table soon.ws (subst (λ q. IsPart t q) (sym soon.is) is) soon.is)

pub flush_listed : (t u : Told) (p : PartView) (c : Content) (component : ToldComponent) (dev covered : List DiskFile) → IsPart t p → t.flushing ≡ true → t.sealed_log ≡ Some covered → MakesFlush p c → IsOfContent component c → HasMade c t.disks dev → IfTold covered IsSettled
    → u ≡ record t {
      disks = removes (Log (t.generation - 1)) (comes_home (Log (t.generation - 1)) frozen_entry covered
          (comes_home (Component (t.generation - 1) (t.generation - 1)) frozen_entry dev t.disks));
      sealed = None;
      sealed_log = None;
      components = t.components ++ component ∷ [];
      flushing = false;
    }
    → IsPart u (flushed_part c p)
flush_listed t u p c component dev covered is flushing some makes of made settled same =
    as_soon (λ q. MakesFlush q c → IsPart u (flushed_part c q)) t p is flushing covered some
    (λ table ws soon eq is_flush. subst (λ x. IsPart x (flushed_part c (flushed_soon p table ws)))
    (sym (same ∙ ap (λ ds. record t { disks = ds; sealed = None; sealed_log = None; components = t.components ++ component ∷ []; flushing = false }) (uncovered_is t p table ws soon covered some c is_flush dev made)))
    (told_flushed t p table ws soon covered some c is_flush dev made settled component of)) makes

pub flush_keeps_store : (t : Told) (p : PartView) (c : Content) (covered : List DiskFile) → IsPart t p → t.flushing ≡ true → t.sealed_log ≡ Some covered → MakesFlush p c → store_of (flushed_part c p) ≡ store_of p
flush_keeps_store t p c covered is flushing some makes =
    as_soon (λ q. MakesFlush q c → store_of (flushed_part c q) ≡ store_of q) t p is flushing covered some (λ table ws soon eq is_flush. store_stays p table ws c is_flush soon.memory) makes

pub flush_listed_moments : (t : Told) (p : PartView) (c : Content) (dev covered : List DiskFile) → IsPart t p → t.flushing ≡ true → t.sealed_log ≡ Some covered → MakesFlush p c → HasMade c t.disks dev → IfTold covered IsSettled
    → StoreMomentsLeaveStore p (flushed_part c p) t (removes (Log (t.generation - 1)) (comes_home (Log (t.generation - 1)) frozen_entry covered (comes_home (Component (t.generation - 1) (t.generation - 1)) frozen_entry dev t.disks)))
flush_listed_moments t p c dev covered is flushing some makes made settled =
    as_soon (λ q. MakesFlush q c → StoreMomentsLeaveStore q (flushed_part c q) t (removes (Log (t.generation - 1)) (comes_home (Log (t.generation - 1)) frozen_entry covered (comes_home (Component (t.generation - 1) (t.generation - 1)) frozen_entry dev t.disks)))) t p is flushing covered some
    (λ table ws soon eq is_flush. subst (λ ds. StoreMomentsLeaveStore (flushed_soon p table ws) (flushed_part c (flushed_soon p table ws)) t ds) (sym (uncovered_is t p table ws soon covered some c is_flush dev made))
    (told_moments t p table ws soon covered some c is_flush dev made settled)) makes

pub flush_not_listed : (t u : Told) (p : PartView) (c : Content) (dev covered : List DiskFile) → IsPart t p → t.flushing ≡ true → t.sealed_log ≡ Some covered → MakesFlush p c → HasMade c t.disks dev → u.failed ≡ true → u.log ≡ t.log → u.sealed_log ≡ t.sealed_log
    → u.disks ≡ comes_home (Component (t.generation - 1) (t.generation - 1)) frozen_entry dev t.disks → HasFailedAs u p None
flush_not_listed t u p c dev covered is flushing some makes made failed log sealed disks =
    as_soon (λ q. MakesFlush q c → HasFailedAs u q None) t p is flushing covered some
    (λ table ws soon eq is_flush. told_frozen t p table ws soon covered some c is_flush dev made u failed log (sealed ∙ some) (disks ∙ frozen_is t p table ws soon covered some c is_flush dev made)) makes

pub flush_log_home : (t u : Told) (p : PartView) (c : Content) (dev covered : List DiskFile) → IsPart t p → t.flushing ≡ true → t.sealed_log ≡ Some covered → MakesFlush p c → HasMade c t.disks dev → u.failed ≡ true → u.log ≡ t.log → u.sealed_log ≡ None
    → u.disks ≡ comes_home (Log (t.generation - 1)) (λ x. home x) covered (comes_home (Component (t.generation - 1) (t.generation - 1)) frozen_entry dev t.disks) → HasFailedAs u (flushed_part c p) None
flush_log_home t u p c dev covered is flushing some makes made failed log sealed disks =
    as_soon (λ q. MakesFlush q c → HasFailedAs u (flushed_part c q) None) t p is flushing covered some
    (λ table ws soon eq is_flush. told_home t p table ws soon covered some c is_flush dev made u failed log sealed
    (disks ∙ ap (λ n. comes_home (Log n) (λ x. home x) covered (comes_home (Component n n) frozen_entry dev t.disks)) (last t p table ws soon covered some c is_flush dev made))) makes

pub flush_not_listed_moments : (t : Told) (p : PartView) (c : Content) (dev covered : List DiskFile) → IsPart t p → t.flushing ≡ true → t.sealed_log ≡ Some covered → MakesFlush p c → HasMade c t.disks dev
    → StoreMomentsLeaveStore p p t (comes_home (Component (t.generation - 1) (t.generation - 1)) frozen_entry dev t.disks)
flush_not_listed_moments t p c dev covered is flushing some makes made =
    as_soon (λ q. MakesFlush q c → StoreMomentsLeaveStore q q t (comes_home (Component (t.generation - 1) (t.generation - 1)) frozen_entry dev t.disks)) t p is flushing covered some
    (λ table ws soon eq is_flush. subst (λ ds. StoreMomentsLeaveStore (flushed_soon p table ws) (flushed_soon p table ws) t ds) (sym (frozen_is t p table ws soon covered some c is_flush dev made))
    (told_frozen_moments t p table ws soon covered some c is_flush dev made)) makes

pub flush_log_home_moments : (t : Told) (p : PartView) (c : Content) (dev covered : List DiskFile) → IsPart t p → t.flushing ≡ true → t.sealed_log ≡ Some covered → MakesFlush p c → HasMade c t.disks dev
    → StoreMomentsLeaveStore p (flushed_part c p) t (comes_home (Log (t.generation - 1)) (λ x. home x) covered (comes_home (Component (t.generation - 1) (t.generation - 1)) frozen_entry dev t.disks))
flush_log_home_moments t p c dev covered is flushing some makes made =
    as_soon (λ q. MakesFlush q c → StoreMomentsLeaveStore q (flushed_part c q) t (comes_home (Log (t.generation - 1)) (λ x. home x) covered (comes_home (Component (t.generation - 1) (t.generation - 1)) frozen_entry dev t.disks))) t p is flushing covered some
    (λ table ws soon eq is_flush. subst (λ ds. StoreMomentsLeaveStore (flushed_soon p table ws) (flushed_part c (flushed_soon p table ws)) t ds)
    (sym (ap (λ n. comes_home (Log n) (λ x. home x) covered (comes_home (Component n n) frozen_entry dev t.disks)) (last t p table ws soon covered some c is_flush dev made)))
    (told_home_moments t p table ws soon covered some c is_flush dev made)) makes

pub flush_made_leaves : (t : Told) (p : PartView) (c : Content) (dev covered : List DiskFile) → IsPart t p → t.flushing ≡ true → t.sealed_log ≡ Some covered → MakesFlush p c → HasMade c t.disks dev
    → IfTold dev (LeavesAt (IsShutOrHas (IsFlushed p.part p.list p.sealed)))
flush_made_leaves t p c dev covered is flushing some makes made =
    as_soon (λ q. MakesFlush q c → IfTold dev (LeavesAt (IsShutOrHas (IsFlushed q.part q.list q.sealed)))) t p is flushing covered some
    (λ table ws soon eq is_flush. told_made t p table ws soon covered some c is_flush dev made) makes
