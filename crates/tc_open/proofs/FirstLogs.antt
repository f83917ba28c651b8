-- The first log of a part is made where no log stands above its components, over one disk.
use Rattle.std.proofs.Common.{◌≡◌, ◌<◌, ◌+◌, ◌^◌, ℕ, List, [], refl, sym, ap, subst, arith, inl, inr, Option, Some, None, true}
use Rattle.std.proofs.lemmas.Bool.{cases_Bool, false≢true}
use Rattle.std.proofs.lemmas.List.Elements.{All-weaker}
use Rattle.tc_store.specs.declared.file_name.FileName.{FileName}
use Rattle.tc_store.specs.declared.file_name.FileName.TheVariants.{Component, Log}
use Rattle.tc_store.specs.Disk.{Disk, Entry, IsThere, MayLeaveAt, home, is_out, none, out, put, removed_of, still}
use Rattle.tc_store.specs.DiskFile.{DiskFile, empty_file, settled_file}
use Rattle.tc_store.specs.Gate.{IsShutOrWhole, is_open_file}
use Rattle.tc_store.specs.Images.{Image}
use Rattle.tc_store.specs.Moments.{LeavesAt}
use Rattle.tc_store.proofs.GateLemmas.{settled_leaves}
use Rattle.tc_store.proofs.NameLemmas.{put_there}
use Rattle.tc_log.specs.Spelling.{IsHead, log_at_rest}
use Rattle.tc_lsm_model.specs.Contents.{Content, Partition}
use Rattle.tc_lsm_model.specs.Lists.{last_of, live}
use Rattle.tc_machine.specs.Components.{IsStillComponent, LeavesComponent, file_of}
use Rattle.tc_machine.specs.Events.{device_called, log_made, made, step}
use Rattle.tc_machine.specs.Kept.{IsKept}
use Rattle.tc_machine.specs.Logs.{IsLog, LeavesLog, log_head}
use Rattle.tc_machine.specs.Sound.{IsExplained, LeavesOf}
use Rattle.tc_machine.specs.State.{State, next_generation}
use Rattle.tc_machine.specs.Steps.{IsExpected, IsShutOrHas, StartsPart, nothing_held}
use Rattle.tc_machine.proofs.Events.{event_keeps}
use Rattle.tc_machine.proofs.FilesLeft.{at_name}
use Rattle.tc_machine.proofs.FilesMade.{empty_image}
use Rattle.tc_machine.proofs.FreeNames.{none_there}
use Rattle.tc_machine.proofs.LogHeads.{new_log}
use Rattle.tc_machine.proofs.Moments.{put_twice}
use Rattle.tc_open.specs.BeingOpened.{opening_at}
use Rattle.tc_open.specs.FirstLog.{IsStarting, MakesLog, held_under}
use Rattle.tc_open.specs.Resting.{IsStillOrGone, IsTidy}
use Rattle.tc_open.proofs.KeptStores.{held_home, home_out, kept_holds, none_out}

-- what is still is there as it is
still_component : (c : Content) (e : Entry) → IsStillOrGone e → ((image : Image) → MayLeaveAt (nothing_held (file_of c)) e image → LeavesComponent c image) → IsStillComponent c e
still_component c (none before) rests leaves = absurd (leaves None tt)
still_component c (still b) rests leaves = (b, refl, leaves (Some b) refl)
still_component c (home f) rests leaves = absurd rests
still_component c out rests leaves = absurd rests

not_out : (e : Entry) → IsStillOrGone e → is_out e ≡ true → ⊥
not_out (none before) rests is = false≢true is
not_out (still b) rests is = false≢true is
not_out (home f) rests is = rests
not_out out rests is = rests

module _ (part : Partition) (cs : List Content) (disk : Disk) (r : IsTidy part cs [] disk) where
  abbrev pub s : State
  s = opening_at cs [] disk

  abbrev pub name : FileName
  name = Log (last_of cs + 1)

  next : next_generation s ≡ last_of cs + 1
  next = omega arith

  pub free : IsThere (disk name) → ⊥
  free there = expected (r.expected name there)
    where
      expected : IsExpected s name → ⊥
      expected (inl before) = omega (arith, before)
      expected (inr at) = false≢true at.1

  absent : (before : Option (List ℕ)) × (disk name ≡ none before)
  absent = none_there (disk name) free

  -- what there was before under the name is closed, or a log without a frame
  shut_before : (b : List ℕ) → absent.0 ≡ Some b → MakesLog part cs (Some b)
  shut_before b was = elim (cases_Bool (is_open_file b)) [
    | inl is_open ↦ inr (at (r.kept.files.others name b (subst (λ e. MayLeaveAt (nothing_held name) e (Some b)) (sym absent.1) was) is_open))
    | inr shut ↦ inl shut
  ]
    where
      at : IsExplained part s name b → IsLog part (last_of cs + 1) [] b
      at (inl covered) = absurd (let low = covered.0 in omega (arith, low))
      at (inr (inl between)) = absurd (let low = between.1 in omega (arith, low))
      at (inr (inr is_next)) = is_next.1

  pub empty_leaves : LeavesAt (MakesLog part cs) (empty_file (removed_of (disk name)))
  empty_leaves = subst (λ before. LeavesAt (MakesLog part cs) (empty_file before)) (sym (ap removed_of absent.1)) at
    where
      at : LeavesAt (MakesLog part cs) (empty_file absent.0)
      at None left = tt
      at (Some b) (inl is) = inl (empty_image absent.0 b is)
      at (Some b) (inr was) = shut_before b was

  -- what the creation of the log says of a moment is what the machine asks
  pub created_leaves : (x : DiskFile) → IsHead (log_head part (last_of cs + 1)) → LeavesAt (IsShutOrWhole (removed_of (disk name)) (log_at_rest (log_head part (last_of cs + 1)) [])) x → LeavesAt (MakesLog part cs) x
  created_leaves x is_head leaves image left = at image (subst (λ before. IsShutOrWhole before (log_at_rest (log_head part (last_of cs + 1)) []) image) (ap removed_of absent.1) (leaves image left))
    where
      at : (image : Image) → IsShutOrWhole absent.0 (log_at_rest (log_head part (last_of cs + 1)) []) image → MakesLog part cs image
      at None is = tt
      at (Some b) (inl shut) = inl shut
      at (Some b) (inr (inl was)) = shut_before b was
      at (Some b) (inr (inr whole)) = inr (subst (λ bytes. IsLog part (last_of cs + 1) [] bytes) (sym whole.same) (new_log part (last_of cs + 1) is_head))

  -- ---- the log is made

  abbrev pub with_log : DiskFile → State
  with_log x = record (opening_at cs [] (put name (home x) disk)) { making = true }

  is_made : IsKept part (step log_made s)
  is_made = event_keeps part s log_made r.kept (record { before = absent.0; absent = subst (λ n. disk (Log n) ≡ none absent.0) (sym next) absent.1 })

  pub log_kept : (x : DiskFile) → LeavesAt (MakesLog part cs) x → IsKept part (with_log x)
  log_kept x leaves =
      let m = next_generation s in
      let called : IsKept part (step (device_called (Log m) x) (step log_made s)) = event_keeps part (step log_made s) (device_called (Log m) x) is_made (record {
        old = empty_file (removed_of (disk (Log m)));
        home = put_there (Log m) (made (disk (Log m))) disk;
        may = inr (inl (record { named = refl; leaves = subst (λ n. LeavesAt (IsShutOrHas (IsLog part n [])) x) (sym next) leaves }));
      }) in
      subst (λ n. IsKept part (record (opening_at cs [] (put (Log n) (home x) disk)) { making = true })) next
      (subst (λ files. IsKept part (record (opening_at cs [] files) { making = true })) (put_twice (Log m) (made (disk (Log m))) (home x) disk) called)

  -- no other file is out
  pub only_put : (e : Entry) (n : FileName) → is_out (put name e disk n) ≡ true → n ≡ name
  only_put e n is = at_name name n e disk (λ x. is_out x ≡ true → n ≡ name) (λ same held. sym same) (λ apart held. absurd (not_out (disk n) (r.still n) held)) is

  -- while it is out, and once it is at home
  pub out_starts : IsStarting part cs (live cs) (put name out disk)
  out_starts = record {
    alone = only_put out;
    leaves = λ picture left.
        let h = held_home (IsLog part (last_of cs + 1) []) name disk picture r.still left in
        kept_holds part (with_log h.file) (log_kept h.file h.leaves) refl picture h.left;
  }

  pub home_starts : (x : DiskFile) → LeavesAt (MakesLog part cs) x → IsStarting part cs (live cs) (put name (home x) disk)
  home_starts x leaves = record {
    alone = only_put (home x);
    leaves = λ picture left. kept_holds part (with_log x) (log_kept x leaves) refl picture (home_out (held_under name (MakesLog part cs)) name x disk picture r.still left);
  }

  pub rest_starts : IsStarting part cs (live cs) disk
  rest_starts = record {
    alone = λ n is. absurd (not_out (disk n) (r.still n) is);
    leaves = λ picture left. kept_holds part s r.kept refl picture (none_out (held_under name (MakesLog part cs)) disk picture r.still left);
  }

  -- ---- the opening ends

  module _ (x : DiskFile) (bound : last_of cs + 1 < 2 ^ 63) (is_head : IsHead (log_head part (last_of cs + 1))) (is : x ≡ settled_file (log_at_rest (log_head part (last_of cs + 1)) [])) where
    whole : LeavesAt (LeavesLog part (last_of cs + 1) []) x
    whole = subst (λ y. LeavesAt (LeavesLog part (last_of cs + 1) []) y) (sym is)
        (settled_leaves (log_at_rest (log_head part (last_of cs + 1)) []) (LeavesLog part (last_of cs + 1) []) (new_log part (last_of cs + 1) is_head))

    shut_or : (image : Image) → LeavesLog part (last_of cs + 1) [] image → MakesLog part cs image
    shut_or None has = absurd has
    shut_or (Some b) has = inr has

    pub whole_kept : IsKept part (with_log x)
    whole_kept = log_kept x (λ image left. shut_or image (whole image left))

    pub may_start : StartsPart part (with_log x)
    may_start = record {
      opening = refl;
      none_sealed = refl;
      next_log = subst (λ n. (n < 2 ^ 63) × ((f : DiskFile) × (put name (home x) disk (Log n) ≡ home f) × LeavesAt (LeavesLog part n []) f)) (sym next) (bound, (x, put_there name (home x) disk, whole));
      still = All-weaker (λ c. LeavesOf disk (file_of c) (LeavesComponent c)) (λ c. IsStillComponent c (disk (file_of c))) (λ c leaves. still_component c (disk (file_of c)) (r.still (file_of c)) leaves) cs r.kept.files.listed;
      expected = λ n there. at_name name n (home x) disk (λ e. IsThere e → IsExpected (with_log x) n) (λ same here. subst (λ m. IsExpected (with_log x) m) same (inr (sym next, refl))) (λ apart here. expected n (r.expected n here)) there;
    }
      where
        expected : (n : FileName) → IsExpected s n → IsExpected (with_log x) n
        expected (Component from to) is_expected = is_expected
        expected (Log h) (inl before) = inl before
        expected (Log h) (inr at) = absurd (false≢true at.1)
