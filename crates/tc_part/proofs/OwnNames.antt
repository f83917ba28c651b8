-- The files of a part stay its own with each change of its store and of its list, and the names that it is about to use are free.
use Rattle.std.proofs.Common.{◌≡◌, ◌<◌, ◌+◌, ◌-◌, ◌∙◌, ℕ, Bool, true, false, List, [], ◌∷◌, ◌++◌, length, map, take, drop, refl, sym, ap, subst, arith, inl, inr, Option, Some, None}
use Rattle.std.specs.Prelude.{if◌then◌else◌}
use Rattle.std.proofs.lemmas.Bool.{cases_Bool}
use Rattle.std.proofs.lemmas.List.{drop-drop, map-append}
use Rattle.tc_store.specs.declared.file_name.FileName.{FileName}
use Rattle.tc_store.specs.declared.file_name.FileName.TheVariants.{Component, Log}
use Rattle.tc_store.specs.Disk.{Disk, Entry, IsThere, content_of, home, is_out, is_still, none, out, put, same_name, still}
use Rattle.tc_store.specs.DiskFile.{DiskFile}
use Rattle.tc_store.specs.Moments.{IfTold}
use Rattle.tc_store.specs.StoreCalls.{comes_home, frozen_entry, makes, removes, returns_as, RemovesSome}
use Rattle.tc_store.proofs.NameLemmas.{same_name-is}
use Rattle.tc_component.specs.Loading.{ComponentState}
use Rattle.tc_lsm_model.specs.Merges.{Run as Neighbours}
use Rattle.tc_list.specs.declared.run.Run.{Run}
use Rattle.tc_list.specs.Intervals.{first_of, last_of}
use Rattle.tc_list.specs.Runs.{in_run, neighbours, swapped}
use Rattle.tc_list.proofs.RunLaws.{in_run-map, run_length}
use Rattle.tc_part.specs.OwnFiles.{AreOfFlush, AreOfMerge, BeginBy, EndFrom, FollowInOrder, HasOnlyOwn, HasOwnFiles, IsOwn, LieWithin}
use Rattle.tc_part_model.specs.PartState.{Told, ToldComponent, told_component}
use Rattle.tc_part.proofs.OwnIntervals.{begin_in, end_in, end_whole, ends_below, follow_behind, at_place, run_between, run_ends, run_long, run_not_within, seen, swapped_follow, swapped_within, within_at, within_ends, within_front}

-- ---- which names are there

-- each name that is there now was there before; what tells nothing goes on so
abbrev pub NoneNew : List Disk → List Disk → Type 0
NoneNew [] new = new ≡ []
NoneNew (disk ∷ past) new = IfTold new (λ now. (name : FileName) → IsThere (now name) → IsThere (disk name))

pub same_names : (disks : List Disk) → NoneNew disks disks
same_names [] = refl
same_names (disk ∷ past) = λ name there. there

pub none_new-trans : (first second third : List Disk) → NoneNew first second → NoneNew second third → NoneNew first third
none_new-trans [] second third one two = subst (λ s. NoneNew s third) one two
none_new-trans (disk ∷ past) [] third one two = subst (λ s. NoneNew (disk ∷ past) s) (sym two) tt
none_new-trans (disk ∷ past) (now ∷ past') [] one two = tt
none_new-trans (disk ∷ past) (now ∷ past') (last ∷ past'') one two = λ name there. one name (two name there)

put_none_new : (name : FileName) (entry : Entry) (disk : Disk) → (IsThere entry → IsThere (disk name)) → (n : FileName) → IsThere (put name entry disk n) → IsThere (disk n)
put_none_new name entry disk go n there = elim (cases_Bool (same_name name n)) [
  | inl same ↦ subst (λ m. IsThere (disk m)) (same_name-is name n same) (go (subst (λ b. IsThere (if b then entry else disk n)) same there))
  | inr apart ↦ subst (λ b. IsThere (if b then entry else disk n)) apart there
]

out_there : (e : Entry) → is_out e ≡ true → IsThere e
out_there (none before) is = absurd (cc)
out_there (home f) is = tt
out_there (still bytes) is = tt
out_there out is = tt

returned_none_new : (name : FileName) (entry : Entry) (disks : List Disk) → NoneNew disks (returns_as name entry disks)
returned_none_new name entry [] = refl
returned_none_new name entry (disk ∷ past) = elim (cases_Bool (is_out (disk name))) [
  | inl is ↦ rw is λ n there. put_none_new name entry disk (λ new. out_there (disk name) is) n there
  | inr not_out ↦ rw not_out λ n there. there
]

pub home_none_new : (name : FileName) (entry : DiskFile → Entry) (moments : List DiskFile) (disks : List Disk) → NoneNew disks (comes_home name entry moments disks)
home_none_new name entry [] disks = same_names disks
home_none_new name entry (f ∷ past) disks = returned_none_new name (entry f) disks

pub removed_none_new : (name : FileName) (disks : List Disk) → NoneNew disks (removes name disks)
removed_none_new name [] = refl
removed_none_new name (disk ∷ past) = elim (cases_Bool (is_still (disk name))) [
  | inl is ↦ rw is λ n there. put_none_new name (none (content_of (disk name))) disk (λ new. absurd new) n there
  | inr not_still ↦ rw not_still λ n there. there
]

pub some_removed_none_new : (names : List FileName) (old new : List Disk) → RemovesSome names old new → NoneNew old new
some_removed_none_new [] old new is = subst (λ ds. NoneNew old ds) (sym is) (same_names old)
some_removed_none_new (name ∷ names) old new (inl stays) = some_removed_none_new names old new stays
some_removed_none_new (name ∷ names) old new (inr goes) = none_new-trans old (removes name old) new (removed_none_new name old) (some_removed_none_new names (removes name old) new goes)

-- ---- changes

-- what is own of the one is own of the other, where the list is in order
abbrev pub StaysOwn : Told → Told → Type 0
StaysOwn t u = FollowInOrder 0 t.components → FollowInOrder 0 u.components × ((name : FileName) → IsOwn t name → IsOwn u name)

pub own_still : (t u : Told) → NoneNew t.disks u.disks → StaysOwn t u → HasOwnFiles t → HasOwnFiles u
own_still t u none_new stays own = at t.disks u.disks none_new own
  where
    at : (old new : List Disk) → NoneNew old new → IfTold old (λ disk. FollowInOrder 0 t.components × HasOnlyOwn t disk) → IfTold new (λ disk. FollowInOrder 0 u.components × HasOnlyOwn u disk)
    at [] new same has = subst (λ ds. IfTold ds (λ disk. FollowInOrder 0 u.components × HasOnlyOwn u disk)) (sym same) tt
    at (disk ∷ past) [] same has = tt
    at (disk ∷ past) (now ∷ past') same has = let s = stays has.0 in (s.0, λ name there. s.1 name (has.1 name (same name there)))

pub own_made : (t u : Told) (made : FileName) → u.disks ≡ makes made t.disks → IsOwn u made → StaysOwn t u → HasOwnFiles t → HasOwnFiles u
own_made t u made is new stays own = subst (λ ds. IfTold ds (λ disk. FollowInOrder 0 u.components × HasOnlyOwn u disk)) (sym is) (at t.disks own)
  where
    at : (old : List Disk) → IfTold old (λ disk. FollowInOrder 0 t.components × HasOnlyOwn t disk) → IfTold (makes made old) (λ disk. FollowInOrder 0 u.components × HasOnlyOwn u disk)
    at [] has = tt
    at (disk ∷ past) has =
        let s = stays has.0 in (
          s.0,
          λ name there. elim (cases_Bool (same_name made name)) [
            | inl same ↦ subst (IsOwn u) (same_name-is made name same) new
            | inr apart ↦ s.1 name (has.1 name (subst (λ b. IsThere (if b then out else disk name)) apart there))
          ],
        )

-- the same list and the same jobs
pub own_same : (t u : Told) → u.disks ≡ t.disks → u.generation ≡ t.generation → u.components ≡ t.components → u.flushing ≡ t.flushing → u.merging ≡ t.merging → HasOwnFiles t → HasOwnFiles u
own_same t u disks generation components flushing merging =
    own_still t u (subst (λ ds. NoneNew t.disks ds) (sym disks) (same_names t.disks)) λ follow. (subst (FollowInOrder 0) (sym components) follow, each)
  where
    each : (name : FileName) → IsOwn t name → IsOwn u name
    each (Component from to) own = rw (generation, components, flushing, merging) own
    each (Log g) own = rw generation own

-- a name that is not own is free
pub not_own_is_free : (t : Told) (name : FileName) → (FollowInOrder 0 t.components → IsOwn t name → ⊥) → HasOwnFiles t → IfTold t.disks (λ disk. IsThere (disk name) → ⊥)
not_own_is_free t name never own = at t.disks own
  where
    at : (disks : List Disk) → IfTold disks (λ disk. FollowInOrder 0 t.components × HasOnlyOwn t disk) → IfTold disks (λ disk. IsThere (disk name) → ⊥)
    at [] has = tt
    at (disk ∷ past) has = λ there. never has.0 (has.1 name there)

no_flush : (flushing : Bool) (generation from to : ℕ) → flushing ≡ false → AreOfFlush flushing generation from to → ⊥
no_flush false generation from to idle is = is
no_flush true generation from to idle is = absurd (cc)

-- ---- a seal

pub next_log_is_free : (t : Told) → HasOwnFiles t → IfTold t.disks (λ disk. IsThere (disk (Log (t.generation + 1))) → ⊥)
next_log_is_free t = not_own_is_free t (Log (t.generation + 1)) (λ follow own. omega (arith, own))

pub sealed_own : (t u : Told) → t.flushing ≡ false → u.disks ≡ makes (Log (t.generation + 1)) t.disks → u.generation ≡ t.generation + 1 → u.components ≡ t.components → u.flushing ≡ t.flushing → u.merging ≡ t.merging → HasOwnFiles t → HasOwnFiles u
sealed_own t u idle disks generation components flushing merging =
    own_made t u (Log (t.generation + 1)) disks (omega (arith, generation)) λ follow. (subst (FollowInOrder 0) (sym components) follow, each)
  where
    each : (name : FileName) → IsOwn t name → IsOwn u name
    each (Component from to) (inl listed) = inl (subst (LieWithin from to) (sym components) listed)
    each (Component from to) (inr (inl flushed)) = absurd (no_flush t.flushing t.generation from to idle flushed)
    each (Component from to) (inr (inr merged)) = inr (inr (rw (merging, components) merged))
    each (Log g) own = omega (arith, own, generation)

-- ---- a flush

pub flush_begun_own : (t u : Told) → t.flushing ≡ false → u.disks ≡ makes (Component (t.generation - 1) (t.generation - 1)) t.disks → u.generation ≡ t.generation → u.components ≡ t.components → u.flushing ≡ true → u.merging ≡ t.merging
    → HasOwnFiles t → HasOwnFiles u
flush_begun_own t u idle disks generation components flushing merging =
    own_made t u (Component (t.generation - 1) (t.generation - 1)) disks (inr (inl (rw (flushing, generation) (refl, refl)))) λ follow. (subst (FollowInOrder 0) (sym components) follow, each)
  where
    each : (name : FileName) → IsOwn t name → IsOwn u name
    each (Component from to) (inl listed) = inl (subst (LieWithin from to) (sym components) listed)
    each (Component from to) (inr (inl flushed)) = absurd (no_flush t.flushing t.generation from to idle flushed)
    each (Component from to) (inr (inr merged)) = inr (inr (rw (merging, components) merged))
    each (Log g) own = omega (arith, own, generation)

module _ {F : Type 0} (content : F → Option (List ℕ)) (t : Told) (cs : List (ComponentState F)) (listed : t.components ≡ map (told_component content) cs) where
  flush_not_merged : (merging : Option Neighbours) (from to : ℕ) → FollowInOrder 0 t.components → last_of cs < to → AreOfMerge merging t.components from to → ⊥
  flush_not_merged None from to follow above is = is
  flush_not_merged (Some run) from to follow above is = omega (arith, above, ends_below content 0 to cs (subst (FollowInOrder 0) listed follow) (subst (EndFrom to) listed (end_whole to run.length run.first t.components is.1)))

  pub flush_is_free : t.flushing ≡ false → t.generation ≡ last_of cs + 2 → HasOwnFiles t → IfTold t.disks (λ disk. IsThere (disk (Component (t.generation - 1) (t.generation - 1))) → ⊥)
  flush_is_free idle behind = not_own_is_free t (Component (t.generation - 1) (t.generation - 1)) never
    where
      never : FollowInOrder 0 t.components → IsOwn t (Component (t.generation - 1) (t.generation - 1)) → ⊥
      never follow (inl within) = omega (arith, behind, (within_ends content 0 (t.generation - 1) (t.generation - 1) cs (subst (FollowInOrder 0) listed follow) (subst (LieWithin (t.generation - 1) (t.generation - 1)) listed within)).1)
      never follow (inr (inl flushed)) = no_flush t.flushing t.generation (t.generation - 1) (t.generation - 1) idle flushed
      never follow (inr (inr merged)) = flush_not_merged t.merging (t.generation - 1) (t.generation - 1) follow (omega (arith, behind)) merged

  -- what the flush made is listed
  flushed_behind : (u : Told) (c : ToldComponent) (device covered : List DiskFile) → t.generation ≡ last_of cs + 2 → c.index.head.from ≡ t.generation - 1 → c.index.head.to ≡ t.generation - 1
      → u.disks ≡ removes (Log (t.generation - 1)) (comes_home (Log (t.generation - 1)) frozen_entry covered (comes_home (Component (t.generation - 1) (t.generation - 1)) frozen_entry device t.disks))
      → u.generation ≡ t.generation → u.components ≡ t.components ++ c ∷ [] → u.flushing ≡ false → u.merging ≡ t.merging → HasOwnFiles t → HasOwnFiles u
  flushed_behind u c device covered behind from to disks generation components flushing merging =
      own_still t u fewer λ follow. (
        subst (FollowInOrder 0) (sym components) (subst (λ ts. FollowInOrder 0 (ts ++ c ∷ [])) (sym listed) (follow_behind content 0 cs c (subst (FollowInOrder 0) listed follow) (omega (arith, from, behind)) (omega (arith, from, to)))),
        each,
      )
    where
      fewer : NoneNew t.disks u.disks
      fewer =
          let home_disks = comes_home (Component (t.generation - 1) (t.generation - 1)) frozen_entry device t.disks in
          let both_home = comes_home (Log (t.generation - 1)) frozen_entry covered home_disks in
          subst (λ ds. NoneNew t.disks ds) (sym disks)
          (none_new-trans t.disks home_disks (removes (Log (t.generation - 1)) both_home) (home_none_new (Component (t.generation - 1) (t.generation - 1)) frozen_entry device t.disks)
          (none_new-trans home_disks both_home (removes (Log (t.generation - 1)) both_home) (home_none_new (Log (t.generation - 1)) frozen_entry covered home_disks) (removed_none_new (Log (t.generation - 1)) both_home)))

      of_flush : (flushing : Bool) (f g : ℕ) → AreOfFlush flushing t.generation f g → LieWithin f g (t.components ++ c ∷ [])
      of_flush false f g is = absurd is
      of_flush true f g is = within_at f g t.components [] c (omega (arith, is.0, from)) (omega (arith, is.1, to))

      of_merge : (merging : Option Neighbours) (f g : ℕ) → AreOfMerge merging t.components f g → AreOfMerge merging (t.components ++ c ∷ []) f g
      of_merge None f g is = is
      of_merge (Some run) f g is = (begin_in f run.length run.first t.components (c ∷ []) is.0, end_in g run.length run.first t.components (c ∷ []) is.1)

      each : (name : FileName) → IsOwn t name → IsOwn u name
      each (Component f g) (inl within) = inl (subst (LieWithin f g) (sym components) (within_front f g t.components (c ∷ []) within))
      each (Component f g) (inr (inl flushed)) = inl (subst (LieWithin f g) (sym components) (of_flush t.flushing f g flushed))
      each (Component f g) (inr (inr merged)) = inr (inr (rw (merging, components) (of_merge t.merging f g merged)))
      each (Log g) own = omega (arith, own, generation)

  pub flushed_own : (u : Told) (made : ComponentState F) (device covered : List DiskFile) → t.generation ≡ last_of cs + 2 → made.index.head.from ≡ t.generation - 1 → made.index.head.to ≡ t.generation - 1
      → u.disks ≡ removes (Log (t.generation - 1)) (comes_home (Log (t.generation - 1)) frozen_entry covered (comes_home (Component (t.generation - 1) (t.generation - 1)) frozen_entry device t.disks))
      → u.generation ≡ t.generation → u.components ≡ map (told_component content) (cs ++ made ∷ []) → u.flushing ≡ false → u.merging ≡ t.merging → HasOwnFiles t → HasOwnFiles u
  flushed_own u made device covered behind from to disks generation components =
      flushed_behind u (told_component content made) device covered behind from to disks generation (components ∙ map-append (told_component content) cs (made ∷ []) ∙ ap (λ ts. ts ++ told_component content made ∷ []) (sym listed))

  -- ---- a merge

  module _ (run : Run) (order : run.first < run.last) (within : run.last < length cs) where
    abbrev n : ℕ
    n = run.last + 1 - run.first

    abbrev run_from : ℕ
    run_from = first_of (in_run run cs)

    abbrev run_to : ℕ
    run_to = last_of (in_run run cs)

    follows : FollowInOrder 0 t.components → FollowInOrder 0 (seen content cs)
    follows = subst (FollowInOrder 0) listed

    run_seen : take n (drop run.first t.components) ≡ seen content (in_run run cs)
    run_seen = ap (λ ts. take n (drop run.first ts)) listed ∙ sym (in_run-map (told_component content) run cs)

    pub merge_is_free : t.merging ≡ None → HasOwnFiles t → IfTold t.disks (λ disk. IsThere (disk (Component run_from run_to)) → ⊥)
    merge_is_free idle = not_own_is_free t (Component run_from run_to) never
      where
        no_merge : (merging : Option Neighbours) (from to : ℕ) → merging ≡ None → AreOfMerge merging t.components from to → ⊥
        no_merge None from to is of = of
        no_merge (Some other) from to is of = absurd (cc)

        no_flush_of : (flushing : Bool) → FollowInOrder 0 t.components → AreOfFlush flushing t.generation run_from run_to → ⊥
        no_flush_of false follow is = is
        no_flush_of true follow is = omega (arith, is.0, is.1, run_long content 0 run.first n cs (follows follow) (omega (arith, order)) (omega (arith, order, within)))

        never : FollowInOrder 0 t.components → IsOwn t (Component run_from run_to) → ⊥
        never follow (inl covered) = run_not_within content 0 run.first n cs (follows follow) (omega (arith, order)) (omega (arith, order, within)) (subst (LieWithin run_from run_to) listed covered)
        never follow (inr (inl flushed)) = no_flush_of t.flushing follow flushed
        never follow (inr (inr merged)) = no_merge t.merging run_from run_to idle merged

    -- the merge is out
    pub merge_begun_own : (u : Told) → t.merging ≡ None → u.disks ≡ makes (Component run_from run_to) t.disks → u.generation ≡ t.generation → u.components ≡ t.components → u.flushing ≡ t.flushing → u.merging ≡ Some (neighbours run)
        → HasOwnFiles t → HasOwnFiles u
    merge_begun_own u idle disks generation components flushing merging =
        own_made t u (Component run_from run_to) disks new λ follow. (subst (FollowInOrder 0) (sym components) follow, each)
      where
        new : IsOwn u (Component run_from run_to)
        new =
            let ends = run_between content (in_run run cs) (omega (arith, run_length run cs (omega (arith, order)) within, order)) in
            inr (inr (rw (merging, components, run_seen) ends))

        no_merge : (merging : Option Neighbours) (from to : ℕ) → merging ≡ None → AreOfMerge merging t.components from to → AreOfMerge u.merging u.components from to
        no_merge None from to is of = absurd of
        no_merge (Some other) from to is of = absurd (cc)

        each : (name : FileName) → IsOwn t name → IsOwn u name
        each (Component from to) (inl listed) = inl (subst (LieWithin from to) (sym components) listed)
        each (Component from to) (inr (inl flushed)) = inr (inl (rw (flushing, generation) flushed))
        each (Component from to) (inr (inr merged)) = inr (inr (no_merge t.merging from to idle merged))
        each (Log g) own = omega (arith, own, generation)

    -- what the merge made is listed in place of the run, whose files may be removed
    pub merged_own : (u : Told) (m : ComponentState F) (name : FileName) (device : List DiskFile) (names : List FileName) → t.merging ≡ Some (neighbours run) → m.index.head.from ≡ run_from → m.index.head.to ≡ run_to
        → RemovesSome names (comes_home name frozen_entry device t.disks) u.disks → u.generation ≡ t.generation → u.components ≡ map (told_component content) (swapped run m cs) → u.flushing ≡ t.flushing → u.merging ≡ None → HasOwnFiles t → HasOwnFiles u
    merged_own u m name device names merges from to disks generation components flushing merging =
        own_still t u (none_new-trans t.disks (comes_home name frozen_entry device t.disks) u.disks (home_none_new name frozen_entry device t.disks) (some_removed_none_new names (comes_home name frozen_entry device t.disks) u.disks disks))
        λ follow. (put_in (λ ts. FollowInOrder 0 ts) (swapped_follow content m 0 run.first n cs (follows follow) (omega (arith, order)) (omega (arith, order, within)) from to), each follow)
      where
        ends : run.first + n ≡ run.last + 1
        ends = omega (arith, order)

        swapped_is : take run.first cs ++ m ∷ drop n (drop run.first cs) ≡ swapped run m cs
        swapped_is = ap (λ xs. take run.first cs ++ m ∷ xs) (drop-drop n run.first cs ∙ ap (λ i. drop i cs) ends)

        put_in : (P : List ToldComponent → Type 0) → P (seen content (take run.first cs ++ m ∷ drop n (drop run.first cs))) → P u.components
        put_in P is = subst P (sym components) (subst (λ xs. P (seen content xs)) swapped_is is)

        in_place : (f g : ℕ) → FollowInOrder 0 t.components → LieWithin f g t.components → LieWithin f g u.components
        in_place f g follow covered =
            put_in (λ ts. LieWithin f g ts) (swapped_within content m 0 run.first n f g cs (follows follow) (omega (arith, order)) (omega (arith, order, within)) from to (subst (LieWithin f g) listed covered))

        of_merge : (f g : ℕ) → FollowInOrder 0 t.components → AreOfMerge (Some (neighbours run)) t.components f g → LieWithin f g u.components
        of_merge f g follow is =
            let e = run_ends content 0 run.first n f g cs (follows follow) (omega (arith, order)) (omega (arith, order, within)) (subst (BeginBy f) run_seen is.0) (subst (EndFrom g) run_seen is.1) in
            put_in (λ ts. LieWithin f g ts) (at_place content f g (take run.first cs) (drop n (drop run.first cs)) m (omega (arith, from, e.0)) (omega (arith, to, e.1)))

        each : FollowInOrder 0 t.components → (file : FileName) → IsOwn t file → IsOwn u file
        each follow (Component f g) (inl covered) = inl (in_place f g follow covered)
        each follow (Component f g) (inr (inl flushed)) = inr (inl (rw (flushing, generation) flushed))
        each follow (Component f g) (inr (inr merged)) = inl (of_merge f g follow (subst (λ o. AreOfMerge o t.components f g) merges merged))
        each follow (Log g) own = omega (arith, own, generation)
