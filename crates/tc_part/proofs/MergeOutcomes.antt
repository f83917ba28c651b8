-- What the files keep where a merge is handed back and a call fails, and at each moment.
use Rattle.std.proofs.Common.{◌≡◌, ◌∙◌, ◌+◌, ◌-◌, ◌<◌, ◌⊎◌, drop, inl, inr, ℕ, List, [], ◌∷◌, Option, Some, None, true, is_some, map, refl, sym, ap, subst, arith}
use Rattle.std.specs.Prelude.{All, IfSome}
use Rattle.std.specs.List.{AllZip}
use Rattle.std.proofs.lemmas.List.Elements.{All-drop, All-head, All-tail, All-take}
use Rattle.tc_store.specs.declared.file_name.FileName.{FileName}
use Rattle.tc_store.specs.Disk.{Disk, home}
use Rattle.tc_store.specs.DiskFile.{DiskFile}
use Rattle.tc_store.specs.Moments.{IfTold, LeavesAt}
use Rattle.tc_store.specs.StoreCalls.{comes_home, content_now, frozen_entry, RemovesSome}
use Rattle.tc_store.proofs.MomentLemmas.{told_map}
use Rattle.tc_component.specs.Loading.{ComponentState}
use Rattle.tc_component.specs.Rows.{IsComponent, component_bytes, component_index, head_of}
use Rattle.tc_component.specs.Spelling.{name_of, written_version}
use Rattle.tc_component.proofs.Versions.{written_tells}
use Rattle.tc_list.specs.declared.run.Run.{Run}
use Rattle.tc_list.specs.Runs.{in_run, neighbours, swapped}
use Rattle.tc_list.proofs.RunPairs.{AllZip-swapped}
use Rattle.tc_lsm_model.specs.Contents.{Content}
use Rattle.tc_lsm_model.specs.Merges.{in_run as contents_in_run, swapped as contents_swapped}
use Rattle.tc_machine.specs.Components.{file_of}
use Rattle.tc_machine.specs.Events.{with_merge}
use Rattle.tc_machine.specs.State.{Merging}
use Rattle.tc_machine.specs.Steps.{IsShutOrHas}
use Rattle.tc_jobs.specs.ReadBack.{ComesHome}
use Rattle.tc_part_model.specs.Calls.{HasMade, IsUnlisted}
use Rattle.tc_part_model.specs.Changes.{merged_part}
use Rattle.tc_part_model.specs.Leaving.{FailedMomentsLeaveStore, StoreMomentsLeaveStore}
use Rattle.tc_part_model.specs.Meaning.{HasFailedAs, IsOfContent, IsPart}
use Rattle.tc_part_model.specs.PartState.{AreTold, PartState, Told, ToldComponent, told, told_component}
use Rattle.tc_part_model.specs.PartView.{PartView, generation_of}
use Rattle.tc_part_model.proofs.FailedParts.{fails_so, merge_returns}
use Rattle.tc_part_model.proofs.FollowingMoments.{as_after, as_before, follow_as, run_on}
use Rattle.tc_part_model.proofs.HomeMoments.{merge_home_moments}
use Rattle.tc_part_model.proofs.LoadedComponents.{is_of, run_names, swapped_told}
use Rattle.tc_part_model.proofs.BetweenNames.{newer_goes_behind, older_goes_before}
use Rattle.tc_part_model.proofs.MergeInstalls.{merged_active}
use Rattle.tc_part_model.proofs.MergedParts.{merge_listed, merge_listed_moments, merge_made_leaves, merge_not_listed}
use Rattle.tc_part_model.proofs.RemovedParts.{removed_is_part, removed_moments, run_goes}
use Rattle.tc_part.specs.Closing.{HasFailedWhole, HasLogsOf}
use Rattle.tc_part.specs.JobHeads.{merged_head}
use Rattle.tc_part.specs.MergeEnds.{AreBetween, HasRemovedRun, HasReplaced, IsMergeRemoving, IsMergeUnlisted, merged_name}
use Rattle.tc_part.specs.Ready.{AreNamed, LiesIn}
use Rattle.tc_part.proofs.ClosedParts.{logs_like, logs_of}
use Rattle.tc_part.proofs.FlushedContents.{made_so, of_made}
use Rattle.tc_part.proofs.MergedContents.{is_merge, run_is, target_headed, target_named, told_replaced}
use Rattle.tc_part.proofs.ReplacedRun.{between_neighbours}
use Rattle.tc_part.proofs.RunEnds.{ends}

-- ---- in what a part tells

-- the part failed, and has its logs still
abbrev IsLeft : Told → Told → Type 0
IsLeft t u = u ≡ record t { disks = u.disks; components = u.components; merging = None; failed = true }

module _ (t : Told) (p : PartView) (m : Merging) (device : List DiskFile) (is : IsPart t p) (some : p.merge ≡ Some m) where
  failed_now : HasFailedAs (record t { failed = true }) p None
  failed_now = fails_so t (record t { failed = true }) p is refl refl refl refl

  left_logs : (u : Told) → IsLeft t u → HasLogsOf u p
  left_logs u left = logs_like t u p (logs_of t p is) (ap (λ (x : Told). x.generation) left) (ap (λ (x : Told). is_some x.sealed_log) left)

  -- ---- the device comes home as it is

  module _ (leaves : IfTold device (LeavesAt (IsShutOrHas (IsComponent m.target)))) where
    home_failed : (u : Told) → IsLeft t u → u.disks ≡ comes_home (file_of m.target) (λ f. home f) device t.disks → HasFailedWhole u p
    home_failed u left at_home = (
      merge_returns (record t { failed = true }) u p None m device failed_now some leaves (ap (λ (x : Told). x.failed) left) (ap (λ (x : Told). x.log) left) (ap (λ (x : Told). x.sealed_log) left) at_home,
      left_logs u left,
    )

    home_moments : (disks : List Disk) → disks ≡ comes_home (file_of m.target) (λ f. home f) device t.disks → FailedMomentsLeaveStore p None t disks
    home_moments disks at_home = subst (λ ds. FailedMomentsLeaveStore p None t ds) (sym at_home) (merge_home_moments (record t { failed = true }) p None m device failed_now some leaves)

  module _ (made : HasMade m.target t.disks device) where
    -- ---- nothing is listed

    unlisted_failed : (u : Told) → IsLeft t u → ComesHome (file_of m.target) device t.disks u.disks → HasFailedWhole u p
    unlisted_failed u left (inl still) = (
      merge_not_listed t u p m device is some made (ap (λ (x : Told). x.failed) left) (ap (λ (x : Told). x.log) left) (ap (λ (x : Told). x.sealed_log) left) still,
      left_logs u left,
    )
    unlisted_failed u left (inr at_home) = home_failed (merge_made_leaves m t.disks device made) u left at_home

    unlisted_moments : (disks : List Disk) → ComesHome (file_of m.target) device t.disks disks → StoreMomentsLeaveStore p (merged_part p) t disks
    unlisted_moments disks (inl still) = subst (λ ds. StoreMomentsLeaveStore p (merged_part p) t ds) (sym still) (merge_listed_moments t p m device is some made)
    unlisted_moments disks (inr at_home) = as_before t p (merged_part p) disks (run_on t p disks (home_moments (merge_made_leaves m t.disks device made) disks at_home))

    -- ---- the component is listed, and files of its run are removed

    module _ (run : Run) (lies : run.first < run.last) (same_run : m.run ≡ neighbours run) (are_told : AreTold t.components) where
      abbrev frozen : List Disk
      frozen = comes_home (file_of m.target) frozen_entry device t.disks

      abbrev target : ToldComponent
      target = record { content = Some (component_bytes m.target); index = component_index written_version m.target }

      -- what the part tells once the component is listed
      abbrev listed : Told
      listed = record t { disks = frozen; components = swapped run target t.components; merging = None }

      list_is : (merged_part p).list ≡ contents_swapped (neighbours run) m.target p.list
      list_is = ap (with_merge p.list) some ∙ ap (λ r. contents_swapped r m.target p.list) same_run

      is_listed : IsPart listed (merged_part p)
      is_listed =
          merge_listed t listed p m device is some made are_told
          (subst (λ cs. AllZip IsOfContent (swapped run target t.components) cs) (sym list_is)
          (AllZip-swapped IsOfContent run t.components p.list target m.target (omega (arith, lies)) is.view.components (record { index = refl; file = made.whole; version = sym (written_tells m.target) }))) refl

      generation_stays : generation_of (merged_part p) ≡ generation_of p
      generation_stays = subst (λ q. IsPart t q → generation_of (merged_part q) ≡ generation_of q) (ap (λ o. record p { merge = o }) (sym some)) (λ soon. merged_active p m soon.memory) is

      module _ (names : List FileName) (names_are : names ≡ map file_of (contents_in_run (neighbours run) p.list)) where
        go : All (IsUnlisted (merged_part p).list) names
        go =
            subst (λ ns. All (IsUnlisted (merged_part p).list) ns) (sym (names_are ∙ ap (λ r. map file_of (contents_in_run r p.list)) (sym same_run)))
            (run_goes t p m is some)

        pub removed_part : (disks : List Disk) → RemovesSome names frozen disks → IsPart (record listed { disks = disks }) (merged_part p)
        removed_part disks removed = removed_is_part listed (merged_part p) names go (record listed { disks = disks }) is_listed removed refl

        removing_failed : (u : Told) → IsLeft t u → RemovesSome names frozen u.disks → HasFailedWhole u (merged_part p)
        removing_failed u left removed =
            let logs = left_logs u left in (
              fails_so (record listed { disks = u.disks }) u (merged_part p) (removed_part u.disks removed) (ap (λ (x : Told). x.failed) left) refl (ap (λ (x : Told). x.log) left) (ap (λ (x : Told). x.sealed_log) left),
              record { generation = logs.generation ∙ sym generation_stays; sealed_log = logs.sealed_log; one = logs.one },
            )

        pub removing_moments : (disks : List Disk) → RemovesSome names frozen disks → StoreMomentsLeaveStore p (merged_part p) t disks
        removing_moments disks removed =
            follow_as t listed p (merged_part p) disks refl refl (merge_listed_moments t p m device is some made)
            (as_after listed p (merged_part p) disks (removed_moments listed (merged_part p) names go disks is_listed removed))

-- ---- the files of a run have the names of its contents

named_as : {F : Type 0} (name : F → FileName) (cs : List (ComponentState F)) → AreNamed name cs → map (λ c. name c.file) cs ≡ map (λ c. name_of c.index.head) cs
named_as name [] named = refl
named_as name (c ∷ cs) named =
    ap (λ n. n ∷ map (λ (d : ComponentState _). name d.file) cs) (All-head (λ (d : ComponentState _). name d.file ≡ name_of d.index.head) c cs named)
    ∙ ap (λ ns. name_of c.index.head ∷ ns) (named_as name cs (All-tail (λ (d : ComponentState _). name d.file ≡ name_of d.index.head) c cs named))

-- ---- of a part

module _ {S D F W : Type 0} (disks : S → List Disk) (moments : D → List DiskFile) (content : F → Option (List ℕ)) (name : F → FileName) (old new : PartState S D F W) (p : PartView) (m : Merging) (device : List DiskFile) (run : Run) where
  -- before its merge was handed back
  abbrev before : Told
  before = record (told disks moments content old) { merging = Some (neighbours run) }

  abbrev failing : Told
  failing = record (told disks moments content new) { failed = true }

  module _ (is : IsPart before p) (some : p.merge ≡ Some m) (lies : LiesIn old.list run) (back : old.merging ≡ None) where
    named : file_of m.target ≡ merged_name run old
    named = target_named content before p m run old.list is some refl refl lies

    same_run : m.run ≡ neighbours run
    same_run = run_is content before p m run old.list is some refl refl lies

    pub names_are : AreNamed name old.list → map (λ c. name c.file) (in_run run old.list) ≡ map file_of (contents_in_run (neighbours run) p.list)
    names_are files_named =
        named_as name (in_run run old.list) (All-take (λ c. name c.file ≡ name_of c.index.head) (run.last + 1 - run.first) (drop run.first old.list) (All-drop (λ c. name c.file ≡ name_of c.index.head) run.first old.list files_named))
        ∙ run_names content run old.list p.list is.view.components

    -- a part that failed, whose component is listed or not
    left_so : new ≡ record old { store = new.store; main = new.main; list = new.list; failed = new.failed } → IsLeft before failing
    left_so same =
        ap (λ (x : PartState S D F W). record (told disks moments content x) { failed = true }) same
        ∙ ap (λ o. record (told disks moments content (record old { store = new.store; list = new.list })) { merging = o; failed = true }) back

    unlisted_so : new ≡ record old { store = new.store; main = new.main; failed = new.failed } → new ≡ record old { store = new.store; main = new.main; list = new.list; failed = new.failed }
    unlisted_so same = same ∙ ap (λ (cs : List (ComponentState F)). record old { store = new.store; main = new.main; list = cs; failed = new.failed }) (sym (ap (λ (x : PartState S D F W). x.list) same))

    wider : new ≡ record old { store = new.store } → new ≡ record old { store = new.store; main = new.main; failed = new.failed }
    wider same =
        same ∙ ap (λ (w : W). record old { store = new.store; main = w }) (sym (ap (λ (x : PartState S D F W). x.main) same))
        ∙ ap (λ b. record old { store = new.store; main = new.main; failed = b }) (sym (ap (λ (x : PartState S D F W). x.failed) same))

    pub unmade_failed : IfTold device (LeavesAt (IsShutOrHas (IsComponent m.target))) → new ≡ record old { store = new.store }
        → disks new.store ≡ comes_home (merged_name run old) (λ f. home f) device (disks old.store) → HasFailedWhole failing p
    unmade_failed leaves same at_home =
        home_failed before p m device is some leaves failing (left_so (unlisted_so (wider same))) (at_home ∙ ap (λ n. comes_home n (λ f. home f) device (disks old.store)) (sym named))

    pub unmade_moments : IfTold device (LeavesAt (IsShutOrHas (IsComponent m.target))) → disks new.store ≡ comes_home (merged_name run old) (λ f. home f) device (disks old.store)
        → FailedMomentsLeaveStore p None before (disks new.store)
    unmade_moments leaves at_home = home_moments before p m device is some leaves (disks new.store) (at_home ∙ ap (λ n. comes_home n (λ f. home f) device (disks old.store)) (sym named))

    module _ (made : HasMade m.target (disks old.store) device) (are_told : AreTold (map (told_component content) old.list)) (files_named : AreNamed name old.list) where
      frozen_named : RemovesSome (map (λ (c : ComponentState F). name c.file) (in_run run old.list)) (comes_home (merged_name run old) frozen_entry device (disks old.store)) (disks new.store)
          → RemovesSome (map (λ (c : ComponentState F). name c.file) (in_run run old.list)) (comes_home (file_of m.target) frozen_entry device (disks old.store)) (disks new.store)
      frozen_named removed = subst (λ n. RemovesSome (map (λ (c : ComponentState F). name c.file) (in_run run old.list)) (comes_home n frozen_entry device (disks old.store)) (disks new.store)) (sym named) removed

      -- at each moment of a call that fails a stop leaves what was stored
      pub ended_moments : IsMergeUnlisted disks device run old new ⊎ IsMergeRemoving content name disks device run old new → StoreMomentsLeaveStore p (merged_part p) before (disks new.store)
      ended_moments (inl unlisted) = unlisted_moments before p m device is some made (disks new.store) (subst (λ n. ComesHome n device (disks old.store) (disks new.store)) (sym named) unlisted.home)
      ended_moments (inr removing) =
          removing_moments before p m device is some made run lies.0 same_run are_told (map (λ c. name c.file) (in_run run old.list)) (names_are files_named) (disks new.store)
          (frozen_named removing.removed)

      -- behind one the files keep what was stored, as the part that it was or as the one whose merge is listed
      pub ended_failed : IsMergeUnlisted disks device run old new ⊎ IsMergeRemoving content name disks device run old new → HasFailedWhole failing p ⊎ HasFailedWhole failing (merged_part p)
      ended_failed (inl unlisted) =
          inl (unlisted_failed before p m device is some made failing (left_so (unlisted_so unlisted.same)) (subst (λ n. ComesHome n device (disks old.store) (disks new.store)) (sym named) unlisted.home))
      ended_failed (inr removing) =
          inr (removing_failed before p m device is some made run lies.0 same_run are_told (map (λ c. name c.file) (in_run run old.list)) (names_are files_named) failing (left_so removing.same)
          (frozen_named removing.removed))

      -- on Ok it is the part whose merge is listed
      module _ (listed : HasReplaced content name device run old new.list) (same : new ≡ record old { store = new.store; main = new.main; list = new.list }) (removed : HasRemovedRun disks name device run old (disks new.store)) where
        pub done : IfTold (disks old.store) (λ disk. IsPart (told disks moments content new) (merged_part p))
        done =
            told_map (λ disk. IsOfContent (told_component content listed.component) m.target) (λ disk. IsPart (told disks moments content new) (merged_part p)) (disks old.store) (λ disk of. part_is of)
            (of_made content name (merged_head old.number old.count run old.list) (merged_name run old) (disks old.store) m.target device listed.component listed.made made (target_headed content before p m run old.list is some refl refl lies)
            (is_of content listed.component m.target))
          where
            part_is : IsOfContent (told_component content listed.component) m.target → IsPart (told disks moments content new) (merged_part p)
            part_is of =
                let frozen = comes_home (file_of m.target) frozen_entry device (disks old.store) in
                let components = map (told_component content) (swapped run listed.component old.list) in
                let listed_told : Told = record (told disks moments content old) { disks = frozen; components = components; merging = None } in
                let list_so = list_is before p m device is some made run lies.0 same_run are_told in
                let zip = swapped_told content run old.list p.list listed.component m.target (omega (arith, lies.0)) is.view.components of in
                let part = merge_listed before listed_told p m device is some made are_told (subst (λ cs. AllZip IsOfContent components cs) (sym list_so) zip) refl in
                let names = map (λ (c : ComponentState F). name c.file) (in_run run old.list) in
                let gone = go before p m device is some made run lies.0 same_run are_told names (names_are files_named) in
                subst (λ x. IsPart x (merged_part p))
                (sym (told_replaced disks moments content old new run listed.component (disks new.store) same listed.listed refl ∙ ap (λ o. record (told disks moments content old) { disks = disks new.store; components = components; merging = o }) back))
                (removed_is_part listed_told (merged_part p) names gone (record listed_told { disks = disks new.store }) part (frozen_named removed) refl)

        pub done_moments : StoreMomentsLeaveStore p (merged_part p) before (disks new.store)
        done_moments = removing_moments before p m device is some made run lies.0 same_run are_told (map (λ c. name c.file) (in_run run old.list)) (names_are files_named) (disks new.store) (frozen_named removed)

    -- what is so of a component whose names go together with those around the run is so of what the merge makes
    pub fitting : (Q : Type 0) → HasMade m.target (disks old.store) device
        → IfSome (content_now device) (λ bytes. (c : Content) → IsComponent c bytes → head_of c ≡ merged_head old.number old.count run old.list → AreBetween c.names run old.list → Q) → IfTold (disks old.store) (λ disk. Q)
    fitting Q made so =
        let e = ends old.number old.count run old.list lies in
        let merge = is_merge content before p m run old.list is some refl refl lies in
        made_so (merged_head old.number old.count run old.list) (λ names. AreBetween names run old.list) (disks old.store) device m.target Q made (target_headed content before p m run old.list is some refl refl lies)
        (between_neighbours m.target.names run old.list lies (older_goes_before content before p old.list run e.last m.target is refl lies.0 e.at_last merge) (newer_goes_behind content before p old.list run e.last m.target is refl lies.0 e.at_last merge)) so

-- what is left of a part is left of it where it is said to have failed
pub left_failed : {S D F W : Type 0} (disks : S → List Disk) (content : F → Option (List ℕ)) (name : F → FileName) (old new : PartState S D F W) (device : List DiskFile) (run : Run)
    → IsMergeUnlisted disks device run old new ⊎ IsMergeRemoving content name disks device run old new
    → IsMergeUnlisted disks device run old (record new { failed = true }) ⊎ IsMergeRemoving content name disks device run old (record new { failed = true })
left_failed disks content name old new device run (inl unlisted) = inl (record { same = ap (λ (x : PartState _ _ _ _). record x { failed = true }) unlisted.same; home = unlisted.home })
left_failed disks content name old new device run (inr removing) =
    inr (record { listed = removing.listed; same = ap (λ (x : PartState _ _ _ _). record x { failed = true }) removing.same; removed = removing.removed })
