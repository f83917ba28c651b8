-- A part of which a run is merged: what stays, over every store.
use Rattle.std.proofs.Common.{◌≡◌, ◌∙◌, ◌≤◌, ◌<◌, ◌+◌, ◌-◌, ℕ, List, [], ◌∷◌, ◌++◌, Option, length, map, take, drop, refl, sym, ap, subst, arith, length-append}
use Rattle.std.specs.Prelude.{IsSome}
use Rattle.std.proofs.lemmas.List.{drop-map, length-drop, length-map, length-take-le, map-append, take-map}
use Rattle.std.proofs.lemmas.Slice.Zip.{AllZip-long}
use Rattle.std.proofs.lemmas.List.Elements.{All-append, All-cons, All-drop, All-head, All-nil, All-tail, All-take}
use Rattle.tc_store.specs.declared.file_name.FileName.{FileName}
use Rattle.tc_store.specs.Disk.{Disk}
use Rattle.tc_store.specs.DiskFile.{DiskFile}
use Rattle.tc_store.specs.StoreCalls.{comes_home, frozen_entry, RemovesSome}
use Rattle.tc_component.specs.Loading.{ComponentState}
use Rattle.tc_list.specs.declared.run.Run.{Run}
use Rattle.tc_list.specs.Runs.{in_run, neighbours, swapped}
use Rattle.tc_lsm_model.specs.Contents.{Content}
use Rattle.tc_lsm_model.specs.Lists as contents
use Rattle.tc_lsm_model.specs.Merges.{IsMerge, merged_entries, in_run as contents_in_run, Run as Neighbours}
use Rattle.tc_merge.specs.Merging.{AreTold as AreRunTold}
use Rattle.tc_part.specs.Ready.{LiesIn}
use Rattle.tc_part_model.specs.Meaning.{IsOfContent, IsPart}
use Rattle.tc_part_model.specs.PartState.{PartState, Told, ToldComponent, AreTold, told_component}
use Rattle.tc_part_model.specs.PartView.{PartView}
use Rattle.tc_part_model.proofs.DeviceFiles.{comes_untold}
use Rattle.tc_part_model.proofs.Removals.{removal_untold}

-- a store that tells nothing tells nothing behind it
pub removed_untold : {S D F W : Type 0} (old : PartState S D F W) (disks : S → List Disk) (file_name : F → FileName) (name : FileName) (device : List DiskFile)
    (run : Run) {now : List Disk} → disks old.store ≡ [] → RemovesSome (map (λ (c : ComponentState F). file_name c.file) (in_run run old.list))
    (comes_home name frozen_entry device (disks old.store)) now → now ≡ []
removed_untold old disks file_name name device run {now} none removed =
    removal_untold (map (λ c. file_name c.file) (in_run run old.list)) (comes_home name frozen_entry device (disks old.store)) now removed (ap (λ ds. comes_home name frozen_entry device ds) none ∙ comes_untold name frozen_entry device)

-- ---- the list

-- one component stands where there was a run
pub length_swapped : {X : Type 0} (run : Run) (x : X) (xs : List X) → run.first < run.last → run.last < length xs → length (swapped run x xs) + run.last ≡ length xs + run.first
length_swapped run x xs several within =
    let front : length (take run.first xs) ≡ run.first = length-take-le run.first xs (omega (arith, several, within)) in
    let back : length (drop (run.last + 1) xs) ≡ length xs - (run.last + 1) = length-drop (run.last + 1) xs in
    omega (arith, length-append (take run.first xs) (x ∷ drop (run.last + 1) xs), front, back, within)

pub told_swapped : {F : Type 0} (content : F → Option (List ℕ)) (run : Run) (list : List (ComponentState F)) (c : ComponentState F) → AreTold (map (told_component content) list) → IsSome (content c.file) → AreTold (map (told_component content) (swapped run c list))
told_swapped content run list c all one =
    let P : ToldComponent → Type 0 = λ (x : ToldComponent). IsSome x.content in
    subst AreTold
    (sym (map-append (told_component content) (take run.first list) (c ∷ drop (run.last + 1) list)
    ∙ ap (λ (xs : List ToldComponent). xs ++ told_component content c ∷ map (told_component content) (drop (run.last + 1) list)) (sym (take-map (told_component content) run.first list))
    ∙ ap (λ (xs : List ToldComponent). take run.first (map (told_component content) list) ++ told_component content c ∷ xs) (sym (drop-map (told_component content) (run.last + 1) list))))
    (All-append P (take run.first (map (told_component content) list)) (told_component content c ∷ drop (run.last + 1) (map (told_component content) list)) (All-take P run.first (map (told_component content) list) all)
    (All-cons P (told_component content c) (drop (run.last + 1) (map (told_component content) list)) one (All-drop P (run.last + 1) (map (told_component content) list) all)))

-- the files of a run are told where those of the list are
each_told : {F : Type 0} (content : F → Option (List ℕ)) (list : List (ComponentState F)) → AreTold (map (told_component content) list) → AreRunTold content list
each_told content [] all = All-nil (λ c. IsSome (content c.file))
each_told content (c ∷ list) all =
    let rest = map (told_component content) list in
    All-cons (λ c. IsSome (content c.file)) c list (All-head (λ (x : ToldComponent). IsSome x.content) (told_component content c) rest all) (each_told content list (All-tail (λ (x : ToldComponent). IsSome x.content) (told_component content c) rest all))

pub run_told : {F : Type 0} (content : F → Option (List ℕ)) (run : Run) (list : List (ComponentState F)) → AreTold (map (told_component content) list) → AreRunTold content (in_run run list)
run_told content run list all =
    All-take (λ c. IsSome (content c.file)) (run.last + 1 - run.first) (drop run.first list) (All-drop (λ c. IsSome (content c.file)) run.first list (each_told content list all))

-- ---- where the files are told

-- the run lies in what the part means
pub run_within : {F : Type 0} (content : F → Option (List ℕ)) (t : Told) (p : PartView) (list : List (ComponentState F)) (run : Run) → IsPart t p → t.components ≡ map (told_component content) list → LiesIn list run
    → (2 ≤ (neighbours run).length) × ((neighbours run).first + (neighbours run).length ≤ length p.list)
run_within content t p list run is same (several, within) =
    let long : length p.list ≡ length t.components = AllZip-long IsOfContent t.components p.list is.view.components in
    let as_long : length t.components ≡ length list = ap length same ∙ length-map list (told_component content) in
    (omega (arith, several), omega (arith, long, as_long, several, within))

-- it can be merged
pub some_merge : (p : PartView) (run : Neighbours) → (2 ≤ run.length) × (run.first + run.length ≤ length p.list) → (c : Content) × IsMerge (contents_in_run run p.list) c
some_merge p run (two, within) = at (contents_in_run run p.list) (omega (arith, length-take-le run.length (drop run.first p.list) (omega (arith, length-drop run.first p.list, within)), two))
  where
    at : (cs : List Content) → 2 ≤ length cs → (c : Content) × IsMerge cs c
    at [] some = absurd (omega (arith, some))
    at (d ∷ cs) some = (
      record { part = d.part; from = d.from; to = contents.last_of (d ∷ cs); entries = merged_entries d.from (d ∷ cs); names = contents.names_of (d ∷ cs); schema = contents.schema_of (d ∷ cs) },
      record { first = d; others = cs; is = refl; part = refl; from = refl; to = refl; entries = refl; names = refl; schema = refl },
    )
