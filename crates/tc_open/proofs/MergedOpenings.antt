-- All components of an opening are merged into one: its name is free, what is kept meanwhile, what is listed and stored then.
use Rattle.std.proofs.Common.{◌≡◌, ◌∙◌, ◌+◌, ◌<◌, ◌≤◌, ◌⊎◌, ℕ, List, [], ◌∷◌, Option, length, map, append-nil, refl, sym, ap, subst, arith, inl, inr}
use Rattle.std.specs.Prelude.{All, Contains, IsSome}
use Rattle.std.specs.List.{AllZip}
use Rattle.std.proofs.lemmas.List.{length-map}
use Rattle.std.proofs.lemmas.List.Elements.{All-cons, All-head, All-nil, All-tail}
use Rattle.tc_store.specs.declared.fault.StoreFault.{StoreFault}
use Rattle.tc_store.specs.declared.fault.StoreFault.TheVariants as store
use Rattle.tc_store.specs.declared.file_name.FileName.{FileName}
use Rattle.tc_store.specs.declared.file_name.FileName.TheVariants.{Component}
use Rattle.tc_store.specs.Disk.{Disk, IsThere}
use Rattle.tc_store.specs.DiskFile.{DiskFile}
use Rattle.tc_store.specs.Moments.{EachSince, IfTold}
use Rattle.tc_store.specs.StoreCalls.{comes_home, content_now, frozen_entry, makes}
use Rattle.tc_store.proofs.MomentLemmas.{told_map}
use Rattle.tc_store.proofs.StopLaws.{since_weaker}
use Rattle.tc_component.specs.declared.head.Head.{Head}
use Rattle.tc_component.specs.Loaded.{IsLoadedOf}
use Rattle.tc_component.specs.Loading.{ComponentState}
use Rattle.tc_component.specs.Rows.{IsComponent}
use Rattle.tc_component.specs.Spelling.{IsIndex, name_of}
use Rattle.tc_lsm_model.specs.Contents.{Content, Partition}
use Rattle.tc_lsm_model.specs.Lists as contents
use Rattle.tc_lsm_model.specs.Merges as contents_merge
use Rattle.tc_lsm_model.specs.Merges.{IsMerge}
use Rattle.tc_list.specs.Intervals.{first_of, last_of}
use Rattle.tc_machine.specs.Components.{file_of}
use Rattle.tc_machine.specs.Pictures.{recovered}
use Rattle.tc_merge.specs.Merging as merging
use Rattle.tc_jobs.specs.Lists.{IsListOf, file_names}
use Rattle.tc_part_model.specs.PartState.{AreTold, IsTold, ToldComponent, told_component}
use Rattle.tc_part_model.proofs.DeviceFiles.{comes_untold}
use Rattle.tc_plain_model.specs.Store.{Store}
use Rattle.tc_plain_model.specs.Writes.{Pairs}
use Rattle.tc_recover.specs.Loading.{interval_of}
use Rattle.tc_recover.specs.Removing.{removes_all}
use Rattle.tc_recover.specs.Tilings.{Tile}
use Rattle.tc_recover.proofs.Members.{member_cases, member_first, member_further, no_member}
use Rattle.tc_recover.proofs.Tiles.{ends_behind, stands_at}
use Rattle.tc_open.specs.Merges.{IsListMerged, IsMergeListed, head_over}
use Rattle.tc_open.specs.BeingOpened.{AreNeedless, IsKeptWriting, IsOpening, LeavesLogged, LeavesWriting}
use Rattle.tc_open.proofs.MergedLists.{loaded_length, told_run}
use Rattle.tc_open.proofs.ToldMoments.{tells_on}
use Rattle.tc_open.specs.declared.fault.OpenCause.TheVariants as cause
use Rattle.tc_open.specs.Listed.{AreMergedFrom, merged_as, most_listed}
use Rattle.tc_open.specs.OpenCauses.{of_store}
use Rattle.tc_open.specs.Openings.{LeavesStored}
use Rattle.tc_open.specs.Resting.{AreOwn}
use Rattle.tc_open.specs.Steps.{AreListed, Keeps, Rests, Stands}
use Rattle.tc_open.proofs.ListedIntervals.{many_become_one, one_interval}
use Rattle.tc_open.proofs.LogsCovered.{IsSpareAt, end_listed, interval_listed}
use Rattle.tc_open.proofs.OpenStates.{if_tells, keeps_on, opening_keeps}
use Rattle.tc_open.proofs.OwnFiles.{own_listed, own_removed}
use Rattle.tc_open.proofs.ToldOpenings.{told_still}

-- ---- why not

-- a fault of the disk is one of the store
pub store_disk : (fault : StoreFault) → of_store fault ≡ cause.Disk → fault ≡ store.Fault
store_disk store.Fault is = refl
store_disk store.Memory is = absurd (cc)

-- ---- the name

-- of two components or more none has all generations
pub none_whole : {F : Type 0} (list : List (ComponentState F)) → Tile 0 (map interval_of list) → 1 < length list → Contains (file_names list) (Component (first_of list) (last_of list)) → ⊥
none_whole [] tile several among = omega (arith, several)
none_whole (c ∷ []) tile several among = omega (arith, several)
none_whole (c ∷ d ∷ list) tile several among = elim (member_cases (name_of c.index.head) (file_names (d ∷ list)) (Component c.index.head.from (last_of (c ∷ d ∷ list))) among) [
  | inl same ↦
      let ends : c.index.head.to ≡ last_of (c ∷ d ∷ list) = cc in
      let behind = ends_behind d.index.head.to (map interval_of list) tile.2.2 in
      omega (arith, ends, end_listed (c ∷ d ∷ list), behind, tile.2.0, tile.2.1)
  | inr further ↦
      let place = stands_at c.index.head.to (map interval_of (d ∷ list)) (record { from = c.index.head.from; to = last_of (c ∷ d ∷ list) }) tile.2 (interval_listed (d ∷ list) c.index.head.from (last_of (c ∷ d ∷ list)) further) in
      omega (arith, place.0, tile.1)
]

-- the names of the files of components are those that their handles have
pub names_are : {F : Type 0} (name : F → FileName) (list : List (ComponentState F)) → All (λ c. name c.file ≡ name_of c.index.head) list → map (λ c. name c.file) list ≡ file_names list
names_are name [] all = refl
names_are name (c ∷ list) all =
    ap (λ n. n ∷ map (λ d. name d.file) list) (All-head (λ (d : ComponentState _). name d.file ≡ name_of d.index.head) c list all)
    ∙ ap (λ ns. name_of c.index.head ∷ ns) (names_are name list (All-tail (λ (d : ComponentState _). name d.file ≡ name_of d.index.head) c list all))

-- components of other names than the one that is listed are needless
others_needless : {F : Type 0} (made : Content) (disk : Disk) (list : List (ComponentState F)) → (Contains (file_names list) (file_of made) → ⊥) → AreNeedless (made ∷ []) disk (file_names list)
others_needless made disk [] apart = All-nil (IsSpareAt (made ∷ []) disk)
others_needless made disk (c ∷ list) apart =
    All-cons (IsSpareAt (made ∷ []) disk) (name_of c.index.head) (file_names list)
    (λ bytes there. All-cons (λ d. file_of d ≡ name_of c.index.head → ⊥) made [] (λ same. apart (subst (λ n. Contains (file_names (c ∷ list)) n) (sym same) (member_first (name_of c.index.head) (file_names list)))) (All-nil (λ d. file_of d ≡ name_of c.index.head → ⊥)))
    (others_needless made disk list (λ among. apart (member_further (name_of c.index.head) (file_names list) (file_of made) among)))

-- ---- what merges loaded components

merged_with : (first : Content) (others : List Content) → (c : Content) × IsMerge (first ∷ others) c
merged_with first others = (
  record { part = first.part; from = first.from; to = contents.last_of (first ∷ others); entries = contents_merge.merged_entries first.from (first ∷ others); names = contents.names_of (first ∷ others); schema = contents.schema_of (first ∷ others) },
  record { first = first; others = others; is = refl; part = refl; from = refl; to = refl; entries = refl; names = refl; schema = refl },
)

loaded_merge : {F : Type 0} (content : F → Option (List ℕ)) (list : List (ComponentState F)) (cs : List Content) → AllZip (IsLoadedOf content) list cs → 1 < length list → (c : Content) × IsMerge cs c
loaded_merge content [] cs loaded several = absurd (omega (arith, several))
loaded_merge content (m ∷ list) [] loaded several = absurd loaded
loaded_merge content (m ∷ list) (c ∷ cs) loaded several = merged_with c cs

-- ---- moments

-- while it is written, and behind it
merging_keeps : (part : Partition) (cs : List Content) (c : Content) (old new : List Disk) → IsMerge cs c → IsKeptWriting part (contents.live cs) (IsComponent c) old new → Keeps part (recovered cs []).pairs old new
merging_keeps part cs c old new merges kept = record {
  moments = since_weaker (LeavesWriting part (contents.live cs) (IsComponent c)) (LeavesStored part (contents.live cs)) old new (λ disk leaves. inr (inr (inr (record { list = cs; target = c; merges = merges; holds = refl; leaves = leaves })))) kept.moments;
  kept = kept.kept;
}

-- ---- over every store

module _ {F : Type 0} (content : F → Option (List ℕ)) (name : F → FileName) (part : Partition) (list : List (ComponentState F)) (many : most_listed < length list) (listed : AreListed name part list) where
  several : 1 < length list
  several = omega (arith, many)

  abbrev head : Head
  head = head_over part.number part.count list

  not_among : Contains (file_names list) (name_of head) → ⊥
  not_among among = none_whole list listed.tile several among

  pub merge_free : (disks : List Disk) → IfTold disks (AreOwn list []) → IfTold disks (λ disk. IsThere (disk (name_of head)) → ⊥)
  merge_free disks own = told_map (AreOwn list []) (λ disk. IsThere (disk (name_of head)) → ⊥) disks (λ disk is there. elim (is.own (name_of head) there) [
    | inl among ↦ not_among among
    | inr none ↦ no_member (name_of head) none
  ]) own

  pub merge_told : (disks : List Disk) → IfTold disks (λ disk. AreTold (map (told_component content) list)) → IfTold disks (λ disk. merging.AreTold content list)
  merge_told disks told = told_map (λ disk. AreTold (map (told_component content) list)) (λ disk. merging.AreTold content list) disks (λ disk all. told_run content list all) told

  starts : first_of list ≡ 1
  starts = at list listed.tile several
    where
      at : (cs : List (ComponentState F)) → Tile 0 (map interval_of cs) → 1 < length cs → first_of cs ≡ 1
      at [] tile two = absurd (omega (arith, two))
      at (c ∷ cs) tile two = tile.0

  goes_up : first_of list ≤ last_of list
  goes_up = at list listed.tile several
    where
      at : (cs : List (ComponentState F)) → Tile 0 (map interval_of cs) → 1 < length cs → first_of cs ≤ last_of cs
      at [] tile two = absurd (omega (arith, two))
      at (c ∷ cs) tile two = let behind = ends_behind c.index.head.to (map interval_of cs) tile.2 in omega (arith, behind, tile.1, end_listed (c ∷ cs))

  module _ (new : List (ComponentState F)) (old later : List Disk) (m : IsMergeListed content name head list new old later) where
    pub merged_listed : IsListOf part.number part.count new → AreListed name part new
    merged_listed of = subst (λ cs. AreListed name part cs) (sym m.listed) (record {
      of = subst (λ cs. IsListOf part.number part.count cs) m.listed of;
      lawful = All-cons (λ (d : ComponentState F). IsIndex d.index) m.component [] m.made.lawful (All-nil (λ (d : ComponentState F). IsIndex d.index));
      named = All-cons (λ (d : ComponentState F). name d.file ≡ name_of d.index.head) m.component [] (m.made.has_name ∙ ap name_of (sym m.made.has_head)) (All-nil (λ (d : ComponentState F). name d.file ≡ name_of d.index.head));
      tile = subst (λ (h : Head). (h.from ≡ 0 + 1) × (h.from ≤ h.to) × Unit {0}) (sym m.made.has_head) (omega (arith, starts), goes_up, tt);
    })

    pub merged_intervals : map interval_of new ≡ merged_as (map interval_of list)
    merged_intervals =
        let all = map interval_of list in
        ap (map interval_of) m.listed ∙ ap (λ (h : Head). one_interval h.from h.to) m.made.has_head ∙ ap (λ n. one_interval n (last_of list)) starts ∙ ap (λ n. one_interval 1 n) (sym (end_listed list))
        ∙ sym (many_become_one all (subst (λ n. most_listed < n) (sym (length-map list interval_of)) many))

    -- the files that it took the place of are the only others
    merged_own : IfTold old (AreOwn list []) → IfTold later (AreOwn new (file_names list))
    merged_own own =
        let newest = subst (λ (h : Head). Contains (file_names (m.component ∷ [])) (name_of h)) m.made.has_head (member_first (name_of m.component.index.head) []) in
        subst (λ ds. IfTold ds (AreOwn new (file_names list))) (sym m.still)
        (subst (λ cs. IfTold (comes_home (name_of head) frozen_entry m.device (makes (name_of head) old)) (AreOwn cs (file_names list))) (sym m.listed)
        (own_listed list (m.component ∷ []) [] (file_names list) (name_of head) newest others m.device old own m.tells))
      where
        others : (n : FileName) → Contains (file_names list) n ⊎ Contains [] n → Contains (file_names (m.component ∷ [])) n ⊎ Contains (file_names list) n
        others n (inl among) = inr among
        others n (inr none) = absurd (no_member n none)

    pub replaced_own : IfTold old (AreOwn list []) → (after : List Disk) → after ≡ removes_all (file_names list) later → IfTold after (AreOwn new [])
    replaced_own own after gone = subst (λ ds. IfTold ds (AreOwn new [])) (sym gone)
        (own_removed new (file_names list) (file_names list) [] (λ n among. subst (λ ns. Contains ns n) (sym (append-nil (file_names list))) among) later (merged_own own))

    untold : old ≡ [] → later ≡ []
    untold gone = m.still ∙ ap (λ ds. comes_home (name_of head) frozen_entry m.device (makes (name_of head) ds)) gone ∙ comes_untold (name_of head) frozen_entry m.device

    pub merged_tells : (after : List Disk) → (later ≡ [] → after ≡ []) → IfTold after (λ disk. AreTold (map (told_component content) new))
    merged_tells after on =
        told_still (AreTold (map (told_component content) new)) old after (λ gone. on (untold gone))
        (told_map (λ disk. IsTold m.device) (λ disk. AreTold (map (told_component content) new)) old (λ disk tells. subst (λ cs. AreTold (map (told_component content) cs)) (sym m.listed)
        (All-cons (λ (d : ToldComponent). IsSome d.content) (told_component content m.component) [] (now m.device m.made.has_content tells) (All-nil (λ (d : ToldComponent). IsSome d.content)))) m.tells)
      where
        now : (device : List DiskFile) → content m.component.file ≡ content_now device → IsTold device → IsSome (content m.component.file)
        now [] same tells = absurd tells
        now (f ∷ past) same tells = subst (λ o. IsSome o) (sym same) refl

  -- ---- where the files are lawful

  module _ (cs : List Content) (old : List Disk) (stands : Stands content part cs [] list [] old) where
    pub job_keeps : (later : List Disk) → ((c : Content) → IsMerge cs c → IsKeptWriting part (contents.live cs) (IsComponent c) old later) → Keeps part (recovered cs []).pairs old later
    job_keeps later kept = let c = loaded_merge content list cs stands.loaded several in merging_keeps part cs c.0 old later c.1 (kept c.0 c.1)

    module _ (new : List (ComponentState F)) (later : List Disk) (l : IsListMerged content head cs new later) (kept : (c : Content) → IsMerge cs c → IsKeptWriting part (contents.live cs) (IsComponent c) old later) where
      same_store : recovered (l.made ∷ []) [] ≡ recovered cs []
      same_store = ap (λ (pairs : Pairs). record { pairs = pairs; taken = contents.names_of (l.made ∷ []) }) l.holds ∙ ap (λ ns. record { pairs = contents.live cs; taken = ns }) l.names

      pub replaced_needless : IfTold later (λ disk. AreNeedless (l.made ∷ []) disk (file_names list))
      replaced_needless = at later
        where
          at : (ds : List Disk) → IfTold ds (λ disk. AreNeedless (l.made ∷ []) disk (file_names list))
          at [] = tt
          at (disk ∷ past) = others_needless l.made disk list (λ among. not_among (subst (λ n. Contains (file_names list) n) l.named among))

      later_told : IsTold later
      later_told = tells_on (LeavesStored part (recovered cs []).pairs) old later stands.tells (job_keeps later kept).moments

      pub replaced_keeps : (after : List Disk) → IsOpening part (l.made ∷ []) [] after → EachSince (LeavesLogged part (l.made ∷ []) []) later after → Keeps part (recovered cs []).pairs old after
      replaced_keeps after opening since =
          keeps_on part (recovered cs []).pairs old later after (job_keeps later kept) (subst (λ (s : Store). Keeps part s.pairs later after) same_store (opening_keeps part (l.made ∷ []) [] later after opening since))

      pub replaced_rests : (after : List Disk) → IsOpening part (l.made ∷ []) [] after → EachSince (LeavesLogged part (l.made ∷ []) []) later after → Rests content part (AreMergedFrom cs) (recovered cs []) new after
      replaced_rests after opening since = record {
        contents = l.made ∷ [];
        are = inr (subst (λ n. most_listed < n) (loaded_length content list cs stands.loaded) many, l.made, l.is_merge, refl);
        stands = record {
          tells = tells_on (LeavesLogged part (l.made ∷ []) []) later after later_told since;
          opening = opening;
          loaded = if_tells (AllZip (IsLoadedOf content) new (l.made ∷ [])) later later_told l.loaded;
          written = refl;
        };
        same = same_store;
      }

-- few stay as they are
pub few_rest : {F : Type 0} (content : F → Option (List ℕ)) (part : Partition) (list : List (ComponentState F)) (cs : List Content) (disks : List Disk) → length list ≤ most_listed → Stands content part cs [] list [] disks → Rests content part (AreMergedFrom cs) (recovered cs []) list disks
few_rest content part list cs disks few stands = record {
  contents = cs;
  are = inl (subst (λ n. n ≤ most_listed) (loaded_length content list cs stands.loaded) few, refl);
  stands = stands;
  same = refl;
}
