-- The merge of all components of an opening, from what its calls answer: what is kept, and what is listed.
use Rattle.std.proofs.Common.{◌≡◌, ◌∙◌, ◌+◌, ◌-◌, ◌<◌, ◌≤◌, ◌^◌, ℕ, suc, List, [], ◌∷◌, Option, drop, length, map, refl, sym, ap, subst, arith, inl, inr}
use Rattle.std.specs.Prelude.{◌⊎◌, All, Err, IfErr, IfOk, IfSome, IsSome, Ok, OnOk, Result}
use Rattle.std.specs.Result.{IsOk}
use Rattle.std.specs.List.{AllZip}
use Rattle.std.proofs.lemmas.List.{drop_all, take_all}
use Rattle.std.proofs.lemmas.List.Elements.{All-cons, All-head, All-nil, All-tail}
use Rattle.tc_model.specs.Document.{Name}
use Rattle.tc_store.specs.declared.damage.Damage.{Damage}
use Rattle.tc_store.specs.declared.file_name.FileName.{FileName}
use Rattle.tc_store.specs.declared.file_name.FileName.TheVariants.{Component}
use Rattle.tc_store.specs.Disk.{Disk, IsThere, home}
use Rattle.tc_store.specs.DiskFile.{DiskFile, IsSettled, settled_file}
use Rattle.tc_store.specs.Gate.{IsShutOr, IsShutOrWhole}
use Rattle.tc_store.specs.Images.{Image}
use Rattle.tc_store.specs.Moments.{IfTold, LeavesAt, LeavesOnly}
use Rattle.tc_store.specs.StoreCalls.{FailsMaking, comes_home, content_now, fresh_file_at, frozen_entry, makes}
use Rattle.tc_store.proofs.MomentLemmas.{told_map}
use Rattle.tc_component.specs.declared.head.Head.{Head}
use Rattle.tc_component.specs.Loaded.{IsLoadedOf}
use Rattle.tc_component.specs.Loading.{ComponentState}
use Rattle.tc_component.specs.Rows.{IsComponent, IsShortWrite, component_bytes, head_of}
use Rattle.tc_component.specs.Spelling.{Index, name_of}
use Rattle.tc_lsm_model.specs.Contents.{Content, Partition}
use Rattle.tc_lsm_model.specs.Lists as contents
use Rattle.tc_lsm_model.specs.Merges as contents_merge
use Rattle.tc_lsm_model.specs.Merges.{IsMerge}
use Rattle.tc_lsm_model.proofs.MergeLaws.{Replaces, one_merge, swapped_replaces}
use Rattle.tc_list.specs.Intervals.{first_of, last_of}
use Rattle.tc_list.specs.Runs.{in_run}
use Rattle.tc_merge.specs.declared.fault.MergeFault.{MergeFault}
use Rattle.tc_merge.specs.declared.fault.MergeFault.TheVariants as merge_fault
use Rattle.tc_merge.specs.Faults as merge
use Rattle.tc_merge.specs.Merging.{AreTold, merge_bytes}
use Rattle.tc_machine.specs.Components.{file_of}
use Rattle.tc_jobs.specs.declared.fault.JobFault.{JobFault}
use Rattle.tc_jobs.specs.Faults.{AreBytes, IfDamaged, of_merge}
use Rattle.tc_jobs.specs.Listing.{IsReadBack}
use Rattle.tc_part_model.specs.PartState.{AreTold as TellAll, IsTold, ToldComponent, told_component}
use Rattle.tc_part_model.proofs.DeviceFiles.{comes_untold}
use Rattle.tc_open.specs.FlushedLogs.{EndsHome}
use Rattle.tc_open.specs.Merges.{IsListMerged, head_over}
use Rattle.tc_open.specs.BeingOpened.{IsKeptWriting, IsOpening, IsWritingNow}
use Rattle.tc_open.proofs.CountedLogs.{loaded_tell}
use Rattle.tc_open.proofs.FlushedLogs.{harmed_then, last_loaded}
use Rattle.tc_open.proofs.JobMoments.{whole_file}
use Rattle.tc_open.proofs.ToldMoments.{device_tells, tells_on}
use Rattle.tc_open.proofs.MergeSteps.{merge_home, merge_not_made, merge_now, merge_opened, merge_still}

-- ---- the run of all

pub loaded_length : {F : Type 0} (content : F → Option (List ℕ)) (list : List (ComponentState F)) (cs : List Content) → AllZip (IsLoadedOf content) list cs → length list ≡ length cs
loaded_length content [] [] all = refl
loaded_length content [] (c ∷ cs) all = absurd all
loaded_length content (m ∷ list) [] all = absurd all
loaded_length content (m ∷ list) (c ∷ cs) all = ap suc (loaded_length content list cs all.1)

module _ {F : Type 0} (content : F → Option (List ℕ)) (number count : ℕ) (old : List (ComponentState F)) (cs : List Content) (disks : List Disk) (several : 1 < length old)
    (free : IfTold disks (λ disk. IsThere (disk (name_of (head_over number count old))) → ⊥)) (is : IsOpening (record { number = number; count = count }) cs [] disks) (loaded : AllZip (IsLoadedOf content) old cs) (c : Content) (is_merge : IsMerge cs c) where
  abbrev part : Partition
  part = record { number = number; count = count }

  abbrev head : Head
  head = head_over number count old

  abbrev run : contents_merge.Run
  run = record { first = 0; length = length cs }

  two : 2 ≤ length cs
  two = omega (arith, several, loaded_length content old cs loaded)

  within : 0 + length cs ≤ length cs
  within = omega arith

  in_whole : contents_merge.in_run run cs ≡ cs
  in_whole = take_all (length cs) cs (omega arith)

  of_run : IsMerge (contents_merge.in_run run cs) c
  of_run = subst (λ l. IsMerge l c) (sym in_whole) is_merge

  alone : contents_merge.swapped run c cs ≡ c ∷ []
  alone = ap (λ l. c ∷ l) (drop_all (length cs) cs (omega arith))

  replaces : Replaces part cs (contents_merge.swapped run c cs) c
  replaces = swapped_replaces part run cs c is.memory.list of_run

  begins : first_of old ≡ c.from
  begins = at old cs loaded is_merge
    where
      at : (list : List (ComponentState F)) (ds : List Content) → AllZip (IsLoadedOf content) list ds → IsMerge ds c → first_of list ≡ c.from
      at [] [] all m = absurd (cc)
      at [] (d ∷ ds) all m = absurd all
      at (x ∷ list) [] all m = absurd all
      at (x ∷ list) (d ∷ ds) all m = let same : d ≡ m.first = cc in ap (λ (i : Index). i.head.from) all.0.index ∙ ap (λ (e : Content). e.from) same ∙ sym m.from

  ends : last_of old ≡ c.to
  ends = last_loaded content 0 old cs loaded ∙ sym is_merge.to

  named : name_of head ≡ file_of c
  named = ap (λ n. Component n (last_of old)) begins ∙ ap (λ n. Component c.from n) ends

  head_is : head_of c ≡ head
  head_is =
      ap (λ (p : Partition). record { number = p.number; count = p.count; from = c.from; to = c.to }) replaces.here
      ∙ ap (λ n. record { number = number; count = count; from = n; to = c.to }) (sym begins) ∙ ap (λ n. record { number = number; count = count; from = first_of old; to = n }) (sym ends)

  free_name : IfTold disks (λ disk. IsThere (disk (file_of c)) → ⊥)
  free_name = subst (λ n. IfTold disks (λ disk. IsThere (disk n) → ⊥)) named free

  abbrev Kept : List Disk → Type 0
  Kept later = IsKeptWriting part (contents.live cs) (IsComponent c) disks later

  pub merge_unmade : (later : List Disk) → FailsMaking (name_of head) disks later → Kept later
  merge_unmade later fails = merge_not_made part cs run c two within of_run disks is free_name later (subst (λ n. FailsMaking n disks later) named fails)

  -- ---- the device was written

  module _ (short : All IsShortWrite c.entries) (fresh device : List DiskFile) (is_fresh : fresh ≡ fresh_file_at (name_of head) disks)
      (moments : (before : Image) → IfTold fresh (LeavesAt (IsShutOr before)) → LeavesOnly (IsShutOrWhole before (component_bytes c)) fresh device) where
    now : IfTold disks (λ disk. IsWritingNow (IsComponent c) device)
    now =
        let first : fresh ≡ fresh_file_at (file_of c) disks = is_fresh ∙ ap (λ n. fresh_file_at n disks) named in
        merge_now part cs run c two within of_run disks is free_name device short
        (λ before shut. subst (λ fs. LeavesOnly (IsShutOrWhole before (component_bytes c)) fs device) first (moments before (subst (λ fs. IfTold fs (LeavesAt (IsShutOr before))) (sym first) shut)))

    home_kept : (later : List Disk) → later ≡ comes_home (name_of head) (λ f. home f) device (makes (name_of head) disks) → Kept later
    home_kept later came = merge_home part cs run c two within of_run disks is free_name device now later (came ∙ ap (λ n. comes_home n (λ f. home f) device (makes n disks)) named)

    named_still : (later : List Disk) → later ≡ comes_home (name_of head) frozen_entry device (makes (name_of head) disks) → later ≡ comes_home (file_of c) frozen_entry device (makes (file_of c) disks)
    named_still later came = came ∙ ap (λ n. comes_home n frozen_entry device (makes n disks)) named

    still_kept : IfTold device IsSettled → (later : List Disk) → later ≡ comes_home (name_of head) frozen_entry device (makes (name_of head) disks) → Kept later
    still_kept settled later came = merge_still part cs run c two within of_run disks is free_name device now settled later (named_still later came)

    pub merge_ended : (Whole : Type 0) (later : List Disk) → (Whole → IfTold device IsSettled) → EndsHome Whole (name_of head) device (makes (name_of head) disks) later → Kept later
    merge_ended Whole later settled (inl (whole, inl came)) = still_kept (settled whole) later came
    merge_ended Whole later settled (inl (whole, inr came)) = home_kept later came
    merge_ended Whole later settled (inr came) = home_kept later came

    -- ---- it is whole

    module _ (size : ℕ) (fits : size < 2 ^ 63) (told : IfTold device (λ f. size ≡ length f.content)) (whole : IfTold device (λ f. f ≡ settled_file (component_bytes c))) where
      has_whole : IfTold device (λ f. IsComponent c f.content)
      has_whole = whole_file c replaces.content short device size fits told whole

      -- what is so of the bytes of a content whose names may stand alone is so where the store tells its files
      pub merge_sound : (P : Type 0) (Fits : List Name → Type 0) → ((names : List Name) → Fits names) → IfSome (content_now device) (λ bytes. (d : Content) → IsComponent d bytes → head_of d ≡ head → Fits d.names → P) → IfTold disks (λ disk. P)
      merge_sound P Fits fits_all sound = told_map (λ disk. IsWritingNow (IsComponent c) device) (λ disk. P) disks (λ disk n.
          subst (λ ds. IfSome (content_now ds) (λ bytes. (d : Content) → IsComponent d bytes → head_of d ≡ head → Fits d.names → P)) n.is sound c (subst (λ ds. IfTold ds (λ f. IsComponent c f.content)) n.is has_whole) head_is (fits_all c.names)) now

      -- and it is listed
      pub is_merged : (name : F → FileName) (device_name : FileName) (m : ComponentState F) (new : List (ComponentState F)) (later : List Disk) → IfTold device IsSettled → IsReadBack content name head device_name device m → new ≡ m ∷ []
          → later ≡ comes_home (name_of head) frozen_entry device (makes (name_of head) disks) → IsListMerged content head cs new later
      is_merged name device_name m new later settled read listed came = record {
        made = c;
        is_merge = is_merge;
        named = sym named;
        loaded = loaded_later disks now later came;
        opening = subst (λ l. IsOpening part l [] later) alone (merge_opened part cs run c two within of_run disks is free_name device now settled has_whole later (named_still later came));
        holds = subst (λ l. contents.live l ≡ contents.live cs) alone replaces.live;
        names = subst (λ l. contents.names_of l ≡ contents.names_of cs) alone replaces.names;
      }
        where
          loaded_of : (n : IsWritingNow (IsComponent c) device) → IsLoadedOf content m c
          loaded_of n =
              subst (λ ds. IfSome (content_now ds) (λ bytes. (d : Content) → IsComponent d bytes → head_of d ≡ head → IsLoadedOf content m d)) n.is read.loaded c
              (subst (λ ds. IfTold ds (λ f. IsComponent c f.content)) n.is has_whole) head_is

          each : (later : List Disk) → AllZip (IsLoadedOf content) new (c ∷ []) → IfTold later (λ disk. AllZip (IsLoadedOf content) new (c ∷ []))
          each [] all = tt
          each (disk ∷ past) all = all

          loaded_later : (ds : List Disk) → IfTold ds (λ disk. IsWritingNow (IsComponent c) device) → (later : List Disk) → later ≡ comes_home (name_of head) frozen_entry device (makes (name_of head) ds) → IfTold later (λ disk. AllZip (IsLoadedOf content) new (c ∷ []))
          loaded_later [] n later back = subst (λ ds. IfTold ds (λ disk. AllZip (IsLoadedOf content) new (c ∷ []))) (sym (back ∙ comes_untold (name_of head) frozen_entry device)) tt
          loaded_later (disk ∷ past) n later back = each later (subst (λ l. AllZip (IsLoadedOf content) l (c ∷ [])) (sym listed) (loaded_of n, tt))

-- ---- the job

-- what a call of the job promises
pub record MergeRan {F : Type 0} (content : F → Option (List ℕ)) (head : Head) (list : List (ComponentState F)) (fresh device : List DiskFile) (size : ℕ) (Ended : Type 0) : Type 0 where
  pub merged : (cs : List Content) → AllZip (IsLoadedOf content) list cs → (c : Content) × IsMerge cs c × All IsShortWrite c.entries × (component_bytes c ≡ merge_bytes content head list)
  pub moments : (before : Image) → AreTold content list → IfTold fresh (LeavesAt (IsShutOr before)) → LeavesOnly (IsShutOrWhole before (merge_bytes content head list)) fresh device
  pub whole : Ended → AreTold content list → IfTold device (λ f. f ≡ settled_file (merge_bytes content head list))
  pub untold : fresh ≡ [] → device ≡ []
  pub fits : Ended → size < 2 ^ 63
  pub sized : IfTold device (λ f. size ≡ length f.content)

pub told_run : {F : Type 0} (content : F → Option (List ℕ)) (list : List (ComponentState F)) → TellAll (map (told_component content) list) → AreTold content list
told_run content [] all = All-nil (λ c. IsSome (content c.file))
told_run content (m ∷ list) all =
    let rest = map (told_component content) list in
    All-cons (λ c. IsSome (content c.file)) m list (All-head (λ (d : ToldComponent). IsSome d.content) (told_component content m) rest all) (told_run content list (All-tail (λ (d : ToldComponent). IsSome d.content) (told_component content m) rest all))

-- all of a list, from the first to the last
pub all_in : {X : Type 0} (list : List X) (last : ℕ) → last + 1 ≡ length list → in_run (record { first = 0; last = last }) list ≡ list
all_in list last is = take_all (last + 1 - 0) list (omega (arith, is))

pub none_behind : {X : Type 0} (list : List X) (last : ℕ) → last + 1 ≡ length list → drop (last + 1) list ≡ []
none_behind list last is = drop_all (last + 1) list (omega (arith, is))

module _ {F : Type 0} (content : F → Option (List ℕ)) (number count : ℕ) (old : List (ComponentState F)) (disks : List Disk) (several : 1 < length old)
    (free : IfTold disks (λ disk. IsThere (disk (name_of (head_over number count old))) → ⊥)) (fresh device : List DiskFile) (is_fresh : fresh ≡ fresh_file_at (name_of (head_over number count old)) disks)
    (size : ℕ) (Ended : Type 0) (ran : MergeRan content (head_over number count old) old fresh device size Ended) where
  abbrev bytes : List ℕ
  bytes = merge_bytes content (head_over number count old) old

  -- its device tells where the store does
  pub merge_tells : IfTold disks (λ disk. AreTold content old) → IfTold disks (λ disk. IsTold device)
  merge_tells all = at disks all is_fresh
    where
      at : (ds : List Disk) → IfTold ds (λ disk. AreTold content old) → fresh ≡ fresh_file_at (name_of (head_over number count old)) ds → IfTold ds (λ disk. IsTold device)
      at [] tell same = tt
      at (disk ∷ past) tell same =
          device_tells (name_of (head_over number count old)) (disk ∷ past) fresh device same (λ before shut tells. tells_on (LeavesAt (IsShutOrWhole before bytes)) fresh device tells (ran.moments before tell shut))

  module _ (cs : List Content) (is : IsOpening (record { number = number; count = count }) cs [] disks) (loaded : AllZip (IsLoadedOf content) old cs) where
    told : AreTold content old
    told = told_run content old (loaded_tell content old cs loaded)

    made : (c : Content) × IsMerge cs c × All IsShortWrite c.entries × (component_bytes c ≡ bytes)
    made = ran.merged cs loaded

    moments : (before : Image) → IfTold fresh (LeavesAt (IsShutOr before)) → LeavesOnly (IsShutOrWhole before (component_bytes made.0)) fresh device
    moments before shut = subst (λ b. LeavesOnly (IsShutOrWhole before b) fresh device) (sym made.3) (ran.moments before told shut)

    whole : Ended → IfTold device (λ f. f ≡ settled_file (component_bytes made.0))
    whole ended = subst (λ b. IfTold device (λ f. f ≡ settled_file b)) (sym made.3) (ran.whole ended told)

    settled : Ended → IfTold device IsSettled
    settled e = told_map (λ f. f ≡ settled_file bytes) IsSettled device (λ f same. subst (λ (x : DiskFile). x ≡ settled_file x.content) (sym same) refl) (ran.whole e told)

    pub ended_kept : (later : List Disk) → EndsHome Ended (name_of (head_over number count old)) device (makes (name_of (head_over number count old)) disks) later → (m : Content) → IsMerge cs m
        → IsKeptWriting (record { number = number; count = count }) (contents.live cs) (IsComponent m) disks later
    ended_kept later ended m is_m =
        subst (λ x. IsKeptWriting (record { number = number; count = count }) (contents.live cs) (IsComponent x) disks later) (one_merge cs made.0 m made.1 is_m)
        (merge_ended content number count old cs disks several free is loaded made.0 made.1 made.2 fresh device is_fresh moments Ended later settled ended)

    pub ended_sound : (P : Type 0) (Fits : List Name → Type 0) → ((names : List Name) → Fits names) → Ended → IfSome (content_now device) (λ whole. (d : Content) → IsComponent d whole → head_of d ≡ head_over number count old → Fits d.names → P) → IfTold disks (λ disk. P)
    ended_sound P Fits fits_all e sound =
        merge_sound content number count old cs disks several free is loaded made.0 made.1 made.2 fresh device is_fresh moments size (ran.fits e) ran.sized (whole e) P Fits fits_all sound

    pub ended_merged : (name : F → FileName) (device_name : FileName) (m : ComponentState F) (new : List (ComponentState F)) (later : List Disk) → Ended → IsReadBack content name (head_over number count old) device_name device m → new ≡ m ∷ []
        → later ≡ comes_home (name_of (head_over number count old)) frozen_entry device (makes (name_of (head_over number count old)) disks) → IsListMerged content (head_over number count old) cs new later
    ended_merged name device_name m new later e read listed came =
        is_merged content number count old cs disks several free is loaded made.0 made.1 made.2 fresh device is_fresh moments size (ran.fits e) ran.sized (whole e) name device_name m new later (settled e) read listed came

-- ---- why it failed

-- the fault of a job that did not end well, and what is found of what it made
pub merge_damage : {X : Type 0} (o : Result (Unit {0}) MergeFault) (r : Result X JobFault) (P : FileName → ℕ → List ℕ → Type 0) (Q : Damage → Type 0) → IfErr o (λ cause. IfErr r (λ fault. fault ≡ of_merge cause)) → IfErr o (λ fault. merge.IfHarmed fault P)
    → (IsOk o → IfDamaged r Q) → IfDamaged r (λ damage. AreBytes P damage ⊎ Q damage)
merge_damage (Ok x) r P Q unmade harmed ended = harmed_then Q (λ damage. AreBytes P damage ⊎ Q damage) (λ damage is. inr is) r (ended refl)
merge_damage (Err e) (Ok x) P Q unmade harmed ended = tt
merge_damage {X = X} (Err e) (Err f) P Q unmade harmed ended = subst (λ g. IfDamaged {X = X} (Err g) (λ damage. AreBytes P damage ⊎ Q damage)) (sym unmade) (at e harmed)
  where
    at : (c : MergeFault) → merge.IfHarmed c P → IfDamaged {X = X} (Err (of_merge c)) (λ damage. AreBytes P damage ⊎ Q damage)
    at merge_fault.Disk h = tt
    at (merge_fault.Damaged file place found) h = inl h
    at merge_fault.Memory h = tt

-- where none of its faults is damage, none is told
pub unmade_sound : {X : Type 0} (o : Result (Unit {0}) MergeFault) (r : Result X JobFault) (P : FileName → ℕ → List ℕ → Type 0) → IfErr o (λ cause. IfErr r (λ fault. fault ≡ of_merge cause)) → IfErr o (λ cause. merge.IfHarmed cause P)
    → ((Y : Type 0) (cause : MergeFault) → merge.IfHarmed cause P → IfDamaged {X = Y} (Err (of_merge cause)) (λ damage. ⊥)) → IfErr o (λ cause. IfDamaged r (λ damage. ⊥))
unmade_sound (Ok x) r P unmade harmed sound = tt
unmade_sound (Err e) (Ok x) P unmade harmed sound = tt
unmade_sound {X = X} (Err e) (Err f) P unmade harmed sound = subst (λ g. IfDamaged {X = X} (Err g) (λ damage. ⊥)) (sym unmade) (sound X e harmed)

pub on_each : {X E : Type 0} (r : Result X E) (P : Type 0) → OnOk r P → IfOk r (λ x. P)
on_each (Ok x) P is = is
on_each (Err e) P is = tt
