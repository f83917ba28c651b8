-- Components are loaded one after the other, of the files of the tiles.
use Rattle.std.proofs.Common.{◌≡◌, ◌∙◌, ◌≤◌, ◌⊎◌, ◌+◌, ℕ, suc, Bool, List, [], ◌∷◌, ◌++◌, map, length, refl, sym, subst, ap, inl, inr, append_assoc, arith}
use Rattle.std.specs.Prelude.{◌↔◌, ◌&&◌, IsTrue, Contains, bytes_eq, false, true, if◌then◌else◌, Option, Some, None, unwrap_or, All, IsSome, IfSome, IfErr, Result, Ok, Err}
use Rattle.std.specs.List.Sorted.{IsStrictlySortedBy}
use Rattle.std.proofs.lemmas.List.{map-append}
use Rattle.std.proofs.lemmas.List.Elements.{All-push, Contains-append_right}
use Rattle.std.proofs.lemmas.Map.Keys.{sorted_tail}
use Rattle.std.proofs.lemmas.Grind.{common_steps}
use Rattle.std.proofs.lemmas.Bool.{and_parts}
use Rattle.std.proofs.lemmas.Slice.Eq.{bytes_eq-Decides}
use Rattle.std.specs.Result.{IsErrOf, IsOk}
use Rattle.tc_bytes.specs.Counts.{Rose}
use Rattle.tc_model.specs.Document.{Name}
use Rattle.tc_model.specs.Dictionary.{Extends}
use Rattle.tc_lsm_model.specs.Contents.{Partition}
use Rattle.tc_names.specs.Section.{section}
use Rattle.tc_store.specs.declared.file_name.FileName.{FileName}
use Rattle.tc_store.specs.declared.file_name.FileName.TheVariants.{Component, Log}
use Rattle.tc_store.specs.declared.damage.Damage.TheVariants.{Bytes, Files}
use Rattle.tc_store.specs.Counted.{Counts}
use Rattle.tc_store.specs.Disk.{bytes_at, same_name}
use Rattle.tc_store.specs.NameOrder.{name_cmp}
use Rattle.tc_store.proofs.NameLemmas.{same_name-refl, same_name-is}
use Rattle.tc_component.specs.Layout.{names_place, file_size}
use Rattle.tc_component.specs.Loading.{ComponentState, index_in}
use Rattle.tc_component.specs.Spelling.{Index, IsIndex, name_of, sizes_in}
use Rattle.tc_list.specs.Intervals.{last_of}
use Rattle.tc_jobs.proofs.ListEnds.{last_pushed}
use Rattle.tc_merge.specs.Merging.{newest_names}
use Rattle.tc_jobs.specs.declared.fault.JobFault.{JobFault}
use Rattle.tc_jobs.specs.declared.fault.JobFault.TheVariants as job
use Rattle.tc_jobs.specs.Faults.{AreBytesOr}
use Rattle.tc_jobs.specs.Lists.{IsListOf}
use Rattle.tc_recover.specs.declared.cause.FilesCause.{FilesCause}
use Rattle.tc_recover.specs.declared.cause.FilesCause.TheVariants.{Disk, Damaged, Layout, Memory}
use Rattle.tc_recover.specs.declared.interval.Interval.{Interval}
use Rattle.tc_recover.specs.declared.taken.Taken.{Taken}
use Rattle.tc_recover.specs.Causes.{of_job}
use Rattle.tc_recover.specs.Files.{picture_in, names_in, AreTold}
use Rattle.tc_recover.specs.Loading.{IsLoadCause, IsLoadDamage, begins_with, component_judged, components_judged, files_of, interval_of, is_file_of, left_of, names_judged, own_judged, then_judged, tile_name}
use Rattle.tc_recover.specs.Loads.{Answers}
use Rattle.tc_recover.specs.Reads.{count_after, IsCountedTimes}
use Rattle.tc_recover.specs.Refusals.{Refusal}
use Rattle.tc_recover.specs.Sorting.{intervals_of, open_names}
use Rattle.tc_recover.specs.Tilings.{IsTiling, Ascend, Tile}
use Rattle.tc_recover.proofs.HeadSteps.{count_moves, told_first, told_behind, told_holds}
use Rattle.tc_recover.proofs.Members.{AreAmong, member_cases, member_first, member_further, no_member}
use Rattle.tc_recover.proofs.NameOrders.{first_apart}
use Rattle.tc_recover.proofs.SortedNames.{intervals_ascend, open_ascend}
use Rattle.tc_recover.proofs.Tiles.{stands_at}

-- ---- names that go on

pub begins_from : (newer older : List Name) → Extends newer older → begins_with newer older ≡ true
begins_from newer [] extends = refl
begins_from [] (name ∷ older) extends = let is = extends.1 in absurd (cc)
begins_from (first ∷ newer) (name ∷ older) extends =
    let is = extends.1 in
    let same : first ≡ name = cc in
    let rest : newer ≡ older ++ extends.0 = cc in
    let one = (bytes_eq-Decides first name).1 same in
    rw one (begins_from newer older (extends.0, rest))

extends_from : (newer older : List Name) → begins_with newer older ≡ true → Extends newer older
extends_from newer [] begins = (newer, refl)
extends_from [] (name ∷ older) begins = absurd (cc)
extends_from (first ∷ newer) (name ∷ older) begins = both (bytes_eq first name) refl begins (extends_from newer older)
  where
    both : (same : Bool) → bytes_eq first name ≡ same → same && begins_with newer older ≡ true → (begins_with newer older ≡ true → Extends newer older) → Extends (first ∷ newer) (name ∷ older)
    both false is begins extends = absurd (cc)
    both true is begins extends =
        let rest = extends begins in
        let equal = (bytes_eq-Decides first name).0 is in
        let tail = rest.1 in
        (rest.0, cc)

-- ---- the next component

goes_on_one : (older : List Name) (name : FileName) (c : Index) (goes : Bool) → (IsTrue goes ↔ Extends c.names older) → goes ≡ true → names_judged older name c ≡ Ok c
goes_on_one older name c goes exact is =
    let begins = begins_from c.names older (exact.0 is) in
    rw begins refl

stops_one : (older : List Name) (name : FileName) (c : Index) (goes : Bool) → (IsTrue goes ↔ Extends c.names older) → goes ≡ false → begins_with c.names older ≡ false
stops_one older name c goes exact is = stops (begins_with c.names older) refl
  where
    stops : (begins : Bool) → begins_with c.names older ≡ begins → begins ≡ false
    stops false was = refl
    stops true was = let yes = exact.1 (extends_from c.names older was) in absurd (cc)

pub goes_on : {F : Type 0} (content : Option (List ℕ)) (part : Partition) (older : List Name) (name : FileName) (c : ComponentState F) (goes : Bool) → IfSome content (λ bytes. Answers {X = ComponentState F} index_in (Ok c) (own_judged part name bytes))
    → (IsTrue goes ↔ Extends c.index.names older) → goes ≡ true → IfSome content (λ bytes. Answers {X = ComponentState F} index_in (Ok c) (component_judged part older name bytes))
goes_on None part older name c goes own exact is = tt
goes_on (Some bytes) part older name c goes own exact is = rw own (goes_on_one older name c.index goes exact is)

pub stops_judged : {F : Type 0} (content : Option (List ℕ)) (part : Partition) (older : List Name) (name : FileName) (c : ComponentState F) (goes : Bool) (fault : JobFault) (cause : FilesCause)
    → IfSome content (λ bytes. Answers {X = ComponentState F} index_in (Ok c) (own_judged part name bytes)) → (IsTrue goes ↔ Extends c.index.names older) → goes ≡ false → name ≡ name_of c.index.head
    → AreBytesOr (name_of c.index.head) (names_place (sizes_in c.index)) (section c.index.names) fault → cause ≡ of_job fault → IfSome content (λ bytes. Answers {X = ComponentState F} index_in (Err cause) (component_judged part older name bytes))
stops_judged {F = F} None part older name c goes fault cause own exact is named are of_it = tt
stops_judged {F = F} (Some bytes) part older name c goes fault cause own exact is named are of_it =
    subst (λ e. Answers {X = ComponentState F} index_in (Err e) (component_judged part older name bytes)) (sym of_it) (answered fault are)
  where
    answered : (f : JobFault) → AreBytesOr (name_of c.index.head) (names_place (sizes_in c.index)) (section c.index.names) f → Answers {X = ComponentState F} index_in (Err (of_job f)) (component_judged part older name bytes)
    answered job.Disk a = absurd a
    answered (job.Damaged d) a =
        let no = stops_one older name c.index goes exact is in
        subst (λ x. Answers {X = ComponentState F} index_in (Err (Damaged x)) (component_judged part older name bytes)) (sym a) (rw (own, no) (rw named refl))
    answered job.Memory a = tt

-- names that do not go on are no fault of a read
pub never_disk : (name : FileName) (place : ℕ) (bytes : List ℕ) (fault : JobFault) (cause : FilesCause) → AreBytesOr name place bytes fault → cause ≡ of_job fault → cause ≡ Disk → ⊥
never_disk name place bytes job.Disk cause are of_it is = are
never_disk name place bytes (job.Damaged d) cause are of_it is = let clash : Damaged d ≡ Disk = sym of_it ∙ is in cc
never_disk name place bytes job.Memory cause are of_it is = let clash : Memory ≡ Disk = sym of_it ∙ is in cc

pub stops_cause : {F W : Type 0} (size : F → ℕ) (part : Partition) (t : Taken F W) (older : List Name) (c : ComponentState F) (goes : Bool) (fault : JobFault) (cause : FilesCause) (whole : ℕ) → (IsTrue goes ↔ Extends c.index.names older) → goes ≡ false
    → c.file ≡ t.file → t.name ≡ name_of c.index.head → IsIndex c.index → whole ≡ size c.file → whole ≡ file_size (sizes_in c.index)
    → AreBytesOr (name_of c.index.head) (names_place (sizes_in c.index)) (section c.index.names) fault → cause ≡ of_job fault → IsLoadDamage size part t cause
stops_cause size part t older c goes fault cause whole exact is filed named lawful long sized are of_it = subst (IsLoadDamage size part t) (sym of_it) (harmed fault are)
  where
    harmed : (f : JobFault) → AreBytesOr (name_of c.index.head) (names_place (sizes_in c.index)) (section c.index.names) f → IsLoadDamage size part t (of_job f)
    harmed job.Disk a = absurd a
    harmed (job.Damaged d) a = subst (λ x. IsLoadDamage size part t (Damaged x)) (sym a) (
      named,
      inr record {
        index = c.index;
        lawful = lawful;
        named = named;
        sized = sym sized ∙ (long ∙ ap size filed);
        others = (older, λ extends. let yes = exact.1 extends in absurd (cc));
        place_is = refl;
        bytes_are = refl;
      },
    )
    harmed job.Memory a = tt

-- ---- the loop

-- what is left to be loaded, behind the listed components
pub record AreTilesLeft {F W : Type 0} (tells : F → Option (List ℕ)) (part : Partition) (all ts : List (Taken F W)) (tiles rest : List Interval) (list : List (ComponentState F)) (left : List (Taken F W)) (before now : Counts) : Type 0 where
  pub among : AreAmong ts all
  pub ascend : IsStrictlySortedBy name_cmp (names_in ts)
  pub there : (tile : Interval) → Contains rest tile → Contains (intervals_of (open_names ts)) tile
  pub tile : Tile (last_of list) rest
  pub done : tiles ≡ map interval_of list ++ rest
  pub judged : AreTold tells all → components_judged part (picture_in tells all) tiles [] [] ≡ components_judged part (picture_in tells all) rest (newest_names [] list) (map index_in list)
  pub files : files_of tiles all ≡ map (λ c. c.file) list ++ files_of rest ts
  pub others : left_of tiles all ≡ left ++ left_of rest ts
  pub lawful : All (λ c. IsIndex c.index) list
  pub listed : IsListOf part.number part.count list
  pub faults : before.faults ≤ now.faults
  pub reads : count_after (length rest + length rest) now.reads ≡ count_after (length tiles + length tiles) before.reads

newest_behind : {F : Type 0} (names : List Name) (older newer : List (ComponentState F)) → newest_names names (older ++ newer) ≡ newest_names (newest_names names older) newer
newest_behind names [] newer = refl
newest_behind names (d ∷ older) newer = newest_behind d.index.names older newer

tiles_begin : {F W : Type 0} (tells : F → Option (List ℕ)) (part : Partition) (all : List (Taken F W)) (tiles : List Interval) (now : Counts) → IsStrictlySortedBy name_cmp (names_in all) → IsTiling (intervals_of (open_names all)) tiles
    → AreTilesLeft tells part all all tiles tiles [] [] now now
tiles_begin tells part all tiles now ascend tiling = record {
  among = λ t member. member;
  ascend = ascend;
  there = tiling.there;
  tile = tiling.tile;
  done = refl;
  judged = λ told. refl;
  files = refl;
  others = refl;
  lawful = λ k d low. absurd (omega (arith, low));
  listed = record { each = λ k d low. absurd (omega (arith, low)); names = tt };
  faults = omega arith;
  reads = refl;
}

pub all_left : {F W : Type 0} (tells : F → Option (List ℕ)) (part : Partition) (all us : List (Taken F W)) (tiles : List Interval) (list : List (ComponentState F)) (left : List (Taken F W)) (now : Counts) → IsStrictlySortedBy name_cmp (names_in all)
    → IsTiling (intervals_of (open_names all)) tiles → us ≡ all → list ≡ [] → left ≡ [] → AreTilesLeft tells part all us tiles tiles list left now now
all_left tells part all us tiles list left now ascend tiling items none nothing =
    subst (λ vs. AreTilesLeft tells part all vs tiles tiles list left now now) (sym items)
    (subst (λ cs. AreTilesLeft tells part all all tiles tiles cs left now now) (sym none) (subst (λ fs. AreTilesLeft tells part all all tiles tiles [] fs now now) (sym nothing) (tiles_begin tells part all tiles now ascend tiling)))

-- the first of these files is that of an interval, or of none of those that are looked for
first_or_not : {F W : Type 0} (t : Taken F W) (ts : List (Taken F W)) → ((one : Interval) × (is_file_of one t ≡ true) × (t.name ≡ tile_name one) × (intervals_of (open_names (t ∷ ts)) ≡ one ∷ intervals_of (open_names ts))) ⊎ (intervals_of (open_names (t ∷ ts)) ≡ intervals_of (open_names ts))
first_or_not t ts = cases t.open t.name refl refl
  where
    cases : (is_open : Bool) (name : FileName) → t.open ≡ is_open → t.name ≡ name
        → ((one : Interval) × (is_file_of one t ≡ true) × (t.name ≡ tile_name one) × (intervals_of (open_names (t ∷ ts)) ≡ one ∷ intervals_of (open_names ts))) ⊎ (intervals_of (open_names (t ∷ ts)) ≡ intervals_of (open_names ts))
    cases false name closed named = inr (rw closed refl)
    cases true (Log generation) opened named = inr (rw opened (rw named refl))
    cases true (Component from to) opened named = inl (record { from = from; to = to }, rw opened (rw named (same_name-refl (Component from to))), named, rw opened (rw named refl))

-- what is looked for is no other one than the tile behind which it stands
tile_gone : (g : ℕ) (tile : Interval) (behind : List Interval) (one : Interval) (js : List Interval) → Tile g (tile ∷ behind) → one ≡ tile → ((x : Interval) → Contains (tile ∷ behind) x → Contains (one ∷ js) x)
    → (x : Interval) → Contains behind x → Contains js x
tile_gone g tile behind one js tiles same there x member = elim (member_cases one js x (there x (member_further tile behind x member))) [
  | inl equal ↦
      let place = stands_at tile.to behind x tiles.2 member in
      let from : x.from ≡ tile.from = ap (λ (i : Interval). i.from) (sym equal ∙ same) in
      absurd (omega (arith, place.0, from, tiles.1))
  | inr further ↦ further
]

tiles_stay : (g : ℕ) (tile : Interval) (behind : List Interval) (one : Interval) (js : List Interval) → Tile g (tile ∷ behind) → Ascend (one ∷ js) → (one ≡ tile → ⊥) → ((x : Interval) → Contains (tile ∷ behind) x → Contains (one ∷ js) x)
    → (x : Interval) → Contains (tile ∷ behind) x → Contains js x
tiles_stay g tile behind one js tiles ascend other there x member = elim (member_cases one js x (there x member)) [
  | inr further ↦ further
  | inl equal ↦ elim (member_cases tile behind x member) [
    | inl first ↦ absurd (other (equal ∙ sym first))
    | inr later ↦
        let place = stands_at tile.to behind x tiles.2 later in
        let from : one.from ≡ x.from = ap (λ (i : Interval). i.from) equal in
        elim (member_cases one js tile (there tile (member_first tile behind))) [
          | inl is ↦ absurd (other is)
          | inr there_too ↦ elim (ascend.0 tile there_too) [
            | inl below ↦ absurd (omega (arith, place.0, from, tiles.1, below))
            | inr level ↦ absurd (omega (arith, place.0, from, tiles.1, level.0))
          ]
        ]
  ]
]

name_there : {F W : Type 0} (us : List (Taken F W)) (t : Taken F W) → Contains us t → Contains (names_in us) t.name
name_there [] t member = absurd (no_member t member)
name_there (u ∷ us) t member = elim (member_cases u us t member) [
  | inl same ↦ subst (λ (x : Taken _ _). Contains (names_in (u ∷ us)) x.name) same (member_first u.name (names_in us))
  | inr further ↦ member_further u.name (names_in us) t.name (name_there us t further)
]

-- the bytes of a file stand under its name
bytes_found : {F W : Type 0} (tells : F → Option (List ℕ)) (all : List (Taken F W)) (t : Taken F W) → IsStrictlySortedBy name_cmp (names_in all) → Contains all t → bytes_at (picture_in tells all) t.name ≡ Some (unwrap_or (tells t.file) [])
bytes_found tells [] t sorted member = absurd (no_member t member)
bytes_found tells (u ∷ us) t sorted member = elim (member_cases u us t member) [
  | inl same ↦ subst (λ (x : Taken _ _). bytes_at (picture_in tells (u ∷ us)) x.name ≡ Some (unwrap_or (tells x.file) [])) same (rw (same_name-refl u.name) refl)
  | inr further ↦
      let apart = first_apart u.name (names_in us) t.name sorted (name_there us t further) in
      rw apart (bytes_found tells us t (sorted_tail name_cmp u.name (names_in us) sorted) further)
]

told_of : {F W : Type 0} (tells : F → Option (List ℕ)) (all : List (Taken F W)) (t : Taken F W) → AreTold tells all → Contains all t → IsSome (tells t.file)
told_of tells [] t told member = absurd (no_member t member)
told_of tells (u ∷ us) t told member = elim (member_cases u us t member) [
  | inl same ↦ subst (λ (x : Taken _ _). IsSome (tells x.file)) same (told_first tells u us told)
  | inr further ↦ told_of tells us t (told_behind tells u us told) further
]

-- ---- one file more

pub same_interval : (i j : Interval) → i.from ≡ j.from → i.to ≡ j.to → i ≡ j
same_interval i j from to = subst (λ a. i ≡ record { from = a; to = j.to }) from (subst (λ b. i ≡ record { from = i.from; to = b }) to refl)

-- the file of the next tile has its name
pub called_so : {F W : Type 0} (tile : Interval) (t : Taken F W) → is_file_of tile t ≡ true → tile_name tile ≡ t.name
called_so tile t is = same_name-is (tile_name tile) t.name (and_parts t.open (same_name (tile_name tile) t.name) is).1

one_name : (i j : Interval) → tile_name i ≡ tile_name j → i ≡ j
one_name i j same = same_interval i j (cc) (cc)

tile_is : {F W : Type 0} (tile : Interval) (t : Taken F W) (c : ComponentState F) → is_file_of tile t ≡ true → t.name ≡ name_of c.index.head → tile ≡ interval_of c
tile_is tile t c is named = one_name tile (interval_of c) (called_so tile t is ∙ named)

-- it begins behind the listed ones
pub begins_behind : {F W : Type 0} (tells : F → Option (List ℕ)) (part : Partition) (all ts : List (Taken F W)) (tiles rest behind : List Interval) (tile : Interval) (list : List (ComponentState F)) (left : List (Taken F W)) (before now : Counts) (t : Taken F W) (c : ComponentState F)
    → AreTilesLeft tells part all ts tiles rest list left before now → rest ≡ tile ∷ behind → is_file_of tile t ≡ true → t.name ≡ name_of c.index.head → c.index.head.from ≡ last_of list + 1
begins_behind tells part all ts tiles rest behind tile list left before now t c p rests is named =
    let tiled = subst (λ r. Tile (last_of list) r) rests p.tile in
    let from : tile.from ≡ c.index.head.from = ap (λ (i : Interval). i.from) (tile_is tile t c is named) in
    sym from ∙ tiled.0

-- the other tiles are among the other files
tiles_behind : {F W : Type 0} (g : ℕ) (tile : Interval) (behind : List Interval) (t : Taken F W) (ts : List (Taken F W)) → Tile g (tile ∷ behind) → is_file_of tile t ≡ true
    → ((x : Interval) → Contains (tile ∷ behind) x → Contains (intervals_of (open_names (t ∷ ts))) x) → (x : Interval) → Contains behind x → Contains (intervals_of (open_names ts)) x
tiles_behind g tile behind t ts tiled is there x member = elim (first_or_not t ts) [
  | inl first ↦
      let one = one_name first.0 tile (sym first.2 ∙ sym (called_so tile t is)) in
      tile_gone g tile behind first.0 (intervals_of (open_names ts)) tiled one (λ y looked. subst (λ is. Contains is y) first.3 (there y looked)) x member
  | inr none ↦ subst (λ is. Contains is x) none (there x (member_further tile behind x member))
]

-- and all of them where the first file is not that of the next tile
tiles_further : {F W : Type 0} (g : ℕ) (tile : Interval) (behind : List Interval) (t : Taken F W) (ts : List (Taken F W)) → IsStrictlySortedBy name_cmp (names_in (t ∷ ts)) → Tile g (tile ∷ behind) → is_file_of tile t ≡ false
    → ((x : Interval) → Contains (tile ∷ behind) x → Contains (intervals_of (open_names (t ∷ ts))) x) → (x : Interval) → Contains (tile ∷ behind) x → Contains (intervals_of (open_names ts)) x
tiles_further g tile behind t ts sorted tiled other there x member = elim (first_or_not t ts) [
  | inl first ↦
      let ascend = subst Ascend first.3 (intervals_ascend (open_names (t ∷ ts)) (open_ascend (t ∷ ts) sorted)) in
      tiles_stay g tile behind first.0 (intervals_of (open_names ts)) tiled ascend (λ one. let is = subst (λ i. is_file_of i t ≡ true) one first.1 in absurd (cc)) (λ y looked. subst (λ is. Contains is y) first.3 (there y looked)) x member
  | inr none ↦ subst (λ is. Contains is x) none (there x member)
]

judged_one : {F W : Type 0} (tells : F → Option (List ℕ)) (part : Partition) (all : List (Taken F W)) (behind : List Interval) (tile : Interval) (list : List (ComponentState F)) (t : Taken F W) (c : ComponentState F)
    → IsStrictlySortedBy name_cmp (names_in all) → Contains all t → tile_name tile ≡ t.name → IfSome (tells t.file) (λ bytes. component_judged part (newest_names [] list) t.name bytes ≡ Ok c.index) → AreTold tells all
    → components_judged part (picture_in tells all) (tile ∷ behind) (newest_names [] list) (map index_in list) ≡ components_judged part (picture_in tells all) behind (newest_names [] (list ++ c ∷ [])) (map index_in (list ++ c ∷ []))
judged_one {F = F} tells part all behind tile list t c sorted member called judged told =
    let names = newest_names [] list in
    let picture = picture_in tells all in
    let before = map (index_in {F = F}) list in
    let some = told_of tells all t told member in
    let here = told_holds (λ bytes. component_judged part names t.name bytes ≡ Ok c.index) (tells t.file) some judged in
    let there = ap (λ b. component_judged part names t.name (unwrap_or b [])) (bytes_found tells all t sorted member) in
    let one = subst (λ n. component_judged part names n (unwrap_or (bytes_at picture n) []) ≡ Ok c.index) (sym called) (there ∙ here) in
    let next = ap (λ r. then_judged r (λ d. components_judged part picture behind d.names (before ++ d ∷ []))) one in
    let names_are = ap (λ ns. components_judged part picture behind ns (before ++ c.index ∷ [])) (sym (newest_behind [] list (c ∷ []))) in
    let indexes_are = ap (λ is. components_judged part picture behind (newest_names [] (list ++ c ∷ [])) is) (sym (map-append (index_in {F = F}) list (c ∷ []))) in
    next ∙ (names_are ∙ indexes_are)

twice_moves : (n : ℕ) (before : ℕ) → count_after (n + n) (count_after 2 before) ≡ count_after (suc n + suc n) before
twice_moves n before =
    let twice : suc (suc (n + n)) ≡ suc n + suc n = omega arith in
    subst (λ m. count_after (n + n) (count_after 2 before) ≡ count_after m before) twice (count_moves (n + n) (count_after 1 before) ∙ ap (λ m. count_after 1 m) (count_moves (n + n) before))

pub one_loaded : {F W : Type 0} (tells : F → Option (List ℕ)) (part : Partition) (all us ts : List (Taken F W)) (tiles rest behind : List Interval) (tile : Interval) (list more : List (ComponentState F)) (left : List (Taken F W)) (before now after : Counts) (t : Taken F W) (c : ComponentState F)
    → IsStrictlySortedBy name_cmp (names_in all) → AreTilesLeft tells part all us tiles rest list left before now → us ≡ t ∷ ts → rest ≡ tile ∷ behind → is_file_of tile t ≡ true → more ≡ list ++ c ∷ []
    → IfSome (tells t.file) (λ bytes. component_judged part (newest_names [] list) t.name bytes ≡ Ok c.index) → c.file ≡ t.file → t.name ≡ name_of c.index.head → IsIndex c.index
    → (IsListOf part.number part.count list → IsListOf part.number part.count (list ++ c ∷ [])) → now.faults ≤ after.faults → after.reads ≡ count_after 2 now.reads
    → AreTilesLeft tells part all ts tiles behind more left before after
one_loaded {F = F} {W = W} tells part all us ts tiles rest behind tile list more left before now after t c sorted p items rests is pushed judged filed named lawful listed risen read =
    subst (λ cs. AreTilesLeft tells part all ts tiles behind cs left before after) (sym pushed)
    (next (subst (λ r. AreTilesLeft tells part all (t ∷ ts) tiles r list left before now) rests (subst (λ vs. AreTilesLeft tells part all vs tiles rest list left before now) items p)))
  where
    same : tile ≡ interval_of c
    same = tile_is tile t c is named

    files : List (ComponentState F) → List F
    files cs = map (λ d. d.file) cs

    next : AreTilesLeft tells part all (t ∷ ts) tiles (tile ∷ behind) list left before now → AreTilesLeft tells part all ts tiles behind (list ++ c ∷ []) left before after
    next q = record {
      among = λ u member. q.among u (member_further t ts u member);
      ascend = sorted_tail name_cmp t.name (names_in ts) q.ascend;
      there = tiles_behind (last_of list) tile behind t ts q.tile is q.there;
      tile =
          let to : last_of (list ++ c ∷ []) ≡ tile.to = last_pushed 0 list c ∙ sym (ap (λ (i : Interval). i.to) same) in
          subst (λ g. Tile g behind) (sym to) q.tile.2;
      done =
          let moved : map interval_of (list ++ c ∷ []) ++ behind ≡ map interval_of list ++ tile ∷ behind =
          ap (λ is. is ++ behind) (map-append interval_of list (c ∷ [])) ∙ (append_assoc (map interval_of list) (interval_of c ∷ []) behind ∙ ap (λ i. map interval_of list ++ i ∷ behind) (sym same)) in
          q.done ∙ sym moved;
      judged = λ told. q.judged told ∙ judged_one tells part all behind tile list t c sorted (q.among t (member_first t ts)) (called_so tile t is) judged told;
      files =
          let moved : files (list ++ c ∷ []) ++ files_of behind ts ≡ files list ++ t.file ∷ files_of behind ts =
          ap (λ fs. fs ++ files_of behind ts) (map-append (λ (d : ComponentState F). d.file) list (c ∷ [])) ∙ (append_assoc (files list) (c.file ∷ []) (files_of behind ts) ∙ ap (λ f. files list ++ f ∷ files_of behind ts) filed) in
          subst (λ yes. files_of tiles all ≡ files list ++ (if yes then t.file ∷ files_of behind ts else files_of (tile ∷ behind) ts)) is q.files ∙ sym moved;
      others = subst (λ yes. left_of tiles all ≡ left ++ (if yes then left_of behind ts else t ∷ left_of (tile ∷ behind) ts)) is q.others;
      lawful = All-push (λ (d : ComponentState F). IsIndex d.index) list c q.lawful lawful;
      listed = listed q.listed;
      faults = omega (arith, q.faults, risen);
      reads = subst (λ r. count_after (length behind + length behind) r ≡ count_after (length tiles + length tiles) before.reads) (sym read) (twice_moves (length behind) now.reads ∙ q.reads);
    }

files_none : {F W : Type 0} (ts : List (Taken F W)) → files_of [] ts ≡ []
files_none [] = refl
files_none (t ∷ ts) = refl

left_none : {F W : Type 0} (ts : List (Taken F W)) → left_of [] ts ≡ ts
left_none [] = refl
left_none (t ∷ ts) = refl

-- where the first file is not that of the next tile, or there is no tile, it is left
abbrev pub IsNotNext : {F W : Type 0} → List Interval → Taken F W → Type 0
IsNotNext [] t = Unit {0}
IsNotNext (tile ∷ tiles) t = is_file_of tile t ≡ false

pub one_left : {F W : Type 0} (tells : F → Option (List ℕ)) (part : Partition) (all us ts : List (Taken F W)) (tiles rest : List Interval) (list : List (ComponentState F)) (left more : List (Taken F W)) (before now : Counts) (t : Taken F W)
    → AreTilesLeft tells part all us tiles rest list left before now → us ≡ t ∷ ts → IsNotNext rest t → more ≡ left ++ t ∷ [] → AreTilesLeft tells part all ts tiles rest list more before now
one_left {F = F} {W = W} tells part all us ts tiles rest list left more before now t p items other pushed =
    subst (λ fs. AreTilesLeft tells part all ts tiles rest list fs before now) (sym pushed) (next rest other (subst (λ vs. AreTilesLeft tells part all vs tiles rest list left before now) items p))
  where
    further : (r : List Interval) → IsNotNext r t → AreTilesLeft tells part all (t ∷ ts) tiles r list left before now → (x : Interval) → Contains r x → Contains (intervals_of (open_names ts)) x
    further [] apart q x member = absurd (no_member x member)
    further (tile ∷ behind) apart q x member = tiles_further (last_of list) tile behind t ts q.ascend q.tile apart q.there x member

    files_stay : (r : List Interval) → IsNotNext r t → files_of r (t ∷ ts) ≡ files_of r ts
    files_stay [] apart = sym (files_none ts)
    files_stay (tile ∷ behind) apart = rw apart refl

    left_stay : (r : List Interval) → IsNotNext r t → left_of r (t ∷ ts) ≡ t ∷ left_of r ts
    left_stay [] apart = ap (λ us. t ∷ us) (sym (left_none ts))
    left_stay (tile ∷ behind) apart = rw apart refl

    next : (r : List Interval) → IsNotNext r t → AreTilesLeft tells part all (t ∷ ts) tiles r list left before now → AreTilesLeft tells part all ts tiles r list (left ++ t ∷ []) before now
    next r apart q = record {
      among = λ u member. q.among u (member_further t ts u member);
      ascend = sorted_tail name_cmp t.name (names_in ts) q.ascend;
      there = further r apart q;
      tile = q.tile;
      done = q.done;
      judged = q.judged;
      files = q.files ∙ ap (λ fs. map (λ (d : ComponentState F). d.file) list ++ fs) (files_stay r apart);
      others = q.others ∙ (ap (λ fs. left ++ fs) (left_stay r apart) ∙ sym (append_assoc left (t ∷ []) (left_of r ts)));
      lawful = q.lawful;
      listed = q.listed;
      faults = q.faults;
      reads = q.reads;
    }

-- at the end no tile is left
pub no_tile_left : {F W : Type 0} (tells : F → Option (List ℕ)) (part : Partition) (all us : List (Taken F W)) (tiles rest : List Interval) (list : List (ComponentState F)) (left : List (Taken F W)) (before now : Counts)
    → AreTilesLeft tells part all us tiles rest list left before now → us ≡ [] → rest ≡ []
no_tile_left tells part all us tiles [] list left before now p nothing = refl
no_tile_left tells part all us tiles (tile ∷ behind) list left before now p nothing =
    absurd (no_member tile (subst (λ vs. Contains (intervals_of (open_names vs)) tile) nothing (p.there tile (member_first tile behind))))

pub all_loaded : {F W : Type 0} (tells : F → Option (List ℕ)) (part : Partition) (all us : List (Taken F W)) (tiles rest : List Interval) (list : List (ComponentState F)) (left : List (Taken F W)) (before now : Counts)
    → AreTilesLeft tells part all us tiles rest list left before now → us ≡ [] → AreTilesLeft tells part all [] tiles [] list left before now
all_loaded tells part all us tiles rest list left before now p nothing =
    subst (λ r. AreTilesLeft tells part all [] tiles r list left before now) (no_tile_left tells part all us tiles rest list left before now p nothing)
    (subst (λ vs. AreTilesLeft tells part all vs tiles rest list left before now) nothing p)

-- ---- refusals

refused_first : (X Y A B : Type 0) (view : X → A) (all_view : Y → B) (cause : FilesCause) (judged : Result A Refusal) (next : A → Result B Refusal) → Answers {X = X} view (Err cause) judged → Answers {X = Y} all_view (Err cause) (then_judged judged next)
refused_first X Y A B view all_view Disk judged next is = tt
refused_first X Y A B view all_view Memory judged next is = tt
refused_first X Y A B view all_view (Damaged (Bytes file place bytes)) judged next is = ap (λ r. then_judged r next) is
refused_first X Y A B view all_view (Damaged (Files names)) judged next is = ap (λ r. then_judged r next) is
refused_first X Y A B view all_view (Layout found found_of) judged next is = ap (λ r. then_judged r next) is

pub load_refused : (Y : Type 0) (view : Y → List Index) {F W : Type 0} (tells : F → Option (List ℕ)) (part : Partition) (all us ts : List (Taken F W))
    (tiles rest behind : List Interval) (tile : Interval) (list : List (ComponentState F)) (left : List (Taken F W)) (before now : Counts) (t : Taken F W)
    (cause : FilesCause)
    → IsStrictlySortedBy name_cmp (names_in all) → AreTilesLeft tells part all us tiles rest list left before now → us ≡ t ∷ ts → rest ≡ tile ∷ behind → is_file_of tile t ≡ true
    → IfSome (tells t.file) (λ bytes. Answers {X = ComponentState F} index_in (Err cause) (component_judged part (newest_names [] list) t.name bytes)) → AreTold tells all
    → Answers view (Err cause) (components_judged part (picture_in tells all) tiles [] [])
load_refused Y view {F = F} tells part all us ts tiles rest behind tile list left before now t cause sorted p items rests is refuses told =
    let member : Contains all t = p.among t (subst (λ vs. Contains vs t) (sym items) (member_first t ts)) in
    let names = newest_names [] list in
    let picture = picture_in tells all in
    let some = told_of tells all t told member in
    let here = told_holds (λ bytes. Answers {X = ComponentState F} index_in (Err cause) (component_judged part names t.name bytes)) (tells t.file) some refuses in
    let there = subst (λ b. Answers {X = ComponentState F} index_in (Err cause) (component_judged part names t.name (unwrap_or b []))) (sym (bytes_found tells all t sorted member)) here in
    let one = subst (λ n. Answers {X = ComponentState F} index_in (Err cause) (component_judged part names n (unwrap_or (bytes_at picture n) []))) (sym (called_so tile t is)) there in
    let all_judged = subst (λ r. components_judged part picture tiles [] [] ≡ components_judged part picture r names (map index_in list)) rests (p.judged told) in
    subst (λ r. Answers view (Err cause) r) (sym all_judged)
    (refused_first (ComponentState F) Y Index (List Index) index_in view cause (component_judged part names (tile_name tile) (unwrap_or (bytes_at picture (tile_name tile)) []))
    (λ d. components_judged part picture behind d.names (map (index_in {F = F}) list ++ d ∷ [])) one)

pub load_caused : {F W : Type 0} (tells : F → Option (List ℕ)) (size : F → ℕ) (part : Partition) (all us ts : List (Taken F W)) (tiles rest behind : List Interval) (tile : Interval) (list : List (ComponentState F)) (left : List (Taken F W)) (before now : Counts) (t : Taken F W) (cause : FilesCause)
    → AreTilesLeft tells part all us tiles rest list left before now → us ≡ t ∷ ts → rest ≡ tile ∷ behind → is_file_of tile t ≡ true → IsLoadDamage size part t cause → IsLoadCause size part tiles all cause
load_caused tells size part all us ts tiles rest behind tile list left before now t cause p items rests is harm = caused cause harm
  where
    member : Contains all t
    member = p.among t (subst (λ vs. Contains vs t) (sym items) (member_first t ts))

    counts : Contains tiles tile
    counts = subst (λ is. Contains is tile) (sym (subst (λ r. tiles ≡ map interval_of list ++ r) rests p.done)) (Contains-append_right (map interval_of list) (tile ∷ behind) tile (member_first tile behind))

    caused : (e : FilesCause) → IsLoadDamage size part t e → IsLoadCause size part tiles all e
    caused Disk harmed = tt
    caused Memory harmed = tt
    caused (Damaged d) harmed = record { file = t; tile = tile; there = member; counts = counts; is_of = is; harm = harmed }
    caused (Layout found found_of) harmed = record { file = t; tile = tile; there = member; counts = counts; is_of = is; harm = harmed }

-- ---- what is answered

abbrev pub these_indexes : List Index → List Index
these_indexes cs = cs

pub answers_result : {T : Type 0} (view : T → List Index) (result : Result T FilesCause) (x e : FilesCause) (judged : Result (List Index) Refusal) → result ≡ Err x → x ≡ e → Answers {X = List Index} these_indexes (Err e) judged → Answers view result judged
answers_result {T = T} view result x e judged is same answers = subst (λ r. Answers view r judged) (sym (is ∙ ap Err same)) (as_well e answers)
  where
    as_well : (c : FilesCause) → Answers {X = List Index} these_indexes (Err c) judged → Answers {X = T} view (Err c) judged
    as_well Disk a = tt
    as_well Memory a = tt
    as_well (Damaged (Bytes file place bytes)) a = a
    as_well (Damaged (Files names)) a = a
    as_well (Layout found found_of) a = a

pub caused_result : {T F W : Type 0} (size : F → ℕ) (part : Partition) (tiles : List Interval) (files : List (Taken F W)) (result : Result T FilesCause) (x e : FilesCause) → result ≡ Err x → x ≡ e → IsLoadCause size part tiles files e
    → IfErr result (IsLoadCause size part tiles files)
caused_result size part tiles files result x e is same caused = subst (λ r. IfErr r (IsLoadCause size part tiles files)) (sym (is ∙ ap Err same)) caused

pub rose_before : (before now after : ℕ) → before ≤ now → Rose now after → Rose before after
rose_before before now after low rose = grind (arith, common_steps)

pub counted_result : {T : Type 0} (result : Result T FilesCause) (x e : FilesCause) (times : ℕ) (before now after : Counts) → result ≡ Err x → x ≡ e → before.faults ≤ now.faults → now.faults ≤ after.faults → (e ≡ Disk → Rose now.faults after.faults)
    → IsCountedTimes (IsErrOf result Disk) (IsOk result) times before after
counted_result result x e times before now after is same low risen cause = subst (λ r. IsCountedTimes (IsErrOf r Disk) (IsOk r) times before after) (sym (is ∙ ap Err same)) record {
  faults = omega (arith, low, risen);
  cause = λ failed. let same_cause : e ≡ Disk = cc in rose_before before.faults now.faults after.faults low (cause same_cause);
  done = λ done. absurd (cc);
}
