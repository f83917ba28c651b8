-- Components that were loaded of files that tell their bytes, and the contents that are there.
use Rattle.std.proofs.Common.{◌≡◌, ◌∙◌, ℕ, Bool, true, false, List, [], ◌∷◌, map, Option, None, Some, refl, sym, subst, ap}
use Rattle.std.specs.Prelude.{All, IfSome, IsSome, unwrap_or}
use Rattle.std.specs.List.{AllByRecursion, AllZip}
use Rattle.std.specs.List.Sorted.{IsStrictlySortedBy}
use Rattle.std.specs.declared.cmp.Ordering.TheVariants.{Less}
use Rattle.std.proofs.lemmas.Bool.{and_parts}
use Rattle.std.proofs.lemmas.List.Elements.{All-cons, All-head, All-nil, All-tail, All-weaker}
use Rattle.std.proofs.lemmas.Map.Keys.{sorted_head, sorted_tail}
use Rattle.tc_store.specs.declared.file_name.FileName.{FileName}
use Rattle.tc_store.specs.declared.file_name.FileName.TheVariants.{Component}
use Rattle.tc_store.specs.Disk.{Picture, bytes_at, same_name}
use Rattle.tc_store.specs.Images.{Image}
use Rattle.tc_store.specs.NameOrder.{name_cmp}
use Rattle.tc_store.proofs.NameLemmas.{same_name-is}
use Rattle.tc_component.specs.Loaded.{IsLoadedOf}
use Rattle.tc_component.specs.Loading.{ComponentState, index_in}
use Rattle.tc_component.specs.Reading.{version_of}
use Rattle.tc_component.specs.Rows.{component_index}
use Rattle.tc_component.specs.Spelling.{Index}
use Rattle.tc_list.specs.Intervals as listed
use Rattle.tc_lsm_model.specs.Contents.{Content}
use Rattle.tc_lsm_model.specs.Lists as contents
use Rattle.tc_machine.specs.Components.{LeavesComponent, file_of}
use Rattle.tc_machine.proofs.OneWay.{component_at}
use Rattle.tc_recover.specs.declared.taken.Taken.{Taken}
use Rattle.tc_recover.specs.Files.{AreTold, entry_in, names_in, picture_in}
use Rattle.tc_recover.specs.Lawful.{index_of_file}
use Rattle.tc_recover.specs.Loading.{files_of, interval_of, is_file_of, tile_name}
use Rattle.tc_lawful.proofs.OpenFiles.{at_first}
use Rattle.tc_lawful.proofs.ReadLogs.{first_found, found_with}

-- ---- what the files tell

-- a file tells what the picture has under its name
abbrev TellsAt : {F W : Type 0} → (F → Option (List ℕ)) → Picture → Taken F W → Type 0
TellsAt content picture t = content t.file ≡ bytes_at picture t.name

told_is : (told : Option (List ℕ)) → IsSome told → told ≡ Some (unwrap_or told [])
told_is None some = absurd (cc)
told_is (Some bytes) some = refl

names_told : {F W : Type 0} (content : F → Option (List ℕ)) (files : List (Taken F W)) → map (λ (file : FileName × List ℕ). file.0) (picture_in content files) ≡ names_in files
names_told content [] = refl
names_told content (t ∷ ts) = ap (λ names. t.name ∷ names) (names_told content ts)

-- with one more file before them they tell the same
tells_behind : {F W : Type 0} (content : F → Option (List ℕ)) (file : FileName × List ℕ) (picture : Picture) (ts : List (Taken F W)) → AllByRecursion (λ later. name_cmp file.0 later ≡ Less) (map (λ (f : FileName × List ℕ). f.0) picture)
    → All (λ (t : Taken F W). IsSome (content t.file)) ts → All (TellsAt content picture) ts → All (TellsAt content (file ∷ picture)) ts
tells_behind {F = F} {W = W} content file picture [] before told tell = All-nil (TellsAt {F = F} {W = W} content (file ∷ picture))
tells_behind {F = F} {W = W} content file picture (t ∷ ts) before told tell =
    let some = told_is (content t.file) (All-head (λ (u : Taken F W). IsSome (content u.file)) t ts told) in
    let here = All-head (TellsAt {F = F} {W = W} content picture) t ts tell in
    All-cons (TellsAt {F = F} {W = W} content (file ∷ picture)) t ts (some ∙ sym (found_with file picture t.name (unwrap_or (content t.file) []) before (sym here ∙ some)))
    (tells_behind content file picture ts before (All-tail (λ (u : Taken F W). IsSome (content u.file)) t ts told) (All-tail (TellsAt {F = F} {W = W} content picture) t ts tell))

files_told : {F W : Type 0} (content : F → Option (List ℕ)) (files : List (Taken F W)) → IsStrictlySortedBy name_cmp (names_in files) → AreTold content files → All (TellsAt content (picture_in content files)) files
files_told {F = F} {W = W} content [] sorted told = All-nil (TellsAt {F = F} {W = W} content [])
files_told {F = F} {W = W} content (t ∷ ts) sorted told =
    let file : FileName × List ℕ = entry_in content t in
    let picture : Picture = picture_in content ts in
    let some = told_is (content t.file) (All-head (λ (u : Taken F W). IsSome (content u.file)) t ts told) in
    let tails = All-tail (λ (u : Taken F W). IsSome (content u.file)) t ts told in
    let before = subst (AllByRecursion (λ later. name_cmp t.name later ≡ Less)) (sym (names_told content ts)) (sorted_head name_cmp t.name (names_in ts) sorted) in
    All-cons (TellsAt {F = F} {W = W} content (file ∷ picture)) t ts (some ∙ sym (first_found file picture t.name refl)) (tells_behind content file picture ts before tails (files_told content ts (sorted_tail name_cmp t.name (names_in ts) sorted) tails))

-- ---- components

-- the file of a component tells what the picture has under the component's name
abbrev pub IsOwn : {F : Type 0} → (F → Option (List ℕ)) → Picture → ComponentState F → Type 0
IsOwn content picture x = content x.file ≡ bytes_at picture (tile_name (interval_of x))

-- what holds of a component by the file that is its own holds of all
abbrev pub HoldsBy : {F W : Type 0} → (ComponentState F → Type 0) → Taken F W → Type 0
HoldsBy {F = F} P t = (x : ComponentState F) → x.file ≡ t.file → is_file_of (interval_of x) t ≡ true → P x

pub each_by_file : {F W : Type 0} (P : ComponentState F → Type 0) (files : List (Taken F W)) (list : List (ComponentState F)) → map (λ (x : ComponentState F). x.file) list ≡ files_of (map interval_of list) files → All (HoldsBy P) files → All P list
each_by_file {F = F} {W = W} P files [] from holds = All-nil P
each_by_file {F = F} {W = W} P [] (x ∷ list) from holds = absurd (cc)
each_by_file {F = F} {W = W} P (t ∷ files) (x ∷ list) from holds =
    let tails = All-tail (HoldsBy {F = F} {W = W} P) t files holds in
    cases (is_file_of (interval_of x) t) refl (λ behind. each_by_file P files (x ∷ list) behind tails) (λ behind. each_by_file P files list behind tails)
  where
    cases : (is : Bool) → is_file_of (interval_of x) t ≡ is → (map (λ (y : ComponentState F). y.file) (x ∷ list) ≡ files_of (map interval_of (x ∷ list)) files → All P (x ∷ list))
        → (map (λ (y : ComponentState F). y.file) list ≡ files_of (map interval_of list) files → All P list) → All P (x ∷ list)
    cases false is same rest =
        let behind : map (λ (y : ComponentState F). y.file) (x ∷ list) ≡ files_of (map interval_of (x ∷ list)) files = from ∙ rw is refl in
        same behind
    cases true is same rest =
        let both : map (λ (y : ComponentState F). y.file) (x ∷ list) ≡ t.file ∷ files_of (map interval_of list) files = from ∙ rw is refl in
        let file : x.file ≡ t.file = cc in
        let further : map (λ (y : ComponentState F). y.file) list ≡ files_of (map interval_of list) files = cc in
        All-cons P x list (All-head (HoldsBy {F = F} {W = W} P) t files holds x file is) (rest further)

told_own : {F W : Type 0} (content : F → Option (List ℕ)) (picture : Picture) (t : Taken F W) → TellsAt content picture t → HoldsBy (IsOwn content picture) t
told_own content picture t tells x file is =
    let called : tile_name (interval_of x) ≡ t.name = same_name-is (tile_name (interval_of x)) t.name (and_parts t.open (same_name (tile_name (interval_of x)) t.name) is).1 in
    ap content file ∙ (tells ∙ ap (bytes_at picture) (sym called))

-- ---- components and contents

-- the file of a component is that of the content that it is loaded of
own_bytes : {F : Type 0} (content : F → Option (List ℕ)) (picture : Picture) (x : ComponentState F) (c : Content) → IsOwn content picture x → (l : IsLoadedOf content x c) → bytes_at picture (file_of c) ≡ Some l.bytes
own_bytes content picture x c own l = ap (λ (i : Index). bytes_at picture (Component i.head.from i.head.to)) (sym l.index) ∙ (sym own ∙ l.tells)

-- the contents that components are loaded of are there
contents_there : {F : Type 0} (content : F → Option (List ℕ)) (picture : Picture) (list : List (ComponentState F)) (cs : List Content) → All (IsOwn content picture) list → AllZip (IsLoadedOf content) list cs → All (λ c. LeavesComponent c (bytes_at picture (file_of c))) cs
contents_there {F = F} content picture [] [] own loaded = All-nil (λ c. LeavesComponent c (bytes_at picture (file_of c)))
contents_there {F = F} content picture [] (c ∷ cs) own loaded = absurd loaded
contents_there {F = F} content picture (x ∷ list) [] own loaded = absurd loaded
contents_there {F = F} content picture (x ∷ list) (c ∷ cs) own loaded =
    let here = own_bytes content picture x c (All-head (IsOwn {F = F} content picture) x list own) loaded.0 in
    All-cons (λ d. LeavesComponent d (bytes_at picture (file_of d))) c cs (subst (LeavesComponent c) (sym here) loaded.0.is) (contents_there content picture list cs (All-tail (IsOwn {F = F} content picture) x list own) loaded.1)

-- and of contents that are there the components are loaded
contents_loaded : {F : Type 0} (content : F → Option (List ℕ)) (picture : Picture) (list : List (ComponentState F)) (cs : List Content) → All (IsOwn content picture) list → map index_in list ≡ map (index_of_file (bytes_at picture)) cs → All (λ c. LeavesComponent c (bytes_at picture (file_of c))) cs
    → AllZip (IsLoadedOf content) list cs
contents_loaded {F = F} content picture [] [] own same there = tt
contents_loaded {F = F} content picture [] (c ∷ cs) own same there = absurd (cc)
contents_loaded {F = F} content picture (x ∷ list) [] own same there = absurd (cc)
contents_loaded {F = F} content picture (x ∷ list) (c ∷ cs) own same there =
    let index : x.index ≡ index_of_file (bytes_at picture) c = cc in
    let others : map index_in list ≡ map (index_of_file (bytes_at picture)) cs = cc in
    let told : content x.file ≡ bytes_at picture (file_of c) = All-head (IsOwn {F = F} content picture) x list own ∙ ap (λ (i : Index). bytes_at picture (Component i.head.from i.head.to)) index in
    let is = component_at c (bytes_at picture (file_of c)) (All-head (λ d. LeavesComponent d (bytes_at picture (file_of d))) c cs there) in (
      record { bytes = is.0; tells = told ∙ is.1; is = is.2; index = index ∙ ap (λ (image : Image). component_index (version_of (unwrap_or image [])) c) is.1 },
      contents_loaded content picture list cs (All-tail (IsOwn {F = F} content picture) x list own) others (All-tail (λ d. LeavesComponent d (bytes_at picture (file_of d))) c cs there),
    )

pub indexes_are : {F : Type 0} (content : F → Option (List ℕ)) (picture : Picture) (list : List (ComponentState F)) (cs : List Content) → All (IsOwn content picture) list → AllZip (IsLoadedOf content) list cs → map index_in list ≡ map (index_of_file (bytes_at picture)) cs
indexes_are content picture [] [] own loaded = refl
indexes_are content picture [] (c ∷ cs) own loaded = absurd loaded
indexes_are content picture (x ∷ list) [] own loaded = absurd loaded
indexes_are {F = F} content picture (x ∷ list) (c ∷ cs) own loaded =
    let here = own_bytes content picture x c (All-head (IsOwn {F = F} content picture) x list own) loaded.0 in
    ap (λ i. i ∷ map index_in list) (loaded.0.index ∙ ap (λ (image : Image). component_index (version_of (unwrap_or image [])) c) (sym here))
    ∙ ap (λ is. index_of_file (bytes_at picture) c ∷ is) (indexes_are content picture list cs (All-tail (IsOwn {F = F} content picture) x list own) loaded.1)

-- they end with the generation of these
pub ends_as : {F : Type 0} (content : F → Option (List ℕ)) (generation : ℕ) (list : List (ComponentState F)) (cs : List Content) → AllZip (IsLoadedOf content) list cs → listed.last_after generation list ≡ contents.last_after generation cs
ends_as content generation [] [] loaded = refl
ends_as content generation [] (c ∷ cs) loaded = absurd loaded
ends_as content generation (x ∷ list) [] loaded = absurd loaded
ends_as content generation (x ∷ list) (c ∷ cs) loaded = ap (λ (i : Index). listed.last_after i.head.to list) loaded.0.index ∙ ends_as content c.to list cs loaded.1

module _ {F W : Type 0} (content : F → Option (List ℕ)) (files : List (Taken F W)) (list : List (ComponentState F)) (sorted : IsStrictlySortedBy name_cmp (names_in files)) (told : AreTold content files)
    (from : map (λ (x : ComponentState F). x.file) list ≡ files_of (map interval_of list) files) where
  pub own : All (IsOwn content (picture_in content files)) list
  own =
      let p = picture_in content files in
      each_by_file (IsOwn content p) files list from (All-weaker (TellsAt {F = F} {W = W} content p) (HoldsBy {F = F} {W = W} (IsOwn content p)) (told_own content p) files (files_told content files sorted told))

  pub loaded_there : (cs : List Content) → AllZip (IsLoadedOf content) list cs → All (λ c. LeavesComponent c (bytes_at (picture_in content files) (file_of c))) cs
  loaded_there cs = contents_there content (picture_in content files) list cs own

  pub there_loaded : (cs : List Content) → map index_in list ≡ map (index_of_file (bytes_at (picture_in content files))) cs → All (λ c. LeavesComponent c (bytes_at (picture_in content files) (file_of c))) cs → AllZip (IsLoadedOf content) list cs
  there_loaded cs = contents_loaded content (picture_in content files) list cs own

-- ---- bytes

told_bytes : (told : Option (List ℕ)) (bytes : List ℕ) (P : List ℕ → Type 0) → IsSome told → unwrap_or told [] ≡ bytes → IfSome told P → P bytes
told_bytes None bytes P some is holds = absurd (cc)
told_bytes (Some there) bytes P some is holds = subst P is holds

-- what holds of the bytes that each file tells holds of those that the picture has
pub each_told : {F W : Type 0} (content : F → Option (List ℕ)) (P : List ℕ → Type 0) (files : List (Taken F W)) → AreTold content files → All (λ (t : Taken F W). IfSome (content t.file) P) files
    → (name : FileName) (bytes : List ℕ) → bytes_at (picture_in content files) name ≡ Some bytes → P bytes
each_told content P [] told holds name bytes is = absurd (cc)
each_told {F = F} {W = W} content P (t ∷ ts) told holds name bytes is =
    at_first (entry_in content t) (picture_in content ts) name bytes (P bytes)
    (λ called held. told_bytes (content t.file) bytes P (All-head (λ (u : Taken F W). IsSome (content u.file)) t ts told) held (All-head (λ (u : Taken F W). IfSome (content u.file) P) t ts holds))
    (λ behind. each_told content P ts (All-tail (λ (u : Taken F W). IsSome (content u.file)) t ts told) (All-tail (λ (u : Taken F W). IfSome (content u.file) P) t ts holds) name bytes behind) is
