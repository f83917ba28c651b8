-- What is read of a lawful disk is loaded of the contents that it opens as.
use Rattle.std.proofs.Common.{◌≡◌, ◌∙◌, ℕ, Bool, false, true, List, [], ◌∷◌, map, refl, sym, subst, ap, Option, None, Some}
use Rattle.std.specs.Prelude.{Contains, unwrap_or, All, IsSome}
use Rattle.std.specs.List.{AllZip}
use Rattle.std.proofs.lemmas.List.Elements.{All-nil, All-cons, All-head, All-tail, All-weaker}
use Rattle.tc_plain_model.specs.Writes.{Write}
use Rattle.tc_lsm_model.specs.Contents.{Content, Partition}
use Rattle.tc_lsm_model.specs.Lists as contents
use Rattle.tc_store.specs.declared.file_name.FileName.{FileName}
use Rattle.tc_store.specs.declared.file_name.FileName.TheVariants.{Component}
use Rattle.tc_store.specs.Disk.{Disk, IsAtRest, IsThere, bytes_at, content_of}
use Rattle.tc_store.specs.Images.{Image}
use Rattle.tc_component.specs.Loaded.{IsLoadedOf}
use Rattle.tc_component.specs.Loading.{ComponentState, index_in}
use Rattle.tc_component.specs.Reading.{version_of}
use Rattle.tc_component.specs.Rows.{component_index}
use Rattle.tc_component.specs.Spelling.{Index}
use Rattle.tc_list.specs.Intervals as listed
use Rattle.tc_log.specs.declared.write.Write.{Write as LogWrite}
use Rattle.tc_machine.specs.Components.{LeavesComponent, file_of}
use Rattle.tc_machine.specs.Logs.{kept_write}
use Rattle.tc_recover.specs.declared.taken.Taken.{Taken}
use Rattle.tc_recover.specs.Files.{AreTold, names_in, picture_at, picture_in}
use Rattle.tc_recover.specs.Lawful.{DiskOpens, ReadsAs, found_of, images_of, index_of_file}
use Rattle.tc_recover.specs.Loading.{files_of, interval_of, is_file_of, tile_name}
use Rattle.tc_recover.specs.Opening.{AreAllTaken, Found, IsReadOf, found_in}
use Rattle.tc_recover.proofs.LawfulDisks.{left_bytes, rest_there}
use Rattle.tc_recover.proofs.LoadSteps.{called_so}
use Rattle.tc_recover.proofs.Members.{member_first, member_further}

-- ---- what files tell that were taken

-- a file tells what the disk has under its name
abbrev pub TellsOf : {F W : Type 0} → (F → Option (List ℕ)) → Disk → Taken F W → Type 0
TellsOf content disk t = content t.file ≡ content_of (disk t.name)

same_some : (told there : Option (List ℕ)) → IsSome told → there ≡ Some (unwrap_or there []) → unwrap_or told [] ≡ unwrap_or there [] → told ≡ there
same_some None there some is same = absurd (cc)
same_some (Some bytes) there some is same = ap Some same ∙ sym is

pub files_tell : {F W : Type 0} (content : F → Option (List ℕ)) (disk : Disk) (files : List (Taken F W)) → IsAtRest disk → ((name : FileName) → Contains (names_in files) name → IsThere (disk name)) → AreTold content files → picture_in content files ≡ picture_at disk (names_in files)
    → All (TellsOf content disk) files
files_tell {F = F} {W = W} content disk [] rests there told same = All-nil (TellsOf {F = F} {W = W} content disk)
files_tell {F = F} {W = W} content disk (t ∷ ts) rests there told same =
    let first : ◌≡◌ {A = FileName × List ℕ} (t.name, unwrap_or (content t.file) []) (t.name, unwrap_or (content_of (disk t.name)) []) = cc in
    let bytes : unwrap_or (content t.file) [] ≡ unwrap_or (content_of (disk t.name)) [] = ap (λ (file : FileName × List ℕ). file.1) first in
    let rest : picture_in content ts ≡ picture_at disk (names_in ts) = cc in
    All-cons (TellsOf {F = F} {W = W} content disk) t ts
    (same_some (content t.file) (content_of (disk t.name)) (All-head (λ (u : Taken F W). IsSome (content u.file)) t ts told) (rest_there (disk t.name) (rests t.name) (there t.name (member_first t.name (names_in ts)))) bytes)
    (files_tell content disk ts rests (λ name member. there name (member_further t.name (names_in ts) name member)) (All-tail (λ (u : Taken F W). IsSome (content u.file)) t ts told) rest)

-- ---- components

-- the file of a content
name_of_tile : {F : Type 0} (component : ComponentState F) (version : ℕ) (c : Content) → component.index ≡ component_index version c → tile_name (interval_of component) ≡ file_of c
name_of_tile component version c same = ap (λ (index : Index). Component index.head.from index.head.to) same

is_loaded : {F : Type 0} (content : F → Option (List ℕ)) (component : ComponentState F) (c : Content) (image : Image) → content component.file ≡ image → component.index ≡ component_index (version_of (unwrap_or image [])) c → LeavesComponent c image → IsLoadedOf content component c
is_loaded content component c None tells same leaves = absurd leaves
is_loaded content component c (Some bytes) tells same leaves = record { bytes = bytes; tells = tells; is = leaves; index = same }

loaded_all : {F W : Type 0} (content : F → Option (List ℕ)) (disk : Disk) (files : List (Taken F W)) (list : List (ComponentState F)) (cs : List Content)
    → map (λ (c : ComponentState F). c.file) list ≡ files_of (map interval_of list) files → map index_in list ≡ map (index_of_file (images_of disk)) cs
    → All (TellsOf content disk) files → All (λ c. LeavesComponent c (content_of (disk (file_of c)))) cs → AllZip (IsLoadedOf content) list cs
loaded_all content disk files [] [] from same tell there = tt
loaded_all content disk files [] (c ∷ cs) from same tell there = absurd (cc)
loaded_all content disk files (x ∷ list) [] from same tell there = absurd (cc)
loaded_all content disk [] (x ∷ list) (c ∷ cs) from same tell there = absurd (cc)
loaded_all {F = F} {W = W} content disk (t ∷ files) (x ∷ list) (c ∷ cs) from same tell there =
    let tails = All-tail (TellsOf {F = F} {W = W} content disk) t files tell in
    cases (is_file_of (interval_of x) t) refl (λ behind. loaded_all content disk files (x ∷ list) (c ∷ cs) behind same tails there) (λ behind others. loaded_all content disk files list cs behind others tails (All-tail (λ d. LeavesComponent d (content_of (disk (file_of d)))) c cs there))
  where
    index : x.index ≡ index_of_file (images_of disk) c
    index = cc

    cases : (is : Bool) → is_file_of (interval_of x) t ≡ is → (map (λ (d : ComponentState F). d.file) (x ∷ list) ≡ files_of (map interval_of (x ∷ list)) files → AllZip (IsLoadedOf content) (x ∷ list) (c ∷ cs))
        → (map (λ (d : ComponentState F). d.file) list ≡ files_of (map interval_of list) files → map index_in list ≡ map (index_of_file (images_of disk)) cs → AllZip (IsLoadedOf content) list cs) → AllZip (IsLoadedOf content) (x ∷ list) (c ∷ cs)
    cases false is same_list rest =
        let behind : map (λ (d : ComponentState F). d.file) (x ∷ list) ≡ files_of (map interval_of (x ∷ list)) files = from ∙ rw is refl in
        same_list behind
    cases true is same_list rest =
        let both : map (λ (d : ComponentState F). d.file) (x ∷ list) ≡ t.file ∷ files_of (map interval_of list) files = from ∙ rw is refl in
        let file : x.file ≡ t.file = cc in
        let further : map (λ (d : ComponentState F). d.file) list ≡ files_of (map interval_of list) files = cc in
        let others : map index_in list ≡ map (index_of_file (images_of disk)) cs = cc in
        let name : t.name ≡ file_of c = sym (called_so (interval_of x) t is) ∙ name_of_tile x _ c index in
        let tells : content x.file ≡ content_of (disk (file_of c)) = ap content file ∙ (All-head (TellsOf {F = F} {W = W} content disk) t files tell ∙ ap (λ n. content_of (disk n)) name) in (
          is_loaded content x c (content_of (disk (file_of c))) tells index (All-head (λ d. LeavesComponent d (content_of (disk (file_of d)))) c cs there),
          rest further others,
        )

same_last : {F : Type 0} (images : FileName → Image) (generation : ℕ) (list : List (ComponentState F)) (cs : List Content) → map index_in list ≡ map (index_of_file images) cs → listed.last_after generation list ≡ contents.last_after generation cs
same_last images generation [] [] same = refl
same_last images generation [] (c ∷ cs) same = absurd (cc)
same_last images generation (x ∷ list) [] same = absurd (cc)
same_last images generation (x ∷ list) (c ∷ cs) same =
    let index : x.index ≡ index_of_file images c = cc in
    let others : map index_in list ≡ map (index_of_file images) cs = cc in
    let to : x.index.head.to ≡ c.to = ap (λ (i : Index). i.head.to) index in
    ap (λ g. listed.last_after g list) to ∙ same_last images c.to list cs others

-- ---- all of it

pub reads_as : {F W : Type 0} (content : F → Option (List ℕ)) (name : F → FileName) (part : Partition) (disk : Disk) (past new : List Disk) (cs : List Content) (logs : List (List Write)) (files left : List (Taken F W)) (list : List (ComponentState F)) (writes : List (List LogWrite)) (last : ℕ)
    → IsAtRest disk → DiskOpens part disk cs logs → AreAllTaken content name files (disk ∷ past) new → IsReadOf files list left last → found_in list writes ≡ found_of (images_of disk) cs logs → ReadsAs content cs logs list writes last
reads_as content name part disk past new cs logs files left list writes last rests opens taken read same =
    let indexes : map index_in list ≡ map (index_of_file (images_of disk)) cs = ap (λ (f : Found). f.components) same in
    let there = All-weaker (λ c. LeavesComponent c (bytes_at opens.picture (file_of c))) (λ c. LeavesComponent c (content_of (disk (file_of c)))) (λ c leaves. subst (LeavesComponent c) (left_bytes disk rests opens.picture opens.left (file_of c)) leaves) cs opens.opens.there in
    let tell = files_tell content disk files rests (λ n member. (taken.exact n).0 member) taken.told taken.picture in
    record {
      loaded = loaded_all content disk files list cs read.files_are indexes tell there;
      written = ap (λ (f : Found). f.logs) same;
      last_is = read.last_is ∙ same_last (images_of disk) 0 list cs indexes;
    }
