-- Of a disk at rest whose files are lawful nothing is refused, and what it opens as is read of it.
use Rattle.std.proofs.Common.{◌≡◌, ◌∙◌, ◌⊎◌, ◌+◌, ℕ, Bool, false, true, List, [], ◌∷◌, map, refl, sym, subst, ap, inl, inr, Option, None, Some}
use Rattle.std.specs.Prelude.{◌↔◌, Contains, unwrap_or, All, IsSome, IfOk, Result, Ok, Err}
use Rattle.std.specs.List.Sorted.{IsStrictlySortedBy}
use Rattle.std.proofs.lemmas.Bool.{cases_Bool}
use Rattle.std.proofs.lemmas.List.Elements.{All-weaker}
use Rattle.tc_plain_model.specs.Writes.{Write}
use Rattle.tc_lsm_model.specs.Contents.{Content, Partition}
use Rattle.tc_lsm_model.specs.Lists.{last_of}
use Rattle.tc_store.specs.declared.file_name.FileName.{FileName}
use Rattle.tc_store.specs.declared.file_name.FileName.TheVariants.{Component, Log}
use Rattle.tc_store.specs.declared.damage.Damage.TheVariants.{Bytes, Files}
use Rattle.tc_store.specs.Disk.{Disk, Entry, IsAtRest, IsPictureOf, IsSettledHome, IsThere, MayLeaveAt, Picture, bytes_at, content_of, home, none, out, same_name, still}
use Rattle.tc_store.specs.DiskFile.{DiskFile, settled_file}
use Rattle.tc_store.specs.Gate.{is_open_file}
use Rattle.tc_store.specs.Images.{Image, MayLeave}
use Rattle.tc_store.specs.Judging.{damage}
use Rattle.tc_store.specs.NameOrder.{name_cmp}
use Rattle.tc_store.proofs.GateLemmas.{settled_leaves}
use Rattle.tc_store.proofs.NameLemmas.{same_name-is, same_name-refl}
use Rattle.tc_component.specs.Reading.{version_of}
use Rattle.tc_component.specs.Rows.{component_index}
use Rattle.tc_component.specs.Spelling.{Index}
use Rattle.tc_machine.specs.Components.{LeavesComponent, file_of}
use Rattle.tc_machine.specs.Logs.{IsLog, kept_write}
use Rattle.tc_machine.specs.Pictures.{HasLogs, Opens}
use Rattle.tc_machine.specs.Steps.{nothing_held}
use Rattle.tc_recover.specs.declared.cause.FilesCause.{FilesCause}
use Rattle.tc_recover.specs.declared.cause.FilesCause.TheVariants.{Disk as DiskFault, Damaged, Layout, Memory}
use Rattle.tc_recover.specs.Causes.{IsNoRefusal}
use Rattle.tc_recover.specs.Files.{picture_at}
use Rattle.tc_recover.specs.Lawful.{DiskOpens, found_of, images_of, index_of_file}
use Rattle.tc_recover.specs.Opening.{AnswersBy, DiskJudged, Found, OpeningJudged}
use Rattle.tc_recover.specs.Refusals.{Refusal, breaks, clashes, strays}
use Rattle.tc_recover.proofs.Members.{member_cases, member_first, member_further, no_member}

-- ---- what a stop leaves of a disk at rest

-- it leaves each file as it is
pub rest_image : (name : FileName) (e : Entry) (image : Image) → (e ≡ none None) ⊎ IsSettledHome e → MayLeaveAt (nothing_held name) e image → image ≡ content_of e
rest_image name (none before) None rests left = refl
rest_image name (none before) (Some bytes) (inl gone) left = absurd (cc)
rest_image name (none before) (Some bytes) (inr settled) left = absurd settled
rest_image name (home f) image (inl gone) left = absurd (cc)
rest_image name (home f) image (inr settled) left = settled_leaves f.content (λ x. x ≡ Some f.content) refl image (subst (λ (g : DiskFile). MayLeave g image) settled left)
rest_image name (still bytes) image (inl gone) left = absurd (cc)
rest_image name (still bytes) image (inr settled) left = absurd settled
rest_image name out image (inl gone) left = absurd (cc)
rest_image name out image (inr settled) left = absurd settled

-- a file that is there has its bytes, and there are none of another one
pub rest_there : (e : Entry) → (e ≡ none None) ⊎ IsSettledHome e → IsThere e → content_of e ≡ Some (unwrap_or (content_of e) [])
rest_there (none before) rests there = absurd there
rest_there (home f) rests there = refl
rest_there (still bytes) rests there = refl
rest_there out (inl gone) there = absurd (cc)
rest_there out (inr settled) there = absurd settled

rest_gone : (e : Entry) → (e ≡ none None) ⊎ IsSettledHome e → (IsThere e → ⊥) → content_of e ≡ None
rest_gone (none before) rests gone = refl
rest_gone (home f) rests gone = absurd (gone tt)
rest_gone (still bytes) rests gone = absurd (gone tt)
rest_gone out rests gone = absurd (gone tt)

-- ---- the picture of all its files

-- what stands under a name among files of these names
listed_or_not : (disk : Disk) (names : List FileName) (name : FileName) → (Contains names name × (bytes_at (picture_at disk names) name ≡ Some (unwrap_or (content_of (disk name)) []))) ⊎ ((Contains names name → ⊥) × (bytes_at (picture_at disk names) name ≡ None))
listed_or_not disk [] name = inr (no_member name, refl)
listed_or_not disk (n ∷ ns) name = elim (cases_Bool (same_name n name)) [
  | inl same ↦
      let is = same_name-is n name same in
      inl (subst (λ m. Contains (n ∷ ns) m) is (member_first n ns), rw same (ap (λ m. Some (unwrap_or (content_of (disk m)) [])) is))
  | inr other ↦ elim (listed_or_not disk ns name) [
    | inl here ↦ inl (member_further n ns name here.0, rw other here.1)
    | inr gone ↦ inr (apart other gone.0, rw other gone.1)
  ]
]
  where
    apart : same_name n name ≡ false → (Contains ns name → ⊥) → Contains (n ∷ ns) name → ⊥
    apart other gone member = elim (member_cases n ns name member) [
      | inl same ↦ let is : same_name n name ≡ true = subst (λ m. same_name n m ≡ true) same (same_name-refl n) in absurd (cc)
      | inr further ↦ gone further
    ]

module _ (disk : Disk) (rests : IsAtRest disk) where
  pub all_bytes : (names : List FileName) → ((name : FileName) → Contains names name ↔ IsThere (disk name)) → (name : FileName) → bytes_at (picture_at disk names) name ≡ content_of (disk name)
  all_bytes names exact name = elim (listed_or_not disk names name) [
    | inl here ↦ here.1 ∙ sym (rest_there (disk name) (rests name) ((exact name).0 here.0))
    | inr gone ↦ gone.1 ∙ sym (rest_gone (disk name) (rests name) (λ there. gone.0 ((exact name).1 there)))
  ]

  pub left_bytes : (picture : Picture) → IsPictureOf nothing_held disk picture → (name : FileName) → bytes_at picture name ≡ content_of (disk name)
  left_bytes picture left name = rest_image name (disk name) (bytes_at picture name) (rests name) (left.each name)

-- ---- the same files open the same way

logs_same : (part : Partition) (p q : Picture) → ((name : FileName) → bytes_at p name ≡ bytes_at q name) → (generation : ℕ) (logs : List (List Write)) → HasLogs part p generation logs → HasLogs part q generation logs
logs_same part p q same generation [] has = λ g from bytes is opened. has g from bytes (same (Log g) ∙ is) opened
logs_same part p q same generation (ws ∷ logs) has = ((has.0.0, sym (same (Log generation)) ∙ has.0.1, has.0.2), logs_same part p q same (generation + 1) logs has.1)

pub opens_same : (part : Partition) (p q : Picture) (cs : List Content) (logs : List (List Write)) → ((name : FileName) → bytes_at p name ≡ bytes_at q name) → Opens part p cs logs → Opens part q cs logs
opens_same part p q cs logs same o = record {
  list = o.list;
  there = All-weaker (λ c. LeavesComponent c (bytes_at p (file_of c))) (λ c. LeavesComponent c (bytes_at q (file_of c))) (λ c there. subst (LeavesComponent c) (same (file_of c)) there) cs o.there;
  components = λ from to bytes is opened. o.components from to bytes (same (Component from to) ∙ is) opened;
  heads = λ generation bytes is opened. o.heads generation bytes (same (Log generation) ∙ is) opened;
  logs_there = logs_same part p q same (last_of cs + 1) logs o.logs_there;
  writes = o.writes;
  room = o.room;
  few = o.few;
}

-- ---- what is answered

-- what is read of a lawful picture, and that one thing is judged of each
abbrev pub IsRead : Type 0
IsRead = (part : Partition) (picture : Picture) (cs : List Content) (logs : List (List Write)) → IsStrictlySortedBy name_cmp (map (λ (file : FileName × List ℕ). file.0) picture) → Opens part picture cs logs → OpeningJudged part picture (Ok (found_of (bytes_at picture) cs logs))

abbrev pub IsOneWay : Type 0
IsOneWay = (part : Partition) (picture : Picture) (a b : Result Found Refusal) → OpeningJudged part picture a → OpeningJudged part picture b → a ≡ b

-- the same files have the same versions
pub same_indexes : (p q : FileName → Image) (cs : List Content) → ((name : FileName) → p name ≡ q name) → map (index_of_file p) cs ≡ map (index_of_file q) cs
same_indexes p q [] same = refl
same_indexes p q (c ∷ cs) same = ap (λ (image : Image). component_index (version_of (unwrap_or image [])) c ∷ map (index_of_file p) cs) (same (file_of c)) ∙ ap (λ (is : List Index). index_of_file q c ∷ is) (same_indexes p q cs same)

names_again : (disk : Disk) (names : List FileName) → map (λ (file : FileName × List ℕ). file.0) (picture_at disk names) ≡ names
names_again disk [] = refl
names_again disk (n ∷ ns) = ap (λ ms. n ∷ ms) (names_again disk ns)

-- of a lawful disk what it opens as is read, and nothing else
pub disk_read : IsRead → IsOneWay → (part : Partition) (disk : Disk) (cs : List Content) (logs : List (List Write)) (answer : Result Found Refusal) → IsAtRest disk → DiskOpens part disk cs logs → DiskJudged part disk answer → answer ≡ Ok (found_of (images_of disk) cs logs)
disk_read reads one_way part disk cs logs answer rests opens judged =
    let names = judged.0 in
    let picture = picture_at disk names in
    let same : (name : FileName) → bytes_at opens.picture name ≡ bytes_at picture name = λ name. left_bytes disk rests opens.picture opens.left name ∙ sym (all_bytes disk rests names judged.1 name) in
    let opened = opens_same part opens.picture picture cs logs same opens.opens in
    let sorted = subst (IsStrictlySortedBy name_cmp) (sym (names_again disk names)) judged.2 in
    one_way part picture answer (Ok (found_of (bytes_at picture) cs logs)) judged.3 (reads part picture cs logs sorted opened)
    ∙ ap (λ (is : List Index). let f : Result Found Refusal = Ok (record { components = is; logs = map (map kept_write) logs }) in f) (same_indexes (bytes_at picture) (images_of disk) cs (all_bytes disk rests names judged.1))

-- where one thing alone may be answered, nothing is refused, and what is answered is that
pub only_passes : {X Y : Type 0} (view : X → Y) (result : Result X FilesCause) (P : Result Y Refusal → Type 0) (y : Y) → ((answer : Result Y Refusal) → P answer → answer ≡ Ok y) → AnswersBy view result P → IsNoRefusal result
only_passes view (Ok x) P y only is = tt
only_passes view (Err DiskFault) P y only is = tt
only_passes view (Err Memory) P y only is = tt
only_passes view (Err (Damaged (Bytes file place bytes))) P y only is = let no = only (Err (breaks file (damage place bytes))) is in absurd (cc)
only_passes view (Err (Damaged (Files names))) P y only is = let no = only (Err (clashes names)) is in absurd (cc)
only_passes view (Err (Layout found found_of)) P y only is = let no = only (Err (strays found found_of)) is in absurd (cc)
