-- A disk at rest whose files were read and audited, as the picture of all its files.
use Rattle.std.proofs.Common.{◌≡◌, ◌≢◌, ◌∙◌, ◌⊎◌, ℕ, List, [], ◌∷◌, map, get_or, Option, None, Some, sym, subst, ap, inl, inr, arith}
use Rattle.std.specs.Prelude.{◌↔◌, All, AllPairs, Contains, unwrap_or}
use Rattle.std.specs.List.Sorted.{IsStrictlySortedBy}
use Rattle.std.specs.declared.cmp.Ordering.TheVariants.{Less}
use mathlib.Core.List.{map-id, map-map}
use Rattle.std.proofs.lemmas.List.{get_or-map, length-map}
use Rattle.std.proofs.lemmas.List.Elements.{All-weaker}
use Rattle.std.proofs.lemmas.Map.Keys.{Less-from_sorted}
use Rattle.tc_store.specs.declared.file_name.FileName.{FileName}
use Rattle.tc_store.specs.declared.file_name.FileName.TheVariants.{Component, Log}
use Rattle.tc_store.specs.Disk.{Disk, Entry, IsAtRest, IsPictureOf, IsSettledHome, IsThere, MayLeaveAt, Picture, bytes_at, content_of, home, none, out, still}
use Rattle.tc_store.specs.DiskFile.{DiskFile}
use Rattle.tc_store.specs.Images.{MayLeave}
use Rattle.tc_store.specs.NameOrder.{name_cmp}
use Rattle.tc_component.specs.Loading.{ComponentState}
use Rattle.tc_component.specs.Spelling.{Index}
use Rattle.tc_log.specs.declared.write.Write.{Write as LogWrite}
use Rattle.tc_plain_model.specs.Writes.{Write}
use Rattle.tc_lsm_model.specs.Contents.{Content, Partition}
use Rattle.tc_lsm_model.specs.Lists.{last_of}
use Rattle.tc_machine.specs.Components.{LeavesComponent, file_of}
use Rattle.tc_machine.specs.Pictures.{Opens}
use Rattle.tc_machine.specs.Steps.{nothing_held}
use Rattle.tc_machine.proofs.DeviceSteps.{settled_image}
use Rattle.tc_recover.specs.declared.taken.Taken.{Taken}
use Rattle.tc_recover.specs.Files.{picture_at, picture_in}
use Rattle.tc_recover.specs.Lawful.{DiskOpens, found_of, index_of_file}
use Rattle.tc_recover.specs.Loading.{interval_of, tile_name}
use Rattle.tc_recover.specs.Opening.{AreAllTaken, Found, IsReadOf, found_in}
use Rattle.tc_recover.proofs.LawfulDisks.{all_bytes, left_bytes, opens_same, same_indexes}
use Rattle.tc_lawful.specs.Audited.{IsAudited}
use Rattle.tc_lawful.specs.Files.{IsReadable, IsWhole}
use Rattle.tc_lawful.proofs.LoadedFiles.{IsOwn, ends_as, indexes_are, loaded_there, own, there_loaded}
use Rattle.tc_lawful.proofs.OpenFiles.{not_before_itself}

-- ---- the picture of a disk at rest

-- the names of the picture ascend with those of the files
pub disk_ascends : (disk : Disk) (names : List FileName) → IsStrictlySortedBy name_cmp names → IsStrictlySortedBy name_cmp (map (λ (file : FileName × List ℕ). file.0) (picture_at disk names))
disk_ascends disk names sorted =
    subst (IsStrictlySortedBy name_cmp) (sym (map-map (λ (file : FileName × List ℕ). file.0) (λ (name : FileName). let file : FileName × List ℕ = (name, unwrap_or (content_of (disk name)) []) in file) names ∙ map-id names)) sorted

names_apart : (picture : Picture) → IsStrictlySortedBy name_cmp (map (λ (file : FileName × List ℕ). file.0) picture) → AllPairs (λ a b. a.0 ≢ b.0) picture
names_apart picture sorted i j d before within = λ same.
    let names : List FileName = map (λ (file : FileName × List ℕ). file.0) picture in
    let one : FileName × List ℕ = get_or picture i d in
    let other : FileName × List ℕ = get_or picture j d in
    let less : name_cmp (get_or names i d.0) (get_or names j d.0) ≡ Less = Less-from_sorted name_cmp names i j d.0 sorted before (omega (arith, within, length-map picture (λ (file : FileName × List ℕ). file.0))) in
    let first : get_or names i d.0 ≡ one.0 = get_or-map (λ (file : FileName × List ℕ). file.0) picture i d d.0 (omega (arith, before, within)) in
    let second : get_or names j d.0 ≡ other.0 = get_or-map (λ (file : FileName × List ℕ). file.0) picture j d d.0 within in
    let apart : name_cmp one.0 other.0 ≡ Less = sym (ap (λ n. name_cmp n (get_or names j d.0)) first ∙ ap (λ n. name_cmp one.0 n) second) ∙ less in
    not_before_itself other.0 (subst (λ n. name_cmp n other.0 ≡ Less) same apart)

-- a stop may leave each file as it is
left_as : (name : FileName) (e : Entry) → (e ≡ none None) ⊎ IsSettledHome e → MayLeaveAt (nothing_held name) e (content_of e)
left_as name (none before) rests = tt
left_as name (home f) (inl gone) = absurd (cc)
left_as name (home f) (inr settled) = subst (λ (g : DiskFile). MayLeave g (Some f.content)) (sym settled) (settled_image f.content)
left_as name (still bytes) (inl gone) = absurd (cc)
left_as name (still bytes) (inr settled) = absurd settled
left_as name out (inl gone) = absurd (cc)
left_as name out (inr settled) = absurd settled

pub disk_picture : (disk : Disk) (names : List FileName) → IsAtRest disk → ((name : FileName) → Contains names name ↔ IsThere (disk name)) → IsStrictlySortedBy name_cmp names → IsPictureOf nothing_held disk (picture_at disk names)
disk_picture disk names rests exact sorted = record {
  once = names_apart (picture_at disk names) (disk_ascends disk names sorted);
  each = λ name. subst (MayLeaveAt (nothing_held name) (disk name)) (sym (all_bytes disk rests names exact name)) (left_as name (disk name) (rests name));
}

-- what was taken tells what the picture has
pub told_same : {F W : Type 0} (content : F → Option (List ℕ)) (name : F → FileName) (files : List (Taken F W)) (disk : Disk) (past new : List Disk) (names : List FileName) → IsAtRest disk → AreAllTaken content name files (disk ∷ past) new
    → ((n : FileName) → Contains names n ↔ IsThere (disk n)) → (n : FileName) → bytes_at (picture_in content files) n ≡ bytes_at (picture_at disk names) n
told_same content name files disk past new names rests taken exact n =
    ap (λ (picture : Picture). bytes_at picture n) taken.picture ∙ (all_bytes disk rests (map (λ t. t.name) files) taken.exact n ∙ sym (all_bytes disk rests names exact n))

-- what a component's own file tells is what the disk has under the component's name
pub disk_own : {F W : Type 0} (content : F → Option (List ℕ)) (name : F → FileName) (files : List (Taken F W)) (disk : Disk) (past new : List Disk) (list : List (ComponentState F)) → IsAtRest disk → AreAllTaken content name files (disk ∷ past) new
    → All (IsOwn content (picture_in content files)) list → All (λ x. content x.file ≡ content_of (disk (tile_name (interval_of x)))) list
disk_own {F = F} content name files disk past new list rests taken own =
    let held : (n : FileName) → bytes_at (picture_in content files) n ≡ content_of (disk n) = λ n. ap (λ (picture : Picture). bytes_at picture n) taken.picture ∙ all_bytes disk rests (map (λ t. t.name) files) taken.exact n in
    All-weaker (IsOwn {F = F} content (picture_in content files)) (λ (x : ComponentState F). content x.file ≡ content_of (disk (tile_name (interval_of x)))) (λ x is. is ∙ held (tile_name (interval_of x))) list own

-- ---- pictures with the same files

module _ (p q : Picture) (same : (name : FileName) → bytes_at p name ≡ bytes_at q name) where
  pub readable_same : (last : ℕ) → IsReadable p last → IsReadable q last
  readable_same last readable = record {
    heads = λ from to bytes is opened. readable.heads from to bytes (same (Component from to) ∙ is) opened;
    logs = λ generation above bytes is opened. readable.logs generation above bytes (same (Log generation) ∙ is) opened;
  }

  pub there_same : (cs : List Content) → All (λ c. LeavesComponent c (bytes_at p (file_of c))) cs → All (λ c. LeavesComponent c (bytes_at q (file_of c))) cs
  there_same = All-weaker (λ c. LeavesComponent c (bytes_at p (file_of c))) (λ c. LeavesComponent c (bytes_at q (file_of c))) (λ c there. subst (LeavesComponent c) (same (file_of c)) there)

-- ---- all of it

module _ {F W : Type 0} (content : F → Option (List ℕ)) (name : F → FileName) (part : Partition) (disk : Disk) (past new : List Disk) (files left : List (Taken F W)) (list : List (ComponentState F)) (writes : List (List LogWrite)) (last : ℕ) (cs : List Content)
    (logs : List (List Write)) (rests : IsAtRest disk) (taken : AreAllTaken content name files (disk ∷ past) new) (read : IsReadOf files list left last) (names : List FileName) (exact : (n : FileName) → Contains names n ↔ IsThere (disk n))
    (sorted : IsStrictlySortedBy name_cmp names) where
  abbrev pub p : Picture
  p = picture_in content files

  abbrev pub q : Picture
  q = picture_at disk names

  same : (n : FileName) → bytes_at p n ≡ bytes_at q n
  same = told_same content name files disk past new names rests taken exact

  -- what was audited is whole
  pub audited_whole : IsAudited content part list writes cs logs → IsWhole part q (found_in list writes) cs logs
  audited_whole audited = record {
    found_is = ap (λ (is : List Index). let f : Found = record { components = is; logs = writes } in f)
        (indexes_are content p list cs (own content files list taken.ascend taken.told read.files_are) audited.loaded ∙ same_indexes (bytes_at p) (bytes_at q) cs same)
        ∙ ap (λ (ls : List (List LogWrite)). let f : Found = record { components = map (index_of_file (bytes_at q)) cs; logs = ls } in f) audited.kept;
    list = audited.listed;
    there = there_same p q same cs (loaded_there content files list taken.ascend taken.told read.files_are cs audited.loaded);
    writes = audited.storable;
    room = audited.room;
    few = audited.few;
  }

  pub audited_readable : IsAudited content part list writes cs logs → IsReadable p last → IsReadable q (last_of cs)
  audited_readable audited readable = readable_same p q same (last_of cs) (subst (IsReadable p) (read.last_is ∙ ends_as content 0 list cs audited.loaded) readable)

  pub disk_opens : Opens part q cs logs → DiskOpens part disk cs logs
  disk_opens opens = record { picture = q; left = disk_picture disk names rests exact sorted; opens = opens }

  pub opens_at : DiskOpens part disk cs logs → Opens part q cs logs
  opens_at opens = opens_same part opens.picture q cs logs (λ n. left_bytes disk rests opens.picture opens.left n ∙ sym (all_bytes disk rests names exact n)) opens.opens

  -- what opens and was read is right
  pub opened_audited : Opens part q cs logs → found_in list writes ≡ found_of (bytes_at q) cs logs → IsAudited content part list writes cs logs
  opened_audited opens found = record {
    loaded = there_loaded content files list taken.ascend taken.told read.files_are cs (ap (λ (f : Found). f.components) found ∙ sym (same_indexes (bytes_at p) (bytes_at q) cs same)) (there_same q p (λ n. sym (same n)) cs opens.there);
    listed = opens.list;
    kept = ap (λ (f : Found). f.logs) found;
    storable = opens.writes;
    room = opens.room;
    few = opens.few;
  }
