-- Which files are there while a partition is opened: those of the listed components, and others that have these names.
use Rattle.std.proofs.Common.{◌≡◌, ◌∙◌, ◌⊎◌, List, [], ◌∷◌, ◌++◌, refl, sym, ap, subst, inl, inr, true, false, Option}
use Rattle.std.specs.Prelude.{ℕ, Contains}
use Rattle.std.proofs.lemmas.Bool.{cases_Bool, false≢true}
use Rattle.std.proofs.lemmas.List.Elements.{Contains-append_left, Contains-append_right}
use Rattle.std.proofs.lemmas.List.{map-append}
use Rattle.tc_store.specs.declared.file_name.FileName.{FileName}
use Rattle.tc_store.specs.Disk.{Disk, Entry, IsThere, content_of, home, is_out, is_still, none, out, put, still}
use Rattle.tc_store.specs.DiskFile.{DiskFile}
use Rattle.tc_store.specs.Moments.{IfTold}
use Rattle.tc_store.specs.StoreCalls.{comes_home, frozen_entry, makes, removes}
use Rattle.tc_store.proofs.NameLemmas.{put_there}
use Rattle.tc_component.specs.Loading.{ComponentState}
use Rattle.tc_component.specs.Spelling.{name_of}
use Rattle.tc_jobs.specs.Lists.{file_names}
use Rattle.tc_machine.proofs.FilesLeft.{at_name}
use Rattle.tc_machine.proofs.Moments.{put_twice}
use Rattle.tc_part_model.specs.PartState.{IsTold}
use Rattle.tc_part_model.proofs.DeviceFiles.{comes_untold}
use Rattle.tc_recover.specs.Removing.{removes_all}
use Rattle.tc_recover.proofs.Members.{member_cases, member_first}
use Rattle.tc_open.specs.Resting.{AreOwn, IsStillOrGone, IsTaken}

-- ---- entries

-- a file that is there, and is not still, is out where all were taken
is_out_then : (e : Entry) → IsTaken e → IsThere e → is_still e ≡ false → is_out e ≡ true
is_out_then (none before) taken there other = absurd there
is_out_then (home f) taken there other = absurd taken
is_out_then (still bytes) taken there other = absurd (false≢true (sym other))
is_out_then out taken there other = refl

pub rests : (e : Entry) → IsTaken e → is_out e ≡ false → IsStillOrGone e
rests (none before) taken is_in = tt
rests (home f) taken is_in = taken
rests (still bytes) taken is_in = tt
rests out taken is_in = absurd (false≢true (sym is_in))

module _ {F : Type 0} (list : List (ComponentState F)) where
  -- ---- a file is removed

  gone : (name : FileName) (rest : List FileName) (disk : Disk) (before : Option (List ℕ)) → AreOwn list (name ∷ rest) disk → AreOwn list rest (put name (none before) disk)
  gone name rest disk before is = record {
    taken = λ n. at_name name n (none before) disk IsTaken (λ same. tt) (λ apart. is.taken n);
    is_in = λ n. at_name name n (none before) disk (λ e. is_out e ≡ false) (λ same. refl) (λ apart. is.is_in n);
    own = λ n. at_name name n (none before) disk (λ e. IsThere e → Contains (file_names list) n ⊎ Contains rest n) (λ same there. absurd there) (λ apart there. others n apart (is.own n there));
  }
    where
      others : (n : FileName) → (name ≡ n → ⊥) → Contains (file_names list) n ⊎ Contains (name ∷ rest) n → Contains (file_names list) n ⊎ Contains rest n
      others n apart (inl listed) = inl listed
      others n apart (inr among) = elim (member_cases name rest n among) [
        | inl same ↦ absurd (apart same)
        | inr further ↦ inr further
      ]

  -- what is not still is not there
  stays : (name : FileName) (rest : List FileName) (disk : Disk) → is_still (disk name) ≡ false → AreOwn list (name ∷ rest) disk → AreOwn list rest disk
  stays name rest disk other is = record { taken = is.taken; is_in = is.is_in; own = λ n there. others n there (is.own n there) }
    where
      others : (n : FileName) → IsThere (disk n) → Contains (file_names list) n ⊎ Contains (name ∷ rest) n → Contains (file_names list) n ⊎ Contains rest n
      others n there (inl listed) = inl listed
      others n there (inr among) = elim (member_cases name rest n among) [
        | inl same ↦ absurd (false≢true (sym (is.is_in n) ∙ is_out_then (disk n) (is.taken n) there (ap (λ m. is_still (disk m)) (sym same) ∙ other)))
        | inr further ↦ inr further
      ]

  one_removed : (name : FileName) (rest : List FileName) (disks : List Disk) → IfTold disks (AreOwn list (name ∷ rest)) → IfTold (removes name disks) (AreOwn list rest)
  one_removed name rest [] is = tt
  one_removed name rest (disk ∷ past) is = elim (cases_Bool (is_still (disk name))) [
    | inl found ↦ rw found (gone name rest disk (content_of (disk name)) is)
    | inr other ↦ rw other (stays name rest disk other is)
  ]

  all_removed : (names rest : List FileName) (disks : List Disk) → IfTold disks (AreOwn list (names ++ rest)) → IfTold (removes_all names disks) (AreOwn list rest)
  all_removed [] rest disks is = is
  all_removed (name ∷ names) rest disks is = all_removed names rest (removes name disks) (one_removed name (names ++ rest) disks is)

  more_names : (fewer more : List FileName) → ((n : FileName) → Contains fewer n → Contains more n) → (disk : Disk) → AreOwn list fewer disk → AreOwn list more disk
  more_names fewer more among disk is = record { taken = is.taken; is_in = is.is_in; own = λ n there. wider n (is.own n there) }
    where
      wider : (n : FileName) → Contains (file_names list) n ⊎ Contains fewer n → Contains (file_names list) n ⊎ Contains more n
      wider n (inl listed) = inl listed
      wider n (inr other) = inr (among n other)

  told_more : (fewer more : List FileName) → ((n : FileName) → Contains fewer n → Contains more n) → (disks : List Disk) → IfTold disks (AreOwn list fewer) → IfTold disks (AreOwn list more)
  told_more fewer more among [] is = tt
  told_more fewer more among (disk ∷ past) is = more_names fewer more among disk is

  -- where some of these names were removed, the rest of them stay
  pub own_removed : (all names rest : List FileName) → ((n : FileName) → Contains all n → Contains (names ++ rest) n) → (disks : List Disk) → IfTold disks (AreOwn list all) → IfTold (removes_all names disks) (AreOwn list rest)
  own_removed all names rest among disks is = all_removed names rest disks (told_more all (names ++ rest) among disks is)

-- ---- a component is listed behind the others

pub newest_longer : {F : Type 0} (list : List (ComponentState F)) (c : ComponentState F) → Contains (file_names (list ++ c ∷ [])) (name_of c.index.head)
newest_longer list c =
    subst (λ ns. Contains ns (name_of c.index.head)) (sym (map-append (λ (d : ComponentState _). name_of d.index.head) list (c ∷ [])))
    (Contains-append_right (file_names list) (name_of c.index.head ∷ []) (name_of c.index.head) (member_first (name_of c.index.head) []))

pub others_longer : {F : Type 0} (list : List (ComponentState F)) (c : ComponentState F) (others : List FileName) (n : FileName) → Contains (file_names list) n ⊎ Contains others n → Contains (file_names (list ++ c ∷ [])) n ⊎ Contains others n
others_longer list c others n (inl listed) =
    inl (subst (λ ns. Contains ns n) (sym (map-append (λ (d : ComponentState _). name_of d.index.head) list (c ∷ []))) (Contains-append_left (file_names list) (name_of c.index.head ∷ []) n listed))
others_longer list c others n (inr other) = inr other

-- ---- a file more, which is listed

module _ {F : Type 0} (list newer : List (ComponentState F)) (others more : List FileName) (name : FileName) (newest : Contains (file_names newer) name)
    (wider : (n : FileName) → Contains (file_names list) n ⊎ Contains others n → Contains (file_names newer) n ⊎ Contains more n) where
  own_put : (bytes : List ℕ) (disk : Disk) → AreOwn list others disk → AreOwn newer more (put name (still bytes) disk)
  own_put bytes disk is = record {
    taken = λ n. at_name name n (still bytes) disk IsTaken (λ same. tt) (λ apart. is.taken n);
    is_in = λ n. at_name name n (still bytes) disk (λ e. is_out e ≡ false) (λ same. refl) (λ apart. is.is_in n);
    own = λ n. at_name name n (still bytes) disk (λ e. IsThere e → Contains (file_names newer) n ⊎ Contains more n) (λ same there. inl (subst (λ m. Contains (file_names newer) m) same newest)) (λ apart there. wider n (is.own n there));
  }

  pub own_listed : (device : List DiskFile) (disks : List Disk) → IfTold disks (AreOwn list others) → IfTold disks (λ disk. IsTold device) → IfTold (comes_home name frozen_entry device (makes name disks)) (AreOwn newer more)
  own_listed device [] is tells = subst (λ ds. IfTold ds (AreOwn newer more)) (sym (comes_untold name frozen_entry device)) tt
  own_listed [] (disk ∷ past) is tells = absurd tells
  own_listed (f ∷ earlier) (disk ∷ past) is tells = rw (ap is_out (put_there name out disk)) (subst (λ d. AreOwn newer more d) (sym (put_twice name out (still f.content) disk)) (own_put f.content disk is))
