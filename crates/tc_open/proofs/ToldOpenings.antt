-- Where the store of an opening tells its files, so do those of the components that are listed.
use Rattle.std.proofs.Common.{◌≡◌, ◌∙◌, ◌++◌, ℕ, List, [], ◌∷◌, Option, map, refl, sym, ap, subst, inl, inr}
use Rattle.std.specs.Prelude.{All, IsSome}
use Rattle.std.proofs.lemmas.Bool.{cases_Bool}
use Rattle.std.proofs.lemmas.List.{map-append}
use Rattle.std.proofs.lemmas.List.Elements.{All-append, All-cons, All-head, All-nil, All-tail}
use Rattle.tc_store.specs.declared.file_name.FileName.{FileName}
use Rattle.tc_store.specs.Disk.{Disk}
use Rattle.tc_store.specs.DiskFile.{DiskFile}
use Rattle.tc_store.specs.Moments.{IfTold}
use Rattle.tc_store.specs.StoreCalls.{comes_home, content_now, frozen_entry, makes}
use Rattle.tc_store.proofs.MomentLemmas.{told_map}
use Rattle.tc_component.specs.declared.head.Head.{Head}
use Rattle.tc_component.specs.Loading.{ComponentState}
use Rattle.tc_component.specs.Spelling.{name_of}
use Rattle.tc_part_model.specs.PartState.{AreTold, IsTold, ToldComponent, told_component}
use Rattle.tc_part_model.proofs.DeviceFiles.{comes_untold}
use Rattle.tc_recover.specs.declared.interval.Interval.{Interval}
use Rattle.tc_recover.specs.declared.taken.Taken.{Taken}
use Rattle.tc_recover.specs.Files.{AreTold as TellBytes, names_in, takes_all}
use Rattle.tc_recover.specs.Loading.{files_of, interval_of, is_file_of}
use Rattle.tc_recover.specs.Opening.{AreAllTaken, IsReadOf}
use Rattle.tc_recover.specs.Removing.{removes_all}
use Rattle.tc_open.specs.FlushedLogs.{IsFlushListed}

-- what does not depend on the moment stays, where what told nothing tells nothing
pub told_still : {X : Type 0} (Q : Type 0) (old new : List X) → (old ≡ [] → new ≡ []) → IfTold old (λ x. Q) → IfTold new (λ x. Q)
told_still Q [] new untold told = subst (λ moments. IfTold moments (λ x. Q)) (sym (untold refl)) tt
told_still Q (x ∷ old) [] untold told = tt
told_still Q (x ∷ old) (y ∷ new) untold told = told

pub takes_untold : (names : List FileName) → takes_all names [] ≡ []
takes_untold [] = refl
takes_untold (name ∷ names) = takes_untold names

pub removes_untold : (names : List FileName) → removes_all names [] ≡ []
removes_untold [] = refl
removes_untold (name ∷ names) = removes_untold names

module _ {F : Type 0} (content : F → Option (List ℕ)) where
  abbrev TellsBytes : F → Type 0
  TellsBytes file = IsSome (content file)

  abbrev Tells : ToldComponent → Type 0
  Tells c = IsSome c.content

  -- ---- the files that were read

  files_tell : {W : Type 0} (tiles : List Interval) (files : List (Taken F W)) → TellBytes content files → All TellsBytes (files_of tiles files)
  files_tell tiles [] all = All-nil TellsBytes
  files_tell [] (t ∷ ts) all = All-nil TellsBytes
  files_tell {W = W} (tile ∷ tiles) (t ∷ ts) all =
      let rest = All-tail (λ (u : Taken F W). TellsBytes u.file) t ts all in
      elim (cases_Bool (is_file_of tile t)) [
        | inl is ↦ rw is (All-cons TellsBytes t.file (files_of tiles ts) (All-head (λ (u : Taken F W). TellsBytes u.file) t ts all) (files_tell tiles ts rest))
        | inr other ↦ rw other (files_tell (tile ∷ tiles) ts rest)
      ]

  list_tells : (list : List (ComponentState F)) → All TellsBytes (map (λ c. c.file) list) → AreTold (map (told_component content) list)
  list_tells [] all = All-nil Tells
  list_tells (c ∷ list) all =
      let files = map (λ (d : ComponentState F). d.file) list in
      All-cons Tells (told_component content c) (map (told_component content) list) (All-head TellsBytes c.file files all) (list_tells list (All-tail TellsBytes c.file files all))

  pub read_tells : {W : Type 0} (name : F → FileName) (list : List (ComponentState F)) (left all : List (Taken F W)) (last : ℕ) (old new : List Disk) → AreAllTaken content name all old new → IsReadOf all list left last
      → IfTold new (λ disk. AreTold (map (told_component content) list))
  read_tells name list left all last old new taken read =
      told_still (AreTold (map (told_component content) list)) old new (λ none. taken.taken ∙ ap (takes_all (names_in all)) none ∙ takes_untold (names_in all))
      (told_map (λ disk. TellBytes content all) (λ disk. AreTold (map (told_component content) list)) old (λ disk told. list_tells list (subst (All TellsBytes) (sym read.files_are) (files_tell (map interval_of list) all told))) taken.told)

  -- ---- a component is listed behind the others

  pub flushed_tells : (name : F → FileName) (head : Head) (list longer : List (ComponentState F)) (old later new : List Disk) → IsFlushListed content name head list longer old later → (later ≡ [] → new ≡ []) → IfTold old (λ disk. AreTold (map (told_component content) list))
      → IfTold new (λ disk. AreTold (map (told_component content) longer))
  flushed_tells name head list longer old later new listed untold told =
      let l = listed.listed in
      let one = told_component content l.component in
      let all = map (told_component content) list in
      let longer_is : map (told_component content) longer ≡ all ++ one ∷ [] = ap (map (told_component content)) l.listed ∙ map-append (told_component content) list (l.component ∷ []) in
      let none_later = λ (none : old ≡ []). listed.still ∙ ap (λ disks. comes_home (name_of head) frozen_entry listed.device (makes (name_of head) disks)) none ∙ comes_untold (name_of head) frozen_entry listed.device in
      told_still (AreTold (map (told_component content) longer)) old new (λ none. untold (none_later none))
      (subst (λ cs. IfTold old (λ disk. AreTold cs)) (sym longer_is) (one_more old listed.device l.component all l.made.has_content told listed.tells))
    where
      one_more : (disks : List Disk) (device : List DiskFile) (c : ComponentState F) (all : List ToldComponent) → content c.file ≡ content_now device → IfTold disks (λ disk. AreTold all) → IfTold disks (λ disk. IsTold device)
          → IfTold disks (λ disk. AreTold (all ++ told_component content c ∷ []))
      one_more [] device c all same told tells = tt
      one_more (disk ∷ past) [] c all same told tells = absurd tells
      one_more (disk ∷ past) (f ∷ fs) c all same told tells =
          let one = told_component content c in
          All-append Tells all (one ∷ []) told (All-cons Tells one [] (subst (λ o. IsSome o) (sym same) refl) (All-nil Tells))
