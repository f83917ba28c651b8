-- Files of components that are not listed are removed: what a part keeps.
use Rattle.std.proofs.Common.{◌-◌, drop, ◌≡◌, ◌≢◌, ◌∙◌, ◌||◌, ◌<◌, ◌+◌, inl, inr, ℕ, Bool, List, [], ◌∷◌, Option, true, false, map, take, length, get_or, filter, refl, sym, ap, ap₂, subst}
use Rattle.std.specs.Prelude.{All, not}
use Rattle.std.specs.List.{AllZip, Contains}
use Rattle.std.proofs.lemmas.Bool.{cases_Bool, false≢true, not-true}
use Rattle.std.proofs.lemmas.List.{get_or-map, length-map, map_more}
use Rattle.std.proofs.lemmas.List.Folds.{list_any-append, list_any_at}
use Rattle.std.proofs.lemmas.List.Elements.{All-cons, All-contains, All-drop, All-head, All-map, All-nil, All-tail, All-take}
use Rattle.tc_store.specs.declared.file_name.FileName.{FileName}
use Rattle.tc_store.specs.declared.file_name.FileName.TheVariants.{Component, Log}
use Rattle.tc_store.specs.Disk.{Disk, same_name}
use Rattle.tc_store.specs.DiskFile.{DiskFile}
use Rattle.tc_store.proofs.NameLemmas.{same_name-refl}
use Rattle.tc_store.specs.StoreCalls.{RemovesSome}
use Rattle.tc_component.specs.Loading.{ComponentState}
use Rattle.tc_component.specs.Spelling.{Index, name_of}
use Rattle.tc_list.specs.declared.run.Run.{Run}
use Rattle.tc_list.specs.Runs.{in_run}
use Rattle.tc_lsm_model.specs.Contents.{Content}
use Rattle.tc_machine.specs.Components.{file_of}
use Rattle.tc_part_model.specs.Calls.{IsUnlisted}
use Rattle.tc_part_model.specs.Meaning.{IsOfContent, IsPart}
use Rattle.tc_part_model.specs.PartState.{PartState, Told, told, told_component}
use Rattle.tc_part_model.specs.PartView.{PartView}
use Rattle.tc_part_model.proofs.Removals.{removal_untold}
use Rattle.tc_part.specs.FilesOut.{LogIsOut, OnlyDevicesOut, TellsLogs}
use Rattle.tc_part.specs.OwnFiles.{HasOwnFiles}
use Rattle.tc_part.specs.Ready.{AreNamed}
use Rattle.tc_part.proofs.DevicesOut.{Nobody, out_on, some_removed_in, tells_on}
use Rattle.tc_part.proofs.LogOut.{log_out_on, some_removed}
use Rattle.tc_part.proofs.OwnNames.{own_still, some_removed_none_new}
use Rattle.tc_part.specs.Sweeps.{NamesNoneOf, RemovesNoneOf, has_name}

-- ---- a look at names

neither : (a b : Bool) → (a || b) ≡ false → (a ≡ false) × (b ≡ false)
neither true b is = absurd (false≢true (sym is))
neither false b is = (refl, is)

-- one more component has another name, as at a step of a loop
pub none_more : {A F : Type 0} (seen : A → ComponentState F) (name : FileName) (xs : List A) (i : ℕ) (a : A) → i < length xs → a ≡ get_or xs i a → same_name (name_of (seen a).index.head) name ≡ false
    → has_name name (map seen (take i xs)) ≡ false → has_name name (map seen (take (i + 1) xs)) ≡ false
none_more seen name xs i a within is apart before =
    let test = λ (c : ComponentState _). same_name (name_of c.index.head) name in
    ap (has_name name) (map_more seen xs i a within) ∙ list_any-append test (map seen (take i xs)) (seen (get_or xs i a) ∷ []) ∙ ap₂ (λ b c. b || c) before (ap (λ x. test (seen x) || false) (sym is) ∙ ap (λ b. b || false) apart)

-- one component settles the answer
pub one_named : {A F : Type 0} (seen : A → ComponentState F) (name : FileName) (xs : List A) (i : ℕ) (a : A) → i < length xs → a ≡ get_or xs i a → same_name (name_of (seen a).index.head) name ≡ true → has_name name (map seen xs) ≡ true
one_named seen name xs i a within is same =
    let test = λ (c : ComponentState _). same_name (name_of c.index.head) name in
    list_any_at test (map seen xs) i (seen a) (subst (λ n. i < n) (sym (length-map xs seen)) within) (ap test (get_or-map seen xs i a (seen a) within ∙ ap seen (sym is)) ∙ same)

none_named : {F : Type 0} (from to : ℕ) (list : List (ComponentState F)) → has_name (Component from to) list ≡ false → NamesNoneOf list (Component from to)
none_named from to [] is = All-nil (λ (c : ComponentState _). name_of c.index.head ≢ Component from to)
none_named from to (c ∷ list) is =
    let apart = neither (same_name (name_of c.index.head) (Component from to)) (has_name (Component from to) list) is in
    All-cons (λ (c : ComponentState _). name_of c.index.head ≢ Component from to) c list
    (λ same. false≢true (sym apart.0 ∙ ap (λ n. same_name n (Component from to)) same ∙ same_name-refl (Component from to))) (none_named from to list apart.1)

module _ {A F : Type 0} (seen : A → ComponentState F) (name : F → FileName) (listed : List (ComponentState F)) where
  abbrev pub is_apart : A → Bool
  is_apart a = not (has_name (name_of (seen a).index.head) listed)

  apart_if : (a : A) → name (seen a).file ≡ name_of (seen a).index.head → is_apart a ≡ true → NamesNoneOf listed (name (seen a).file)
  apart_if a named apart = subst (NamesNoneOf listed) (sym named) (none_named (seen a).index.head.from (seen a).index.head.to listed (not-true (has_name (name_of (seen a).index.head) listed) apart))

  -- what such a look leaves
  pub apart_left : (xs : List A) → AreNamed name (map seen xs) → AreNamed name (map seen (filter is_apart xs)) × All (λ (c : ComponentState F). NamesNoneOf listed (name c.file)) (map seen (filter is_apart xs))
  apart_left [] named = (named, All-nil (λ (c : ComponentState F). NamesNoneOf listed (name c.file)))
  apart_left (a ∷ xs) named =
      let this = All-head (λ (c : ComponentState F). name c.file ≡ name_of c.index.head) (seen a) (map seen xs) named in
      let rest = apart_left xs (All-tail (λ (c : ComponentState F). name c.file ≡ name_of c.index.head) (seen a) (map seen xs) named) in
      elim (cases_Bool (is_apart a)) [
        | inl apart ↦ rw apart (
          All-cons (λ (c : ComponentState F). name c.file ≡ name_of c.index.head) (seen a) (map seen (filter is_apart xs)) this rest.0,
          All-cons (λ (c : ComponentState F). NamesNoneOf listed (name c.file)) (seen a) (map seen (filter is_apart xs)) (apart_if a this apart) rest.1,
        )
        | inr found ↦ rw found rest
      ]

-- what holds of all holds of some of them
pub all_some : {X : Type 0} (P : X → Type 0) (xs some : List X) → All (Contains xs) some → All P xs → All P some
all_some P xs [] among all = All-nil P
all_some P xs (x ∷ some) among all =
    All-cons P x some (All-contains P xs x all (All-head (Contains xs) x some among)) (all_some P xs some (All-tail (Contains xs) x some among) all)

-- ---- in documents

module _ {F : Type 0} (content : F → Option (List ℕ)) where
  of_contents : (from to : ℕ) (list : List (ComponentState F)) (cs : List Content) → AllZip IsOfContent (map (told_component content) list) cs → NamesNoneOf list (Component from to) → IsUnlisted cs (Component from to)
  of_contents from to [] [] zip none = All-nil (λ c. file_of c ≢ Component from to)
  of_contents from to [] (c ∷ cs) zip none = absurd zip
  of_contents from to (m ∷ list) [] zip none = absurd zip
  of_contents from to (m ∷ list) (c ∷ cs) zip none =
      All-cons (λ c. file_of c ≢ Component from to) c cs
      (λ same. All-head (λ (m : ComponentState F). name_of m.index.head ≢ Component from to) m list none (ap (λ (i : Index). name_of i.head) zip.0.index ∙ same))
      (of_contents from to list cs zip.1 (All-tail (λ (m : ComponentState F). name_of m.index.head ≢ Component from to) m list none))

  one_unlisted : (list : List (ComponentState F)) (cs : List Content) → AllZip IsOfContent (map (told_component content) list) cs → (name : FileName) → NamesNoneOf list name → IsUnlisted cs name
  one_unlisted list cs zip (Component from to) none = of_contents from to list cs zip none
  one_unlisted list cs zip (Log generation) none = absurd none

  -- the names that none of the listed components has are those of no content
  pub all_unlisted : (list : List (ComponentState F)) (cs : List Content) → AllZip IsOfContent (map (told_component content) list) cs → (names : List FileName) → All (NamesNoneOf list) names → All (IsUnlisted cs) names
  all_unlisted list cs zip [] none = All-nil (IsUnlisted cs)
  all_unlisted list cs zip (name ∷ names) none =
      All-cons (IsUnlisted cs) name names (one_unlisted list cs zip name (All-head (NamesNoneOf list) name names none)) (all_unlisted list cs zip names (All-tail (NamesNoneOf list) name names none))

-- files of components that are apart are removed
pub removes_apart : {F : Type 0} (name : F → FileName) (list cs : List (ComponentState F)) (old new : List Disk) → All (λ (c : ComponentState F). NamesNoneOf list (name c.file)) cs → RemovesSome (map (λ (c : ComponentState F). name c.file) cs) old new → RemovesNoneOf list old new
removes_apart name list cs old new apart removed = record { names = map (λ (c : ComponentState _). name c.file) cs; apart = All-map (NamesNoneOf list) (λ (c : ComponentState _). name c.file) cs apart; removed = removed }

-- none of the files of these components is removed
pub none_removed : {F : Type 0} (name : F → FileName) (cs : List (ComponentState F)) (disks : List Disk) → RemovesSome (map (λ (c : ComponentState F). name c.file) cs) disks disks
none_removed name [] disks = refl
none_removed name (c ∷ cs) disks = inl (none_removed name cs disks)

-- the components of a run are called as those of the list
pub run_named : {F : Type 0} (name : F → FileName) (run : Run) (list : List (ComponentState F)) → AreNamed name list → AreNamed name (in_run run list)
run_named name run list named = All-take (λ (c : ComponentState _). name c.file ≡ name_of c.index.head) (run.last + 1 - run.first) (drop run.first list) (All-drop (λ (c : ComponentState _). name c.file ≡ name_of c.index.head) run.first list named)

-- ---- of a part

module _ {S D F W : Type 0} (disks : S → List Disk) (moments : D → List DiskFile) (content : F → Option (List ℕ)) (old new : PartState S D F W) (removes : RemovesNoneOf old.list (disks old.store) (disks new.store)) where
  abbrev before : Told
  before = told disks moments content old

  pub unlisted : (p : PartView) → IsPart before p → All (IsUnlisted p.list) removes.names
  unlisted p is = all_unlisted content old.list p.list is.view.components removes.names removes.apart

  pub swept_untold : disks old.store ≡ [] → disks new.store ≡ []
  swept_untold = removal_untold removes.names (disks old.store) (disks new.store) removes.removed

  module _ (same : new ≡ record old { store = new.store; main = new.main }) where
    after : told disks moments content new ≡ record before { disks = disks new.store }
    after = ap (told disks moments content) same

    pub swept_own : HasOwnFiles before → HasOwnFiles (told disks moments content new)
    swept_own own =
        subst HasOwnFiles (sym after)
        (own_still before (record before { disks = disks new.store }) (some_removed_none_new removes.names (disks old.store) (disks new.store) removes.removed) (λ follow. (follow, λ name is. is)) own)

    pub swept_tells : TellsLogs before → TellsLogs (told disks moments content new)
    swept_tells tells = subst TellsLogs (sym after) (tells_on Nobody before (disks new.store) (some_removed_in removes.names (disks old.store) (disks new.store) removes.removed) tells)

    pub swept_devices : OnlyDevicesOut before → OnlyDevicesOut (told disks moments content new)
    swept_devices only = subst OnlyDevicesOut (sym after) (out_on before (disks new.store) (some_removed_in removes.names (disks old.store) (disks new.store) removes.removed) only)

    pub swept_log_out : LogIsOut before → LogIsOut (told disks moments content new)
    swept_log_out is = subst LogIsOut (sym after) (log_out_on before (disks new.store) (some_removed removes.names (Log old.generation) (disks old.store) (disks new.store) removes.removed) is)
