-- The logs above listed components become one component behind these: its name is free, it is listed, and then they are needless.
use Rattle.std.proofs.Common.{◌≡◌, ◌∙◌, ◌⊎◌, ◌+◌, ◌≤◌, ℕ, List, [], ◌∷◌, ◌++◌, filter, map, refl, sym, ap, subst, arith, inl, inr, true, false, Option}
use Rattle.std.specs.Prelude.{All, Contains, nat_lt}
use Rattle.std.proofs.lemmas.Bool.{cases_Bool}
use Rattle.std.proofs.lemmas.Bool.Decides.{nat_tests}
use Rattle.std.proofs.lemmas.List.{map-append}
use Rattle.std.proofs.lemmas.List.Elements.{All-cons, All-head, All-nil, All-push, All-tail, Contains-append_cases, Contains-append_left, Contains-append_right}
use Rattle.tc_store.specs.declared.file_name.FileName.{FileName}
use Rattle.tc_store.specs.declared.file_name.FileName.TheVariants.{Component, Log}
use Rattle.tc_store.specs.Disk.{Disk, IsThere, still}
use Rattle.tc_store.specs.DiskFile.{DiskFile}
use Rattle.tc_store.specs.Moments.{IfTold}
use Rattle.tc_component.specs.declared.head.Head.{Head}
use Rattle.tc_component.specs.Loading.{ComponentState}
use Rattle.tc_component.specs.Spelling.{IsIndex, name_of}
use Rattle.tc_lsm_model.specs.Contents.{Content, Partition}
use Rattle.tc_lsm_model.specs.Lists as contents
use Rattle.tc_list.specs.Intervals.{last_after, last_of}
use Rattle.tc_jobs.specs.Listing.{IsReadBack}
use Rattle.tc_jobs.specs.Lists.{IsListOf, file_names}
use Rattle.tc_recover.specs.declared.interval.Interval.{Interval}
use Rattle.tc_recover.specs.declared.taken.Taken.{Taken}
use Rattle.tc_recover.specs.Files.{names_in}
use Rattle.tc_recover.specs.Loading.{interval_of}
use Rattle.tc_recover.specs.Loads.{is_above, is_log}
use Rattle.tc_recover.specs.Removing.{is_needless, needless_names}
use Rattle.tc_recover.specs.Tilings.{Tile, end_of}
use Rattle.tc_recover.proofs.Members.{member_cases, member_first, member_further, no_member}
use Rattle.tc_recover.proofs.Tiles.{stands_at, tile_pushed}
use Rattle.tc_machine.specs.Steps.{IsSpare}
use Rattle.tc_open.specs.BeingOpened.{AreNeedless, opening_at}
use Rattle.tc_open.specs.Resting.{AreOwn}
use Rattle.tc_open.specs.Steps.{AreListed, IsLogUpTo}
use Rattle.tc_open.proofs.FilesRead.{file_names_are, second_false}

-- ---- listed components

pub interval_listed : {F : Type 0} (list : List (ComponentState F)) (from to : ℕ) → Contains (file_names list) (Component from to) → Contains (map interval_of list) (record { from = from; to = to })
interval_listed [] from to among = absurd (no_member (Component from to) among)
interval_listed (c ∷ list) from to among = elim (member_cases (name_of c.index.head) (file_names list) (Component from to) among) [
  | inl same ↦
      let begins : c.index.head.from ≡ from = cc in
      let ends : c.index.head.to ≡ to = cc in
      let is : interval_of c ≡ record { from = from; to = to } = ap (λ n. record { from = n; to = c.index.head.to }) begins ∙ ap (λ n. record { from = from; to = n }) ends in
      subst (λ (i : Interval). Contains (map interval_of (c ∷ list)) i) is (member_first (interval_of c) (map interval_of list))
  | inr further ↦ member_further (interval_of c) (map interval_of list) (record { from = from; to = to }) (interval_listed list from to further)
]

end_is : {F : Type 0} (g h : ℕ) (list : List (ComponentState F)) → g ≡ h → end_of g (map interval_of list) ≡ last_after h list
end_is g h [] same = same
end_is g h (c ∷ list) same = end_is c.index.head.to c.index.head.to list refl

pub end_listed : {F : Type 0} (list : List (ComponentState F)) → end_of 0 (map interval_of list) ≡ last_of list
end_listed list = end_is 0 0 list refl

-- no component that begins behind the listed ones is listed
none_behind : {F : Type 0} (list : List (ComponentState F)) (from to : ℕ) → Tile 0 (map interval_of list) → from ≡ last_of list + 1 → Contains (file_names list) (Component from to) → ⊥
none_behind list from to tile behind among =
    let place = stands_at 0 (map interval_of list) (record { from = from; to = to }) tile (interval_listed list from to among) in
    omega (arith, place.1, place.2, end_listed list, behind)

-- ---- logs

up_to_name : {F W : Type 0} (most : ℕ) (logs : List (Taken F W)) (n : FileName) → All (λ t. IsLogUpTo most t.name) logs → Contains (names_in logs) n → IsLogUpTo most n
up_to_name most [] n all among = absurd (no_member n among)
up_to_name most (t ∷ ts) n all among = elim (member_cases t.name (names_in ts) n among) [
  | inl same ↦ subst (λ m. IsLogUpTo most m) same (All-head (λ (u : Taken _ _). IsLogUpTo most u.name) t ts all)
  | inr further ↦ up_to_name most ts n (All-tail (λ (u : Taken _ _). IsLogUpTo most u.name) t ts all) further
]

module _ {F W : Type 0} (name : F → FileName) (part : Partition) (list : List (ComponentState F)) (logs : List (Taken F W)) where
  -- the name of the component of the logs is free
  pub free_behind : (from to most : ℕ) (disks : List Disk) → AreListed name part list → All (λ t. name t.file ≡ t.name) logs → All (λ t. IsLogUpTo most t.name) logs → from ≡ last_of list + 1
      → IfTold disks (AreOwn list (map (λ t. name t.file) logs)) → IfTold disks (λ disk. IsThere (disk (Component from to)) → ⊥)
  free_behind from to most [] listed named up_to behind own = tt
  free_behind from to most (disk ∷ past) listed named up_to behind own = λ there. elim (own.own (Component from to) there) [
    | inl among ↦ none_behind list from to listed.tile behind among
    | inr among ↦ up_to_name most logs (Component from to) up_to (subst (λ ns. Contains ns (Component from to)) (file_names_are name logs named) among)
  ]

-- ---- the component is listed

module _ {F : Type 0} (content : F → Option (List ℕ)) (name : F → FileName) (part : Partition) (list : List (ComponentState F)) (c : ComponentState F) where
  pub list_longer : (head : Head) (device : List DiskFile) → AreListed name part list → IsReadBack content name head (name_of head) device c → IsListOf part.number part.count (list ++ c ∷ []) → head.from ≡ last_of list + 1 → head.from ≤ head.to
      → AreListed name part (list ++ c ∷ [])
  list_longer head device listed read of from order = record {
    of = of;
    lawful = All-push (λ (d : ComponentState F). IsIndex d.index) list c listed.lawful read.lawful;
    named = All-push (λ (d : ComponentState F). name d.file ≡ name_of d.index.head) list c listed.named (read.has_name ∙ ap name_of (sym read.has_head));
    tile = subst (λ ts. Tile 0 ts) (sym (map-append interval_of list (c ∷ []))) (tile_pushed 0 (map interval_of list) (interval_of c) listed.tile begins ends);
  }
    where
      begins : c.index.head.from ≡ end_of 0 (map interval_of list) + 1
      begins = ap (λ (h : Head). h.from) read.has_head ∙ from ∙ ap (λ n. n + 1) (sym (end_listed list))

      ends : c.index.head.from ≤ c.index.head.to
      ends = subst (λ (h : Head). h.from ≤ h.to) (sym read.has_head) order

-- ---- covered logs

not_above : (most g : ℕ) → g ≤ most → nat_lt most g ≡ false
not_above most g within = grind (arith, nat_tests)

log_within : (most : ℕ) (n : FileName) → IsLogUpTo most n → is_above most n ≡ false
log_within most (Component from to) is = absurd is
log_within most (Log g) is = not_above most g is

-- logs that the components cover are needless
spare_log : (cs : List Content) (most : ℕ) (disk : Disk) (n : FileName) → most ≤ contents.last_of cs → IsLogUpTo most n → (bytes : List ℕ) → disk n ≡ still bytes → IsSpare (opening_at cs [] disk) n bytes
spare_log cs most disk (Component from to) within is bytes there = absurd is
spare_log cs most disk (Log g) within is bytes there = inl (omega (arith, is, within))

abbrev pub IsSpareAt : List Content → Disk → FileName → Type 0
IsSpareAt cs disk n = (bytes : List ℕ) → disk n ≡ still bytes → IsSpare (opening_at cs [] disk) n bytes

module _ {F W : Type 0} (name : F → FileName) where
  no_log_above : (most : ℕ) (t : Taken F W) → IsLogUpTo most t.name → is_log most t ≡ false
  no_log_above most t is = second_false t.open (is_above most t.name) (log_within most t.name is)

  pub none_stay : (most : ℕ) (logs : List (Taken F W)) → All (λ t. IsLogUpTo most t.name) logs → filter (is_log most) logs ≡ []
  none_stay most [] all = refl
  none_stay most (t ∷ ts) all = rw (no_log_above most t (All-head (λ (u : Taken F W). IsLogUpTo most u.name) t ts all)) (none_stay most ts (All-tail (λ (u : Taken F W). IsLogUpTo most u.name) t ts all))

  all_go : (most : ℕ) (logs : List (Taken F W)) → All (λ t. IsLogUpTo most t.name) logs → filter (is_needless most) logs ≡ logs
  all_go most [] all = refl
  all_go most (t ∷ ts) all =
      let this = no_log_above most t (All-head (λ (u : Taken F W). IsLogUpTo most u.name) t ts all) in
      rw this (ap (λ us. t ∷ us) (all_go most ts (All-tail (λ (u : Taken F W). IsLogUpTo most u.name) t ts all)))

  spare_logs : (cs : List Content) (most : ℕ) (disk : Disk) (logs : List (Taken F W)) → most ≤ contents.last_of cs → All (λ t. name t.file ≡ t.name) logs → All (λ t. IsLogUpTo most t.name) logs → AreNeedless cs disk (map (λ t. name t.file) logs)
  spare_logs cs most disk [] within named up_to = All-nil (IsSpareAt cs disk)
  spare_logs cs most disk (t ∷ ts) within named up_to =
      let this = subst (λ n. IsLogUpTo most n) (sym (All-head (λ (u : Taken F W). name u.file ≡ u.name) t ts named)) (All-head (λ (u : Taken F W). IsLogUpTo most u.name) t ts up_to) in
      All-cons (IsSpareAt cs disk) (name t.file) (map (λ (u : Taken F W). name u.file) ts) (spare_log cs most disk (name t.file) within this)
      (spare_logs cs most disk ts within (All-tail (λ (u : Taken F W). name u.file ≡ u.name) t ts named) (All-tail (λ (u : Taken F W). IsLogUpTo most u.name) t ts up_to))

  pub covered_needless : (cs : List Content) (most : ℕ) (disks : List Disk) (logs : List (Taken F W)) → most ≤ contents.last_of cs → All (λ t. name t.file ≡ t.name) logs → All (λ t. IsLogUpTo most t.name) logs
      → IfTold disks (λ disk. AreNeedless cs disk (needless_names name most logs))
  covered_needless cs most [] logs within named up_to = tt
  covered_needless cs most (disk ∷ past) logs within named up_to =
      subst (λ (ts : List (Taken F W)). AreNeedless cs disk (map (λ t. name t.file) ts)) (sym (all_go most logs up_to)) (spare_logs cs most disk logs within named up_to)

-- what is not needless stays
pub go_or_stay : {F W : Type 0} (name : F → FileName) (last : ℕ) (ts : List (Taken F W)) (n : FileName) → Contains (map (λ t. name t.file) ts) n → Contains (needless_names name last ts ++ map (λ t. name t.file) (filter (is_log last) ts)) n
go_or_stay name last [] n among = absurd (no_member n among)
go_or_stay {F = F} {W = W} name last (t ∷ ts) n among = at (cases_Bool (is_log last t)) (member_cases (name t.file) (map (λ (u : Taken F W). name u.file) ts) n among) (go_or_stay name last ts n)
  where
    gone : List FileName
    gone = needless_names name last ts

    kept : List FileName
    kept = map (λ (u : Taken F W). name u.file) (filter (is_log last) ts)

    further : Contains (gone ++ kept) n → Contains (gone ++ name t.file ∷ kept) n
    further there = elim (Contains-append_cases gone kept n there) [
      | inl left ↦ Contains-append_left gone (name t.file ∷ kept) n left
      | inr right ↦ Contains-append_right gone (name t.file ∷ kept) n (member_further (name t.file) kept n right)
    ]

    at : (is_log last t ≡ true) ⊎ (is_log last t ≡ false) → (name t.file ≡ n) ⊎ Contains (map (λ (u : Taken F W). name u.file) ts) n
        → (Contains (map (λ (u : Taken F W). name u.file) ts) n → Contains (gone ++ kept) n)
        → Contains (needless_names name last (t ∷ ts) ++ map (λ (u : Taken F W). name u.file) (filter (is_log last) (t ∷ ts))) n
    at (inl is) (inl same) rest = rw is (Contains-append_right gone (name t.file ∷ kept) n (subst (λ m. Contains (m ∷ kept) n) (sym same) (member_first n kept)))
    at (inl is) (inr more) rest = rw is (further (rest more))
    at (inr other) (inl same) rest = rw other (subst (λ m. Contains (m ∷ gone ++ kept) n) (sym same) (member_first n (gone ++ kept)))
    at (inr other) (inr more) rest = rw other (member_further (name t.file) (gone ++ kept) n (rest more))
