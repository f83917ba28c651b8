-- What is left of the files of a lawful disk, and is no log above the components, nobody needs.
use Rattle.std.proofs.Common.{◌≡◌, ◌≢◌, ◌∙◌, ◌≤◌, ◌<◌, ◌⊎◌, ℕ, suc, Bool, false, true, List, [], ◌∷◌, map, filter, length, refl, sym, subst, ap, inl, inr, arith, Option, None, Some}
use Rattle.std.specs.Prelude.{◌&&◌, Contains, nat_lt, unwrap_or, All, IsSome, IfSome}
use Rattle.std.specs.List.{AllZip}
use Rattle.std.specs.List.Sorted.{IsStrictlySortedBy}
use Rattle.std.proofs.lemmas.Bool.{cases_Bool}
use Rattle.std.proofs.lemmas.Bool.Decides.{nat_tests}
use Rattle.std.proofs.lemmas.List.Elements.{All-nil, All-cons, All-head, All-tail, All-weaker}
use Rattle.std.proofs.lemmas.Map.Keys.{sorted_tail}
use Rattle.tc_lsm_model.specs.Contents.{Content}
use Rattle.tc_lsm_model.specs.Lists.{last_of}
use Rattle.tc_store.specs.declared.file_name.FileName.{FileName}
use Rattle.tc_store.specs.declared.file_name.FileName.TheVariants.{Component, Log}
use Rattle.tc_store.specs.Disk.{Disk, Entry, content_of, home, none, out, same_name, still, taken}
use Rattle.tc_store.specs.Gate.{is_open_file}
use Rattle.tc_store.specs.NameOrder.{name_cmp}
use Rattle.tc_store.proofs.NameLemmas.{same_name-refl}
use Rattle.tc_component.specs.Loaded.{IsLoadedOf}
use Rattle.tc_component.specs.Loading.{ComponentState}
use Rattle.tc_component.specs.Rows.{component_index}
use Rattle.tc_component.specs.Spelling.{Index}
use Rattle.tc_machine.specs.Components.{file_of}
use Rattle.tc_machine.specs.Steps.{IsSpare}
use Rattle.tc_recover.specs.declared.interval.Interval.{Interval}
use Rattle.tc_recover.specs.declared.taken.Taken.{Taken}
use Rattle.tc_recover.specs.Files.{AreGates, AreNamed, names_in}
use Rattle.tc_recover.specs.Lawful.{AreSpare, resting}
use Rattle.tc_recover.specs.Loading.{files_of, interval_of, is_file_of, left_of, tile_name}
use Rattle.tc_recover.specs.Loads.{is_above, is_log}
use Rattle.tc_recover.specs.Opening.{IsReadOf}
use Rattle.tc_recover.specs.Removing.{is_needless, needless_names}
use Rattle.tc_recover.proofs.LawfulReads.{TellsOf}
use Rattle.tc_recover.proofs.LoadSteps.{called_so}
use Rattle.tc_recover.proofs.Members.{AreAmong, member_cases, member_first, member_further, no_member}
use Rattle.tc_recover.proofs.NameOrders.{first_apart}
use Rattle.tc_recover.proofs.ReadSteps.{left_all}

-- ---- names of tiles

-- each tile has its file
abbrev AllFound : {F W : Type 0} → List Interval → List (Taken F W) → Type 0
AllFound tiles ts = length (files_of tiles ts) ≡ length tiles

found_behind : {F W : Type 0} (tile : Interval) (tiles : List Interval) (t : Taken F W) (ts : List (Taken F W)) → AllFound (tile ∷ tiles) (t ∷ ts)
    → ((is_file_of tile t ≡ true) × AllFound tiles ts) ⊎ ((is_file_of tile t ≡ false) × AllFound (tile ∷ tiles) ts)
found_behind {F = F} tile tiles t ts found = elim (cases_Bool (is_file_of tile t)) [
  | inl is ↦
      let one : length (files_of (tile ∷ tiles) (t ∷ ts)) ≡ suc (length (files_of tiles ts)) = rw is refl in
      inl (is, omega (arith, one, found))
  | inr not ↦
      let none : length (files_of (tile ∷ tiles) (t ∷ ts)) ≡ length (files_of (tile ∷ tiles) ts) = rw not refl in
      inr (not, sym none ∙ found)
]

tile_there : {F W : Type 0} (tiles : List Interval) (ts : List (Taken F W)) (tile : Interval) → AllFound tiles ts → Contains tiles tile → Contains (names_in ts) (tile_name tile)
tile_there [] ts tile found member = absurd (no_member tile member)
tile_there (u ∷ us) [] tile found member = absurd (cc)
tile_there (u ∷ us) (t ∷ ts) tile found member = elim (found_behind u us t ts found) [
  | inl here ↦ elim (member_cases u us tile member) [
    | inl same ↦ subst (λ n. Contains (t.name ∷ names_in ts) n) (sym (called_so u t here.0) ∙ ap tile_name same) (member_first t.name (names_in ts))
    | inr further ↦ member_further t.name (names_in ts) (tile_name tile) (tile_there us ts tile here.1 further)
  ]
  | inr behind ↦ member_further t.name (names_in ts) (tile_name tile) (tile_there (u ∷ us) ts tile behind.1 member)
]

names_apart : (first : FileName) (names : List FileName) (name : FileName) → IsStrictlySortedBy name_cmp (first ∷ names) → Contains names name → first ≢ name
names_apart first names name sorted member same =
    let apart = first_apart first names name sorted member in
    let is : same_name first name ≡ true = subst (λ n. same_name first n ≡ true) same (same_name-refl first) in
    absurd (cc)

-- what is left is called as no tile
abbrev IsApart : {F W : Type 0} → List Interval → Taken F W → Type 0
IsApart tiles t = (tile : Interval) → Contains tiles tile → tile_name tile ≢ t.name

left_names : {F W : Type 0} (tiles : List Interval) (ts : List (Taken F W)) → All (λ (t : Taken F W). Contains (names_in ts) t.name) (left_of tiles ts)
left_names {F = F} {W = W} tiles ts = left_all (λ (t : Taken F W). Contains (names_in ts) t.name) tiles ts (all_named ts)
  where
    weaker : (t : Taken F W) (us vs : List (Taken F W)) → All (λ (u : Taken F W). Contains (names_in us) u.name) vs → All (λ (u : Taken F W). Contains (names_in (t ∷ us)) u.name) vs
    weaker t us [] all = All-nil (λ (u : Taken F W). Contains (names_in (t ∷ us)) u.name)
    weaker t us (v ∷ vs) all = All-cons (λ (u : Taken F W). Contains (names_in (t ∷ us)) u.name) v vs (member_further t.name (names_in us) v.name (All-head (λ (u : Taken F W). Contains (names_in us) u.name) v vs all))
        (weaker t us vs (All-tail (λ (u : Taken F W). Contains (names_in us) u.name) v vs all))

    all_named : (us : List (Taken F W)) → All (λ (u : Taken F W). Contains (names_in us) u.name) us
    all_named [] = All-nil (λ (u : Taken F W). Contains [] u.name)
    all_named (t ∷ us) = All-cons (λ (u : Taken F W). Contains (names_in (t ∷ us)) u.name) t us (member_first t.name (names_in us)) (weaker t us us (all_named us))

-- a file more, of which the tile is none of those left
apart_more : {F W : Type 0} (tile : Interval) (tiles : List Interval) (ts us : List (Taken F W)) (name : FileName) → tile_name tile ≡ name → IsStrictlySortedBy name_cmp (name ∷ names_in ts) → All (λ (t : Taken F W). Contains (names_in ts) t.name) us → All (IsApart tiles) us
    → All (IsApart (tile ∷ tiles)) us
apart_more {F = F} {W = W} tile tiles ts [] name called sorted among apart = All-nil (IsApart {F = F} {W = W} (tile ∷ tiles))
apart_more {F = F} {W = W} tile tiles ts (u ∷ us) name called sorted among apart =
    All-cons (IsApart {F = F} {W = W} (tile ∷ tiles)) u us one (apart_more tile tiles ts us name called sorted (All-tail (λ (t : Taken F W). Contains (names_in ts) t.name) u us among) (All-tail (IsApart {F = F} {W = W} tiles) u us apart))
  where
    one : IsApart (tile ∷ tiles) u
    one x member same = elim (member_cases tile tiles x member) [
      | inl is ↦ names_apart name (names_in ts) u.name sorted (All-head (λ (t : Taken F W). Contains (names_in ts) t.name) u us among) (sym called ∙ (ap tile_name is ∙ same))
      | inr further ↦ All-head (IsApart {F = F} {W = W} tiles) u us apart x further same
    ]

left_apart : {F W : Type 0} (tiles : List Interval) (ts : List (Taken F W)) → IsStrictlySortedBy name_cmp (names_in ts) → AllFound tiles ts → All (IsApart tiles) (left_of tiles ts)
left_apart {F = F} {W = W} tiles [] sorted found = All-nil (IsApart {F = F} {W = W} tiles)
left_apart {F = F} {W = W} [] (t ∷ ts) sorted found = none (t ∷ ts)
  where
    none : (us : List (Taken F W)) → All (IsApart {F = F} {W = W} []) us
    none [] = All-nil (IsApart {F = F} {W = W} [])
    none (u ∷ us) = All-cons (IsApart {F = F} {W = W} []) u us (λ tile member same. no_member tile member) (none us)
left_apart {F = F} {W = W} (tile ∷ tiles) (t ∷ ts) sorted found = elim (found_behind tile tiles t ts found) [
  | inl here ↦ rw here.0 (apart_more tile tiles ts (left_of tiles ts) t.name (called_so tile t here.0) sorted (left_names tiles ts) (left_apart tiles ts behind here.1))
  | inr later ↦ rw later.0
      (All-cons (IsApart {F = F} {W = W} (tile ∷ tiles)) t (left_of (tile ∷ tiles) ts)
      (λ x member same. names_apart t.name (names_in ts) (tile_name x) sorted (tile_there (tile ∷ tiles) ts x later.1 member) (sym same)) (left_apart (tile ∷ tiles) ts behind later.1))
]
  where
    behind : IsStrictlySortedBy name_cmp (names_in ts)
    behind = sorted_tail name_cmp t.name (names_in ts) sorted

all_found : {F W : Type 0} (list : List (ComponentState F)) (files : List (Taken F W)) → map (λ (c : ComponentState F). c.file) list ≡ files_of (map interval_of list) files → AllFound (map interval_of list) files
all_found {F = F} list files from = ap (λ (fs : List F). length fs) (sym from) ∙ same_length list
  where
    same_length : (xs : List (ComponentState F)) → length (map (λ (c : ComponentState F). c.file) xs) ≡ length (map interval_of xs)
    same_length [] = refl
    same_length (x ∷ xs) = ap suc (same_length xs)

-- no content has its name
not_listed : {F W : Type 0} (content : F → Option (List ℕ)) (list : List (ComponentState F)) (cs : List Content) (t : Taken F W) → AllZip (IsLoadedOf content) list cs → IsApart (map interval_of list) t → All (λ c. file_of c ≢ t.name) cs
not_listed content [] [] t loaded apart = All-nil (λ c. file_of c ≢ t.name)
not_listed content [] (c ∷ cs) t loaded apart = absurd loaded
not_listed content (x ∷ list) [] t loaded apart = absurd loaded
not_listed content (x ∷ list) (c ∷ cs) t loaded apart =
    let name : tile_name (interval_of x) ≡ file_of c = ap (λ (index : Index). Component index.head.from index.head.to) loaded.0.index in
    All-cons (λ d. file_of d ≢ t.name) c cs (λ same. apart (interval_of x) (member_first (interval_of x) (map interval_of list)) (name ∙ same))
    (not_listed content list cs t loaded.1 (λ tile member. apart tile (member_further (interval_of x) (map interval_of list) tile member)))

-- ---- files that nobody needs

closed_or_low : (last : ℕ) (is_open : Bool) (generation : ℕ) → is_open && nat_lt last generation ≡ false → (is_open ≡ false) ⊎ (generation ≤ last)
closed_or_low last false generation not = inl refl
closed_or_low last true generation not = inr (grind (arith, nat_tests))

-- what is there of a file that was taken is what it tells
record IsOwn {F W : Type 0} (content : F → Option (List ℕ)) (name : F → FileName) (now : Disk) (t : Taken F W) : Type 0 where
  named : name t.file ≡ t.name
  gate : IfSome (content t.file) (λ bytes. t.open ≡ is_open_file bytes)
  tells : (bytes : List ℕ) → now t.name ≡ still bytes → content t.file ≡ Some bytes

spare_name : {F W : Type 0} (content : F → Option (List ℕ)) (cs : List Content) (now : Disk) (last : ℕ) (t : Taken F W) (name : FileName) → t.name ≡ name → last ≡ last_of cs → is_log last t ≡ false → IfSome (content t.file) (λ bytes. t.open ≡ is_open_file bytes)
    → All (λ c. file_of c ≢ t.name) cs → (bytes : List ℕ) → content t.file ≡ Some bytes → IsSpare (resting cs [] now) name bytes
spare_name content cs now last t (Component from to) named ends not gate apart bytes tells = subst (λ n. All (λ c. file_of c ≢ n) cs) named apart
spare_name content cs now last t (Log generation) named ends not gate apart bytes tells =
    let no : t.open && nat_lt last generation ≡ false = subst (λ (n : FileName). t.open && is_above last n ≡ false) named not in
    elim (closed_or_low last t.open generation no) [
      | inl closed ↦ inr (sym (subst (λ (image : Option (List ℕ)). IfSome image (λ b. t.open ≡ is_open_file b)) tells gate) ∙ closed)
      | inr low ↦ inl (subst (λ n. generation ≤ n) ends low)
    ]

abbrev IsSpareIn : List Content → Disk → FileName → Type 0
IsSpareIn cs now name = (bytes : List ℕ) → now name ≡ still bytes → IsSpare (resting cs [] now) name bytes

all_spare : {F W : Type 0} (content : F → Option (List ℕ)) (name : F → FileName) (cs : List Content) (now : Disk) (last : ℕ) (left : List (Taken F W)) → last ≡ last_of cs → All (IsOwn content name now) left → All (λ (t : Taken F W). All (λ c. file_of c ≢ t.name) cs) left
    → AreSpare cs now (needless_names name last left)
all_spare content name cs now last [] ends own apart = All-nil (IsSpareIn cs now)
all_spare {F = F} {W = W} content name cs now last (t ∷ left) ends own apart =
    cases (is_log last t) refl (all_spare content name cs now last left ends (All-tail (IsOwn {F = F} {W = W} content name now) t left own) (All-tail (λ (u : Taken F W). All (λ c. file_of c ≢ u.name) cs) t left apart))
  where
    one : IsOwn content name now t
    one = All-head (IsOwn {F = F} {W = W} content name now) t left own

    cases : (is : Bool) → is_log last t ≡ is → AreSpare cs now (needless_names name last left) → AreSpare cs now (needless_names name last (t ∷ left))
    cases true is rest = rw is rest
    cases false is rest = rw is
        (All-cons (IsSpareIn cs now) (name t.file) (needless_names name last left)
        (subst (IsSpareIn cs now) (sym one.named) (λ bytes there. spare_name content cs now last t t.name refl ends is one.gate (All-head (λ (u : Taken F W). All (λ c. file_of c ≢ u.name) cs) t left apart) bytes (one.tells bytes there))) rest)

all_own : {F W : Type 0} (content : F → Option (List ℕ)) (name : F → FileName) (disk now : Disk) (ts : List (Taken F W)) → ((n : FileName) → content_of (now n) ≡ content_of (disk n)) → AreNamed name ts → AreGates content ts → All (TellsOf content disk) ts
    → All (IsOwn content name now) ts
all_own {F = F} {W = W} content name disk now [] same named gates tell = All-nil (IsOwn {F = F} {W = W} content name now)
all_own {F = F} {W = W} content name disk now (t ∷ ts) same named gates tell =
    All-cons (IsOwn {F = F} {W = W} content name now) t ts (record {
      named = All-head (λ (u : Taken F W). name u.file ≡ u.name) t ts named;
      gate = All-head (λ (u : Taken F W). IfSome (content u.file) (λ bytes. u.open ≡ is_open_file bytes)) t ts gates;
      tells = λ bytes there. All-head (TellsOf {F = F} {W = W} content disk) t ts tell ∙ (sym (same t.name) ∙ ap content_of there);
    }) (all_own content name disk now ts same (All-tail (λ (u : Taken F W). name u.file ≡ u.name) t ts named)
    (All-tail (λ (u : Taken F W). IfSome (content u.file) (λ bytes. u.open ≡ is_open_file bytes)) t ts gates) (All-tail (TellsOf {F = F} {W = W} content disk) t ts tell))

pub left_is_spare : {F W : Type 0} (content : F → Option (List ℕ)) (name : F → FileName) (disk now : Disk) (cs : List Content) (files left : List (Taken F W)) (list : List (ComponentState F)) (last : ℕ) → ((n : FileName) → content_of (now n) ≡ content_of (disk n))
    → IsStrictlySortedBy name_cmp (names_in files) → AreNamed name files → AreGates content files → All (TellsOf content disk) files → IsReadOf files list left last → AllZip (IsLoadedOf content) list cs → last ≡ last_of cs → AreSpare cs now (needless_names name last left)
left_is_spare {F = F} {W = W} content name disk now cs files left list last same sorted named gates tell read loaded ends =
    let tiles = map interval_of list in
    let own = all_own content name disk now files same named gates tell in
    let apart = left_apart tiles files sorted (all_found list files read.files_are) in
    all_spare content name cs now last left ends (subst (λ ts. All (IsOwn content name now) ts) (sym read.left_are) (left_all (IsOwn {F = F} {W = W} content name now) tiles files own))
    (All-weaker (IsApart {F = F} {W = W} tiles) (λ (t : Taken F W). All (λ c. file_of c ≢ t.name) cs) (λ t alone. not_listed content list cs t loaded alone) left (subst (λ ts. All (IsApart {F = F} {W = W} tiles) ts) (sym read.left_are) apart))
