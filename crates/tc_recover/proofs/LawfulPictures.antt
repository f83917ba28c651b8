-- A lawful picture is refused nothing: what it opens as is read of it.
use Rattle.std.proofs.Common.{◌≡◌, ◌∙◌, ◌<◌, ◌≤◌, ◌⊎◌, ◌+◌, ℕ, suc, Bool, false, true, cond, filter, List, [], ◌∷◌, ◌++◌, map, length, refl, sym, subst, ap, inl, inr, append_assoc, append-nil, arith}
use Rattle.std.specs.Prelude.{◌&&◌, ◌==◌, Contains, if◌then◌else◌, nat_lt, Option, None, Some, All, unwrap_or, Result, Ok, Err}
use Rattle.std.specs.List.Sorted.{IsStrictlySortedBy}
use Rattle.std.proofs.lemmas.Bool.{and_from, and_parts, cases_lt}
use Rattle.std.proofs.lemmas.Bool.Decides.{nat_tests}
use Rattle.std.proofs.lemmas.Grind.{common_steps}
use Rattle.std.proofs.lemmas.Map.Keys.{sorted_tail}
use Rattle.std.specs.declared.cmp.Ordering.TheVariants.{Less}
use Rattle.tc_model.specs.Document.{Name}
use Rattle.tc_model.specs.Dictionary.{Extends}
use Rattle.tc_plain_model.specs.Writes.{Pairs, Write, after_writes}
use Rattle.tc_lsm_model.specs.Contents.{Content, Partition}
use Rattle.tc_lsm_model.specs.Lists.{Covers, GoOn, IsList, last_after, last_of}
use Rattle.tc_store.specs.declared.file_name.FileName.{FileName}
use Rattle.tc_store.specs.declared.file_name.FileName.TheVariants.{Component, Log}
use Rattle.tc_store.specs.Disk.{Picture, bytes_at, same_name}
use Rattle.tc_store.specs.Gate.{is_open_file}
use Rattle.tc_store.specs.Images.{Image}
use Rattle.tc_store.specs.NameOrder.{name_cmp}
use Rattle.tc_store.proofs.NameLemmas.{same_name-refl, same_name-is}
use Rattle.tc_component.specs.Reading as component
use Rattle.tc_component.specs.Reading.{version_of}
use Rattle.tc_component.specs.Rows.{IsComponent, component_index, head_of}
use Rattle.tc_component.specs.Spelling.{Index, name_of}
use Rattle.tc_log.specs.declared.write.Write.{Write as LogWrite}
use Rattle.tc_log.specs.Reading as log
use Rattle.tc_log.proofs.Logs.{judged_spelled as log_spelled}
use Rattle.tc_machine.specs.Components.{HasComponentHead, LeavesComponent, file_of}
use Rattle.tc_machine.specs.Logs.{HasLogHead, IsLog, kept_write, log_head}
use Rattle.tc_machine.specs.Pictures.{HasLogs, IfOpen, Opens}
use Rattle.tc_machine.proofs.LogHeads.{log_is_open}
use Rattle.tc_recover.specs.declared.interval.Interval.{Interval}
use Rattle.tc_recover.specs.Loading.{component_judged, components_judged, own_judged, then_judged}
use Rattle.tc_recover.specs.Loads.{is_above, logs_judged}
use Rattle.tc_recover.specs.Lawful.{found_of, index_of_file}
use Rattle.tc_recover.specs.Opening.{OpeningJudged, open_in}
use Rattle.tc_recover.specs.Refusals.{Refusal, file_refused, head_refused, heads_refused, stray}
use Rattle.tc_recover.specs.Sorting.{Follow, GoTogether, intervals_of, logs_above}
use Rattle.tc_recover.specs.Tilings.{AreAround, IsTiling, Tile, end_of}
use Rattle.tc_recover.proofs.ComponentFronts.{head_stands}
use Rattle.tc_recover.proofs.LoadSteps.{begins_from}
use Rattle.tc_recover.proofs.Members.{member_cases, member_first, member_further, no_member}
use Rattle.tc_recover.proofs.NameOrders.{first_apart, first_less}
use Rattle.tc_recover.proofs.ReadSteps.{all_answers}
use Rattle.tc_recover.proofs.SortedNames.{named_member}

-- ---- the files of a picture

abbrev pub names_at : Picture → List FileName
names_at picture = map (λ file. file.0) picture

-- what stands under a name is there
bytes_there : (picture : Picture) (name : FileName) (bytes : List ℕ) → bytes_at picture name ≡ Some bytes → Contains picture (name, bytes)
bytes_there [] name bytes is = absurd (cc)
bytes_there (file ∷ files) name bytes is = cases (same_name file.0 name) refl (bytes_there files name bytes)
  where
    cases : (same : Bool) → same_name file.0 name ≡ same → (bytes_at files name ≡ Some bytes → Contains files (name, bytes)) → Contains (file ∷ files) (name, bytes)
    cases true same behind =
        let there : bytes_at (file ∷ files) name ≡ Some file.1 = rw same refl in
        let equal : file.1 ≡ bytes = cc in
        let called = same_name-is file.0 name same in
        subst (λ n. Contains (file ∷ files) (n, bytes)) called (subst (λ b. Contains (file ∷ files) (file.0, b)) equal (member_first file files))
    cases false same behind =
        let there : bytes_at (file ∷ files) name ≡ bytes_at files name = rw same refl in
        member_further file files (name, bytes) (behind (sym there ∙ is))

name_there : (picture : Picture) (file : FileName × List ℕ) → Contains picture file → Contains (names_at picture) file.0
name_there [] file member = absurd (no_member file member)
name_there (f ∷ fs) file member = elim (member_cases f fs file member) [
  | inl same ↦ subst (λ (x : FileName × List ℕ). Contains (names_at (f ∷ fs)) x.0) same (member_first f.0 (names_at fs))
  | inr further ↦ member_further f.0 (names_at fs) file.0 (name_there fs file further)
]

-- the bytes of a file stand under its name
member_bytes : (picture : Picture) (file : FileName × List ℕ) → IsStrictlySortedBy name_cmp (names_at picture) → Contains picture file → bytes_at picture file.0 ≡ Some file.1
member_bytes [] file sorted member = absurd (no_member file member)
member_bytes (f ∷ fs) file sorted member = elim (member_cases f fs file member) [
  | inl same ↦ subst (λ (x : FileName × List ℕ). bytes_at (f ∷ fs) x.0 ≡ Some x.1) same (rw (same_name-refl f.0) refl)
  | inr further ↦
      let apart = first_apart f.0 (names_at fs) file.0 sorted (name_there fs file further) in
      rw apart (member_bytes fs file (sorted_tail name_cmp f.0 (names_at fs) sorted) further)
]

open_there : (picture : Picture) (file : FileName × List ℕ) → Contains picture file → is_open_file file.1 ≡ true → Contains (open_in picture) file.0
open_there [] file member is_open = absurd (no_member file member)
open_there (f ∷ fs) file member is_open = elim (member_cases f fs file member) [
  | inl same ↦
      let opened : is_open_file f.1 ≡ true = ap (λ (x : FileName × List ℕ). is_open_file x.1) same ∙ is_open in
      subst (λ (x : FileName × List ℕ). Contains (open_in (f ∷ fs)) x.0) same (rw opened (member_first f.0 (open_in fs)))
  | inr further ↦ behind (is_open_file f.1) refl (open_there fs file further is_open)
]
  where
    behind : (opened : Bool) → is_open_file f.1 ≡ opened → Contains (open_in fs) file.0 → Contains (open_in (f ∷ fs)) file.0
    behind true opened there = rw opened (member_further f.0 (open_in fs) file.0 there)
    behind false opened there = rw opened there

-- an open file of the picture
record IsOpenIn (picture : Picture) (name : FileName) : Type 0 where
  bytes : List ℕ
  there : Contains picture (name, bytes)
  opened : is_open_file bytes ≡ true

open_from : (picture : Picture) (name : FileName) → Contains (open_in picture) name → IsOpenIn picture name
open_from [] name member = absurd (no_member name member)
open_from (f ∷ fs) name member = cases (is_open_file f.1) refl (open_from fs name)
  where
    further : IsOpenIn fs name → IsOpenIn (f ∷ fs) name
    further is = record { bytes = is.bytes; there = member_further f fs (name, is.bytes) is.there; opened = is.opened }

    cases : (opened : Bool) → is_open_file f.1 ≡ opened → (Contains (open_in fs) name → IsOpenIn fs name) → IsOpenIn (f ∷ fs) name
    cases false opened rest =
        let here : Contains (open_in fs) name = subst (λ yes. Contains (map (λ (file : FileName × List ℕ). file.0) (cond yes (f ∷ filter (λ file. is_open_file file.1) fs) (filter (λ file. is_open_file file.1) fs))) name) opened member in
        further (rest here)
    cases true opened rest =
        let here : Contains (f.0 ∷ open_in fs) name = subst (λ yes. Contains (map (λ (file : FileName × List ℕ). file.0) (cond yes (f ∷ filter (λ file. is_open_file file.1) fs) (filter (λ file. is_open_file file.1) fs))) name) opened member in
        elim (member_cases f.0 (open_in fs) name here) [
          | inl same ↦ subst (λ n. IsOpenIn (f ∷ fs) n) same (record { bytes = f.1; there = member_first f fs; opened = opened })
          | inr behind ↦ further (rest behind)
        ]

-- ---- headers

own_numbers : (number count : ℕ) → (number == number) && (count == count) ≡ true
own_numbers number count = grind (arith, nat_tests)

pub no_stray : (part : Partition) → stray part part.number part.count ≡ None
no_stray part = rw (own_numbers part.number part.count) refl

component_passes : (part : Partition) (from to : ℕ) (bytes : List ℕ) → HasComponentHead part from to bytes → head_refused part (Component from to) bytes ≡ None
component_passes part from to bytes has = rw (head_stands part from to bytes has) (no_stray part)

log_passes : (part : Partition) (generation : ℕ) (bytes : List ℕ) → HasLogHead part generation bytes → head_refused part (Log generation) bytes ≡ None
log_passes part generation bytes has = rw has (no_stray part)

heads_pass : (part : Partition) (picture : Picture) → ((file : FileName × List ℕ) → Contains picture file → is_open_file file.1 ≡ true → head_refused part file.0 file.1 ≡ None) → heads_refused part picture ≡ None
heads_pass part [] each = refl
heads_pass part (file ∷ files) each = cases (is_open_file file.1) refl (heads_pass part files (λ f member. each f (member_further file files f member)))
  where
    cases : (opened : Bool) → is_open_file file.1 ≡ opened → heads_refused part files ≡ None → heads_refused part (file ∷ files) ≡ None
    cases false opened rest = rw opened rest
    cases true opened rest = rw (opened, each file (member_first file files) opened) rest

-- ---- tiles

abbrev pub tile_of : Content → Interval
tile_of c = record { from = c.from; to = c.to }

tiles_follow : (part : Partition) (generation : ℕ) (pairs : Pairs) (names : List Name) (cs : List Content) → GoOn part generation pairs names cs → Tile generation (map tile_of cs)
tiles_follow part generation pairs names [] go = tt
tiles_follow part generation pairs names (c ∷ cs) go = (go.0.next, go.0.content.order, tiles_follow part c.to (after_writes pairs c.entries) c.names cs go.1)

ends_so : (generation : ℕ) (cs : List Content) → end_of generation (map tile_of cs) ≡ last_after generation cs
ends_so generation [] = refl
ends_so generation (c ∷ cs) = ends_so c.to cs

interval_there : (names : List FileName) (from to : ℕ) → Contains names (Component from to) → Contains (intervals_of names) (record { from = from; to = to })
interval_there [] from to member = absurd (no_member (Component from to) member)
interval_there (Component f t ∷ names) from to member = elim (member_cases (Component f t) names (Component from to) member) [
  | inl same ↦
      let one : f ≡ from = cc in
      let two : t ≡ to = cc in
      let is : ◌≡◌ {A = Interval} (record { from = f; to = t }) (record { from = from; to = to }) = cc in
      subst (λ i. Contains (intervals_of (Component f t ∷ names)) i) is (member_first (record { from = f; to = t }) (intervals_of names))
  | inr further ↦ member_further (record { from = f; to = t }) (intervals_of names) (record { from = from; to = to }) (interval_there names from to further)
]
interval_there (Log g ∷ names) from to member = elim (member_cases (Log g) names (Component from to) member) [
  | inl same ↦ absurd (cc)
  | inr further ↦ interval_there names from to further
]

-- each content has an open file
component_open : (picture : Picture) (c : Content) (image : Image) → bytes_at picture (file_of c) ≡ image → LeavesComponent c image → Contains (open_in picture) (file_of c)
component_open picture c None is there = absurd there
component_open picture c (Some bytes) is there =
    let opened : is_open_file bytes ≡ true = ap is_open_file there.spelled in
    open_there picture (file_of c, bytes) (bytes_there picture (file_of c) bytes is) opened

tiles_there : (picture : Picture) (cs : List Content) → All (λ c. LeavesComponent c (bytes_at picture (file_of c))) cs → (t : Interval) → Contains (map tile_of cs) t → Contains (intervals_of (open_in picture)) t
tiles_there picture [] there t member = absurd (no_member t member)
tiles_there picture (c ∷ cs) there t member = elim (member_cases (tile_of c) (map tile_of cs) t member) [
  | inl same ↦ subst (λ i. Contains (intervals_of (open_in picture)) i) same (interval_there (open_in picture) c.from c.to (component_open picture c (bytes_at picture (file_of c)) refl (there 0 c (omega arith))))
  | inr further ↦ tiles_there picture cs (λ k d low. there (suc k) d (omega (arith, low))) t further
]

covered : (cs : List Content) (i : Interval) → Covers cs i.from i.to → AreAround (map tile_of cs) i
covered [] i covers = absurd covers
covered (c ∷ cs) i (inl here) = (tile_of c, member_first (tile_of c) (map tile_of cs), record { begins = here.0; ends = here.1 })
covered (c ∷ cs) i (inr further) = let rest = covered cs i further in (rest.0, member_further (tile_of c) (map tile_of cs) rest.0 rest.1, rest.2)

-- ---- the components, read

-- the component of a content is judged to be that content's
abbrev pub AreJudged : Type 0
AreJudged = (c : Content) (bytes : List ℕ) → IsComponent c bytes → component.file_judged (name_of (head_of c)) bytes ≡ Ok (component_index (version_of bytes) c)

component_own : AreJudged → (part : Partition) (c : Content) (bytes : List ℕ) → c.part ≡ part → IsComponent c bytes → own_judged part (name_of (head_of c)) bytes ≡ Ok (component_index (version_of bytes) c)
component_own judges part c bytes here is =
    let judged = judges c bytes is in
    let passes : stray part c.part.number c.part.count ≡ None = subst (λ (p : Partition). stray p c.part.number c.part.count ≡ None) here (no_stray c.part) in
    rw (judged, passes) refl

-- what stands under the name of a content is read as it
component_read : AreJudged → (part : Partition) (names : List Name) (c : Content) (image : Image) → c.part ≡ part → Extends c.names names → LeavesComponent c image → component_judged part names (file_of c) (unwrap_or image []) ≡ Ok (component_index (version_of (unwrap_or image [])) c)
component_read judges part names c None here extends there = absurd there
component_read judges part names c (Some bytes) here extends there = rw (component_own judges part c bytes here there, begins_from c.names names extends) refl

components_read : AreJudged → (part : Partition) (picture : Picture) (generation : ℕ) (pairs : Pairs) (names : List Name) (cs : List Content) (before : List Index) → GoOn part generation pairs names cs → All (λ c. LeavesComponent c (bytes_at picture (file_of c))) cs
    → components_judged part picture (map tile_of cs) names before ≡ Ok (before ++ map (index_of_file (bytes_at picture)) cs)
components_read judges part picture generation pairs names [] before go there = ap Ok (sym (append-nil before))
components_read judges part picture generation pairs names (c ∷ cs) before go there =
    let own = index_of_file (bytes_at picture) c in
    let one = component_read judges part names c (bytes_at picture (file_of c)) go.0.here go.0.extends (there 0 c (omega arith)) in
    let rest = components_read judges part picture c.to (after_writes pairs c.entries) c.names cs (before ++ own ∷ []) go.1 (λ k d low. there (suc k) d (omega (arith, low))) in
    let first : components_judged part picture (map tile_of (c ∷ cs)) names before ≡ components_judged part picture (map tile_of cs) c.names (before ++ own ∷ []) =
    ap (λ r. then_judged r (λ d. components_judged part picture (map tile_of cs) d.names (before ++ d ∷ []))) one in
    first ∙ (rest ∙ ap Ok (append_assoc before (own ∷ []) (map (index_of_file (bytes_at picture)) cs)))

-- ---- the logs, read

log_read : (part : Partition) (generation : ℕ) (ws : List Write) (bytes : List ℕ) → IsLog part generation ws bytes → log.log_judged bytes ≡ Ok (log_head part generation, map kept_write ws)
log_read part generation ws bytes is = log_spelled bytes (log_head part generation) is.frames is.spells ∙ ap (λ writes. Ok (log_head part generation, writes)) (sym is.all_are)

later_log : (h g : ℕ) → name_cmp (Log h) (Log g) ≡ Less → h < g
later_log h g less = grind (arith, common_steps)

-- what is found behind a file has a later name
found_later : (name : FileName) (files : Picture) (other : FileName) (bytes : List ℕ) → IsStrictlySortedBy name_cmp (name ∷ names_at files) → bytes_at files other ≡ Some bytes → name_cmp name other ≡ Less
found_later name files other bytes sorted is = first_less name (names_at files) other sorted (name_there files (other, bytes) (bytes_there files other bytes is))

-- it stands under its name also with the file before it
found_with : (file : FileName × List ℕ) (files : Picture) (other : FileName) (bytes : List ℕ) → IsStrictlySortedBy name_cmp (names_at (file ∷ files)) → bytes_at files other ≡ Some bytes → bytes_at (file ∷ files) other ≡ Some bytes
found_with file files other bytes sorted is =
    let apart = first_apart file.0 (names_at files) other sorted (name_there files (other, bytes) (bytes_there files other bytes is)) in
    rw apart is

-- the file of a log that has another name than the first stands behind it
found_behind : (file : FileName × List ℕ) (files : Picture) (other : FileName) (bytes : List ℕ) → bytes_at (file ∷ files) other ≡ Some bytes → ((file.0 ≡ other) × (file.1 ≡ bytes)) ⊎ (bytes_at files other ≡ Some bytes)
found_behind file files other bytes is = cases (same_name file.0 other) refl
  where
    cases : (same : Bool) → same_name file.0 other ≡ same → ((file.0 ≡ other) × (file.1 ≡ bytes)) ⊎ (bytes_at files other ≡ Some bytes)
    cases true same =
        let there : bytes_at (file ∷ files) other ≡ Some file.1 = rw same refl in
        inl (same_name-is file.0 other same, cc)
    cases false same =
        let there : bytes_at (file ∷ files) other ≡ bytes_at files other = rw same refl in
        inr (sym there ∙ is)

-- no open log has a generation from the first one on and below the second
abbrev NoneBetween : Picture → ℕ → ℕ → Type 0
NoneBetween files last g = (h : ℕ) → last < h → h < g → IfOpen files (Log h) (λ bytes. ⊥)

-- the file is no open log above a generation
abbrev IsOther : ℕ → FileName × List ℕ → Type 0
IsOther last file = (h : ℕ) → file.0 ≡ Log h → last < h → is_open_file file.1 ≡ true → ⊥

none_with : (file : FileName × List ℕ) (files : Picture) (g : ℕ) → IsStrictlySortedBy name_cmp (names_at (file ∷ files)) → IfOpen (file ∷ files) (Log g) (λ bytes. ⊥) → IfOpen files (Log g) (λ bytes. ⊥)
none_with file files g sorted none bytes is opened = none bytes (found_with file files (Log g) bytes sorted is) opened

logs_behind : (part : Partition) (last : ℕ) (file : FileName × List ℕ) (files : Picture) (g : ℕ) (logs : List (List Write)) → IsStrictlySortedBy name_cmp (names_at (file ∷ files)) → IsOther last file → last < g
    → HasLogs part (file ∷ files) g logs → HasLogs part files g logs
logs_behind part last file files g [] sorted other above has = λ h from. none_with file files h sorted (has h from)
logs_behind part last file files g (ws ∷ logs) sorted other above has = (
  elim (found_behind file files (Log g) has.0.0 has.0.1) [
    | inl same ↦ absurd (other g same.0 above (ap is_open_file same.1 ∙ log_is_open part g ws has.0.0 has.0.2))
    | inr behind ↦ (has.0.0, behind, has.0.2)
  ],
  logs_behind part last file files (g + 1) logs sorted other (omega (arith, above)) has.1,
)

-- behind the log of a generation the later ones stand
logs_later : (part : Partition) (file : FileName × List ℕ) (files : Picture) (h g : ℕ) (logs : List (List Write)) → IsStrictlySortedBy name_cmp (names_at (file ∷ files)) → file.0 ≡ Log h → h < g
    → HasLogs part (file ∷ files) g logs → HasLogs part files g logs
logs_later part file files h g [] sorted named below has = λ k from. none_with file files k sorted (has k from)
logs_later part file files h g (ws ∷ logs) sorted named below has = (
  elim (found_behind file files (Log g) has.0.0 has.0.1) [
    | inl same ↦ absurd (let is : Log h ≡ Log g = sym named ∙ same.0 in let equal : h ≡ g = cc in omega (arith, below, equal))
    | inr behind ↦ (has.0.0, behind, has.0.2)
  ],
  logs_later part file files h (g + 1) logs sorted named (omega (arith, below)) has.1,
)

-- what is read of the logs, and that they follow each other
record AreRead (last g : ℕ) (files : Picture) (before logs : List (List LogWrite)) : Type 0 where
  judged : logs_judged last before files ≡ Ok (before ++ logs)
  follow : (p : ℕ) → g ≡ p + 1 → Follow p (logs_above last (open_in files))

other_read : (last g : ℕ) (file : FileName × List ℕ) (files : Picture) (before logs : List (List LogWrite)) → is_open_file file.1 && is_above last file.0 ≡ false → AreRead last g files before logs → AreRead last g (file ∷ files) before logs
other_read last g file files before logs not rest = record { judged = rw not rest.judged; follow = λ p next. opened (is_open_file file.1) refl file.0 refl p (rest.follow p next) }
  where
    opened : (is : Bool) → is_open_file file.1 ≡ is → (name : FileName) → file.0 ≡ name → (p : ℕ) → Follow p (logs_above last (open_in files)) → Follow p (logs_above last (open_in (file ∷ files)))
    opened false closed name named p follow = rw closed follow
    opened true is (Component from to) named p follow = rw is (rw named follow)
    opened true is (Log h) named p follow =
        let below : nat_lt last h ≡ false = subst (λ (n : FileName). is_above last n ≡ false) named (second (is_open_file file.1) (is_above last file.0) is not) in
        rw is (rw named (rw below follow))
      where
        second : (a b : Bool) → a ≡ true → a && b ≡ false → b ≡ false
        second true b first is = is
        second false b first is = absurd (cc)

-- it is so for files whose logs above one generation begin at another
abbrev Reads : Partition → ℕ → Picture → Type 0
Reads part last files = (g : ℕ) (logs : List (List Write)) (before : List (List LogWrite)) → IsStrictlySortedBy name_cmp (names_at files) → last < g → NoneBetween files last g → HasLogs part files g logs → AreRead last g files before (map (map kept_write) logs)

over_last : (last h : ℕ) → is_above last (Log h) ≡ true → last < h
over_last last h is = grind (arith, nat_tests)

is_lower : (a b : ℕ) → a < b → nat_lt a b ≡ true
is_lower a b is = grind (arith, nat_tests)

module _ (part : Partition) (last : ℕ) (file : FileName × List ℕ) (files : Picture) (rest : Reads part last files) (g : ℕ) (before : List (List LogWrite)) (sorted : IsStrictlySortedBy name_cmp (names_at (file ∷ files))) (above : last < g)
    (none : NoneBetween (file ∷ files) last g) where
  behind_sorted : IsStrictlySortedBy name_cmp (names_at files)
  behind_sorted = sorted_tail name_cmp file.0 (names_at files) sorted

  none_behind : NoneBetween files last g
  none_behind h over under = none_with file files h sorted (none h over under)

  passed_by : (logs : List (List Write)) → HasLogs part (file ∷ files) g logs → is_open_file file.1 && is_above last file.0 ≡ false → AreRead last g (file ∷ files) before (map (map kept_write) logs)
  passed_by logs has not = other_read last g file files before (map (map kept_write) logs) not (rest g logs before behind_sorted above none_behind (logs_behind part last file files g logs sorted other above has))
    where
      other : IsOther last file
      other h named over opened =
          let yes : is_above last file.0 ≡ true = subst (λ (n : FileName). is_above last n ≡ true) (sym named) (is_lower last h over) in
          let both = and_from (is_open_file file.1) (is_above last file.0) opened yes in
          absurd (cc)

  module _ (h : ℕ) (named : file.0 ≡ Log h) (over : last < h) (opened : is_open_file file.1 ≡ true) where
    stands : bytes_at (file ∷ files) (Log h) ≡ Some file.1
    stands = subst (λ (n : FileName). bytes_at (file ∷ files) n ≡ Some file.1) named (rw (same_name-refl file.0) refl)

    log_sorted : IsStrictlySortedBy name_cmp (Log h ∷ names_at files)
    log_sorted = subst (λ (n : FileName). IsStrictlySortedBy name_cmp (n ∷ names_at files)) named sorted

    none_later : h ≡ g → NoneBetween files last (g + 1)
    none_later same k k_over under bytes is is_open = elim (cases_lt k g) [
      | inl below ↦ none_behind k k_over below bytes is is_open
      | inr from ↦
          let later = later_log h k (found_later (Log h) files (Log k) bytes log_sorted is) in
          omega (arith, later, from, same, under)
    ]

    read_next : h ≡ g → (ws : List Write) (logs : List (List Write)) → IsLog part g ws file.1 → HasLogs part (file ∷ files) (g + 1) logs → AreRead last g (file ∷ files) before (map (map kept_write) (ws ∷ logs))
    read_next same ws logs is has = record {
      judged =
          let yes : is_open_file file.1 && is_above last file.0 ≡ true = and_from (is_open_file file.1) (is_above last file.0) opened (subst (λ (n : FileName). is_above last n ≡ true) (sym named) (is_lower last h over)) in
          let one = log_read part g ws file.1 is in
          let step : logs_judged last before (file ∷ files) ≡ logs_judged last (before ++ map kept_write ws ∷ []) files = rw (yes, one) refl in
          step ∙ (next.judged ∙ ap Ok (append_assoc before (map kept_write ws ∷ []) (map (map kept_write) logs)));
      follow = λ p begins.
          let yes = is_lower last h over in
          let follows = next.follow h (ap (λ n. n + 1) (sym same)) in
          rw opened (rw named (rw yes (same ∙ begins, follows)));
    }
      where
        next : AreRead last (g + 1) files (before ++ map kept_write ws ∷ []) (map (map kept_write) logs)
        next = rest (g + 1) logs (before ++ map kept_write ws ∷ []) behind_sorted (omega (arith, above)) (none_later same) (logs_later part file files h (g + 1) logs sorted named (omega (arith, same)) has)

    read_own : (logs : List (List Write)) → g ≤ h → HasLogs part (file ∷ files) g logs → AreRead last g (file ∷ files) before (map (map kept_write) logs)
    read_own [] from has = absurd (has h from file.1 stands opened)
    read_own (ws ∷ logs) from has = elim (cases_lt g h) [
      | inl higher ↦ elim (found_behind file files (Log g) has.0.0 has.0.1) [
        | inl same ↦ absurd (let is : Log h ≡ Log g = sym named ∙ same.0 in let equal : h ≡ g = cc in omega (arith, higher, equal))
        | inr behind ↦ absurd (let later = later_log h g (found_later (Log h) files (Log g) has.0.0 log_sorted behind) in omega (arith, later, higher))
      ]
      | inr low ↦
          let same : h ≡ g = omega (arith, from, low) in
          let there : bytes_at (file ∷ files) (Log g) ≡ Some file.1 = subst (λ n. bytes_at (file ∷ files) (Log n) ≡ Some file.1) same stands in
          let found = has.0.1 in
          let bytes : has.0.0 ≡ file.1 = cc in
          read_next same ws logs (subst (λ (b : List ℕ). IsLog part g ws b) bytes has.0.2) has.1
    ]

    read_log : (logs : List (List Write)) → HasLogs part (file ∷ files) g logs → AreRead last g (file ∷ files) before (map (map kept_write) logs)
    read_log logs has = elim (cases_lt h g) [
      | inl below ↦ absurd (none h over below file.1 stands opened)
      | inr from ↦ read_own logs from has
    ]

  read_more : (logs : List (List Write)) → HasLogs part (file ∷ files) g logs → AreRead last g (file ∷ files) before (map (map kept_write) logs)
  read_more logs has = cases (is_open_file file.1 && is_above last file.0) refl
    where
      named_so : (name : FileName) → file.0 ≡ name → is_above last name ≡ true → is_open_file file.1 ≡ true → AreRead last g (file ∷ files) before (map (map kept_write) logs)
      named_so (Component from to) named over opened = absurd (cc)
      named_so (Log h) named over opened = read_log h named (over_last last h over) opened logs has

      cases : (is : Bool) → is_open_file file.1 && is_above last file.0 ≡ is → AreRead last g (file ∷ files) before (map (map kept_write) logs)
      cases false not = passed_by logs has not
      cases true both = let parts = and_parts (is_open_file file.1) (is_above last file.0) both in named_so file.0 refl parts.1 parts.0

logs_read : (part : Partition) (last : ℕ) (files : Picture) → Reads part last files
logs_read part last [] g [] before sorted above none has = record { judged = ap Ok (sym (append-nil before)); follow = λ p begins. tt }
logs_read part last [] g (ws ∷ logs) before sorted above none has = let is = has.0.1 in absurd (cc)
logs_read part last (file ∷ files) g logs before sorted above none has = read_more part last file files (logs_read part last files) g before sorted above none logs has

-- ---- all of it

pub lawful_read : AreJudged → (part : Partition) (picture : Picture) (cs : List Content) (logs : List (List Write)) → IsStrictlySortedBy name_cmp (names_at picture) → Opens part picture cs logs → OpeningJudged part picture (Ok (found_of (bytes_at picture) cs logs))
lawful_read judges part picture cs logs sorted o =
    all_answers part picture tiles (map (index_of_file (bytes_at picture)) cs) (map (map kept_write) logs) passed together (components_read judges part picture 0 [] [] cs [] o.list o.there) (ap (λ last. logs_judged last [] picture) ends ∙ read.judged)
  where
    tiles : List Interval
    tiles = map tile_of cs

    ends : end_of 0 tiles ≡ last_of cs
    ends = ends_so 0 cs

    passes : (name : FileName) (bytes : List ℕ) → bytes_at picture name ≡ Some bytes → is_open_file bytes ≡ true → head_refused part name bytes ≡ None
    passes (Component from to) bytes is opened = component_passes part from to bytes (o.components from to bytes is opened).0
    passes (Log generation) bytes is opened = log_passes part generation bytes (o.heads generation bytes is opened)

    passed : heads_refused part picture ≡ None
    passed = heads_pass part picture (λ file member opened. passes file.0 file.1 (member_bytes picture file sorted member) opened)

    around : (i : Interval) → Contains (intervals_of (open_in picture)) i → AreAround tiles i
    around i member =
        let f = open_from picture (Component i.from i.to) (named_member (open_in picture) i member) in
        covered cs i (o.components i.from i.to f.bytes (member_bytes picture (Component i.from i.to, f.bytes) sorted f.there) f.opened).1

    none : NoneBetween picture (last_of cs) (last_of cs + 1)
    none h over under = absurd (omega (arith, over, under))

    read : AreRead (last_of cs) (last_of cs + 1) picture [] (map (map kept_write) logs)
    read = logs_read part (last_of cs) picture (last_of cs + 1) logs [] sorted (omega arith) none o.logs_there

    together : GoTogether (open_in picture) tiles
    together = record {
      tiling = record { tile = tiles_follow part 0 [] [] cs o.list; there = tiles_there picture cs o.there; around = around };
      logs = subst (λ last. Follow last (logs_above last (open_in picture))) (sym ends) (read.follow (last_of cs) refl);
    }
