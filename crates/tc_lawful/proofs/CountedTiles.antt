-- The components that were read tile the generations as the contents that they are of.
use Rattle.std.proofs.Common.{◌≡◌, ◌∙◌, ◌≤◌, ◌+◌, ◌*◌, ℕ, Bool, true, false, List, [], ◌∷◌, ◌++◌, map, Option, None, Some, Result, Ok, Err, length, take, drop, refl, sym, subst, ap, inl, inr, append_assoc, append-nil}
use Rattle.std.specs.Prelude.{All, if◌then◌else◌, unwrap_or}
use Rattle.std.proofs.lemmas.List.Elements.{All-cons, All-nil}
use Rattle.tc_model.specs.Document.{Name}
use Rattle.tc_lsm_model.specs.Contents.{Content, Partition}
use Rattle.tc_lsm_model.specs.Lists.{Covers, last_after}
use Rattle.tc_names.specs.Section.{read_section, section}
use Rattle.tc_schema.specs.Reading.{read_schema}
use Rattle.tc_store.specs.declared.file_name.FileName.{FileName}
use Rattle.tc_store.specs.Disk.{Picture, bytes_at}
use Rattle.tc_store.specs.Judging.{Damage, damage, or_damage}
use Rattle.tc_store.proofs.Judged.{judged_parts, same_Ok}
use Rattle.tc_component.specs.declared.head.Head.{Head}
use Rattle.tc_component.specs.declared.head.Sizes.{Sizes}
use Rattle.tc_component.specs.Layout.{directory_place, names_place, slot_size}
use Rattle.tc_component.specs.Reading.{directory_read, file_judged, front_judged, front_of, rest_judged, version_of}
use Rattle.tc_component.specs.Rows.{component_index}
use Rattle.tc_component.specs.Spelling.{Index, name_of, sizes_in, written_version}
use Rattle.tc_recover.specs.declared.interval.Interval.{Interval}
use Rattle.tc_recover.specs.Lawful.{index_of_file}
use Rattle.tc_recover.specs.Loading.{begins_with, component_judged, components_judged, names_judged, own_judged, then_judged, tile_name, unless}
use Rattle.tc_recover.specs.Loads.{file_then}
use Rattle.tc_recover.specs.Refusals.{Refusal, breaks, stray}
use Rattle.tc_recover.specs.Tilings.{AreAround, end_of}
use Rattle.tc_recover.proofs.Members.{member_cases, no_member}
use Rattle.tc_lawful.proofs.SpelledHeads.{front_parts, named_so}

-- ---- what was judged, taken apart

pub next_parts : {A B : Type 0} (judged : Result A Refusal) (next : A → Result B Refusal) (y : B) → then_judged judged next ≡ Ok y → (x : A) × (judged ≡ Ok x) × (next x ≡ Ok y)
next_parts (Ok x) next y is = (x, refl, is)
next_parts (Err refusal) next y is = absurd (cc)

pub file_parts : {A B : Type 0} (name : FileName) (judged : Result A Damage) (next : A → Result B Refusal) (y : B) → file_then name judged next ≡ Ok y → (x : A) × (judged ≡ Ok x) × (next x ≡ Ok y)
file_parts name (Ok x) next y is = (x, refl, is)
file_parts name (Err d) next y is = absurd (cc)

pub same_answer : {A : Type 0} (x y : A) → ◌≡◌ {A = Result A Refusal} (Ok x) (Ok y) → x ≡ y
same_answer x y same = cc

same_unless : (refused : Option Refusal) (c d : Index) → unless refused c ≡ Ok d → c ≡ d
same_unless None c d is = same_answer c d is
same_unless (Some refusal) c d is = absurd (cc)

same_choice : (test : Bool) (refusal : Refusal) (c d : Index) → ◌≡◌ {A = Result Index Refusal} (if test then Ok c else Err refusal) (Ok d) → c ≡ d
same_choice true refusal c d is = same_answer c d is
same_choice false refusal c d is = absurd (cc)

-- ---- one component

-- what is judged of a whole file has the header that stands in front of it
head_of_rest : (version : ℕ) (h : Head × Sizes) (rest : List ℕ) (c : Index) → rest_judged version h rest ≡ Ok c → c.head ≡ h.0
head_of_rest version h rest c judged =
    let named = h.1.entries * slot_size in
    let one = judged_parts (or_damage (directory_read h.1.entries h.1.records [] (take named rest)) _) _ c judged in
    let two = judged_parts (or_damage (read_section (take h.1.names (drop named rest))) _) _ c one.2 in
    let three = judged_parts (or_damage (read_schema (length two.0) (drop (named + h.1.names) rest)) _) _ c two.2 in
    ap (λ (i : Index). i.head) (sym (same_Ok _ c three.2))

-- the component of a tile is what is judged of its file
tile_judged : (part : Partition) (older : List Name) (name : FileName) (bytes : List ℕ) (c : Index) → component_judged part older name bytes ≡ Ok c → file_judged name bytes ≡ Ok c
tile_judged part older name bytes c judged =
    let own = next_parts (own_judged part name bytes) (names_judged older name) c judged in
    let file = file_parts name (file_judged name bytes) _ own.0 own.1 in
    file.1 ∙ ap Ok (same_unless (stray part file.0.head.number file.0.head.count) file.0 own.0 file.2 ∙ same_choice (begins_with own.0.names older) (breaks name (damage (names_place (sizes_in own.0)) (section own.0.names))) own.0 c own.2)

-- it has its interval
tile_is : (part : Partition) (older : List Name) (tile : Interval) (bytes : List ℕ) (c : Index) → component_judged part older (tile_name tile) bytes ≡ Ok c → (c.head.from ≡ tile.from) × (c.head.to ≡ tile.to)
tile_is part older tile bytes c judged =
    let name = tile_name tile in
    let front = judged_parts (front_judged name (length bytes) (front_of bytes)) _ c (tile_judged part older name bytes c judged) in
    let head = head_of_rest (version_of bytes) front.0 (drop (directory_place front.0.1) bytes) c front.2 in
    let named = named_so tile.from tile.to front.0.0 (front_parts name (length bytes) (front_of bytes) front.0 front.1).named in
    (ap (λ (h : Head). h.from) head ∙ named.0, ap (λ (h : Head). h.to) head ∙ named.1)

-- ---- all of them

abbrev pub interval_in : Index → Interval
interval_in c = record { from = c.head.from; to = c.head.to }

same_tile : (tile : Interval) (c : Index) → c.head.from ≡ tile.from → c.head.to ≡ tile.to → tile ≡ interval_in c
same_tile tile c from to =
    let whole : tile ≡ record { from = tile.from; to = tile.to } = refl in
    cc

-- it is judged of the file under its name
abbrev pub IsJudgedAt : Picture → Index → Type 0
IsJudgedAt picture c = file_judged (name_of c.head) (unwrap_or (bytes_at picture (name_of c.head)) []) ≡ Ok c

-- what was read stands behind what was there before, and has the intervals of the tiles
record AreOf (picture : Picture) (tiles : List Interval) (before all : List Index) : Type 0 where
  more : List Index
  behind : all ≡ before ++ more
  intervals : tiles ≡ map interval_in more
  each : All (IsJudgedAt picture) more

components_of : (part : Partition) (picture : Picture) (tiles : List Interval) (names : List Name) (before all : List Index) → components_judged part picture tiles names before ≡ Ok all → AreOf picture tiles before all
components_of part picture [] names before all judged = record { more = []; behind = same_answer all before (sym judged) ∙ sym (append-nil before); intervals = refl; each = All-nil (IsJudgedAt picture) }
components_of part picture (tile ∷ tiles) names before all judged =
    let one = next_parts (component_judged part names (tile_name tile) (unwrap_or (bytes_at picture (tile_name tile)) [])) _ all judged in
    let c = one.0 in
    let rest = components_of part picture tiles c.names (before ++ c ∷ []) all one.2 in
    let is = tile_is part names tile (unwrap_or (bytes_at picture (tile_name tile)) []) c one.1 in
    let same = same_tile tile c is.0 is.1 in
    record {
      more = c ∷ rest.more;
      behind = rest.behind ∙ append_assoc before (c ∷ []) rest.more;
      intervals = ap (λ t. t ∷ tiles) same ∙ ap (λ ts. interval_in c ∷ ts) rest.intervals;
      each = All-cons (IsJudgedAt picture) c rest.more
          (subst (λ (t : Interval). file_judged (tile_name t) (unwrap_or (bytes_at picture (tile_name t)) []) ≡ Ok c) same (tile_judged part names (tile_name tile) (unwrap_or (bytes_at picture (tile_name tile)) []) c one.1)) rest.each;
    }

-- the intervals of contents, as their components have them in each version
abbrev pub tiles_of : List Content → List Interval
tiles_of cs = map interval_in (map (component_index written_version) cs)

-- where the components of contents were read, the tiles are theirs
pub tiles_are : (part : Partition) (picture : Picture) (tiles : List Interval) (cs : List Content) → components_judged part picture tiles [] [] ≡ Ok (map (index_of_file (bytes_at picture)) cs) → tiles ≡ tiles_of cs
tiles_are part picture tiles cs judged =
    let read = components_of part picture tiles [] [] (map (index_of_file (bytes_at picture)) cs) judged in
    read.intervals ∙ ap (λ all. map interval_in all) (sym read.behind) ∙ of_files cs
  where
    of_files : (cs : List Content) → map interval_in (map (index_of_file (bytes_at picture)) cs) ≡ tiles_of cs
    of_files [] = refl
    of_files (c ∷ cs) = ap (λ ts. interval_in (component_index written_version c) ∷ ts) (of_files cs)

pub ends_with : (generation : ℕ) (cs : List Content) → end_of generation (tiles_of cs) ≡ last_after generation cs
ends_with generation [] = refl
ends_with generation (c ∷ cs) = ends_with c.to cs

-- what lies within one of the tiles is covered by its content
pub covers_from : (cs : List Content) (i : Interval) → AreAround (tiles_of cs) i → Covers cs i.from i.to
covers_from [] i around = absurd (no_member around.0 around.1)
covers_from (c ∷ cs) i around = elim (member_cases (interval_in (component_index written_version c)) (tiles_of cs) around.0 around.1) [
  | inl same ↦ inl (subst (λ (t : Interval). t.from ≤ i.from) (sym same) around.2.begins, subst (λ (t : Interval). i.to ≤ t.to) (sym same) around.2.ends)
  | inr further ↦ inr (covers_from cs i (around.0, further, around.2))
]

-- each component that was read is judged of its file
pub each_judged : (part : Partition) (picture : Picture) (tiles : List Interval) (all : List Index) → components_judged part picture tiles [] [] ≡ Ok all → All (IsJudgedAt picture) all
each_judged part picture tiles all judged =
    let read = components_of part picture tiles [] [] all judged in
    subst (All (IsJudgedAt picture)) (sym read.behind) read.each
