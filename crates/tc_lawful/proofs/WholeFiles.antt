-- Files of which an opening reads what is whole open as it.
use Rattle.std.proofs.Common.{◌≡◌, ◌∙◌, ◌<◌, ℕ, List, [], map, Option, None, Some, Ok, length, refl, sym, subst, ap, inl, inr}
use Rattle.std.specs.List.Sorted.{IsStrictlySortedBy}
use Rattle.tc_bytes.specs.Codec.{IsBytes}
use Rattle.tc_bytes.proofs.Fields.{IsBytes-drop, IsBytes-take}
use Rattle.tc_store.specs.declared.file_name.FileName.{FileName}
use Rattle.tc_store.specs.declared.file_name.FileName.TheVariants.{Component, Log}
use Rattle.tc_store.specs.Disk.{Picture, bytes_at}
use Rattle.tc_store.specs.NameOrder.{name_cmp}
use Rattle.tc_component.specs.Layout.{number_end}
use Rattle.tc_log.proofs.Logs.{opened_file}
use Rattle.tc_plain_model.specs.Writes.{Write}
use Rattle.tc_lsm_model.specs.Contents.{Content, Partition}
use Rattle.tc_lsm_model.specs.Lists.{last_of}
use Rattle.tc_machine.specs.Logs.{kept_write}
use Rattle.tc_machine.specs.Pictures.{Opens}
use Rattle.tc_recover.specs.declared.interval.Interval.{Interval}
use Rattle.tc_recover.specs.Loading.{components_judged}
use Rattle.tc_recover.specs.Loads.{logs_judged}
use Rattle.tc_recover.specs.Opening.{Found, HeadsThen, OpeningJudged, SortedJudged, open_in, tiles_judged}
use Rattle.tc_recover.specs.Refusals.{Refusal, heads_refused}
use Rattle.tc_recover.specs.Sorting.{Follow, GoTogether, logs_above}
use Rattle.tc_recover.specs.Tilings.{AreAround, end_of}
use Rattle.tc_lawful.specs.Files.{IsReadable, IsWhole}
use Rattle.tc_lawful.proofs.CountedTiles.{covers_from, ends_with, next_parts, same_answer, tiles_are, tiles_of}
use Rattle.tc_lawful.proofs.OpenFiles.{interval_there, open_passes}
use Rattle.tc_lawful.proofs.ReadLogs.{AreLogs, has_logs}
use Rattle.tc_lawful.proofs.SpelledHeads.{component_heads, log_heads}

-- ---- what was read, taken apart

-- no header was refused, the open files go together, and each part was read
pub record IsJudged (part : Partition) (picture : Picture) (found : Found) : Type 0 where
  pub passed : heads_refused part picture ≡ None
  pub tiles : List Interval
  pub together : GoTogether (open_in picture) tiles
  pub components : components_judged part picture tiles [] [] ≡ Ok found.components
  pub logs : logs_judged (end_of 0 tiles) [] picture ≡ Ok found.logs

tiles_parts : (part : Partition) (picture : Picture) (found : Found) → heads_refused part picture ≡ None → (tiles : List Interval) → GoTogether (open_in picture) tiles → tiles_judged part picture tiles ≡ Ok found → IsJudged part picture found
tiles_parts part picture found passed tiles together judged =
    let components = next_parts (components_judged part picture tiles [] []) _ found judged in
    let logs = next_parts (logs_judged (end_of 0 tiles) [] picture) _ found components.2 in
    let same : ◌≡◌ {A = Found} (record { components = components.0; logs = logs.0 }) found = same_answer _ found logs.2 in
    subst (IsJudged part picture) same (record { passed = passed; tiles = tiles; together = together; components = components.1; logs = logs.1 })

sorted_parts : (part : Partition) (picture : Picture) (found : Found) → heads_refused part picture ≡ None → SortedJudged part picture (Ok found) → IsJudged part picture found
sorted_parts part picture found passed (inl judged) = tiles_parts part picture found passed judged.0 judged.1 (sym judged.2)
sorted_parts part picture found passed (inr clash) = absurd (let is = clash.1 in cc)

pub judged_parts : (part : Partition) (picture : Picture) (found : Found) → OpeningJudged part picture (Ok found) → IsJudged part picture found
judged_parts part picture found judged = cases (heads_refused part picture) refl judged
  where
    cases : (refused : Option Refusal) → heads_refused part picture ≡ refused → HeadsThen refused (Ok found) (SortedJudged part picture (Ok found)) → IsJudged part picture found
    cases None passed sorted = sorted_parts part picture found passed sorted
    cases (Some refusal) refused is = absurd (cc)

-- ---- what is whole opens

pub whole_opens : (part : Partition) (picture : Picture) (found : Found) (cs : List Content) (logs : List (List Write)) → IsStrictlySortedBy name_cmp (map (λ file. file.0) picture) → IsReadable picture (last_of cs) → OpeningJudged part picture (Ok found)
    → IsWhole part picture found cs logs → Opens part picture cs logs
whole_opens part picture found cs logs sorted readable judged whole = record {
  list = whole.list;
  there = whole.there;
  components = λ from to bytes is opened.
      let head = readable.heads from to bytes is opened in (
        component_heads part from to bytes opened head.0 head.1 (open_passes part picture (Component from to) bytes read.passed is opened),
        covers_from cs (record { from = from; to = to }) (subst (λ ts. AreAround ts (record { from = from; to = to })) tiles (read.together.tiling.around (record { from = from; to = to }) (interval_there picture from to bytes is opened))),
      );
  heads = λ generation bytes is opened. log_heads part generation bytes (open_passes part picture (Log generation) bytes read.passed is opened);
  logs_there = has_logs part picture (last_of cs) logs sorted are (subst (λ last. logs_judged last [] picture ≡ Ok (map (map kept_write) logs)) ends (read.logs ∙ ap (λ f. Ok f.logs) whole.found_is))
      (subst (λ last. Follow last (logs_above last (open_in picture))) ends read.together.logs);
  writes = whole.writes;
  room = whole.room;
  few = whole.few;
}
  where
    read : IsJudged part picture found
    read = judged_parts part picture found judged

    tiles : read.tiles ≡ tiles_of cs
    tiles = tiles_are part picture read.tiles cs (read.components ∙ ap (λ f. Ok f.components) whole.found_is)

    ends : end_of 0 read.tiles ≡ last_of cs
    ends = ap (end_of 0) tiles ∙ ends_with 0 cs

    are : AreLogs part (last_of cs) picture
    are g above bytes is opened = (log_heads part g bytes (open_passes part picture (Log g) bytes read.passed is opened), readable.logs g above bytes is opened)

-- ---- files of bytes

pub bytes_readable : (picture : Picture) (last : ℕ) → ((name : FileName) (bytes : List ℕ) → bytes_at picture name ≡ Some bytes → IsBytes bytes × (length bytes < number_end)) → IsReadable picture last
bytes_readable picture last each = record {
  heads = λ from to bytes is opened. let of = each (Component from to) bytes is in (IsBytes-take 60 _ (IsBytes-drop 1 bytes of.0), of.1);
  logs = λ generation above bytes is opened head writes judged. opened_file bytes head writes (each (Log generation) bytes is).0 opened judged;
}
