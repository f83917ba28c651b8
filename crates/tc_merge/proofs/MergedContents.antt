-- The merge of components that tell contents is the component of the contents' merge.
use Rattle.std.proofs.Common.{◌≡◌, ◌∙◌, ◌+◌, ℕ, Bool, true, false, List, [], ◌∷◌, ◌++◌, Option, None, Some, map, refl, sym, ap, subst, arith, filter}
use Rattle.std.specs.Prelude.{◌==◌, if◌then◌else◌, All, flat_map, is_some, option_map}
use Rattle.std.specs.List.{AllZip}
use Rattle.std.proofs.lemmas.List.{map-append}
use Rattle.std.proofs.lemmas.List.Elements.{All-nil, All-cons, All-head, All-tail, All-filter}
use Rattle.tc_model.specs.Dictionary.{IsDictionary, Extends}
use Rattle.tc_model.specs.Document.{Name, Document}
use Rattle.tc_model.specs.Keyed.{Keyed, with_value}
use Rattle.tc_model.proofs.DictionaryGrowth.{Extends-same, Extends-trans}
use Rattle.tc_model.proofs.ReadValues.{map-with_value}
use Rattle.tc_schema_model.specs.Counted.{Counted, nothing}
use Rattle.tc_plain_model.specs.Writes.{Write}
use Rattle.tc_lsm_model.specs.Contents.{Content, Partition}
use Rattle.tc_lsm_model.specs.Lists as lists
use Rattle.tc_lsm_model.specs.Merges.{entries_of, last_entries, merged_entries, IsMerge}
use Rattle.tc_component.specs.declared.head.Head.{Head}
use Rattle.tc_component.specs.Loading.{ComponentState}
use Rattle.tc_component.specs.Rows.{record_in, row_of, rows_of, part_of, component_bytes, IsShortWrite}
use Rattle.tc_component.specs.Spelling.{written_version, Index, file_bytes}
use Rattle.tc_component.specs.Loaded.{IsLoadedOf}
use Rattle.tc_merge.specs.Merging.{rows_told, kept, newest_names, newest_schema, merge_bytes, Tile, GrowNames, IsRun}
use Rattle.tc_merge.specs.Newest.{newest}
use Rattle.tc_merge.proofs.NewestValues.{put_all, All-put_all}
use Rattle.tc_merge.proofs.ToldRows.{RecordsRepack, RecordsStay, told_rows, same_rows}

-- ---- rows that stand for writes

put_all-read : (names : List Name) (es ws : Keyed (Option Document)) → put_all (rows_of names es) (rows_of names ws) ≡ rows_of names (put_all es ws)
put_all-read names es [] = refl
put_all-read names es (w ∷ ws) =
    ap (λ rows. put_all rows (rows_of names ws)) (sym (map-with_value (option_map (record_in written_version names)) w.0 w.1 es)) ∙ put_all-read names (with_value w.0 w.1 es) ws

flat_rows : (names : List Name) (cs : List Content) → flat_map (λ l. l) (map (λ c. rows_of names c.entries) cs) ≡ rows_of names (entries_of cs)
flat_rows names [] = refl
flat_rows names (c ∷ cs) = ap (λ rest. rows_of names c.entries ++ rest) (flat_rows names cs) ∙ sym (map-append (row_of names) c.entries (entries_of cs))

newest_rows : (names : List Name) (cs : List Content) → newest (map (λ c. rows_of names c.entries) cs) ≡ rows_of names (last_entries (entries_of cs))
newest_rows names cs = ap (put_all []) (flat_rows names cs) ∙ put_all-read names [] (entries_of cs)

filter-rows : (names : List Name) (ws : List Write) → filter (λ row. is_some row.1) (rows_of names ws) ≡ rows_of names (filter (λ w. is_some w.1) ws)
filter-rows names [] = refl
filter-rows names ((key, None) ∷ ws) = filter-rows names ws
filter-rows names ((key, Some d) ∷ ws) = ap (λ rows. row_of names (key, Some d) ∷ rows) (filter-rows names ws)

kept_rows : (names : List Name) (from : ℕ) (cs : List Content) → kept from (newest (map (λ c. rows_of names c.entries) cs)) ≡ rows_of names (merged_entries from cs)
kept_rows names from cs = ap (kept from) (newest_rows names cs) ∙ cases (from == 1)
  where
    cases : (b : Bool) → (if b then filter (λ row. is_some row.1) (rows_of names (last_entries (entries_of cs))) else rows_of names (last_entries (entries_of cs)))
        ≡ rows_of names (if b then filter (λ w. is_some w.1) (last_entries (entries_of cs)) else last_entries (entries_of cs))
    cases true = filter-rows names (last_entries (entries_of cs))
    cases false = refl

short-append : (ws vs : List Write) → All IsShortWrite ws → All IsShortWrite vs → All IsShortWrite (ws ++ vs)
short-append [] vs short more = more
short-append (w ∷ ws) vs short more = All-cons IsShortWrite w (ws ++ vs) (All-head IsShortWrite w ws short) (short-append ws vs (All-tail IsShortWrite w ws short) more)

short_entries : (cs : List Content) → All (λ c. All IsShortWrite c.entries) cs → All IsShortWrite (entries_of cs)
short_entries [] all = All-nil IsShortWrite
short_entries (c ∷ cs) all = short-append c.entries (entries_of cs) (All-head (λ (d : Content). All IsShortWrite d.entries) c cs all) (short_entries cs (All-tail (λ (d : Content). All IsShortWrite d.entries) c cs all))

short_merged : (from : ℕ) (cs : List Content) → All (λ c. All IsShortWrite c.entries) cs → All IsShortWrite (merged_entries from cs)
short_merged from cs all = cases (from == 1) (All-put_all IsShortWrite [] (entries_of cs) (All-nil IsShortWrite) (short_entries cs all))
  where
    cases : (b : Bool) → All IsShortWrite (last_entries (entries_of cs)) → All IsShortWrite (if b then filter (λ w. is_some w.1) (last_entries (entries_of cs)) else last_entries (entries_of cs))
    cases true short = All-filter (λ w. is_some w.1) IsShortWrite (last_entries (entries_of cs)) short
    cases false short = short

-- ---- the components and their contents

module _ {F : Type 0} (content : F → Option (List ℕ)) where
  names_are : (names : List Name) (run : List (ComponentState F)) (cs : List Content) → AllZip (IsLoadedOf content) run cs → newest_names names run ≡ lists.newest_names names cs
  names_are names [] [] all = refl
  names_are names [] (c ∷ cs) all = absurd all
  names_are names (m ∷ run) [] all = absurd all
  names_are names (m ∷ run) (c ∷ cs) all = ap (λ (i : Index). newest_names i.names run) all.0.index ∙ names_are c.names run cs all.1

  schema_is : (schema : Counted) (run : List (ComponentState F)) (cs : List Content) → AllZip (IsLoadedOf content) run cs → newest_schema schema run ≡ lists.newest_schema schema cs
  schema_is schema [] [] all = refl
  schema_is schema [] (c ∷ cs) all = absurd all
  schema_is schema (m ∷ run) [] all = absurd all
  schema_is schema (m ∷ run) (c ∷ cs) all = ap (λ (i : Index). newest_schema i.schema run) all.0.index ∙ schema_is c.schema run cs all.1

  grown : (names : List Name) (run : List (ComponentState F)) → GrowNames names run → Extends (newest_names names run) names
  grown names [] grow = Extends-same names
  grown names (m ∷ run) grow = Extends-trans (newest_names m.index.names run) m.index.names names (grown m.index.names run grow.1) grow.0

  known : (names : List Name) (run : List (ComponentState F)) (cs : List Content) → AllZip (IsLoadedOf content) run cs → IsDictionary names → IsDictionary (newest_names names run)
  known names [] [] all is = is
  known names [] (c ∷ cs) all is = absurd all
  known names (m ∷ run) [] all is = absurd all
  known names (m ∷ run) (c ∷ cs) all is = known m.index.names run cs all.1 (subst (λ (i : Index). IsDictionary i.names) (sym all.0.index) all.0.is.content.dictionary)

  rows_are : RecordsRepack → RecordsStay → (names final : List Name) (run : List (ComponentState F)) (cs : List Content) → AllZip (IsLoadedOf content) run cs → GrowNames names run → newest_names names run ≡ final → IsDictionary final
      → map (rows_told content) run ≡ map (λ c. rows_of final c.entries) cs
  rows_are repack stay names final [] [] all grow is dictionary = refl
  rows_are repack stay names final [] (c ∷ cs) all grow is dictionary = absurd all
  rows_are repack stay names final (m ∷ run) [] all grow is dictionary = absurd all
  rows_are repack stay names final (m ∷ run) (c ∷ cs) all grow is dictionary =
      let component = all.0.is in
      let own : m.index.names ≡ c.names = ap (λ (i : Index). i.names) all.0.index in
      let extends : Extends final c.names = subst (λ ns. Extends final ns) own (subst (λ ns. Extends ns m.index.names) is (grown m.index.names run grow.1)) in
      ap (λ rows. rows ∷ map (rows_told content) run) (told_rows content repack m c all.0 ∙ same_rows stay c.names final c.entries component.content.dictionary component.content.entries component.records dictionary extends)
      ∙ ap (λ rest. rows_of final c.entries ∷ rest) (rows_are repack stay m.index.names final run cs all.1 grow.1 is dictionary)

  all_short : (run : List (ComponentState F)) (cs : List Content) → AllZip (IsLoadedOf content) run cs → All (λ c. All IsShortWrite c.entries) cs
  all_short [] [] all = All-nil (λ (c : Content). All IsShortWrite c.entries)
  all_short [] (c ∷ cs) all = absurd all
  all_short (m ∷ run) [] all = absurd all
  all_short (m ∷ run) (c ∷ cs) all = All-cons (λ (d : Content). All IsShortWrite d.entries) c cs all.0.is.records (all_short run cs all.1)

  tiled : (g to : ℕ) (run : List (ComponentState F)) (cs : List Content) → AllZip (IsLoadedOf content) run cs → Tile (g + 1) to run → lists.last_after g cs ≡ to
  tiled g to [] [] all tile = omega (arith, tile)
  tiled g to [] (c ∷ cs) all tile = absurd all
  tiled g to (m ∷ run) [] all tile = absurd all
  tiled g to (m ∷ run) (c ∷ cs) all tile = tiled c.to to run cs all.1 (subst (λ (i : Index). Tile (i.head.to + 1) to run) all.0.index tile.1)

-- ---- the merge

pub record IsMade {F : Type 0} (content : F → Option (List ℕ)) (head : Head) (run : List (ComponentState F)) (cs : List Content) (c : Content) : Type 0 where
  pub merge : IsMerge cs c
  pub short : All IsShortWrite c.entries
  pub bytes : component_bytes c ≡ merge_bytes content head run

abbrev pub merge_of : Head → List Content → Content
merge_of head cs = record { part = part_of head; from = head.from; to = head.to; entries = merged_entries head.from cs; names = lists.names_of cs; schema = lists.schema_of cs }

same_part : (number count : ℕ) (p : Partition) → p.number ≡ number → p.count ≡ count → (record { number = number; count = count }) ≡ p
same_part number count p one two = ap (λ n. record { number = n; count = count }) (sym one) ∙ ap (λ n. record { number = p.number; count = n }) (sym two)

pub made : {F : Type 0} (content : F → Option (List ℕ)) → RecordsRepack → RecordsStay → (head : Head) (run : List (ComponentState F)) (cs : List Content) → IsRun head run → AllZip (IsLoadedOf content) run cs → IsMade content head run cs (merge_of head cs)
made content repack stay head [] cs is all = absurd (omega (arith, is.several))
made content repack stay head (m ∷ run) [] is all = absurd all
made {F} content repack stay head (m ∷ run) (c ∷ cs) is all =
    let first : m.index.head.from ≡ c.from = ap (λ (i : Index). i.head.from) all.0.index in
    let from : head.from ≡ c.from = sym is.tile.0 ∙ first in
    let number : c.part.number ≡ head.number = sym (ap (λ (i : Index). i.head.number) all.0.index) ∙ All-head (λ (n : ComponentState F). n.index.head.number ≡ head.number) m run is.number in
    let count : c.part.count ≡ head.count = sym (ap (λ (i : Index). i.head.count) all.0.index) ∙ All-head (λ (n : ComponentState F). n.index.head.count ≡ head.count) m run is.count in
    let names = names_are content [] (m ∷ run) (c ∷ cs) all in
    let schema = schema_is content nothing (m ∷ run) (c ∷ cs) all in
    let final = lists.names_of (c ∷ cs) in
    let dictionary : IsDictionary final = subst IsDictionary names (known content m.index.names run cs all.1 (subst (λ (i : Index). IsDictionary i.names) (sym all.0.index) all.0.is.content.dictionary)) in
    let rows : map (rows_told content) (m ∷ run) ≡ map (λ d. rows_of final d.entries) (c ∷ cs) = rows_are content repack stay [] final (m ∷ run) (c ∷ cs) all is.names names dictionary in
    record {
      merge = record {
        first = c;
        others = cs;
        is = refl;
        part = same_part head.number head.count c.part number count;
        from = from;
        to = sym (tiled content c.to head.to run cs all.1 (subst (λ (i : Index). Tile (i.head.to + 1) head.to run) all.0.index is.tile.1));
        entries = ap (λ g. merged_entries g (c ∷ cs)) from;
        names = refl;
        schema = refl;
      };
      short = short_merged head.from (c ∷ cs) (all_short content (m ∷ run) (c ∷ cs) all);
      bytes = ap (λ rs. file_bytes head rs final (lists.schema_of (c ∷ cs))) (sym (ap (kept head.from) (ap newest rows) ∙ kept_rows final head.from (c ∷ cs)))
          ∙ ap (λ ns. file_bytes head (kept head.from (newest (map (rows_told content) (m ∷ run)))) ns (lists.schema_of (c ∷ cs))) (sym names)
          ∙ ap (file_bytes head (kept head.from (newest (map (rows_told content) (m ∷ run)))) (newest_names [] (m ∷ run))) (sym schema);
    }
