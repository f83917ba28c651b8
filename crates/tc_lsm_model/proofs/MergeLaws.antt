-- A run of a list may be replaced by its merge.
use Rattle.std.proofs.Common.{◌≡◌, ℕ, Bool, true, false, List, [], ◌∷◌, ◌++◌, length, take, drop, sym, ap, ◌∙◌, subst, arith, append_assoc, filter, ◌+◌, ◌≤◌, inl, inr}
use Rattle.std.specs.Prelude.{◌==◌, if◌then◌else◌, All, fold, Option}
use Rattle.std.proofs.lemmas.List.{take-append-drop, take-append-le, drop-append-le, length-drop}
use Rattle.std.proofs.lemmas.List.Elements.{All-nil, All-head, All-tail, All-filter}
use Rattle.tc_model.specs.Document.{Name, Document}
use Rattle.tc_model.specs.Keyed.{Keyed, Ascends, with_value}
use Rattle.tc_model.proofs.KeyedOrder.{All-with_value}
use Rattle.tc_schema_model.specs.Counted.{nothing}
use Rattle.tc_plain_model.specs.Writes.{Pairs, Write, after_writes}
use Rattle.tc_lsm_model.specs.Contents.{Partition, Content, IsEntry, IsContent}
use Rattle.tc_lsm_model.specs.Lists.{Covers, held_over, live, newest_names, names_of, newest_schema, schema_of, last_after, last_of, GoesOn, GoOn, IsList}
use Rattle.tc_lsm_model.specs.Tables.{Table}
use Rattle.tc_lsm_model.specs.Flushes.{IsFlush}
use Rattle.tc_lsm_model.specs.Merges.{Run, before_run, in_run, behind_run, swapped, entries_of, last_entries, merged_entries, IsMerge}
use Rattle.tc_lsm_model.proofs.ListLaws.{held_over-append, last_after-append, newest_names-append, newest_schema-append, GoOn-append, GoOn-front, GoOn-back, last_after-grows, nothing_before, Ascends-live, one_content}
use Rattle.tc_lsm_model.proofs.Covering.{Covers-back, Covers-either, Covers-front, covered_within}
use Rattle.tc_lsm_model.proofs.ListNewest.{newest_here, newest_after}
use Rattle.tc_lsm_model.proofs.ListNames.{Extends-newest, entries_in}
use Rattle.tc_lsm_model.proofs.MergedEntries.{is_live, Ascends-merged, after-merged}

-- ---- what holds of each entry of a run holds of its merge

All-put_all : (P : Write → Type 0) (es : Keyed (Option Document)) (ws : List Write) → All P es → All P ws → All P (fold (λ entries w. with_value w.0 w.1 entries) es ws)
All-put_all P es [] old new = old
All-put_all P es (w ∷ ws) old new = All-put_all P (with_value w.0 w.1 es) ws (All-with_value P w.0 w.1 es (All-head P w ws new) old) (All-tail P w ws new)

all_merged : (P : Write → Type 0) (from : ℕ) (cs : List Content) → All P (entries_of cs) → All P (merged_entries from cs)
all_merged P from cs all = cases (from == 1) (All-put_all P [] (entries_of cs) (All-nil P) all)
  where
    cases : (b : Bool) → All P (last_entries (entries_of cs)) → All P (if b then filter is_live (last_entries (entries_of cs)) else last_entries (entries_of cs))
    cases true last = All-filter is_live P (last_entries (entries_of cs)) last
    cases false last = last

-- ---- the merge behind what is older

-- it goes on where its run did, and leaves what the run leaves
merged_goes_on : (part : Partition) (g : ℕ) (p : Pairs) (ns : List Name) (run : List Content) (c : Content) → GoOn part g p ns run → Ascends p → (g ≡ 0 → p ≡ []) → IsMerge run c
    → GoesOn part g p ns c × (after_writes p c.entries ≡ held_over p run)
merged_goes_on part g p ns run c all up none is =
    let all' : GoOn part g p ns (is.first ∷ is.others) = subst (λ cs. GoOn part g p ns cs) is.is all in
    let newest = newest_after part is.first.to (after_writes p is.first.entries) is.first.names is.first.schema is.others (newest_here part g p ns is.first all'.0) all'.1 in
    let names : c.names ≡ newest_names is.first.names is.others = is.names ∙ ap names_of is.is in
    let schema : c.schema ≡ newest_schema is.first.schema is.others = is.schema ∙ ap schema_of is.is in
    let to : c.to ≡ last_after is.first.to is.others = is.to ∙ ap last_of is.is in
    let leaves : after_writes p c.entries ≡ held_over p run = ap (λ es. after_writes p es) is.entries ∙ after-merged p is.first.from run up (λ one. none (omega (arith, one, all'.0.next))) in
    let leaves' : after_writes p c.entries ≡ held_over (after_writes p is.first.entries) is.others = leaves ∙ ap (held_over p) is.is in
    let known : All (IsEntry c.names) (entries_of run) = subst (λ names. All (IsEntry names) (entries_of run)) (sym (is.names ∙ ap names_of is.is)) (subst (λ cs. All (IsEntry (newest_names ns (is.first ∷ is.others))) (entries_of cs)) (sym is.is) (entries_in part g p ns (is.first ∷ is.others) all')) in
    let content : IsContent c = record {
      number = rw is.part all'.0.content.number;
      count = rw is.part all'.0.content.count;
      first = rw is.from all'.0.content.first;
      order = omega (arith, is.from, to, all'.0.content.order, last_after-grows part is.first.to (after_writes p is.first.entries) is.first.names is.others all'.1);
      last = rw to newest.last;
      ascends = rw is.entries (Ascends-merged is.first.from run);
      entries = subst (λ es. All (IsEntry c.names) es) (sym is.entries) (all_merged (IsEntry c.names) is.first.from run known);
      dictionary = rw names newest.dictionary;
      schema = rw (schema, names) newest.schema;
    } in (
      record {
        content = content;
        here = is.part ∙ all'.0.here;
        next = is.from ∙ all'.0.next;
        extends = rw names (Extends-newest part g p ns (is.first ∷ is.others) all');
        stands = rw (leaves', names, schema) newest.stands;
        room = rw leaves' newest.room;
      },
      leaves,
    )

-- ---- the merge in a list

-- a list that stands for another, with a merge in place of its run
pub record Replaces (part : Partition) (old new : List Content) (c : Content) : Type 0 where
  pub list : IsList part new
  pub live : live new ≡ live old
  pub names : names_of new ≡ names_of old
  pub schema : schema_of new ≡ schema_of old
  pub last : last_of new ≡ last_of old
  pub covers : (from to : ℕ) → Covers old from to → Covers new from to
  pub covered : Covers new c.from c.to
  pub content : IsContent c
  pub here : c.part ≡ part

-- the merge covers what its run did
covers_run : (part : Partition) (xs run ys : List Content) (c : Content) → IsList part (xs ++ (run ++ ys)) → IsMerge run c → (from to : ℕ) → Covers (xs ++ (run ++ ys)) from to → Covers (xs ++ c ∷ ys) from to
covers_run part xs run ys c all is from to covered = elim (Covers-either xs (run ++ ys) from to covered) [
  | inl in_front ↦ Covers-front xs (c ∷ ys) from to in_front
  | inr further ↦ elim (Covers-either run ys from to further) [
    | inl inside ↦ Covers-back xs (c ∷ ys) from to (inl (merged (subst (λ r. GoOn part (last_of xs) (live xs) (names_of xs) r) is.is mid) (subst (λ r. Covers r from to) is.is inside)))
    | inr behind ↦ Covers-back xs (c ∷ ys) from to (inr behind)
  ]
]
  where
    mid : GoOn part (last_of xs) (live xs) (names_of xs) run
    mid = GoOn-front part (last_of xs) (live xs) (names_of xs) run ys (GoOn-back part 0 [] [] xs (run ++ ys) all)

    merged : GoOn part (last_of xs) (live xs) (names_of xs) (is.first ∷ is.others) → Covers (is.first ∷ is.others) from to → (c.from ≤ from) × (to ≤ c.to)
    merged goes inside =
        let within = covered_within part (last_of xs) (live xs) (names_of xs) (is.first ∷ is.others) from to goes inside in
        let ends : c.to ≡ last_after is.first.to is.others = is.to ∙ ap last_of is.is in
        (omega (arith, is.from, goes.0.next, within.0), omega (arith, ends, within.1))

replaced : (part : Partition) (xs run ys : List Content) (c : Content) → IsList part (xs ++ (run ++ ys)) → IsMerge run c → Replaces part (xs ++ (run ++ ys)) (xs ++ c ∷ ys) c
replaced part xs run ys c all is =
    let front : IsList part xs = GoOn-front part 0 [] [] xs (run ++ ys) all in
    let rest : GoOn part (last_of xs) (live xs) (names_of xs) (run ++ ys) = GoOn-back part 0 [] [] xs (run ++ ys) all in
    let mid : GoOn part (last_of xs) (live xs) (names_of xs) run = GoOn-front part (last_of xs) (live xs) (names_of xs) run ys rest in
    let goes = merged_goes_on part (last_of xs) (live xs) (names_of xs) run c mid (Ascends-live xs) (λ none. nothing_before part [] [] xs front none) is in
    let back : GoOn part (last_after (last_of xs) run) (held_over (live xs) run) (newest_names (names_of xs) run) ys = GoOn-back part (last_of xs) (live xs) (names_of xs) run ys rest in
    let to : c.to ≡ last_after (last_of xs) run = is.to ∙ ap last_of is.is ∙ sym (ap (last_after (last_of xs)) is.is) in
    let names : c.names ≡ newest_names (names_of xs) run = is.names ∙ ap names_of is.is ∙ sym (ap (newest_names (names_of xs)) is.is) in
    let schema : c.schema ≡ newest_schema (schema_of xs) run = is.schema ∙ ap schema_of is.is ∙ sym (ap (newest_schema (schema_of xs)) is.is) in
    let back' : GoOn part c.to (after_writes (live xs) c.entries) c.names ys = rw (to, goes.1, names) back in
    record {
      list = GoOn-append part 0 [] [] xs (c ∷ ys) front (goes.0, back');
      live = held_over-append [] xs (c ∷ ys) ∙ ap (λ q. held_over q ys) goes.1 ∙ sym (held_over-append (live xs) run ys) ∙ sym (held_over-append [] xs (run ++ ys));
      names = newest_names-append [] xs (c ∷ ys) ∙ ap (λ ns. newest_names ns ys) names ∙ sym (newest_names-append (names_of xs) run ys) ∙ sym (newest_names-append [] xs (run ++ ys));
      schema = newest_schema-append nothing xs (c ∷ ys) ∙ ap (λ d. newest_schema d ys) schema ∙ sym (newest_schema-append (schema_of xs) run ys) ∙ sym (newest_schema-append nothing xs (run ++ ys));
      last = last_after-append 0 xs (c ∷ ys) ∙ ap (λ g. last_after g ys) to ∙ sym (last_after-append (last_of xs) run ys) ∙ sym (last_after-append 0 xs (run ++ ys));
      covers = covers_run part xs run ys c all is;
      covered = Covers-back xs (c ∷ ys) c.from c.to (inl (omega arith, omega arith));
      content = goes.0.content;
      here = goes.0.here;
    }

pub split_at_run : (run : Run) (cs : List Content) → before_run run cs ++ (in_run run cs ++ behind_run run cs) ≡ cs
split_at_run run cs = ap (λ rest. take run.first cs ++ rest) (take-append-drop run.length (drop run.first cs)) ∙ take-append-drop run.first cs

pub swapped_replaces : (part : Partition) (run : Run) (cs : List Content) (c : Content) → IsList part cs → IsMerge (in_run run cs) c → Replaces part cs (swapped run c cs) c
swapped_replaces part run cs c all is =
    subst (λ old. Replaces part old (swapped run c cs) c) (split_at_run run cs)
    (replaced part (before_run run cs) (in_run run cs) (behind_run run cs) c (subst (IsList part) (sym (split_at_run run cs)) all) is)

-- a flush behind the list is one behind it then
pub flush_stays : (part : Partition) (run : Run) (cs : List Content) (m : Content) (t : Table) (n : ℕ) (c : Content) → IsList part cs → IsMerge (in_run run cs) m → IsFlush part cs t n c → IsFlush part (swapped run m cs) t n c
flush_stays part run cs m t n c all is flush =
    let same = swapped_replaces part run cs m all is in
    record { entries = flush.entries; names = rw same.names flush.names; to = rw same.last flush.to; goes_on = rw (same.last, same.live, same.names) flush.goes_on }

-- a run stays where contents are added behind the list
within_first : (run : Run) (cs : List Content) → run.first + run.length ≤ length cs → run.first ≤ length cs
within_first run cs within = omega (arith, within)

pub in_run-append : (run : Run) (cs more : List Content) → run.first + run.length ≤ length cs → in_run run (cs ++ more) ≡ in_run run cs
in_run-append run cs more within =
    let rest : run.length ≤ length (drop run.first cs) = omega (arith, within, length-drop run.first cs) in
    ap (take run.length) (drop-append-le run.first cs more (within_first run cs within)) ∙ take-append-le run.length (drop run.first cs) more rest

pub swapped-append : (run : Run) (c : Content) (cs more : List Content) → run.first + run.length ≤ length cs → swapped run c (cs ++ more) ≡ swapped run c cs ++ more
swapped-append run c cs more within =
    let rest : run.length ≤ length (drop run.first cs) = omega (arith, within, length-drop run.first cs) in
    let before : before_run run (cs ++ more) ≡ before_run run cs = take-append-le run.first cs more (within_first run cs within) in
    let behind : behind_run run (cs ++ more) ≡ behind_run run cs ++ more = ap (drop run.length) (drop-append-le run.first cs more (within_first run cs within)) ∙ drop-append-le run.length (drop run.first cs) more rest in
    ap (λ front. front ++ c ∷ behind_run run (cs ++ more)) before ∙ ap (λ back. before_run run cs ++ c ∷ back) behind ∙ sym (append_assoc (before_run run cs) (c ∷ behind_run run cs) more)

-- a run has one merge
pub one_merge : (run : List Content) (c d : Content) → IsMerge run c → IsMerge run d → c ≡ d
one_merge run c d is are =
    let first : is.first ≡ are.first = first_is (is.first) are.first is.others are.others (sym is.is ∙ are.is) in
    one_content c d (is.part ∙ ap (λ f. f.part) first ∙ sym are.part) (is.from ∙ ap (λ f. f.from) first ∙ sym are.from) (is.to ∙ sym are.to)
    (is.entries ∙ ap (λ f. merged_entries f.from run) first ∙ sym are.entries) (is.names ∙ sym are.names) (is.schema ∙ sym are.schema)
  where
    first_is : (x y : Content) (xs ys : List Content) → x ∷ xs ≡ y ∷ ys → x ≡ y
    first_is x y xs ys same = cc
