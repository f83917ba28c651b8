-- As many keys of a part have a document as directories and tables show, as documents are live.
use Rattle.std.proofs.Common.{◌≡◌, ◌∙◌, ◌++◌, ℕ, Bool, List, [], ◌∷◌, Option, Some, None, is_some, length, map, refl, sym, ap}
use Rattle.std.specs.Prelude.{if◌then◌else◌, option_map}
use Rattle.std.specs.List.{AllZip}
use Rattle.std.proofs.lemmas.List.{length-map}
use Rattle.tc_component.specs.Loading.{ComponentState}
use Rattle.tc_component.specs.declared.slot.Slot.{Slot}
use Rattle.tc_list.specs.Contents.{marks, Shows}
use Rattle.tc_lsm_model.specs.Contents.{Content}
use Rattle.tc_lsm_model.specs.Lists.{live, held_over}
use Rattle.tc_lsm_model.specs.Tables as documents
use Rattle.tc_machine.specs.State.{Sealed, sealed_table}
use Rattle.tc_memory.specs.DocumentTables.{kept_held, kept_table}
use Rattle.tc_memory.specs.Table as memory
use Rattle.tc_model.proofs.ReadValues.{map-with_value, map-without_key}
use Rattle.tc_model.specs.Document.{Document}
use Rattle.tc_model.specs.Keyed.{on_value}
use Rattle.tc_plain_model.proofs.WriteLaws.{after_writes-append}
use Rattle.tc_plain_model.specs.Writes.{Pairs, Write, after_write, after_writes}
use Rattle.tc_part_model.proofs.HeldKeys.{over_table}
use Rattle.tc_part_model.specs.Meaning.{all_shown, KeepsSealed, IsPart}
use Rattle.tc_part_model.specs.PartState.{Told}
use Rattle.tc_part_model.specs.PartView.{PartView, below_of, stored_with, table_of}
use Rattle.tc_query.specs.Shown.{live_keys, shown, shown_held, shown_listed, shown_sealed, shown_slot, shown_table, unread}

-- documents that were not read, in place of these
abbrev blank : Pairs → Pairs
blank ps = map (on_value (λ d. unread)) ps

abbrev blank_write : Write → Write
blank_write w = (w.0, option_map (λ d. unread) w.1)

after_blank : (ps : Pairs) (w : Write) → after_write (blank ps) (blank_write w) ≡ blank (after_write ps w)
after_blank ps (key, Some d) = sym (map-with_value (λ d. unread) key d ps)
after_blank ps (key, None) = sym (map-without_key (λ d. unread) key ps)

all_blank : (ps : Pairs) (ws : List Write) → after_writes (blank ps) (map blank_write ws) ≡ blank (after_writes ps ws)
all_blank ps [] = refl
all_blank ps (w ∷ ws) = ap (λ (qs : Pairs). after_writes qs (map blank_write ws)) (after_blank ps w) ∙ all_blank (after_write ps w) ws

-- ---- directories

abbrev unmarked : ℕ × Bool → Write
unmarked m = (m.0, if m.1 then Some unread else None)

slots_marked : (slots : List Slot) → map shown_slot slots ≡ map unmarked (marks slots)
slots_marked [] = refl
slots_marked (s ∷ slots) = ap (λ (ws : List Write). shown_slot s ∷ ws) (slots_marked slots)

entries_marked : (ws : List Write) → map unmarked (map (on_value is_some) ws) ≡ map blank_write ws
entries_marked [] = refl
entries_marked ((key, None) ∷ ws) = ap (λ (vs : List Write). (key, None) ∷ vs) (entries_marked ws)
entries_marked ((key, Some d) ∷ ws) = ap (λ (vs : List Write). (key, Some unread) ∷ vs) (entries_marked ws)

listed_blank : {F : Type 0} (cs : List (ComponentState F)) (contents : List Content) (ps : Pairs) → AllZip Shows cs contents → after_writes (blank ps) (shown_listed cs) ≡ blank (held_over ps contents)
listed_blank [] [] ps all = refl
listed_blank [] (k ∷ contents) ps all = absurd all
listed_blank (c ∷ cs) [] ps all = absurd all
listed_blank (c ∷ cs) (k ∷ contents) ps all =
    let here : map shown_slot c.index.slots ≡ map blank_write k.entries = slots_marked c.index.slots ∙ ap (map unmarked) all.0 ∙ entries_marked k.entries in
    after_writes-append (blank ps) (map shown_slot c.index.slots) (shown_listed cs)
    ∙ ap (λ (ws : List Write). after_writes (after_writes (blank ps) ws) (shown_listed cs)) here
    ∙ ap (λ (qs : Pairs). after_writes qs (shown_listed cs)) (all_blank ps k.entries)
    ∙ listed_blank cs contents (after_writes ps k.entries) all.1

-- ---- tables

abbrev unheld : ℕ × (memory.Held × Bool) → Write
unheld e = (e.0, shown_held e.1.0)

kept_shown : (kept : memory.Table) → shown_table kept ≡ map unheld (all_shown kept)
kept_shown [] = refl
kept_shown (e ∷ kept) = ap (λ (ws : List Write). (e.0, shown_held e.1.held) ∷ ws) (kept_shown kept)

held_blank : (o : Option Document) → shown_held (kept_held o) ≡ option_map (λ d. unread) o
held_blank None = refl
held_blank (Some d) = refl

writes_shown : (t : documents.Table) → map unheld (all_shown (kept_table t)) ≡ map blank_write (documents.writes_of t)
writes_shown [] = refl
writes_shown (e ∷ t) =
    ap (λ (o : Option Document). (e.0, o) ∷ map unheld (all_shown (kept_table t))) (held_blank e.1.held)
    ∙ ap (λ (ws : List Write). (e.0, option_map (λ d. unread) e.1.held) ∷ ws) (writes_shown t)

table_blank : (ps : Pairs) (t : documents.Table) (kept : memory.Table) → all_shown kept ≡ all_shown (kept_table t) → after_writes (blank ps) (shown_table kept) ≡ blank (documents.over ps t)
table_blank ps t kept same = ap (after_writes (blank ps)) (kept_shown kept ∙ ap (map unheld) same ∙ writes_shown t) ∙ all_blank ps (documents.writes_of t)

sealed_blank : (are_told : Type 0) (ps : Pairs) (o : Option Sealed) (kept : Option memory.Table) → KeepsSealed are_told o kept → after_writes (blank ps) (shown_sealed kept) ≡ blank (documents.over ps (sealed_table o))
sealed_blank are_told ps None None keeps = refl
sealed_blank are_told ps None (Some kept) keeps = absurd keeps
sealed_blank are_told ps (Some d) None keeps = absurd keeps
sealed_blank are_told ps (Some d) (Some kept) keeps = table_blank ps d.table kept keeps.1.holds

-- ---- a part

module _ {F : Type 0} (cs : List (ComponentState F)) (t : Told) (p : PartView) (is : IsPart t p) (shows : AllZip Shows cs p.list) where
  shown_stored : shown cs t.sealed t.active ≡ blank (stored_with p)
  shown_stored =
      after_writes-append [] (shown_listed cs) (shown_sealed t.sealed ++ shown_table t.active)
      ∙ ap (λ (ps : Pairs). after_writes ps (shown_sealed t.sealed ++ shown_table t.active)) (listed_blank cs p.list [] shows)
      ∙ after_writes-append (blank (live p.list)) (shown_sealed t.sealed) (shown_table t.active)
      ∙ ap (λ (ps : Pairs). after_writes ps (shown_table t.active)) (sealed_blank _ (live p.list) p.sealed t.sealed is.view.sealed)
      ∙ table_blank (below_of p) (table_of p) t.active is.view.active.holds
      ∙ ap blank (over_table p is.memory)

  pub keys_counted : live_keys cs t.sealed t.active ≡ t.live
  keys_counted = ap (λ (ps : Pairs). length ps) shown_stored ∙ length-map (stored_with p) (on_value (λ d. unread)) ∙ sym is.view.live
