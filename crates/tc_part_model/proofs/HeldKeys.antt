-- What is found of a key in the tables of a part is what is stored of it.
use Rattle.std.proofs.Common.{◌≡◌, ◌++◌, ℕ, [], ◌∷◌, length, is_some, refl, sym, ap, ◌∙◌, subst, Option, Some, None}
use Rattle.std.specs.Prelude.{All, option_map, IfSome}
use Rattle.std.proofs.lemmas.Option.{same_Some}
use Rattle.tc_model.specs.Document.{Document, IsDocument}
use Rattle.tc_model.specs.Stored.{IsStorable}
use Rattle.tc_model.specs.Keyed.{Ascends, value_of}
use Rattle.tc_model.proofs.KeyedEquality.{of_found}
use Rattle.tc_model.proofs.ReadValues.{value_of-read}
use Rattle.tc_plain_model.specs.Writes.{Pairs, Write, after_write, after_writes}
use Rattle.tc_plain_model.proofs.WriteLaws.{after_writes-append}
use Rattle.tc_plain_model.proofs.WriteLookups.{Ascends-after_writes}
use Rattle.tc_lsm_model.specs.Lists.{live}
use Rattle.tc_lsm_model.specs.Tables.{Slot, Table, over, table_over}
use Rattle.tc_lsm_model.proofs.ListLaws.{Ascends-live}
use Rattle.tc_lsm_model.proofs.TableLaws.{IsTableOver-table_over, held_below, held_in_table, over-table_over}
use Rattle.tc_memory.specs.Table as memory
use Rattle.tc_memory.specs.DocumentTables.{kept_slot, kept_table, IsStoredAt}
use Rattle.tc_machine.specs.Kept.{IsMemoryKept}
use Rattle.tc_machine.specs.Logs.{all_writes}
use Rattle.tc_machine.specs.State.{Sealed, history, sealed_table}
use Rattle.tc_machine.proofs.Holding.{Ascends-below, holds}
use Rattle.tc_part_model.specs.Changes.{with_staged}
use Rattle.tc_part_model.specs.Meaning.{shown, all_shown, KeepsSealed, IsPart, plain_of}
use Rattle.tc_part_model.specs.PartState.{Told, AreTold}
use Rattle.tc_part_model.specs.PartView.{PartView, state_of, store_of, stored_with, below_of, table_of}
use Rattle.tc_part_model.specs.Staging.{IsHeldAs, counted_with, taken_with}
use Rattle.tc_part_model.proofs.StoredCounts.{write_counted}
use Rattle.tc_part_model.proofs.ViewLaws.{table_is}

-- ---- a table over what is stored

found_as : (k : memory.Kept) (o : Option Slot) → Some (shown k) ≡ option_map (λ s. shown (kept_slot s)) o → (s : Slot) × (o ≡ Some s) × (k.held ≡ (kept_slot s).held)
found_as k None same = absurd (cc)
found_as k (Some s) same = (s, refl, ap (λ x. x.0) (same_Some (shown k) (shown (kept_slot s)) same))

absent_as : (o : Option Slot) → None ≡ option_map (λ s. shown (kept_slot s)) o → o ≡ None
absent_as None same = refl
absent_as (Some s) same = cc

map_twice : (o : Option Slot) → option_map shown (option_map kept_slot o) ≡ option_map (λ s. shown (kept_slot s)) o
map_twice None = refl
map_twice (Some s) = refl

same_shown : (key : ℕ) (t : Table) (kept : memory.Table) → all_shown kept ≡ all_shown (kept_table t) → option_map shown (value_of key kept) ≡ option_map (λ s. shown (kept_slot s)) (value_of key t)
same_shown key t kept same =
    sym (value_of-read shown key kept) ∙ ap (value_of key) same ∙ value_of-read shown key (kept_table t) ∙ ap (option_map shown) (value_of-read kept_slot key t) ∙ map_twice (value_of key t)

held_as : (o : Option Document) (held : memory.Held) → held ≡ (kept_slot (record { held = o; below = None })).held → IsHeldAs held o
held_as None held is = rw is tt
held_as (Some d) held is = rw is refl

pub found_held : (key : ℕ) (p : Pairs) (t : Table) (kept : memory.Table) (k : memory.Kept) → Ascends p → Ascends t → all_shown kept ≡ all_shown (kept_table t) → value_of key kept ≡ Some k → IsHeldAs k.held (value_of key (over p t))
found_held key p t kept k up ascends same there =
    let found = found_as k (value_of key t) (ap (option_map shown) (sym there) ∙ same_shown key t kept same) in
    subst (λ o. IsHeldAs k.held o) (sym (held_in_table p t key found.0 up ascends found.1)) (held_as found.0.held k.held found.2)

pub absent_below : (key : ℕ) (p : Pairs) (t : Table) (kept : memory.Table) → Ascends p → Ascends t → all_shown kept ≡ all_shown (kept_table t) → value_of key kept ≡ None → value_of key (over p t) ≡ value_of key p
absent_below key p t kept up ascends same none = held_below p t key up ascends (absent_as (value_of key t) (ap (option_map shown) (sym none) ∙ same_shown key t kept same))

-- what a table holds may be stored
found_stored : (key : ℕ) (p : Pairs) (t : Table) (kept : memory.Table) (k : memory.Kept) (d : Document) → Ascends p → Ascends t → All IsStoredAt t → all_shown kept ≡ all_shown (kept_table t) → value_of key kept ≡ Some k
    → value_of key (over p t) ≡ Some d → IsDocument d × IsStorable d
found_stored key p t kept k d up ascends stored same there is =
    let found = found_as k (value_of key t) (ap (option_map shown) (sym there) ∙ same_shown key t kept same) in
    let held : found.0.held ≡ Some d = sym (held_in_table p t key found.0 up ascends found.1) ∙ is in
    subst (λ o. IfSome o (λ d. IsDocument d × IsStorable d)) held (of_found IsStoredAt t key found.0 stored found.1)

-- ---- the tables of a part

-- the active table with what is staged
pub over_table : (p : PartView) → IsMemoryKept p.part (state_of p) → over (below_of p) (table_of p) ≡ stored_with p
over_table p memory =
    ap (over (below_of p)) (table_is p memory)
    ∙ over-table_over (below_of p) (p.active.writes ++ p.staged) (Ascends-below memory)
    ∙ after_writes-append (below_of p) p.active.writes p.staged
    ∙ ap (λ q. after_writes q p.staged) (sym (over-table_over (below_of p) p.active.writes (Ascends-below memory)) ∙ ap (over (below_of p)) (sym memory.active) ∙ holds memory)

Ascends-table : (p : PartView) → IsMemoryKept p.part (state_of p) → Ascends (table_of p)
Ascends-table p memory = subst (λ (t : Table). Ascends t) (sym (table_is p memory)) (IsTableOver-table_over (below_of p) (p.active.writes ++ p.staged)).ascends

module _ (t : Told) (p : PartView) (is : IsPart t p) where
  pub active_held : (key : ℕ) (k : memory.Kept) → value_of key t.active ≡ Some k → IsHeldAs k.held (value_of key (stored_with p))
  active_held key k there =
      subst (λ q. IsHeldAs k.held (value_of key q)) (over_table p is.memory)
      (found_held key (below_of p) (table_of p) t.active k (Ascends-below is.memory) (Ascends-table p is.memory) is.view.active.holds there)

  pub active_absent : (key : ℕ) → value_of key t.active ≡ None → value_of key (stored_with p) ≡ value_of key (below_of p)
  active_absent key none =
      ap (value_of key) (sym (over_table p is.memory))
      ∙ absent_below key (below_of p) (table_of p) t.active (Ascends-below is.memory) (Ascends-table p is.memory) is.view.active.holds none

  pub active_stored : (key : ℕ) (k : memory.Kept) (d : Document) → value_of key t.active ≡ Some k → value_of key (stored_with p) ≡ Some d → IsDocument d × IsStorable d
  active_stored key k d there some =
      found_stored key (below_of p) (table_of p) t.active k d (Ascends-below is.memory) (Ascends-table p is.memory) is.view.active.stored is.view.active.holds there (ap (value_of key) (over_table p is.memory) ∙ some)

  -- the sealed table, if there is one
  pub sealed_held : (key : ℕ) (kept : memory.Table) (k : memory.Kept) → t.sealed ≡ Some kept → value_of key kept ≡ Some k → IsHeldAs k.held (value_of key (below_of p))
  sealed_held key kept k some there = at p.sealed (subst (λ o. KeepsSealed (AreTold t.components) p.sealed o) some is.view.sealed) is.memory.sealed
    where
      at : (o : Option Sealed) → KeepsSealed (AreTold t.components) o (Some kept) → IfSome o (λ d. d.table ≡ table_over (live p.list) (all_writes d.logs)) → IsHeldAs k.held (value_of key (over (live p.list) (sealed_table o)))
      at None keeps made = absurd keeps
      at (Some d) keeps made =
          found_held key (live p.list) d.table kept k (Ascends-live p.list) (subst (λ (t : Table). Ascends t) (sym made) (IsTableOver-table_over (live p.list) (all_writes d.logs)).ascends) keeps.1.holds there

  pub sealed_stored : (key : ℕ) (kept : memory.Table) (k : memory.Kept) (e : Document) → t.sealed ≡ Some kept → value_of key kept ≡ Some k → value_of key (below_of p) ≡ Some e → IsDocument e × IsStorable e
  sealed_stored key kept k e some there = at p.sealed (subst (λ o. KeepsSealed (AreTold t.components) p.sealed o) some is.view.sealed) is.memory.sealed
    where
      at : (o : Option Sealed) → KeepsSealed (AreTold t.components) o (Some kept) → IfSome o (λ d. d.table ≡ table_over (live p.list) (all_writes d.logs)) → value_of key (over (live p.list) (sealed_table o)) ≡ Some e → IsDocument e × IsStorable e
      at None keeps made is = absurd keeps
      at (Some d) keeps made is =
          found_stored key (live p.list) d.table kept k e (Ascends-live p.list) (subst (λ (t : Table). Ascends t) (sym made) (IsTableOver-table_over (live p.list) (all_writes d.logs)).ascends) keeps.1.stored keeps.1.holds there is

  pub sealed_absent : (key : ℕ) (kept : memory.Table) → t.sealed ≡ Some kept → value_of key kept ≡ None → value_of key (below_of p) ≡ value_of key (live p.list)
  sealed_absent key kept some none = at p.sealed (subst (λ o. KeepsSealed (AreTold t.components) p.sealed o) some is.view.sealed) is.memory.sealed
    where
      at : (o : Option Sealed) → KeepsSealed (AreTold t.components) o (Some kept) → IfSome o (λ d. d.table ≡ table_over (live p.list) (all_writes d.logs)) → value_of key (over (live p.list) (sealed_table o)) ≡ value_of key (live p.list)
      at None keeps made = absurd keeps
      at (Some d) keeps made =
          absent_below key (live p.list) d.table kept (Ascends-live p.list) (subst (λ (t : Table). Ascends t) (sym made) (IsTableOver-table_over (live p.list) (all_writes d.logs)).ascends) keeps.1.holds none

  pub unsealed : t.sealed ≡ None → below_of p ≡ live p.list
  unsealed none = at p.sealed (subst (λ o. KeepsSealed (AreTold t.components) p.sealed o) none is.view.sealed)
    where
      at : (o : Option Sealed) → KeepsSealed (AreTold t.components) o None → over (live p.list) (sealed_table o) ≡ live p.list
      at None keeps = refl
      at (Some d) keeps = absurd keeps

-- ---- one more write

pub stage_adds : (p : PartView) (w : Write) → stored_with (with_staged w p) ≡ after_write (stored_with p) w
stage_adds p w = after_writes-append (store_of p) p.staged (w ∷ [])

pub Ascends-stored : (p : PartView) → Ascends (stored_with p)
Ascends-stored p = Ascends-after_writes (store_of p) p.staged (Ascends-after_writes (live p.list) (history (state_of p)) (Ascends-live p.list))

pub stage_counts : (p : PartView) (w : Write) → length (stored_with (with_staged w p)) ≡ counted_with w (is_some (value_of w.0 (stored_with p))) (length (stored_with p))
stage_counts p w = ap (λ (q : Pairs). length q) (stage_adds p w) ∙ write_counted w (stored_with p) (Ascends-stored p)

-- as a plain store
pub stage_plain : (t u : Told) (p : PartView) (w : Write) → u.taken ≡ taken_with w t.taken → plain_of u (with_staged w p) ≡ record { pairs = after_write (stored_with p) w; taken = taken_with w t.taken }
stage_plain t u p w same = ap (λ pairs. record { pairs = pairs; taken = u.taken }) (stage_adds p w) ∙ ap (λ names. record { pairs = after_write (stored_with p) w; taken = names }) same
