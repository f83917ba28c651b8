-- What a memory table shows, whatever the shapes below its entries, and what a call leaves of that.
use Rattle.std.proofs.Common.{◌≡◌, ℕ, Bool, List, refl, sym, ap, ◌∙◌, Option, Some, None, is_some, if◌then◌else◌}
use Rattle.std.specs.Prelude.{option_map}
use Rattle.tc_model.specs.Document.{ShapeTree}
use Rattle.tc_model.specs.Keyed.{Keyed, value_of, with_value, without_key}
use Rattle.tc_model.proofs.ReadValues.{value_of-read, map-with_value, map-without_key}
use Rattle.tc_record.specs.Record.{record_of}
use Rattle.tc_plain_model.specs.Writes.{Write}
use Rattle.tc_memory.specs.Table.{Held, gone, live, Kept, Table, shape_kept, below_at, upserted, deleted}
use Rattle.tc_part_model.specs.Meaning.{shown, all_shown}
use Rattle.tc_part_model.specs.Staging.{called}

-- ---- one call

-- whether an entry has something below: as it was shown, or where there was none as it is handed in
abbrev kept_below : Bool → Option (Held × Bool) → Bool
kept_below handed None = handed
kept_below handed (Some s) = s.1

is_some-shape_kept : (handed : Option ShapeTree) (found : Option Kept) → is_some (shape_kept handed found) ≡ kept_below (is_some handed) (option_map shown found)
is_some-shape_kept handed None = refl
is_some-shape_kept handed (Some k) = refl

shown_below : (key : ℕ) (handed : Option ShapeTree) (t : Table) → is_some (below_at key handed t) ≡ kept_below (is_some handed) (value_of key (all_shown t))
shown_below key handed t = is_some-shape_kept handed (value_of key t) ∙ ap (kept_below (is_some handed)) (sym (value_of-read shown key t))

abbrev shown_gone : ℕ → Bool → Keyed (Held × Bool) → Keyed (Held × Bool)
shown_gone key below entries = if below then with_value key (gone, below) entries else without_key key entries

shown-upserted : (key : ℕ) (bytes : List ℕ) (handed : Option ShapeTree) (t : Table)
    → all_shown (upserted key bytes handed t) ≡ with_value key (live bytes, kept_below (is_some handed) (value_of key (all_shown t))) (all_shown t)
shown-upserted key bytes handed t =
    map-with_value shown key (record { held = live bytes; below = below_at key handed t }) t ∙ ap (λ b. with_value key (live bytes, b) (all_shown t)) (shown_below key handed t)

shown-deleted : (key : ℕ) (handed : Option ShapeTree) (t : Table) → all_shown (deleted key handed t) ≡ shown_gone key (kept_below (is_some handed) (value_of key (all_shown t))) (all_shown t)
shown-deleted key handed t = at (below_at key handed t) ∙ ap (λ b. shown_gone key b (all_shown t)) (shown_below key handed t)
  where
    at : (o : Option ShapeTree) → all_shown (if is_some o then with_value key (record { held = gone; below = o }) t else without_key key t) ≡ shown_gone key (is_some o) (all_shown t)
    at None = map-without_key shown key t
    at (Some shape) = map-with_value shown key (record { held = gone; below = Some shape }) t

-- ---- two tables that show the same

-- each call shows the same of both, where it hands in something below for the one as for the other
pub same_called : (w : Write) (handed other : Option ShapeTree) (s t : Table) → all_shown s ≡ all_shown t → kept_below (is_some handed) (value_of w.0 (all_shown s)) ≡ kept_below (is_some other) (value_of w.0 (all_shown s))
    → all_shown (called w handed s) ≡ all_shown (called w other t)
same_called (key, Some d) handed other s t same below =
    shown-upserted key (record_of d) handed s
    ∙ ap (λ b. with_value key (live (record_of d), b) (all_shown s)) below
    ∙ ap (λ es. with_value key (live (record_of d), kept_below (is_some other) (value_of key es)) es) same
    ∙ sym (shown-upserted key (record_of d) other t)
same_called (key, None) handed other s t same below =
    shown-deleted key handed s
    ∙ ap (λ b. shown_gone key b (all_shown s)) below
    ∙ ap (λ es. shown_gone key (kept_below (is_some other) (value_of key es)) es) same
    ∙ sym (shown-deleted key other t)

-- it does, where that is so for a key without an entry
pub same_below : (key : ℕ) (handed other : Option ShapeTree) (t : Table) → (value_of key t ≡ None → is_some handed ≡ is_some other)
    → kept_below (is_some handed) (value_of key (all_shown t)) ≡ kept_below (is_some other) (value_of key (all_shown t))
same_below key handed other t there = rw (value_of-read shown key t) (at (value_of key t) there)
  where
    at : (o : Option Kept) → (o ≡ None → is_some handed ≡ is_some other) → kept_below (is_some handed) (option_map shown o) ≡ kept_below (is_some other) (option_map shown o)
    at None is = is refl
    at (Some k) is = refl

-- and a call is the same where the shape is
same_shape : (handed other : Option ShapeTree) (found : Option Kept) → (found ≡ None → handed ≡ other) → shape_kept handed found ≡ shape_kept other found
same_shape handed other None is = is refl
same_shape handed other (Some k) is = refl

pub called_below : (w : Write) (handed other : Option ShapeTree) (t : Table) → (value_of w.0 t ≡ None → handed ≡ other) → called w handed t ≡ called w other t
called_below (key, Some d) handed other t is = ap (λ b. with_value key (record { held = live (record_of d); below = b }) t) (same_shape handed other (value_of key t) is)
called_below (key, None) handed other t is = ap (λ b. if is_some b then with_value key (record { held = gone; below = b }) t else without_key key t) (same_shape handed other (value_of key t) is)
