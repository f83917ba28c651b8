-- The writes of a table that storable writes make are storable.
use Rattle.std.proofs.Common.{List, [], ◌∷◌, Option, Some, None, ℕ}
use Rattle.std.specs.Prelude.{All, fold}
use Rattle.std.proofs.lemmas.List.Elements.{All-nil, All-cons, All-head, All-tail}
use Rattle.tc_model.specs.Document.{ShapeTree}
use Rattle.tc_model.specs.Keyed.{value_of}
use Rattle.tc_model.proofs.KeyedOrder.{All-with_value, All-without_key}
use Rattle.tc_plain_model.specs.Writes.{Write}
use Rattle.tc_lsm_model.specs.Tables.{Slot, Table, gone_at, shape_kept, slot, table_with, writes_of}
use Rattle.tc_machine.specs.Writes.{IsStorableWrite}

abbrev IsStorableEntry : ℕ × Slot → Type 0
IsStorableEntry e = IsStorableWrite (e.0, e.1.held)

entry_with : (below : ℕ → Option ShapeTree) (t : Table) (w : Write) → IsStorableWrite w → All IsStorableEntry t → All IsStorableEntry (table_with below t w)
entry_with below t (key, Some d) storable all = All-with_value IsStorableEntry key (slot (Some d) (shape_kept (below key) (value_of key t))) t storable all
entry_with below t (key, None) storable all = at (shape_kept (below key) (value_of key t))
  where
    at : (o : Option ShapeTree) → All IsStorableEntry (gone_at key o t)
    at None = All-without_key IsStorableEntry key t all
    at (Some shape) = All-with_value IsStorableEntry key (slot None (Some shape)) t storable all

entries_with : (below : ℕ → Option ShapeTree) (t : Table) (ws : List Write) → All IsStorableWrite ws → All IsStorableEntry t → All IsStorableEntry (fold (table_with below) t ws)
entries_with below t [] each all = all
entries_with below t (w ∷ ws) each all = entries_with below (table_with below t w) ws (All-tail IsStorableWrite w ws each) (entry_with below t w (All-head IsStorableWrite w ws each) all)

writes_storable : (t : Table) → All IsStorableEntry t → All IsStorableWrite (writes_of t)
writes_storable [] all = All-nil IsStorableWrite
writes_storable (e ∷ t) all = All-cons IsStorableWrite (e.0, e.1.held) (writes_of t) (All-head IsStorableEntry e t all) (writes_storable t (All-tail IsStorableEntry e t all))

pub table_storable : (below : ℕ → Option ShapeTree) (ws : List Write) → All IsStorableWrite ws → All IsStorableWrite (writes_of (fold (table_with below) [] ws))
table_storable below ws each = writes_storable (fold (table_with below) [] ws) (entries_with below [] ws each (All-nil IsStorableEntry))
