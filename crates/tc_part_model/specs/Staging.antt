-- What is handed to the memory table with a write that is staged, and what it leaves of the names.
use Rattle.std.specs.Prelude.{◌≡◌, ◌+◌, ◌-◌, ℕ, Bool, true, false, List, Option, Some, None, is_some}
use Rattle.tc_model.specs.Document.{Name, Document, ShapeTree}
use Rattle.tc_model.specs.Keyed.{value_of}
use Rattle.tc_record.specs.Record.{record_of}
use Rattle.tc_plain_model.specs.Writes.{Write}
use Rattle.tc_plain_model.specs.Store.{names_with}
use Rattle.tc_lsm_model.specs.Tables.{shape_in}
use Rattle.tc_memory.specs.Table.{Held, gone, live, Table, upserted, deleted}
use Rattle.tc_part_model.specs.PartState.{Told, AreTold}
use Rattle.tc_part_model.specs.PartView.{PartView, below_of}

-- the call of the memory table
abbrev pub called : Write → Option ShapeTree → Table → Table
called (key, Some d) handed t = upserted key (record_of d) handed t
called (key, None) handed t = deleted key handed t

-- the names of a document are taken
abbrev pub taken_with : Write → List Name → List Name
taken_with (key, Some d) taken = names_with d taken
taken_with (key, None) taken = taken

-- Where the active table has no entry of the key, the shape of what is below is handed in. That there is something below is
-- known over every store, and what it is where the files are told.
pub record HandsShape (t : Told) (p : PartView) (key : ℕ) (handed : Option ShapeTree) : Type 0 where
  pub there : value_of key t.active ≡ None → is_some handed ≡ is_some (shape_in (below_of p) key)
  pub shape : AreTold t.components → value_of key t.active ≡ None → handed ≡ shape_in (below_of p) key

-- what a table holds of a key is the document of the key, or that it has none
abbrev pub IsHeldAs : Held → Option Document → Type 0
IsHeldAs gone None = Unit {0}
IsHeldAs gone (Some d) = ⊥
IsHeldAs (live bytes) None = ⊥
IsHeldAs (live bytes) (Some d) = bytes ≡ record_of d

-- how many documents there are with a write, where the key had one or not
abbrev pub counted_with : Write → Bool → ℕ → ℕ
counted_with (key, Some d) true n = n
counted_with (key, Some d) false n = n + 1
counted_with (key, None) true n = n - 1
counted_with (key, None) false n = n
