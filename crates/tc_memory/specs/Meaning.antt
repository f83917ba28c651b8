-- What the parts of a memory table are seen as.
use Rattle.std.specs.Prelude.{ℕ, List, Option, map, option_map}
use Rattle.std.specs.Global.{Global}
use Rattle.std.specs.declared.boxed.Box.{Box}
use Rattle.tc_value.specs.declared.shape_tree.Shape.{Shape}
use Rattle.tc_value.specs.ShapeMeaning.{shape_tree}
use Rattle.tc_model.specs.Document.{ShapeTree}
use Rattle.tc_record.specs.StoredRecord.{IsStoredRecord}
use Rattle.tc_model.specs.Keyed.{on_value}
use Rattle.tc_memory.specs.Table as table
use Rattle.tc_memory.specs.declared.held.Held.{Held}
use Rattle.tc_memory.specs.declared.held.Held.TheVariants as held
use Rattle.tc_memory.specs.declared.held.Entry.{Entry}
use Rattle.tc_memory.specs.declared.slot.Version.{Version}
use Rattle.tc_memory.specs.declared.slot.Version.TheVariants as version
use Rattle.tc_memory.specs.declared.slot.Slot.{Slot}

abbrev pub version_of : Version → table.Held
version_of version.Gone = table.gone
version_of (version.Live bytes) = table.live bytes

-- a shape that stands apart from its slot
abbrev pub shape_apart : Option (Box Shape Global) → Option ShapeTree
shape_apart kept = option_map (λ b. shape_tree b.value) kept

abbrev pub kept_of : Slot → table.Kept
kept_of s = record { held = version_of s.version; below = shape_apart s.below }

-- the entries of a map from keys to slots, as those of a table
abbrev pub table_of : List (ℕ × Slot) → table.Table
table_of es = map (on_value kept_of) es

abbrev pub held_of : Held → table.Held
held_of held.Gone = table.gone
held_of (held.Live bytes) = table.live bytes.now

-- what is lent is a lawful record
abbrev pub IsLawfulHeld : Held → Type 0
IsLawfulHeld held.Gone = Unit {0}
IsLawfulHeld (held.Live bytes) = IsStoredRecord bytes.now

-- a lent entry, as an entry of a table
abbrev pub entry_of : Entry → ℕ × table.Kept
entry_of e = (e.key, record { held = held_of e.held; below = option_map (λ s. shape_tree s.now) e.below })
