-- What becomes of a schema and its dictionary once the shapes of documents that went are taken off, and those of new
-- documents are counted.
use Rattle.std.specs.Prelude.{List, [], ◌∷◌, length, flat_map, option_to_list}
use Rattle.tc_model.specs.Dictionary.{all_learned}
use Rattle.tc_model.specs.Document.{Name, ShapeTree}
use Rattle.tc_model.specs.ShapeNames.{names_within}
use Rattle.tc_schema_model.specs.Added.{added, removed}
use Rattle.tc_schema_model.specs.Counted.{Counted, IsCanonical}
use Rattle.tc_schema_model.specs.Fits.{FitsByPath}
use Rattle.tc_memory.specs.Table.{Table}

-- ---- shapes taken off

abbrev pub all_removed : List Name → List ShapeTree → Counted → Counted
all_removed names [] d = d
all_removed names (s ∷ shapes) d = all_removed names shapes (removed names s d)

-- in the one form, it fits the shapes one after the other, each once those before it are taken off
abbrev pub FitsEach : List Name → List ShapeTree → Counted → Type 0
FitsEach names [] d = IsCanonical (length names) d
FitsEach names (s ∷ shapes) d = FitsByPath names d s × FitsEach names shapes (removed names s d)

-- ---- shapes counted

-- the dictionary once it has learned the names of these shapes, one shape after the other
abbrev pub names_with : List Name → List ShapeTree → List Name
names_with names [] = names
names_with names (s ∷ shapes) = names_with (all_learned names (names_within s)) shapes

-- the schema once these are counted, where each new name gets its number just before
abbrev pub all_added : List Name → List ShapeTree → Counted → Counted
all_added names [] d = d
all_added names (s ∷ shapes) d = all_added (all_learned names (names_within s)) shapes (added (all_learned names (names_within s)) s d)

-- ---- the shapes of a memory table

-- those that its entries keep of what is below, in ascending key
abbrev pub shapes_kept : Table → List ShapeTree
shapes_kept kept = flat_map (λ e. option_to_list e.1.below) kept
