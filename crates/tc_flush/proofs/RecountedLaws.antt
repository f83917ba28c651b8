-- What the counters are once shapes are taken off and others are counted, and that the schema nests no deeper than it may.
use Rattle.std.proofs.Common.{◌≡◌, ◌≤◌, ◌+◌, List, [], ◌∷◌, length, bytes_eq, arith}
use Rattle.std.specs.Prelude.{All}
use Rattle.std.specs.List.{IsDistinct}
use Rattle.std.proofs.lemmas.List.Elements.{All-head, All-tail}
use Rattle.tc_model.specs.Document.{Name, ShapeTree}
use Rattle.tc_model.specs.Dictionary.{all_learned}
use Rattle.tc_model.specs.Kinds.{Kind}
use Rattle.tc_model.specs.Limits.{max_depth}
use Rattle.tc_model.specs.ShapeNames.{names_within}
use Rattle.tc_model.specs.Tree.{depth}
use Rattle.tc_schema_model.specs.Added.{added, removed}
use Rattle.tc_schema_model.specs.Counted.{Counted, IsCanonical, shows}
use Rattle.tc_schema_model.specs.Levels.{IsShallow}
use Rattle.tc_schema_model.specs.Occurrences.{Path}
use Rattle.tc_schema_model.proofs.FitLaws.{fits_by_place}
use Rattle.tc_schema_model.proofs.Grown.{added_canonical, added_shows}
use Rattle.tc_schema_model.proofs.LevelLaws.{shallow-added, levels-removed}
use Rattle.tc_schema_model.proofs.RemovedLaws.{shows-removed}
use Rattle.tc_lsm_model.specs.Tables.{occurring}
use Rattle.tc_flush.specs.Recounting.{all_removed, FitsEach, names_with, all_added}

-- ---- taken off

module _ (names : List Name) (distinct : IsDistinct bytes_eq names) where
  pub canonical-all_removed : (shapes : List ShapeTree) (d : Counted) → FitsEach names shapes d → IsCanonical (length names) (all_removed names shapes d)
  canonical-all_removed [] d fits = fits
  canonical-all_removed (s ∷ shapes) d fits = canonical-all_removed shapes (removed names s d) fits.1

  pub shows-all_removed : (shapes : List ShapeTree) (d : Counted) → FitsEach names shapes d → (path : Path) (t : Kind) → shows names (all_removed names shapes d) path t + occurring shapes path t ≡ shows names d path t
  shows-all_removed [] d fits path t = omega arith
  shows-all_removed (s ∷ shapes) d fits path t =
      omega (arith, shows-all_removed shapes (removed names s d) fits.1 path t, shows-removed names s d (fits_by_place names distinct d s fits.0) fits.0.canonical path t)

  pub shallow-all_removed : (shapes : List ShapeTree) (d : Counted) → FitsEach names shapes d → IsShallow d → IsShallow (all_removed names shapes d)
  shallow-all_removed [] d fits shallow = shallow
  shallow-all_removed (s ∷ shapes) d fits shallow =
      shallow-all_removed shapes (removed names s d) fits.1 (omega (arith, levels-removed names s d (fits_by_place names distinct d s fits.0), shallow))

-- ---- counted

pub canonical-all_added : (names : List Name) (shapes : List ShapeTree) (d : Counted) → IsCanonical (length names) d → IsCanonical (length (names_with names shapes)) (all_added names shapes d)
canonical-all_added names [] d canonical = canonical
canonical-all_added names (s ∷ shapes) d canonical =
    canonical-all_added (all_learned names (names_within s)) shapes (added (all_learned names (names_within s)) s d) (added_canonical names s d canonical)

pub shows-all_added : (names : List Name) (shapes : List ShapeTree) (d : Counted) → IsCanonical (length names) d → (path : Path) (t : Kind)
    → shows (names_with names shapes) (all_added names shapes d) path t ≡ shows names d path t + occurring shapes path t
shows-all_added names [] d canonical path t = omega arith
shows-all_added names (s ∷ shapes) d canonical path t =
    omega (arith, shows-all_added (all_learned names (names_within s)) shapes (added (all_learned names (names_within s)) s d) (added_canonical names s d canonical) path t, added_shows names s d canonical path t)

-- a shape that nests no deeper than a document may
abbrev pub IsShallowShape : ShapeTree → Type 0
IsShallowShape s = depth s ≤ max_depth

pub shallow-all_added : (names : List Name) (shapes : List ShapeTree) (d : Counted) → All IsShallowShape shapes → IsShallow d → IsShallow (all_added names shapes d)
shallow-all_added names [] d all shallow = shallow
shallow-all_added names (s ∷ shapes) d all shallow =
    let more = all_learned names (names_within s) in
    shallow-all_added more shapes (added more s d) (All-tail IsShallowShape s shapes all) (shallow-added more s d (All-head IsShallowShape s shapes all) shallow)
