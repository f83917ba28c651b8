use Rattle.std.proofs.Common.{◌≡◌, ◌++◌, ◌∷◌, sym, ap, ◌∙◌, subst, rules}
use Rattle.std.specs.Prelude.{◌↔◌, option_map, option_to_list}
use Rattle.tc_schema_model.specs.Added.{removed}
use Rattle.tc_schema_model.specs.Fits.{FitsByPath}
use Rattle.tc_schema_model.proofs.FitLaws.{fits_by_place}
use Rattle.tc_schema_model.proofs.RemovedLaws.{canonical-removed}
use Rattle.tc_value.specs.ShapeMeaning.{shape_tree}
use Rattle.tc_memory.specs.Meaning.{entry_of}
use Rattle.tc_flush.specs.Recounting.{FitsEach, all_removed, shapes_kept}
use Rattle.tc_flush.proofs.counting.take_if_fits.Goals as goal

pub loop-entry-preserved-else-not-subtract_if_fits : goal.loop-entry-preserved-else-not-subtract_if_fits
loop-entry-preserved-else-not-subtract_if_fits c =
    let l = c.loop-entry in
    let names = c.args.names.now in
    let rest = shapes_kept c.next.new.self in
    let s = shape_tree c.in-Some-below.shape.now in
    let here : l.entries ≡ entry_of c.in-Some.entry ∷ c.next.new.self = search rules in
    let shapes : shapes_kept l.entries ≡ s ∷ rest = ap shapes_kept here ∙ ap (λ o. option_to_list (option_map (λ x. shape_tree x.now) o) ++ rest) c.in-Some-below.is in
    let fits : FitsByPath names l.left s = search rules in
    let is : c.subtract_if_fits.new.schema ≡ removed names s l.left = search rules in
    let before : FitsEach names (s ∷ rest) l.left ↔ FitsEach names (shapes_kept c.args.sealed.now) c.args.left.now = subst (λ ss. FitsEach names ss l.left ↔ FitsEach names (shapes_kept c.args.sealed.now) c.args.left.now) shapes l.invariant.fits in
    record {
      canonical = rw is (canonical-removed names s l.left (fits_by_place names c.len-known.ensures.dictionary.distinct l.left s fits) l.invariant.canonical);
      fits = rw is ((λ each. before.0 (fits, each)), λ each. (before.1 each).1);
      same = ap (all_removed names rest) is ∙ ap (λ ss. all_removed names ss l.left) (sym shapes) ∙ l.invariant.same;
    }
