use Rattle.std.proofs.Common.{◌≡◌, true, false, length, refl, sym, ap, ◌∙◌, arith}
use Rattle.std.proofs.lemmas.Bool.{false≢true}
use Rattle.tc_schema_model.specs.Added.{removed}
use Rattle.tc_schema_model.specs.Fits.{Fits, is_fit}
use Rattle.tc_schema_model.proofs.RemovedLaws.{canonical-removed}
use Rattle.tc_schema_model.proofs.FieldLaws.{canonical_below}
use Rattle.tc_schema_model.proofs.FitTests.{fits_tested, test_by_path, path_by_test}
use Rattle.tc_value.specs.ShapeMeaning.{shape_tree}
use Rattle.tc_schema.specs.Places.{place_counted, most_names}
use Rattle.tc_infer.proofs.subtracting.subtract_if_fits.Goals as goal

pub take_shape-requires : goal.take_shape-requires
take_shape-requires c = record { canonical = rw (c.into_root-root.ensures.counted, c.replace.ensures.value) c.requires.canonical }

pub of-requires : goal.of-requires
of-requires c =
    let names = c.args.names.now in
    let s = shape_tree c.args.shape.now in
    let d = c.args.schema.now in
    let taken = c.into_root-root.ensures.counted ∙ c.replace.ensures.value in
    let fit : is_fit names s (place_counted c.into_root-root.result) ≡ true = let is = c.if-not-take_shape.false in let told = c.take_shape.ensures.fits in cc in
    let fits : Fits names s d = fits_tested names s d (ap (is_fit names s) (sym taken) ∙ fit) in
    let left : place_counted c.take_shape.new.place ≡ removed names s d = c.if-not-take_shape.ensures.taken ∙ ap (removed names s) taken in
    rw (left) (canonical_below (length names) most_names (removed names s d) (omega (arith, c.len-known.ensures.dictionary.few)) (canonical-removed names s d fits c.requires.canonical))

pub returns-then-not-take_shape-clause-fits : goal.returns-then-not-take_shape-clause-fits
returns-then-not-take_shape-clause-fits c =
    let names = c.args.names.now in
    let s = shape_tree c.args.shape.now in
    let d = c.args.schema.now in
    let refused : is_fit names s (place_counted c.into_root-root.result) ≡ false = let is = c.if-not-take_shape.true in let told = c.take_shape.ensures.fits in cc in
    let test : is_fit names s d ≡ false = ap (is_fit names s) (sym (c.into_root-root.ensures.counted ∙ c.replace.ensures.value)) ∙ refused in
    (λ taken. absurd (false≢true taken), λ fits. sym test ∙ path_by_test names c.len-known.ensures.dictionary.distinct d s fits)

pub returns-clause-fits : goal.returns-clause-fits
returns-clause-fits c =
    let names = c.args.names.now in
    let s = shape_tree c.args.shape.now in
    let d = c.args.schema.now in
    let fit : is_fit names s (place_counted c.into_root-root.result) ≡ true = let is = c.if-not-take_shape.false in let told = c.take_shape.ensures.fits in cc in
    (λ _. test_by_path names d s c.requires.canonical (ap (is_fit names s) (sym (c.into_root-root.ensures.counted ∙ c.replace.ensures.value)) ∙ fit), λ _. refl)
