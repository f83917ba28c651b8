use Rattle.std.proofs.Common.{◌≡◌, Bool, true, false, List, length, refl, sym, ap, ◌∙◌, arith}
use Rattle.std.proofs.lemmas.Bool.{false≢true}
use Rattle.tc_model.specs.Document.{Name, ShapeTree}
use Rattle.tc_schema_model.specs.Added.{removed}
use Rattle.tc_schema_model.specs.Counted.{Counted}
use Rattle.tc_schema_model.specs.Fits.{is_fit}
use Rattle.tc_schema_model.proofs.RemovedLaws.{canonical-removed}
use Rattle.tc_schema_model.proofs.FieldLaws.{canonical_below}
use Rattle.tc_schema_model.proofs.FitTests.{fits_tested, test_by_path, path_by_test}
use Rattle.tc_schema.specs.Places.{place_counted, most_names}
use Rattle.tc_infer.specs.Levels.{shape_under}
use Rattle.tc_infer.proofs.taking_known.take_meant.Goals as goal

pub take_value-requires : goal.take_value-requires
take_value-requires c = record { canonical = rw (c.into_root-root.ensures.counted, c.replace.ensures.value) c.requires.canonical }

-- what the walk tests is whether the shape of the record fits the schema
tested : (names : List Name) (begins whole : ShapeTree) (root d : Counted) (result : Bool) → result ≡ is_fit names begins root → begins ≡ whole → root ≡ d → result ≡ is_fit names whole d
tested names begins whole root d result told same is = told ∙ ap (λ s. is_fit names s root) same ∙ ap (is_fit names whole) is

pub of-requires : goal.of-requires
of-requires c =
    let names = c.args.names.now in
    let s = shape_under names c.args.of.now.tokens in
    let d = c.args.schema.now in
    let fit : is_fit names s d ≡ true = let is = c.if-not-take_value.false in let told = tested names _ s _ d c.take_value.result c.take_value.ensures.fits (c.in_document-cursor.ensures.under names) (c.into_root-root.ensures.counted ∙ c.replace.ensures.value) in cc in
    let left : place_counted c.take_value.new.place ≡ removed names s d =
    c.if-not-take_value.ensures.taken ∙ ap (λ s. removed names s (place_counted c.into_root-root.result)) (c.in_document-cursor.ensures.under names) ∙ ap (removed names s) (c.into_root-root.ensures.counted ∙ c.replace.ensures.value) in
    rw (left) (canonical_below (length names) most_names (removed names s d) (omega (arith, c.len-known.ensures.dictionary.few)) (canonical-removed names s d (fits_tested names s d fit) c.requires.canonical))

pub returns-then-not-take_value-clause-fits : goal.returns-then-not-take_value-clause-fits
returns-then-not-take_value-clause-fits c =
    let names = c.args.names.now in
    let s = shape_under names c.args.of.now.tokens in
    let d = c.args.schema.now in
    let test : is_fit names s d ≡ false = let is = c.if-not-take_value.true in let told = tested names _ s _ d c.take_value.result c.take_value.ensures.fits (c.in_document-cursor.ensures.under names) (c.into_root-root.ensures.counted ∙ c.replace.ensures.value) in cc in
    (λ taken. absurd (false≢true taken), λ fits. sym test ∙ path_by_test names c.len-known.ensures.dictionary.distinct d s fits)

pub returns-clause-fits : goal.returns-clause-fits
returns-clause-fits c =
    let names = c.args.names.now in
    let s = shape_under names c.args.of.now.tokens in
    let d = c.args.schema.now in
    let fit : is_fit names s d ≡ true = let is = c.if-not-take_value.false in let told = tested names _ s _ d c.take_value.result c.take_value.ensures.fits (c.in_document-cursor.ensures.under names) (c.into_root-root.ensures.counted ∙ c.replace.ensures.value) in cc in
    (λ _. test_by_path names d s c.requires.canonical fit, λ _. refl)
