use Rattle.tc_schema_model.proofs.RemovedLaws.{shows-removed, canonical-removed}
use Rattle.tc_value.specs.ShapeMeaning.{shape_tree}
use Rattle.tc_schema_model.proofs.FitLaws.{fits_by_place, others_stand}
use Rattle.tc_schema_model.proofs.Readable.{schema-removed}
use Rattle.tc_infer.proofs.subtracting.subtract.Goals as goal

pub returns-clause-counted : goal.returns-clause-counted
returns-clause-counted c = λ path t. rw (c.if-not-subtract_if_fits.ensures.removed) (shows-removed c.args.names.now (shape_tree c.args.shape.now) c.args.schema.now (fits_by_place c.args.names.now c.len-known.ensures.dictionary.distinct c.args.schema.now (shape_tree c.args.shape.now) c.requires.fits) c.requires.fits.canonical path t)

pub returns-clause-canonical : goal.returns-clause-canonical
returns-clause-canonical c = rw (c.if-not-subtract_if_fits.ensures.removed) (canonical-removed c.args.names.now (shape_tree c.args.shape.now) c.args.schema.now (fits_by_place c.args.names.now c.len-known.ensures.dictionary.distinct c.args.schema.now (shape_tree c.args.shape.now) c.requires.fits) c.requires.fits.canonical)

pub returns-clause-readable : goal.returns-clause-readable
returns-clause-readable c = λ is schema.
    rw (c.if-not-subtract_if_fits.ensures.removed) (schema-removed c.args.names.now c.len-known.ensures.dictionary.distinct (shape_tree c.args.shape.now) c.args.schema.now is (fits_by_place c.args.names.now c.len-known.ensures.dictionary.distinct c.args.schema.now (shape_tree c.args.shape.now) c.requires.fits) schema)

pub returns-clause-stands : goal.returns-clause-stands
returns-clause-stands c = λ before after doc is stands.
    let names = c.args.names.now in
    let s = shape_tree c.args.shape.now in
    let d = c.args.schema.now in
    rw (c.if-not-subtract_if_fits.ensures.removed) (others_stand names d before after doc s is (canonical-removed names s d (fits_by_place c.args.names.now c.len-known.ensures.dictionary.distinct c.args.schema.now (shape_tree c.args.shape.now) c.requires.fits) c.requires.fits.canonical) (fits_by_place c.args.names.now c.len-known.ensures.dictionary.distinct c.args.schema.now (shape_tree c.args.shape.now) c.requires.fits) stands)
