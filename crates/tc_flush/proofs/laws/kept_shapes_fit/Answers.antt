use Rattle.std.proofs.Common.{[], arith}
use Rattle.std.proofs.lemmas.List.{length-map}
use Rattle.tc_model.specs.Keyed.{values_in}
use Rattle.tc_model.specs.Kinds.{Kind, scalar, arrays, objects}
use Rattle.tc_model.specs.Document.{null_kind, boolean_kind, integer_kind, text_kind}
use Rattle.tc_schema_model.proofs.ValueBounds.{total-stands}
use Rattle.tc_lsm_model.specs.Lists.{live, names_of, schema_of}
use Rattle.tc_lsm_model.specs.Tables.{over, shapes_held, shapes_below}
use Rattle.tc_flush.proofs.FlushedBytes.{total-all_removed}
use Rattle.tc_flush.proofs.KeptShapesFit.{kept_fit}
use Rattle.tc_flush.proofs.ValuesAtRoot.{values_of-root, values_in-root}
use Rattle.tc_flush.proofs.laws.kept_shapes_fit.Goals as goal

pub returns-clause-fits : goal.returns-clause-fits
returns-clause-fits c = λ part cs t all up keeps.
    kept_fit (names_of cs) (live cs) (schema_of cs) t (c.newest_entries_count.ensures.ascends cs) up (c.lists_have_schemas.ensures.stands part cs all) keeps.shapes

pub returns-clause-documents : goal.returns-clause-documents
returns-clause-documents c = λ part cs t all up keeps.
    let names = names_of cs in
    let schema = schema_of cs in
    let stands = c.lists_have_schemas.ensures.stands part cs all in
    let fits = kept_fit names (live cs) schema t (c.newest_entries_count.ensures.ascends cs) up stands keeps.shapes in
    let one : (kind : Kind) → _ = λ kind. c.tables_count.ensures.counted (live cs) t [] kind (c.newest_entries_count.ensures.ascends cs) up keeps in
    omega (
      arith,
      total-all_removed names stands.distinct (shapes_below t) schema fits [],
      total-stands names schema (values_in (live cs)) stands [],
      one (scalar null_kind),
      one (scalar boolean_kind),
      one (scalar integer_kind),
      one (scalar text_kind),
      one arrays,
      one objects,
      values_of-root (shapes_held t),
      values_in-root (values_in (over (live cs) t)),
      length-map (over (live cs) t) (λ p. p.1),
    )
