use Rattle.std.proofs.Common.{◌≡◌, ◌+◌, ◌<◌, ◌^◌, length, sym, ap, ◌∙◌, subst, arith}
use Rattle.std.specs.Prelude.{All}
use Rattle.std.proofs.lemmas.List.{length-map}
use Rattle.tc_model.specs.Keyed.{values_in}
use Rattle.tc_schema_model.specs.Counted.{total_at}
use Rattle.tc_schema_model.proofs.ValueBounds.{total-stands}
use Rattle.tc_lsm_model.specs.Lists.{live, names_of, schema_of}
use Rattle.tc_lsm_model.specs.Tables.{shapes_held, shapes_below}
use Rattle.tc_flush.specs.Counting.{HasRoom, IsShort, records_kept}
use Rattle.tc_flush.specs.Flushable.{values_of}
use Rattle.tc_flush.specs.Recounting.{FitsEach, all_removed, names_with}
use Rattle.tc_flush.proofs.CountedTables.{count-records, few_values}
use Rattle.tc_flush.proofs.FlushedBytes.{shapes_are, total-all_removed}
use Rattle.tc_flush.proofs.ListsCounted.{few_in, records-short, same_table}
use Rattle.tc_flush.proofs.TableDocuments.{names_with-held}
use Rattle.tc_flush.proofs.laws.lists_are_counted.Goals as goal

pub returns : goal.returns
returns c = λ part cs t kept all table of keeps documents short few names_few.
    let names = names_of cs in
    let schema = schema_of cs in
    let up = c.tables_keep_documents.ensures.ascends t kept of table in
    let stands = c.lists_have_schemas.ensures.stands part cs all in
    let fits = c.kept_shapes_fit.ensures.fits part cs t all up keeps in
    let shapes = sym (shapes_are t kept of) in
    let count : length (records_kept kept) ≡ length (shapes_held t) = ap (λ k. length (records_kept k)) of.is ∙ count-records t in
    let room : HasRoom kept (all_removed names (shapes_below t) schema) names = record {
      short = subst (λ k. All IsShort (records_kept k)) (sym of.is) (records-short t short);
      documents = omega (arith, c.kept_shapes_fit.ensures.documents part cs t all up keeps, count, few);
      counters = λ x of_x path. subst (λ y. total_at names (all_removed names (shapes_below t) schema) path + values_of (shapes_held y) path < 2 ^ 64) (same_table c.one_document.ensures kept table.entries t x of of_x)
          (omega (
            arith,
            total-all_removed names stands.distinct (shapes_below t) schema fits path,
            total-stands names schema (values_in (live cs)) stands path,
            few_in c.names_agree.ensures.values (values_in (live cs)) documents path,
            length-map (live cs) (λ p. p.1),
            c.lists_have_schemas.ensures.room part cs all,
            few_values c.names_agree.ensures.values t of.stored short path,
            c.kept_shapes_fit.ensures.documents part cs t all up keeps,
            few,
          ));
      names = λ x of_x. subst (λ y. length (names_with names (shapes_held y)) < 2 ^ 32) (same_table c.one_document.ensures kept table.entries t x of of_x)
          (subst (λ ns. length ns < 2 ^ 32) (sym (names_with-held c.flushes_learn_names.ensures.documents names t up)) names_few);
    } in
    record {
      fits = subst (λ ss. FitsEach names ss schema) shapes fits;
      room = subst (λ ss. HasRoom kept (all_removed names ss schema) names) shapes room;
    }
