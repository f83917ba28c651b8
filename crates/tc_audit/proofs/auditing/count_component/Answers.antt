use Rattle.std.proofs.Common.{◌∙◌, ◌<◌, ◌^◌, Err, List, [], length, sym, subst, arith}
use Rattle.std.proofs.lemmas.Result.{err_from_is_err_and}
use Rattle.tc_merge.specs.Merging.{newest_names}
use Rattle.tc_model.specs.Document.{Name}
use Rattle.tc_schema_model.specs.Counted.{Counted, documents_of, IsCanonical}
use Rattle.tc_schema_model.proofs.MoreNames.{canonical_newer}
use Rattle.tc_audit.specs.Waiting.{all_counted}
use Rattle.tc_audit.specs.Walking.{IsCounting}
use Rattle.tc_audit.proofs.CountedComponents.{as_many, miscount_behind, right_behind, starts_right}
use Rattle.tc_audit.proofs.Outcomes.{ok_by_both, wrong_out, wrong_then}
use Rattle.tc_audit.proofs.auditing.count_component.Goals as goal

pub of-recount-requires : goal.of-recount-requires
of-recount-requires g c =
    let m = c.args.component.now in
    let same = c.in_ok-names.ensures.same ∙ c.names.ensures in
    record { canonical = subst (λ (ns : List Name). IsCanonical (length ns) c.args.schema) (sym same) (canonical_newer m.index.names (newest_names [] c.args.older.now) c.args.schema c.requires.names c.requires.canonical) }

-- no path has as many values as the greatest of all
pub count_entries-requires-clause-counting : goal.count_entries-requires-clause-counting
count_entries-requires-clause-counting g c κs within =
    let m = c.args.component.now in
    subst (λ (d : Counted). IsCounting m.index.names d 0) (sym c.of-recount.ensures.all)
    (record {
      canonical = canonical_newer m.index.names (newest_names [] c.args.older.now) c.args.schema c.requires.names c.requires.canonical;
      room = λ few path. omega (arith, c.greatest.ensures.bound m.index.names path, c.if-greatest-ge-HIGH.false);
    })

pub returns-in_err-count_entries-clause-wrong : goal.returns-in_err-count_entries-clause-wrong
returns-in_err-count_entries-clause-wrong g c =
    wrong_out c.from_residual-in_err-count_entries.result c.in_err-count_entries.field-0.0 _ (err_from_is_err_and c.from_residual-in_err-count_entries.result c.from_residual-in_err-count_entries.ensures.1)
    (wrong_then {X = Unit {0}} (Err c.in_err-count_entries.field-0.0) _ _
    (λ w wrong part cs whole right same tells. wrong part cs whole right tells (starts_right g.F.Frozen.content part c.args.older.now cs c.args.component.now.index whole (all_counted c.of-recount.result) right (c.of-recount.ensures.all ∙ same) c.file_len-lawful.ensures.lawful c.requires.names))
    c.in_err-count_entries.ensures.wrong)

pub returns-clause-wrong : goal.returns-clause-wrong
returns-clause-wrong g c =
    wrong_then c.judge_counts.result _ _
    (λ w miscount part cs whole right same tells.
    let m = c.args.component.now in
    let lawful = c.file_len-lawful.ensures.lawful in
    let u = c.in_ok-count_entries.ensures.counted part cs whole right tells (starts_right g.F.Frozen.content part c.args.older.now cs m.index whole (all_counted c.of-recount.result) right (c.of-recount.ensures.all ∙ same) lawful c.requires.names) in
    miscount_behind g.F.Frozen.content c.document_meant.ensures.read part c.args.older.now cs m whole _ _ right tells lawful u c.len.result w (c.len.ensures ∙ as_many g.F.Frozen.content c.args.older.now cs part right) miscount)
    c.judge_counts.ensures.wrong

pub returns-clause-right : goal.returns-clause-right
returns-clause-right g c =
    ok_by_both c.judge_counts.result _ _ _
    (λ counted is few part cs whole right same tells of next.
    let m = c.args.component.now in
    let lawful = c.file_len-lawful.ensures.lawful in
    let u = c.in_ok-count_entries.ensures.counted part cs whole right tells (starts_right g.F.Frozen.content part c.args.older.now cs m.index whole (all_counted c.of-recount.result) right (c.of-recount.ensures.all ∙ same) lawful c.requires.names) in
    right_behind g.F.Frozen.content c.document_meant.ensures.read part c.args.older.now cs m whole _ _ right tells lawful u (sym is.0 ∙ is.1) few.0 (subst (λ (d : Counted). documents_of d < 2 ^ 32) is.0 few.1) of next c.requires.names)
    c.judge_counts.ensures.same c.judge_counts.ensures.few

pub returns-clause-place : goal.returns-clause-place
returns-clause-place g c = let many = c.len.ensures in wrong_then c.judge_counts.result _ _ (λ w is. omega (arith, is, many)) c.judge_counts.ensures.place
