use Rattle.std.proofs.Common.{◌∙◌, [], Err, inr, sym, ap, subst}
use Rattle.std.specs.Arc.{arc_value}
use Rattle.std.proofs.lemmas.Result.{err_from_is_err_and}
use Rattle.tc_schema_model.specs.Counted.{nothing}
use Rattle.tc_component.specs.Rows.{part_of}
use Rattle.tc_flush.specs.Counting.{IsCounted}
use Rattle.tc_merge.specs.Merging.{newest_names, newest_schema}
use Rattle.tc_lsm_model.specs.Lists.{live, names_of}
use Rattle.tc_lsm_model.specs.Tables.{table_over}
use Rattle.tc_memory.specs.DocumentTables.{IsTableOf}
use Rattle.tc_memory.specs.Table.{IsTable}
use Rattle.tc_machine.specs.Logs.{all_writes}
use Rattle.tc_open.specs.FlushedLogs.{IsBeginDamage}
use Rattle.tc_open.specs.LastWrites.{written_in, HoldsLast}
use Rattle.tc_open.proofs.CountedLogs.{all_counted, told_twice, counted_sound, no_logs}
use Rattle.tc_open.proofs.FlushedLogs.{indices}
use Rattle.tc_open.proofs.UnharmedReads.{sound_reads}
use Rattle.tc_open.proofs.flushing_logs.begin_flush.Goals as goal

pub returns-clause-table : goal.returns-clause-table
returns-clause-table g c = λ part cs ws is_list loaded same storable.
    subst (λ kept. IsTableOf (table_over (live cs) (all_writes ws)) kept) (sym (c.in_ok-inputs.ensures.table ∙ c.in_ok-sealed.ensures.ok ∙ c.seal.ensures.same)) (c.in_ok-table.ensures.table part cs ws is_list loaded same storable)

pub returns-in_err-table-clause-undamaged : goal.returns-in_err-table-clause-undamaged
returns-in_err-table-clause-undamaged g c = λ cs ws is loaded same.
    let p = err_from_is_err_and c.from_residual.result c.from_residual.ensures.1 in
    sound_reads (λ file. g.S.Frozen.Frozen.content file) c.components_are_contents.ensures.found c.components_are_contents.ensures.fetched c.args.list.now cs c.from_residual.result c.in_err-table.field-0.0 (p.1 ∙ ap Err p.2) loaded c.in_err-table.ensures.harmed

pub returns-in_err-inputs-clause-undamaged : goal.returns-in_err-inputs-clause-undamaged
returns-in_err-inputs-clause-undamaged g c = λ cs ws is loaded same.
    let content = g.S.Frozen.Frozen.content in
    let list = c.args.list.now in
    let kept = arc_value c.in_ok-sealed.sealed in
    let sealed = c.in_ok-sealed.ensures.ok ∙ c.seal.ensures.same in
    let p = err_from_is_err_and c.from_residual-in_err-inputs.result c.from_residual-in_err-inputs.ensures.1 in
    let each = indices (λ file. content file) list cs loaded in
    let lawful = subst (λ t. IsTable t) (sym sealed) c.len-entries.ensures.table in
    let passes = all_counted (λ file. content file) c.lists_are_counted.ensures (part_of c.args.head) list cs ws (g.S.Store.history c.args.store.now) kept (no_logs c.args.logs.now ws c.requires.some same) is loaded lawful
    (λ storable. subst (λ t. IsTableOf (table_over (live cs) (all_writes ws)) t) (sym sealed) (c.in_ok-table.ensures.table (part_of c.args.head) cs ws is.memory.list loaded same storable)) in
    counted_sound c.from_residual-in_err-inputs.result c.inputs_over.result c.in_err-inputs.field-0.0 (IsCounted (newest_names [] list) (newest_schema nothing list) kept) (p.1 ∙ ap Err p.2) c.in_err-inputs.was c.inputs_over.ensures.uncounted
    (subst (λ ns. IsCounted ns (newest_schema nothing list) kept) (sym (c.inputs_are_newest.ensures.names list cs each)) (subst (λ s. IsCounted (names_of cs) s kept) (sym (c.inputs_are_newest.ensures.schema list cs each)) passes))

pub returns-in_err-inputs-clause-damaged : goal.returns-in_err-inputs-clause-damaged
returns-in_err-inputs-clause-damaged g c =
    let list = c.args.list.now in
    let logs = c.args.logs.now in
    let sealed = c.in_ok-sealed.ensures.ok ∙ c.seal.ensures.same in
    let p = err_from_is_err_and c.from_residual-in_err-inputs.result c.from_residual-in_err-inputs.ensures.1 in
    told_twice c.from_residual-in_err-inputs.result c.inputs_over.result c.in_err-inputs.field-0.0 _ _ (IsBeginDamage (λ file. g.S.Frozen.Frozen.content file) c.args.head logs list) (p.1 ∙ ap Err p.2) c.in_err-inputs.was
    c.inputs_over.ensures.damaged c.inputs_over.ensures.uncounted (λ damage files uncounted. inr (record {
      files = files;
      table = arc_value c.in_ok-sealed.sealed;
      holds = subst (λ t. HoldsLast list (written_in logs) t) (sym sealed) c.in_ok-table.ensures.last;
      uncounted = uncounted;
    }))
