use Rattle.std.proofs.Common.{◌<◌, ◌^◌, ◌↔◌, List, [], length, subst, sym}
use Rattle.std.specs.Prelude.{IsTrue}
use Rattle.tc_model.specs.Document.{Name}
use Rattle.tc_model.proofs.KeyedOrder.{sorted_nil}
use Rattle.tc_memory.specs.DocumentTables.{IsTableOf}
use Rattle.tc_lsm_model.specs.Tables.{table_over}
use Rattle.tc_machine.specs.Logs.{all_writes}
use Rattle.tc_check.proofs.NamedLogs.{names_of_logs}
use Rattle.tc_check.proofs.naming.names_fit_behind.Goals as goal

pub returns : goal.returns
returns c = λ kept same storable.
    let ws = all_writes kept in
    let names = names_of_logs c.flushes_learn_names.ensures.documents c.tables_show_writes.ensures.shown c.tables_show_writes.ensures.ascends sorted_nil c.args.names.now ws in
    let of = subst (IsTableOf (table_over [] ws)) (sym c.seal-sealed.ensures.same) (c.in_ok-table.ensures kept same storable) in
    subst (λ (taken : List Name). IsTrue c.in_ok-fit.fit ↔ (length taken < 2 ^ 32)) names (c.in_ok-fit.ensures (table_over [] ws) of)
