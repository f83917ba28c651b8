use Rattle.std.proofs.Common.{[], ◌∷◌, sym, subst}
use Rattle.std.proofs.lemmas.Result.{on_ok_weaker}
use Rattle.tc_check.specs.Naming.{PutsIn}
use Rattle.tc_check.proofs.NamedLogs.{delete_puts, upsert_puts}
use Rattle.tc_check.proofs.naming.put_write.Goals as goal

pub returns-in-Upsert : goal.returns-in-Upsert
returns-in-Upsert c = on_ok_weaker c.upsert.result
    (λ made. subst (λ w. PutsIn (w ∷ []) c.args.table.now c.upsert.new.self) (sym c.in-Upsert.is) (upsert_puts c.calls_are_writes.ensures.upserted c.in-Upsert.key c.in-Upsert.bytes c.args.table.now c.upsert.new.self made)) c.upsert.ensures.ok

pub returns-in-Delete : goal.returns-in-Delete
returns-in-Delete c = on_ok_weaker c.delete.result
    (λ made. subst (λ w. PutsIn (w ∷ []) c.args.table.now c.delete.new.self) (sym c.in-Delete.is) (delete_puts c.calls_are_writes.ensures.deleted c.in-Delete.key c.args.table.now c.delete.new.self made)) c.delete.ensures.ok
