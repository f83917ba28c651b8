use Rattle.std.proofs.Common.{◌≡◌, ◌∙◌, [], map, sym, ap, subst}
use Rattle.std.specs.Arc.{arc_value}
use Rattle.tc_store.specs.DiskFile.{settled_file}
use Rattle.tc_store.specs.Gate.{IsClosedOrWhole}
use Rattle.tc_store.specs.Moments.{IfTold, LeavesOnly}
use Rattle.tc_schema_model.specs.Counted.{nothing}
use Rattle.tc_component.specs.Spelling.{file_bytes}
use Rattle.tc_merge.specs.Merging.{newest_names, newest_schema}
use Rattle.tc_merge.proofs.LastOfRun.{last_bytes}
use Rattle.tc_merge.proofs.writing.finish.Goals as goal

pub returns-in-Ok-clause-whole : goal.returns-in-Ok-clause-whole
returns-in-Ok-clause-whole g c = λ rows has.
    let h = g.D.Device.history in
    let names = ap (λ k. k.index.names) c.deref.ensures in
    let schema = ap (λ k. k.index.schema) c.deref.ensures in
    let bytes = last_bytes arc_value c.args.run.now c.index-run-run.result c.args.builder.head rows c.deref.result.now.index.names c.deref.result.now.index.schema c.requires.some c.index-run-run.is names schema in
    subst (λ b. IfTold (h c.in-Ok.written) (λ f. f ≡ settled_file b)) bytes (c.in-Ok.ensures.whole rows has)

pub returns-in-Ok-clause-moments : goal.returns-in-Ok-clause-moments
returns-in-Ok-clause-moments g c = λ rows has.
    let h = g.D.Device.history in
    let names = ap (λ k. k.index.names) c.deref.ensures in
    let schema = ap (λ k. k.index.schema) c.deref.ensures in
    let bytes = last_bytes arc_value c.args.run.now c.index-run-run.result c.args.builder.head rows c.deref.result.now.index.names c.deref.result.now.index.schema c.requires.some c.index-run-run.is names schema in
    subst (λ b. LeavesOnly (IsClosedOrWhole b) (h c.args.builder.device) (h c.in-Ok.written)) bytes (c.in-Ok.ensures.moments rows has)

pub returns-in-Err-clause-failed_moments : goal.returns-in-Err-clause-failed_moments
returns-in-Err-clause-failed_moments g c = λ rows has.
    let h = g.D.Device.history in
    let names = ap (λ k. k.index.names) c.deref.ensures in
    let schema = ap (λ k. k.index.schema) c.deref.ensures in
    let bytes = last_bytes arc_value c.args.run.now c.index-run-run.result c.args.builder.head rows c.deref.result.now.index.names c.deref.result.now.index.schema c.requires.some c.index-run-run.is names schema in
    subst (λ d. LeavesOnly (IsClosedOrWhole (file_bytes c.args.builder.head rows (newest_names [] (map arc_value c.args.run.now)) (newest_schema nothing (map arc_value c.args.run.now)))) (h c.args.builder.device) (h d)) (sym c.not_written.ensures.device)
    (subst (λ b. LeavesOnly (IsClosedOrWhole b) (h c.args.builder.device) (h c.in-Err.broken.device)) bytes (c.in-Err.ensures.broken_moments rows has))
