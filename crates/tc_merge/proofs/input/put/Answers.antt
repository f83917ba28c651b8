use Rattle.std.proofs.Common.{◌≤◌, ◌+◌, ◌<◌, sym, length, ◌++◌, ◌∷◌, [], subst, arith}
use Rattle.std.specs.Prelude.{IfSome}
use Rattle.std.proofs.lemmas.Result.{on_ok_weaker}
use Rattle.tc_component.specs.Building.{HasRows}
use Rattle.tc_component.specs.Fetching.{IsRecordWithin}
use Rattle.tc_component.specs.Spelling.{Row, written_version}
use Rattle.tc_merge.specs.Merging.{kept}
use Rattle.tc_merge.proofs.EntryRows.{gone_row, live_judged, live_one, live_put}
use Rattle.tc_merge.proofs.input.put.Goals as goal

pub returns-then-entry-eq0-clause-pushed : goal.returns-then-entry-eq0-clause-pushed
returns-then-entry-eq0-clause-pushed g c =
    let m = c.args.input.now.component in
    let new = c.put_gone.new.builder in
    let h = g.S.Device.Device.history in
    on_ok_weaker c.put_gone.result
    (λ pushed at row left rows is told ahead has.
    subst (λ r. HasRows (h new.device) new (rows ++ kept c.args.from (r ∷ []))) (gone_row (λ file. g.S.Frozen.Frozen.content file) m at c.args.entry row left is c.if-entry-eq0.true ahead) (pushed rows has))
    c.put_gone.ensures.pushed

pub returns-then-entry-eq0-clause-judged : goal.returns-then-entry-eq0-clause-judged
returns-then-entry-eq0-clause-judged g c =
    let m = c.args.input.now.component in
    on_ok_weaker c.put_gone.result
    (λ pushed at row left is told ahead.
    subst (λ (r : Row). IfSome r.1 (λ bytes. IsRecordWithin written_version (length m.index.names) bytes)) (gone_row (λ file. g.S.Frozen.Frozen.content file) m at c.args.entry row left is c.if-entry-eq0.true ahead) tt)
    c.put_gone.ensures.pushed

pub returns-else-entry-eq0-clause-pushed : goal.returns-else-entry-eq0-clause-pushed
returns-else-entry-eq0-clause-pushed g c =
    let m = c.args.input.now.component in
    let new = c.put_live.new.builder in
    let h = g.S.Device.Device.history in
    let live : 0 < c.args.entry.count = let other = c.if-entry-eq0.false in omega (arith, other) in
    on_ok_weaker c.put_live.result
    (λ pushed at row left rows is told ahead has.
    live_put (λ file. g.S.Frozen.Frozen.content file) m at c.args.entry c.args.from row left (λ more. HasRows (h new.device) new (rows ++ more)) is live told ahead (pushed rows has))
    c.put_live.ensures.pushed

pub returns-else-entry-eq0-clause-judged : goal.returns-else-entry-eq0-clause-judged
returns-else-entry-eq0-clause-judged g c =
    let m = c.args.input.now.component in
    let live : 0 < c.args.entry.count = let other = c.if-entry-eq0.false in omega (arith, other) in
    on_ok_weaker c.put_live.result
    (λ judged at row left is told ahead. live_judged (λ file. g.S.Frozen.Frozen.content file) m at c.args.entry row left (λ bytes. IsRecordWithin written_version (length m.index.names) bytes) is live told ahead judged)
    c.put_live.ensures.judged

pub returns-else-entry-eq0-clause-reads : goal.returns-else-entry-eq0-clause-reads
returns-else-entry-eq0-clause-reads g c = λ at row left is ahead.
    let m = c.args.input.now.component in
    let live : 0 < c.args.entry.count = let other = c.if-entry-eq0.false in omega (arith, other) in
    subst (λ n. (g.S.Watch.Watch.counts c.put_live.new.watch).reads ≤ (g.S.Watch.Watch.counts c.args.watch.now).reads + n) (sym (live_one (λ file. g.S.Frozen.Frozen.content file) m at c.args.entry row left is live ahead)) c.put_live.ensures.reads
