use Rattle.std.proofs.Common.{◌∙◌, ap, sym, map}
use Rattle.tc_model.specs.Keyed.{on_value}
use Rattle.tc_model.proofs.KeyedMaps.{map-insert_entry}
use Rattle.tc_command.specs.Rows.{row_of}
use Rattle.tc_route.specs.Gathered.{with_text}
use Rattle.tc_route.proofs.RepliesPut.{fold_more}
use Rattle.tc_route.proofs.rows.put_rows.Goals as goal

pub loop-row-preserved : goal.loop-row-preserved
loop-row-preserved c =
    let row = c.in-Some.row in
    ap (map (on_value row_of)) c.in_ok-insert.ensures.entries
    ∙ map-insert_entry row_of row.id row c.loop-row.all.entries
    ∙ ap (λ all. with_text all (row_of row)) c.loop-row.invariant
    ∙ sym (fold_more with_text row_of (map (on_value row_of) c.args.all.now.entries) c.loop-row.yielded row)
