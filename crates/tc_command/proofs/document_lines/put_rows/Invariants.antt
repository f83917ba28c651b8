use Rattle.std.proofs.Common.{◌≡◌, ◌++◌, map, drop}
use Rattle.tc_request_model.specs.Rendered.{texts_listed, rows_array}
use Rattle.tc_command.specs.Rows.{row_of}
use Rattle.tc_command.proofs.document_lines.put_rows.Given as goal

abbrev pub invariant-loop-row : goal.invariant-loop-row
invariant-loop-row l = l.out.items ++ texts_listed l.later (map (λ t. t.text) (map row_of (drop l.row-index l.rows))) ≡ l.fn.out.items ++ rows_array (map row_of l.rows)
