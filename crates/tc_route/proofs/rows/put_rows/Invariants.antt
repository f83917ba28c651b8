use Rattle.std.proofs.Common.{◌≡◌, map}
use Rattle.std.specs.Prelude.{fold}
use Rattle.tc_model.specs.Keyed.{on_value}
use Rattle.tc_command.specs.Rows.{row_of}
use Rattle.tc_route.specs.Gathered.{with_text}
use Rattle.tc_route.proofs.rows.put_rows.Given as goal

abbrev pub invariant-loop-row : goal.invariant-loop-row
invariant-loop-row l = map (on_value row_of) l.all.entries ≡ fold with_text (map (on_value row_of) l.initial.all.entries) (map row_of l.yielded)
