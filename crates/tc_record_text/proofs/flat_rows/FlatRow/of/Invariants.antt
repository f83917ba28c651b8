use Rattle.tc_record_text.proofs.RowLabels.{AreGathered}
use Rattle.tc_record_text.proofs.flat_rows.FlatRow.of.Given as goal

abbrev pub invariant-loop-place : goal.invariant-loop-place
invariant-loop-place l = AreGathered l.names l.start l.walk l.labels.items l.place
