use Rattle.std.proofs.Common.{◌+◌, true, map, take, drop}
use Rattle.tc_record.specs.Held.{tokens_left}
use Rattle.tc_record.specs.WalkView.{piece_of}
use Rattle.tc_record.proofs.FlatRows.{HasBegun}
use Rattle.tc_record.proofs.flat_rows.row_taken.Given as goal

abbrev pub invariant-loop-place : goal.invariant-loop-place
invariant-loop-place l = HasBegun (map piece_of (take l.place l.room)) (tokens_left true (drop (l.place + 1) l.left) l.here) (tokens_left true l.fn.left l.fn.walk)
