use Rattle.tc_record.specs.WalkView.{columns_of, format_of}
use Rattle.tc_record.proofs.TokensPassed.{known_by_moves}
use Rattle.tc_record.proofs.passing.passes_value_in.Goals as goal

pub returns-then-not-walk-clause-moves : goal.returns-then-not-walk-clause-moves
returns-then-not-walk-clause-moves c =
    let old = c.args.walk.now in
    let new = c.passes_value.new in
    known_by_moves (format_of old.format) c.args.tag old.kinds.arrays old.kinds.depth new.kinds.arrays new.kinds.depth (columns_of old.columns) (columns_of new.columns) c.passes_value.result c.passes_value.ensures
