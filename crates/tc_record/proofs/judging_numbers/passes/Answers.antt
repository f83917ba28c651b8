use Rattle.std.proofs.Common.{◌∙◌, ◌-◌, ◌/◌, sym, ap, Some, arith}
use Rattle.tc_record.specs.WalkView.{columns_of, format_of}
use Rattle.tc_record.specs.Moves.{token_moves}
use Rattle.tc_record.specs.Stack.{is_array, kind_of, kinds_of}
use Rattle.tc_record.proofs.Judged.{closed_on}
use Rattle.tc_record.proofs.Stacks.{kinds_of-read}
use Rattle.tc_record.proofs.judging_numbers.passes.Goals as goal

pub returns-then-tag-eq-CLOSE_TAG : goal.returns-then-tag-eq-CLOSE_TAG
returns-then-tag-eq-CLOSE_TAG c =
    let k = c.args.kinds.now in
    let f = format_of c.args.format in
    let cs = columns_of c.args.columns.now in
    ap (λ ls. token_moves f c.args.tag ls cs) (kinds_of-read k.arrays k.depth (omega arith))
    ∙ closed_on f c.args.tag (kind_of (is_array k.arrays)) (kinds_of (k.arrays / 2) (k.depth - 1)) cs (omega arith)
    ∙ ap (λ ls. Some (ls, cs)) (sym c.close.ensures)
