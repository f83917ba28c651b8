use Rattle.std.proofs.Common.{◌≡◌, ◌∙◌, ◌-◌, ◌/◌, refl, sym, ap, None, Some, arith}
use Rattle.tc_record.specs.Walk.{piece_at, opened}
use Rattle.tc_record.specs.WalkView.{columns_of, format_of, piece_of}
use Rattle.tc_record.specs.Moves.{token_moves}
use Rattle.tc_record.specs.Stack.{is_array, kind_of, kinds_of}
use Rattle.tc_record.proofs.Judged.{stuck_label, stuck_piece, moved_on}
use Rattle.tc_record.proofs.Stacks.{kinds_of-read}
use Rattle.tc_record.proofs.judging_numbers.passes_value.Goals as goal

pub returns-then-not-passes_label : goal.returns-then-not-passes_label
returns-then-not-passes_label c =
    let k = c.args.kinds.now in
    let f = format_of c.args.format in
    let cs = columns_of c.args.columns.now in
    ap (λ ls. token_moves f c.args.tag ls cs) (kinds_of-read k.arrays k.depth (omega arith))
    ∙ stuck_label f c.args.tag (kind_of (is_array k.arrays)) (kinds_of (k.arrays / 2) (k.depth - 1)) cs (omega arith) c.if-not-passes_label.ensures

pub returns-in-None : goal.returns-in-None
returns-in-None c =
    let k = c.args.kinds.now in
    let f = format_of c.args.format in
    let cs = columns_of c.args.columns.now in
    let none : piece_at c.args.tag (columns_of c.passes_label.new.columns) ≡ None = sym c.piece_in.ensures ∙ rw c.in-None.is refl in
    ap (λ ls. token_moves f c.args.tag ls cs) (kinds_of-read k.arrays k.depth (omega arith))
    ∙ stuck_piece f c.args.tag (kind_of (is_array k.arrays)) (kind_of (is_array k.arrays)) (kinds_of (k.arrays / 2) (k.depth - 1)) cs _ (omega arith) c.if-not-passes_label.ensures none

pub returns-in-Some : goal.returns-in-Some
returns-in-Some c =
    let k = c.args.kinds.now in
    let f = format_of c.args.format in
    let cs = columns_of c.args.columns.now in
    let innermost = kind_of (is_array k.arrays) in
    let others = kinds_of (k.arrays / 2) (k.depth - 1) in
    let piece : piece_at c.args.tag (columns_of c.passes_label.new.columns) ≡ Some (piece_of c.in-Some.piece, columns_of c.piece_in.new.columns) = sym c.piece_in.ensures ∙ rw c.in-Some.is refl in
    ap (λ ls. token_moves f c.args.tag ls cs) (kinds_of-read k.arrays k.depth (omega arith))
    ∙ moved_on f c.args.tag innermost innermost others cs _ _ _ _ _ (omega arith) c.if-not-passes_label.ensures piece
    (c.open.ensures ∙ ap (opened (piece_of c.in-Some.piece)) (kinds_of-read k.arrays k.depth (omega arith)))
