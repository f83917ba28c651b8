use Rattle.std.proofs.Common.{◌≡◌, ◌∙◌, ◌-◌, refl, sym, ap, None, Some, get_or, arith}
use Rattle.tc_record.specs.Walk.{piece_at, opened}
use Rattle.tc_record.specs.WalkView.{columns_of, level_of, format_of, piece_of}
use Rattle.tc_record.specs.Moves.{label_moves, token_moves}
use Rattle.tc_record.specs.Stack.{stack_of}
use Rattle.tc_record.specs.declared.reader.Level.TheVariants as level
use Rattle.tc_record.proofs.Judged.{stuck_label, stuck_piece, moved_on}
use Rattle.tc_record.proofs.Stacks.{stack_of-read, stack_of-behind}
use Rattle.tc_record.proofs.judging.passes.Goals as goal

pub returns-in-None : goal.returns-in-None
returns-in-None c =
    let s = c.args.nesting.now in
    let f = format_of c.args.format in
    let cs = columns_of c.args.columns.now in
    let innermost = level_of (get_or s.levels (s.depth - 1) level.Array) in
    let none : label_moves f innermost cs ≡ None = c.level_behind.ensures ∙ rw c.in-None.is refl in
    ap (λ ls. token_moves f c.args.tag ls cs) (stack_of-read s.levels s.depth (omega arith)) ∙ stuck_label f c.args.tag innermost (stack_of s.levels (s.depth - 1)) cs (omega arith) none

pub returns-in-None-piece_in : goal.returns-in-None-piece_in
returns-in-None-piece_in c =
    let s = c.args.nesting.now in
    let f = format_of c.args.format in
    let cs = columns_of c.args.columns.now in
    let innermost = level_of (get_or s.levels (s.depth - 1) level.Array) in
    let behind : label_moves f innermost cs ≡ Some (level_of c.in-Some.behind, columns_of c.level_behind.new.columns) = c.level_behind.ensures ∙ rw c.in-Some.is refl in
    let none : piece_at c.args.tag (columns_of c.level_behind.new.columns) ≡ None = sym c.piece_in.ensures ∙ rw c.in-None-piece_in.is refl in
    ap (λ ls. token_moves f c.args.tag ls cs) (stack_of-read s.levels s.depth (omega arith)) ∙ stuck_piece f c.args.tag innermost (level_of c.in-Some.behind) (stack_of s.levels (s.depth - 1)) cs _ (omega arith) behind none

pub returns-in-Some-piece_in : goal.returns-in-Some-piece_in
returns-in-Some-piece_in c =
    let s = c.args.nesting.now in
    let f = format_of c.args.format in
    let cs = columns_of c.args.columns.now in
    let innermost = level_of (get_or s.levels (s.depth - 1) level.Array) in
    let behind : label_moves f innermost cs ≡ Some (level_of c.in-Some.behind, columns_of c.level_behind.new.columns) = c.level_behind.ensures ∙ rw c.in-Some.is refl in
    let read : piece_at c.args.tag (columns_of c.level_behind.new.columns) ≡ Some (piece_of c.in-Some-piece_in.piece, columns_of c.piece_in.new.columns) = sym c.piece_in.ensures ∙ rw c.in-Some-piece_in.is refl in
    ap (λ ls. token_moves f c.args.tag ls cs) (stack_of-read s.levels s.depth (omega arith))
    ∙ moved_on f c.args.tag innermost (level_of c.in-Some.behind) (stack_of s.levels (s.depth - 1)) cs _ _ _ _ _ (omega arith) behind read
    (c.open.ensures ∙ ap (opened (piece_of c.in-Some-piece_in.piece)) (stack_of-behind s.levels s.depth c.in-Some.behind (omega arith) (omega arith)))
