use Rattle.std.proofs.Common.{◌≡◌, ◌∙◌, ◌≤◌, ◌<◌, ◌-◌, ◌/◌, if◌then◌else◌, drop, length, refl, sym, ap, subst, None, Some, arith}
use Rattle.std.specs.List.{sum}
use Rattle.std.specs.Str.{IsAscii}
use Rattle.tc_record.specs.AsciiTexts.{uncut_of}
use Rattle.tc_record.specs.Walk.{piece_at, opened}
use Rattle.tc_record.specs.WalkView.{columns_of, format_of, numbers_of, piece_of}
use Rattle.tc_record.specs.Moves.{token_moves}
use Rattle.tc_record.specs.Stack.{is_array, kind_of, kinds_of}
use Rattle.tc_record.proofs.AsciiTexts.{text_passed, lengths_passed, none_uncut, piece_uncut, stays_open}
use Rattle.tc_record.proofs.Judged.{stuck_label, stuck_piece, moved_on}
use Rattle.tc_record.proofs.Stacks.{kinds_of-read, length-kinds_of}
use Rattle.tc_record.proofs.judging_ascii.passes_value.Goals as goal

pub returns-then-not-passes_label-clause-moves : goal.returns-then-not-passes_label-clause-moves
returns-then-not-passes_label-clause-moves c =
    let k = c.args.kinds.now in
    let f = format_of c.args.format in
    let cs = uncut_of c.args.columns.now in
    ap (λ ls. token_moves f c.args.tag ls cs) (kinds_of-read k.arrays k.depth (omega arith))
    ∙ stuck_label f c.args.tag (kind_of (is_array k.arrays)) (kinds_of (k.arrays / 2) (k.depth - 1)) cs (omega arith) c.if-not-passes_label.ensures.label

pub returns-then-tag-eq-TEXT_TAG-clause-moves : goal.returns-then-tag-eq-TEXT_TAG-clause-moves
returns-then-tag-eq-TEXT_TAG-clause-moves c =
    let k = c.args.kinds.now in
    let f = format_of c.args.format in
    let cs = uncut_of c.args.columns.now in
    let mid = c.passes_label.new.columns in
    let innermost = kind_of (is_array k.arrays) in
    let others = kinds_of (k.arrays / 2) (k.depth - 1) in
    let levels = kinds_of-read k.arrays k.depth (omega arith) in
    let ascii : IsAscii mid.texts.now = subst (λ t. IsAscii t.now) (sym c.passes_label.ensures.texts) c.requires.ascii in
    let within : sum (numbers_of mid.lengths) ≤ length mid.texts.now = rw (c.passes_label.ensures.lengths, c.passes_label.ensures.texts) c.requires.within in
    let passed = uncut_of record { fixed = mid.fixed; lengths = c.passes.new.self; texts = mid.texts; slots = mid.slots; names = mid.names } in
    ap (λ ls. token_moves f c.args.tag ls cs) levels
    ∙ text_passed f c.args.tag innermost innermost others cs (columns_of mid) (numbers_of mid.lengths) (numbers_of c.passes.new.self) mid.texts.now c.passes.result (omega arith) c.if-not-passes_label.ensures.label ascii within c.passes.ensures
    ∙ ap (λ ls. if c.passes.result then Some (ls, passed) else None) (sym levels)

pub returns-then-tag-eq-TEXT_TAG-clause-within : goal.returns-then-tag-eq-TEXT_TAG-clause-within
returns-then-tag-eq-TEXT_TAG-clause-within c is =
    let mid = c.passes_label.new.columns in
    let within : sum (numbers_of mid.lengths) ≤ length mid.texts.now = rw (c.passes_label.ensures.lengths, c.passes_label.ensures.texts) c.requires.within in
    lengths_passed (numbers_of mid.lengths) (numbers_of c.passes.new.self) c.passes.result (length mid.texts.now) within c.passes.ensures is

pub returns-in-None-clause-moves : goal.returns-in-None-clause-moves
returns-in-None-clause-moves c =
    let k = c.args.kinds.now in
    let f = format_of c.args.format in
    let cs = uncut_of c.args.columns.now in
    let mid = c.passes_label.new.columns in
    let innermost = kind_of (is_array k.arrays) in
    let others = kinds_of (k.arrays / 2) (k.depth - 1) in
    let texts = drop (length mid.texts.now - sum (numbers_of mid.lengths)) mid.texts.now in
    let none : piece_at c.args.tag (columns_of mid) ≡ None = sym c.piece_in.ensures ∙ rw c.in-None.is refl in
    ap (λ ls. token_moves f c.args.tag ls cs) (kinds_of-read k.arrays k.depth (omega arith))
    ∙ stuck_piece f c.args.tag innermost innermost others cs (uncut_of mid) (omega arith) c.if-not-passes_label.ensures.label (none_uncut c.args.tag texts (columns_of mid) (omega arith) none)

pub returns-in-Some-clause-moves : goal.returns-in-Some-clause-moves
returns-in-Some-clause-moves c =
    let k = c.args.kinds.now in
    let f = format_of c.args.format in
    let cs = uncut_of c.args.columns.now in
    let mid = c.passes_label.new.columns in
    let new = c.piece_in.new.columns in
    let p = piece_of c.in-Some.piece in
    let innermost = kind_of (is_array k.arrays) in
    let others = kinds_of (k.arrays / 2) (k.depth - 1) in
    let texts = drop (length mid.texts.now - sum (numbers_of mid.lengths)) mid.texts.now in
    let piece : piece_at c.args.tag (columns_of mid) ≡ Some (p, columns_of new) = sym c.piece_in.ensures ∙ rw c.in-Some.is refl in
    let kept = piece_uncut c.args.tag texts (columns_of mid) (columns_of new) p (omega arith) piece in
    let same : record (columns_of new) { texts = texts } ≡ uncut_of new = rw (kept.1, kept.2) refl in
    ap (λ ls. token_moves f c.args.tag ls cs) (kinds_of-read k.arrays k.depth (omega arith))
    ∙ moved_on f c.args.tag innermost innermost others cs (uncut_of mid) (uncut_of new) p c.open.result _ (omega arith) c.if-not-passes_label.ensures.label (kept.0 ∙ ap (λ x. Some (p, x)) same)
    (c.open.ensures ∙ ap (opened p) (kinds_of-read k.arrays k.depth (omega arith)))

pub returns-in-Some-clause-inside : goal.returns-in-Some-clause-inside
returns-in-Some-clause-inside c is =
    let k = c.args.kinds.now in
    let new = c.open.new.self in
    let some : 0 < length (kinds_of k.arrays k.depth) = omega (arith, length-kinds_of k.arrays k.depth, c.requires.inside) in
    omega (arith, length-kinds_of new.arrays new.depth, stays_open (piece_of c.in-Some.piece) (kinds_of k.arrays k.depth) (kinds_of new.arrays new.depth) c.open.result c.open.ensures is some)
