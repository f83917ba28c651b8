use Rattle.std.proofs.Common.{◌≡◌, ◌∙◌, refl, sym, ap, None, Some, option_map, arith}
use Rattle.tc_record.specs.Preorder.{token, closed}
use Rattle.tc_record.specs.Walk.{label_at, piece_at, without_last}
use Rattle.tc_record.specs.WalkView.{key_of, columns_of, format_of, piece_of}
use Rattle.tc_record.specs.Stack.{is_array, kind_of}
use Rattle.tc_record.proofs.KnownWalks.{closed_known, no_label_known, no_piece_known, token_known}
use Rattle.tc_record.proofs.walking.token_in.Goals as goal

pub returns-then-tag-eq-CLOSE_TAG : goal.returns-then-tag-eq-CLOSE_TAG
returns-then-tag-eq-CLOSE_TAG c = sym (closed_known (format_of c.args.format) c.args.tag c.args.kinds.now.arrays c.args.kinds.now.depth (columns_of c.args.columns.now) (omega arith) (omega arith) ∙ ap (λ ls. Some (token None closed, ls, columns_of c.args.columns.now)) (sym c.close.ensures))

pub returns-in_err-label : goal.returns-in_err-label
returns-in_err-label c =
    let k = c.args.kinds.now in
    let none : option_map without_last (label_at (format_of c.args.format) (kind_of (is_array k.arrays)) (columns_of c.args.columns.now)) ≡ None = sym c.label_in.ensures ∙ rw c.in_err-label.was refl in
    rw c.from_residual.ensures (sym (no_label_known (format_of c.args.format) c.args.tag k.arrays k.depth (columns_of c.args.columns.now) (omega arith) (omega arith) none))

pub returns-in_err-value : goal.returns-in_err-value
returns-in_err-value c =
    let k = c.args.kinds.now in
    let labels : option_map without_last (label_at (format_of c.args.format) (kind_of (is_array k.arrays)) (columns_of c.args.columns.now)) ≡ Some (key_of c.in_ok-label.label, kind_of (is_array k.arrays), columns_of c.label_in.new.columns) = sym c.label_in.ensures ∙ rw c.in_ok-label.was refl in
    let none : piece_at c.args.tag (columns_of c.label_in.new.columns) ≡ None = sym c.piece_in.ensures ∙ rw c.in_err-value.was refl in
    rw c.from_residual-in_err-value.ensures (sym (no_piece_known (format_of c.args.format) c.args.tag k.arrays k.depth (columns_of c.args.columns.now) _ _ _ (omega arith) (omega arith) labels none))

pub returns-then-open : goal.returns-then-open
returns-then-open c =
    let k = c.args.kinds.now in
    let labels : option_map without_last (label_at (format_of c.args.format) (kind_of (is_array k.arrays)) (columns_of c.args.columns.now)) ≡ Some (key_of c.in_ok-label.label, kind_of (is_array k.arrays), columns_of c.label_in.new.columns) = sym c.label_in.ensures ∙ rw c.in_ok-label.was refl in
    let read : piece_at c.args.tag (columns_of c.label_in.new.columns) ≡ Some (piece_of c.in_ok-value.value, columns_of c.piece_in.new.columns) = sym c.piece_in.ensures ∙ rw c.in_ok-value.was refl in
    sym (token_known (format_of c.args.format) c.args.tag k.arrays k.depth (columns_of c.args.columns.now) _ _ _ _ _ _ (omega arith) (omega arith) labels read c.open.ensures ∙ rw c.if-open.true refl)

pub returns-else-open : goal.returns-else-open
returns-else-open c =
    let k = c.args.kinds.now in
    let labels : option_map without_last (label_at (format_of c.args.format) (kind_of (is_array k.arrays)) (columns_of c.args.columns.now)) ≡ Some (key_of c.in_ok-label.label, kind_of (is_array k.arrays), columns_of c.label_in.new.columns) = sym c.label_in.ensures ∙ rw c.in_ok-label.was refl in
    let read : piece_at c.args.tag (columns_of c.label_in.new.columns) ≡ Some (piece_of c.in_ok-value.value, columns_of c.piece_in.new.columns) = sym c.piece_in.ensures ∙ rw c.in_ok-value.was refl in
    sym (token_known (format_of c.args.format) c.args.tag k.arrays k.depth (columns_of c.args.columns.now) _ _ _ _ _ _ (omega arith) (omega arith) labels read c.open.ensures ∙ rw c.if-open.false refl)
