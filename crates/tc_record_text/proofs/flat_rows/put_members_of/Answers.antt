use Rattle.std.proofs.Common.{◌≡◌, ◌∙◌, ◌<◌, ◌≤◌, ℕ, List, ◌++◌, length, get_or, take, drop, map, sym, ap, arith, length-take-le}
use Rattle.std.proofs.lemmas.List.{drop_all, get_or-map, get_or-take, length-map}
use Rattle.std.proofs.lemmas.Result.{on_ok_weaker}
use Rattle.tc_record.specs.declared.token.Piece.{Piece}
use Rattle.tc_record.specs.WalkView.{piece_of}
use Rattle.tc_record_text.specs.FlatTexts.{row_text}
use Rattle.tc_record_text.specs.FlatRows.{label_in}
use Rattle.tc_record_text.proofs.StagedTexts.{member_put}
use Rattle.tc_record_text.proofs.flat_rows.put_members_of.Goals as goal

piece_there : (xs : List Piece) (n i : ℕ) (d : Piece) → i < n → n ≤ length xs → get_or (map piece_of (take n xs)) i (piece_of (get_or xs i d)) ≡ piece_of (get_or xs i d)
piece_there xs n i d within fits = get_or-map piece_of (take n xs) i d (piece_of (get_or xs i d)) (omega (arith, within, length-take-le n xs fits)) ∙ ap piece_of (get_or-take n xs i d within)

pub loop-place-preserved : goal.loop-place-preserved
loop-place-preserved c = λ scalars are.
    let labels = c.args.labels.now in
    let values = c.args.values.now in
    let i = c.loop-place.place in
    let short = c.index-labels-place.result in
    let within : i < length labels = c.loop-place-test.true in
    member_put (map label_in labels) scalars (map piece_of (take (length labels) values)) i (label_in short) _
    c.loop-place.out.items c.loop-place.staged c.put_short.new.out.items c.put_short.new.self c.put_scalar.new.out.items c.put_scalar.new.self _
    are (omega (arith, within, length-map (take (length labels) values) piece_of, length-take-le (length labels) values c.requires)) (omega (arith, within, length-map labels label_in))
    (get_or-map label_in labels i short (label_in short) within ∙ ap label_in (sym c.index-labels-place.is)) (piece_there values (length labels) i _ within c.requires)
    c.in_ok-put_short.ensures c.in_ok-put_scalar.ensures (c.loop-place.invariant scalars are)

pub returns : goal.returns
returns c =
    let labels = map label_in c.args.labels.now in
    let i = c.loop-place.place in
    on_ok_weaker c.put_byte.result
    (λ e scalars are. e
    ∙ ap (λ ls. c.loop-place.out.items ++ (c.loop-place.staged ++ row_text ls (drop i scalars))) (sym (drop_all i labels (omega (arith, c.loop-place-test.false, length-map c.args.labels.now label_in))))
    ∙ c.loop-place.invariant scalars are)
    c.put_byte.ensures
